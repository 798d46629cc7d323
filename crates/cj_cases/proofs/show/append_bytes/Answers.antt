use Rattle.std.proofs.Common.{arith}
use Rattle.std.specs.Option.{option_copied}
use Rattle.cj_cases.proofs.ShownPieces.{shown_more}
use Rattle.cj_cases.proofs.show.append_bytes.Goals as goal

pub loop-at-preserved : goal.loop-at-preserved
loop-at-preserved c = record {
  within = omega arith;
  shown =
      shown_more (option_copied c.args.line_tag) c.args.part_tag.now c.args.bytes.now c.split_at.result.1.now
      c.split_at-in-loop-at.result.0.now c.args.text.now.items c.loop-at.text.items c.append_piece.new.text.items
      c.loop-at.at
      c.piece_size-size.result c.split_at.ensures.back c.split_at-in-loop-at.ensures.front c.loop-at.invariant.shown
      c.in_ok-append_piece.ensures;
}
