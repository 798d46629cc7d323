use Rattle.std.proofs.Common.{refl, ap, ◌∙◌}
use Rattle.cj_board.specs.Seats.{front}
use Rattle.cj_place.specs.Layouts.{placement_of, Layout}
use Rattle.cj_return_path.proofs.Dumping.{part_at_end}
use Rattle.cj_return_path.proofs.dump.read_dump.Goals as goal

pub returns-in-Ok-clause-reads : goal.returns-in-Ok-clause-reads
returns-in-Ok-clause-reads g c m begins is = record {
  position = is;
  source = refl;
  named = c.copy.ensures;
  all = c.all.ensures ∙ ap (λ (l : Layout). l.full) c.args.locks.now.laid;
  covers = c.requires.covers;
  db = λ on. part_at_end m (front c.contents_at.new.pass.seat) begins c.args.n is (placement_of g.J.Naming.layout) c.args.b c.in-Ok.db (c.in-Ok.ensures.gives.2 on);
  storable = c.in-Ok.ensures.gives.0;
}
