use Rattle.std.proofs.Common.{◌≡◌, true}
use Rattle.std.specs.List.{flat_map, range_with_len}
use Rattle.cj_model.specs.Sql.Names.{IsText}
use Rattle.cj_board.specs.Seats.{front, pass_view}
use Rattle.cj_place.specs.Layouts.{placement_of}
use Rattle.cj_pass.specs.Passes.{HasNotedMore}
use Rattle.cj_administration.specs.Auditing.{audit_lines_at}
use Rattle.cj_administration.proofs.audits.audit_each.Given as goal

abbrev pub invariant-loop-b : goal.invariant-loop-b
invariant-loop-b g l =
    record {
      more : HasNotedMore (pass_view l.fn.pass.seat) (pass_view l.pass.seat);
      text : IsText l.text.items;
      lines : g.B.Backend.tells ≡ true → l.text.items ≡ flat_map (audit_lines_at g.J.Naming.layout.names (placement_of g.J.Naming.layout) (front l.fn.pass.seat)) (range_with_len 0 l.b);
    }
