use Rattle.std.proofs.Common.{◌≡◌, [], slice_index_or}
use Rattle.std.specs.List.{flat_map, range_with_len}
use Rattle.cj_model.specs.Cluster.Masks.{in_mask}
use Rattle.cj_model.specs.Sql.Names.{IsText}
use Rattle.cj_administration.specs.Showing.{backend_line, no_look}
use Rattle.cj_administration.proofs.show.lines_of.Given as goal

abbrev pub invariant-loop-b : goal.invariant-loop-b
invariant-loop-b g l =
    record {
      lines : l.text.items ≡ flat_map (λ b. backend_line (slice_index_or g.J.Naming.layout.names b []) (in_mask l.fn.enabled b) (slice_index_or l.fn.looks b no_look)) (range_with_len 0 l.b);
      text : IsText l.text.items;
    }
