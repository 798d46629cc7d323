use Rattle.std.proofs.Common.{rules, ◌∙◌, ap}
use Rattle.std.specs.Prelude.{filter}
use Rattle.std.proofs.lemmas.Fn.{filter_same}
use Rattle.cj_model.specs.Cluster.Placements.{hosts}
use Rattle.cj_model.specs.Database.Tables.{table_of}
use Rattle.cj_place.specs.Layouts.{placement_of}
use Rattle.cj_dump.proofs.coverage.part.Goals as goal

pub returns : goal.returns
returns c =
    c.from_vec.ensures ∙ filter_same _ (λ s. hosts (placement_of c.args.p.now) c.args.b (table_of s)) _ (λ s b f called. search rules) c.into_vec-slots.result.items c.retain.new.self.items c.retain.ensures.filtered ∙ ap (filter (λ s. hosts (placement_of c.args.p.now) c.args.b (table_of s))) c.into_vec-slots.ensures
