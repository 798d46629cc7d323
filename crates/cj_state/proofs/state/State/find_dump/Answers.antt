use Rattle.std.proofs.Common.{ap, ◌∙◌}
use Rattle.cj_state.proofs.Common.{find_dump, WorldState}
use Rattle.cj_state.proofs.state.State.find_dump.Goals as goal

pub returns : goal.returns
returns g c = c.find.ensures ∙ ap (λ (x : WorldState). find_dump x.core.dumps c.args.name.now) c.self.view_is
