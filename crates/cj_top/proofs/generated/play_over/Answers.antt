use Rattle.std.proofs.Common.{◌≡◌, true, [], List, ℕ, ap, subst, ◌∙◌}
use Rattle.cj_top.proofs.Cited.{BeginsAsConfigured, Found, State}
use Rattle.cj_top.proofs.generated.play_over.Goals as goal

pub returns-in-Ok-play : goal.returns-in-Ok-play
returns-in-Ok-play g c =
    let empty : c.new-log.result.bytes ≡ [] = ap (λ (s : State). s.bytes) c.new-log.ensures ∙ c.new.ensures.items in (
      c.in-Ok.world,
      subst (λ (held : List ℕ). BeginsAsConfigured g.B.Backend.tells c.args.conf (Found true held) c.in-Ok.world) empty c.in-Ok.ensures.begins,
      c.in-Ok-play.ensures.played.0,
      c.in-Ok-play.ensures.played.1,
    )
