use Rattle.std.proofs.Common.{◌≡◌, codes, inr, refl, rules}
use Rattle.cj_commands.proofs.Found.{no_show}
use Rattle.cj_commands.proofs.arguments.show.Goals as goal

pub returns-in-Some : goal.returns-in-Some
returns-in-Some c = inr ((c.in-Some.from, c.in-Some.to), c.in-Some.ensures.0, refl)

pub returns-in-None : goal.returns-in-None
returns-in-None c =
    let backends : c.args.rest.now ≡ codes "backends" → ⊥ = search rules in
    let cache : c.args.rest.now ≡ codes "cache" → ⊥ = search rules in
    (no_show c.args.rest.now backends cache c.in-None.ensures, λ none. none)
