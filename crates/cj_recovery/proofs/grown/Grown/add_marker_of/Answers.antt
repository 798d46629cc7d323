use Rattle.std.proofs.Common.{List, ℕ, [], ◌∷◌, ◌++◌, ◌∙◌, sym, subst}
use Rattle.cj_recovery.proofs.Common.{Event, Keeps, Marker}
use Rattle.cj_recovery.proofs.Kept.{keeps_marker, added_name}
use Rattle.cj_recovery.proofs.grown.Grown.add_marker_of.Goals as goal

pub returns-clause-keeps : goal.returns-clause-keeps
returns-clause-keeps c =
    let h = c.args.self.now.events.items in
    let places = c.args.self.now.places.items in
    let sessions = c.args.self.now.sessions in
    let names = c.args.self.now.names in
    let name = c.copy-name.result in
    let b = c.args.item.now.b in
    let more = c.insert.new.self in
    subst (λ (g : List Event). Keeps g places sessions more) (sym c.in_ok-push.ensures.items)
    (subst (λ (word : List ℕ). Keeps (h ++ Marker word b ∷ []) places sessions more) (c.copy-name.ensures ∙ sym c.copy.ensures)
    (keeps_marker h places sessions sessions names c.requires.keeps name b more (added_name names more name c.in_ok-insert.ensures.updates.0)))
