use Rattle.std.proofs.Common.{rules, ◌≡◌, List, [], ◌∷◌, ◌++◌, length, refl, ap, ◌∙◌, append_assoc}
use Rattle.cj_recovery.proofs.Common.{Ended, Entry, Event, Sched}
use Rattle.cj_recovery.proofs.Kept.{keeps_entry}
use Rattle.cj_recovery.proofs.grown.Grown.add_entry.Goals as goal

pub returns-clause-keeps : goal.returns-clause-keeps
returns-clause-keeps c =
    let old = c.args.self.now in
    let h = old.events.items in
    let same : c.follow.new.self.events.items ≡ h = rw c.follow.ensures.events refl in
    let events : c.push-3.new.self.items ≡ h ++ Sched c.args.entry ∷ Ended 0 0 ∷ [] =
    c.in_ok-push-3.ensures.items ∙ (ap (λ (l : List Event). l ++ Ended 0 0 ∷ []) (c.in_ok-push-2.ensures.items ∙ ap (λ (x : Entry). c.follow.new.self.events.items ++ Sched x ∷ []) c.in_ok-boxed.ensures)
    ∙ (append_assoc c.follow.new.self.events.items (Sched c.args.entry ∷ []) (Ended 0 0 ∷ []) ∙ ap (λ (l : List Event). l ++ Sched c.args.entry ∷ Ended 0 0 ∷ []) same))
    in
    let places : c.push.new.self.items ≡ old.places.items ++ length h ∷ [] = search rules in
    rw (events, places, c.follow.ensures.names)
    (keeps_entry h old.places.items old.sessions c.follow.new.self.sessions old.names c.requires.keeps c.args.entry c.in_ok-follow.ensures.sessions)
