use Rattle.std.proofs.Common.{◌≡◌, ◌+◌, [], ◌∷◌, ◌++◌, length, refl, ap, sym, subst, ◌∙◌, arith}
use Rattle.cj_book.proofs.Cited.{Entry, IsLegal, IsRecovered, Recovered, Sched, log, placement_of, recovers_sched, transactions_after}
use Rattle.cj_book.proofs.recovered.Recovered.add_entry.Goals as goal

pub returns : goal.returns
returns c = λ h legal k.
    let p = placement_of c.args.placement.now in
    let old = c.args.self.now in
    let e = c.entry-e.result.now in
    let is : e ≡ c.args.boxed = c.entry-e.ensures in
    let hosts = c.concerned-hosts.result in
    let as_many : length old.entries.items ≡ length (log h) = ap length k.entries in
    let count : c.len.result ≡ length (log h) = omega arith in
    let entries : c.push.new.self.items ≡ old.entries.items ++ e ∷ [] = c.in_ok-push.ensures.items ∙ ap (λ (x : Entry). old.entries.items ++ x ∷ []) (sym is) in
    let transactions : c.follow.new.self.list ≡ transactions_after old.transactions.list (length (log h) + 1) hosts e e.act =
    c.follow.ensures ∙ (ap (λ l. transactions_after l (c.len.result + 1) hosts e e.act) c.reserve.ensures.list ∙ ap (λ n. transactions_after old.transactions.list (n + 1) hosts e e.act) count) in
    let new : Recovered = record { entries = c.push.new.self; transactions = c.follow.new.self; markers = old.markers; greatest = c.max-self.result } in
    subst (λ (x : Entry). IsRecovered p (h ++ Sched x ∷ []) new) is
    (recovers_sched p h old new k e hosts (subst (λ (x : Entry). IsLegal (h ++ Sched x ∷ [])) (sym is) legal) (λ fit. c.concerned-hosts.ensures (log h) k.transactions fit) entries transactions refl c.max-self.ensures)
