-- A query is answered the same as long as no entry touches a table that it needs.
use Rattle.std.proofs.Common.{◌≡◌, ℕ, ◌+◌, ◌-◌, ◌<◌, ◌≤◌, zero, suc, false, List, length, take, None, Some, ap, sym, ◌∙◌, arith, ⊎_elim, slice_get}
use Rattle.cj_cluster.specs.History.Histories.{database_after}
use Rattle.cj_cluster.specs.History.Transactions.{AreFit}
use Rattle.cj_model.specs.Database.Queries.{ask}
use Rattle.cj_model.specs.declared.request.Entry.{Entry}
use Rattle.cj_model.specs.declared.select.Select.{Select}
use Rattle.std.proofs.lemmas.Option.{slice_get_cases}
use Rattle.std.specs.Option.{option_map_or}
use Rattle.cj_model.specs.Database.Tables.{IsDatabase}
use Rattle.cj_cluster.proofs.DraftLaws.{run_storable}
use Rattle.cj_cluster.proofs.PartRuns.{at_next}
use Rattle.cj_cluster.proofs.TransactionLaws.{fit_take}
use Rattle.cj_cluster.specs.History.Freshness.{touches_behind, touches, touches_query, NoneTouches}
use Rattle.cj_cluster.proofs.Bases.{base_of, ask_same, base_untouched}

module _ (entries : List Entry) (fits : AreFit entries) where
  after_is_database : (n : ℕ) → IsDatabase (database_after entries n)
  after_is_database n = (run_storable (take n entries) (fit_take entries n fits)).database

  -- the base of a table behind an entry that doesn't touch it
  base_next : (n : ℕ) → n < length entries → (table : List ℕ) → touches entries n table ≡ false → base_of (database_after entries n) table ≡ base_of (database_after entries (n + 1)) table
  base_next n lt table off = ⊎_elim
      (λ (h : (e : Entry) × (n < length entries) × (slice_get entries n ≡ Some e) × _). here h.0 h.2)
      (λ (h : (length entries ≤ n) × (slice_get entries n ≡ None)). let le : length entries ≤ n = h.0 in absurd (omega arith))
      (slice_get_cases entries n).1
    where
      here : (e : Entry) → slice_get entries n ≡ Some e → base_of (database_after entries n) table ≡ base_of (database_after entries (n + 1)) table
      here e is =
          let untouched : touches_behind (take n entries) e.tx e.act table ≡ false = sym (ap (λ o. option_map_or (λ (x : Entry). touches_behind (take n entries) x.tx x.act table) o false) is) ∙ off in
          sym (ap (λ db. base_of db table) (at_next entries n e is) ∙ base_untouched table (take n entries) (fit_take entries n fits) e.tx e.act untouched)

  -- so the query's answer
  ask_next : (n : ℕ) → n < length entries → (s : Select) → touches_query entries n s ≡ false → ask (database_after entries n) 0 s ≡ ask (database_after entries (n + 1)) 0 s
  ask_next n lt s off =
      ask_same (database_after entries n) (database_after entries (n + 1)) (after_is_database n) (after_is_database (n + 1)) (touches entries n) (base_next n lt) s off

  -- over several entries
  ask_later : (s : Select) (from k : ℕ) → from + k ≤ length entries → NoneTouches entries from (from + k) s → ask (database_after entries from) 0 s ≡ ask (database_after entries (from + k)) 0 s
  ask_later s from zero within none = ap (λ n. ask (database_after entries n) 0 s) (omega arith)
  ask_later s from (suc k) within none =
      let later : from + suc k ≡ (from + k) + 1 = omega arith in
      ask_later s from k (omega arith) (λ n low high. none n low (omega arith))
      ∙ ask_next (from + k) (omega arith) s (none (from + k) (omega arith) (omega arith))
      ∙ ap (λ n. ask (database_after entries n) 0 s) (sym later)

  pub ask_stays : (from to : ℕ) (s : Select) → from ≤ to → to ≤ length entries → NoneTouches entries from to s → ask (database_after entries from) 0 s ≡ ask (database_after entries to) 0 s
  ask_stays from to s le within none =
      let there : from + (to - from) ≡ to = omega arith in
      ask_later s from (to - from) (omega arith) (λ n low high. none n low (omega arith)) ∙ ap (λ n. ask (database_after entries n) 0 s) there
