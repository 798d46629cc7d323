-- Which tables entries write, and which they touch.
use Rattle.std.proofs.Common.{◌≡◌, ℕ, ◌+◌, ◌<◌, ◌≤◌, Bool, true, false, ◌&&◌, ◌||◌, ◌==◌, List, [], ◌∷◌, length, take, get_or, Some, refl, ap, sym, ◌∙◌, arith, ⊎_elim, slice_get, Ordering, is_eq}
use Rattle.std.specs.Ordering.{match_ordering}
use Rattle.std.proofs.lemmas.Bool.{ne_eqb}
use Rattle.std.proofs.lemmas.List.{length-take}
use Rattle.std.proofs.lemmas.List.Folds.{list_any_more, list_any_none}
use Rattle.cj_book.proofs.Common.{bytes_eq, bytes_eq-Decides, Entry, has_table, is_eq-slice_cmp, is_written_in, IsAdministratorEntry, IsSessionEntry, slice_get-get_or, tx_of}
use Rattle.cj_model.specs.declared.request.Act.TheVariants as act
use Rattle.cj_model.specs.Database.Tables.{name_cmp, put_by}
use Rattle.cj_model.proofs.RisingLaws.{by_order}
use Rattle.cj_cluster.specs.History.Transactions.{AreFit, has_written, is_write_of}
use Rattle.cj_cluster.proofs.OwnTransactions.{own_tx}
use Rattle.cj_cluster.proofs.TransactionLaws.{fit_at, fit_take, tx_of_below}

-- ---- sets of tables

or_again : (b c : Bool) → (b || c) ≡ (b || (b || c))
or_again true c = refl
or_again false c = refl

or_swap : (b c d : Bool) → (b || (c || d)) ≡ (c || (b || d))
or_swap true true d = refl
or_swap true false d = refl
or_swap false true d = refl
or_swap false false d = refl

-- a set with one table more
pub put_has : (set : List (List ℕ)) (x table : List ℕ) → has_table (put_by name_cmp set x) table ≡ (bytes_eq x table || has_table set table)
put_has [] x table = refl
put_has (y ∷ ys) x table =
    by_order (name_cmp x y)
    (λ less. ap put less)
    (λ equal.
    let same : x ≡ y = (bytes_eq-Decides x y).0 (sym (is_eq-slice_cmp x y) ∙ ap is_eq equal) in
    ap put equal ∙ or_again (bytes_eq x table) (has_table ys table) ∙ ap (λ z. bytes_eq x table || (bytes_eq z table || has_table ys table)) same)
    (λ greater. ap put greater ∙ ap (λ c. bytes_eq y table || c) (put_has ys x table) ∙ or_swap (bytes_eq y table) (bytes_eq x table) (has_table ys table))
  where
    put : Ordering → Bool
    put o = has_table (match_ordering o (x ∷ y ∷ ys) (x ∷ ys) (y ∷ put_by name_cmp ys x)) table

-- ---- what transactions write

module _ (entries : List Entry) (fits : AreFit entries) where
  -- a transaction's number is that of an entry before
  tx_before : (k : ℕ) (e : Entry) → slice_get entries k ≡ Some e → e.tx ≤ k
  tx_before k e is =
      let fit = fit_at entries k e fits is in
      let short : length (take k entries) ≤ k = let l = length-take k entries in omega (arith, l) in
      ⊎_elim
      (λ (own : IsSessionEntry (take k entries) e). ⊎_elim
      (λ (none : e.tx ≡ 0). let le : e.tx ≤ k = omega (arith, none) in le)
      (λ (is_open : e.tx ≡ tx_of (take k entries) e.session). let below = tx_of_below (take k entries) e.session in let le : e.tx ≤ k = omega (arith, is_open, below, short) in le)
      (own_tx (tx_of (take k entries) e.session) e.tx e.act own.tx))
      (λ (admin : IsAdministratorEntry (take k entries) e). let below = tx_of_below (take k entries) admin.begin.session in let same = admin.is_open in let le : e.tx ≤ k = omega (arith, same, below, short) in le)
      fit.by

-- so it has written nothing before its BEGIN
pub none_written : (entries : List Entry) → AreFit entries → (n tx : ℕ) → n ≤ tx → (table : List ℕ) → has_written table tx (take n entries) ≡ false
none_written entries fits n tx early table =
    list_any_none (λ (e : Entry). e.tx == tx && is_write_of table e.act) (take n entries)
    (λ k d lt.
    let e : Entry = get_or (take n entries) k d in
    let below = tx_before (take n entries) (fit_take entries n fits) k e (slice_get-get_or (take n entries) k d lt) in
    let l = length-take n entries in
    ap (λ c. c && is_write_of table e.act) (ne_eqb e.tx tx (λ same. omega (arith, below, l, same, early, lt))))

or_flip : (b c : Bool) → (b || c) ≡ (c || b)
or_flip true true = refl
or_flip true false = refl
or_flip false true = refl
or_flip false false = refl

-- one entry more
pub written_more : (entries : List Entry) (n tx : ℕ) (table : List ℕ) → n < length entries → has_written table tx (take (n + 1) entries) ≡ (is_written_in tx table (slice_get entries n) || has_written table tx (take n entries))
written_more entries n tx table lt =
    let d : Entry = record { session = 0; seq = 0; tx = 0; user = []; act = act.Begin } in
    list_any_more (λ (e : Entry). e.tx == tx && is_write_of table e.act) entries n d lt
    ∙ (or_flip (has_written table tx (take n entries)) _
    ∙ ap (λ o. is_written_in tx table o || has_written table tx (take n entries)) (sym (slice_get-get_or entries n d lt)))
