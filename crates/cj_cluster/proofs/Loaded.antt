-- What a backend has begun where it loaded a database: the transactions that have a draft in it.
use Rattle.std.proofs.Common.{◌≡◌, ℕ, ◌==◌, ◌||◌, true, List, [], ◌∷◌, Option, None, Some, Ordering, Less, Equal, Greater, refl, sym, ap, ◌∙◌, subst, ⊎_elim}
use Rattle.std.specs.Prelude.{IfSome, flat_map, fold, option_map, option_to_list}
use Rattle.std.specs.Ordering.{match_ordering, nat_cmp}
use Rattle.std.proofs.lemmas.Bool.{eq-eqb, or_cases, or_left, or_right}
use Rattle.std.proofs.lemmas.List.Concat.{flat_map-cons}
use Rattle.std.proofs.lemmas.List.Elements.{All-cons, All-nil}
use Rattle.std.proofs.lemmas.Map.Lookups.{exact_unsigned}
use Rattle.cj_cluster.proofs.Common.{CoversDrafts, Draft, Slot, fold-append}
use Rattle.cj_model.specs.Database.Storable.{writers}
use Rattle.cj_model.specs.Database.Tables.{put_by}
use Rattle.cj_model.proofs.RisingLaws.{by_order}
use Rattle.cj_cluster.specs.History.Transactions.{has_begun}

-- ---- numbers put in their places

-- a number that is put in is there
begun_put : (begun : List ℕ) (n : ℕ) → has_begun (put_by nat_cmp begun n) n ≡ true
begun_put [] n = or_left (n == n) (has_begun [] n) (eq-eqb n n refl)
begun_put (m ∷ begun) n = elim (nat_cmp n m) as (λ o. has_begun (match_ordering o (n ∷ m ∷ begun) (n ∷ begun) (m ∷ put_by nat_cmp begun n)) n ≡ true) [
  | Less ↦ or_left (n == n) (has_begun (m ∷ begun) n) (eq-eqb n n refl)
  | Equal ↦ or_left (n == n) (has_begun begun n) (eq-eqb n n refl)
  | Greater ↦ or_right (m == n) (has_begun (put_by nat_cmp begun n) n) (begun_put begun n)
]

-- those that were there stay
begun_stays : (begun : List ℕ) (n tx : ℕ) → has_begun begun tx ≡ true → has_begun (put_by nat_cmp begun n) tx ≡ true
begun_stays [] n tx h = cc h
begun_stays (m ∷ begun) n tx h =
    let after = λ (o : Ordering). has_begun (match_ordering o (n ∷ m ∷ begun) (n ∷ begun) (m ∷ put_by nat_cmp begun n)) tx in
    by_order (nat_cmp n m)
    (λ l. ap after l ∙ or_right (n == tx) (has_begun (m ∷ begun) tx) h)
    (λ e. ap after e ∙ ap (λ k. (k == tx) || has_begun begun tx) (exact_unsigned n m e) ∙ h)
    (λ g. ap after g ∙ ⊎_elim
    (λ (here : (m == tx) ≡ true). or_left (m == tx) (has_begun (put_by nat_cmp begun n) tx) here)
    (λ (later : has_begun begun tx ≡ true). or_right (m == tx) (has_begun (put_by nat_cmp begun n) tx) (begun_stays begun n tx later))
    (or_cases (m == tx) (has_begun begun tx) h))

-- and stay as more are put in
begun_stays_each : (begun new : List ℕ) (tx : ℕ) → has_begun begun tx ≡ true → has_begun (fold (put_by nat_cmp) begun new) tx ≡ true
begun_stays_each begun [] tx h = h
begun_stays_each begun (n ∷ new) tx h = begun_stays_each (put_by nat_cmp begun n) new tx (begun_stays begun n tx h)

-- ---- drafts

-- the transaction of a draft, if there is one
abbrev drafted : Slot → List ℕ
drafted s = option_to_list (option_map (λ (d : Draft). d.tx) s.draft)

-- these transactions are among those begun, if the slot has a draft
abbrev IsCovered : List ℕ → Slot → Type 0
IsCovered begun s = IfSome s.draft (λ (d : Draft). has_begun begun d.tx ≡ true)

-- one slot more, in front
one_more : (begun : List ℕ) (s : Slot) (db : List Slot) → fold (put_by nat_cmp) begun (flat_map drafted (s ∷ db)) ≡ fold (put_by nat_cmp) (fold (put_by nat_cmp) begun (drafted s)) (flat_map drafted db)
one_more begun s db = ap (fold (put_by nat_cmp) begun) (flat_map-cons drafted s db) ∙ fold-append (put_by nat_cmp) begun (drafted s) (flat_map drafted db)

-- the transaction of a draft is put in, and stays
own_covered : (begun new : List ℕ) (draft : Option Draft)
    → IfSome draft (λ (d : Draft). has_begun (fold (put_by nat_cmp) (fold (put_by nat_cmp) begun (option_to_list (option_map (λ (e : Draft). e.tx) draft))) new) d.tx ≡ true)
own_covered begun new None = tt
own_covered begun new (Some d) = begun_stays_each (put_by nat_cmp begun d.tx) new d.tx (begun_put begun d.tx)

-- so are those of all drafts, behind any numbers
covers_behind : (begun : List ℕ) (db : List Slot) → CoversDrafts (fold (put_by nat_cmp) begun (flat_map drafted db)) db
covers_behind begun [] = All-nil (IsCovered begun)
covers_behind begun (s ∷ db) =
    let then : List ℕ = fold (put_by nat_cmp) begun (drafted s) in
    subst (λ (all : List ℕ). CoversDrafts all (s ∷ db)) (sym (one_more begun s db))
    (All-cons (IsCovered (fold (put_by nat_cmp) then (flat_map drafted db))) s db (own_covered begun (flat_map drafted db) s.draft) (covers_behind then db))

-- the transactions that have a draft in a database are those of all its drafts
pub writers_cover : (db : List Slot) → CoversDrafts (writers db) db
writers_cover db = covers_behind [] db
