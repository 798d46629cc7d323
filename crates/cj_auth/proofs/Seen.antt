-- Users that were seen, in a set.
use Rattle.std.proofs.Common.{◌≡◌, ℕ, ◌+◌, ◌<◌, ◌||◌, Bool, true, false, not, cond, List, [], ◌∷◌, ◌++◌, length, get_or, take, drop, refl, sym, ap, ◌∙◌}
use Rattle.std.specs.BTreeMap.{is_at}
use Rattle.std.specs.BTreeSet.{BTreeSet, contains}
use Rattle.std.specs.declared.cmp.Ordering.{Ordering}
use Rattle.std.specs.declared.option.Option.{Option}
use Rattle.std.specs.declared.option.Option.TheVariants.{Some}
use Rattle.std.proofs.lemmas.List.{drop_more, take_more}
use Rattle.std.proofs.lemmas.List.Folds.{list_any-append}
use Rattle.std.proofs.lemmas.Map.Text.{is_eq-slice_cmp}
use Rattle.cj_auth.proofs.Common.{Account, bytes_eq, is_account_of}
use Rattle.cj_model.specs.Cluster.Accounts.{has_user, repeated_user}
use Rattle.cj_model.specs.Database.Tables.{name_cmp}
use denote.Ref.{Bor}

-- users that are lent go by their bytes
abbrev pub lent_cmp : Bor (List ℕ) → Bor (List ℕ) → Ordering
lent_cmp x y = name_cmp x.now y.now

-- the set has the users of these accounts
abbrev pub Sees : BTreeSet (Bor (List ℕ)) → List Account → Type 0
Sees seen rows = (q : Bor (List ℕ)) → contains lent_cmp seen q ≡ has_user rows q.now

either : (b c : Bool) → cond b true c ≡ (c || (b || false))
either true true = refl
either true false = refl
either false true = refl
either false false = refl

-- with one more it has that one's too
pub sees_more : (old new : BTreeSet (Bor (List ℕ))) (rows : List Account) (x : Account) (key : Bor (List ℕ)) → key.now ≡ x.user → Sees old rows → ((q : Bor (List ℕ)) → contains lent_cmp new q ≡ cond (is_at (lent_cmp key) q) true (contains lent_cmp old q)) → Sees new (rows ++ x ∷ [])
sees_more old new rows x key same sees updates q =
    updates q
    ∙ ap (λ b. cond b true (contains lent_cmp old q)) (is_eq-slice_cmp key.now q.now)
    ∙ ap (λ b. cond (bytes_eq key.now q.now) true b) (sees q)
    ∙ either (bytes_eq key.now q.now) (has_user rows q.now)
    ∙ ap (λ (k : List ℕ). has_user rows q.now || (bytes_eq k q.now || false)) same
    ∙ sym (list_any-append (is_account_of q.now) rows (x ∷ []))

-- what was added was not there
pub was_new : (b : Bool) → true ≡ not b → b ≡ false
was_new true h = cc h
was_new false h = refl

module _ (rows : List Account) (i : ℕ) (l : i < length rows) (x : Account) (is : x ≡ get_or rows i x) where
  -- the accounts up to the next one
  pub taken : take i rows ++ x ∷ [] ≡ take (i + 1) rows
  taken = ap (λ (y : Account). take i rows ++ y ∷ []) is ∙ sym (take_more rows i x l)

  -- the next one's user is new: who is repeated stands behind it
  pub repeats_later : (whole : Option (List ℕ)) → has_user (take i rows) x.user ≡ false → repeated_user (take i rows) (drop i rows) ≡ whole → repeated_user (take (i + 1) rows) (drop (i + 1) rows) ≡ whole
  repeats_later whole new before =
      let rest : List Account = drop (i + 1) rows in
      ap (λ (s : List Account). repeated_user s rest) (sym taken)
      ∙ sym (ap (λ b. cond b (Some x.user) (repeated_user (take i rows ++ x ∷ []) rest)) new)
      ∙ ap (λ (y : Account). repeated_user (take i rows) (y ∷ rest)) is
      ∙ sym (ap (repeated_user (take i rows)) (drop_more rows i x l))
      ∙ before
