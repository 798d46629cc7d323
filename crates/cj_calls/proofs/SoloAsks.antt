-- Which backends a query is asked of, one after another, and what it makes of their cells.
use Rattle.std.proofs.Common.{◌≡◌, ◌≢◌, inr, ℕ, zero, suc, ◌<◌, ◌==◌, ◌&&◌, not, Bool, true, false, List, [], ◌∷◌, ◌++◌, length, set, slice_get, Some, option_map, refl, ap, sym, ◌∙◌, subst, arith}
use Rattle.cj_calls.proofs.Common.{accounts_of, and_from, and_parts, asks_of, asks_with, Balance, CallsOne, CallsUnder, CellState, Contains, Contains-append_left, Contains-append_right, Core, hosts_all, in_mask, is_enabled, IsServingMask, login_of, logins_of, MayCallUnder, needs, PicksFirst, PicksInTurn, read_over, Select, serves_request, slice_get-map, WorldState}
use Rattle.cj_model.specs.declared.request.Request.TheVariants as request

-- ---- lists

-- what was set is there
pub got_set : {A : Type 0} (xs : List A) (b : ℕ) (v : A) → b < length xs → slice_get (set xs b v) b ≡ Some v
got_set [] b v lt = absurd (omega (arith, lt))
got_set (x ∷ xs) zero v lt = refl
got_set (x ∷ xs) (suc b) v lt = got_set xs b v (omega (arith, lt))

-- who is not on a list with one more at its end is not on it, and is another
pub not_before : (xs : List ℕ) (b k : ℕ) → (Contains (xs ++ b ∷ []) k → ⊥) → Contains xs k → ⊥
not_before xs b k none here = none (Contains-append_left xs (b ∷ []) k here)

pub not_last : (xs : List ℕ) (b k : ℕ) → (Contains (xs ++ b ∷ []) k → ⊥) → k ≢ b
not_last xs b k none same = none (Contains-append_right xs (b ∷ []) k (0, omega arith, sym same))

-- cells that are the same were called under the same login
pub same_login : (xs ys : List CellState) (k : ℕ) → slice_get xs k ≡ slice_get ys k → slice_get (logins_of xs) k ≡ slice_get (logins_of ys) k
same_login xs ys k same =
    slice_get-map (λ (x : CellState). x.login) xs k ∙ (ap (option_map (λ (x : CellState). x.login)) same ∙ sym (slice_get-map (λ (x : CellState). x.login) ys k))

-- ---- picks

-- who is left of the candidates behind these
abbrev pub left_after : (ℕ → Bool) → List ℕ → ℕ → Bool
left_after candidate [] k = candidate k
left_after candidate (b ∷ failed) k = left_after (λ (i : ℕ). candidate i && not (i == b)) failed k

pub left_one_more : (candidate : ℕ → Bool) (failed : List ℕ) (b k : ℕ) → left_after candidate (failed ++ b ∷ []) k ≡ (left_after candidate failed k && not (k == b))
left_one_more candidate [] b k = refl
left_one_more candidate (x ∷ failed) b k = left_one_more (λ (i : ℕ). candidate i && not (i == x)) failed b k

-- one more is picked
pub picks_one_more : (before now : Balance) (candidate : ℕ → Bool) (failed : List ℕ) (left b : ℕ) → PicksInTurn before candidate failed now → ((k : ℕ) → in_mask left k ≡ left_after candidate failed k) → PicksFirst now left b
    → PicksInTurn before candidate (failed ++ b ∷ []) (read_over now b)
picks_one_more before now candidate [] left b same bits first = (left, bits, subst (λ (x : Balance). PicksFirst x left b) same first, ap (λ (x : Balance). read_over x b) same)
picks_one_more before now candidate (x ∷ failed) left b picks bits first =
    (picks.0, picks.1, picks.2, picks_one_more (read_over before x) now (λ (k : ℕ). candidate k && not (k == x)) failed left b picks.3 bits first)

-- candidates that are the same
pub picks_as : (before after : Balance) (candidate other : ℕ → Bool) (asked : List ℕ) → ((k : ℕ) → candidate k ≡ other k) → PicksInTurn before candidate asked after → PicksInTurn before other asked after
picks_as before after candidate other [] same picks = picks
picks_as before after candidate other (b ∷ asked) same picks =
    (picks.0, λ k. picks.1 k ∙ same k, picks.2, picks_as (read_over before b) after (λ (k : ℕ). candidate k && not (k == b)) (λ (k : ℕ). other k && not (k == b)) asked (λ k. ap (λ (t : Bool). t && not (k == b)) (same k)) picks.3)

-- two tests of which each holds where the other does
same_test : (x y : Bool) → (x ≡ true → y ≡ true) → (y ≡ true → x ≡ true) → x ≡ y
same_test true y there back = sym (there refl)
same_test false true there back = back refl
same_test false false there back = refl

-- the mask of those that serve a query
pub served_bits : (c : Core) (select : Select) (serving : ℕ) → IsServingMask c select serving → (k : ℕ) → in_mask serving k ≡ serves_request c (request.Select select) k
served_bits c select serving serves k =
    same_test (in_mask serving k) (serves_request c (request.Select select) k)
    (λ there. let can = (serves k).1 there in and_from (is_enabled c.history k) (hosts_all c.placement k (needs (request.Select select))) can.0 can.1)
    (λ both. (serves k).0 (and_parts (is_enabled c.history k) (hosts_all c.placement k (needs (request.Select select))) both))

-- ---- one backend that was called

pub one_answered : (user : List ℕ) (b : ℕ) (old new : WorldState) → asks_of new.cells ≡ asks_with (asks_of old.cells) (Some b) → CallsUnder b (login_of (accounts_of old) user b) (logins_of old.cells) (logins_of new.cells)
    → ((k : ℕ) → k ≢ b → slice_get new.cells k ≡ slice_get old.cells k) → new.balance ≡ old.balance → CallsOne user b true old new
one_answered user b old new asks under others balance = record { asks = asks; under = λ _. under; maybe = inr under; others = others; balance = balance }

pub one_failed : (user : List ℕ) (b : ℕ) (old new : WorldState) → asks_of new.cells ≡ asks_of old.cells → MayCallUnder b (login_of (accounts_of old) user b) (logins_of old.cells) (logins_of new.cells)
    → ((k : ℕ) → k ≢ b → slice_get new.cells k ≡ slice_get old.cells k) → new.balance ≡ old.balance → CallsOne user b false old new
one_failed user b old new asks maybe others balance = record { asks = asks; under = λ did. absurd (cc did); maybe = maybe; others = others; balance = balance }

-- and nobody after that
pub called_one : (user : List ℕ) (b : ℕ) (answered : Bool) (old mid new : WorldState) → CallsOne user b answered old mid → new.cells ≡ mid.cells → new.balance ≡ mid.balance → CallsOne user b answered old new
called_one user b answered old mid new one cells balance =
    record {
      asks = ap asks_of cells ∙ one.asks;
      under = λ did. ap logins_of cells ∙ one.under did;
      maybe = subst (λ (xs : List CellState). MayCallUnder b (login_of (accounts_of old) user b) (logins_of old.cells) (logins_of xs)) (sym cells) one.maybe;
      others = λ k other. ap (λ (xs : List CellState). slice_get xs k) cells ∙ one.others k other;
      balance = balance ∙ one.balance;
    }
