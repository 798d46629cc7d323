-- Open sessions: found by their numbers, changed, added and removed.
use Rattle.std.proofs.Common.{IfSome, ◌≡◌, ◌≢◌, ℕ, ◌==◌, ◌<◌, ◌≤◌, Bool, true, false, not, cond, List, [], ◌∷◌, ◌++◌, length, get_or, filter, All, Option, None, Some, unwrap_or, option_map, is_some, refl, ap, sym, ◌∙◌, subst, arith, ⊎_elim}
use Rattle.std.proofs.lemmas.Bool.{cases_eq, eqb-true, eqb-false, eq-eqb, ne_eqb}
use Rattle.std.proofs.lemmas.List.{length-map}
use Rattle.std.proofs.lemmas.List.Elements.{All-nil, All-cons, All-head, All-tail, All-push, All-weaker}
use Rattle.std.specs.Cmp.{nat_cmp_is}
use Rattle.std.proofs.lemmas.Cmp.{ranked}
use Rattle.std.specs.declared.cmp.Ordering.TheVariants.{Less}
use Rattle.cj_cluster.proofs.Common.{Core, OpenSession, Rises, by_session_number, find-append, find_session, new_session, option_or, session_at, with_session}
use Rattle.cj_model.proofs.RisingLaws.{found_All, rises_filter, rises_map}

-- ---- the session of a number

-- session_at, by what is found
pub session_at-is : (c : Core) (s : ℕ) (o : Option OpenSession) → find_session c.sessions s ≡ o → session_at c s ≡ unwrap_or o (new_session s [])
session_at-is c s None is = rw is refl
session_at-is c s (Some x) is = rw is refl

-- what is found has the number
pub found_number : (ss : List OpenSession) (s : ℕ) (x : OpenSession) → find_session ss s ≡ Some x → x.number ≡ s
found_number [] s x is = absurd (cc is)
found_number (y ∷ ss) s x is = one (y.number == s) refl is (found_number ss s x)
  where
    one : (b : Bool) → (y.number == s) ≡ b → cond b (Some y) (find_session ss s) ≡ Some x → (find_session ss s ≡ Some x → x.number ≡ s) → x.number ≡ s
    one true e found rest = let same : y ≡ x = cc found in subst (λ (w : OpenSession). w.number ≡ s) same (eqb-true _ _ e)
    one false e found rest = rest found

-- and what holds of all
pub found_all : (P : OpenSession → Type 0) (ss : List OpenSession) (s : ℕ) (x : OpenSession) → All P ss → find_session ss s ≡ Some x → P x
found_all P ss s x all is = subst (λ (o : Option OpenSession). IfSome o P) is (found_All P (λ (y : OpenSession). y.number == s) ss all)

-- none is found where no session has the number
pub found_none : (ss : List OpenSession) (s : ℕ) → All (λ (x : OpenSession). x.number ≢ s) ss → find_session ss s ≡ None
found_none [] s all = refl
found_none (y ∷ ss) s all =
    rw (ne_eqb y.number s (All-head (λ (x : OpenSession). x.number ≢ s) y ss all)) (found_none ss s (All-tail (λ (x : OpenSession). x.number ≢ s) y ss all))

-- the session of an open number
pub found_open : (c : Core) (s : ℕ) → is_some (find_session c.sessions s) ≡ true → find_session c.sessions s ≡ Some (session_at c s)
found_open c s here = one (find_session c.sessions s) refl here
  where
    one : (o : Option OpenSession) → find_session c.sessions s ≡ o → is_some o ≡ true → find_session c.sessions s ≡ Some (session_at c s)
    one None is on = absurd (cc on)
    one (Some x) is on = is ∙ ap (λ y. Some y) (sym (session_at-is c s (Some x) is))

-- where numbers rise, each session is found by its own
pub found_itself : (ss : List OpenSession) → Rises by_session_number ss → All (λ (x : OpenSession). find_session ss x.number ≡ Some x) ss
found_itself [] r = All-nil (λ (x : OpenSession). find_session [] x.number ≡ Some x)
found_itself (y ∷ ss) r =
    All-cons (λ (x : OpenSession). find_session (y ∷ ss) x.number ≡ Some x) y ss (rw (eq-eqb y.number y.number refl) refl) (λ k d lt. later (get_or ss k d) (r.0 k d lt) (found_itself ss r.1 k d lt))
  where
    later : (x : OpenSession) → by_session_number y x ≡ Less → find_session ss x.number ≡ Some x → find_session (y ∷ ss) x.number ≡ Some x
    later x less is = let lt : y.number < x.number = ranked y.number x.number Less (sym less) in rw (ne_eqb y.number x.number (omega arith)) is

-- ---- one session changed, by what keeps its number

module _ (f : OpenSession → OpenSession) (keeps : (x : OpenSession) → (f x).number ≡ x.number) where
  -- the session that is changed
  pub session_of-same : (ss : List OpenSession) (s : ℕ) → find_session (with_session ss s f) s ≡ option_map f (find_session ss s)
  session_of-same [] s = refl
  session_of-same (y ∷ ss) s = one (y.number == s) refl (session_of-same ss s)
    where
      one : (b : Bool) → (y.number == s) ≡ b → find_session (with_session ss s f) s ≡ option_map f (find_session ss s)
          → cond ((cond b (f y) y).number == s) (Some (cond b (f y) y)) (find_session (with_session ss s f) s) ≡ option_map f (cond b (Some y) (find_session ss s))
      one true e rest = rw (ap (λ n. n == s) (keeps y) ∙ e) refl
      one false e rest = rw e rest

  -- another one
  pub session_of-other : (ss : List OpenSession) (s t : ℕ) → t ≢ s → find_session (with_session ss s f) t ≡ find_session ss t
  session_of-other [] s t ne = refl
  session_of-other (y ∷ ss) s t ne = one (y.number == s) refl (session_of-other ss s t ne)
    where
      one : (b : Bool) → (y.number == s) ≡ b → find_session (with_session ss s f) t ≡ find_session ss t
          → cond ((cond b (f y) y).number == t) (Some (cond b (f y) y)) (find_session (with_session ss s f) t) ≡ cond (y.number == t) (Some y) (find_session ss t)
      one true e rest =
          let is : y.number ≡ s = eqb-true _ _ e in
          let off : (y.number == t) ≡ false = ne_eqb _ _ (omega arith) in
          rw (ap (λ n. n == t) (keeps y) ∙ off, off) rest
      one false e rest = ap (cond (y.number == t) (Some y)) rest

  -- an open session stays open, and no other opens
  pub is_open-with : (ss : List OpenSession) (s t : ℕ) → is_some (find_session (with_session ss s f) t) ≡ is_some (find_session ss t)
  is_open-with ss s t =
      ⊎_elim (λ (e : t ≡ s). rw (e, session_of-same ss s) (some_map (find_session ss s))) (λ (ne : t ≡ s → ⊥). ap is_some (session_of-other ss s t ne)) (cases_eq t s)
    where
      some_map : (o : Option OpenSession) → is_some (option_map f o) ≡ is_some o
      some_map None = refl
      some_map (Some x) = refl

-- what holds of each after one was changed
pub all_with : (P Q : OpenSession → Type 0) (f : OpenSession → OpenSession) (ss : List OpenSession) (s : ℕ) → ((x : OpenSession) → x.number ≡ s → P x → Q (f x)) → ((x : OpenSession) → x.number ≢ s → P x → Q x)
    → All P ss → All Q (with_session ss s f)
all_with P Q f [] s here there all = All-nil Q
all_with P Q f (y ∷ ss) s here there all =
    All-cons Q _ (with_session ss s f) (one (y.number == s) refl (All-head P y ss all)) (all_with P Q f ss s here there (All-tail P y ss all))
  where
    one : (b : Bool) → (y.number == s) ≡ b → P y → Q (cond b (f y) y)
    one true e p = here y (eqb-true _ _ e) p
    one false e p = there y (eqb-false _ _ e) p

-- there are as many as before
pub length_with : (f : OpenSession → OpenSession) (ss : List OpenSession) (s : ℕ) → length (with_session ss s f) ≡ length ss
length_with f ss s = length-map ss (λ (x : OpenSession). cond (x.number == s) (f x) x)

-- rising numbers still rise
pub rises_with : (f : OpenSession → OpenSession) → ((x : OpenSession) → (f x).number ≡ x.number) → (ss : List OpenSession) (s : ℕ) → Rises by_session_number ss → Rises by_session_number (with_session ss s f)
rises_with f keeps ss s r =
    rises_map by_session_number (λ (x : OpenSession). Unit {0}) (λ (x : OpenSession). cond (x.number == s) (f x) x) (λ x y _ _. rw (number x (x.number == s), number y (y.number == s)) refl) ss (λ k d lt. tt) r
  where
    number : (x : OpenSession) (b : Bool) → (cond b (f x) x).number ≡ x.number
    number x true = keeps x
    number x false = refl

-- ---- a session added, with a greater number

-- the session that is added is found by its number
pub session_of-push_same : (ss : List OpenSession) (y : OpenSession) → All (λ (x : OpenSession). x.number < y.number) ss → find_session (ss ++ y ∷ []) y.number ≡ Some y
session_of-push_same ss y all =
    let none : find_session ss y.number ≡ None = found_none ss y.number (All-weaker (λ (x : OpenSession). x.number < y.number) (λ (x : OpenSession). x.number ≢ y.number) (λ x lt. omega arith) ss all) in
    find-append (λ (x : OpenSession). x.number == y.number) ss (y ∷ []) ∙ (rw none (rw (eq-eqb y.number y.number refl) refl))

-- and each other one as before
pub session_of-push_other : (ss : List OpenSession) (y : OpenSession) (t : ℕ) → t ≢ y.number → find_session (ss ++ y ∷ []) t ≡ find_session ss t
session_of-push_other ss y t ne =
    find-append (λ (x : OpenSession). x.number == t) ss (y ∷ []) ∙ rw (ne_eqb y.number t (omega arith)) (or_none (find_session ss t))
  where
    or_none : (o : Option OpenSession) → option_or o None ≡ o
    or_none None = refl
    or_none (Some x) = refl

-- an open session stays open
pub is_open-push : (ss : List OpenSession) (y : OpenSession) (t : ℕ) → is_some (find_session ss t) ≡ true → is_some (find_session (ss ++ y ∷ []) t) ≡ true
is_open-push ss y t here = rw (find-append (λ (x : OpenSession). x.number == t) ss (y ∷ [])) (one (find_session ss t) (find_session (y ∷ []) t) here)
  where
    one : (o p : Option OpenSession) → is_some o ≡ true → is_some (option_or o p) ≡ true
    one None p on = absurd (cc on)
    one (Some x) p on = refl

-- rising numbers still rise
pub rises_push : (ss : List OpenSession) (y : OpenSession) → All (λ (x : OpenSession). x.number < y.number) ss → Rises by_session_number ss → Rises by_session_number (ss ++ y ∷ [])
rises_push [] y all r = (All-nil (λ (x : OpenSession). by_session_number y x ≡ Less), tt)
rises_push (z ∷ ss) y all r = (
  All-push (λ (x : OpenSession). by_session_number z x ≡ Less) ss y r.0 (sym (nat_cmp_is z.number y.number Less (All-head (λ (x : OpenSession). x.number < y.number) z ss all))),
  rises_push ss y (All-tail (λ (x : OpenSession). x.number < y.number) z ss all) r.1,
)

-- ---- a session removed

-- the sessions but for those of this number
abbrev pub without : ℕ → List OpenSession → List OpenSession
without s ss = filter (λ (x : OpenSession). not (x.number == s)) ss

-- no session of that number is left
pub session_of-without_same : (ss : List OpenSession) (s : ℕ) → find_session (without s ss) s ≡ None
session_of-without_same [] s = refl
session_of-without_same (y ∷ ss) s = one (y.number == s) refl (session_of-without_same ss s)
  where
    one : (b : Bool) → (y.number == s) ≡ b → find_session (without s ss) s ≡ None → find_session (cond (not b) (y ∷ without s ss) (without s ss)) s ≡ None
    one true e rest = rest
    one false e rest = rw e rest

-- and each other one is found as before
pub session_of-without_other : (ss : List OpenSession) (s t : ℕ) → t ≢ s → find_session (without s ss) t ≡ find_session ss t
session_of-without_other [] s t ne = refl
session_of-without_other (y ∷ ss) s t ne = one (y.number == s) refl (session_of-without_other ss s t ne)
  where
    one : (b : Bool) → (y.number == s) ≡ b → find_session (without s ss) t ≡ find_session ss t
        → find_session (cond (not b) (y ∷ without s ss) (without s ss)) t ≡ cond (y.number == t) (Some y) (find_session ss t)
    one true e rest = let is : y.number ≡ s = eqb-true _ _ e in rw (ne_eqb y.number t (omega arith)) rest
    one false e rest = ap (cond (y.number == t) (Some y)) rest

-- rising numbers still rise
pub rises_without : (ss : List OpenSession) (s : ℕ) → Rises by_session_number ss → Rises by_session_number (without s ss)
rises_without ss s r = rises_filter by_session_number (λ (x : OpenSession). not (x.number == s)) ss r

-- there are no more than before
pub length_without : (ss : List OpenSession) (s : ℕ) → length (without s ss) ≤ length ss
length_without [] s = omega arith
length_without (y ∷ ss) s = one (y.number == s) (length_without ss s)
  where
    one : (b : Bool) → length (without s ss) ≤ length ss → length (cond (not b) (y ∷ without s ss) (without s ss)) ≤ length (y ∷ ss)
    one true rest = omega arith
    one false rest = omega arith

-- ---- in states

module _ (c z : Core) (s : ℕ) where
  -- the session that is changed, where it is open
  pub session_at-same : (f : OpenSession → OpenSession) → ((x : OpenSession) → (f x).number ≡ x.number) → z.sessions ≡ with_session c.sessions s f → is_some (find_session c.sessions s) ≡ true
      → session_at z s ≡ f (session_at c s)
  session_at-same f keeps is here = one (find_session c.sessions s) refl here
    where
      one : (o : Option OpenSession) → find_session c.sessions s ≡ o → is_some o ≡ true → session_at z s ≡ f (session_at c s)
      one None e on = absurd (cc on)
      one (Some x) e on =
          session_at-is z s (Some (f x)) (ap (λ w. find_session w s) is ∙ (session_of-same f keeps c.sessions s ∙ ap (option_map f) e)) ∙ ap f (sym (session_at-is c s (Some x) e))

  -- one of another number, and each where the sessions stay
  pub session_at-other : find_session z.sessions s ≡ find_session c.sessions s → session_at z s ≡ session_at c s
  session_at-other same = session_at-is z s (find_session c.sessions s) same ∙ sym (session_at-is c s (find_session c.sessions s) refl)
