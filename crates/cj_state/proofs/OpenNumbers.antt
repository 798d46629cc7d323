-- The numbers of the open sessions, as a book has them, and the sessions themselves.
use Rattle.std.proofs.Common.{◌≡◌, ℕ, ◌==◌, ◌||◌, ◌&&◌, not, Bool, true, false, cond, List, [], ◌∷◌, ◌++◌, filter, map, Option, None, Some, is_some, refl, ap, ◌∙◌}
use Rattle.cj_book.proofs.Common.{list_any, log, tx_of}
use Rattle.std.proofs.lemmas.List.{map-append}
use Rattle.cj_state.proofs.Common.{CellState, core_of, Dump, Entry, entry_numbered, find_session, new_session, OpenSession, with_session, without}
use Rattle.cj_cluster.specs.Moves.Moves as moves
use Rattle.cj_book.specs.Books as books
use Rattle.cj_book.specs.Books.{BookState, has_session}

abbrev number : OpenSession → ℕ
number x = x.number

-- ---- lists of sessions

-- a number is one of theirs exactly where a session is found by it
any_number : (ss : List OpenSession) (s : ℕ) → list_any (λ n. n == s) (map number ss) ≡ is_some (find_session ss s)
any_number [] s = refl
any_number (x ∷ ss) s = one (x.number == s) (any_number ss s)
  where
    one : (b : Bool) → list_any (λ n. n == s) (map number ss) ≡ is_some (find_session ss s) → (b || list_any (λ n. n == s) (map number ss)) ≡ is_some (cond b (Some x) (find_session ss s))
    one true rest = refl
    one false rest = rest

pub numbers_opened : (ss : List OpenSession) (n : ℕ) (user : List ℕ) → map (λ (x : OpenSession). x.number) (ss ++ new_session n user ∷ []) ≡ map (λ (x : OpenSession). x.number) ss ++ n ∷ []
numbers_opened ss n user = map-append (λ (x : OpenSession). x.number) ss (new_session n user ∷ [])

pub numbers_without : (ss : List OpenSession) (s : ℕ) → map (λ (x : OpenSession). x.number) (without s ss) ≡ filter (λ n. not (n == s)) (map (λ (x : OpenSession). x.number) ss)
numbers_without [] s = refl
numbers_without (x ∷ ss) s = one (x.number == s) (numbers_without ss s)
  where
    one : (b : Bool) → map number (without s ss) ≡ filter (λ n. not (n == s)) (map number ss)
        → map number (cond (not b) (x ∷ without s ss) (without s ss)) ≡ cond (not b) (x.number ∷ filter (λ n. not (n == s)) (map number ss)) (filter (λ n. not (n == s)) (map number ss))
    one true rest = rest
    one false rest = ap (λ l. x.number ∷ l) rest

pub numbers_with : (f : OpenSession → OpenSession) → ((x : OpenSession) → (f x).number ≡ x.number) → (ss : List OpenSession) (s : ℕ) → map (λ (x : OpenSession). x.number) (with_session ss s f) ≡ map (λ (x : OpenSession). x.number) ss
numbers_with f keeps [] s = refl
numbers_with f keeps (x ∷ ss) s = one (x.number == s) (numbers_with f keeps ss s)
  where
    one : (b : Bool) → map number (with_session ss s f) ≡ map number ss → number (cond b (f x) x) ∷ map number (with_session ss s f) ≡ x.number ∷ map number ss
    one true rest = rw (keeps x) (ap (λ l. x.number ∷ l) rest)
    one false rest = ap (λ l. x.number ∷ l) rest

-- ---- a book and its core

module _ (b : BookState) (cells : List CellState) (f s : ℕ) (ss : List OpenSession) (ds : List Dump) (are : b.sessions ≡ map (λ (x : OpenSession). x.number) ss) where
  pub open_is : (n : ℕ) → has_session b n ≡ moves.is_open (core_of b.layout b.history cells f s ss b.greatest ds) n
  open_is n = ap (λ l. list_any (λ m. m == n) l) are ∙ any_number ss n

  pub orphan_is : (tx : ℕ) → books.is_orphan b tx ≡ moves.is_orphan (core_of b.layout b.history cells f s ss b.greatest ds) tx
  orphan_is tx = one (entry_numbered (log b.history) tx)
    where
      one : (o : Option Entry) → books.is_orphan_of b tx o ≡ moves.is_orphan_of (core_of b.layout b.history cells f s ss b.greatest ds) tx o
      one None = refl
      one (Some e) = ap (λ q. tx_of (log b.history) e.session == tx && not q) (open_is e.session)
