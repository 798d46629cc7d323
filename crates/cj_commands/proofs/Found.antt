-- What the arguments of a line are found to be.
use Rattle.std.proofs.Common.{◌≡◌, ◌∙◌, refl, sym, ap, subst, ℕ, true, List, ◌∷◌, ◌++◌, codes, Option, Some, None, Result, Ok, Err, inl, inr}
use Rattle.std.specs.Prelude.{IsErrAnd}
use Rattle.cj_commands.proofs.Common.{HasNoSpace, is_name, IsBackend, IsNumber, CutsWord, FindsValue, IsNumbered, IsNoBackend, AsksFor, AsksToBackup, AsksToEnable, AsksToShow, HasBackendAndName, IsLogRange, IsRange, IsReadAs, LacksAmong, LacksNamed, LacksToEnable, Command, Unread, NoBackend, NoCommand, Verb}
use Rattle.cj_commands.proofs.Arguing.{range_one}
use Rattle.cj_words.proofs.Cutting.{one_cut, cut_one, numbered_one}

-- ---- ranges

-- where no number begins the arguments, they are no range
pub no_range : (rest : List ℕ) → ((n : ℕ) (more : List ℕ) → IsNumbered rest n more → ⊥) → (x : ℕ × ℕ) → IsRange rest x → ⊥
no_range rest none x h = none x.0 h.0 h.1

-- where no second number follows the first, they are no range
pub no_end : (rest last : List ℕ) (from : ℕ) → IsNumbered rest from last → ((n : ℕ) → IsNumber last n → ⊥) → (x : ℕ × ℕ) → IsRange rest x → ⊥
no_end rest last from p none x h =
    let k = numbered_one rest from x.0 last h.0 p h.1 in
    none x.1 (subst (λ (z : List ℕ). IsNumber z x.1) (sym k.1) h.2)

-- two numbers are a range
pub one_range : (rest last : List ℕ) (from to : ℕ) → IsNumbered rest from last → IsNumber last to → FindsValue (IsRange rest) (Some (from, to))
one_range rest last from to p q = ((last, p, q), λ x h. range_one rest x (from, to) h (last, p, q))

-- what is found behind the word `log` is found for the whole
pub of_log : (rest word numbers : List ℕ) (found : Option (ℕ × ℕ)) → CutsWord rest word (Some numbers) → word ≡ codes "log" → FindsValue (IsRange numbers) found → FindsValue (IsLogRange rest) found
of_log rest word numbers None c is f = λ x h.
    let k = one_cut word (codes "log") numbers h.0 c.0 refl (sym c.1 ∙ h.2) in
    f x (subst (λ (z : List ℕ). IsRange z x) (sym k.1) h.1)
of_log rest word numbers (Some y) c is f = (
  (numbers, f.0, c.1 ∙ ap (λ (w : List ℕ). w ++ 32 ∷ numbers) is),
  λ x h.
      let k = one_cut word (codes "log") numbers h.0 c.0 refl (sym c.1 ∙ h.2) in
      f.1 x (subst (λ (z : List ℕ). IsRange z x) (sym k.1) h.1),
)

-- behind a word other than `log` there is no range of the log
pub not_log : (rest word numbers : List ℕ) → CutsWord rest word (Some numbers) → (word ≡ codes "log" → ⊥) → (x : ℕ × ℕ) → IsLogRange rest x → ⊥
not_log rest word numbers c other x h = other (one_cut word (codes "log") numbers h.0 c.0 refl (sym c.1 ∙ h.2)).0

-- what is neither `backends` nor `cache` nor a range of the log asks to show nothing
pub no_show : (rest : List ℕ) → (rest ≡ codes "backends" → ⊥) → (rest ≡ codes "cache" → ⊥) → ((x : ℕ × ℕ) → IsLogRange rest x → ⊥) → (c : Command) → AsksToShow rest c → ⊥
no_show rest backends cache range c (inl (inl h)) = backends h.0
no_show rest backends cache range c (inl (inr h)) = cache h.0
no_show rest backends cache range c (inr h) = range h.0 h.1

-- ---- an error that is handed on

-- what was found of a part holds of the whole, which has such a part
handed_on : {A B : Type 0} (P : A → Type 0) (Q : Type 0) (R : B → Type 0) (S : Type 0) (e : Unread) (result : Result B Unread) → ((y : B) → R y → (x : A) × P x) → (Q → S) → (S → Q) → IsErrAnd result (λ x. x ≡ e) → IsReadAs P Q (Err e) → IsReadAs R S result
handed_on P Q R S e (Ok y) part forth back is h = absurd is
handed_on P Q R S NoBackend (Err x) part forth back is h = subst (λ (z : Unread). IsReadAs R S (Err z)) (sym is) (forth h)
handed_on P Q R S NoCommand (Err x) part forth back is h =
    subst (λ (z : Unread). IsReadAs R S (Err z)) (sym is) (λ y r. let p = part y r in h.0 p.0 p.1, λ s. h.1 (back s))

-- ---- a backend's name and another

-- where no name follows the first word, there are no two names
pub no_name_behind : (names : List (List ℕ)) (rest word name : List ℕ) → CutsWord rest word (Some name) → (is_name name ≡ true → ⊥) → ((x : ℕ × List ℕ) → HasBackendAndName names rest x → ⊥) × (LacksNamed names rest → ⊥)
no_name_behind names rest word name c other = (
  λ x h. let k = cut_one rest word name h.0.word x.1 c h.0.backend.word h.0.parts in other (ap is_name k.1 ∙ h.1),
  λ h. let k = cut_one rest word name h.word h.name c h.lacks.word h.parts in other (ap is_name k.1 ∙ h.named),
)

-- where a name follows, an error about the first word is one about both
pub name_behind : (names : List (List ℕ)) (rest word name : List ℕ) (e : Unread) (result : Result (ℕ × List ℕ) Unread) → CutsWord rest word (Some name) → is_name name ≡ true → IsErrAnd result (λ x. x ≡ e) → IsReadAs (IsBackend names word) (IsNoBackend names word) (Err e) → IsReadAs (HasBackendAndName names rest) (LacksNamed names rest) result
name_behind names rest word name e result c named is h =
    handed_on (IsBackend names word) (IsNoBackend names word) (HasBackendAndName names rest) (LacksNamed names rest) e result
    (λ x p. let k = cut_one rest word name p.0.word x.1 c p.0.backend.word p.0.parts in (x.0, subst (λ (w : List ℕ). IsBackend names w x.0) (sym k.0) p.0.backend))
    (λ q. record { word = word; name = name; lacks = q; named = named; parts = c.1 })
    (λ s. let k = cut_one rest word name s.word s.name c s.lacks.word s.parts in subst (IsNoBackend names) (sym k.0) s.lacks)
    is h

-- an error about both names is one about the arguments of `backup`
pub backup_behind : (names : List (List ℕ)) (rest : List ℕ) (e : Unread) (result : Result Command Unread) → IsErrAnd result (λ x. x ≡ e) → IsReadAs (HasBackendAndName names rest) (LacksNamed names rest) (Err e) → IsReadAs (AsksToBackup names rest) (LacksNamed names rest) result
backup_behind names rest e result is h =
    handed_on (HasBackendAndName names rest) (LacksNamed names rest) (AsksToBackup names rest) (LacksNamed names rest) e result (λ c p. ((p.0, p.1), p.2)) (λ q. q) (λ q. q) is h

-- arguments of `enable` that are more than a word have a second name
part_of_enable : (names : List (List ℕ)) (rest : List ℕ) (c : Command) → (HasNoSpace rest → ⊥) → AsksToEnable names rest c → (x : ℕ × List ℕ) × HasBackendAndName names rest x
part_of_enable names rest c more (inl p) = absurd (more p.1.word)
part_of_enable names rest c more (inr p) = ((p.0, p.1), p.2)

-- arguments of `enable` that lack a backend and are more than a word lack it beside a name
lacking_of_enable : (names : List (List ℕ)) (rest : List ℕ) → (HasNoSpace rest → ⊥) → LacksToEnable names rest → LacksNamed names rest
lacking_of_enable names rest more (inl q) = absurd (more q.word)
lacking_of_enable names rest more (inr q) = q

-- an error about both names is one about the arguments of `enable`
pub enable_behind : (names : List (List ℕ)) (rest : List ℕ) (e : Unread) (result : Result Command Unread) → (HasNoSpace rest → ⊥) → IsErrAnd result (λ x. x ≡ e) → IsReadAs (HasBackendAndName names rest) (LacksNamed names rest) (Err e) → IsReadAs (AsksToEnable names rest) (LacksToEnable names rest) result
enable_behind names rest e result more is h =
    handed_on (HasBackendAndName names rest) (LacksNamed names rest) (AsksToEnable names rest) (LacksToEnable names rest) e result (λ c p. part_of_enable names rest c more p) inr (lacking_of_enable names rest more) is h

-- ---- the arguments of a verb

-- what holds of the known verb holds of the verb that is equal to it
pub at_verb : (names : List (List ℕ)) (verb : Verb) (rest : List ℕ) (known : Verb) (result : Result Command Unread) → verb ≡ known → IsReadAs (AsksFor names known rest) (LacksAmong names known rest) result → IsReadAs (AsksFor names verb rest) (LacksAmong names verb rest) result
at_verb names verb rest known result is h = subst (λ (v : Verb). IsReadAs (AsksFor names v rest) (LacksAmong names v rest) result) (sym is) h
