-- The line of a command as its parts.
use Rattle.std.proofs.Common.{◌≡◌, ◌∙◌, refl, sym, ap, subst, ℕ, Bool, true, false, List, ◌∷◌, ◌++◌, codes, Option, Some, None, Result, Ok, Err, inl, inr}
use Rattle.std.specs.Prelude.{◌↔◌, IfSome, if◌then◌else◌}
use Rattle.std.proofs.lemmas.Slice.Eq.{bytes_eq-Decides}
use Rattle.cj_commands.proofs.Common.{bytes_eq, HasNoSpace, CutsWord, CommandLine, IsNoCommand, NamesNoBackend, IsReadAs, IsOneWordCommand, AsksFor, LacksAmong, verb_named, verb_word, Command, Unread, NoBackend, NoCommand, Verb, Abort, Backup, Checkpoint, Disable, Enable, Show}
use Rattle.cj_commands.specs.declared.command.Command.TheVariants as command
use Rattle.cj_commands.proofs.Arguing.{asked_one, asked_none}
use Rattle.cj_words.proofs.Cutting.{no_space, one_cut}

-- ---- words of verbs

-- each verb's word is found
verb_named-word : (v : Verb) → verb_named (verb_word v) ≡ Some v
verb_named-word Show = refl
verb_named-word Checkpoint = refl
verb_named-word Disable = refl
verb_named-word Enable = refl
verb_named-word Backup = refl
verb_named-word Abort = refl

-- each verb's word holds no space
word_of_verb : (v : Verb) → HasNoSpace (verb_word v)
word_of_verb Show = refl
word_of_verb Checkpoint = refl
word_of_verb Disable = refl
word_of_verb Enable = refl
word_of_verb Backup = refl
word_of_verb Abort = refl

-- where the first test finds a verb or the next ones do, the word is that verb's
pick : (word : List ℕ) (v : Verb) (o : Option Verb) (b : Bool) → bytes_eq word (verb_word v) ≡ b → IfSome o (λ u. word ≡ verb_word u) → IfSome (if b then Some v else o) (λ u. word ≡ verb_word u)
pick word v o true e h = (bytes_eq-Decides word (verb_word v)).0 e
pick word v o false e h = h

-- the verb that is found for a word has this word
found_verb : (word : List ℕ) → IfSome (verb_named word) (λ v. word ≡ verb_word v)
found_verb word =
    pick word Show _ (bytes_eq word (verb_word Show)) refl
    (pick word Checkpoint _ (bytes_eq word (verb_word Checkpoint)) refl
    (pick word Disable _ (bytes_eq word (verb_word Disable)) refl
    (pick word Enable _ (bytes_eq word (verb_word Enable)) refl
    (pick word Backup _ (bytes_eq word (verb_word Backup)) refl
    (pick word Abort None (bytes_eq word (verb_word Abort)) refl tt)))))

spelled_verb : (word : List ℕ) (v : Verb) → verb_named word ≡ Some v → word ≡ verb_word v
spelled_verb word v e = subst (λ (o : Option Verb). IfSome o (λ u. word ≡ verb_word u)) e (found_verb word)

-- ---- parts

-- a command's line is one word, or the word of a verb, a space and its arguments
data Parts (names : List (List ℕ)) (line : List ℕ) (c : Command) : Type 0 where
  lone : IsOneWordCommand line c → Parts names line c
  behind : (v : Verb) (rest : List ℕ) → line ≡ verb_word v ++ 32 ∷ rest → AsksFor names v rest c → Parts names line c

line_parts : (names : List (List ℕ)) (line : List ℕ) (c : Command) → CommandLine names line c → Parts names line c
line_parts names line command.ShowBackends h = behind Show (codes "backends") h (inl (inl (refl, refl)))
line_parts names line (command.ShowLog from to) h =
    behind Show (codes "log" ++ 32 ∷ (h.0 ++ 32 ∷ h.1)) h.4 (inr ((from, to), (h.0 ++ 32 ∷ h.1, (h.1, record { word = h.0; number = h.2; parts = refl }, h.3), refl), refl))
line_parts names line command.ShowCache h = behind Show (codes "cache") h (inl (inr (refl, refl)))
line_parts names line command.Audit h = lone (inl (h, refl))
line_parts names line (command.Checkpoint name) h = behind Checkpoint name h.1 (h.0, refl)
line_parts names line (command.Disable b) h = behind Disable h.0 h.2 (b, h.1, refl)
line_parts names line (command.Enable b None) h = behind Enable h.0 h.2 (inl (b, h.1, refl))
line_parts names line (command.Enable b (Some name)) h = behind Enable (h.0 ++ 32 ∷ name) h.3 (inr (b, name, (record { word = h.0; backend = h.1; parts = refl }, h.2), refl))
line_parts names line (command.Backup b name) h = behind Backup (h.0 ++ 32 ∷ name) h.3 (b, name, (record { word = h.0; backend = h.1; parts = refl }, h.2), refl)
line_parts names line (command.Abort tx) h = behind Abort h.0 h.2 (tx, h.1, refl)
line_parts names line command.Quit h = lone (inr (h, refl))

-- a line that is a command's one word is that command's line
lone_line : (names : List (List ℕ)) (line : List ℕ) (c : Command) → IsOneWordCommand line c → CommandLine names line c
lone_line names line c (inl a) = subst (CommandLine names line) (sym a.1) a.0
lone_line names line c (inr a) = subst (CommandLine names line) (sym a.1) a.0

-- a verb's word, a space and the arguments of a command are that command's line
parts_line : (names : List (List ℕ)) (line rest : List ℕ) (v : Verb) (c : Command) → line ≡ verb_word v ++ 32 ∷ rest → AsksFor names v rest c → CommandLine names line c
parts_line names line rest Show c e (inl (inl a)) = subst (CommandLine names line) (sym a.1) (e ∙ ap (λ (z : List ℕ). verb_word Show ++ 32 ∷ z) a.0)
parts_line names line rest Show c e (inl (inr a)) = subst (CommandLine names line) (sym a.1) (e ∙ ap (λ (z : List ℕ). verb_word Show ++ 32 ∷ z) a.0)
parts_line names line rest Show c e (inr a) =
    subst (CommandLine names line) (sym a.2) (
      a.1.1.1.word,
      a.1.1.0,
      a.1.1.1.number,
      a.1.1.2,
      e ∙ ap (λ (z : List ℕ). verb_word Show ++ 32 ∷ z) (a.1.2 ∙ ap (λ (z : List ℕ). codes "log" ++ 32 ∷ z) a.1.1.1.parts),
    )
parts_line names line rest Checkpoint c e a = subst (CommandLine names line) (sym a.1) (a.0, e)
parts_line names line rest Disable c e a = subst (CommandLine names line) (sym a.2) (rest, a.1, e)
parts_line names line rest Enable c e (inl a) = subst (CommandLine names line) (sym a.2) (rest, a.1, e)
parts_line names line rest Enable c e (inr a) =
    subst (CommandLine names line) (sym a.3) (a.2.0.word, a.2.0.backend, a.2.1, e ∙ ap (λ (z : List ℕ). verb_word Enable ++ 32 ∷ z) a.2.0.parts)
parts_line names line rest Backup c e a =
    subst (CommandLine names line) (sym a.3) (a.2.0.word, a.2.0.backend, a.2.1, e ∙ ap (λ (z : List ℕ). verb_word Backup ++ 32 ∷ z) a.2.0.parts)
parts_line names line rest Abort c e a = subst (CommandLine names line) (sym a.2) (rest, a.1, e)

-- a line that names no backend is the word of a verb, a space and arguments that lack one
record LackingParts (names : List (List ℕ)) (line : List ℕ) : Type 0 where
  verb : Verb
  rest : List ℕ
  spelled : line ≡ verb_word verb ++ 32 ∷ rest
  lacks : LacksAmong names verb rest

lacking_parts : (names : List (List ℕ)) (line : List ℕ) → NamesNoBackend names line → LackingParts names line
lacking_parts names line (inl (inl h)) = record { verb = Disable; rest = h.0; spelled = h.2; lacks = h.1 }
lacking_parts names line (inl (inr h)) = record { verb = Enable; rest = h.0; spelled = h.2; lacks = inl h.1 }
lacking_parts names line (inr (inl h)) =
    record { verb = Enable; rest = h.0 ++ 32 ∷ h.1; spelled = h.4; lacks = inr (record { word = h.0; name = h.1; lacks = h.2; named = h.3; parts = refl }) }
lacking_parts names line (inr (inr h)) =
    record { verb = Backup; rest = h.0 ++ 32 ∷ h.1; spelled = h.4; lacks = record { word = h.0; name = h.1; lacks = h.2; named = h.3; parts = refl } }

-- a verb's word, a space and arguments that lack a backend are a line that names none
lacking_line : (names : List (List ℕ)) (line rest : List ℕ) (v : Verb) → line ≡ verb_word v ++ 32 ∷ rest → LacksAmong names v rest → NamesNoBackend names line
lacking_line names line rest Show e a = absurd a
lacking_line names line rest Checkpoint e a = absurd a
lacking_line names line rest Disable e a = inl (inl (rest, a, e))
lacking_line names line rest Enable e (inl a) = inl (inr (rest, a, e))
lacking_line names line rest Enable e (inr a) = inr (inl (a.word, a.name, a.lacks, a.named, e ∙ ap (λ (z : List ℕ). verb_word Enable ++ 32 ∷ z) a.parts))
lacking_line names line rest Backup e a = inr (inr (a.word, a.name, a.lacks, a.named, e ∙ ap (λ (z : List ℕ). verb_word Backup ++ 32 ∷ z) a.parts))
lacking_line names line rest Abort e a = absurd a

-- ---- one command at most

-- a command's one word holds no space
lone_word : (line : List ℕ) (c : Command) → IsOneWordCommand line c → HasNoSpace line
lone_word line c (inl a) = subst HasNoSpace (sym a.0) refl
lone_word line c (inr a) = subst HasNoSpace (sym a.0) refl

-- a line that holds no space has no verb's word before one
no_verb_before : (line : List ℕ) (v : Verb) (rest : List ℕ) → HasNoSpace line → line ≡ verb_word v ++ 32 ∷ rest → ⊥
no_verb_before line v rest h e = no_space (verb_word v) rest (subst HasNoSpace e h)

-- a line has one verb before its first space, and one rest behind it
record AreSame (u v : Verb) (y z : List ℕ) : Type 0 where
  verb : u ≡ v
  rest : y ≡ z

same_parts : (line : List ℕ) (u v : Verb) (y z : List ℕ) → line ≡ verb_word u ++ 32 ∷ y → line ≡ verb_word v ++ 32 ∷ z → AreSame u v y z
same_parts line u v y z p q =
    let k = one_cut (verb_word u) (verb_word v) y z (word_of_verb u) (word_of_verb v) (sym p ∙ q) in
    let found : Some u ≡ Some v = sym (verb_named-word u) ∙ ap verb_named k.0 ∙ verb_named-word v in
    record { verb = cc; rest = k.1 }

-- what holds behind one verb holds behind the other
moved : (P : Verb → List ℕ → Type 0) (u v : Verb) (y z : List ℕ) → AreSame u v y z → P u y → P v z
moved P u v y z s h = subst (λ (x : Verb). P x z) s.verb (subst (P u) s.rest h)

-- a line that is one word is one command
lone_one : (line : List ℕ) (c d : Command) → IsOneWordCommand line c → IsOneWordCommand line d → c ≡ d
lone_one line c d (inl p) (inl q) = p.1 ∙ sym q.1
lone_one line c d (inl p) (inr q) = let e : codes "audit" ≡ codes "quit" = sym p.0 ∙ q.0 in cc
lone_one line c d (inr p) (inl q) = let e : codes "quit" ≡ codes "audit" = sym p.0 ∙ q.0 in cc
lone_one line c d (inr p) (inr q) = p.1 ∙ sym q.1

parts_one : (names : List (List ℕ)) (line : List ℕ) (c d : Command) → Parts names line c → Parts names line d → c ≡ d
parts_one names line c d (lone p) (lone q) = lone_one line c d p q
parts_one names line c d (lone p) (behind v z e q) = absurd (no_verb_before line v z (lone_word line c p) e)
parts_one names line c d (behind u y e p) (lone q) = absurd (no_verb_before line u y (lone_word line d q) e)
parts_one names line c d (behind u y e p) (behind v z f q) = asked_one names v z c d (moved (λ (x : Verb) (r : List ℕ). AsksFor names x r c) u v y z (same_parts line u v y z e f) p) q

-- a line is at most one command
pub one_command : (names : List (List ℕ)) (line : List ℕ) (c d : Command) → CommandLine names line c → CommandLine names line d → c ≡ d
one_command names line c d p q = parts_one names line c d (line_parts names line c p) (line_parts names line d q)

parts_none : (names : List (List ℕ)) (line : List ℕ) (c : Command) → Parts names line c → LackingParts names line → ⊥
parts_none names line c (lone p) q = no_verb_before line q.verb q.rest (lone_word line c p) q.spelled
parts_none names line c (behind u y e p) q = asked_none names q.verb q.rest c (moved (λ (x : Verb) (r : List ℕ). AsksFor names x r c) u q.verb y q.rest (same_parts line u q.verb y q.rest e q.spelled) p) q.lacks

-- a line that names no backend is no command
pub no_command : (names : List (List ℕ)) (line : List ℕ) (c : Command) → CommandLine names line c → NamesNoBackend names line → ⊥
no_command names line c p q = parts_none names line c (line_parts names line c p) (lacking_parts names line q)

-- ---- what a line that was cut is

-- what is behind a verb is a command's arguments exactly where the line is that command
behind_verb : (names : List (List ℕ)) (line rest : List ℕ) (v : Verb) (c : Command) → line ≡ verb_word v ++ 32 ∷ rest → Parts names line c → AsksFor names v rest c
behind_verb names line rest v c e (lone p) = absurd (no_verb_before line v rest (lone_word line c p) e)
behind_verb names line rest v c e (behind u y f p) = moved (λ (x : Verb) (r : List ℕ). AsksFor names x r c) u v y rest (same_parts line u v y rest f e) p

-- what is behind a verb lacks a backend where the line names none
lacking_behind_verb : (names : List (List ℕ)) (line rest : List ℕ) (v : Verb) → line ≡ verb_word v ++ 32 ∷ rest → LackingParts names line → LacksAmong names v rest
lacking_behind_verb names line rest v e q = moved (LacksAmong names) q.verb v q.rest rest (same_parts line q.verb v q.rest rest q.spelled e) q.lacks

read_verb : (names : List (List ℕ)) (line rest : List ℕ) (v : Verb) (r : Result Command Unread) → line ≡ verb_word v ++ 32 ∷ rest → IsReadAs (AsksFor names v rest) (LacksAmong names v rest) r → IsReadAs (CommandLine names line) (NamesNoBackend names line) r
read_verb names line rest v (Ok c) e h = parts_line names line rest v c e h
read_verb names line rest v (Err NoBackend) e h = lacking_line names line rest v e h
read_verb names line rest v (Err NoCommand) e h = (λ c l. h.0 c (behind_verb names line rest v c e (line_parts names line c l)), λ n. h.1 (lacking_behind_verb names line rest v e (lacking_parts names line n)))

-- what was read behind a verb's word is what the line is read as
pub read_behind : (names : List (List ℕ)) (line word rest : List ℕ) (v : Verb) (r : Result Command Unread) → CutsWord line word (Some rest) → verb_named word ≡ Some v → IsReadAs (AsksFor names v rest) (LacksAmong names v rest) r → IsReadAs (CommandLine names line) (NamesNoBackend names line) r
read_behind names line word rest v r c e h = read_verb names line rest v r (c.1 ∙ ap (λ (w : List ℕ). w ++ 32 ∷ rest) (spelled_verb word v e)) h

-- a line whose first word is no verb's has no verb's word before a space
other_word : (line word rest : List ℕ) (v : Verb) (z : List ℕ) → CutsWord line word (Some rest) → verb_named word ≡ None → line ≡ verb_word v ++ 32 ∷ z → ⊥
other_word line word rest v z c none e =
    let k = one_cut word (verb_word v) rest z c.0 (word_of_verb v) (sym c.1 ∙ e) in
    let found : None ≡ Some v = sym none ∙ ap verb_named k.0 ∙ verb_named-word v in
    absurd (cc)

no_parts : (names : List (List ℕ)) (line word rest : List ℕ) (d : Command) → CutsWord line word (Some rest) → verb_named word ≡ None → Parts names line d → ⊥
no_parts names line word rest d c none (lone p) = no_space word rest (subst HasNoSpace c.1 (lone_word line d p))
no_parts names line word rest d c none (behind v z e p) = other_word line word rest v z c none e

-- a line whose first word is no verb's is no command
pub read_no_verb : (names : List (List ℕ)) (line word rest : List ℕ) → CutsWord line word (Some rest) → verb_named word ≡ None → IsNoCommand names line
read_no_verb names line word rest c none = (
  λ d l. no_parts names line word rest d c none (line_parts names line d l),
  λ n. let q = lacking_parts names line n in other_word line word rest q.verb q.rest c none q.spelled,
)

-- a line that is one word has no other parts
lone_parts : (names : List (List ℕ)) (line : List ℕ) (c : Command) → HasNoSpace line → Parts names line c → IsOneWordCommand line c
lone_parts names line c h (lone p) = p
lone_parts names line c h (behind v rest e p) = absurd (no_verb_before line v rest h e)

read_word : (names : List (List ℕ)) (line : List ℕ) (r : Result Command Unread) → HasNoSpace line → IsReadAs (IsOneWordCommand line) ⊥ r → IsReadAs (CommandLine names line) (NamesNoBackend names line) r
read_word names line (Ok c) h i = lone_line names line c i
read_word names line (Err NoBackend) h i = absurd i
read_word names line (Err NoCommand) h i = (
  λ c l. i.0 c (lone_parts names line c h (line_parts names line c l)),
  λ n. let q = lacking_parts names line n in no_verb_before line q.verb q.rest h q.spelled,
)

-- what a line's only word was read as is what the line is read as
pub read_lone : (names : List (List ℕ)) (line word : List ℕ) (r : Result Command Unread) → CutsWord line word None → IsReadAs (IsOneWordCommand word) ⊥ r → IsReadAs (CommandLine names line) (NamesNoBackend names line) r
read_lone names line word r c h = read_word names line r c.0 (subst (λ (w : List ℕ). IsReadAs (IsOneWordCommand w) ⊥ r) c.1 h)

-- ---- what was read

-- a backend is lacking exactly where that is said
pub read_no_backend : (names : List (List ℕ)) (line : List ℕ) (r : Result Command Unread) → IsReadAs (CommandLine names line) (NamesNoBackend names line) r → (r ≡ Err NoBackend) ↔ NamesNoBackend names line
read_no_backend names line (Ok c) h = (λ e. absurd (cc), λ n. absurd (no_command names line c h n))
read_no_backend names line (Err NoBackend) h = (λ e. h, λ n. refl)
read_no_backend names line (Err NoCommand) h = (λ e. absurd (cc), λ n. absurd (h.1 n))
