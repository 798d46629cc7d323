-- The line of a move as its parts.
use Rattle.std.proofs.Common.{◌≡◌, ◌∙◌, refl, sym, ap, subst, ℕ, List, [], ◌∷◌, ◌++◌, codes, map, Option, Some, None, Result, Ok, Err, IfOk, inl, inr}
use Rattle.std.proofs.lemmas.Bool.{cases_Bool}
use Rattle.std.proofs.lemmas.Slice.Eq.{bytes_eq-Decides}
use Rattle.cj_script.proofs.Common.{bytes_eq, HasNoSpace, Move, MoveLine}
use Rattle.cj_cluster.specs.declared.moves.Move.TheVariants as move
use Rattle.cj_script.specs.declared.verb.Verb.{Verb}
use Rattle.cj_script.specs.declared.verb.Verb.TheVariants.{Open, Close, Write, Abort, Apply, End, Read, Arm, Disable, Replay, Enable, Mark, Dump, Load}
use Rattle.cj_script.specs.declared.verb.TheConstants.{VERBS}
use Rattle.cj_script.specs.Reading.{find_verb, verb_of, word_of, Arguments}
use Rattle.cj_words.specs.Words.{CutsWord, FindsValue}
use Rattle.cj_words.proofs.Cutting.{no_space, cut_one}

-- ---- words of verbs

-- each verb's word is found
verb_of-word_of : (v : Verb) → verb_of (word_of v) ≡ Some v
unfolding verb_of
verb_of-word_of Open = refl
verb_of-word_of Close = refl
verb_of-word_of Write = refl
verb_of-word_of Abort = refl
verb_of-word_of Apply = refl
verb_of-word_of End = refl
verb_of-word_of Read = refl
verb_of-word_of Arm = refl
verb_of-word_of Disable = refl
verb_of-word_of Replay = refl
verb_of-word_of Enable = refl
verb_of-word_of Mark = refl
verb_of-word_of Dump = refl
verb_of-word_of Load = refl

-- each is a word
word_of_verb : (v : Verb) → HasNoSpace (word_of v)
word_of_verb Open = refl
word_of_verb Close = refl
word_of_verb Write = refl
word_of_verb Abort = refl
word_of_verb Apply = refl
word_of_verb End = refl
word_of_verb Read = refl
word_of_verb Arm = refl
word_of_verb Disable = refl
word_of_verb Replay = refl
word_of_verb Enable = refl
word_of_verb Mark = refl
word_of_verb Dump = refl
word_of_verb Load = refl

-- the table says of each verb its word
Agrees : List (List ℕ × Verb) → Type 0
Agrees [] = Unit {0}
Agrees (k ∷ ks) = (k.0 ≡ word_of k.1) × Agrees ks

-- so does what is found in it
lookup_word : (table : List (List ℕ × Verb)) (word : List ℕ) (v : Verb) → Agrees table → find_verb table word ≡ Some v → word ≡ word_of v
unfolding Agrees
lookup_word [] word v a e = absurd (cc)
lookup_word (k ∷ ks) word v a e = elim (cases_Bool (bytes_eq k.0 word)) [
  | inl t ↦
      let same : k.0 ≡ word = (bytes_eq-Decides k.0 word).0 t in
      let found = rw t at e in
      let verb : k.1 ≡ v = cc in
      sym same ∙ a.0 ∙ ap word_of verb
  | inr f ↦ lookup_word ks word v a.1 (rw f at e)
]

found_word : (word : List ℕ) (v : Verb) → verb_of word ≡ Some v → word ≡ word_of v
unfolding verb_of Agrees
found_word word v e = lookup_word (map (λ v. (v.0.now, v.1)) VERBS) word v (refl, (refl, (refl, (refl, (refl, (refl, (refl, (refl, (refl, (refl, (refl, (refl, (refl, (refl, tt)))))))))))))) e

-- ---- parts

-- a move's line is "end", or the word of a verb, a space and its arguments
data Parts (names : List (List ℕ)) (line : List ℕ) (m : Move) : Type 0 where
  lone : line ≡ codes "end" → m ≡ move.End → Parts names line m
  behind : (v : Verb) (rest : List ℕ) → line ≡ word_of v ++ 32 ∷ rest → Arguments names v rest m → Parts names line m

line_parts : (names : List (List ℕ)) (line : List ℕ) (m : Move) → MoveLine names line m → Parts names line m
line_parts names line (move.Open user) h = behind Open user h.1 (h.0, refl)
line_parts names line (move.Close s) h = behind Close h.0 h.2 (s, h.1, refl)
line_parts names line (move.Schedule s r) h =
    behind Write (h.0 ++ 32 ∷ h.1) h.4 (record { session = s; sql = h.1; numbered = record { word = h.0; number = h.2; parts = refl }; request = r; reads = h.3; is = refl })
line_parts names line (move.Abort tx) h = behind Abort h.0 h.2 (tx, h.1, refl)
line_parts names line (move.Apply b) h = behind Apply h.0 h.2 (b, h.1, refl)
line_parts names line move.End h = lone h refl
line_parts names line (move.Read s b select) h =
    behind Read (h.0 ++ 32 ∷ (h.1 ++ 32 ∷ h.2)) h.6
    (record {
      session = s;
      more = h.1 ++ 32 ∷ h.2;
      numbered = record { word = h.0; number = h.3; parts = refl };
      b = b;
      sql = h.2;
      named = record { word = h.1; backend = h.4; parts = refl };
      select = select;
      reads = h.5;
      is = refl;
    })
line_parts names line (move.Arm b) h = behind Arm h.0 h.2 (b, h.1, refl)
line_parts names line (move.Disable b) h = behind Disable h.0 h.2 (b, h.1, refl)
line_parts names line (move.Replay b) h = behind Replay h.0 h.2 (b, h.1, refl)
line_parts names line (move.Enable b) h = behind Enable h.0 h.2 (b, h.1, refl)
line_parts names line (move.Mark name) h = behind Mark name h.1 (h.0, refl)
line_parts names line (move.Dump b name) h = behind Dump (h.0 ++ 32 ∷ name) h.3 (b, name, (record { word = h.0; backend = h.1; parts = refl }, h.2), refl)
line_parts names line (move.Load b name) h = behind Load (h.0 ++ 32 ∷ name) h.3 (b, name, (record { word = h.0; backend = h.1; parts = refl }, h.2), refl)

-- and such parts are a move's line
parts_line : (names : List (List ℕ)) (line rest : List ℕ) (v : Verb) (m : Move) → line ≡ word_of v ++ 32 ∷ rest → Arguments names v rest m → MoveLine names line m
parts_line names line rest Open m e a = subst (MoveLine names line) (sym a.1) (a.0, e)
parts_line names line rest Close m e a = subst (MoveLine names line) (sym a.2) (rest, a.1, e)
parts_line names line rest Write m e a =
    subst (MoveLine names line) (sym a.is) (a.numbered.word, a.sql, a.numbered.number, a.reads, e ∙ ap (λ (z : List ℕ). word_of Write ++ 32 ∷ z) a.numbered.parts)
parts_line names line rest Abort m e a = subst (MoveLine names line) (sym a.2) (rest, a.1, e)
parts_line names line rest Apply m e a = subst (MoveLine names line) (sym a.2) (rest, a.1, e)
parts_line names line rest End m e a = absurd a
parts_line names line rest Read m e a =
    subst (MoveLine names line) (sym a.is) (
      a.numbered.word,
      a.named.word,
      a.sql,
      a.numbered.number,
      a.named.backend,
      a.reads,
      e ∙ ap (λ (z : List ℕ). word_of Read ++ 32 ∷ z) (a.numbered.parts ∙ ap (λ (z : List ℕ). a.numbered.word ++ 32 ∷ z) a.named.parts),
    )
parts_line names line rest Arm m e a = subst (MoveLine names line) (sym a.2) (rest, a.1, e)
parts_line names line rest Disable m e a = subst (MoveLine names line) (sym a.2) (rest, a.1, e)
parts_line names line rest Replay m e a = subst (MoveLine names line) (sym a.2) (rest, a.1, e)
parts_line names line rest Enable m e a = subst (MoveLine names line) (sym a.2) (rest, a.1, e)
parts_line names line rest Mark m e a = subst (MoveLine names line) (sym a.1) (a.0, e)
parts_line names line rest Dump m e a =
    subst (MoveLine names line) (sym a.3) (a.2.0.word, a.2.0.backend, a.2.1, e ∙ ap (λ (z : List ℕ). word_of Dump ++ 32 ∷ z) a.2.0.parts)
parts_line names line rest Load m e a =
    subst (MoveLine names line) (sym a.3) (a.2.0.word, a.2.0.backend, a.2.1, e ∙ ap (λ (z : List ℕ). word_of Load ++ 32 ∷ z) a.2.0.parts)

-- ---- what a line that was cut is

-- behind its first word a line has the arguments of a move exactly where it is that move's
arguments_of : (names : List (List ℕ)) (line word rest : List ℕ) (v : Verb) (m : Move) → CutsWord line word (Some rest) → verb_of word ≡ Some v → MoveLine names line m → Arguments names v rest m
arguments_of names line word rest v m c e h = elim (line_parts names line m h) [
  | lone is last ↦ absurd (no_space word rest (subst HasNoSpace (sym is ∙ c.1) refl))
  | behind u z is a ↦
      let k = cut_one line word rest (word_of u) z c (word_of_verb u) is in
      let verb : Some u ≡ Some v = sym (verb_of-word_of u) ∙ ap verb_of (sym k.0) ∙ e in
      let same : u ≡ v = cc in
      let after : z ≡ rest = sym k.1 in
      let moved = subst (λ y. Arguments names u y m) after a in
      subst (λ w. Arguments names w rest m) same moved
]

-- a line with a verb and more
found_behind : (names : List (List ℕ)) (line word rest : List ℕ) (v : Verb) (o : Option Move) → CutsWord line word (Some rest) → verb_of word ≡ Some v → FindsValue (Arguments names v rest) o → FindsValue (MoveLine names line) o
found_behind names line word rest v None c e f = λ m h. f m (arguments_of names line word rest v m c e h)
found_behind names line word rest v (Some x) c e f =
    let spelled : line ≡ word_of v ++ 32 ∷ rest = c.1 ∙ ap (λ (w : List ℕ). w ++ 32 ∷ rest) (found_word word v e) in
    (parts_line names line rest v x spelled f.0, λ m h. f.1 m (arguments_of names line word rest v m c e h))

-- a line that begins with no verb
pub no_verb : (names : List (List ℕ)) (line word rest : List ℕ) → CutsWord line word (Some rest) → verb_of word ≡ None → (m : Move) → MoveLine names line m → ⊥
no_verb names line word rest c e m h = elim (line_parts names line m h) [
  | lone is last ↦ no_space word rest (subst HasNoSpace (sym is ∙ c.1) refl)
  | behind u z is a ↦
      let k = cut_one line word rest (word_of u) z c (word_of_verb u) is in
      let verb : Some u ≡ None = sym (verb_of-word_of u) ∙ ap verb_of (sym k.0) ∙ e in
      absurd (cc)
]

-- the same of what parsing answers
pub read_behind : {E : Type 0} (names : List (List ℕ)) (line word rest : List ℕ) (v : Verb) (r : Result (Option Move) E) → CutsWord line word (Some rest) → verb_of word ≡ Some v → IfOk r (FindsValue (Arguments names v rest)) → IfOk r (FindsValue (MoveLine names line))
read_behind names line word rest v (Ok o) c e f = found_behind names line word rest v o c e f
read_behind names line word rest v (Err x) c e f = tt
