-- Words of a command.
use Rattle.std.proofs.Common.{◌≡◌, ◌∙◌, refl, sym, ap, subst, ℕ, Bool, true, false, not, ◌&&◌, ◌==◌, map}
use Rattle.std.proofs.Common.{string_bytes, String, List, [], ◌∷◌, ◌++◌, length, Option, None, Some}
use Rattle.std.proofs.lemmas.List.{map-append}
use Rattle.std.specs.Global.{Global}
use Rattle.std.specs.List.{list_all}
use Rattle.std.specs.Str.{IsUtf8, is_utf8}
use Rattle.std.proofs.lemmas.Bool.{and_parts, and_from}
use Rattle.std.proofs.lemmas.Str.{IsUtf8-from_is_utf8, is_utf8-from_IsUtf8}
use Rattle.cj_cases.specs.Lines.{before, behind, is_word, parts_between, parts_behind, words_of}
use Rattle.cj_cases.proofs.Cutting.{part_more}

-- a word more
pub all_more : (words : List (List ℕ)) (word : List ℕ) → list_all is_word words ≡ true → is_word word ≡ true
    → list_all is_word (words ++ word ∷ []) ≡ true
all_more [] word all is = and_from (is_word word) true is refl
all_more (w ∷ words) word all is =
    let parts = and_parts (is_word w) (list_all is_word words) all in
    and_from (is_word w) (list_all is_word (words ++ word ∷ [])) parts.0 (all_more words word parts.1 is)

-- one that is none among them
pub not_all : (words : List (List ℕ)) (word : List ℕ) (more : List (List ℕ)) → is_word word ≡ false
    → list_all is_word ((words ++ word ∷ []) ++ more) ≡ false
not_all [] word more none = ap (λ (b : Bool). b && list_all is_word more) none
not_all (w ∷ words) word more none =
    elim (is_word w) as (λ v. (v && list_all is_word ((words ++ word ∷ []) ++ more))
    ≡ false) [ true ↦ not_all words word more none | false ↦ refl ]

-- bytes that are no UTF-8 are no word
pub no_utf8 : (word : List ℕ) → (IsUtf8 word → ⊥) → is_word word ≡ false
no_utf8 word none =
    let no : is_utf8 word ≡ false =
    elim (is_utf8 word) as (λ v. is_utf8 word ≡ v
    → v ≡ false) [ true ↦ λ e. absurd (none (IsUtf8-from_is_utf8 word e)) | false ↦ λ e. refl ] refl in
    rw no (elim (not (length word == 0)) as (λ v. (v && false) ≡ false) [ true ↦ refl | false ↦ refl ])

-- so no words stand where one part is none
pub no_words : (text here : List ℕ) (rest : Option (List ℕ)) (words : List (List ℕ)) → (length text == 0) ≡ false
    → rest ≡ Some here → parts_between 32 text ≡ words ++ parts_behind 32 rest → is_word (before 32 here) ≡ false
    → None ≡ words_of text
no_words text here rest words some is so none =
    let all : list_all is_word (parts_between 32 text) ≡ false =
    ap (list_all is_word) (part_more 32 text here rest words is so)
    ∙ not_all words (before 32 here) (parts_behind 32 (behind 32 here)) none in
    rw (some, all) refl

-- an empty one is none
pub empty_word : (word : List ℕ) → (length word == 0) ≡ true → is_word word ≡ false
empty_word word none = rw none refl

-- one with bytes of UTF-8 is one
pub some_word : (word : List ℕ) → (length word == 0) ≡ false → IsUtf8 word → is_word word ≡ true
some_word word some utf8 = rw (some, is_utf8-from_IsUtf8 word utf8) refl

-- the words, with one more pushed behind them
map_pushed : (items items' : List (String Global)) (s : String Global) → items' ≡ items ++ s ∷ []
    → map string_bytes items' ≡ map string_bytes items ++ string_bytes s ∷ []
map_pushed items items' s is = ap (λ (l : List (String Global)). map string_bytes l) is
    ∙ map-append string_bytes items (s ∷ [])

-- the parts are these words and those of the rest
pub words_more : (text here : List ℕ) (rest more : Option (List ℕ)) (items items' : List (String Global))
    (s : String Global)
    → rest ≡ Some here → parts_between 32 text ≡ map string_bytes items ++ parts_behind 32 rest
    → items' ≡ items ++ s ∷ [] → string_bytes s ≡ before 32 here → more ≡ behind 32 here
    → parts_between 32 text ≡ map string_bytes items' ++ parts_behind 32 more
words_more text here rest more items items' s is so pushed bytes others =
    part_more 32 text here rest (map string_bytes items) is so
    ∙ ap (λ (w : List ℕ). (map string_bytes items ++ w ∷ []) ++ parts_behind 32 (behind 32 here)) (sym bytes)
    ∙ ap (λ (l : List (List ℕ)). l ++ parts_behind 32 (behind 32 here)) (sym (map_pushed items items' s pushed))
    ∙ ap (λ (r : Option (List ℕ)). map string_bytes items' ++ parts_behind 32 r) (sym others)

-- and all of them are words
pub words_all : (items items' : List (String Global)) (s : String Global) → items' ≡ items ++ s ∷ []
    → list_all is_word (map string_bytes items) ≡ true → is_word (string_bytes s) ≡ true
    → list_all is_word (map string_bytes items') ≡ true
words_all items items' s pushed all is =
    subst (λ (l : List (List ℕ)). list_all is_word l ≡ true) (sym (map_pushed items items' s pushed))
    (all_more (map string_bytes items) (string_bytes s) all is)
