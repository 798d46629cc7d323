-- Parts one after another, counted and spelled.
use Rattle.std.proofs.Common.{◌≡◌, refl, ap, sym, ◌∙◌, ℕ, suc, ◌+◌, ◌<◌, ◌≤◌, List, [], ◌∷◌, ◌++◌, length, get_or, arith, length-append}
use Rattle.std.specs.List.{flat_map, All}
use Rattle.std.specs.Int.{w32, to_be_bytes}
use Rattle.std.proofs.lemmas.Bool.{and_parts, leb-true}
use Rattle.std.proofs.lemmas.Grind.{flat_map-append}
use Rattle.std.proofs.lemmas.List.Concat.{flat_map-cons}
use Rattle.std.proofs.lemmas.List.Folds.{length-flat_map-take}
use Rattle.cj_model.specs.declared.answer.Answer.{Answer}
use Rattle.cj_model.specs.declared.answer.Reply.TheVariants.{Rows}
use Rattle.cj_model.specs.declared.value.Value.{Value}
use Rattle.cj_model.specs.declared.value.Value.TheVariants.{Int, Text}
use Rattle.cj_model.specs.Wire.Fields.{str16}
use Rattle.cj_model.specs.Sql.Names.{is_name, IsNameOrEmpty}
use Rattle.cj_model.specs.Wire.Replies.{value_bytes, row_bytes, reply_length, IsEven}

-- a part is no longer than all of them
pub part_within : {X : Type 0} (f : X → List ℕ) (xs : List X) (i most : ℕ) (x : X) → i < length xs → x ≡ get_or xs i x → length (flat_map f xs) ≤ most → length (f x) ≤ most
part_within f xs i most x h is all = omega (arith, length-flat_map-take f xs i x h, ap (λ y. length (f y)) is)

-- the parts of lists, one list behind another
pub parts_together : {X : Type 0} (f : X → List ℕ) (lists : List (List X)) → flat_map f (flat_map (λ list. list) lists) ≡ flat_map (flat_map f) lists
parts_together f [] = refl
parts_together f (l ∷ ls) =
    ap (flat_map f) (flat_map-cons (λ list. list) l ls) ∙ flat_map-append f l (flat_map (λ list. list) ls)
    ∙ ap (λ bytes. flat_map f l ++ bytes) (parts_together f ls) ∙ sym (flat_map-cons (flat_map f) l ls)

-- parts that have bytes are no more than all of their bytes
pub count_within : {X : Type 0} (f : X → List ℕ) (xs : List X) → All (λ x. 0 < length (f x)) xs → length xs ≤ length (flat_map f xs)
count_within f [] each = omega arith
count_within f (x ∷ xs) each =
    let here : 0 < length (f x) = each 0 x (omega arith) in
    let rest : length xs ≤ length (flat_map f xs) = count_within f xs (λ k d h. each (suc k) d (omega arith)) in
    omega (arith, length-append (f x) (flat_map f xs))

-- each value has bytes
value_some : (v : Value) → 0 < length (value_bytes v)
value_some (Int n) = omega arith
value_some (Text t) = omega arith

-- so has each row of some values
row_some : (row : List Value) → 0 < length row → 0 < length (row_bytes row)
row_some row h = omega (arith, count_within value_bytes row (λ k d l. value_some (get_or row k d)))

-- a name has 32 bytes at most
pub name_short : (bytes : List ℕ) → IsNameOrEmpty bytes → length bytes ≤ 32
unfolding is_name
name_short [] h = omega arith
name_short (b ∷ z) h = leb-true _ _ (and_parts _ _ h).0

-- an answer's columns and rows have no more bytes than the whole
pub answer_parts : (a : Answer) (most : ℕ) → reply_length (Rows a) ≤ most → (length (flat_map str16 a.columns) ≤ most) × (length (flat_map row_bytes a.rows) ≤ most)
answer_parts a most h =
    let columns = flat_map str16 a.columns in
    let rows = flat_map row_bytes a.rows in
    let count = to_be_bytes w32 (length a.rows) in
    let e : length (columns ++ count ++ rows) ≡ length columns + length count + length rows = simp length-append in
    (omega (arith, h, e), omega (arith, h, e))

-- an answer has no more rows than bytes
pub rows_within : (a : Answer) (most : ℕ) → IsEven a → length (flat_map row_bytes a.rows) ≤ most → length a.rows ≤ most
rows_within a most even h = omega (arith, count_within row_bytes a.rows (λ k d l. let e = even.each k d l in row_some (get_or a.rows k d) (omega (arith, e, even.some))))
