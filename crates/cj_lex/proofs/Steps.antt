-- One more byte of a string or of a number.
use Rattle.std.proofs.Common.{◌≡◌, ℕ, ◌+◌, ◌-◌, ◌*◌, ◌^◌, ◌<◌, min, List, ◌++◌, length, take, get_or, refl, ap, append_assoc, arith}
use Rattle.std.proofs.lemmas.List.Sums.{fold_more}
use Rattle.cj_model.specs.Sql.Lexical.{number_spelled}
use Rattle.cj_lex.specs.Proving.Cut.{Closed, unclosed, closed, with_front}

-- more at the front is more behind it
pub behind_more : (front more : List ℕ) (c : Closed) → with_front (front ++ more) c ≡ with_front front (with_front more c)
behind_more front more unclosed = refl
behind_more front more (closed x rest) = ap (λ y. closed y rest) (append_assoc front more x)

-- one digit more, as far as the largest `u64`
pub value_more : (z : List ℕ) (i n k : ℕ) → i < length z → n ≡ min (number_spelled (take i z)) (2 ^ 64 - 1) → k ≡ min (10 * n + (get_or z i 0 - 48)) (2 ^ 64 - 1)
    → k ≡ min (number_spelled (take (i + 1) z)) (2 ^ 64 - 1)
value_more z i n k h e f =
    let step : number_spelled (take (i + 1) z) ≡ 10 * number_spelled (take i z) + (get_or z i 0 - 48) = fold_more (λ n b. 10 * n + (b - 48)) 0 z i 0 h in
    omega arith
