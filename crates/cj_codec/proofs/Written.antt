-- What writing leaves where memory ran out.
use Rattle.std.proofs.Common.{◌≡◌, ℕ, List, [], ◌∷◌, ◌++◌, Result, Ok, Err, ap, ◌∙◌, append_assoc}
use Rattle.cj_model.specs.declared.memory.NoMemory.{NoMemory}
use Rattle.std.specs.Int.{w64, to_be_bytes, cast_unsigned}
use Rattle.cj_model.specs.declared.value.Value.{Value}
use Rattle.cj_model.specs.declared.value.Value.TheVariants.{Int, Text}
use Rattle.cj_model.specs.Wire.Fields.{str32}
use Rattle.cj_model.specs.Wire.Replies.{value_bytes}
use Rattle.cj_codec.specs.Fields.{tag_of}
use Rattle.cj_codec.specs.Writings.{Appends}

-- a front of the first of two parts is one of both
pub wider : (a b old new : List ℕ) (r s : Result (Unit {0}) NoMemory) (d e : NoMemory) → Appends a old new r → r ≡ Err d → s ≡ Err e → Appends (a ++ b) old new s
wider a b old new (Ok done) s d e h is also = absurd cc
wider a b old new (Err none) (Ok done) d e h is also = absurd cc
wider a b old new (Err none) (Err some) d e h is also =
    (h.0, h.1 ++ b, ap (λ (t : List ℕ). t ++ b) h.2 ∙ append_assoc h.0 h.1 b, h.3)

-- a value's tag is a front of it
pub tag_left : (v : Value) (old new : List ℕ) (r s : Result (Unit {0}) NoMemory) (d e : NoMemory) → Appends (tag_of v ∷ []) old new r → r ≡ Err d → s ≡ Err e → Appends (value_bytes v) old new s
tag_left (Int n) old new r s d e h is also = wider (1 ∷ []) (to_be_bytes w64 (cast_unsigned w64 n)) old new r s d e h is also
tag_left (Text t) old new r s d e h is also = wider (2 ∷ []) (str32 t) old new r s d e h is also
