-- The document of bytes, by what the reader of documents says.
use Rattle.std.proofs.Common.{◌≡◌, ◌∙◌, ℕ, true, false, cond, List, ap, ⊎_elim}
use Rattle.std.specs.Str.{IsUtf8, is_utf8}
use Rattle.std.proofs.lemmas.Bool.{cases_Bool}
use Rattle.std.proofs.lemmas.Str.{IsUtf8-from_is_utf8, is_utf8-from_IsUtf8}
use Rattle.cj_conf.proofs.Common.{Members, None, parse_document, Some}
use Rattle.cj_conf.specs.Confs.{document_of}

pub has_document : (bytes : List ℕ) (ms : Members) → IsUtf8 bytes → parse_document bytes ≡ Some ms → document_of bytes ≡ Some ms
has_document bytes ms utf8 is = ap (λ b. cond b (parse_document bytes) None) (is_utf8-from_IsUtf8 bytes utf8) ∙ is

pub has_none : (bytes : List ℕ) → (IsUtf8 bytes → parse_document bytes ≡ None) → document_of bytes ≡ None
has_none bytes none =
    ⊎_elim
    (λ (t : is_utf8 bytes ≡ true). ap (λ b. cond b (parse_document bytes) None) t ∙ none (IsUtf8-from_is_utf8 bytes t))
    (λ (f : is_utf8 bytes ≡ false). ap (λ b. cond b (parse_document bytes) None) f)
    (cases_Bool (is_utf8 bytes))
