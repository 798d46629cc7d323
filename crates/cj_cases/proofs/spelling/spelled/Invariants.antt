use Rattle.std.proofs.Common.{◌≡◌, drop}
use Rattle.cj_cases.specs.Spellings.{spelled, spelled_from, IsDigitAt}
use Rattle.cj_cases.proofs.ByteByByte.{led_by_all}
use Rattle.cj_cases.proofs.spelling.spelled.Given as goal

-- the text spells the bytes so far, and what the rest does from this place on
abbrev pub invariant-loop-b : goal.invariant-loop-b
invariant-loop-b l = record {
  place : IsDigitAt l.place;
  so_far : spelled l.text ≡ led_by_all l.bytes.items (spelled_from l.place (drop l.b-index l.text));
}
