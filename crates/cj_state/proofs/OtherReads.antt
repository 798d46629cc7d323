-- Whether another read of a session is open.
use Rattle.std.proofs.Common.{◌≡◌, Bool, true, false, not, Some, MatchBool, refl, sym, ap, ◌∙◌}
use Rattle.cj_state.proofs.Common.{both_ways, IsTrue, OpenSession, Select, ◌↔◌}
use Rattle.cj_cluster.specs.declared.moves.OpenRead.{OpenRead}
use Rattle.cj_cluster.specs.Moves.Moves.{HasOtherRead, HasNoOtherRead}

pub other_read : (r : OpenRead) (x : OpenSession) (select : Select) (same : Bool) → x.reading ≡ Some r → IsTrue same ↔ (r.select ≡ select) → MatchBool (not same) (HasOtherRead x select) (HasNoOtherRead x select)
other_read r x select true is e = λ q there. (let one : r ≡ q = cc (is, there) in ap (λ (z : OpenRead). z.select) (sym one) ∙ e.0 refl)
other_read r x select false is e = (r, is, λ same. both_ways false refl (e.1 same))
