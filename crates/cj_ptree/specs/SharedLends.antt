-- What a shared value ends as, where it is lent.
use Rattle.std.specs.declared.result.Result.{Result}
use Rattle.std.specs.Borrow.{Fml, LendsIfOk, MutBor, RattleType}
use Rattle.cj_model.specs.declared.memory.NoMemory.{NoMemory}
use Rattle.cj_ptree.specs.contracts.shared.Shared.{the_row}

-- the owner has the value that is left, and the one it had where none was lent
abbrev pub LendsShared : (T : RattleType) → MutBor T.Denot → Result (MutBor T.Denot) NoMemory → Fml
LendsShared T shared value = LendsIfOk (the_row T) T shared value (λ left. left) shared.now
