use Rattle.cj_desk.proofs.ChainEntries.{stands_over}
use Rattle.cj_desk.proofs.laws.chains_stand_over_their_histories.Goals as goal

pub returns : goal.returns
returns c = λ tells a z chain. stands_over tells a z chain
