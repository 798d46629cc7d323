use Rattle.std.proofs.Common.{◌∷◌, [], Err, refl, arith}
use Rattle.cj_top.proofs.Common.{appends_none, NoMemory}
use Rattle.cj_top.proofs.program.write_text.Goals as goal

pub returns-in-Err-clause-writes : goal.returns-in-Err-clause-writes
returns-in-Err-clause-writes g c = record { text = 10 ∷ []; answer = Err NoMemory; bytes = (0, omega arith, appends_none (g.O.Sink.held c.args.output.now)); status_is = refl }
