use Rattle.cj_words.proofs.Cutting.{no_name}
use Rattle.cj_words.proofs.words.named.Goals as goal

pub returns-in-None : goal.returns-in-None
returns-in-None c = no_name c.args.names.now c.args.rest.now _ c.in_default-Some.more.now (rw c.in_default-Some.is-1 at c.cut.ensures) c.in-None.ensures
