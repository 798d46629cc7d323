use Rattle.cj_words.proofs.Cutting.{no_numbered}
use Rattle.cj_words.proofs.words.numbered.Goals as goal

pub returns-in-None : goal.returns-in-None
returns-in-None c = no_numbered c.args.rest.now _ c.in_default-Some.more.now (rw c.in_default-Some.is-1 at c.cut.ensures) c.in-None.ensures
