use Rattle.cj_sql.proofs.Texts.{read_from_tokens}
use Rattle.cj_sql.proofs.request.read.Goals as goal

pub returns : goal.returns
returns c = read_from_tokens c.args.text.now c.in_ok-found.found c.whole.result c.whole.new.tokens c.in_ok-found.ensures (rw c.new-tokens.ensures at c.whole.ensures)
