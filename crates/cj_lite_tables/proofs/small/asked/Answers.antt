use Rattle.cj_model.proofs.Askable.{read_askable}
use Rattle.cj_mem.proofs.Promised.{asked_is}
use Rattle.cj_lite_tables.proofs.small.asked.Goals as goal

pub returns : goal.returns
returns c =
    asked_is c.args.small.now 0 c.args.query.now c.in_ok-asked.asked c.legal.ensures (read_askable c.requires.text c.args.query.now c.requires.reads) c.in_ok-asked.ensures.asked c.in_ok-asked.ensures.rows
