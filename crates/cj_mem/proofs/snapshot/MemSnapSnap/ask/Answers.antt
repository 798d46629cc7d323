use Rattle.std.proofs.Common.{List, ap, ◌∙◌}
use Rattle.cj_model.specs.declared.database.Slot.{Slot}
use Rattle.cj_model.specs.Database.Queries.{ask}
use Rattle.cj_model.proofs.Askable.{read_askable}
use Rattle.cj_mem.proofs.Promised.{asked_is}
use Rattle.cj_mem.proofs.snapshot.MemSnapSnap.ask.Goals as goal

pub returns-clause-answer : goal.returns-clause-answer
returns-clause-answer c = c.in_ok-answer.ensures.asked ∙ ap (λ (db : List Slot). ask db c.args.tx c.args.query.now) c.deref-tables.ensures

pub returns-clause-possible : goal.returns-clause-possible
returns-clause-possible c =
    asked_is c.deref-tables.result.now c.args.tx c.args.query.now c.in_ok-answer.answer c.legal.ensures (read_askable c.requires.text c.args.query.now c.requires.reads) c.in_ok-answer.ensures.asked c.in_ok-answer.ensures.rows
