use Rattle.std.proofs.Common.{◌≡◌, ℕ, Bool, true, false, List, Option, IfSome, ap, subst, ◌∙◌}
use Rattle.cj_model.specs.declared.database.Slot.{Slot}
use Rattle.cj_model.specs.Database.Queries.{ask}
use Rattle.cj_model.proofs.Askable.{read_askable}
use Rattle.cj_model.specs.declared.select.Select.{Select}
use Rattle.cj_model.specs.declared.answer.Asked.{Asked}
use Rattle.cj_mem.specs.MemoryBackends.{MemoryState, told_where_known}
use Rattle.cj_mem.proofs.Promised.{asked_is}
use Rattle.cj_mem.proofs.memory_backend.MemBackendBackend.ask.Goals as goal

-- an answer from what is held is one from what is told, where it is told
from_told : (known : Bool) (db : List Slot) (told : Option (List Slot)) (tx : ℕ) (query : Select) (a : Asked) → told_where_known known db ≡ told → a ≡ ask db tx query → IfSome told (λ held. a ≡ ask held tx query)
from_told true db told tx query a is same = subst (λ (t : Option (List Slot)). IfSome t (λ held. a ≡ ask held tx query)) is same
from_told false db told tx query a is same = subst (λ (t : Option (List Slot)). IfSome t (λ held. a ≡ ask held tx query)) is tt

pub returns-clause-answer : goal.returns-clause-answer
returns-clause-answer c =
    let query = c.args.query.now in
    from_told c.self.inside.known c.self.inside.tables c.args.self.now.told c.args.tx query c.in_ok-answer.answer (ap (λ (m : MemoryState). m.told) c.self.view_is)
    (c.in_ok-answer.ensures.asked ∙ ap (λ (db : List Slot). ask db c.args.tx query) c.tables-tables.ensures)

pub returns-clause-held_answer : goal.returns-clause-held_answer
returns-clause-held_answer c =
    let same : c.tables-tables.result.now ≡ c.args.self.now.held = c.tables-tables.ensures ∙ ap (λ (m : MemoryState). m.held) c.self.view_is in
    c.in_ok-answer.ensures.asked ∙ ap (λ (held : List Slot). ask held c.args.tx c.args.query.now) same

pub returns-clause-possible : goal.returns-clause-possible
returns-clause-possible c =
    asked_is c.tables-tables.result.now c.args.tx c.args.query.now c.in_ok-answer.answer c.legal.ensures (read_askable c.requires.text c.args.query.now c.requires.reads) c.in_ok-answer.ensures.asked c.in_ok-answer.ensures.rows
