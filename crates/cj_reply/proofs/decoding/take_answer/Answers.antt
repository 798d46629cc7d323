use Rattle.std.proofs.Common.{List, Ok, ap, sym, ◌∙◌, rules}
use Rattle.cj_model.specs.declared.value.Value.{Value}
use Rattle.cj_reply.proofs.Taken.{answer_stopped, answer_taken}
use Rattle.cj_reply.proofs.decoding.take_answer.Goals as goal

pub returns-in_err-rows : goal.returns-in_err-rows
returns-in_err-rows c =
    answer_stopped c.in_ok-columns.columns c.len.result c.args.reader.now c.take_columns.new.reader c.list32.new.self c.in_err-rows.field-0.0 c.from_residual-in_err-rows.result c.in_ok-columns.ensures.0 c.len.ensures c.in_err-rows.ensures (search rules)

pub returns : goal.returns
returns c = (
  answer_taken c.in_ok-columns.columns c.in_ok-rows.rows c.len.result c.args.reader.now.rest c.take_columns.new.reader.rest c.list32.new.self.rest c.in_ok-columns.ensures.0 c.len.ensures c.in_ok-rows.ensures.0
      ∙ ap (λ (rows : List (List Value)). Ok (record { columns = c.in_ok-columns.columns; rows = rows }, c.list32.new.self.rest)) (sym c.in_ok-rows-2.ensures),
  c.in_ok-rows.ensures.1 ∙ c.in_ok-columns.ensures.1,
)
