use Rattle.std.proofs.Common.{[], List, ℕ, Err, ◌∙◌, subst, arith, rules}
use Rattle.cj_top.proofs.Common.{appends_none, NoMemory, WritesAll}
use Rattle.cj_top.proofs.configured.write_refusal.Goals as goal

pub returns-in-Ok : goal.returns-in-Ok
returns-in-Ok g c =
    let text = c.in-Ok.ensures in
    record {
      explanation = text.0;
      answer = c.write_all.result;
      bytes =
          subst (λ (piece : List ℕ). WritesAll (g.E.Sink.held c.args.errors.now) (g.E.Sink.held c.write_all.new.output) piece c.write_all.result) (c.deref.ensures.value ∙ text.1)
          c.write_all.ensures.bytes;
      cause = c.write_all.ensures.cause;
    }

pub returns-in-Err : goal.returns-in-Err
returns-in-Err g c =
    record {
      explanation = [];
      answer = Err NoMemory;
      bytes = (0, omega arith, appends_none (g.E.Sink.held c.args.errors.now));
      cause = search rules;
    }
