use Rattle.std.specs.Bool.{one_answer}
use Rattle.cj_model.specs.Proving.SameStatements.{same_statement, same_statement-Decides}
use Rattle.cj_model.proofs.key.SelectPartialEq.eq.Goals as goal

pub returns : goal.returns
returns c =
    let s = c.args.self.now in
    let t = c.args.other.now in
    one_answer c.is_same.result (same_statement s t) c.is_same.ensures (same_statement-Decides s t)
