use Rattle.std.proofs.Common.{sym, subst}
use Rattle.cj_script.specs.Reading.{Arguments}
use Rattle.cj_words.specs.Words.{FindsValue}
use Rattle.cj_script.proofs.arguments.arguments.Goals as goal

pub returns-in-Close : goal.returns-in-Close
returns-in-Close c = subst (λ v. FindsValue (Arguments c.args.names.now v c.args.rest.now) c.close.result) (sym c.in-Close.is) c.close.ensures

pub returns-in-Abort : goal.returns-in-Abort
returns-in-Abort c = subst (λ v. FindsValue (Arguments c.args.names.now v c.args.rest.now) c.abort.result) (sym c.in-Abort.is) c.abort.ensures

pub returns-in-Dump : goal.returns-in-Dump
returns-in-Dump c = subst (λ v. FindsValue (Arguments c.args.names.now v c.args.rest.now) c.dump.result) (sym c.in-Dump.is) c.dump.ensures

pub returns-in-Load : goal.returns-in-Load
returns-in-Load c = subst (λ v. FindsValue (Arguments c.args.names.now v c.args.rest.now) c.load.result) (sym c.in-Load.is) c.load.ensures
