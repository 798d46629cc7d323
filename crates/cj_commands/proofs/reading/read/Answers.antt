use Rattle.std.proofs.Common.{◌∙◌, sym}
use Rattle.cj_commands.proofs.CommandLines.{read_behind, read_lone, read_no_verb}
use Rattle.cj_commands.proofs.reading.read.Goals as goal

pub returns-in-Some : goal.returns-in-Some
returns-in-Some c =
    let cuts = rw c.in_default-Some.is-1 at c.cut.ensures in
    read_behind c.args.names.now c.args.line.now c.cut.result.0.now c.in_default-Some.rest.now c.in-Some.verb c.arguments.result cuts (sym c.verb_of.ensures ∙ c.in-Some.is)
    (rw c.in_default-Some.rest-is at c.arguments.ensures)

pub returns-in-None : goal.returns-in-None
returns-in-None c =
    let cuts = rw c.in_default-Some.is-1 at c.cut.ensures in
    read_no_verb c.args.names.now c.args.line.now c.cut.result.0.now c.in_default-Some.rest.now cuts (sym c.verb_of.ensures ∙ c.in-None.is)

pub returns-in_default-None : goal.returns-in_default-None
returns-in_default-None c = read_lone c.args.names.now c.args.line.now c.cut.result.0.now c.lone.result (rw c.in_default-None.is-1 at c.cut.ensures) c.lone.ensures
