use Rattle.cj_cluster.specs.declared.moves.Move.TheVariants as move
use Rattle.cj_script.proofs.Requests.{of_dump, of_no_dump}
use Rattle.cj_script.proofs.arguments.dump.Goals as goal

pub returns-in-Some : goal.returns-in-Some
returns-in-Some c = of_dump c.args.names.now move.Dump c.args.rest.now (c.in-Some.b, c.in-Some.name) (rw c.in-Some.is at c.dump_named.ensures)

pub returns-in-None : goal.returns-in-None
returns-in-None c = of_no_dump c.args.names.now move.Dump c.args.rest.now (rw c.in-None.is at c.dump_named.ensures)
