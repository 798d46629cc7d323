use Rattle.std.proofs.Common.{sym}
use Rattle.std.specs.BTreeMap.{is_at}
use Rattle.cj_ptree.proofs.PlaceLaws.{remove_absent}
use Rattle.cj_ptree.proofs.tree.PTree.remove.Goals as goal

pub returns-in_default-clause-ok : goal.returns-in_default-clause-ok
returns-in_default-clause-ok g c = remove_absent (is_at (g.K.Ord.cmp c.args.key.now)) c.args.self.now (sym c.in_default.ensures)
