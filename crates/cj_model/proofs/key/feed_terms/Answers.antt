use Rattle.std.specs.Hash.{fed_then}
use Rattle.cj_model.specs.Proving.SameStatements.{fed_term}
use Rattle.cj_model.proofs.key.feed_terms.Goals as goal

pub returns : goal.returns
returns g c = fed_then g.H.Hasher.write c.args.state.now c.feed_term.new.state c.feed_term-2.new.state (fed_term c.args.left.now) (fed_term c.args.right.now) c.feed_term.ensures c.feed_term-2.ensures
