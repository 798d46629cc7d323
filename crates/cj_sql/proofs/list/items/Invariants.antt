use Rattle.std.proofs.Common.{◌≡◌, ◌-◌}
use Rattle.cj_sql.specs.Proving.Reader as spec
use Rattle.cj_sql.proofs.list.items.Given as goal

-- what is left to read after the items found so far
abbrev pub invariant-loop-turn : goal.invariant-loop-turn
invariant-loop-turn g l = spec.items g.T.Element.reader l.limit l.fn.tokens ≡ spec.items_from g.T.Element.reader (l.limit - l._turn) l.found l.tokens
