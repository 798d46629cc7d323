use Rattle.std.proofs.Common.{◌≡◌, ◌++◌, take}
use Rattle.cj_dump.proofs.Common.{flat_map, str16}
use Rattle.cj_dump.proofs.encoding.put_each.Given as goal

abbrev pub invariant-loop-name : goal.invariant-loop-name
invariant-loop-name l = l.out.items ≡ l.initial.out.items ++ flat_map str16 (take l.name-index l.names)
