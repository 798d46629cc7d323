use Rattle.std.proofs.Common.{◌≡◌, ◌++◌, take}
use Rattle.std.specs.List.{flat_map}
use Rattle.cj_reply.proofs.part.append_parts.Given as goal

abbrev pub invariant-loop-part : goal.invariant-loop-part
invariant-loop-part g l = l.frame.items ≡ l.initial.frame.items ++ flat_map g.T.Part.bytes (take l.part-index l.fn.parts)
