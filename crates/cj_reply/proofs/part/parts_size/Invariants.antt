use Rattle.std.proofs.Common.{◌≡◌, length, take}
use Rattle.std.specs.List.{flat_map}
use Rattle.cj_reply.specs.Encode.{capped}
use Rattle.cj_reply.proofs.part.parts_size.Given as goal

abbrev pub invariant-loop-part : goal.invariant-loop-part
invariant-loop-part g l = l.total ≡ capped (length (flat_map g.T.Part.bytes (take l.part-index l.fn.parts)))
