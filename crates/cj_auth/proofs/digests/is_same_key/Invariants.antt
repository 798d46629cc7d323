use Rattle.std.proofs.Common.{◌≡◌, ◌==◌, ◌&&◌, drop}
use Rattle.std.specs.Str.{bytes_eq}
use Rattle.cj_auth.proofs.digests.is_same_key.Given as goal

abbrev pub invariant-loop-i : goal.invariant-loop-i
invariant-loop-i l = (l.difference == 0 && bytes_eq (drop l.i l.key) (drop l.i l.other)) ≡ bytes_eq l.key l.other
