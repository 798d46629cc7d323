use Rattle.std.proofs.Common.{◌≡◌, take}
use Rattle.cj_conf.specs.Confs.{kinds_of}
use Rattle.cj_conf.proofs.conf.kinds_of.Given as goal

abbrev pub invariant-loop-backend : goal.invariant-loop-backend
invariant-loop-backend l = l.kinds ≡ kinds_of (take l.backend-index l.backends)
