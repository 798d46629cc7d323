use Rattle.std.proofs.Common.{◌≡◌, take}
use Rattle.cj_conf.specs.Confs.{names_of}
use Rattle.cj_conf.proofs.conf.names_of.Given as goal

abbrev pub invariant-loop-backend : goal.invariant-loop-backend
invariant-loop-backend l = l.names ≡ names_of (take l.backend-index l.backends)
