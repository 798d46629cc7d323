-- The weights of backends.
use Rattle.std.specs.Prelude.{◌≤◌}
use Rattle.cj_balance.specs.declared.balancer.TheConstants.{MOST_WEIGHT}
use Rattle.cj_conf.specs.declared.backend.Backend.{Backend}

-- the weight is 1 to 1,000
pub record IsWeighted (backend : Backend) : Type 0 where
  pub some : 1 ≤ backend.weight
  pub most : backend.weight ≤ MOST_WEIGHT
