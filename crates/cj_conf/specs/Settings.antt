-- The settings of a document: each key in turn, then that there are no others.
use Rattle.std.specs.Prelude.{List, [], ◌∷◌}
use Rattle.std.specs.declared.result.Result.{Result}
use Rattle.toml.specs.Data.{Members}
use Rattle.cj_conf.specs.declared.key.Key.{Key}
use Rattle.cj_conf.specs.declared.key.Key.TheVariants as key
use Rattle.cj_conf.specs.declared.error.ConfError.{ConfError}
use Rattle.cj_conf.specs.declared.settings.Settings.{Settings}
use Rattle.cj_conf.specs.Fields.{and_then, level_at, number_at, policy_at, with_only}
use Rattle.cj_conf.specs.Rows.{backends_at, tables_at, users_at}

-- the keys that a document may have
abbrev pub document_keys : List Key
document_keys = key.Level ∷ key.Policy ∷ key.Cache ∷ key.Seed ∷ key.Connections ∷ key.Backends ∷ key.Tables ∷ key.Users ∷ []

-- the settings of a document, or the first refusal in this order of keys, and last that of an unknown key
abbrev pub settings_of : Members → Result Settings ConfError
settings_of ms =
    and_then (level_at ms) (λ level.
    and_then (policy_at ms) (λ policy.
    and_then (number_at key.Cache 0 65536 64 ms) (λ cache.
    and_then (number_at key.Seed 0 9223372036854775807 0 ms) (λ seed.
    and_then (number_at key.Connections 0 9223372036854775807 0 ms) (λ connections.
    and_then (backends_at ms) (λ backends.
    and_then (tables_at ms) (λ tables.
    and_then (users_at ms) (λ users.
    with_only document_keys ms (record {
      level = level;
      policy = policy;
      cache = cache;
      seed = seed;
      connections = connections;
      backends = backends;
      tables = tables;
      users = users;
    })))))))))
