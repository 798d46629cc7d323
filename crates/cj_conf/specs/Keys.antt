-- The keys of a configuration, as they are written.
use Rattle.std.specs.Prelude.{ℕ, List, codes}
use Rattle.cj_conf.specs.declared.key.Key.{Key}
use Rattle.cj_conf.specs.declared.key.Key.TheVariants as key

abbrev pub key_name : Key → List ℕ
key_name key.Level = codes "level"
key_name key.Policy = codes "policy"
key_name key.Cache = codes "cache"
key_name key.Seed = codes "seed"
key_name key.Connections = codes "connections"
key_name key.Backends = codes "backends"
key_name key.Tables = codes "tables"
key_name key.Users = codes "users"
key_name key.Name = codes "name"
key_name key.Kind = codes "kind"
key_name key.Weight = codes "weight"
key_name key.Hosts = codes "hosts"
key_name key.Sha256 = codes "sha256"
key_name key.Logins = codes "logins"
