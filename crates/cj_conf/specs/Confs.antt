-- The configuration of a text, or why the text is refused.
use Rattle.std.specs.Prelude.{◌≡◌, ℕ, ◌≤◌, List, length, map, slice_get, if◌then◌else◌}
use Rattle.std.specs.declared.option.Option.{Option}
use Rattle.std.specs.declared.option.Option.TheVariants.{None, Some}
use Rattle.std.specs.declared.result.Result.{Result}
use Rattle.std.specs.declared.result.Result.TheVariants.{Ok, Err}
use Rattle.std.specs.List.{range_with_len}
use Rattle.std.specs.Option.{option_map_or}
use Rattle.std.specs.Str.{is_utf8}
use Rattle.toml.specs.Data.{Members}
use Rattle.toml.specs.Parse.{parse_document}
use Rattle.cj_model.specs.declared.account.Account.{Account}
use Rattle.cj_model.specs.declared.limits.TheConstants.{BACKEND_LIMIT}
use Rattle.cj_model.specs.declared.placement.Level.{Level}
use Rattle.cj_model.specs.declared.placement.PlaceRow.{PlaceRow}
use Rattle.cj_auth.specs.Admission.{Register}
use Rattle.cj_auth.specs.Refusals.{refusal_of_accounts}
use Rattle.cj_place.specs.Layouts.{Layout, layout_of}
use Rattle.cj_place.specs.Refusals.{refusal_of_placement}
use Rattle.cj_balance.specs.Kept.{AreWeights}
use Rattle.cj_conf.specs.declared.backend.Backend.{Backend}
use Rattle.cj_conf.specs.declared.backend.BackendKind.{BackendKind}
use Rattle.cj_conf.specs.declared.conf.Conf.{Conf}
use Rattle.cj_conf.specs.declared.error.ConfError.{ConfError}
use Rattle.cj_conf.specs.declared.error.ConfError.TheVariants.{NotToml, Place, Auth}
use Rattle.cj_conf.specs.declared.settings.Settings.{Settings}
use Rattle.cj_conf.specs.declared.settings.TheConstants.{CACHE_MOST}
use Rattle.cj_conf.specs.Fields.{and_then, unless}
use Rattle.cj_conf.specs.Settings.{settings_of}

-- ---- parts of it

abbrev pub names_of : List Backend → List (List ℕ)
names_of backends = map (λ (backend : Backend). backend.name) backends

abbrev pub kinds_of : List Backend → List BackendKind
kinds_of backends = map (λ (backend : Backend). backend.kind) backends

-- the weight of backend b; 1 if there is no such backend
abbrev pub weight_at : List Backend → ℕ → ℕ
weight_at backends b = option_map_or (λ (backend : Backend). backend.weight) (slice_get backends b) 1

-- the weights of as many backends as there may be
abbrev pub weights_of : List Backend → List ℕ
weights_of backends = map (weight_at backends) (range_with_len 0 BACKEND_LIMIT)

-- the placement of the tables on the backends
abbrev pub placement_from : Level → List Backend → List PlaceRow → Result Layout ConfError
placement_from level backends tables = unless Place (refusal_of_placement level (names_of backends) tables) (layout_of level (names_of backends) tables)

-- the accounts of the users over so many backends
abbrev pub accounts_from : List Account → ℕ → Result Register ConfError
accounts_from users backends = unless Auth (refusal_of_accounts users backends) (record { accounts = users; backends = backends })

-- ---- the whole

-- the configuration of settings, or its refusal: first the placement's, then the accounts'
abbrev pub conf_from : Settings → Result Conf ConfError
conf_from s =
    and_then (placement_from s.level s.backends s.tables) (λ placement.
    and_then (accounts_from s.users (length s.backends)) (λ accounts.
    Ok (record {
      placement = placement;
      kinds = kinds_of s.backends;
      accounts = accounts;
      policy = s.policy;
      weights = weights_of s.backends;
      cache = s.cache;
      seed = s.seed;
      connections = s.connections;
    })))

-- the document that the bytes are, if they are UTF-8 and the text is one
abbrev pub document_of : List ℕ → Option Members
document_of bytes = if is_utf8 bytes then parse_document bytes else None

abbrev pub conf_in : Option Members → Result Conf ConfError
conf_in None = Err NotToml
conf_in (Some ms) = and_then (settings_of ms) conf_from

-- the configuration that the bytes give, or the first thing that is wrong with them
abbrev pub conf_of : List ℕ → Result Conf ConfError
conf_of bytes = conf_in (document_of bytes)

-- ---- what holds of each

-- a usable configuration: a kind and logins for each backend, and weights and a cache within their limits
pub record IsUsable (c : Conf) : Type 0 where
  pub kinds : length c.kinds ≡ length c.placement.names
  pub backends : c.accounts.backends ≡ length c.placement.names
  pub weights : AreWeights c.weights
  pub cache : c.cache ≤ CACHE_MOST
