-- What a command is configured with, and how it is refused.
use Rattle.std.specs.Prelude.{◌≡◌, ℕ, Bool, true, false, List, [], ◌∷◌, ◌++◌, length, replicate, codes, if◌then◌else◌, Result, IsErrOf}
use Rattle.std.specs.declared.option.Option.{Option}
use Rattle.std.specs.declared.option.Option.TheVariants.{None, Some}
use Rattle.std.specs.List.{list_all}
use Rattle.std.specs.Fmt.{decimal}
use Rattle.cj_outside.specs.Causes.{CountsFault}
use Rattle.cj_outside.specs.Streams.{WritesAll}
use Rattle.cj_outside.specs.declared.sink.OutError.{OutError}
use Rattle.cj_outside.specs.declared.sink.OutError.TheVariants as out_errors
use Rattle.cj_cluster.specs.Script.Lines.{with_line_feed, words}
use Rattle.cj_model.specs.Cluster.Caching.{empty_cache}
use Rattle.cj_place.specs.Layouts.{placement_of}
use Rattle.cj_mem.specs.MemoryBackends.{fresh_state, never_armed}
use Rattle.cj_lite.specs.LiteBackends as lite
use Rattle.cj_lite.specs.declared.any_backend.AnyBackend.{AnyBackend}
use Rattle.cj_lite.specs.declared.any_backend.AnyBackend.TheVariants.{Mem, Lite}
use Rattle.cj_conf.specs.declared.backend.BackendKind.{BackendKind}
use Rattle.cj_conf.specs.declared.backend.BackendKind.TheVariants.{Memory, Sqlite}
use Rattle.cj_conf.specs.declared.conf.Conf.{Conf}
use Rattle.cj_conf.specs.declared.error.ConfError.{ConfError}
use Rattle.cj_conf.specs.Refusals.{error_number, config_key_text}
use Rattle.cj_core.specs.Starts.{BackendState, HaveBegunNone, StartsFrom}
use Rattle.cj_log.specs.declared.item.LogItem.{LogItem}
use Rattle.cj_state.specs.Worlds.{WorldState}

-- ---- the backends that it has

abbrev pub is_memory : BackendKind → Bool
is_memory Memory = true
is_memory Sqlite = false

-- All backends are in memory. Only then they tell what they hold.
abbrev pub in_memory : Conf → Bool
in_memory c = list_all is_memory c.kinds

-- an empty backend of a kind
abbrev pub new_of : BackendKind → AnyBackend
new_of Memory = Mem fresh_state
new_of Sqlite = Lite lite.fresh_state

-- A backend that was not called yet, by whether it tells what it holds: then that it is empty.
abbrev pub new_backend : Bool → BackendState
new_backend tells = record { told = if tells then Some [] else None; faults = 0; asks = 0; login = None; arming = never_armed }

-- So many new backends, by what is seen of them and what they have begun.
pub record AreNew (tells : Bool) (count : ℕ) (backends : List BackendState) (begun : List (List ℕ)) : Type 0 where
  pub seen : backends ≡ replicate count (new_backend tells)
  pub none : HaveBegunNone begun

-- ---- the world that it makes

-- The world that a start makes of new backends, as a configuration has them, over the log that was found: each has
-- replayed the log, and no session is open. `tells`: the backends tell what they hold.
pub record BeginsAsConfigured (tells : Bool) (c : Conf) (found : List LogItem → Type 0) (w : WorldState) : Type 0 where
  pub setup : w.setup ≡ record { names = c.placement.names; accounts = c.accounts }
  pub starts : StartsFrom found (placement_of c.placement) (replicate (length c.placement.names) (new_backend tells)) w
  -- its result cache has kept and counted nothing
  pub cache : w.cache ≡ empty_cache c.cache

-- ---- refusals

-- the key as the last word, where there is one
abbrev pub last_word : List ℕ → List ℕ
last_word [] = []
last_word (first ∷ rest) = 32 ∷ first ∷ rest

-- the line that tells a refusal by its number and key: "configuration refused: N KEY"
abbrev pub refusal_line : ConfError → List ℕ
refusal_line e = with_line_feed (words (codes "configuration" ∷ codes "refused:" ∷ decimal (error_number e) ∷ []) ++ last_word (config_key_text e))

-- That line was written, and behind it an explanation; or the errors failed in it, which they counted, or memory was
-- wanting. `before` and `now` are the errors' counts of faults.
pub record WritesRefusal (errors errors' : Option (List ℕ)) (before now : ℕ) (e : ConfError) : Type 0 where
  pub explanation : List ℕ
  pub answer : Result (Unit {0}) OutError
  pub bytes : WritesAll errors errors' (refusal_line e ++ explanation) answer
  pub cause : CountsFault (IsErrOf answer out_errors.Failed) before now
