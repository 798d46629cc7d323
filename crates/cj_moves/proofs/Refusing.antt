-- What a move of the administrator gives whose event was refused.
use Rattle.std.proofs.Common.{◌≡◌, ℕ, List, inl, inr, Err, IsErrOf, refl, ap, ◌∙◌, arith}
use Rattle.cj_model.specs.declared.request.Entry.{Entry}
use Rattle.cj_model.specs.declared.codes.TheConstants.{HISTORY_FULL}
use Rattle.cj_cluster.proofs.Common.{Core}
use Rattle.cj_cluster.specs.declared.event.Event.TheVariants.{LogFailed}
use Rattle.cj_cluster.specs.declared.moves.MoveError.TheVariants as errors
use Rattle.cj_cluster.specs.Moves.Moves.{AbortsOrphan, Marks, abort_entry, happened}
use Rattle.cj_book.specs.declared.error.BookError.{BookError}
use Rattle.cj_book.specs.declared.error.BookError.TheVariants.{InProgress, NoBackend, HistoryFull, LogFault, NoMemory}
use Rattle.cj_book.specs.Refusals.{refusal_of}
use Rattle.cj_state.specs.Effects.{HadLoggedRoom, SchedulesAs, core_aborted, core_marked, with_core}
use Rattle.cj_state.specs.Worlds.{CacheFollowsLog, IsSameWorldButLog, WorldState, with_cache, with_log}
use Rattle.cj_moves.proofs.Giving.{same_core}
use Rattle.cj_moves.specs.Proving.RefusedEvents.{refused_as}

-- the end of an orphan was not scheduled
pub not_aborted : (c : Core) (tx : ℕ) (e : Entry) → e ≡ abort_entry c tx → (error : BookError) (z : Core) → SchedulesAs c e (Err error) → z ≡ core_aborted c e (Err error) → AbortsOrphan c tx (refused_as (refusal_of error)) z
not_aborted c tx e is (InProgress n) z busy after = after
not_aborted c tx e is NoBackend z none after = absurd (cc (is, none.0))
not_aborted c tx e is (HistoryFull n) z full after = inl (record { full = full.2; refused = ap (λ m. record { code = HISTORY_FULL; a = m; b = 0 }) full.0; after = after })
not_aborted c tx e is LogFault z failed after = inr (record { space = failed.1; refused = refl; after = after ∙ ap (λ (d : Entry). happened c (LogFailed d.session d.seq)) is })
not_aborted c tx e is NoMemory z wanting after = after

-- the checkpoint was not marked
pub not_marked : (c : Core) (name : List ℕ) (error : BookError) (z : Core) → HadLoggedRoom {T = ℕ} c (Err error) → z ≡ core_marked c name (Err error) → Marks c name (refused_as (refusal_of error)) z
not_marked c name (InProgress n) z never after = absurd never
not_marked c name NoBackend z never after = absurd never
not_marked c name (HistoryFull n) z full after = inl (record { full = omega (arith, full.0); refused = ap (λ m. record { code = HISTORY_FULL; a = m; b = 0 }) full.1; after = after })
not_marked c name LogFault z space after = inr (record { space = space; refused = refl; after = after })
not_marked c name NoMemory z wanting after = after

-- where memory ran out, all is as before but maybe the log
module _ (old new : WorldState) where
  pub abort_want : IsSameWorldButLog (with_cache (with_core old new.core) new.cache) new → CacheFollowsLog old new → (e : Entry) (error : BookError) → new.core ≡ core_aborted old.core e (Err error) → IsErrOf (refused_as (refusal_of error)) errors.NoMemory → IsSameWorldButLog old new
  abort_want same follows e (InProgress n) core is = same_core old new same follows core
  abort_want same follows e NoBackend core is = absurd (cc is)
  abort_want same follows e (HistoryFull n) core is = absurd (cc is)
  abort_want same follows e LogFault core is = absurd (cc is)
  abort_want same follows e NoMemory core is = same_core old new same follows core

  as_marked : IsSameWorldButLog (with_core old new.core) new → new.core ≡ old.core → IsSameWorldButLog old new
  as_marked same core = same ∙ ap (λ (k : Core). with_log (with_core old k) new.recovery_log) core

  pub mark_want : IsSameWorldButLog (with_core old new.core) new → (name : List ℕ) (error : BookError) → new.core ≡ core_marked old.core name (Err error) → IsErrOf (refused_as (refusal_of error)) errors.NoMemory → IsSameWorldButLog old new
  mark_want same name (InProgress n) core is = as_marked same core
  mark_want same name NoBackend core is = absurd (cc is)
  mark_want same name (HistoryFull n) core is = absurd (cc is)
  mark_want same name LogFault core is = absurd (cc is)
  mark_want same name NoMemory core is = as_marked same core
