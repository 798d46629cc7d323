-- How a backend comes back: what its load, the replay and the enabling come to.
use Rattle.std.proofs.Common.{◌≡◌, ◌⊎◌, inl, inr, ⊎_elim, ℕ, ◌+◌, ◌<◌, ◌≤◌, not, Bool, true, List, length, Contains, Option, None, Some, Result, Ok, Err, get_or, slice_get, sym, ◌∙◌, subst, arith}
use Rattle.std.proofs.lemmas.Option.{slice_get_cases, slice_get_within}
use mathlib.Core.List.{IsPrefix}
use Rattle.cj_model.specs.declared.request.Entry.{Entry}
use Rattle.cj_model.specs.declared.answer.Outcome.{Outcome}
use Rattle.cj_model.specs.Cluster.Placements.{part}
use Rattle.cj_model.specs.Database.Storable.{IsStorable}
use Rattle.cj_model.proofs.PartLaws.{part_is_storable}
use Rattle.cj_cluster.specs.declared.event.Event.{Event}
use Rattle.cj_cluster.specs.declared.moves.Did.{Did}
use Rattle.cj_cluster.specs.declared.moves.Did.TheVariants as did
use Rattle.cj_cluster.specs.History.Histories.{database_after, log}
use Rattle.cj_cluster.proofs.Pushed.{prefix_trans}
use Rattle.cj_place.specs.Layouts.{Layout, placement_of}
use Rattle.cj_board.specs.declared.view.SeatView.{SeatView}
use Rattle.cj_dump.specs.declared.dump.Dump.{Dump}
use Rattle.cj_dump.specs.Coverage.{cut, lacks}
use Rattle.cj_dump.proofs.Cuts.{cut_is_part}
use Rattle.cj_pass.specs.Passes.{HasNotedMore}
use Rattle.cj_pass.proofs.Passes.{noted_self}
use Rattle.cj_locked_cell.specs.Taking.{NotesReport}
use Rattle.cj_locked_cell.proofs.Asking.{fault_between}
use Rattle.cj_locked_cell.proofs.Loading.{part_later, within_later}
use Rattle.cj_return_path.specs.Restoring.{EnablesSince, IsRightDump, ReplaysLog, ReplaysTo, TakesNext}
use Rattle.cj_return_path.specs.declared.restore.RestoreError.{RestoreError}
use Rattle.cj_return_path.specs.declared.restore.RestoreError.TheVariants as errors

-- ---- a load

-- what is loaded is the backend's part of the database at the dump's position
pub cut_right : (tells : Bool) (l : Layout) (b : ℕ) (F G : List Event) (d : Dump) → IsRightDump tells F d → lacks d l b ≡ None → IsPrefix F G → tells ≡ true → (cut d l b).db ≡ part (placement_of l) b (database_after (log G) d.position)
cut_right tells l b F G d right none longer on =
    part_later F G longer d.position (right.within on) (placement_of l) b (cut d l b).db (cut_is_part l b d none (database_after (log F) d.position) (right.right on))

pub cut_storable : (l : Layout) (b : ℕ) (d : Dump) → IsStorable d.db → IsStorable (cut d l b).db
cut_storable l b d is = part_is_storable (placement_of l) b d.db is

-- ---- a replay

-- a log that has no entry behind the first n has no more
pub no_more : (entries : List Entry) (n : ℕ) → slice_get entries n ≡ None → length entries ≤ n
no_more entries n none = by (slice_get_cases entries n).1
  where
    by : ((e : Entry) × (n < length entries) × (slice_get entries n ≡ Some e) × (get_or entries n e ≡ e)) ⊎ ((length entries ≤ n) × (slice_get entries n ≡ None)) → length entries ≤ n
    by (inl there) = let same : Some there.0 ≡ None = sym there.2 ∙ none in absurd (cc same)
    by (inr past) = past.0

-- a backend that carried out an entry or skipped it has taken it
pub took : (v : SeatView) (n b : ℕ) (d : Did) → ((o : Outcome) × (d ≡ did.Done o)) ⊎ (d ≡ did.Skipped) → NotesReport v n b d → Contains v.position_notes (b, n)
took v n b d (inl done) noted = subst (NotesReport v n b) done.1 noted
took v n b d (inr skipped) noted = subst (NotesReport v n b) skipped noted

-- the backend took entry n + 1, which the pass had seen
pub took_next : (b n until : ℕ) (e : Entry) (u v : SeatView) → slice_get (log u.front) n ≡ Some e → HasNotedMore u v → Contains v.position_notes (b, n + 1) → TakesNext b n until u v (Ok (Some (n + 1)))
took_next b n until e u v there more noted =
    let inside : n < length (log u.front) = slice_get_within (log u.front) n e there in
    let now : n + 1 ≤ length (log v.front) = within_later u.front v.front more.seen.front (n + 1) (omega (arith, inside)) in
    (omega arith, now, noted)

module _ (b : ℕ) where
  -- one entry was not taken
  pub not_taken : (most until n : ℕ) (u v w : SeatView) → HasNotedMore u v → (error : RestoreError) → TakesNext b n until v w (Err error) → ReplaysTo b most until u w (Err error)
  not_taken most until n u v w more (errors.Fault k) is = (is.0, fault_between b u v w w more (noted_self w) is.1)
  not_taken most until n u v w more errors.Starved is = tt
  not_taken most until n u v w more errors.NoMemory is = tt
  not_taken most until n u v w more (errors.Out seen) is = absurd is
  not_taken most until n u v w more errors.NotEnabled is = absurd is
  not_taken most until n u v w more errors.AlreadyEnabled is = absurd is
  not_taken most until n u v w more errors.NameTaken is = absurd is
  not_taken most until n u v w more (errors.LastHost table) is = absurd is
  not_taken most until n u v w more (errors.HistoryFull k) is = absurd is
  not_taken most until n u v w more errors.LogFault is = absurd is
  not_taken most until n u v w more errors.NotOut is = absurd is
  not_taken most until n u v w more (errors.DumpLacks table) is = absurd is
  not_taken most until n u v w more (errors.DumpAhead k) is = absurd is

  -- the backend took the next entry, or not, and a pass had seen less before
  pub takes_earlier : (n until : ℕ) (u v w : SeatView) → HasNotedMore u v → (r : Result (Option ℕ) RestoreError) → TakesNext b n until v w r → TakesNext b n until u w r
  takes_earlier n until u v w more r takes = by r takes
    where
      by : (q : Result (Option ℕ) RestoreError) → TakesNext b n until v w q → TakesNext b n until u w q
      by (Ok (Some k)) is = is
      by (Ok None) is = is
      by (Err (errors.Fault k)) is = (is.0, fault_between b u v w w more (noted_self w) is.1)
      by (Err errors.Starved) is = tt
      by (Err errors.NoMemory) is = tt
      by (Err (errors.Out seen)) is = absurd is
      by (Err errors.NotEnabled) is = absurd is
      by (Err errors.AlreadyEnabled) is = absurd is
      by (Err errors.NameTaken) is = absurd is
      by (Err (errors.LastHost table)) is = absurd is
      by (Err (errors.HistoryFull k)) is = absurd is
      by (Err errors.LogFault) is = absurd is
      by (Err errors.NotOut) is = absurd is
      by (Err (errors.DumpLacks table)) is = absurd is
      by (Err (errors.DumpAhead k)) is = absurd is

  -- entries were taken, or not, and a pass had seen less before
  pub replayed_earlier : (most until : ℕ) (u v w : SeatView) → HasNotedMore u v → (r : Result ℕ RestoreError) → ReplaysTo b most until v w r → ReplaysTo b most until u w r
  replayed_earlier most until u v w more r replays = by r replays
    where
      by : (q : Result ℕ RestoreError) → ReplaysTo b most until v w q → ReplaysTo b most until u w q
      by (Ok n) is = is
      by (Err (errors.Out seen)) is = is
      by (Err (errors.Fault k)) is = (is.0, fault_between b u v w w more (noted_self w) is.1)
      by (Err errors.Starved) is = tt
      by (Err errors.NoMemory) is = tt
      by (Err errors.NotEnabled) is = absurd is
      by (Err errors.AlreadyEnabled) is = absurd is
      by (Err errors.NameTaken) is = absurd is
      by (Err (errors.LastHost table)) is = absurd is
      by (Err (errors.HistoryFull k)) is = absurd is
      by (Err errors.LogFault) is = absurd is
      by (Err errors.NotOut) is = absurd is
      by (Err (errors.DumpLacks table)) is = absurd is
      by (Err (errors.DumpAhead k)) is = absurd is

  -- a pass had seen less before, where the log was no longer
  pub replays_earlier : (most until : ℕ) (u v w : SeatView) → HasNotedMore u v → length (log u.front) ≤ until → (r : Result ℕ RestoreError) → ReplaysTo b most until v w r → ReplaysLog b most u w r
  replays_earlier most until u v w more within r replays = by r replays
    where
      by : (q : Result ℕ RestoreError) → ReplaysTo b most until v w q → ReplaysLog b most u w q
      by (Ok n) is = (⊎_elim {C = (most ≤ n) ⊎ (length (log u.front) ≤ n)} (λ (all : most ≤ n). inl all) (λ (end : until ≤ n). inr (omega (arith, within, end))) is.0, is.1, is.2)
      by (Err (errors.Out seen)) is = is
      by (Err (errors.Fault k)) is = (is.0, fault_between b u v w w more (noted_self w) is.1)
      by (Err errors.Starved) is = tt
      by (Err errors.NoMemory) is = tt
      by (Err errors.NotEnabled) is = absurd is
      by (Err errors.AlreadyEnabled) is = absurd is
      by (Err errors.NameTaken) is = absurd is
      by (Err (errors.LastHost table)) is = absurd is
      by (Err (errors.HistoryFull k)) is = absurd is
      by (Err errors.LogFault) is = absurd is
      by (Err errors.NotOut) is = absurd is
      by (Err (errors.DumpLacks table)) is = absurd is
      by (Err (errors.DumpAhead k)) is = absurd is

  -- it was to be enabled then, and the turn was given back
  pub not_replayed : (most until : ℕ) (u v w z : SeatView) → HasNotedMore u v → HasNotedMore w z → (error : RestoreError) → ReplaysTo b most until v w (Err error) → EnablesSince b u z (Err error)
  not_replayed most until u v w z before after (errors.Out seen) is = is
  not_replayed most until u v w z before after (errors.Fault k) is = (is.0, fault_between b u v w z before after is.1)
  not_replayed most until u v w z before after errors.Starved is = tt
  not_replayed most until u v w z before after errors.NoMemory is = tt
  not_replayed most until u v w z before after errors.NotEnabled is = absurd is
  not_replayed most until u v w z before after errors.AlreadyEnabled is = absurd is
  not_replayed most until u v w z before after errors.NameTaken is = absurd is
  not_replayed most until u v w z before after (errors.LastHost table) is = absurd is
  not_replayed most until u v w z before after (errors.HistoryFull k) is = absurd is
  not_replayed most until u v w z before after errors.LogFault is = absurd is
  not_replayed most until u v w z before after errors.NotOut is = absurd is
  not_replayed most until u v w z before after (errors.DumpLacks table) is = absurd is
  not_replayed most until u v w z before after (errors.DumpAhead k) is = absurd is

  -- ---- enabling

  -- a pass had seen less before
  pub enables_earlier : (u w z : SeatView) → HasNotedMore u w → (r : Result ℕ RestoreError) → EnablesSince b w z r → EnablesSince b u z r
  enables_earlier u w z more r enables = by r enables
    where
      by : (q : Result ℕ RestoreError) → EnablesSince b w z q → EnablesSince b u z q
      by (Ok n) is = (is.0, prefix_trans u.front w.front is.0 more.seen.front is.1, is.2, is.3, is.4)
      by (Err errors.AlreadyEnabled) is = (is.0, prefix_trans u.front w.front is.0 more.seen.front is.1, is.2, is.3)
      by (Err (errors.Out seen)) is = is
      by (Err (errors.HistoryFull k)) is = is
      by (Err (errors.Fault k)) is = (is.0, fault_between b u w z z more (noted_self z) is.1)
      by (Err errors.Starved) is = tt
      by (Err errors.NoMemory) is = tt
      by (Err errors.NotEnabled) is = absurd is
      by (Err errors.NameTaken) is = absurd is
      by (Err (errors.LastHost table)) is = absurd is
      by (Err errors.LogFault) is = absurd is
      by (Err errors.NotOut) is = absurd is
      by (Err (errors.DumpLacks table)) is = absurd is
      by (Err (errors.DumpAhead k)) is = absurd is
