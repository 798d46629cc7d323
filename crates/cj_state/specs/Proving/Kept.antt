-- What a world keeps beyond what contracts see of it.
use Rattle.std.specs.Prelude.{◌≡◌, ℕ, Bool, true, List, length, map}
use Rattle.std.specs.declared.option.Option.TheVariants.{Some}
use Rattle.cj_model.specs.declared.request.Entry.{Entry}
use Rattle.cj_model.specs.Sql.PlainRequests.{request_of}
use Rattle.cj_cluster.specs.declared.moves.OpenSession.{OpenSession}
use Rattle.cj_cluster.specs.History.Histories.{log, ended_count, open_entry_of, is_enabled}
use Rattle.cj_cluster.specs.History.Answering.{HasServer}
use Rattle.cj_cluster.specs.Moves.Cores.{position_at}
use Rattle.cj_model.specs.Cluster.Caching.{CacheState}
use Rattle.cj_model.specs.Cluster.Masks.{in_mask}
use Rattle.cj_cluster.specs.History.Freshness.{IsFreshCache}
use Rattle.cj_dump.specs.declared.dump.Dump.{Dump}
use Rattle.cj_tally.specs.declared.tally.Tally.{Tally}
use Rattle.cj_tally.specs.Tallies.{IsTallyOf}
use Rattle.cj_state.specs.Worlds.{WorldState, IsWorld, AreDumpsOf}

-- what holds of a world's parts: `numbers` are those of the sessions that the book has open, and `tally` is what the
-- cells did with the open entry
pub record Kept (tells : Bool) (w : WorldState) (numbers : List ℕ) (tally : Tally) : Type 0 where
  pub world : IsWorld tells w
  pub numbers_are : numbers ≡ map (λ (x : OpenSession). x.number) w.core.sessions
  -- an entry that is open has a backend that serves it
  pub served : (e : Entry) → open_entry_of w.core.history ≡ Some e → HasServer w.core.placement w.core.history (request_of e.act)
  -- the tally is of the open entry
  pub tallied : (e : Entry) → open_entry_of w.core.history ≡ Some e → IsTallyOf tells w.core.placement (log w.core.history) (ended_count w.core.history) e tally
  -- the tally has each enabled backend that took the entry
  pub taken : (e : Entry) (b : ℕ) → open_entry_of w.core.history ≡ Some e → is_enabled w.core.history b ≡ true → position_at w.core b ≡ Some (length (log w.core.history)) → in_mask tally.taken b ≡ true

-- what holds of a world's parts, with only fresh answers in the cache, and dumps that hold what their backends had
abbrev pub KeptFresh : Bool → WorldState → List ℕ → Tally → CacheState → List Dump → Type 0
KeptFresh tells w numbers tally cache dumps =
    Kept tells w numbers tally × IsFreshCache tells (log w.core.history) cache × AreDumpsOf tells w.core.placement (log w.core.history) dumps

-- what holds of a world's parts, with only fresh answers, right dumps, book and cells seated so, and such a log beside
-- the book
abbrev pub KeptSeated : Bool → WorldState → List ℕ → Tally → CacheState → List Dump → Type 0 → Type 0 → Type 0
KeptSeated tells w numbers tally cache dumps seated logged =
    Kept tells w numbers tally × IsFreshCache tells (log w.core.history) cache × AreDumpsOf tells w.core.placement (log w.core.history) dumps × seated × logged
