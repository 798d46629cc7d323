-- What holds of every state that moves lead to.
use Rattle.std.specs.Prelude.{◌≡◌, ◌⊎◌, ℕ, ◌+◌, ◌-◌, ◌*◌, ◌<◌, ◌≤◌, Bool, true, false, List, length, All, IfSome, is_some}
use Rattle.std.specs.declared.option.Option.{Option}
use Rattle.std.specs.declared.option.Option.TheVariants.{None, Some}
use Rattle.std.specs.Ordering.{nat_cmp}
use Rattle.std.specs.declared.cmp.Ordering.{Ordering}
use Rattle.cj_model.specs.declared.database.Slot.{Slot}
use Rattle.cj_model.specs.declared.database.Draft.{Draft}
use Rattle.cj_model.specs.declared.request.Entry.{Entry}
use Rattle.cj_cluster.specs.declared.event.Event.{Event}
use Rattle.cj_cluster.specs.declared.moves.OpenSession.{OpenSession}
use Rattle.cj_cluster.specs.declared.moves.TakenDump.{TakenDump}
use Rattle.cj_model.specs.declared.limits.TheConstants.{EVENT_LIMIT, SESSION_LIMIT, SESSION_NUMBER_LIMIT, USER_LIMIT}
use Rattle.cj_model.specs.Database.Tables.{Rises}
use Rattle.cj_model.specs.Cluster.Placements.{Placement, part}
use Rattle.cj_cluster.specs.History.Histories.{log, ended_count, is_free, open_entry_of, is_enabled, log_faults_of, database_after}
use Rattle.cj_model.specs.Cluster.Masks.{in_mask}
use Rattle.cj_cluster.specs.History.Legality.{IsLegal}
use Rattle.cj_cluster.specs.Moves.Cores.{Core, position_at, find_session}
use Rattle.cj_cluster.specs.History.Transactions.{has_begun}

-- A backend's position is within the log, past each ended entry if it is enabled, and the backend is in no mask.
-- Or the backend is out, and then in a mask if it is enabled.
abbrev pub BackendStands : List Event → ℕ → ℕ → ℕ → Option ℕ → Type 0
BackendStands h failed starved b (Some p) =
    (p ≤ length (log h)) × (is_enabled h b ≡ true → ended_count h ≤ p) × (in_mask failed b ≡ false) × (in_mask starved b ≡ false)
BackendStands h failed starved b None = is_enabled h b ≡ true → (in_mask failed b ≡ true) ⊎ (in_mask starved b ≡ true)

-- each draft of the database is of one of these transactions
abbrev pub CoversDrafts : List ℕ → List Slot → Type 0
CoversDrafts begun db = All (λ (s : Slot). IfSome s.draft (λ (d : Draft). has_begun begun d.tx ≡ true)) db

abbrev pub by_session_number : OpenSession → OpenSession → Ordering
by_session_number x y = nat_cmp x.number y.number

-- an open session's number was given, it needs no more than the log, and no entry of it is after its last request
pub record IsSoundSession (h : List Event) (greatest : ℕ) (x : OpenSession) : Type 0 where
  pub number : (0 < x.number) × (x.number ≤ greatest)
  pub user : length x.user ≤ USER_LIMIT
  pub owes : x.least ≤ length (log h)
  pub entries : All (λ (e : Entry). e.session ≡ x.number → e.seq ≤ x.requests) (log h)

-- a dump of a backend, taken within the log
pub record IsSoundDump (backends : ℕ) (h : List Event) (d : TakenDump) : Type 0 where
  pub source : d.source < backends
  pub position : d.position ≤ length (log h)

pub record CoreInvariant (c : Core) : Type 0 where
  pub legal : IsLegal c.history
  -- there is room for the end of an open entry
  pub short : length c.history + 2 * (length (log c.history) - ended_count c.history) ≤ EVENT_LIMIT
  pub one_open : (ended_count c.history ≤ length (log c.history)) × (length (log c.history) ≤ ended_count c.history + 1)
  pub cells : length c.positions ≡ c.placement.backends
  pub hosts : (b : ℕ) → is_enabled c.history b ≡ true → b < length c.positions
  pub stands : (b : ℕ) → b < length c.positions → BackendStands c.history c.failed c.starved b (position_at c b)
  pub in_masks : (b : ℕ) → (in_mask c.failed b ≡ true → (is_enabled c.history b ≡ true) × (in_mask c.starved b ≡ false)) × (in_mask c.starved b ≡ true → is_enabled c.history b ≡ true)
  pub clear : is_free c.history ≡ true → (c.failed ≡ 0) × (c.starved ≡ 0)
  pub begun_cells : length c.begun ≡ c.placement.backends
  pub dumps : All (IsSoundDump c.placement.backends c.history) c.dumps
  pub sessions : All (IsSoundSession c.history c.greatest) c.sessions
  pub rises : Rises by_session_number c.sessions
  pub few : length c.sessions ≤ SESSION_LIMIT
  pub numbers : c.greatest ≤ SESSION_NUMBER_LIMIT
  pub known : All (λ (e : Entry). e.session ≤ c.greatest) (log c.history)
  -- the log's store failed for no session that has no number yet
  pub log_faults : (s q : ℕ) → c.greatest < s → log_faults_of s q c.history ≡ 0
  -- the session of the open entry is open, unless it is the administrator's
  pub waits : (e : Entry) → open_entry_of c.history ≡ Some e → (e.session ≡ 0) ⊎ (is_some (find_session c.sessions e.session) ≡ true)

-- A backend that tells and is not out holds its part of the database after the entries before its position.
abbrev pub HoldsPart : Bool → Placement → ℕ → List Entry → Option (List Slot) → Option ℕ → Type 0
HoldsPart tells p b entries told None = Unit {0}
HoldsPart tells p b entries told (Some n) = tells ≡ true → told ≡ Some (part p b (database_after entries n))

-- A backend that tells and is not out has begun each transaction of which it holds a draft.
abbrev pub HasBegunDrafts : Bool → Placement → ℕ → List Entry → List ℕ → Option ℕ → Type 0
HasBegunDrafts tells p b entries begun None = Unit {0}
HasBegunDrafts tells p b entries begun (Some n) = tells ≡ true → CoversDrafts begun (part p b (database_after entries n))
