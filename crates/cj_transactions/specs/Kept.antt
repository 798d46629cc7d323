-- What lists of sessions and transactions keep of the log.
use Rattle.std.specs.Prelude.{◌≡◌, ◌≢◌, ℕ, ◌<◌, ◌≤◌, ◌==◌, true, List, All}
use Rattle.std.specs.List.{list_any}
use Rattle.cj_model.specs.declared.request.Entry.{Entry}
use Rattle.cj_model.specs.declared.limits.TheConstants.{SESSION_LIMIT}
use Rattle.cj_model.specs.Cluster.Masks.{in_mask}
use Rattle.cj_model.specs.Cluster.Placements.{Placement, wrote_at}
use Rattle.cj_model.specs.Database.Tables.{Rises}
use Rattle.cj_cluster.specs.History.Histories.{tx_of}
use Rattle.cj_transactions.specs.Lists.{by_number, session_number, tx_number}
use Rattle.cj_transactions.specs.declared.sessions.BookSession.{BookSession}
use Rattle.cj_transactions.specs.declared.transactions.OpenTransaction.{OpenTransaction}

-- an open session's number was given, and its transaction is the log's
pub record IsKeptSession (entries : List Entry) (greatest : ℕ) (s : BookSession) : Type 0 where
  pub number : (0 < s.number) × (s.number ≤ greatest)
  pub tx : s.tx ≡ tx_of entries s.number

-- each open session is kept as the log has it, and no entry is of a session whose number was not given yet
pub record KeepsSessions (entries : List Entry) (greatest : ℕ) (ss : List BookSession) : Type 0 where
  pub each : All (IsKeptSession entries greatest) ss
  pub known : All (λ (e : Entry). e.session ≤ greatest) entries

-- a transaction of the list is open in its session, with the mask of the backends at which the transaction wrote
pub record IsKeptTransaction (p : Placement) (entries : List Entry) (t : OpenTransaction) : Type 0 where
  pub number : 0 < t.number
  pub is_open : tx_of entries t.session ≡ t.number
  pub wrote : (b : ℕ) → in_mask t.wrote b ≡ wrote_at p b t.number entries

-- the list has exactly the open transactions
pub record KeepsTransactions (p : Placement) (entries : List Entry) (ts : List OpenTransaction) : Type 0 where
  pub each : All (IsKeptTransaction p entries) ts
  pub complete : (s : ℕ) → tx_of entries s ≢ 0 → list_any (λ t. tx_number t == tx_of entries s) ts ≡ true

-- sessions with rising numbers, in a vector of this capacity
pub record KeepsRoom (ss : List BookSession) (capacity : ℕ) : Type 0 where
  pub rises : Rises (by_number session_number) ss
  pub room : SESSION_LIMIT ≤ capacity
