-- The turns of a desk that wants memory for all that it is asked.
use Rattle.std.proofs.Common.{◌≡◌, ◌⊎◌, ℕ, ◌+◌, true, List, [], refl, inl, inr, arith}
use Rattle.cj_session.proofs.Common.{NO_MEMORY, refused_reply, Reply, Request}
use Rattle.cj_model.specs.declared.request.Act.{Act}
use Rattle.cj_model.specs.declared.request.Act.TheVariants as act
use Rattle.cj_model.specs.Sql.PlainRequests.{request_of}
use Rattle.cj_cluster.specs.History.Legality.{FitsTx}
use Rattle.cj_cluster.specs.History.Turns.{starved}
use Rattle.cj_cluster.proofs.Pushed.{prefix_self}
use Rattle.cj_desk.specs.DeskStates.{turn_taken, next_call, DeskSteps}
use Rattle.cj_part_tests.specs.StarvedDesks.{starved_desk}

pub starved_read : (user asker : List ℕ) (q tx : ℕ) (r : Request) (reply : Reply) → (tx ≡ 0) ⊎ (tx ≡ 0) → reply ≡ refused_reply NO_MEMORY
    → DeskSteps true (starved_desk user q) (turn_taken (next_call (starved_desk user q) tx asker r reply)) (starved_desk user (q + 1))
starved_read user asker q tx r reply fits replied =
    record {
      placement = refl;
      admits = refl;
      session = refl;
      requests = refl;
      number = refl;
      turn =
          record {
            legal = record { short = omega arith; each = λ k d lt. absurd (omega (arith, lt)) };
            longer = prefix_self [];
            owes = omega arith;
            tx = fits;
            case = starved (record { replied = replied; least = refl });
            entries = refl;
            tx_after = refl;
            log_faults = refl;
          };
    }

fitting : (tx : ℕ) (a : Act) → FitsTx 0 tx a → (tx ≡ 0) ⊎ (tx ≡ 0)
fitting tx act.Begin fits = inl fits.0
fitting tx (act.Write w) fits = fits
fitting tx (act.Create c) fits = inl fits
fitting tx (act.Drop table) fits = inl fits
fitting tx act.Commit fits = inr fits.1
fitting tx act.Abort fits = inr fits.1

pub starved_write : (user asker : List ℕ) (q tx : ℕ) (a : Act) (reply : Reply) → FitsTx 0 tx a → reply ≡ refused_reply NO_MEMORY
    → DeskSteps true (starved_desk user q) (turn_taken (next_call (starved_desk user q) tx asker (request_of a) reply)) (starved_desk user (q + 1))
starved_write user asker q tx a reply fits = starved_read user asker q tx (request_of a) reply (fitting tx a fits)
