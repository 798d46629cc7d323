-- What the desk of one session says of its calls.
use Rattle.std.proofs.Common.{◌≡◌, ℕ, zero, suc, ◌+◌, Bool, true, List, length, slice_get, Some, refl, ap, sym, ◌∙◌, subst, arith}
use Rattle.cj_core.proofs.Common.{Act, AddsEntry, Call, desk_of, entries-same, Entry}
use Rattle.cj_core.proofs.Common.{entry_of_call, Event, FitsTx, is_open, IsEntryNumber, log}
use Rattle.cj_core.proofs.Common.{mask_with, OpenSession, query_skipped}
use Rattle.cj_core.proofs.Common.{SoloState, SoloSteps, tx_after_entry, tx_after_write, tx_of, with_core, with_request_counted}
use Rattle.cj_calls.proofs.SoloTurns.{counted_session, entry_there, log_refused, one_more_entry, tx_ended}

-- a query that never reached it
pub solo_skipped : (tells : Bool) (a z : SoloState) → is_open a.world.core a.session ≡ true → z ≡ record a { world = with_core a.world (with_request_counted a.world.core a.session) } → SoloSteps tells a query_skipped z
solo_skipped tells a z here is =
    let counted = counted_session a.world.core a.session here in
    (ap desk_of is ∙ ap (λ (x : OpenSession). record (desk_of a) { seen = record { front = a.world.core.history; least = x.least }; requests = x.requests }) counted, is)

-- the transaction that the session is in then
pub tx_after_adding : (s number : ℕ) (c : Call) (act : Act) (failed : List ℕ) (h g : List Event) → FitsTx (tx_of (log h) s) c.tx act → AddsEntry number s c act failed h g → tx_of (log g) s ≡ tx_after_write number act (tx_of (log h) s)
tx_after_adding s zero c act failed h g fits adds = ap (λ (l : List Entry). tx_of l s) (log_refused s c h g adds.0)
tx_after_adding s (suc n) c act failed h g fits adds =
    let next : length (log h) + 1 ≡ suc n = (let same = adds.0 in omega (arith, same)) in
    tx_ended s h g (entry_of_call s c act) (mask_with 0 failed) adds.1.0 refl adds.1.1 fits ∙ ap (λ (k : ℕ). tx_after_entry k (tx_of (log h) s) act) next

-- and the number of its entry
pub number_added : (a z : SoloState) (number : ℕ) (c : Call) (act : Act) (failed : List ℕ) → z.session ≡ a.session → AddsEntry number a.session c act failed a.world.core.history z.world.core.history
    → IsEntryNumber number act (desk_of a) c (desk_of z)
number_added a z zero c act failed session adds = entries-same a.session a.world.core.history z.world.core.history (log_refused a.session c a.world.core.history z.world.core.history adds.0)
number_added a z (suc n) c act failed session adds =
    let e : Entry = entry_of_call a.session c act in
    let h : List Event = a.world.core.history in
    let g : List Event = z.world.core.history in (
      subst (λ (k : ℕ). slice_get (log g) k ≡ Some e) (sym adds.0) (entry_there a.session h g e (mask_with 0 failed) adds.1.0 refl adds.1.1),
      one_more_entry a.session h g e (mask_with 0 failed) adds.1.0 refl adds.1.1,
    )
