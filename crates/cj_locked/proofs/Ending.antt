-- The end of an entry, by what its writer knows and what was tallied.
use Rattle.std.proofs.Common.{◌≡◌, ◌⊎◌, inl, inr, ⊎_elim, ℕ, ◌+◌, ◌*◌, ◌-◌, ◌^◌, ◌<◌, ◌≤◌, ◌&&◌, ◌||◌, not, bit_and, Bool, true, false, List, [], ◌∷◌, ◌++◌, length, Contains, Option, None, Some, slice_get, Ok, IsSome, refl, ap, sym, ◌∙◌, subst, arith, length-append, eqb-true}
use mathlib.Core.List.{IsPrefix}
use Rattle.std.specs.Int.Bits.{or_zero_r}
use Rattle.std.proofs.Math.Bool.{or-false}
use Rattle.std.proofs.lemmas.Bool.{and_parts}
use Rattle.std.proofs.lemmas.List.Elements.{Contains-append_left, Contains-append_right}
use Rattle.cj_model.specs.declared.request.Entry.{Entry}
use Rattle.cj_model.specs.declared.answer.Outcome.{Outcome}
use Rattle.cj_model.specs.declared.answer.Reply.{Reply}
use Rattle.cj_model.specs.Cluster.Masks.{in_mask}
use Rattle.cj_model.specs.Cluster.Placements.{Placement, concerns}
use Rattle.cj_model.specs.Sql.PlainRequests.{request_of}
use Rattle.cj_model.proofs.MaskBits.{has_without}
use Rattle.cj_model.proofs.Masks.{has-zero}
use Rattle.cj_cluster.specs.declared.event.Event.{Event}
use Rattle.cj_cluster.specs.declared.event.Event.TheVariants.{Sched, Ended}
use Rattle.cj_cluster.specs.History.Answering.{AnswersEntry, HasServer, IsTarget}
use Rattle.cj_cluster.specs.History.Histories.{ended_count, is_enabled, is_free, log, open_entry_of, outcome_of}
use Rattle.cj_cluster.specs.History.Legality.{AreFitMasks}
use Rattle.cj_cluster.proofs.Pushed.{done-same, enabled-push, free-ended, free-sched, get_seam, log-prefix, log-sched, opened-sched, prefix_get, prefix_trans}
use Rattle.cj_board.specs.declared.view.SeatView.{SeatView}
use Rattle.cj_board.specs.Points.{fault_tokens_of}
use Rattle.cj_board.specs.Steps.{after_learning, HasFaultTokens, HasPositionNotes}
use Rattle.cj_board.specs.Views.{pass_of}
use Rattle.cj_board.proofs.FaultPoint.{tokens-append}
use Rattle.cj_book.specs.BookLogs.{BookLogState, LogFollows}
use Rattle.cj_book.specs.Books.{is_target_at, BookState}
use Rattle.cj_book.specs.Seated.{SeatedBook}
use Rattle.cj_book.specs.declared.pending.Pending.{Pending}
use Rattle.cj_book.specs.declared.pending.Pending.TheVariants as pending
use Rattle.cj_book.proofs.LogFollowing.{log_more}
use Rattle.cj_replica.specs.declared.replica.Caught.TheVariants as caught
use Rattle.cj_replica.proofs.Longer.{outcome_longer}
use Rattle.cj_tally.specs.declared.tally.Tally.{Tally}
use Rattle.cj_tally.specs.Tallies.{AnswersByTally, AreTargets, HasReported, HaveReported, HaveReportedBelow, IsRightOutcome, IsTallyOf}
use Rattle.cj_locked_cell.specs.Taking.{NotesTally}
use Rattle.cj_locked.specs.Turns.{pending_weight, turn_amount, turn_events_of}
use Rattle.cj_locked.specs.Writing.{EndsAsReported, EndsSince, HoldsEntry, IsScheduledIn, SettlesTally}
use Rattle.cj_locked.proofs.Following.{follows_reads}
use Rattle.cj_locked.proofs.Turns.{free_stays, open_entry_stays, turn_events_more, turn_events_push, turn_stays, TurnStays}

-- ---- the entry in the history

module _ (p : Placement) (G : List Event) (n : ℕ) (e : Entry) (at : IsScheduledIn p G n e) where
  -- it is entry n
  pub entry_there : slice_get (log G) (n - 1) ≡ Some e
  entry_there =
      let k : n ≡ length (log at.m) + 1 = at.number in
      let place : n - 1 ≡ length (log at.m) = omega arith in
      let here : slice_get (log (at.m ++ Sched e ∷ [])) (length (log at.m)) ≡ Some e = ap (λ (l : List Entry). slice_get l (length (log at.m))) (log-sched at.m e) ∙ get_seam (log at.m) [] e in
      ap (slice_get (log G)) place ∙ prefix_get (log (at.m ++ Sched e ∷ [])) (log G) (length (log at.m)) e (log-prefix (at.m ++ Sched e ∷ []) G at.next) here

  pub number_some : 0 < n
  number_some = let k : n ≡ length (log at.m) + 1 = at.number in omega arith

  abbrev pub scheduled_on : (H : List Event) → IsPrefix G H → IsScheduledIn p H n e
  scheduled_on H longer = record { m = at.m; was_free = at.was_free; served = at.served; space = at.space; number = at.number; next = prefix_trans (at.m ++ Sched e ∷ []) G H at.next longer }

pub holds_on : {S : Type 0} (tells : Bool) (count : S → ℕ) (p : Placement) (G H : List Event) (n enabled : ℕ) (e : Entry) (amount : ℕ) (l : BookLogState S) → IsPrefix G H → HoldsEntry tells count p G n enabled e amount l → HoldsEntry tells count p H n enabled e amount l
holds_on tells count p G H n enabled e amount l longer holds = record { at = scheduled_on p G n e holds.at H longer; mask = holds.mask; turn = holds.turn; follows = holds.follows }

-- ---- what the turn's amount tells

same_weight : (a b : Option Pending) → pending_weight a ≡ pending_weight b → b ≡ a
same_weight None None is = refl
same_weight None (Some pending.Entry) is = absurd (cc is)
same_weight None (Some pending.Marker) is = absurd (cc is)
same_weight (Some pending.Entry) None is = absurd (cc is)
same_weight (Some pending.Entry) (Some pending.Entry) is = refl
same_weight (Some pending.Entry) (Some pending.Marker) is = absurd (cc is)
same_weight (Some pending.Marker) None is = absurd (cc is)
same_weight (Some pending.Marker) (Some pending.Entry) is = absurd (cc is)
same_weight (Some pending.Marker) (Some pending.Marker) is = refl

below_three : (a : Option Pending) → pending_weight a < 3
below_three None = omega arith
below_three (Some pending.Entry) = omega arith
below_three (Some pending.Marker) = omega arith

-- as much as at a history before it: no event came that needs the turn, and the same is pending
pub same_amount : (g h : List Event) (a b : Option Pending) → IsPrefix g h → turn_amount g a ≡ turn_amount h b → (turn_events_of h ≡ turn_events_of g) × (b ≡ a)
same_amount g h a b longer same =
    let more : turn_events_of g ≤ turn_events_of h = subst (λ (x : List Event). turn_events_of g ≤ turn_events_of x) longer.1 (turn_events_more g longer.0) in
    let same' : 3 * turn_events_of g + pending_weight a ≡ 3 * turn_events_of h + pending_weight b = same in
    let u = below_three a in
    let v = below_three b in
    (omega arith, same_weight a b (omega arith))

-- ---- what the ledger counts

-- a book of which the history and what is pending are as before
pub same_counted : (x y : SeatedBook) → y.state ≡ x.state → y.pending ≡ x.pending → turn_amount y.state.history y.pending ≡ turn_amount x.state.history x.pending
same_counted x y state pending = ap (λ (z : BookState × Option Pending). turn_amount z.0.history z.1) (λ i. (state i, pending i))

-- the end of an entry counts three
pub amount_ended : (h : List Event) (item : Option Pending) → item ≡ None → (failed starved : ℕ) (H : List Event) (item' : Option Pending) → H ≡ h ++ Ended failed starved ∷ [] → item' ≡ None → turn_amount h item + 3 ≡ turn_amount H item'
amount_ended h item none failed starved H item' now none' =
    let push : turn_events_of (h ++ Ended failed starved ∷ []) ≡ turn_events_of h + 1 = turn_events_push h (Ended failed starved) in
    let its : turn_events_of H ≡ turn_events_of h + 1 = ap turn_events_of now ∙ push in
    let a : pending_weight item ≡ 0 = ap pending_weight none in
    let b : pending_weight item' ≡ 0 = ap pending_weight none' in
    omega (arith, its, a, b)

-- ---- masks

-- a mask without the backends of another
pub has_less : (m k b : ℕ) → m < 2 ^ 32 → k < 2 ^ 32 → in_mask (bit_and m (4294967295 - k)) b ≡ (in_mask m b && not (in_mask k b))
has_less m k b fits fits' =
    ap (λ x. in_mask (bit_and m (4294967295 - x)) b) (sym (or_zero_r k))
    ∙ (has_without m k 0 b fits fits' (omega arith) ∙ ap (λ x. in_mask m b && not x) (ap (λ x. in_mask k b || x) (has-zero b) ∙ or-false (in_mask k b)))

and_given : (x y : Bool) → x ≡ true → y ≡ true → (x && y) ≡ true
and_given x y a b = rw (a, b) refl

module _ (h : List Event) (enabled : ℕ) (mask : (b : ℕ) → in_mask enabled b ≡ is_enabled h b) (tally settled : Tally) (settles : SettlesTally enabled tally settled) where
  failed_parts : (b : ℕ) → in_mask settled.failed b ≡ true → (in_mask enabled b ≡ true) × (in_mask tally.failed b ≡ true)
  failed_parts b on =
      let all = and_parts (in_mask enabled b && in_mask tally.failed b) (not (in_mask tally.taken b)) (sym (settles.failed b) ∙ on) in
      and_parts (in_mask enabled b) (in_mask tally.failed b) all.0

  starved_parts : (b : ℕ) → in_mask settled.starved b ≡ true → (in_mask enabled b ≡ true) × (not (in_mask tally.failed b) ≡ true)
  starved_parts b on =
      let all = and_parts (in_mask enabled b && not (in_mask tally.taken b)) (not (in_mask tally.failed b)) (sym (settles.starved b) ∙ on) in
      ((and_parts (in_mask enabled b) (not (in_mask tally.taken b)) all.0).0, all.1)

  failed_or_not : (b : ℕ) (t : Bool) → in_mask settled.starved b ≡ t → in_mask settled.failed b ≡ true → in_mask settled.starved b ≡ false
  failed_or_not b false is on = is
  failed_or_not b true is on =
      let f = (failed_parts b on).1 in
      let no = (starved_parts b is).1 in
      absurd (cc (sym (ap not f) ∙ no))

  pub fit_masks : AreFitMasks h settled.failed settled.starved
  fit_masks b = (
    λ on. (sym (mask b) ∙ (failed_parts b on).0, failed_or_not b (in_mask settled.starved b) refl on),
    λ on. sym (mask b) ∙ (starved_parts b on).0,
  )

  -- each enabled backend took the entry, or is in another mask
  pub all_settled : (b : ℕ) → is_enabled h b ≡ true → (in_mask settled.taken b ≡ true) ⊎ (in_mask settled.failed b ≡ true) ⊎ (in_mask settled.starved b ≡ true)
  all_settled b on = by (in_mask tally.taken b) refl (in_mask tally.failed b) refl
    where
      by : (t : Bool) → in_mask tally.taken b ≡ t → (f : Bool) → in_mask tally.failed b ≡ f → (in_mask settled.taken b ≡ true) ⊎ (in_mask settled.failed b ≡ true) ⊎ (in_mask settled.starved b ≡ true)
      by true took f is = inl (ap (λ m. in_mask m b) settles.taken ∙ took)
      by false took true is = inr (inl (settles.failed b ∙ rw (mask b, on, took, is) refl))
      by false took false is = inr (inr (settles.starved b ∙ rw (mask b, on, took, is) refl))

  -- who is enabled after the end took the entry
  pub left_took : (b : ℕ) → is_enabled (h ++ Ended settled.failed settled.starved ∷ []) b ≡ true → in_mask tally.taken b ≡ true
  left_took b on =
      let parts = and_parts (is_enabled h b) (not (in_mask settled.failed b || in_mask settled.starved b)) (sym (enabled-push h (Ended settled.failed settled.starved) b) ∙ on) in
      ⊎_elim (λ (took : in_mask settled.taken b ≡ true). ap (λ m. in_mask m b) (sym settles.taken) ∙ took)
      (λ (other : (in_mask settled.failed b ≡ true) ⊎ (in_mask settled.starved b ≡ true)). absurd (spared (in_mask settled.failed b) (in_mask settled.starved b) parts.1 other))
      (all_settled b parts.0)
    where
      one : (f s : Bool) → (f ≡ true) ⊎ (s ≡ true) → (f || s) ≡ true
      one true s other = refl
      one false s other = ⊎_elim (λ (is : false ≡ true). absurd (cc is)) (λ (is : s ≡ true). is) other

      spared : (f s : Bool) → not (f || s) ≡ true → (f ≡ true) ⊎ (s ≡ true) → ⊥
      spared f s spares other = let same : false ≡ true = sym (ap not (one f s other)) ∙ spares in cc same

  -- ---- what the book's seat knows, once it learned of the pass

  module _ (n : ℕ) (last : length (log h) ≡ n) (v u : SeatView) (notes : NotesTally v n tally) (before : SeatView) (learned : u ≡ after_learning before (pass_of v)) where
    pub end_positions : HasPositionNotes h u.position_notes (Ended settled.failed settled.starved)
    end_positions b on =
        let its : Contains v.position_notes (b, n) = notes.taken b (left_took b on) in
        let there : Contains (after_learning before (pass_of v)).position_notes (b, n) = Contains-append_right before.position_notes (pass_of v).position_notes (b, n) (Contains-append_left v.position_notes _ (b, n) its) in
        subst (λ k. Contains u.position_notes (b, k)) (sym last) (subst (λ (z : SeatView). Contains z.position_notes (b, n)) (sym learned) there)

    pub end_tokens : HasFaultTokens u.fault_tokens (Ended settled.failed settled.starved)
    end_tokens b on =
        let some : 0 < fault_tokens_of b v.fault_tokens = notes.failed b (failed_parts b on).1 in
        let all : fault_tokens_of b u.fault_tokens ≡ fault_tokens_of b before.fault_tokens + fault_tokens_of b v.fault_tokens = ap (λ (z : SeatView). fault_tokens_of b z.fault_tokens) learned ∙ tokens-append b before.fault_tokens v.fault_tokens in
        omega (arith, some, all)

-- ---- the end

module _ {S : Type 0} (tells : Bool) (count : S → ℕ) (p : Placement) (F h : List Event) (n mask_then : ℕ) (e : Entry) (amount : ℕ) (l : BookLogState S) (holds : HoldsEntry tells count p F n mask_then e amount l) (longer : IsPrefix F h) (item : Option Pending)
    (whole : amount ≡ turn_amount h item) where
  abbrev m : List Event
  m = holds.at.m

  abbrev begun : List Event
  begun = holds.at.m ++ Sched e ∷ []

  begins : IsPrefix begun h
  begins = prefix_trans begun F h holds.at.next longer

  same : (turn_events_of h ≡ turn_events_of begun) × (item ≡ None)
  same = same_amount begun h None item begins (sym holds.turn ∙ whole)

  pub end_unpending : item ≡ None
  end_unpending = same.1

  stays : TurnStays begun h
  stays = turn_stays begun h begins same.0

  pub end_open : is_free h ≡ false
  end_open = free_stays begun h stays ∙ free-sched m e holds.at.was_free

  pub end_entry : open_entry_of h ≡ Some e
  end_entry = open_entry_stays begun h stays ∙ opened-sched m e holds.at.was_free

  pub end_last : (length (log h) ≡ n) × (n ≡ ended_count h + 1)
  end_last =
      let number : n ≡ length (log m) + 1 = holds.at.number in
      let entries : length (log h) ≡ length (log m) + 1 = ap length (stays.entries ∙ log-sched m e) ∙ length-append (log m) (e ∷ []) in
      let ended : ended_count h ≡ ended_count m = stays.ended ∙ done-same m (Sched e) refl in
      let idle : ended_count m ≡ length (log m) = eqb-true (ended_count m) (length (log m)) holds.at.was_free in
      (omega arith, omega arith)

  end_enabled : (b : ℕ) → is_enabled m b ≡ is_enabled h b
  end_enabled b = sym (stays.enabled b ∙ enabled-push m (Sched e) b)

  -- who is enabled now was enabled as the entry was scheduled
  was_enabled : (b : ℕ) → is_enabled h b ≡ true → in_mask mask_then b ≡ true
  was_enabled b on = holds.mask b ∙ (sym (stays.enabled b) ∙ on)

  end_served : HasServer p h (request_of e.act)
  end_served = λ needs. (let b = holds.at.served needs in (b.0, (sym (end_enabled b.0) ∙ b.1.0, b.1.1)))

  -- the log follows the history with the end
  pub end_follows : (failed starved : ℕ) → LogFollows tells count l (h ++ Ended failed starved ∷ [])
  end_follows failed starved = log_more (follows_reads tells count l begun h begins same.0 holds.follows) (Ended failed starved) (λ k. refl) (λ f. refl) refl

  pub end_idle : (failed starved : ℕ) → is_free (h ++ Ended failed starved ∷ []) ≡ true
  end_idle failed starved = (let a = end_last.0 in let b = end_last.1 in free-ended h failed starved end_open (omega (arith, a, b)) (omega (arith, a, b)))

  -- ---- who is noted as failed or as out of memory

  module _ (enabled : ℕ) (mask : (b : ℕ) → in_mask enabled b ≡ is_enabled h b) (tally settled : Tally) (settles : SettlesTally enabled tally settled) (below : ℕ) (reported : HaveReportedBelow below mask_then tally) where
    neither : (b : ℕ) → HasReported tally b → not (in_mask tally.taken b) ≡ true → not (in_mask tally.failed b) ≡ true → in_mask tally.starved b ≡ true
    neither b (inl took) not_taken not_failed = absurd (cc (sym (ap not took) ∙ not_taken))
    neither b (inr (inl failed)) not_taken not_failed = absurd (cc (sym (ap not failed) ∙ not_failed))
    neither b (inr (inr starved)) not_taken not_failed = starved

    starved_reported : (b : ℕ) → b < below → in_mask settled.starved b ≡ true → in_mask tally.starved b ≡ true
    starved_reported b few on =
        let all = and_parts (in_mask enabled b && not (in_mask tally.taken b)) (not (in_mask tally.failed b)) (sym (settles.starved b) ∙ on) in
        let some = and_parts (in_mask enabled b) (not (in_mask tally.taken b)) all.0 in neither b (reported b few (was_enabled b (sym (mask b) ∙ some.0))) some.1 all.1

    pub ends_as_reported : (H : List Event) → H ≡ h ++ Ended settled.failed settled.starved ∷ [] → EndsAsReported below tally H
    ends_as_reported H is = record {
      h = h;
      failed = settled.failed;
      starved = settled.starved;
      is = is;
      failed_only = λ b on. (failed_parts h enabled mask tally settled settles b on).1;
      starved_only = starved_reported;
    }

  -- ---- the answer

  module _ (enabled : ℕ) (mask : (b : ℕ) → in_mask enabled b ≡ is_enabled h b) (tally settled : Tally) (settles : SettlesTally enabled tally settled)
      (targets : ℕ) (are : (b : ℕ) → in_mask targets b ≡ is_target_at p h (open_entry_of h) b) (reply : Reply) (replies : AnswersByTally settled targets reply) (H : List Event) (is : H ≡ h ++ Ended settled.failed settled.starved ∷ []) where
    target_is : (b : ℕ) → in_mask targets b ≡ (is_enabled h b && concerns p b (log h) e.tx e.act)
    target_is b = are b ∙ ap (λ (o : Option Entry). is_target_at p h o b) end_entry

    are_targets : AreTargets p h e targets
    are_targets b = (λ on. and_parts (is_enabled h b) (concerns p b (log h) e.tx e.act) (sym (target_is b) ∙ on), λ (t : IsTarget p h e b). target_is b ∙ and_given (is_enabled h b) (concerns p b (log h) e.tx e.act) t.0 t.1)

    have_reported : HaveReported targets settled
    have_reported b on = all_settled h enabled mask tally settled settles b ((are_targets b).0 on).0

    -- a right tally of the entry in what was seen is right at the end, with the masks that fit
    module _ (outcomes : Bool) (tallied : IsTallyOf outcomes p (log F) (n - 1) e tally) where
      still_tallied : IsTallyOf outcomes p (log h) (ended_count h) e settled
      still_tallied =
          let place : ended_count h ≡ n - 1 = let b = end_last.1 in omega (arith, b) in
          record {
            right = λ o first. (let of : IsRightOutcome outcomes (log F) (n - 1) o = tallied.right o (sym settles.first_outcome ∙ first) in
                (of.0, λ on. ap (outcome_of (log h)) place ∙ outcome_longer (log F) (log h) (log-prefix F h longer) n e (entry_there p F n e holds.at) (Ok (caught.Did o)) (of.1 on)));
            whole = λ b took takes. subst (λ (o : Option Outcome). IsSome o) (sym settles.first_outcome) (tallied.whole b (ap (λ k. in_mask k b) (sym settles.taken) ∙ took) takes);
          }

      pub ends_since : EndsSince outcomes p F n e reply H
      ends_since = record {
        h = h;
        failed = settled.failed;
        starved = settled.starved;
        is = is;
        longer = longer;
        open_now = end_entry;
        last = end_last;
        answer = subst (λ (x : List Event). AnswersEntry outcomes p h x (ended_count h) e reply) (sym is) (replies outcomes p h e end_entry end_served are_targets have_reported still_tallied);
      }
