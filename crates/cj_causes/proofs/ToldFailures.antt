-- A session is told of failures by its turns alone, and each of them was noted.
use Rattle.std.proofs.Common.{◌≡◌, inl, inr, ℕ, ◌+◌, ◌≤◌, Bool, true, false, cond, ◌==◌, if◌then◌else◌, List, [], ◌∷◌, ◌++◌, All, Option, Some, None, refl, ap, sym, ◌∙◌, subst, arith}
use mathlib.Core.List.{IsPrefix}
use Rattle.std.proofs.lemmas.Bool.{both_ways}
use Rattle.std.proofs.lemmas.List.Elements.{All-append, All-cons, All-nil, All-weaker}
use Rattle.cj_model.specs.declared.answer.Answer.{Answer}
use Rattle.cj_model.specs.declared.answer.Refusal.{Refusal}
use Rattle.cj_model.specs.declared.answer.Reply.{Reply}
use Rattle.cj_model.specs.declared.answer.Reply.TheVariants.{Done, Rows, Stats, Refused}
use Rattle.cj_model.specs.declared.codes.TheConstants.{IN_TRANSACTION, NO_TRANSACTION, SCHEMA_IN_TRANSACTION}
use Rattle.cj_model.specs.declared.message.Message.{Message}
use Rattle.cj_model.specs.declared.message.Message.TheVariants as message
use Rattle.cj_model.specs.declared.request.Act.{Act}
use Rattle.cj_model.specs.declared.request.Act.TheVariants as act
use Rattle.cj_model.specs.Database.Inserts.{refusal_of_code}
use Rattle.cj_model.specs.Sql.PlainRequests.{act_of}
use Rattle.cj_model.specs.Cluster.Placements.{Placement}
use Rattle.cj_cluster.specs.declared.event.Event.{Event}
use Rattle.cj_cluster.specs.declared.session.SessionEnd.{SessionEnd}
use Rattle.cj_cluster.specs.History.Histories.{failures_noted, notes_failure}
use Rattle.cj_cluster.specs.History.Turns.{Call, Turn}
use Rattle.cj_cluster.specs.Moves.Moves.{forbidden_by}
use Rattle.cj_cluster.proofs.Pushed.{prefix_self, prefix_trans}
use Rattle.cj_desk.specs.DeskStates.{DeskCall, DeskState, DeskSteps, DeskTurn, cache_counted, desk_tx, query_skipped, turn_taken}
use Rattle.cj_desk.specs.SessionTranscripts.{AnswersQuery, AnswersStats, ClientState, IsRefusedBefore, LeavesDesk, MessageExchange, MessageExchanges, SendsReply, SendsRows, SessionSetting, SessionTranscript, login_reply, refusal_by_transaction}
use Rattle.cj_causes.proofs.Counting.{count-append, count-cons, fewer_before}
use Rattle.cj_causes.proofs.FailedTurns.{blaming_log_tells, blaming_tells, failure_noted, log_failure_noted, log_failures_before, turn_failed}
use Rattle.cj_causes.specs.Failures.{CoverBlames, ToldByTurn, blames_backend, blames_log, log_failures, tells_of_failure}

-- ---- replies that never come of a turn

login_tells_none : (user : Option (List ℕ)) (admitted : Bool) → tells_of_failure (login_reply user admitted) ≡ false
login_tells_none (Some user) admitted = refl
login_tells_none None true = refl
login_tells_none None false = refl

forbidden_if : (t : Bool) (q r : Refusal) → (if t then None else Some q) ≡ Some r → tells_of_failure (Refused q) ≡ false → tells_of_failure (Refused r) ≡ false
forbidden_if true q r is none = absurd (cc is)
forbidden_if false q r is none = let same : q ≡ r = cc is in subst (λ (x : Refusal). tells_of_failure (Refused x) ≡ false) same none

forbidden_unless : (t : Bool) (q r : Refusal) → (if t then Some q else None) ≡ Some r → tells_of_failure (Refused q) ≡ false → tells_of_failure (Refused r) ≡ false
forbidden_unless true q r is none = let same : q ≡ r = cc is in subst (λ (x : Refusal). tells_of_failure (Refused x) ≡ false) same none
forbidden_unless false q r is none = absurd (cc is)

forbidden_tells_none : (tx : ℕ) (a : Act) (r : Refusal) → forbidden_by tx a ≡ Some r → tells_of_failure (Refused r) ≡ false
forbidden_tells_none tx act.Begin r is = forbidden_if (tx == 0) (record { code = IN_TRANSACTION; a = tx; b = 0 }) r is refl
forbidden_tells_none tx (act.Write w) r is = absurd (cc is)
forbidden_tells_none tx (act.Create create) r is = forbidden_if (tx == 0) (record { code = SCHEMA_IN_TRANSACTION; a = tx; b = 0 }) r is refl
forbidden_tells_none tx (act.Drop table) r is = forbidden_if (tx == 0) (record { code = SCHEMA_IN_TRANSACTION; a = tx; b = 0 }) r is refl
forbidden_tells_none tx act.Commit r is = forbidden_unless (tx == 0) (refusal_of_code NO_TRANSACTION) r is refl
forbidden_tells_none tx act.Abort r is = forbidden_unless (tx == 0) (refusal_of_code NO_TRANSACTION) r is refl

by_transaction_tells_none : (tx : ℕ) (o : Option Act) (r : Refusal) → refusal_by_transaction tx o ≡ Some r → tells_of_failure (Refused r) ≡ false
by_transaction_tells_none tx None r is = absurd (cc is)
by_transaction_tells_none tx (Some a) r is = forbidden_tells_none tx a r is

before_tells_none : (tx : ℕ) (text : List ℕ) (reply : Reply) → IsRefusedBefore tx text reply → tells_of_failure reply ≡ false
before_tells_none tx text reply (inl x) = ap tells_of_failure x.replied
before_tells_none tx text reply (inr (inl x)) = ap tells_of_failure x.replied ∙ by_transaction_tells_none tx (act_of x.request) x.refusal x.forbids
before_tells_none tx text reply (inr (inr want)) = ap tells_of_failure want

rows_tell_none : (rows : Answer) (sent : Reply) → SendsRows rows sent → tells_of_failure sent ≡ false
rows_tell_none rows sent (inl whole) = ap tells_of_failure whole.1
rows_tell_none rows sent (inr (inl large)) = ap tells_of_failure large.1
rows_tell_none rows sent (inr (inr want)) = ap tells_of_failure want

-- ---- a desk and what it replied

none_blamed : (t : Bool) → (t ≡ true → ⊥) → cond {A = ℕ} t 1 0 ≡ 0
none_blamed true never = absurd (never refl)
none_blamed false never = refl

one_covered : (t : Bool) (before now : ℕ) → before ≤ now → (t ≡ true → before + 1 ≤ now) → before + cond {A = ℕ} t 1 0 ≤ now
one_covered true before now grows noted = noted refl
one_covered false before now grows noted = omega (arith, grows)

module _ (tells : Bool) where
  -- from a to z the session was told of failures by its turns alone, and each was noted
  record Told (a z : DeskState) (replies : List Reply) : Type 0 where
    placement : z.placement ≡ a.placement
    session : z.session ≡ a.session
    longer : IsPrefix a.seen.front z.seen.front
    told : All (λ (reply : Reply). tells_of_failure reply ≡ true → ToldByTurn tells a z reply) replies
    covered : CoverBlames a.seen.front z.seen.front replies

  abbrev TellsTruly : DeskState → DeskState → Reply → Type 0
  TellsTruly a z reply = tells_of_failure reply ≡ true → ToldByTurn tells a z reply

  -- what was told in a part of the way
  later_end : (a m z : DeskState) → IsPrefix m.seen.front z.seen.front → (reply : Reply) → TellsTruly a m reply → TellsTruly a z reply
  later_end a m z longer reply told failed =
      let t = told failed in
      record { before = t.before; call = t.call; after = t.after; since = t.since; turn = t.turn; failed = t.failed; seen = prefix_trans t.after.front m.seen.front z.seen.front t.seen longer; replied = t.replied }

  earlier_begin : (a m z : DeskState) → m.placement ≡ a.placement → m.session ≡ a.session → IsPrefix a.seen.front m.seen.front → (reply : Reply) → TellsTruly m z reply → TellsTruly a z reply
  earlier_begin a m z placement session longer reply told failed =
      let t = told failed in
      record {
        before = t.before;
        call = t.call;
        after = t.after;
        since = prefix_trans a.seen.front m.seen.front t.before.front longer t.since;
        turn = subst (λ (p : Placement). Turn tells p a.session t.before t.call t.after) placement (subst (λ (s : ℕ). Turn tells m.placement s t.before t.call t.after) session t.turn);
        failed = turn_failed tells a.placement a.session t.before t.call t.after
            (subst (λ (p : Placement). Turn tells p a.session t.before t.call t.after) placement (subst (λ (s : ℕ). Turn tells m.placement s t.before t.call t.after) session t.turn)) (ap tells_of_failure (sym t.replied) ∙ failed);
        seen = t.seen;
        replied = t.replied;
      }

  covered_then : (F H G : List Event) (rs qs : List Reply) → CoverBlames F H rs → CoverBlames H G qs → CoverBlames F G (rs ++ qs)
  covered_then F H G rs qs first last = record {
    backends = λ b. let all = count-append (blames_backend b) rs qs in let one = first.backends b in let two = last.backends b in omega (arith, all, one, two);
    log = let all = count-append blames_log rs qs in let one = first.log in let two = last.log in omega (arith, all, one, two);
  }

  told_then : (a m z : DeskState) (rs qs : List Reply) → Told a m rs → Told m z qs → Told a z (rs ++ qs)
  told_then a m z rs qs first last = record {
    placement = last.placement ∙ first.placement;
    session = last.session ∙ first.session;
    longer = prefix_trans a.seen.front m.seen.front z.seen.front first.longer last.longer;
    told = All-append (TellsTruly a z) rs qs (All-weaker (TellsTruly a m) (TellsTruly a z) (later_end a m z last.longer) rs first.told)
        (All-weaker (TellsTruly m z) (TellsTruly a z) (earlier_begin a m z first.placement first.session first.longer) qs last.told);
    covered = covered_then a.seen.front m.seen.front z.seen.front rs qs first.covered last.covered;
  }

  -- a call without a reply
  untold : (a z : DeskState) → z.placement ≡ a.placement → z.session ≡ a.session → IsPrefix a.seen.front z.seen.front → Told a z []
  untold a z placement session longer = record {
    placement = placement;
    session = session;
    longer = longer;
    told = All-nil (TellsTruly a z);
    covered = record {
      backends = λ b. let more = fewer_before (notes_failure b) a.seen.front z.seen.front longer in omega (arith, more);
      log = let more = log_failures_before a.seen.front z.seen.front longer in omega (arith, more);
    };
  }

  -- a reply that tells of no failure
  quietly : (a z : DeskState) (reply : Reply) → z.placement ≡ a.placement → z.session ≡ a.session → IsPrefix a.seen.front z.seen.front → tells_of_failure reply ≡ false → Told a z (reply ∷ [])
  quietly a z reply placement session longer none = record {
    placement = placement;
    session = session;
    longer = longer;
    told = All-cons (TellsTruly a z) reply [] (λ told. absurd (both_ways (tells_of_failure reply) none told)) (All-nil (TellsTruly a z));
    covered = record {
      backends = λ b.
          let more = fewer_before (notes_failure b) a.seen.front z.seen.front longer in
          let one = count-cons (blames_backend b) reply [] in
          let no = none_blamed (blames_backend b reply) (λ on. both_ways (tells_of_failure reply) none (blaming_tells b reply on)) in
          omega (arith, more, one, no);
      log =
          let more = log_failures_before a.seen.front z.seen.front longer in
          let one = count-cons blames_log reply [] in
          let no = none_blamed (blames_log reply) (λ on. both_ways (tells_of_failure reply) none (blaming_log_tells reply on)) in
          omega (arith, more, one, no);
    };
  }

  -- a turn and its reply
  turn_told : (a z : DeskState) (c : Call) → DeskTurn tells a c z → Told a z (c.reply ∷ [])
  turn_told a z c t =
      let fails = turn_failed tells a.placement a.session a.seen c z.seen t.turn in
      record {
        placement = t.placement;
        session = t.session;
        longer = t.turn.longer;
        told = All-cons (TellsTruly a z) c.reply []
            (λ told. record { before = a.seen; call = c; after = z.seen; since = prefix_self a.seen.front; turn = t.turn; failed = fails told; seen = prefix_self z.seen.front; replied = refl })
            (All-nil (TellsTruly a z));
        covered = record {
          backends = λ b.
              let more = fewer_before (notes_failure b) a.seen.front z.seen.front t.turn.longer in
              let one = count-cons (blames_backend b) c.reply [] in
              let noted = one_covered (blames_backend b c.reply) (failures_noted a.seen.front b) (failures_noted z.seen.front b) more
              (λ on. failure_noted tells a.placement a.session a.seen c z.seen t.turn.longer (fails (blaming_tells b c.reply on)) b on) in
              omega (arith, one, noted);
          log =
              let more = log_failures_before a.seen.front z.seen.front t.turn.longer in
              let one = count-cons blames_log c.reply [] in
              let noted = one_covered (blames_log c.reply) (log_failures a.seen.front) (log_failures z.seen.front) more
              (λ on. log_failure_noted tells a.placement a.session a.seen c z.seen t.turn.longer (fails (blaming_log_tells c.reply on)) on) in
              omega (arith, one, noted);
        };
      }

  -- what is sent of a reply
  sent_told : (a z : DeskState) (answer sent : Reply) → SendsReply answer sent → Told a z (answer ∷ []) → Told a z (sent ∷ [])
  sent_told a z (Done n) sent is t = subst (λ (r : Reply). Told a z (r ∷ [])) (sym is) t
  sent_told a z (Rows rows) sent is t = quietly a z sent t.placement t.session t.longer (rows_tell_none rows sent is)
  sent_told a z (Stats hits misses) sent is t = subst (λ (r : Reply). Told a z (r ∷ [])) (sym is) t
  sent_told a z (Refused r) sent is t = subst (λ (r : Reply). Told a z (r ∷ [])) (sym is) t

  -- ---- a session at a desk

  module _ {S D : Type 0} (w : SessionSetting S D) (promised : (a z : S) (x : DeskCall) → w.leads_to a x z → DeskSteps tells (w.state_of a) x (w.state_of z)) where
    still : (a z : S) (reply : Reply) → z ≡ a → tells_of_failure reply ≡ false → Told (w.state_of a) (w.state_of z) (reply ∷ [])
    still a z reply same none =
        let is = ap w.state_of same in
        quietly (w.state_of a) (w.state_of z) reply (ap (λ (d : DeskState). d.placement) is) (ap (λ (d : DeskState). d.session) is)
        (subst (λ (d : DeskState). IsPrefix (w.state_of a).seen.front d.seen.front) (sym is) (prefix_self (w.state_of a).seen.front)) none

    skipped : (a z : S) (reply : Reply) → w.leads_to a query_skipped z → tells_of_failure reply ≡ false → Told (w.state_of a) (w.state_of z) (reply ∷ [])
    skipped a z reply made none =
        let is = promised a z query_skipped made in
        quietly (w.state_of a) (w.state_of z) reply (ap (λ (d : DeskState). d.placement) is) (ap (λ (d : DeskState). d.session) is)
        (subst (λ (d : DeskState). IsPrefix (w.state_of a).seen.front d.seen.front) (sym is) (prefix_self (w.state_of a).seen.front)) none

    counted : (a z : S) (hits misses : ℕ) → w.leads_to a (cache_counted hits misses) z → Told (w.state_of a) (w.state_of z) (Stats hits misses ∷ [])
    counted a z hits misses made =
        let is = promised a z (cache_counted hits misses) made in
        quietly (w.state_of a) (w.state_of z) (Stats hits misses) (ap (λ (d : DeskState). d.placement) is) (ap (λ (d : DeskState). d.session) is)
        (subst (λ (d : DeskState). IsPrefix (w.state_of a).seen.front d.seen.front) (sym is) (prefix_self (w.state_of a).seen.front)) refl

    stats_told : (user : Option (List ℕ)) (a z : S) (reply : Reply) → AnswersStats w.leads_to user a reply z → Told (w.state_of a) (w.state_of z) (reply ∷ [])
    stats_told None a z reply h = still a z reply h.1 (ap tells_of_failure h.0)
    stats_told (Some user) a z reply h = subst (λ (r : Reply). Told (w.state_of a) (w.state_of z) (r ∷ [])) (sym h.replied) (counted a z h.hits h.misses h.asked)

    query_told : (user : Option (List ℕ)) (a z : ClientState S D) (text : List ℕ) (reply : Reply) → AnswersQuery w user a text reply z → Told (w.state_of a.desk) (w.state_of z.desk) (reply ∷ [])
    query_told None a z text reply h = skipped a.desk z.desk reply h.1.counted (ap tells_of_failure h.0)
    query_told (Some user) a z text reply (inl (refused, skips)) = skipped a.desk z.desk reply skips.counted (before_tells_none (desk_tx (w.state_of a.desk)) text reply refused)
    query_told (Some user) a z text reply (inr t) = turn_told (w.state_of a.desk) (w.state_of z.desk) _ (promised a.desk z.desk (turn_taken _) t.turn.made)

    exchange_told : (m : Message) (a z : ClientState S D) (reply : Reply) → MessageExchange w a m reply z → Told (w.state_of a.desk) (w.state_of z.desk) (reply ∷ [])
    exchange_told (message.Login user password) a z reply x = sent_told (w.state_of a.desk) (w.state_of z.desk) x.answer reply x.sends
        (still a.desk z.desk x.answer x.answers.desk (ap tells_of_failure x.answers.replied ∙ login_tells_none a.user ((w.state_of a.desk).admits user password)))
    exchange_told (message.Query text) a z reply x = sent_told (w.state_of a.desk) (w.state_of z.desk) x.answer reply x.sends (query_told a.user a z text x.answer x.answers)
    exchange_told message.Stats a z reply x = sent_told (w.state_of a.desk) (w.state_of z.desk) x.answer reply x.sends (stats_told a.user a.desk z.desk x.answer x.answers.0)
    exchange_told message.Quit a z reply x = absurd x.answers

    exchanges_told : (ms : List Message) (rs : List Reply) (a z : ClientState S D) → MessageExchanges w a ms rs z → Told (w.state_of a.desk) (w.state_of z.desk) rs
    exchanges_told [] [] a z same =
        let is = ap (λ (x : ClientState S D). w.state_of x.desk) same in
        untold (w.state_of a.desk) (w.state_of z.desk) (ap (λ (d : DeskState). d.placement) is) (ap (λ (d : DeskState). d.session) is)
        (subst (λ (d : DeskState). IsPrefix (w.state_of a.desk).seen.front d.seen.front) (sym is) (prefix_self (w.state_of a.desk).seen.front))
    exchanges_told [] (r ∷ rs) a z never = absurd never
    exchanges_told (m ∷ ms) [] a z never = absurd never
    exchanges_told (m ∷ ms) (r ∷ rs) a z h = told_then (w.state_of a.desk) (w.state_of h.0.desk) (w.state_of z.desk) (r ∷ []) rs (exchange_told m a h.0 r h.1) (exchanges_told ms rs h.0 z h.2)

    leaves_longer : (user : Option (List ℕ)) (a z : S) → LeavesDesk w.state_of w.leads_to user a z → IsPrefix (w.state_of a).seen.front (w.state_of z).seen.front
    leaves_longer user a z (inl (none, same)) = subst (λ (d : DeskState). IsPrefix (w.state_of a).seen.front d.seen.front) (sym (ap w.state_of same)) (prefix_self (w.state_of a).seen.front)
    leaves_longer user a z (inr back) = (promised a z (turn_taken _) back.made).turn.longer

    module _ (a : ClientState S D) (taken written : List ℕ) (ending : SessionEnd) (desk : S) (draws : D) (t : SessionTranscript w a taken written ending desk draws) where
      whole : Told (w.state_of a.desk) (w.state_of t.last.desk) t.replies
      whole = exchanges_told t.so_far.messages t.replies a t.last t.so_far.exchanges

      end_longer : IsPrefix (w.state_of t.last.desk).seen.front (w.state_of desk).seen.front
      end_longer = leaves_longer t.last.user t.last.desk desk t.leaves

      pub session_told : All (λ (reply : Reply). tells_of_failure reply ≡ true → ToldByTurn tells (w.state_of a.desk) (w.state_of desk) reply) t.replies
      session_told = All-weaker (TellsTruly (w.state_of a.desk) (w.state_of t.last.desk)) (TellsTruly (w.state_of a.desk) (w.state_of desk)) (later_end (w.state_of a.desk) (w.state_of t.last.desk) (w.state_of desk) end_longer) t.replies whole.told

      pub session_covered : CoverBlames (w.state_of a.desk).seen.front (w.state_of desk).seen.front t.replies
      session_covered = record {
        backends = λ b. let more = fewer_before (notes_failure b) (w.state_of t.last.desk).seen.front (w.state_of desk).seen.front end_longer in let covered = whole.covered.backends b in omega (arith, more, covered);
        log = let more = log_failures_before (w.state_of t.last.desk).seen.front (w.state_of desk).seen.front end_longer in let covered = whole.covered.log in omega (arith, more, covered);
      }
