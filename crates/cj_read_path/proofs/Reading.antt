-- How a session's query goes on, and how it ends.
use Rattle.std.proofs.Common.{◌≡◌, ◌⊎◌, ⊎_elim, ℕ, ◌-◌, ◌^◌, ◌<◌, ◌≤◌, ◌&&◌, ◌||◌, ◌==◌, not, bit_and, Bool, true, false, List, length, Option, None, Some, IfSome, refl, ap, sym, ◌∙◌, subst, arith, eqb-true}
use mathlib.Core.List.{IsPrefix}
use Rattle.std.proofs.lemmas.Bool.{both_ways}
use Rattle.cj_model.specs.declared.answer.Answer.{Answer}
use Rattle.cj_model.specs.declared.answer.Asked.{Asked}
use Rattle.cj_model.specs.declared.answer.Reply.{Reply}
use Rattle.cj_model.specs.declared.answer.Reply.TheVariants.{Refused, Rows}
use Rattle.cj_model.specs.declared.codes.TheConstants.{HISTORY_FULL, NO_BACKEND, NO_MEMORY, READ_FAULT}
use Rattle.cj_model.specs.declared.request.Request.TheVariants as request
use Rattle.cj_model.specs.declared.select.Select.{Select}
use Rattle.cj_model.specs.Cluster.Masks.{in_mask}
use Rattle.cj_model.specs.Cluster.Placements.{Placement}
use Rattle.cj_model.specs.Database.Inserts.{refusal_of_code}
use Rattle.cj_model.specs.Wire.Replies.{asked_reply}
use Rattle.cj_model.proofs.Masks.{has-zero}
use Rattle.cj_cluster.specs.declared.event.Event.{Event}
use Rattle.cj_cluster.specs.History.Answering.{CanServe, HasNoServer}
use Rattle.cj_cluster.specs.History.Histories.{log, tx_of}
use Rattle.cj_cluster.specs.History.Legality.{IsLegal}
use Rattle.cj_cluster.specs.History.Turns.{Turn}
use Rattle.cj_cluster.specs.Moves.Runs.{HasFailedSince}
use Rattle.cj_cluster.proofs.Pushed.{log-prefix, prefix_length, prefix_self, prefix_trans}
use Rattle.cj_board.specs.declared.view.SeatView.{SeatView}
use Rattle.cj_board.specs.Counting.{event_count_of}
use Rattle.cj_locked.specs.declared.failure.ReadFailure.TheVariants as failure
use Rattle.cj_locked.specs.declared.look.Look.{Look}
use Rattle.cj_locked.specs.Failures.{FailsSince}
use Rattle.cj_book.specs.News.{IsOwedAt, IsRightAt}
use Rattle.cj_locked.specs.Looking.{AreAllTried, IsLookAt}
use Rattle.cj_pass.specs.Passes.{HasSeenMore}
use Rattle.cj_locked_cell.specs.Answering.{GivesAnswerAt}
use Rattle.cj_locked.specs.Reading.{call_of_query, answered, full, in_vain, kept, refused, starved, unserved, EndsRead}
use Rattle.cj_locked.specs.Writing.{AreUpTo}
use Rattle.cj_locked.proofs.Ending.{has_less}
use Rattle.cj_locked.proofs.Reading.{failed_still, read_leaves, turn_of_read}
use Rattle.cj_locked.proofs.Writing.{still_counted}
use Rattle.cj_read_path.specs.declared.reads.Attempt.{Attempt}
use Rattle.cj_read_path.specs.declared.reads.Attempt.TheVariants as attempt
use Rattle.cj_read_path.specs.Reading.{HaveFailedSince, IsAttempt}

-- ---- masks

-- a mask that leaves nothing of another has each of its backends
pub has_all : (mask wanted : ℕ) → mask < 2 ^ 32 → wanted < 2 ^ 32 → bit_and wanted (4294967295 - mask) ≡ 0 → (b : ℕ) → in_mask wanted b ≡ true → in_mask mask b ≡ true
has_all mask wanted fits fits' none b on =
    by (in_mask mask b) (subst (λ (x : Bool). (x && not (in_mask mask b)) ≡ false) on (sym (has_less wanted mask b fits' fits) ∙ (ap (λ x. in_mask x b) none ∙ has-zero b)))
  where
    by : (x : Bool) → (true && not x) ≡ false → x ≡ true
    by true is = refl
    by false is = sym is

-- ---- failures

-- a failure since a later history is one since an earlier
pub failed_earlier : (F h G : List Event) (s q b : ℕ) → IsPrefix F h → HasFailedSince h G s q b → HasFailedSince F G s q b
failed_earlier F h G s q b longer x = let low : length h ≤ x.k = x.low in let less = prefix_length F h longer in record { k = x.k; low = omega (arith, low, less); high = x.high; is = x.is }

-- those that failed have failed as more is seen
pub all_still : (F h G : List Event) (s q mask : ℕ) → IsPrefix h G → HaveFailedSince F h s q mask → HaveFailedSince F G s q mask
all_still F h G s q mask longer all = λ b on. failed_still F h G s q b longer (all b on)

-- and one more
pub one_more : (F h G : List Event) (s q old new b : ℕ) → IsPrefix h G → ((c : ℕ) → in_mask new c ≡ (in_mask old c || c == b)) → HaveFailedSince F h s q old → HasFailedSince F G s q b → HaveFailedSince F G s q new
one_more F h G s q old new b longer bits all last = λ c on. by c (in_mask old c) refl (c == b) refl (sym (bits c) ∙ on)
  where
    by : (c : ℕ) (x : Bool) → in_mask old c ≡ x → (y : Bool) → (c == b) ≡ y → (x || y) ≡ true → HasFailedSince F G s q c
    by c true is y same on = failed_still F h G s q c longer (all c is)
    by c false is true same on = subst (λ k. HasFailedSince F G s q k) (sym (eqb-true c b same)) last
    by c false is false same on = absurd (both_ways false refl on)

-- no backend of the empty mask has failed
pub none_yet : (F G : List Event) (s q : ℕ) → HaveFailedSince F G s q 0
none_yet F G s q = λ b on. absurd (both_ways (in_mask 0 b) (has-zero b) on)

-- ---- how a query ends

-- it ends so for a session that had seen less, too
pub ends_earlier : (tells : Bool) (p : Placement) (F h G : List Event) (s q tx : ℕ) (select : Select) (least : ℕ) (r : Reply) (n : ℕ) → IsPrefix F h → EndsRead tells p h s q tx select least G r n → EndsRead tells p F s q tx select least G r n
ends_earlier tells p F h G s q tx select least r n longer (answered x) =
    answered
    record {
      m = x.m;
      before = prefix_trans F h x.m longer x.before;
      b = x.b;
      serves = x.serves;
      asked_for = x.asked_for;
      owes = x.owes;
      v = x.v;
      since = x.since;
      after = x.after;
      answer = x.answer;
      gives = x.gives;
      replied = x.replied;
    }
ends_earlier tells p F h G s q tx select least r n longer (kept x) = kept record { m = x.m; before = prefix_trans F h x.m longer x.before; after = x.after; answer = x.answer; right = x.right; owes = x.owes; replied = x.replied }
ends_earlier tells p F h G s q tx select least r n longer (in_vain x same) =
    in_vain
    record {
      m = x.m;
      before = prefix_trans F h x.m longer x.before;
      after = x.after;
      tried = x.tried;
      mask = x.mask;
      all = x.all;
      failed = λ b on. failed_earlier F h x.m s q b longer (x.failed b on);
      replied = x.replied;
    }
    same
ends_earlier tells p F h G s q tx select least r n longer (refused x same) = refused record { m = x.m; before = prefix_trans F h x.m longer x.before; after = x.after; refusal = x.refusal; why = x.why; replied = x.replied } same

-- a backend that was picked at history h has answered
pub ends_answered : (tells : Bool) (p : Placement) (h G : List Event) (s q tx b : ℕ) (select : Select) (least owed : ℕ) (v : SeatView) (answer : Asked) (r : Reply) (n : ℕ)
    → CanServe p h (request.Select select) b → IsOwedAt h least owed → GivesAnswerAt tells p b tx select owed v answer n → IsPrefix h v.front → IsPrefix v.front G → r ≡ asked_reply answer → EndsRead tells p h s q tx select least G r n
ends_answered tells p h G s q tx b select least owed v answer r n serves owes gives since after replied =
    answered record { m = h; before = prefix_self h; b = b; serves = serves; asked_for = owed; owes = owes; v = v; since = since; after = after; answer = answer; gives = gives; replied = replied }

-- memory is wanting
pub ends_starved : (tells : Bool) (p : Placement) (F G : List Event) (s q tx : ℕ) (select : Select) (least : ℕ) (r : Reply) (n : ℕ) → IsPrefix F G → r ≡ Refused (refusal_of_code NO_MEMORY) → n ≡ least → EndsRead tells p F s q tx select least G r n
ends_starved tells p F G s q tx select least r n longer is same = refused record { m = F; before = prefix_self F; after = longer; refusal = refusal_of_code NO_MEMORY; why = starved refl; replied = is } same

-- nobody serves it at a history m
pub ends_unserved : (tells : Bool) (p : Placement) (F m G : List Event) (s q tx : ℕ) (select : Select) (least : ℕ) (r : Reply) (n : ℕ)
    → IsPrefix F m → IsPrefix m G → HasNoServer p m (request.Select select) → r ≡ Refused (refusal_of_code NO_BACKEND) → n ≡ least → EndsRead tells p F s q tx select least G r n
ends_unserved tells p F m G s q tx select least r n before after none is same = refused record { m = m; before = before; after = after; refusal = refusal_of_code NO_BACKEND; why = unserved refl none; replied = is } same

-- the cache kept an answer at history m, of which a copy is given, or memory is wanting for that
pub ends_kept : (tells : Bool) (p : Placement) (F m : List Event) (s q tx : ℕ) (select : Select) (least : ℕ) (answer : Answer) (at : ℕ) (r : Reply) (n : ℕ)
    → IsPrefix F m → IsRightAt tells p m tx select answer at → IsOwedAt m least at → ((r ≡ Rows answer) × (n ≡ at)) ⊎ ((r ≡ Refused (refusal_of_code NO_MEMORY)) × (n ≡ least)) → EndsRead tells p F s q tx select least m r n
ends_kept tells p F m s q tx select least answer at r n before right owes came =
    ⊎_elim
    (λ (x : (r ≡ Rows answer) × (n ≡ at)).
    kept record { m = m; before = before; after = prefix_self m; answer = answer; right = subst (λ k. IsRightAt tells p m tx select answer k) (sym x.1) right; owes = subst (λ k. IsOwedAt m least k) (sym x.1) owes; replied = x.0 })
    (λ (x : (r ≡ Refused (refusal_of_code NO_MEMORY)) × (n ≡ least)). ends_starved tells p F m s q tx select least r n before x.0 x.1)
    came

-- each that serves it at history m has failed in it
pub ends_in_vain : (tells : Bool) (p : Placement) (F m : List Event) (s q tx : ℕ) (select : Select) (least tried failed mask : ℕ) (r : Reply) (n : ℕ)
    → IsPrefix F m → AreAllTried p m select tried mask → HaveFailedSince F m s q failed → ((b : ℕ) → in_mask mask b ≡ true → in_mask failed b ≡ true) → r ≡ Refused (record { code = READ_FAULT; a = mask; b = 0 }) → n ≡ least → EndsRead tells p F s q tx select least m r n
ends_in_vain tells p F m s q tx select least tried failed mask r n before all have each is same =
    in_vain record { m = m; before = before; after = prefix_self m; tried = failed; mask = mask; all = record { some = all.some; serving = all.serving; each = each }; failed = have; replied = is } same

-- ---- what came of a failure

module _ (tells : Bool) (p : Placement) (F G : List Event) (s q tx b : ℕ) (select : Select) (least : ℕ) (r : Reply) where
  pub failed_full : (events : ℕ) → FailsSince p F G s q b select (failure.Full events) → r ≡ Refused (record { code = HISTORY_FULL; a = events; b = 0 }) → EndsRead tells p F s q tx select least G r least
  failed_full events x is =
      refused
      record {
        m = x.m;
        before = x.longer;
        after = subst (IsPrefix x.m) (sym x.at.2) (prefix_self x.m);
        refusal = record { code = HISTORY_FULL; a = events; b = 0 };
        why = full (ap (λ k. record { code = HISTORY_FULL; a = k; b = 0 }) x.at.1) x.at.0 x.at.3;
        replied = is;
      }
      refl

  pub failed_unserved : FailsSince p F G s q b select failure.Unserved → r ≡ Refused (refusal_of_code NO_BACKEND) → EndsRead tells p F s q tx select least G r least
  failed_unserved x is = ends_unserved tells p F x.m G s q tx select least r least x.longer (subst (IsPrefix x.m) (sym x.at.1) (prefix_self x.m)) x.at.2 is refl

-- what came of a backend that was asked later
pub attempt_earlier : (tells : Bool) (p : Placement) (F h G : List Event) (s q b tx : ℕ) (select : Select) (least : ℕ) (a : Attempt) → IsPrefix F h → IsAttempt tells p h s q b tx select least G a → IsAttempt tells p F s q b tx select least G a
attempt_earlier tells p F h G s q b tx select least (attempt.Ended r n) longer x = ends_earlier tells p F h G s q tx select least r n longer x
attempt_earlier tells p F h G s q b tx select least attempt.Failed longer x = failed_earlier F h G s q b longer x
attempt_earlier tells p F h G s q b tx select least attempt.Later longer x = tt

-- ---- by result

pub some_weaker : {A : Type 0} (P Q : A → Type 0) → ((x : A) → P x → Q x) → (o : Option A) → IfSome o P → IfSome o Q
some_weaker P Q f (Some x) h = f x h
some_weaker P Q f None h = tt

-- a look, of which more is known
pub look_is : (p : Placement) (h : List Event) (select : Select) (least tried : ℕ) (x y : Look) → x ≡ y → IsLookAt p h select least tried x → IsLookAt p h select least tried y
look_is p h select least tried x y is looked = subst (λ (l : Look). IsLookAt p h select least tried l) is looked

-- what is right where backends tell so, by another word for that
pub right_told : (t u : Bool) (p : Placement) (h : List Event) (tx : ℕ) (select : Select) (answer : Answer) (n : ℕ) → t ≡ u → IsRightAt t p h tx select answer n → IsRightAt u p h tx select answer n
right_told t u p h tx select answer n told right = subst (λ (k : Bool). IsRightAt k p h tx select answer n) told right

-- ---- the whole

-- the session owes a position that the pass has seen
ends_within : (tells : Bool) (p : Placement) (F G : List Event) (s q tx : ℕ) (select : Select) (least : ℕ) (r : Reply) (n : ℕ) → IsPrefix F G → least ≤ length (log F) → EndsRead tells p F s q tx select least G r n → n ≤ length (log G)
ends_within tells p F G s q tx select least r n longer owes (answered x) =
    let there : n ≤ length (log x.v.front) = x.gives.within in
    let more = prefix_length (log x.v.front) (log G) (log-prefix x.v.front G x.after) in
    omega (arith, there, more)
ends_within tells p F G s q tx select least r n longer owes (kept x) =
    let there : n ≤ length (log x.m) = x.owes.within in
    let more = prefix_length (log x.m) (log G) (log-prefix x.m G x.after) in
    omega (arith, there, more)
ends_within tells p F G s q tx select least r n longer owes (in_vain x same) = let more = prefix_length (log F) (log G) (log-prefix F G longer) in omega (arith, owes, same, more)
ends_within tells p F G s q tx select least r n longer owes (refused x same) = let more = prefix_length (log F) (log G) (log-prefix F G longer) in omega (arith, owes, same, more)

-- The own pass of session s had seen v, and w when the query ended. Its count was looked at then.
module _ (tells : Bool) (p : Placement) (s q tx : ℕ) (user : List ℕ) (select : Select) (least : ℕ) (r : Reply) (n : ℕ) (v w u : SeatView)
    (more : HasSeenMore v w) (same : u ≡ w) (own : v.own_session ≡ s) (some : 0 < s) (counted : event_count_of s v.front ≡ v.count) (looked : 0 < w.own_session → event_count_of w.own_session w.front ≤ w.count)
    (legal : IsLegal w.front) (owes : least ≤ length (log v.front)) (in_tx : (tx ≡ 0) ⊎ (tx ≡ tx_of (log v.front) s)) (ended : EndsRead tells p v.front s q tx select least w.front r n) where
  -- nothing of the session came
  stands : (event_count_of s u.front ≡ event_count_of s v.front) × (event_count_of s u.front ≡ u.count) × IsPrefix v.front u.front
  stands = still_counted s v w u more same own some counted looked

  pub read_legal : IsLegal u.front
  read_legal = subst (λ (z : SeatView). IsLegal z.front) (sym same) legal

  ended_there : EndsRead tells p v.front s q tx select least u.front r n
  ended_there = subst (λ (z : SeatView). EndsRead tells p v.front s q tx select least z.front r n) (sym same) ended

  few : event_count_of s u.front ≤ event_count_of s v.front
  few = let k : event_count_of s u.front ≡ event_count_of s v.front = stands.0 in omega (arith, k)

  pub read_turn : Turn tells p s (record { front = v.front; least = least }) (call_of_query q tx user select r) (record { front = u.front; least = n })
  read_turn = turn_of_read tells p s v.front u.front least q tx user select r n some read_legal stands.2 few owes in_tx ended_there

  pub read_tx : tx_of (log u.front) s ≡ tx_of (log v.front) s
  read_tx = (read_leaves s v.front u.front some read_legal stands.2 few).0

  pub read_newer : (k : ℕ) → AreUpTo s k (log v.front) → AreUpTo s k (log u.front)
  read_newer = (read_leaves s v.front u.front some read_legal stands.2 few).2

  pub read_own : u.own_session ≡ s
  read_own = ap (λ (z : SeatView). z.own_session) same ∙ (more.own ∙ own)

  pub read_counted : event_count_of s u.front ≡ u.count
  read_counted = stands.1

  pub read_within : n ≤ length (log u.front)
  read_within = ends_within tells p v.front u.front s q tx select least r n stands.2 owes ended_there
