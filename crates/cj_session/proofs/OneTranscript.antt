-- Where the desk is deterministic and the clock tells, a message has one reply, unless memory is wanting.
use Rattle.std.proofs.Common.{◌≡◌, ◌≢◌, ◌⊎◌, ℕ, ℤ, true, List, [], ◌∷◌, ◌++◌, Option, Some, None, IfSome, refl, sym, ap, subst, ◌∙◌, inl, inr, arith, lit≤}
use Rattle.std.proofs.lemmas.List.{append-nil, append_cancel_left}
use Rattle.cj_session.proofs.Common.{Answer, Done, flat_map, FrameFault, Message, NO_MEMORY, Refused, Reply, reply_bytes, Request, Rows, SessionEnd, Stats}
use Rattle.cj_cluster.specs.declared.session.SessionEnd.TheVariants as end
use Rattle.cj_model.specs.Wire.Frames.{frame, Frames, fault_of}
use Rattle.cj_model.specs.declared.message.Message.TheVariants as message
use Rattle.cj_model.specs.Sql.Grammar.{TextReadsAs}
use Rattle.cj_model.specs.Sql.Macros.{bounds, generator_after_draws}
use Rattle.cj_model.specs.Sql.PlainRequests.{act_of}
use Rattle.cj_sql.proofs.OneReading.{text_one}
use Rattle.cj_desk.specs.DeskStates.{DeskCall, turn_taken, query_skipped, cache_counted, desk_tx}
use Rattle.cj_cluster.specs.Wire.Sessions.{refused_reply, answered_messages}
use Rattle.cj_desk.specs.SessionTranscripts.{SessionSetting, ClientState, client_state, refusal_by_transaction, request_at_desk, SkipsQuery, IsRefusedBefore, IsQueryTurn, AnswersStats, AnswersQuery, AnswersMessage, SendsRows, SendsReply, MessageExchange, MessageExchanges, LeavesDesk, IsFaultyRest, AwaitsMore, IsWrittenWhole, EndsTranscript, SessionTranscript, bad_frame_reply}
use Rattle.cj_desk.specs.Determinism.{NoneWantsMemory, IsDeterministic}
use Rattle.cj_desk.specs.AnsweredMessages.{is_whole_end}
use Rattle.cj_desk.proofs.AnsweredLaws.{transcript_answers}

-- ---- what is sent

rows_one : (a : Answer) (r q : Reply) → r ≢ refused_reply NO_MEMORY → q ≢ refused_reply NO_MEMORY → SendsRows a r → SendsRows a q → r ≡ q
rows_one a r q fed full (inl x) (inl y) = x.1 ∙ sym y.1
rows_one a r q fed full (inl x) (inr (inl y)) = absurd (omega (arith, x.0, y.0))
rows_one a r q fed full (inr (inl x)) (inl y) = absurd (omega (arith, x.0, y.0))
rows_one a r q fed full (inr (inl x)) (inr (inl y)) = x.1 ∙ sym y.1
rows_one a r q fed full (inr (inr x)) y = absurd (fed x)
rows_one a r q fed full x (inr (inr y)) = absurd (full y)

pub sent_one : (answer r q : Reply) → r ≢ refused_reply NO_MEMORY → q ≢ refused_reply NO_MEMORY → SendsReply answer r → SendsReply answer q → r ≡ q
sent_one (Done count) r q fed full x y = x ∙ sym y
sent_one (Rows a) r q fed full x y = rows_one a r q fed full x y
sent_one (Stats hits misses) r q fed full x y = x ∙ sym y
sent_one (Refused refusal) r q fed full x y = x ∙ sym y

-- want of memory is sent as it is
pub starved_sent : (answer r : Reply) → answer ≡ refused_reply NO_MEMORY → SendsReply answer r → r ≡ refused_reply NO_MEMORY
starved_sent answer r is sends = subst (λ (x : Reply). SendsReply x r → r ≡ refused_reply NO_MEMORY) (sym is) (λ (h : r ≡ refused_reply NO_MEMORY). h) sends

-- ---- why a Query is stopped

pub stopped_one : (tx : ℕ) (text : List ℕ) (r q : Reply) → r ≢ refused_reply NO_MEMORY → q ≢ refused_reply NO_MEMORY → IsRefusedBefore tx text r → IsRefusedBefore tx text q → r ≡ q
stopped_one tx text r q fed full (inl x) (inl y) = x.replied ∙ sym y.replied
stopped_one tx text r q fed full (inl x) (inr (inl y)) = absurd (x.nothing y.request y.reads)
stopped_one tx text r q fed full (inr (inl x)) (inl y) = absurd (y.nothing x.request x.reads)
stopped_one tx text r q fed full (inr (inl x)) (inr (inl y)) =
    let same : x.request ≡ y.request = text_one text x.request y.request x.reads y.reads in
    let refusal : Some x.refusal ≡ Some y.refusal = sym x.forbids ∙ ap (λ (s : Request). refusal_by_transaction tx (act_of s)) same ∙ y.forbids in
    let one : x.refusal ≡ y.refusal = cc in
    x.replied ∙ ap Refused one ∙ sym y.replied
stopped_one tx text r q fed full (inr (inr x)) y = absurd (fed x)
stopped_one tx text r q fed full x (inr (inr y)) = absurd (full y)

-- what is stopped takes no turn
pub stopped_or_turned : (tx : ℕ) (text : List ℕ) (r : Reply) (s : Request) → r ≢ refused_reply NO_MEMORY → IsRefusedBefore tx text r → TextReadsAs text s → refusal_by_transaction tx (act_of s) ≡ None → ⊥
stopped_or_turned tx text r s fed (inl x) reads allowed = x.nothing s reads
stopped_or_turned tx text r s fed (inr (inl x)) reads allowed =
    let same : x.request ≡ s = text_one text x.request s x.reads reads in
    let never : Some x.refusal ≡ None = sym x.forbids ∙ ap (λ (y : Request). refusal_by_transaction tx (act_of y)) same ∙ allowed in
    cc
stopped_or_turned tx text r s fed (inr (inr x)) reads allowed = fed x

-- ---- what is written

pub rest_one : (front other rest last : List ℕ) → front ≡ other → front ++ rest ≡ other ++ last → rest ≡ last
rest_one front other rest last same e = append_cancel_left front rest last (e ∙ ap (λ (x : List ℕ). x ++ last) (sym same))

fine_nil : fault_of [] ≡ None
unfolding fault_of
fine_nil = refl

-- the rest is not faulty, and the replies were written; or it is, and its refusal was written behind them
abbrev WritesSo : List ℕ → List Reply → List ℕ → Type 0
WritesSo rest replies written = (((fault : FrameFault) → IsFaultyRest rest fault → ⊥) × IsWrittenWhole replies written) ⊎ ((fault : FrameFault) × IsFaultyRest rest fault × IsWrittenWhole (replies ++ bad_frame_reply fault ∷ []) written)

waits_fine : (rest : List ℕ) → AwaitsMore rest → (fault : FrameFault) → IsFaultyRest rest fault → ⊥
waits_fine rest waits fault faulty = let never : None ≡ Some fault = sym waits.fine ∙ faulty.fault_is in cc

writes_so : (rest : List ℕ) (replies : List Reply) (written : List ℕ) (ending : SessionEnd) → is_whole_end ending ≡ true → EndsTranscript rest replies written ending → WritesSo rest replies written
writes_so rest replies written end.Quit whole ends = inl (λ fault faulty. faulty.stops message.Quit ends.0.0 (record { texts = tt; size = lit≤ tt }) ends.0.1, ends.1)
writes_so rest replies written end.Eof whole ends = inl (λ fault faulty. waits_fine rest (record { stops = faulty.stops; fine = ap fault_of ends.0 ∙ fine_nil }) fault faulty, ends.1)
writes_so rest replies written end.Cut whole ends = inl (waits_fine rest ends.0, ends.2)
writes_so rest replies written (end.BadFrame fault) whole ends = inr (fault, ends.0, ends.1)
writes_so rest replies written end.ReadFault whole ends = inl (waits_fine rest ends.0, ends.1)
writes_so rest replies written end.WriteFault whole ends = absurd cc
writes_so rest replies written end.Spent whole ends = inl (waits_fine rest ends.0, ends.1)
writes_so rest replies written end.NoMemory whole ends = absurd cc

so_one : (rest : List ℕ) (replies : List Reply) (written other : List ℕ) → WritesSo rest replies written → WritesSo rest replies other → written ≡ other
so_one rest replies written other (inl x) (inl y) = x.1 ∙ sym y.1
so_one rest replies written other (inl x) (inr (fault, faulty, y)) = absurd (x.0 fault faulty)
so_one rest replies written other (inr (fault, faulty, x)) (inl y) = absurd (y.0 fault faulty)
so_one rest replies written other (inr (fault, faulty, x)) (inr (flaw, flawed, y)) =
    let faults : Some fault ≡ Some flaw = sym faulty.fault_is ∙ flawed.fault_is in
    let same : fault ≡ flaw = cc in
    x ∙ ap (λ (k : FrameFault). flat_map reply_bytes (replies ++ bad_frame_reply k ∷ [])) same ∙ sym y

pub written_one : (rest : List ℕ) (replies : List Reply) (written other : List ℕ) (ending last : SessionEnd) → is_whole_end ending ≡ true → is_whole_end last ≡ true → EndsTranscript rest replies written ending → EndsTranscript rest replies other last → written ≡ other
written_one rest replies written other ending last whole full x y = so_one rest replies written other (writes_so rest replies written ending whole x) (writes_so rest replies other last full y)

-- ---- messages

-- the reply of what a desk was asked
abbrev pub reply_of : DeskCall → Reply → Reply
reply_of (turn_taken c) r = c.reply
reply_of query_skipped r = r
reply_of (cache_counted hits misses) r = Stats hits misses

client_one : {S D : Type 0} (z u : ClientState S D) → z.user ≡ u.user → z.desk ≡ u.desk → z.draws ≡ u.draws → z ≡ u
client_one {S} {D} z u user desk draws =
    ap (λ (x : Option (List ℕ)). client_state x z.desk z.draws) user ∙ ap (λ (x : S). client_state u.user x z.draws) desk ∙ ap (λ (x : D). client_state u.user u.desk x) draws

module _ {S D : Type 0} (w : SessionSetting S D) (fixed : IsDeterministic w.leads_to) (shown : ℤ) (tells : w.moment ≡ Some shown) where
  -- one reply, and one state of the client
  abbrev IsOne : Reply → ClientState S D → Reply → ClientState S D → Type 0
  IsOne r z q u = (r ≡ q) × (z ≡ u)

  moment_one : (m : ℤ) → IfSome w.moment (λ (s : ℤ). m ≡ s) → m ≡ shown
  moment_one m h = subst (λ (o : Option ℤ). IfSome o (λ (s : ℤ). m ≡ s)) tells h

  skips_one : (a z u : ClientState S D) → SkipsQuery w a z → SkipsQuery w a u → z ≡ u
  skips_one a z u x y = client_one z u (x.user ∙ sym y.user) (fixed a.desk z.desk u.desk query_skipped query_skipped tt x.counted y.counted).1 (x.draws ∙ sym y.draws)

  login_one : (a z u : ClientState S D) (user password : List ℕ) (r q : Reply) → AnswersMessage w a (message.Login user password) r z → AnswersMessage w a (message.Login user password) q u → IsOne r z q u
  login_one a z u user password r q x y = (x.replied ∙ sym y.replied, client_one z u (x.user_is ∙ sym y.user_is) (x.desk ∙ sym y.desk) (x.draws ∙ sym y.draws))

  stats_one : (user : Option (List ℕ)) (a z u : S) (r q : Reply) → AnswersStats w.leads_to user a r z → AnswersStats w.leads_to user a q u → (r ≡ q) × (z ≡ u)
  stats_one None a z u r q x y = (x.0 ∙ sym y.0, x.1 ∙ sym y.1)
  stats_one (Some user) a z u r q x y =
      let same = fixed a z u (cache_counted x.hits x.misses) (cache_counted y.hits y.misses) tt x.asked y.asked in
      (x.replied ∙ ap (λ (k : DeskCall). reply_of k r) same.0 ∙ sym y.replied, same.1)

  turns_one : (user text : List ℕ) (a z u : ClientState S D) (r q : Reply) → IsQueryTurn w user a text r z → IsQueryTurn w user a text q u → IsOne r z q u
  turns_one user text a z u r q x y =
      let same : x.request ≡ y.request = text_one text x.request y.request x.reads y.reads in
      let moment : x.turn.moment ≡ y.turn.moment = moment_one x.turn.moment x.turn.shown ∙ sym (moment_one y.turn.moment y.turn.shown) in
      let asked : request_at_desk w x.turn.moment a.draws x.request ≡ request_at_desk w y.turn.moment a.draws y.request =
      ap (λ (m : ℤ). request_at_desk w m a.draws x.request) moment ∙ ap (λ (s : Request). request_at_desk w y.turn.moment a.draws s) same in
      let one = fixed a.desk z.desk u.desk _ _ (record { number = refl; tx = refl; user = refl; request = asked }) x.turn.made y.turn.made in (
        ap (λ (k : DeskCall). reply_of k r) one.0,
        client_one z u (x.user_is ∙ sym y.user_is) one.1 (x.turn.drew ∙ ap (λ (s : Request). generator_after_draws w.later a.draws (bounds s)) same ∙ sym y.turn.drew),
      )

  query_one : (user : Option (List ℕ)) (text : List ℕ) (a z u : ClientState S D) (r q : Reply) → r ≢ refused_reply NO_MEMORY → q ≢ refused_reply NO_MEMORY → AnswersQuery w user a text r z → AnswersQuery w user a text q u → IsOne r z q u
  query_one None text a z u r q fed full x y = (x.0 ∙ sym y.0, skips_one a z u x.1 y.1)
  query_one (Some user) text a z u r q fed full (inl (x, s)) (inl (y, t)) = (stopped_one (desk_tx (w.state_of a.desk)) text r q fed full x y, skips_one a z u s t)
  query_one (Some user) text a z u r q fed full (inl (x, s)) (inr y) = absurd (stopped_or_turned (desk_tx (w.state_of a.desk)) text r y.request fed x y.reads y.allowed)
  query_one (Some user) text a z u r q fed full (inr x) (inl (y, t)) = absurd (stopped_or_turned (desk_tx (w.state_of a.desk)) text q x.request full y x.reads x.allowed)
  query_one (Some user) text a z u r q fed full (inr x) (inr y) = turns_one user text a z u r q x y

  answer_one : (m : Message) (a z u : ClientState S D) (r q : Reply) → r ≢ refused_reply NO_MEMORY → q ≢ refused_reply NO_MEMORY → AnswersMessage w a m r z → AnswersMessage w a m q u → IsOne r z q u
  answer_one (message.Login user password) a z u r q fed full x y = login_one a z u user password r q x y
  answer_one (message.Query text) a z u r q fed full x y = query_one a.user text a z u r q fed full x y
  answer_one message.Stats a z u r q fed full x y =
      let one = stats_one a.user a.desk z.desk u.desk r q x.0 y.0 in
      (one.0, client_one z u (x.1 ∙ sym y.1) one.1 (x.2 ∙ sym y.2))
  answer_one message.Quit a z u r q fed full x y = absurd x

  pub exchange_one : (m : Message) (a z u : ClientState S D) (r q : Reply) → r ≢ refused_reply NO_MEMORY → q ≢ refused_reply NO_MEMORY → MessageExchange w a m r z → MessageExchange w a m q u → IsOne r z q u
  exchange_one m a z u r q fed full x y =
      let one = answer_one m a z u x.answer y.answer (λ (e : x.answer ≡ refused_reply NO_MEMORY). fed (starved_sent x.answer r e x.sends)) (λ (e : y.answer ≡ refused_reply NO_MEMORY). full (starved_sent y.answer q e y.sends)) x.answers y.answers in
      (sent_one y.answer r q fed full (subst (λ (k : Reply). SendsReply k r) one.0 x.sends) y.sends, one.1)

  exchanges_one : (ms : List Message) (rs qs : List Reply) (a z u : ClientState S D) → NoneWantsMemory rs → NoneWantsMemory qs → MessageExchanges w a ms rs z → MessageExchanges w a ms qs u → (rs ≡ qs) × (z ≡ u)
  exchanges_one [] [] [] a z u fed full x y = (refl, x ∙ sym y)
  exchanges_one [] (r ∷ rs) qs a z u fed full x y = absurd x
  exchanges_one [] [] (q ∷ qs) a z u fed full x y = absurd y
  exchanges_one (m ∷ ms) [] qs a z u fed full x y = absurd x
  exchanges_one (m ∷ ms) (r ∷ rs) [] a z u fed full x y = absurd y
  exchanges_one (m ∷ ms) (r ∷ rs) (q ∷ qs) a z u fed full x y =
      let one = exchange_one m a x.0 y.0 r q fed.0 full.0 x.1 y.1 in
      let later = exchanges_one ms rs qs x.0 z u fed.1 full.1 x.2 (subst (λ (s : ClientState S D). MessageExchanges w s ms qs u) (sym one.1) y.2) in
      (ap (λ (k : Reply). k ∷ rs) one.0 ∙ ap (λ (ks : List Reply). q ∷ ks) later.0, later.1)

  leaves_one : (user : Option (List ℕ)) (a z u : S) → LeavesDesk w.state_of w.leads_to user a z → LeavesDesk w.state_of w.leads_to user a u → z ≡ u
  leaves_one user a z u (inl x) (inl y) = x.1 ∙ sym y.1
  leaves_one user a z u (inl x) (inr y) = absurd (y.is_open x.0)
  leaves_one user a z u (inr x) (inl y) = absurd (x.is_open y.0)
  leaves_one user a z u (inr x) (inr y) =
      let names : Some x.name ≡ Some y.name = sym x.is ∙ y.is in
      let name : x.name ≡ y.name = cc in
      (fixed a z u _ _ (record { number = refl; tx = refl; user = name; request = refl }) x.made y.made).1

  -- the bytes taken fix the bytes written, and how the desk is left
  pub transcript_one : (a : ClientState S D) (taken written other : List ℕ) (ending last : SessionEnd) (desk final : S) (draws drawn : D) (x : SessionTranscript w a taken written ending desk draws) (y : SessionTranscript w a taken other last final drawn)
      → is_whole_end ending ≡ true → is_whole_end last ≡ true → NoneWantsMemory x.replies → NoneWantsMemory y.replies → (reading : List Message) (rest : List ℕ) → Frames taken reading rest → (written ≡ other) × (desk ≡ final)
  transcript_one a taken written other ending last desk final draws drawn x y ends finishes fed full reading rest f =
      let hx = transcript_answers w a taken written ending desk draws x reading rest f in
      let hy = transcript_answers w a taken other last final drawn y reading rest f in
      let mx : answered_messages reading ≡ x.so_far.messages = hx.front ∙ ap (λ (t : List Message). x.so_far.messages ++ t) (hx.all ends) ∙ append-nil x.so_far.messages in
      let my : answered_messages reading ≡ y.so_far.messages = hy.front ∙ ap (λ (t : List Message). y.so_far.messages ++ t) (hy.all finishes) ∙ append-nil y.so_far.messages in
      let messages : x.so_far.messages ≡ y.so_far.messages = sym mx ∙ my in
      let one = exchanges_one x.so_far.messages x.replies y.replies a x.last y.last fed full x.so_far.exchanges
      (subst (λ (ms : List Message). MessageExchanges w a ms y.replies y.last) (sym messages) y.so_far.exchanges) in
      let rests : x.rest ≡ y.rest = rest_one (flat_map frame x.so_far.messages) (flat_map frame y.so_far.messages) x.rest y.rest (ap (flat_map frame) messages) (sym x.so_far.whole ∙ y.so_far.whole) in (
        written_one x.rest x.replies written other ending last ends finishes x.ends
            (subst (λ (t : List ℕ). EndsTranscript t x.replies other last) (sym rests) (subst (λ (rs : List Reply). EndsTranscript y.rest rs other last) (sym one.0) y.ends)),
        leaves_one x.last.user x.last.desk desk final x.leaves (subst (λ (s : ClientState S D). LeavesDesk w.state_of w.leads_to s.user s.desk final) (sym one.1) y.leaves),
      )
