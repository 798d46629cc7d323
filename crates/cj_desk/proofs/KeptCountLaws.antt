-- Over a session after which a count of its desk is no greater, no call raised it.
use Rattle.std.proofs.Common.{ℕ, ◌≤◌, List, [], ◌∷◌, Option, Some, None, ap, inl, inr, arith}
use Rattle.cj_model.specs.declared.message.Message.{Message}
use Rattle.cj_model.specs.declared.message.Message.TheVariants as message
use Rattle.cj_cluster.specs.declared.session.SessionEnd.{SessionEnd}
use Rattle.cj_model.specs.declared.answer.Reply.{Reply}
use Rattle.cj_desk.specs.DeskStates.{DeskCall, turn_taken, query_skipped, cache_counted}
use Rattle.cj_desk.specs.SessionTranscripts.{SessionSetting, setting, ClientState, AnswersStats, AnswersQuery, MessageExchange, MessageExchanges, LeavesDesk, SessionTranscript}
use Rattle.cj_desk.specs.KeptCounts.{KeepsCount}

module _ {S D : Type 0} (w : SessionSetting S D) (count : S → ℕ) (grows : (a z : S) (x : DeskCall) → w.leads_to a x z → count a ≤ count z) where
  abbrev kept : SessionSetting S D
  kept = setting w.state_of (KeepsCount w.leads_to count) w.drawn w.later w.moment

  -- a call that doesn't raise the count
  still : (a z : S) (x : DeskCall) → w.leads_to a x z → count z ≤ count a → KeepsCount w.leads_to count a x z
  still a z x came low = let more = grows a z x came in (came, omega (arith, more, low))

  -- ---- the count never falls

  stats_grow : (user : Option (List ℕ)) (a z : S) (r : Reply) → AnswersStats w.leads_to user a r z → count a ≤ count z
  stats_grow None a z r h = omega (arith, ap count h.1)
  stats_grow (Some user) a z r h = grows a z (cache_counted h.hits h.misses) h.asked

  query_grows : (user : Option (List ℕ)) (a z : ClientState S D) (text : List ℕ) (r : Reply) → AnswersQuery w user a text r z → count a.desk ≤ count z.desk
  query_grows None a z text r h = grows a.desk z.desk query_skipped h.1.counted
  query_grows (Some user) a z text r (inl (refused, skips)) = grows a.desk z.desk query_skipped skips.counted
  query_grows (Some user) a z text r (inr turn) = grows a.desk z.desk (turn_taken _) turn.turn.made

  exchange_grows : (m : Message) (a z : ClientState S D) (r : Reply) → MessageExchange w a m r z → count a.desk ≤ count z.desk
  exchange_grows (message.Login user password) a z r x = omega (arith, ap count x.answers.desk)
  exchange_grows (message.Query text) a z r x = query_grows a.user a z text x.answer x.answers
  exchange_grows message.Stats a z r x = stats_grow a.user a.desk z.desk x.answer x.answers.0
  exchange_grows message.Quit a z r x = absurd x.answers

  exchanges_grow : (ms : List Message) (rs : List Reply) (a z : ClientState S D) → MessageExchanges w a ms rs z → count a.desk ≤ count z.desk
  exchanges_grow [] [] a z same = omega (arith, ap (λ (x : ClientState S D). count x.desk) same)
  exchanges_grow [] (r ∷ rs) a z never = absurd never
  exchanges_grow (m ∷ ms) [] a z never = absurd never
  exchanges_grow (m ∷ ms) (r ∷ rs) a z h = let one = exchange_grows m a h.0 r h.1 in let more = exchanges_grow ms rs h.0 z h.2 in omega (arith, one, more)

  leaves_grow : (user : Option (List ℕ)) (a z : S) → LeavesDesk w.state_of w.leads_to user a z → count a ≤ count z
  leaves_grow user a z (inl (none, same)) = omega (arith, ap count same)
  leaves_grow user a z (inr back) = grows a z (turn_taken _) back.made

  -- ---- where it doesn't rise, no call raises it

  stats_kept : (user : Option (List ℕ)) (a z : S) (r : Reply) → AnswersStats w.leads_to user a r z → count z ≤ count a → AnswersStats (KeepsCount w.leads_to count) user a r z
  stats_kept None a z r h low = h
  stats_kept (Some user) a z r h low = record { hits = h.hits; misses = h.misses; replied = h.replied; asked = still a z (cache_counted h.hits h.misses) h.asked low }

  query_kept : (user : Option (List ℕ)) (a z : ClientState S D) (text : List ℕ) (r : Reply) → AnswersQuery w user a text r z → count z.desk ≤ count a.desk → AnswersQuery kept user a text r z
  query_kept None a z text r h low = (h.0, record { counted = still a.desk z.desk query_skipped h.1.counted low; user = h.1.user; draws = h.1.draws })
  query_kept (Some user) a z text r (inl (refused, skips)) low = inl (refused, record { counted = still a.desk z.desk query_skipped skips.counted low; user = skips.user; draws = skips.draws })
  query_kept (Some user) a z text r (inr t) low =
      inr (record {
        request = t.request;
        reads = t.reads;
        allowed = t.allowed;
        turn = record { moment = t.turn.moment; shown = t.turn.shown; made = still a.desk z.desk (turn_taken _) t.turn.made low; drew = t.turn.drew };
        user_is = t.user_is;
      })

  exchange_kept : (m : Message) (a z : ClientState S D) (r : Reply) → MessageExchange w a m r z → count z.desk ≤ count a.desk → MessageExchange kept a m r z
  exchange_kept (message.Login user password) a z r x low =
      record { answer = x.answer; answers = record { replied = x.answers.replied; user_is = x.answers.user_is; desk = x.answers.desk; draws = x.answers.draws }; sends = x.sends }
  exchange_kept (message.Query text) a z r x low = record { answer = x.answer; answers = query_kept a.user a z text x.answer x.answers low; sends = x.sends }
  exchange_kept message.Stats a z r x low = record { answer = x.answer; answers = (stats_kept a.user a.desk z.desk x.answer x.answers.0 low, x.answers.1, x.answers.2); sends = x.sends }
  exchange_kept message.Quit a z r x low = absurd x.answers

  exchanges_kept : (ms : List Message) (rs : List Reply) (a z : ClientState S D) → MessageExchanges w a ms rs z → count z.desk ≤ count a.desk → MessageExchanges kept a ms rs z
  exchanges_kept [] [] a z same low = same
  exchanges_kept [] (r ∷ rs) a z never low = absurd never
  exchanges_kept (m ∷ ms) [] a z never low = absurd never
  exchanges_kept (m ∷ ms) (r ∷ rs) a z h low =
      let one = exchange_grows m a h.0 r h.1 in
      let more = exchanges_grow ms rs h.0 z h.2 in
      (h.0, exchange_kept m a h.0 r h.1 (omega (arith, more, low)), exchanges_kept ms rs h.0 z h.2 (omega (arith, one, low)))

  leaves_kept : (user : Option (List ℕ)) (a z : S) → LeavesDesk w.state_of w.leads_to user a z → count z ≤ count a → LeavesDesk w.state_of (KeepsCount w.leads_to count) user a z
  leaves_kept user a z (inl same) low = inl same
  leaves_kept user a z (inr b) low = inr (record { is_open = b.is_open; name = b.name; is = b.is; reply = b.reply; made = still a z (turn_taken _) b.made low })

  pub transcript_keeps : (a : ClientState S D) (taken written : List ℕ) (ending : SessionEnd) (desk : S) (draws : D) → SessionTranscript w a taken written ending desk draws → count desk ≤ count a.desk → SessionTranscript kept a taken written ending desk draws
  transcript_keeps a taken written ending desk draws t low =
      let front = exchanges_grow t.so_far.messages t.replies a t.last t.so_far.exchanges in
      let end = leaves_grow t.last.user t.last.desk desk t.leaves in
      record {
        rest = t.rest;
        replies = t.replies;
        last = t.last;
        so_far = record { messages = t.so_far.messages; whole = t.so_far.whole; each = t.so_far.each; no_quit = t.so_far.no_quit; exchanges = exchanges_kept t.so_far.messages t.replies a t.last t.so_far.exchanges (omega (arith, end, low)) };
        ends = t.ends;
        leaves = leaves_kept t.last.user t.last.desk desk t.leaves (omega (arith, front, low));
        draws_are = t.draws_are;
      }
