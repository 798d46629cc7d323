-- The calls of a session at a desk are a chain of turns.
use Rattle.std.proofs.Common.{◌≡◌, ℕ, Bool, List, [], ◌∷◌, ◌++◌, Option, Some, None, refl, sym, ap, subst, ◌∙◌, inl, inr}
use Rattle.cj_model.specs.declared.message.Message.{Message}
use Rattle.cj_model.specs.declared.message.Message.TheVariants as message
use Rattle.cj_model.specs.declared.answer.Reply.{Reply}
use Rattle.cj_model.specs.Cluster.Placements.{Placement}
use Rattle.cj_cluster.specs.declared.session.SessionEnd.{SessionEnd}
use Rattle.cj_cluster.specs.History.Turns.{SessionView, Call, Chain}
use Rattle.cj_cluster.specs.Moves.Runs.{last_seen}
use Rattle.cj_desk.specs.DeskStates.{DeskState, DeskCall, turn_taken, query_skipped, cache_counted, DeskSteps}
use Rattle.cj_desk.specs.SessionTranscripts.{SessionSetting, ClientState, AnswersStats, AnswersQuery, MessageExchange, MessageExchanges, LeavesDesk, SessionTranscript}
use Rattle.cj_desk.specs.DeskChains.{IsDeskChain}

-- two chains, the second from where the first ended, are one
chain_then : (tells : Bool) (p : Placement) (s : ℕ) (a : SessionView) (cs ds : List Call) (vs us : List SessionView)
    → Chain tells p s a cs vs → Chain tells p s (last_seen a vs) ds us → Chain tells p s a (cs ++ ds) (vs ++ us)
chain_then tells p s a [] ds [] us first second = second
chain_then tells p s a [] ds (v ∷ vs) us first second = absurd first
chain_then tells p s a (c ∷ cs) ds [] us first second = absurd first
chain_then tells p s a (c ∷ cs) ds (v ∷ vs) us first second = (first.0, chain_then tells p s v cs ds vs us first.1 second)

last_seen_then : (a : SessionView) (vs us : List SessionView) → last_seen a (vs ++ us) ≡ last_seen (last_seen a vs) us
last_seen_then a [] us = refl
last_seen_then a (v ∷ vs) us = last_seen_then v vs us

chained_then : (tells : Bool) (a b z : DeskState) → IsDeskChain tells a b → IsDeskChain tells b z → IsDeskChain tells a z
chained_then tells a b z first second =
    let here : Chain tells a.placement a.session b.seen second.calls second.seen =
    subst (λ (p : Placement). Chain tells p a.session b.seen second.calls second.seen) first.placement
    (subst (λ (s : ℕ). Chain tells b.placement s b.seen second.calls second.seen) first.session second.chain)
    in
    record {
      placement = second.placement ∙ first.placement;
      session = second.session ∙ first.session;
      calls = first.calls ++ second.calls;
      seen = first.seen ++ second.seen;
      chain = chain_then tells a.placement a.session a.seen first.calls second.calls first.seen second.seen first.chain
          (subst (λ (v : SessionView). Chain tells a.placement a.session v second.calls second.seen) first.last here);
      last = second.last ∙ ap (λ (v : SessionView). last_seen v second.seen) first.last ∙ sym (last_seen_then a.seen first.seen second.seen);
    }

-- a desk that differs in no more than its counts has made no call
same_chained : (tells : Bool) (a z : DeskState) → z.placement ≡ a.placement → z.session ≡ a.session → z.seen ≡ a.seen → IsDeskChain tells a z
same_chained tells a z placement session seen = record { placement = placement; session = session; calls = []; seen = []; chain = tt; last = seen }

-- whatever a desk is asked is a chain
call_chained : (tells : Bool) (a z : DeskState) (x : DeskCall) → DeskSteps tells a x z → IsDeskChain tells a z
call_chained tells a z (turn_taken c) t =
    record { placement = t.placement; session = t.session; calls = c ∷ []; seen = z.seen ∷ []; chain = (t.turn, tt); last = refl }
call_chained tells a z query_skipped same =
    same_chained tells a z (ap (λ (x : DeskState). x.placement) same) (ap (λ (x : DeskState). x.session) same) (ap (λ (x : DeskState). x.seen) same)
call_chained tells a z (cache_counted hits misses) same =
    same_chained tells a z (ap (λ (x : DeskState). x.placement) same) (ap (λ (x : DeskState). x.session) same) (ap (λ (x : DeskState). x.seen) same)

module _ {S D : Type 0} (w : SessionSetting S D) (tells : Bool) (promised : (a z : S) (x : DeskCall) → w.leads_to a x z → DeskSteps tells (w.state_of a) x (w.state_of z)) where
  called : (a z : S) (x : DeskCall) → w.leads_to a x z → IsDeskChain tells (w.state_of a) (w.state_of z)
  called a z x made = call_chained tells (w.state_of a) (w.state_of z) x (promised a z x made)

  unmoved : (a z : S) → z ≡ a → IsDeskChain tells (w.state_of a) (w.state_of z)
  unmoved a z same = call_chained tells (w.state_of a) (w.state_of z) (cache_counted 0 0) (ap w.state_of same)

  stats_chained : (user : Option (List ℕ)) (a z : S) (r : Reply) → AnswersStats w.leads_to user a r z → IsDeskChain tells (w.state_of a) (w.state_of z)
  stats_chained None a z r h = unmoved a z h.1
  stats_chained (Some user) a z r h = called a z (cache_counted h.hits h.misses) h.asked

  query_chained : (user : Option (List ℕ)) (a z : ClientState S D) (text : List ℕ) (r : Reply) → AnswersQuery w user a text r z → IsDeskChain tells (w.state_of a.desk) (w.state_of z.desk)
  query_chained None a z text r h = called a.desk z.desk query_skipped h.1.counted
  query_chained (Some user) a z text r (inl (refused, skips)) = called a.desk z.desk query_skipped skips.counted
  query_chained (Some user) a z text r (inr turn) = called a.desk z.desk (turn_taken _) turn.turn.made

  exchange_chained : (m : Message) (a z : ClientState S D) (r : Reply) → MessageExchange w a m r z → IsDeskChain tells (w.state_of a.desk) (w.state_of z.desk)
  exchange_chained (message.Login user password) a z r x = unmoved a.desk z.desk x.answers.desk
  exchange_chained (message.Query text) a z r x = query_chained a.user a z text x.answer x.answers
  exchange_chained message.Stats a z r x = stats_chained a.user a.desk z.desk x.answer x.answers.0
  exchange_chained message.Quit a z r x = absurd x.answers

  exchanges_chained : (ms : List Message) (rs : List Reply) (a z : ClientState S D) → MessageExchanges w a ms rs z → IsDeskChain tells (w.state_of a.desk) (w.state_of z.desk)
  exchanges_chained [] [] a z same = unmoved a.desk z.desk (ap (λ (x : ClientState S D). x.desk) same)
  exchanges_chained [] (r ∷ rs) a z never = absurd never
  exchanges_chained (m ∷ ms) [] a z never = absurd never
  exchanges_chained (m ∷ ms) (r ∷ rs) a z h =
      chained_then tells (w.state_of a.desk) (w.state_of h.0.desk) (w.state_of z.desk) (exchange_chained m a h.0 r h.1) (exchanges_chained ms rs h.0 z h.2)

  leaves_chained : (user : Option (List ℕ)) (a z : S) → LeavesDesk w.state_of w.leads_to user a z → IsDeskChain tells (w.state_of a) (w.state_of z)
  leaves_chained user a z (inl (none, same)) = unmoved a z same
  leaves_chained user a z (inr back) = called a z (turn_taken _) back.made

  pub transcript_chained : (a : ClientState S D) (taken written : List ℕ) (ending : SessionEnd) (desk : S) (draws : D)
      → SessionTranscript w a taken written ending desk draws → IsDeskChain tells (w.state_of a.desk) (w.state_of desk)
  transcript_chained a taken written ending desk draws t =
      chained_then tells (w.state_of a.desk) (w.state_of t.last.desk) (w.state_of desk)
      (exchanges_chained t.so_far.messages t.replies a t.last t.so_far.exchanges) (leaves_chained t.last.user t.last.desk desk t.leaves)
