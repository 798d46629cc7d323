-- What an entry is answered, by its tally.
use Rattle.std.proofs.Common.{◌≡◌, ◌≢◌, ◌⊎◌, inl, inr, ℕ, ◌<◌, ◌-◌, ◌^◌, ◌&&◌, ◌||◌, not, Bool, true, false, bit_and, bit_or, List, [], ◌∷◌, ◌++◌, Option, option_map, None, Some, IsSome, refl, ap, sym, ◌∙◌, subst, arith, ⊎_elim}
use Rattle.std.proofs.lemmas.Bool.{both_ways, and_parts, and_cases, or_cases, or_parts, not-true, not-false, cases_eq}
use Rattle.std.proofs.lemmas.Nat.{and_le_l}
use Rattle.cj_model.proofs.MaskBits.{has_without}
use Rattle.cj_model.proofs.Masks.{has-zero, some_bit}
use Rattle.cj_model.specs.declared.answer.Outcome.{Outcome}
use Rattle.cj_model.specs.declared.answer.Outcome.TheVariants as outcome
use Rattle.cj_model.specs.declared.answer.Refusal.{Refusal}
use Rattle.cj_model.specs.declared.answer.Reply.{Reply}
use Rattle.cj_model.specs.declared.answer.Reply.TheVariants as reply
use Rattle.cj_model.specs.declared.codes.TheConstants.{UNFINISHED, STARVED_ALL}
use Rattle.cj_model.specs.declared.database.Slot.{Slot}
use Rattle.cj_model.specs.declared.request.Act.{Act}
use Rattle.cj_model.specs.declared.request.Act.TheVariants as act
use Rattle.cj_model.specs.declared.request.Entry.{Entry}
use Rattle.cj_model.specs.Cluster.Masks.{in_mask}
use Rattle.cj_model.specs.Cluster.Placements.{Placement, concerns, hosts, hosts_all}
use Rattle.cj_model.specs.Database.Steps.{acted, step, table_written}
use Rattle.cj_model.specs.Sql.PlainRequests.{request_of}
use Rattle.cj_model.specs.Wire.Replies.{outcome_reply}
use Rattle.cj_cluster.specs.declared.event.Event.{Event}
use Rattle.cj_cluster.specs.declared.event.Event.TheVariants.{Ended}
use Rattle.cj_cluster.specs.History.Answering.{AnswersEntry, HasServer, IsTarget}
use Rattle.cj_cluster.specs.History.Histories.{database_after, ended_count, open_entry_of, is_enabled, log}
use Rattle.cj_cluster.specs.History.Transactions.{takes_part}
use Rattle.cj_cluster.proofs.Pushed.{ends-last, log-same}
use Rattle.cj_tally.specs.declared.tally.Tally.{Tally}
use Rattle.cj_tally.specs.Tallies.{outcome_or_done, AnswersByTally, AreTargets, HaveReported, IsRightOutcome, IsTallyOf, IsUnfinished, RefusesEntry, RepliesTo}

-- the targets that are in neither mask
abbrev pub spared_of : ℕ → ℕ → ℕ → ℕ
spared_of targets f s = bit_and targets (4294967295 - bit_or f s)

module _ (t : Tally) (targets : ℕ) (fits : targets < 2 ^ 32) (fits_failed : t.failed < 2 ^ 32) (fits_starved : t.starved < 2 ^ 32) where
  spared_is : (b : ℕ) → in_mask (spared_of targets t.failed t.starved) b ≡ (in_mask targets b && not (in_mask t.failed b || in_mask t.starved b))
  spared_is b = has_without targets t.failed t.starved b fits fits_failed fits_starved

  pub none_spared : targets ≢ 0 → spared_of targets t.failed t.starved ≡ 0 → IsUnfinished t targets
  none_spared ne none =
      let some = some_bit targets ne fits in
      record {
        some = (some.0, some.2);
        all =
            λ b on.
            let off : (in_mask targets b && not (in_mask t.failed b || in_mask t.starved b)) ≡ false = sym (spared_is b) ∙ (ap (λ m. in_mask m b) none ∙ has-zero b) in
            ⊎_elim (λ (q : in_mask targets b ≡ false). absurd (both_ways (in_mask targets b) q on))
            (λ (q : not (in_mask t.failed b || in_mask t.starved b) ≡ false). or_cases (in_mask t.failed b) (in_mask t.starved b) (not-false (in_mask t.failed b || in_mask t.starved b) q))
            (and_cases (in_mask targets b) (not (in_mask t.failed b || in_mask t.starved b)) off);
      }

  -- a target in neither mask
  abbrev Spared : Type 0
  Spared = (b : ℕ) × (in_mask targets b ≡ true) × (in_mask t.failed b ≡ false) × (in_mask t.starved b ≡ false)

  some_spared : spared_of targets t.failed t.starved ≢ 0 → Spared
  some_spared ne =
      let le = and_le_l targets (4294967295 - bit_or t.failed t.starved) in
      let one = some_bit (spared_of targets t.failed t.starved) ne (omega arith) in
      let both = and_parts (in_mask targets one.0) (not (in_mask t.failed one.0 || in_mask t.starved one.0)) (sym (spared_is one.0) ∙ one.2) in
      let off = or_parts (in_mask t.failed one.0) (in_mask t.starved one.0) (not-true (in_mask t.failed one.0 || in_mask t.starved one.0) both.1) in
      (one.0, both.0, off.0, off.1)

  not_unfinished : Spared → IsUnfinished t targets → ⊥
  not_unfinished q u =
      ⊎_elim (λ (on : in_mask t.failed q.0 ≡ true). both_ways (in_mask t.failed q.0) q.2 on) (λ (on : in_mask t.starved q.0 ≡ true). both_ways (in_mask t.starved q.0) q.3 on) (u.all q.0 q.1)

  no_target : targets ≡ 0 → (b : ℕ) → in_mask targets b ≡ true → ⊥
  no_target none b on = both_ways (in_mask targets b) (ap (λ m. in_mask m b) none ∙ has-zero b) on

  -- the entry has no target, or one in neither mask
  abbrev IsFinished : Type 0
  IsFinished = (targets ≡ 0) ⊎ Spared

  pub by_masks : (targets ≢ 0 → spared_of targets t.failed t.starved ≡ 0 → ⊥) → IsFinished
  by_masks some = ⊎_elim (λ (z : targets ≡ 0). inl z) (λ (ne : targets ≡ 0 → ⊥). inr (some_spared (some ne))) (cases_eq targets 0)

  finished_not : IsFinished → IsUnfinished t targets → ⊥
  finished_not how u = ⊎_elim (λ (z : targets ≡ 0). no_target z u.some.0 u.some.1) (λ (q : Spared). not_unfinished q u) how

  -- ---- the reply

  pub replies_unfinished : (r : Refusal) → targets ≢ 0 → spared_of targets t.failed t.starved ≡ 0 → RefusesEntry t.failed t.starved r → RepliesTo t targets (reply.Refused r)
  replies_unfinished r ne none how = record { unfinished = λ u. (r, how, refl); finished = λ no. absurd (no (none_spared ne none)) }

  pub replies_finished : (z : Reply) → (targets ≢ 0 → spared_of targets t.failed t.starved ≡ 0 → ⊥) → z ≡ outcome_reply (outcome_or_done t.first_outcome) → RepliesTo t targets z
  replies_finished z some is = record { unfinished = λ u. absurd (finished_not (by_masks some) u); finished = λ no. is }

  module _ (z : Reply) (replies : RepliesTo t targets z) (tells : Bool) (p : Placement) (h : List Event) (e : Entry) (is : open_entry_of h ≡ Some e) (served : HasServer p h (request_of e.act)) (are : AreTargets p h e targets) (heard : HaveReported targets t)
      (tally : IsTallyOf tells p (log h) (ended_count h) e t) where
    abbrev Answered : Type 0
    Answered = AnswersEntry tells p h (h ++ Ended t.failed t.starved ∷ []) (ended_count h) e z

    answers_unfinished : IsUnfinished t targets → Answered
    answers_unfinished u =
        let r = replies.unfinished u in
        inr
        record {
          failed = t.failed;
          starved = t.starved;
          masks = ends-last h t.failed t.starved;
          some = (u.some.0, (are u.some.0).0 u.some.1);
          all = λ b on. u.all b ((are b).1 on);
          replied =
              ⊎_elim (λ (q : (t.failed ≢ 0) × (r.0 ≡ record { code = UNFINISHED; a = t.failed; b = t.starved })). inl (q.0, r.2 ∙ ap reply.Refused q.1))
              (λ (q : (t.failed ≡ 0) × (r.0 ≡ record { code = STARVED_ALL; a = 0; b = t.starved })). inr (q.0, r.2 ∙ ap reply.Refused q.1)) r.1;
        }

    module _ (how : IsFinished) where
      -- a target in neither mask took the entry
      took : (q : Spared) → in_mask t.taken q.0 ≡ true
      took q =
          ⊎_elim (λ (on : in_mask t.taken q.0 ≡ true). on)
          (λ (other : (in_mask t.failed q.0 ≡ true) ⊎ (in_mask t.starved q.0 ≡ true)).
          absurd (⊎_elim (λ (on : in_mask t.failed q.0 ≡ true). both_ways (in_mask t.failed q.0) q.2 on) (λ (on : in_mask t.starved q.0 ≡ true). both_ways (in_mask t.starved q.0) q.3 on) other)) (heard q.0 q.1)

      -- an entry of a table that some backend hosts, for which nobody gave an outcome
      no_table : t.first_outcome ≡ None → (table : List ℕ) (a : Act) → e.act ≡ a → ((b : ℕ) → concerns p b (log h) e.tx a ≡ hosts p b table) → ((b : ℕ) → takes_part p b [] e.tx a ≡ hosts p b table)
          → ((b : ℕ) × (is_enabled h b ≡ true) × (hosts_all p b (table ∷ []) ≡ true)) → ⊥
      no_table none table a same concerned taking server =
          let act_is = λ (b : ℕ). ap (concerns p b (log h) e.tx) same in
          ⊎_elim (λ (z : targets ≡ 0). no_target z server.0 ((are server.0).1 (server.1, act_is server.0 ∙ (concerned server.0 ∙ (and_parts (hosts p server.0 table) true server.2).0))))
          (λ (q : Spared).
          let target : IsTarget p h e q.0 = (are q.0).0 q.1 in
          let takes : takes_part p q.0 [] e.tx e.act ≡ true = ap (takes_part p q.0 [] e.tx) same ∙ (taking q.0 ∙ (sym (concerned q.0) ∙ (sym (act_is q.0) ∙ target.1))) in
          let some : IsSome t.first_outcome = tally.whole q.0 (took q) takes in
          absurd (cc (some, none))) how

      server : (a : Act) → e.act ≡ a → HasServer p h (request_of a)
      server a same = subst (λ (x : Act). HasServer p h (request_of x)) same served

      -- so it begins or ends a transaction, which always comes to this
      silent : t.first_outcome ≡ None → (a : Act) → e.act ≡ a → (db : List Slot) → (acted db e.tx a).outcome ≡ outcome.Done 0
      silent none act.Begin same db = refl
      silent none (act.Write w) same db = let q = server (act.Write w) same refl in absurd (no_table none (table_written w) (act.Write w) same (λ b. refl) (λ b. refl) (q.0, q.1.0, q.1.1))
      silent none (act.Create c) same db = let q = server (act.Create c) same refl in absurd (no_table none c.table (act.Create c) same (λ b. refl) (λ b. refl) (q.0, q.1.0, q.1.1))
      silent none (act.Drop table) same db = let q = server (act.Drop table) same refl in absurd (no_table none table (act.Drop table) same (λ b. refl) (λ b. refl) (q.0, q.1.0, q.1.1))
      silent none act.Commit same db = refl
      silent none act.Abort same db = refl

      right : (first : Option Outcome) → t.first_outcome ≡ first → IsRightOutcome tells (log h) (ended_count h) (outcome_or_done first)
      right (Some o) there = tally.right o there
      right None none = (
        tt,
        λ _. ap (option_map (λ (d : Entry). (step (database_after (log h) (ended_count h)) d).outcome)) is ∙ ap (λ o. Some o) (silent none e.act refl (database_after (log h) (ended_count h))),
      )

      -- a target of the entry that is in neither mask, if it has a target
      spared : ((b : ℕ) → IsTarget p h e b → ⊥) ⊎ ((b : ℕ) × IsTarget p h e b × (in_mask t.failed b ≡ false) × (in_mask t.starved b ≡ false))
      spared = ⊎_elim (λ (z : targets ≡ 0). inl (λ b on. no_target z b ((are b).1 on))) (λ (q : Spared). inr (q.0, (are q.0).0 q.1, q.2, q.3)) how

      answers_finished : Answered
      answers_finished =
          let o = right t.first_outcome refl in
          inl
          record {
            failed = t.failed;
            starved = t.starved;
            masks = ends-last h t.failed t.starved;
            some = spared;
            outcome = outcome_or_done t.first_outcome;
            possible = o.0;
            says = λ on. rw (log-same h (Ended t.failed t.starved) refl) (o.1 on);
            replied = replies.finished (finished_not how);
          }

    answers : Answered
    answers =
        ⊎_elim (λ (z : targets ≡ 0). answers_finished (inl z))
        (λ (ne : targets ≡ 0 → ⊥).
        ⊎_elim (λ (none : spared_of targets t.failed t.starved ≡ 0). answers_unfinished (none_spared ne none)) (λ (some : spared_of targets t.failed t.starved ≡ 0 → ⊥). answers_finished (inr (some_spared some)))
        (cases_eq (spared_of targets t.failed t.starved) 0)) (cases_eq targets 0)

  pub answered : (z : Reply) → RepliesTo t targets z → AnswersByTally t targets z
  answered z replies tells p h e is served are heard tally = answers z replies tells p h e is served are heard tally
