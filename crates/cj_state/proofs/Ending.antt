-- What an end answers.
use Rattle.std.proofs.Common.{◌≡◌, ◌⊎◌, inl, inr, ℕ, ◌≤◌, ◌&&◌, Bool, true, List, [], ◌∷◌, ◌++◌, length, map, Option, None, Some, refl, ap, sym, ◌∙◌, arith}
use Rattle.std.proofs.lemmas.Bool.{and_parts}
use Rattle.cj_state.proofs.Common.{BackendStands, behind_none, CellState, core_of, Dump, Ended, ended_count, Entry, open_entry_of, Event, first_lagging, in_mask, is_enabled, Kept, Layout, log, OpenSession, placement_of, position_at, Register, Tally, world_of}
use Rattle.cj_model.specs.declared.answer.Reply.{Reply}
use Rattle.cj_book.proofs.Common.{concerns, is_target_at}
use Rattle.cj_cluster.specs.History.Answering.{IsTarget, AnswersEntry}
use Rattle.cj_tally.specs.Tallies.{AnswersByTally, AreTargets, HaveReported}

module _ (tells : Bool) (reg : Register) (l : Layout) (h : List Event) (cells : List CellState) (ss : List OpenSession) (g : ℕ) (ds : List Dump) (numbers : List ℕ) (tally : Tally) (kept : Kept tells (world_of reg l h cells tally.failed tally.starved ss g ds) numbers tally)
    (targets : ℕ) (are : (b : ℕ) → in_mask targets b ≡ is_target_at (placement_of l) h (open_entry_of h) b) (e : Entry) (is : open_entry_of h ≡ Some e) where
  target_is : (b : ℕ) → in_mask targets b ≡ (is_enabled h b && concerns (placement_of l) b (log h) e.tx e.act)
  target_is b = are b ∙ ap (λ (o : Option Entry). is_target_at (placement_of l) h o b) is

  are_targets : AreTargets (placement_of l) h e targets
  are_targets b = (λ t. and_parts (is_enabled h b) (concerns (placement_of l) b (log h) e.tx e.act) (sym (target_is b) ∙ t), λ (t : IsTarget (placement_of l) h e b). target_is b ∙ rw (t.0) t.1)

  -- where no backend is behind, each that is enabled has taken the entry, or is in a mask
  module _ (none : first_lagging h 0 (map (λ (x : CellState). x.position) cells) ≡ None) where
    reported : (b : ℕ) → is_enabled h b ≡ true → (p : Option ℕ) → position_at (core_of l h cells tally.failed tally.starved ss g ds) b ≡ p → BackendStands h tally.failed tally.starved b p
        → (in_mask tally.taken b ≡ true) ⊎ (in_mask tally.failed b ≡ true) ⊎ (in_mask tally.starved b ≡ true)
    reported b on None there stands = inr (stands on)
    reported b on (Some p) there stands =
        let ge : length (log h) ≤ p = behind_none h (map (λ (x : CellState). x.position) cells) none b p there on in
        let le : p ≤ length (log h) = stands.0 in
        let same : p ≡ length (log h) = omega arith in
        inl (kept.taken e b is on (there ∙ ap (λ (n : ℕ). Some n) same))

    have_reported : HaveReported targets tally
    have_reported b on =
        let enabled = ((are_targets b).0 on).0 in
        reported b enabled (position_at (core_of l h cells tally.failed tally.starved ss g ds) b) refl (kept.world.sound.stands b (kept.world.sound.hosts b enabled))

    pub reply_answers : (z : Reply) → AnswersByTally tally targets z → AnswersEntry tells (placement_of l) h (h ++ Ended tally.failed tally.starved ∷ []) (ended_count h) e z
    reply_answers z answers = answers tells (placement_of l) h e is (kept.served e is) are_targets have_reported (kept.tallied e is)
