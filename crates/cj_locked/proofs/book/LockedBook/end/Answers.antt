use Rattle.std.proofs.Common.{◌≡◌, ◌+◌, ℕ, ◌++◌, ◌∷◌, [], List, length, None, Some, true, ap, sym, ◌∙◌, subst}
use Rattle.cj_cluster.specs.declared.event.Event.{Event}
use Rattle.cj_cluster.specs.declared.event.Event.TheVariants.{Ended}
use Rattle.cj_cluster.specs.History.Histories.{is_free, open_entry_of}
use Rattle.cj_board.specs.Seats.{front, pass_view}
use Rattle.cj_board.specs.Views.{pass_of, pass_without_tokens}
use Rattle.cj_place.specs.Layouts.{placement_of}
use Rattle.cj_book.specs.BookLogs.{BookLogState, LogFollows}
use Rattle.cj_model.specs.Cluster.Masks.{in_mask}
use Rattle.cj_model.specs.Cluster.Placements.{Placement}
use Rattle.cj_book.specs.Books.{is_target_at, placement_at, with_event, BookState}
use Rattle.cj_locked.proofs.Ending.{amount_ended, same_counted, end_follows, end_idle, end_last, end_open, end_positions, end_tokens, end_unpending, ends_as_reported, ends_since, fit_masks}
use Rattle.cj_locked.proofs.Noting.{keeps_event, keeps_learning, still_noted}
use Rattle.cj_locked.proofs.book.LockedBook.end.Goals as goal

pub end-requires-clause-open : goal.end-requires-clause-open
end-requires-clause-open g c =
    end_open g.S.Store.tells g.S.Store.faults (placement_of g.J.Naming.layout) (front c.args.pass.now.seat) c.learn.new.self.state.history c.args.entry.number c.args.entry.enabled c.args.e.now c.args.entry.turn.share.amount c.args.entry.turn.log c.requires.holds c.learn.ensures.seen c.learn.new.self.pending
    (c.audit.ensures.whole ∙ (c.self.invariant.counted ∙ sym (same_counted c.self.inside.book c.learn.new.self c.learn.ensures.state c.learn.ensures.pending)))

pub end-requires-clause-masks : goal.end-requires-clause-masks
end-requires-clause-masks g c = fit_masks c.learn.new.self.state.history c.enabled.result c.enabled.ensures.mask c.args.tally c.settled-tally.result c.settled-tally.ensures

pub end-requires-clause-positions : goal.end-requires-clause-positions
end-requires-clause-positions g c =
    let last = end_last g.S.Store.tells g.S.Store.faults (placement_of g.J.Naming.layout) (front c.args.pass.now.seat) c.learn.new.self.state.history c.args.entry.number c.args.entry.enabled c.args.e.now c.args.entry.turn.share.amount c.args.entry.turn.log c.requires.holds c.learn.ensures.seen c.learn.new.self.pending
    (c.audit.ensures.whole ∙ (c.self.invariant.counted ∙ sym (same_counted c.self.inside.book c.learn.new.self c.learn.ensures.state c.learn.ensures.pending)))
    in
    end_positions c.learn.new.self.state.history c.enabled.result c.enabled.ensures.mask c.args.tally c.settled-tally.result c.settled-tally.ensures c.args.entry.number last.0 (pass_view c.args.pass.now.seat) c.learn.new.self.view c.requires.noted c.self.inside.book.view c.learn.ensures.book

pub end-requires-clause-faults : goal.end-requires-clause-faults
end-requires-clause-faults g c =
    let last = end_last g.S.Store.tells g.S.Store.faults (placement_of g.J.Naming.layout) (front c.args.pass.now.seat) c.learn.new.self.state.history c.args.entry.number c.args.entry.enabled c.args.e.now c.args.entry.turn.share.amount c.args.entry.turn.log c.requires.holds c.learn.ensures.seen c.learn.new.self.pending
    (c.audit.ensures.whole ∙ (c.self.invariant.counted ∙ sym (same_counted c.self.inside.book c.learn.new.self c.learn.ensures.state c.learn.ensures.pending)))
    in
    end_tokens c.learn.new.self.state.history c.enabled.result c.enabled.ensures.mask c.args.tally c.settled-tally.result c.settled-tally.ensures c.args.entry.number last.0 (pass_view c.args.pass.now.seat) c.learn.new.self.view c.requires.noted c.self.inside.book.view c.learn.ensures.book

pub invariant_of-self : goal.invariant_of-self
invariant_of-self g c =
    let l = placement_of g.J.Naming.layout in
    let F = front c.args.pass.now.seat in
    let h = c.learn.new.self.state.history in
    let whole = c.audit.ensures.whole ∙ (c.self.invariant.counted ∙ sym (same_counted c.self.inside.book c.learn.new.self c.learn.ensures.state c.learn.ensures.pending)) in
    let unpending = end_unpending g.S.Store.tells g.S.Store.faults l F h c.args.entry.number c.args.entry.enabled c.args.e.now c.args.entry.turn.share.amount c.args.entry.turn.log c.requires.holds c.learn.ensures.seen c.learn.new.self.pending whole in
    let none : c.tell.new.self.pending ≡ None = c.tell.ensures.pending ∙ (c.end.ensures.pending ∙ unpending) in
    let now : c.tell.new.self.state.history ≡ h ++ Ended c.settled-tally.result.failed c.settled-tally.result.starved ∷ [] = ap (λ (x : BookState). x.history) (c.tell.ensures.state ∙ c.end.ensures.state) in
    record {
      on = c.tell.ensures.board.0 ∙ (c.end.ensures.board ∙ (c.learn.ensures.board.0 ∙ c.self.invariant.on));
      laid = ap (λ (x : BookState). x.layout) (c.tell.ensures.state ∙ (c.end.ensures.state ∙ ap (λ (x : BookState). with_event x (Ended c.settled-tally.result.failed c.settled-tally.result.starved)) c.learn.ensures.state)) ∙ c.self.invariant.laid;
      gives = c.tell.ensures.still_gives (c.end.ensures.still_gives (c.learn.ensures.still_gives c.self.invariant.gives));
      counted = c.count.ensures.total
          ∙ (ap (λ n. n + 3) (c.audit.ensures.total ∙ (c.self.invariant.counted ∙ sym (same_counted c.self.inside.book c.learn.new.self c.learn.ensures.state c.learn.ensures.pending)))
          ∙ amount_ended h c.learn.new.self.pending unpending c.settled-tally.result.failed c.settled-tally.result.starved c.tell.new.self.state.history c.tell.new.self.pending now none);
      vacant = record {
        idle = subst (λ (x : List Event). is_free x ≡ true) (sym now) (end_idle g.S.Store.tells g.S.Store.faults l F h c.args.entry.number c.args.entry.enabled c.args.e.now c.args.entry.turn.share.amount c.args.entry.turn.log c.requires.holds c.learn.ensures.seen c.learn.new.self.pending whole c.settled-tally.result.failed c.settled-tally.result.starved);
        unpending = none;
        follows = subst (λ (x : BookLogState _). LogFollows g.S.Store.tells g.S.Store.faults x c.tell.new.self.state.history) (sym (c.keep.ensures ∙ (c.count.ensures.log ∙ c.audit.ensures.log)))
            (subst (λ (x : List Event). LogFollows g.S.Store.tells g.S.Store.faults c.args.entry.turn.log x) (sym now)
            (end_follows g.S.Store.tells g.S.Store.faults l F h c.args.entry.number c.args.entry.enabled c.args.e.now c.args.entry.turn.share.amount c.args.entry.turn.log c.requires.holds c.learn.ensures.seen c.learn.new.self.pending whole c.settled-tally.result.failed c.settled-tally.result.starved));
      };
      noted = still_noted c.end.new.self.view c.tell.new.self.view (keeps_learning c.end.new.self.view (pass_without_tokens (pass_view c.learn.new.p)) c.tell.new.self.view c.tell.ensures.book)
          (still_noted c.learn.new.self.view c.end.new.self.view (keeps_event (Some (Ended c.settled-tally.result.failed c.settled-tally.result.starved)) c.learn.new.self.view c.end.new.self.view c.end.ensures.seat)
          (still_noted c.self.inside.book.view c.learn.new.self.view (keeps_learning c.self.inside.book.view (pass_of (pass_view c.args.pass.now.seat)) c.learn.new.self.view c.learn.ensures.book) c.self.invariant.noted));
    }

pub returns-clause-ended : goal.returns-clause-ended
returns-clause-ended g c = λ tells tallied.
    let p = placement_of g.J.Naming.layout in
    let h = c.learn.new.self.state.history in
    let whole = c.audit.ensures.whole ∙ (c.self.invariant.counted ∙ sym (same_counted c.self.inside.book c.learn.new.self c.learn.ensures.state c.learn.ensures.pending)) in
    let laid : placement_at c.learn.new.self.state ≡ p = ap placement_of (ap (λ (x : BookState). x.layout) c.learn.ensures.state ∙ c.self.invariant.laid) in
    let are : (b : ℕ) → in_mask c.targets.result b ≡ is_target_at p h (open_entry_of h) b = λ b. c.targets.ensures b ∙ ap (λ (q : Placement). is_target_at q h (open_entry_of h) b) laid in
    let now : front c.tell.new.p ≡ h ++ Ended c.settled-tally.result.failed c.settled-tally.result.starved ∷ [] = c.tell.ensures.told ∙ ap (λ (x : BookState). x.history) c.end.ensures.state in
    ends_since g.S.Store.tells g.S.Store.faults p (front c.args.pass.now.seat) h c.args.entry.number c.args.entry.enabled c.args.e.now c.args.entry.turn.share.amount c.args.entry.turn.log c.requires.holds c.learn.ensures.seen c.learn.new.self.pending whole
    c.enabled.result c.enabled.ensures.mask c.args.tally c.settled-tally.result c.settled-tally.ensures c.targets.result are c.reply-reply.result c.reply-reply.ensures.answers (front c.tell.new.p) now tells tallied

pub returns-clause-masks : goal.returns-clause-masks
returns-clause-masks g c =
    let h = c.learn.new.self.state.history in
    let whole = c.audit.ensures.whole ∙ (c.self.invariant.counted ∙ sym (same_counted c.self.inside.book c.learn.new.self c.learn.ensures.state c.learn.ensures.pending)) in
    let now : front c.tell.new.p ≡ h ++ Ended c.settled-tally.result.failed c.settled-tally.result.starved ∷ [] = c.tell.ensures.told ∙ ap (λ (x : BookState). x.history) c.end.ensures.state in
    ends_as_reported g.S.Store.tells g.S.Store.faults (placement_of g.J.Naming.layout) (front c.args.pass.now.seat) h c.args.entry.number c.args.entry.enabled c.args.e.now c.args.entry.turn.share.amount c.args.entry.turn.log c.requires.holds c.learn.ensures.seen c.learn.new.self.pending whole
    c.enabled.result c.enabled.ensures.mask c.args.tally c.settled-tally.result c.settled-tally.ensures (length g.J.Naming.layout.names) c.requires.reported (front c.tell.new.p) now
