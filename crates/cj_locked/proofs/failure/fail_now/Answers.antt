use Rattle.std.proofs.Common.{◌<◌, ap, sym, subst}
use Rattle.cj_cluster.specs.History.Histories.{events_left}
use Rattle.cj_book.specs.Books.{placement_at, BookState}
use Rattle.cj_locked.specs.Failures.{FailsAt}
use Rattle.cj_locked.proofs.Failing.{no_room, only_history}
use Rattle.cj_locked.proofs.Noting.{keeps_event, still_noted}
use Rattle.cj_locked.proofs.failure.fail_now.Goals as goal

pub returns-in-Ok-clause-fails : goal.returns-in-Ok-clause-fails
returns-in-Ok-clause-fails c = (c.in-Ok.ensures.state.space, ap (λ (b : BookState). b.history) c.in-Ok.ensures.state.ok)

pub returns-in-Ok-clause-state : goal.returns-in-Ok-clause-state
returns-in-Ok-clause-state c = only_history c.args.book.now.state c.read_failed.new.self.state _ c.in-Ok.ensures.state.ok

pub unnoted-requires : goal.unnoted-requires
unnoted-requires c =
    let room = no_room c.args.book.now.state c.read_failed.new.self.state _ c.read_failed.result _ c.read_failed.ensures.state c.in-Err.is in
    record { full = subst (λ (b : BookState). events_left b.history < 1) (sym room.1) room.0 }

pub returns-in-Err-clause-fails : goal.returns-in-Err-clause-fails
returns-in-Err-clause-fails c =
    let room = no_room c.args.book.now.state c.read_failed.new.self.state _ c.read_failed.result _ c.read_failed.ensures.state c.in-Err.is in
    subst (λ (b : BookState). FailsAt (placement_at b) b.history c.args.session c.args.seq c.args.b c.args.select.now c.unnoted.result c.read_failed.new.self.state.history) room.1
    (c.unnoted.ensures c.args.session c.args.seq c.args.b)

pub returns-in-Err-clause-state : goal.returns-in-Err-clause-state
returns-in-Err-clause-state c =
    let room = no_room c.args.book.now.state c.read_failed.new.self.state _ c.read_failed.result _ c.read_failed.ensures.state c.in-Err.is in
    only_history c.args.book.now.state c.read_failed.new.self.state c.args.book.now.state.history room.1

pub returns-in-Ok-clause-noted : goal.returns-in-Ok-clause-noted
returns-in-Ok-clause-noted c = still_noted c.args.book.now.view c.read_failed.new.self.view (keeps_event _ c.args.book.now.view c.read_failed.new.self.view c.read_failed.ensures.seat)

pub returns-in-Err-clause-noted : goal.returns-in-Err-clause-noted
returns-in-Err-clause-noted c = still_noted c.args.book.now.view c.read_failed.new.self.view (keeps_event _ c.args.book.now.view c.read_failed.new.self.view c.read_failed.ensures.seat)
