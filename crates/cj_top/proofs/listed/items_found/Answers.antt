use Rattle.std.proofs.Common.{◌∙◌, ap, sym, subst}
use Rattle.cj_book.proofs.Starting.{new_only}
use Rattle.cj_top.proofs.Cited.{ReadsLog, RefusesLog, StartError, read_refused, refused_records, status_of_start}
use Rattle.cj_top.proofs.listed.items_found.Goals as goal

pub returns-in-Ok-clause-found : goal.returns-in-Ok-clause-found
returns-in-Ok-clause-found g c = λ t. (c.in-Ok.ensures.bytes t).0

pub returns-in-Ok-clause-counts : goal.returns-in-Ok-clause-counts
returns-in-Ok-clause-counts g c = ap g.S.Store.faults c.into_store.ensures ∙ c.in-Ok.ensures.cause

pub returns-in-Ok-clause-bytes : goal.returns-in-Ok-clause-bytes
returns-in-Ok-clause-bytes g c = λ t. new_only (g.S.Store.held c.args.store) (g.S.Store.held c.into_store.result) (ap g.S.Store.held c.into_store.ensures ∙ (c.in-Ok.ensures.bytes t).2)

pub returns-in-Err-clause-refused : goal.returns-in-Err-clause-refused
returns-in-Err-clause-refused g c =
    let s = g.S.Store in
    subst (λ (e : StartError). RefusesLog s.faults s.held s.tells c.args.store c.in-Err.store e) (sym c.start_error.ensures)
    (refused_records s.faults s.held s.tells c.args.store c.in-Err.store c.in-Err.error c.in-Err.ensures.bytes c.in-Err.ensures.cause)

pub returns-in-Err-clause-reads : goal.returns-in-Err-clause-reads
returns-in-Err-clause-reads g c =
    let s = g.S.Store in
    subst (λ (e : StartError). ReadsLog s.faults s.held s.tells c.args.store c.in-Err.store (status_of_start e)) (sym c.start_error.ensures)
    (read_refused s.faults s.held s.tells c.args.store c.in-Err.store c.in-Err.error c.in-Err.ensures.bytes c.in-Err.ensures.cause)
