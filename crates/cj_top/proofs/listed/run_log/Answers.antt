use Rattle.std.proofs.Common.{◌≡◌, ◌≢◌, ℕ, Result, Ok, Err, arith}
use Rattle.cj_top.proofs.Cited.{Failed, NoMemory, OutError, read_whole, status_of_listing}
use Rattle.cj_top.proofs.listed.run_log.Goals as goal

no_refusal : (answer : Result (Unit {0}) OutError) (n : ℕ) → n ≡ status_of_listing answer → (n ≢ 7) × (n ≢ 8)
no_refusal (Ok _) n is = (λ e. omega (arith, is, e), λ e. omega (arith, is, e))
no_refusal (Err Failed) n is = (λ e. omega (arith, is, e), λ e. omega (arith, is, e))
no_refusal (Err NoMemory) n is = (λ e. omega (arith, is, e), λ e. omega (arith, is, e))

pub returns-clause-reads : goal.returns-clause-reads
returns-clause-reads g c =
    let s = g.S.Store in
    read_whole s.faults s.held s.tells c.args.log c.in_ok-items.log c.status_of_listing.result c.in_ok-items.ensures.bytes c.in_ok-items.ensures.counts
    (no_refusal c.write_listing-answer.result c.status_of_listing.result c.status_of_listing.ensures.status)
