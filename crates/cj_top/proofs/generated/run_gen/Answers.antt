use Rattle.std.proofs.Common.{◌≡◌, ◌⊎◌, Result, Ok, Err, inl, inr, ℕ}
use Rattle.cj_top.proofs.Cited.{Failed, NoMemory, OutError, status_of_listing}
use Rattle.cj_top.proofs.generated.run_gen.Goals as goal

listing_status : (answer : Result (Unit {0}) OutError) (n : ℕ) → n ≡ status_of_listing answer → (n ≡ 0) ⊎ (n ≡ 1) ⊎ (n ≡ 6)
listing_status (Ok _) n is = inl is
listing_status (Err Failed) n is = inr (inr is)
listing_status (Err NoMemory) n is = inr (inl is)

pub returns-in-Ok-clause-comes : goal.returns-in-Ok-clause-comes
returns-in-Ok-clause-comes g c =
    inl (record { summary = c.in-Ok.summary; played = c.in-Ok.ensures; answer = c.write_summary.result; bytes = c.write_summary.ensures.bytes; status_is = c.status_of_listing.ensures.status })

pub returns-in-Ok-clause-other : goal.returns-in-Ok-clause-other
returns-in-Ok-clause-other g c = listing_status c.write_summary.result c.status_of_listing.result c.status_of_listing.ensures.status
