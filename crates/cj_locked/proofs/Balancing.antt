-- A read begins or ends: of a book behind its lock only the balance changes.
use Rattle.std.proofs.Common.{◌≡◌, ℕ, Bool, Option, None, Some, IfSome, sym, subst}
use Rattle.atomic_table.specs.Seated.{TableId}
use Rattle.cj_model.specs.Cluster.Balancing.{Balance}
use Rattle.cj_place.specs.Layouts.{Layout}
use Rattle.cj_book.specs.BookLogs.{BookLogState}
use Rattle.cj_book.specs.Seated.{HasSameSeat, SeatedBook}
use Rattle.cj_locked.specs.Locked.{IsLocked, IsVacant}

module _ {S : Type 0} (board : TableId) (layout : Layout) (tells : Bool) (count : S → ℕ) (total : ℕ) (old new : SeatedBook) (l : Option (BookLogState S)) (seat : HasSameSeat old new)
    (locked : IsLocked board layout tells count total (record { book = old; log = l })) where
  still_vacant : (b : Balance) (x : Option (BookLogState S)) → IfSome x (IsVacant tells count old) → IfSome x (IsVacant tells count (record old { state = record old.state { balance = b } }))
  still_vacant b None vacant = tt
  still_vacant b (Some y) vacant = record { idle = vacant.idle; unpending = vacant.unpending; follows = vacant.follows }

  -- any balance
  pub locked_after_read : (b : Balance) → new.state ≡ record old.state { balance = b } → IsLocked board layout tells count total (record { book = new; log = l })
  locked_after_read b now =
      let is : new ≡ record old { state = record old.state { balance = b } } = λ i. record { state = now i; board = seat.0 i; view = seat.1 i; pending = seat.2 i } in
      subst (λ (x : SeatedBook). IsLocked board layout tells count total (record { book = x; log = l })) (sym is)
      (record { on = locked.on; laid = locked.laid; gives = locked.gives; counted = locked.counted; vacant = still_vacant b l locked.vacant; noted = locked.noted })
