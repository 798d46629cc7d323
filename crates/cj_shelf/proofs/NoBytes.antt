-- A shelf of no bytes: no record of it is bad.
use Rattle.std.proofs.Common.{◌≡◌, inl, inr, List, [], ◌∷◌, length, Ok, Err, ℕ, refl, ap, arith, length-append}
use Rattle.cj_shelf.proofs.Common.{Finds, ShelfError, ok_is, one_list}
use Rattle.cj_shelf.specs.declared.error.ShelfError.TheVariants as errors
use Rattle.cj_shelf.specs.Shelves.{shelf_magic, dump_bodies, BadDumpIn, Opens}
use Rattle.cj_shelf.specs.Proving.{IsNoBadRecord}

-- they keep no records
no_records : Finds shelf_magic [] (Ok [])
no_records = inl (omega arith, refl)

no_bad_body : (list : List (List ℕ)) (offset : ℕ) → Finds shelf_magic [] (Ok list) → BadDumpIn list offset → ⊥
no_bad_body list offset found bad =
    let none : list ≡ [] = ok_is list [] (one_list shelf_magic [] (Ok list) (Ok []) refl found no_records) in
    omega (arith, ap length none, ap length bad.parts, length-append (dump_bodies bad.before) (bad.body ∷ bad.later))

-- opening them is refused for no bad record
pub new_refused : {S : Type 0} (held : S → List ℕ) (error : ShelfError) (store : S) → Opens held [] (Err (error, store)) → IsNoBadRecord error
new_refused held errors.Failed store opened = tt
new_refused held errors.NoMemory store opened = tt
new_refused held (errors.BadRecord offset) store (inl found, same) = omega (arith, found.0)
new_refused held (errors.BadRecord offset) store (inr bad, same) = no_bad_body bad.0 offset bad.1 bad.2
