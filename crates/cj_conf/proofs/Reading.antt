-- How lists are read item by item.
use Rattle.std.proofs.Common.{List, ◌++◌}
use Rattle.cj_conf.proofs.Common.{ConfError, Err, Ok, Result}

-- the items that were read, and those that are read after them
abbrev pub onto : {A : Type 0} → List A → Result (List A) ConfError → Result (List A) ConfError
onto done (Ok more) = Ok (done ++ more)
onto done (Err e) = Err e
