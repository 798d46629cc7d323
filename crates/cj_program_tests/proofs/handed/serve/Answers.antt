use Rattle.std.proofs.Common.{List, ℕ, subst}
use Rattle.cj_shelf.specs.Shelves.{KeepsDumps}
use Rattle.cj_program_tests.proofs.NoDumps.{none_are_right}
use Rattle.cj_program_tests.proofs.handed.serve.Goals as goal

pub run-requires-clause-of_log : goal.run-requires-clause-of_log
run-requires-clause-of_log g c κs within = λ tells items opening kept found opens keeps.
    none_are_right opening kept (c.bytes_of-bytes.ensures kept (subst (λ (bytes : List ℕ). KeepsDumps bytes kept) c.in_ok-dumps.ensures keeps))
