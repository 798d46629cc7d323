use Rattle.cj_workload.proofs.Kept.{keeps_both}
use Rattle.cj_workload.proofs.moving.take_dump.Goals as goal

pub returns-clause-keeps : goal.returns-clause-keeps
returns-clause-keeps g c =
    let both = keeps_both 0 0 _ _ _ _ _ c.in_ok-make.ensures.keeps c.in_ok-make-2.ensures.keeps in
    (_, keeps_both 0 0 _ _ _ _ _ both c.in_ok-enable.ensures.keeps)
