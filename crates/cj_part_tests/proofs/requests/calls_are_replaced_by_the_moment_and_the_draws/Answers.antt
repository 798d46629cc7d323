use Rattle.cj_macro.proofs.Written.{text_is_drawable}
use Rattle.cj_part_tests.proofs.requests.calls_are_replaced_by_the_moment_and_the_draws.Goals as goal

pub rewrite-requires : goal.rewrite-requires
rewrite-requires g c = text_is_drawable _ c.in-Ok.given c.in-Ok.ensures.0
