use Rattle.cj_macro.proofs.Written.{text_is_drawable}
use Rattle.cjc_stress.proofs.client.plain.Goals as goal

pub rewrite-requires : goal.rewrite-requires
rewrite-requires c = text_is_drawable c.args.text.now c.in-Ok.request c.in-Ok.ensures.0
