use Rattle.cj_macro.proofs.Written.{text_is_drawable}
use Rattle.cj_session.proofs.Works.{can_ask}
use Rattle.cj_session.proofs.turn.turn.Goals as goal

pub rewrite-requires : goal.rewrite-requires
rewrite-requires g c = text_is_drawable c.requires.text.text c.args.request c.requires.text.reads

pub read-requires-clause-can : goal.read-requires-clause-can
read-requires-clause-can g c = can_ask _ _ _ c.rewrite.result c.requires.room c.requires.short c.in-Ask.ensures (c.rewrite.ensures.written c.requires.text.text c.requires.text.reads)

pub change-requires-clause-can : goal.change-requires-clause-can
change-requires-clause-can g c = can_ask _ _ _ c.rewrite.result c.requires.room c.requires.short c.in-Change.ensures (c.rewrite.ensures.written c.requires.text.text c.requires.text.reads)
