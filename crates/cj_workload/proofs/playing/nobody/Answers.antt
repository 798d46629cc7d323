use Rattle.std.proofs.Common.{◌∙◌, sym, ap}
use Rattle.cj_model.specs.Sql.Names.{text_of}
use Rattle.cj_print.proofs.Texts.{empty_text}
use Rattle.cj_workload.proofs.playing.nobody.Goals as goal

pub unreachable-requires : goal.unreachable-requires
unreachable-requires c =
    let none = sym c.in-None.is ∙ (c.of.ensures ∙ ap text_of c.new.ensures.items) in
    cc (rw empty_text at none)
