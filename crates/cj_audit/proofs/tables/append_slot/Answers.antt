use Rattle.std.proofs.Common.{refl, codes}
use Rattle.cj_print.proofs.Texts.{ascii_text}
use Rattle.cj_audit.proofs.tables.append_slot.Goals as goal

pub append_table-requires : goal.append_table-requires
append_table-requires c = ascii_text (codes "base") refl
