use Rattle.std.proofs.Common.{refl, codes}
use Rattle.cj_print.proofs.Texts.{ascii_text}
use Rattle.cj_administration.proofs.show.append_position.Goals as goal

pub append-requires : goal.append-requires
append-requires c = ascii_text (codes " position=-") refl
