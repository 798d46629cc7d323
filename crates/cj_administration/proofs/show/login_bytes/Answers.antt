use Rattle.std.proofs.Common.{refl, codes}
use Rattle.cj_print.proofs.Texts.{ascii_text}
use Rattle.cj_administration.proofs.show.login_bytes.Goals as goal

pub returns-in-None-clause-text : goal.returns-in-None-clause-text
returns-in-None-clause-text c = ascii_text (codes "-") refl
