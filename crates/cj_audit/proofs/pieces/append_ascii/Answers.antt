use Rattle.cj_print.proofs.Texts.{ascii_text}
use Rattle.cj_audit.proofs.pieces.append_ascii.Goals as goal

pub append_text-requires : goal.append_text-requires
append_text-requires c = ascii_text c.args.words.now c.requires
