use Rattle.std.proofs.Common.{refl, codes, sym, subst, [], ◌∷◌}
use Rattle.cj_model.specs.Sql.Names.{IsText}
use Rattle.cj_print.proofs.Texts.{ascii_text, name_text}
use Rattle.cj_administration.proofs.Showing.{state_is_text}
use Rattle.cj_administration.proofs.show.append_line.Goals as goal

pub append-requires : goal.append-requires
append-requires c = subst IsText (sym c.as_slice.ensures.value) (name_text c.args.name.now c.as_slice.ensures.name)

pub append-requires-2 : goal.append-requires-2
append-requires-2 c = subst IsText (sym c.state_word.ensures) (state_is_text c.args.enabled c.args.look.now.position)

pub append-requires-3 : goal.append-requires-3
append-requires-3 c = ascii_text (codes " login=") refl

pub append-requires-5 : goal.append-requires-5
append-requires-5 c = ascii_text (10 ∷ []) refl
