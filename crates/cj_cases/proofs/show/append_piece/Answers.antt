use Rattle.std.proofs.Common.{◌≡◌, ◌++◌, ◌∷◌, [], sym, subst, ap, ◌∙◌, Option, List, ℕ}
use Rattle.std.specs.Option.{option_copied}
use Rattle.cj_cases.specs.Shown.{AppendsPiece}
use Rattle.cj_cases.proofs.ShownPieces.{part_shown, line_shown}
use Rattle.cj_cases.proofs.show.append_piece.Goals as goal

pub returns-in_default : goal.returns-in_default
returns-in_default c = part_shown
    (option_copied c.args.line_tag) c.args.part_tag.now c.args.piece.now c.args.text.now.items
    c.append_tagged.new.text.items c.in_ok-append_tagged.ensures

pub returns-in_ok-append_tagged-in-Some-eq10-default : goal.returns-in_ok-append_tagged-in-Some-eq10-default
returns-in_ok-append_tagged-in-Some-eq10-default c =
    let is : c.args.piece.now ≡ c.in-Some-eq10-default.line.now ++ 10 ∷ [] =
    c.in-Some-eq10-default.ensures.cases.0
    ∙ ap (λ (b : ℕ). c.in-Some-eq10-default.line.now ++ b ∷ []) c.in-Some-eq10-default.field-0-0-test
    in
    let tag = sym (ap option_copied c.in-Lines-Some.is-1) in
    subst (λ (t : Option (List ℕ)). AppendsPiece t c.args.part_tag.now c.args.piece.now c.args.text.now.items
    c.append_tagged-in-Some-eq10-default.new.text.items) tag
    (line_shown c.in-Lines-Some.tag.now c.args.part_tag.now c.in-Some-eq10-default.line.now c.args.piece.now
    c.args.text.now.items c.append_tagged-in-Some-eq10-default.new.text.items is
    c.in_ok-append_tagged-in-Some-eq10-default.ensures)

pub returns-in_ok-append_tagged-in_default-split_last : goal.returns-in_ok-append_tagged-in_default-split_last
returns-in_ok-append_tagged-in_default-split_last c =
    part_shown (option_copied c.args.line_tag) c.args.part_tag.now c.args.piece.now c.args.text.now.items
    c.append_tagged-in_default-split_last.new.text.items c.in_ok-append_tagged-in_default-split_last.ensures
