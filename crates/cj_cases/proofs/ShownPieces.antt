-- Pieces that are shown one after another.
use Rattle.std.proofs.Common.{◌≡◌, ◌∙◌, refl, sym, ap, ℕ, ◌+◌, List, [], ◌∷◌, ◌++◌, take, drop, Option, None, Some}
use Rattle.std.proofs.Common.{append_assoc, append-nil}
use Rattle.std.proofs.Math.Seq.{take-add}
use Rattle.std.proofs.lemmas.List.Concat.{flat_map-append, flat_map-cons}
use Rattle.std.specs.List.{flat_map}
use Rattle.cj_cases.specs.Shown.{piece_bytes, piece_line, tagged_line, AppendsPiece, AppendsShown, Piece}
use Rattle.cj_cases.specs.Shown.Piece.{Line, Part}

-- a part is shown
pub part_shown : (line_tag : Option (List ℕ)) (part_tag piece old new : List ℕ)
    → new ≡ old ++ tagged_line part_tag piece → AppendsPiece line_tag part_tag piece old new
part_shown None part_tag piece old new e = (Part piece, refl, e)
part_shown (Some tag) part_tag piece old new e = (Part piece, refl, e)

-- a line is shown
pub line_shown : (tag part_tag line piece old new : List ℕ) → piece ≡ line ++ 10 ∷ []
    → new ≡ old ++ tagged_line tag line → AppendsPiece (Some tag) part_tag piece old new
line_shown tag part_tag line piece old new is e = (Line line, is, e)

-- the pieces, and one more behind them
pieces_more : (f : Piece → List ℕ) (pieces : List Piece) (piece : Piece)
    → flat_map f (pieces ++ piece ∷ []) ≡ flat_map f pieces ++ f piece
pieces_more f pieces piece = flat_map-append f pieces (piece ∷ [])
    ∙ ap (λ (t : List ℕ). flat_map f pieces ++ t) (flat_map-cons f piece [] ∙ append-nil (f piece))

-- the next piece is shown
pub shown_more : (line_tag : Option (List ℕ)) (part_tag bytes rest piece old mid new : List ℕ) (at size : ℕ)
    → rest ≡ drop at bytes → piece ≡ take size rest
    → AppendsShown line_tag part_tag (take at bytes) old mid → AppendsPiece line_tag part_tag piece mid new
    → AppendsShown line_tag part_tag (take (at + size) bytes) old new
shown_more line_tag part_tag bytes rest piece old mid new at size behind front (text, shows, is) (p, same, more) =
    let line = piece_line line_tag part_tag p in
    let next : take size (drop at bytes) ≡ piece_bytes p = ap (take size) (sym behind) ∙ sym front ∙ same in
    let both : take (at + size) bytes ≡ take at bytes ++ take size (drop at bytes) = rw take-add refl in (
      text ++ line,
      record {
        pieces = shows.pieces ++ p ∷ [];
        whole = both ∙ ap (λ (t : List ℕ). t ++ take size (drop at bytes)) shows.whole
            ∙ ap (λ (t : List ℕ). flat_map piece_bytes shows.pieces ++ t) next
            ∙ sym (pieces_more piece_bytes shows.pieces p);
        lines = ap (λ (t : List ℕ). t ++ line) shows.lines
            ∙ sym (pieces_more (piece_line line_tag part_tag) shows.pieces p);
      },
      more ∙ ap (λ (t : List ℕ). t ++ line) is ∙ append_assoc old text line,
    )
