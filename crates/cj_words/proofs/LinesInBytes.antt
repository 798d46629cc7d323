-- Lines in the bytes that a reader took: more bytes come, and a line is taken off the rest.
use Rattle.std.proofs.Common.{◌≡◌, ◌≢◌, ◌⊎◌, ℕ, ◌+◌, ◌<◌, ◌≤◌, List, [], ◌∷◌, ◌++◌, length, Option, Some, None, inl, inr, sym, ap, subst, ◌∙◌, refl, arith, append_assoc, append-nil, length-append}
use Rattle.std.specs.Prelude.{IsSome}
use Rattle.std.specs.List.{flat_map}
use Rattle.std.specs.Io.KnownBytes.{Consumes, IsAtEnd}
use Rattle.std.proofs.lemmas.List.Concat.{flat_map-append, flat_map-cons}
use Rattle.cj_outside.specs.declared.lines.Line.{Line}
use Rattle.cj_outside.specs.Lines.{EndsLine, IsInLine, IsLine, LastLine, ReaderState}
use Rattle.cj_outside.proofs.Joined.{consumes_then}
use Rattle.cj_cluster.specs.Script.Lines.{with_line_feed}
use Rattle.cj_words.specs.LinesInBytes.{IsNextLine, LieIn}

-- the bytes of the lines, and of one more
bytes_more : (lines : List (List ℕ)) (line : List ℕ) → flat_map with_line_feed (lines ++ line ∷ []) ≡ flat_map with_line_feed lines ++ with_line_feed line
bytes_more lines line = flat_map-append with_line_feed lines (line ∷ []) ∙ ap (λ (t : List ℕ). flat_map with_line_feed lines ++ t) (flat_map-cons with_line_feed line [] ∙ append-nil (with_line_feed line))

-- a line with its LF is taken off the rest
line_more : (left : Option (List ℕ)) (taken : List ℕ) (lines : List (List ℕ)) (rest line more : List ℕ) → LieIn left taken lines rest → rest ≡ line ++ 10 ∷ more → LieIn left taken (lines ++ line ∷ []) more
line_more left taken lines rest line more (inl is) parts =
    inl (is ∙ ap (λ (t : List ℕ). flat_map with_line_feed lines ++ t) (parts ∙ sym (append_assoc line (10 ∷ []) more)) ∙ sym (append_assoc (flat_map with_line_feed lines) (with_line_feed line) more) ∙ ap (λ (t : List ℕ). t ++ more) (sym (bytes_more lines line)))
line_more left taken lines rest line more (inr h) parts = absurd (omega (arith, ap length (sym h.1 ∙ parts), length-append line (10 ∷ more)))

-- the rest is a last line without LF
last_more : (left : Option (List ℕ)) (taken : List ℕ) (lines : List (List ℕ)) (line : List ℕ) → LieIn left taken lines line → line ≢ [] → IsAtEnd left → LieIn left taken (lines ++ line ∷ []) []
last_more left taken lines line (inl is) some end =
    inr (ap (λ (t : List ℕ). t ++ 10 ∷ []) is ∙ append_assoc (flat_map with_line_feed lines) line (10 ∷ []) ∙ sym (bytes_more lines line), refl, end)
last_more left taken lines line (inr h) some end = absurd (some h.1)

-- ---- more is taken

-- how lines lie in the bytes where more is taken
pub record Longer (left left' : Option (List ℕ)) (taken : List ℕ) (lines : List (List ℕ)) (rest more : List ℕ) : Type 0 where
  pub whole : List ℕ
  pub consumed : Consumes left left' whole
  pub lie : LieIn left' whole lines (rest ++ more)
  pub told : IsSome left → length whole ≡ length taken + length more

-- behind a last line without LF nothing comes, where the source tells
pub longer : (left mid left' : Option (List ℕ)) (taken : List ℕ) (lines : List (List ℕ)) (rest more : List ℕ) → Consumes left mid taken → LieIn mid taken lines rest → Consumes mid left' more → Longer left left' taken lines rest more
longer None mid left' taken lines rest more before lie next = record { whole = flat_map with_line_feed lines ++ (rest ++ more); consumed = tt; lie = inl refl; told = λ none. absurd (cc none) }
longer (Some xs) None left' taken lines rest more before lie next = absurd before
longer (Some xs) (Some ys) None taken lines rest more before lie next = absurd next
longer (Some xs) (Some ys) (Some zs) taken lines rest more before (inl is) next = record {
  whole = taken ++ more;
  consumed = consumes_then (Some xs) (Some ys) (Some zs) taken more before next;
  lie = inl (ap (λ (t : List ℕ). t ++ more) is ∙ append_assoc (flat_map with_line_feed lines) rest more);
  told = λ _. length-append taken more;
}
longer (Some xs) (Some ys) (Some zs) taken lines rest (m ∷ more) before (inr h) next = absurd (omega (arith, ap length (sym h.2 ∙ next)))
longer (Some xs) (Some ys) (Some zs) taken lines rest [] before (inr h) next = record {
  whole = taken;
  consumed = before ∙ ap (λ (t : List ℕ). taken ++ t) next;
  lie = inr (h.0, append-nil rest ∙ h.1, sym next ∙ h.2);
  told = λ _. omega arith;
}

-- ---- a line is taken off

-- a list that is not empty has some items
not_empty : (xs : List ℕ) → xs ≢ [] → 0 < length xs
not_empty [] some = absurd (some refl)
not_empty (x ∷ xs) some = omega arith

-- the reader has come behind a line
pub record Advances (old new : ReaderState) (line : List ℕ) : Type 0 where
  pub by : length line + length new.rest + old.taken ≤ length old.rest + new.taken
  pub some : length new.rest + old.taken < length old.rest + new.taken

-- the line stands at the front of what was held and taken, and the reader holds the rest behind it
pub record TakesOff (left : Option (List ℕ)) (taken : List ℕ) (lines : List (List ℕ)) (old new : ReaderState) (bytes : List ℕ) (line : Line) : Type 0 where
  pub text : List ℕ
  pub is : IsLine text line
  pub inside : IsInLine text
  pub advances : Advances old new text
  pub next : IsNextLine left text (old.rest ++ bytes)
  pub behind : LieIn left taken (lines ++ text ∷ []) new.rest
  pub shorter : length text + length new.rest ≤ length (old.rest ++ bytes)

pub takes_off : (left : Option (List ℕ)) (taken : List ℕ) (lines : List (List ℕ)) (old new : ReaderState) (bytes : List ℕ) (line : Line)
    → LieIn left taken lines (old.rest ++ bytes) → new.taken ≡ old.taken + length bytes → EndsLine old new bytes line ⊎ LastLine left old new bytes line → TakesOff left taken lines old new bytes line
takes_off left taken lines old new bytes line lie count (inl h) = record {
  text = h.text;
  is = h.is;
  inside = h.inside;
  advances = record {
    by = omega (arith, count, ap length h.parts, length-append old.rest bytes, length-append h.text (10 ∷ new.rest));
    some = omega (arith, count, ap length h.parts, length-append old.rest bytes, length-append h.text (10 ∷ new.rest));
  };
  next = inl (new.rest, h.parts);
  behind = line_more left taken lines (old.rest ++ bytes) h.text new.rest lie h.parts;
  shorter = omega (arith, ap length h.parts, length-append h.text (10 ∷ new.rest));
}
takes_off left taken lines old new bytes line lie count (inr h) =
    let some = not_empty (old.rest ++ bytes) h.some in
    record {
      text = old.rest ++ bytes;
      is = h.is;
      inside = h.inside;
      advances = record {
        by = omega (arith, count, ap length h.none, length-append old.rest bytes);
        some = omega (arith, count, ap length h.none, length-append old.rest bytes, some);
      };
      next = inr (refl, h.at_end);
      behind = subst (LieIn left taken (lines ++ (old.rest ++ bytes) ∷ [])) (sym h.none) (last_more left taken lines (old.rest ++ bytes) lie h.some h.at_end);
      shorter = omega (arith, ap length h.none);
    }
