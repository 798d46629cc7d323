-- A script that ended by its input has played as far as that goes.
use Rattle.std.proofs.Common.{◌≡◌, ◌≢◌, inl, inr, ℕ, ◌+◌, Bool, true, List, [], ◌∷◌, ◌++◌, length, All, Option, Some, None, refl, sym, ap, subst, ◌∙◌, arith, append_assoc, append-nil, length-append}
use Rattle.std.proofs.lemmas.List.Elements.{All-cons, All-head, All-nil, All-push, All-tail, All-weaker}
use Rattle.cj_top.proofs.Common.{flat_map, flat_map-append, flat_map-cons, le-ltb, lt-ltb, most, ScriptEnd, WorldState}
use Rattle.cj_outside.specs.Lines.{IsInLine}
use Rattle.cj_cluster.specs.Script.Lines.{with_line_feed}
use Rattle.cj_script.specs.Script.{CameTo, IsWrong, Plays, PlaysLine}
use Rattle.cj_words.specs.LinesInBytes.{IsNextLine, IsShortLine, LieIn}
use Rattle.cj_script.specs.declared.play.ScriptEnd.TheVariants as end
use Rattle.cj_top.specs.Completeness.{AreLines, IsFirstWrong, IsPlayable, PlaysInput, is_script_end_by_input}

-- ---- one way to be lines

-- the first byte of a line with its LF, and what follows
abbrev IsByte : ℕ → Type 0
IsByte b = b ≢ 10

-- two lines, each with its LF, that begin the same bytes
line_same : (line other x y : List ℕ) → line ++ 10 ∷ x ≡ other ++ 10 ∷ y → IsInLine line → IsInLine other → (line ≡ other) × (x ≡ y)
line_same [] [] x y e p q = (refl, cc e)
line_same [] (b ∷ other) x y e p q = absurd (All-head IsByte b other q (cc e))
line_same (b ∷ line) [] x y e p q = absurd (All-head IsByte b line p (cc e))
line_same (b ∷ line) (c ∷ other) x y e p q =
    let later = line_same line other x y (cc e) (All-tail IsByte b line p) (All-tail IsByte c other q) in
    (ap (λ (t : List ℕ). b ∷ t) later.0 ∙ ap (λ (d : ℕ). d ∷ other) (cc e), later.1)

-- no LF is in a line
no_lf : (front rest line : List ℕ) → line ≡ front ++ 10 ∷ rest → IsInLine line → ⊥
no_lf [] rest [] e p = cc e
no_lf [] rest (b ∷ line) e p = All-head IsByte b line p (cc e)
no_lf (c ∷ front) rest [] e p = cc e
no_lf (c ∷ front) rest (b ∷ line) e p = no_lf front rest line (cc e) (All-tail IsByte b line p)

-- the first line, and all that follows it
first : (line : List ℕ) (lines : List (List ℕ)) (rest : List ℕ) → flat_map with_line_feed (line ∷ lines) ++ rest ≡ line ++ 10 ∷ (flat_map with_line_feed lines ++ rest)
first line lines rest = ap (λ (t : List ℕ). t ++ rest) (flat_map-cons with_line_feed line lines) ∙ append_assoc (with_line_feed line) (flat_map with_line_feed lines) rest ∙ append_assoc line (10 ∷ []) (flat_map with_line_feed lines ++ rest)

-- the lines are a front of all, and the others stand in the rest
record IsFront (lines whole : List (List ℕ)) (rest last : List ℕ) : Type 0 where
  others : List (List ℕ)
  are : whole ≡ lines ++ others
  rest_is : rest ≡ flat_map with_line_feed others ++ last

front_of_lines : (lines whole : List (List ℕ)) (rest last : List ℕ) → flat_map with_line_feed lines ++ rest ≡ flat_map with_line_feed whole ++ last → All IsInLine lines → All IsInLine whole → IsInLine last → IsFront lines whole rest last
front_of_lines [] whole rest last e p q r = record { others = whole; are = refl; rest_is = e }
front_of_lines (l ∷ lines) [] rest last e p q r = absurd (no_lf l (flat_map with_line_feed lines ++ rest) last (sym e ∙ first l lines rest) r)
front_of_lines (l ∷ lines) (k ∷ whole) rest last e p q r =
    let both = line_same l k (flat_map with_line_feed lines ++ rest) (flat_map with_line_feed whole ++ last) (sym (first l lines rest) ∙ e ∙ first k whole last) (All-head IsInLine l lines p) (All-head IsInLine k whole q) in
    let later = front_of_lines lines whole rest last both.1 (All-tail IsInLine l lines p) (All-tail IsInLine k whole q) r in
    record {
      others = later.others;
      are = ap (λ (x : List ℕ). x ∷ whole) (sym both.0) ∙ ap (λ (xs : List (List ℕ)). l ∷ xs) later.are;
      rest_is = later.rest_is;
    }

-- a rest without LF is the last line
none_behind : (others : List (List ℕ)) (rest last : List ℕ) → rest ≡ flat_map with_line_feed others ++ last → IsInLine rest → (others ≡ []) × (rest ≡ last)
none_behind [] rest last is inside = (refl, is)
none_behind (l ∷ others) rest last is inside = absurd (no_lf l (flat_map with_line_feed others ++ last) rest (is ∙ first l others last) inside)

-- so bytes are lines in one way
one_way : (bytes rest last : List ℕ) (lines whole : List (List ℕ)) → bytes ≡ flat_map with_line_feed lines ++ rest → All IsInLine lines → IsInLine rest → AreLines bytes whole last → whole ++ last ∷ [] ≡ lines ++ rest ∷ []
one_way bytes rest last lines whole is p inside are =
    let front = front_of_lines lines whole rest last (sym is ∙ are.whole) p are.inside are.last_inside in
    let none = none_behind front.others rest last front.rest_is inside in
    ap (λ (xs : List (List ℕ)). xs ++ last ∷ []) (front.are ∙ ap (λ (xs : List (List ℕ)). lines ++ xs) none.0 ∙ append-nil lines) ∙ ap (λ (l : List ℕ). lines ++ l ∷ []) (sym none.1)

-- ---- lines that were played

playable_line : (tells : Bool) (names : List (List ℕ)) (c z : WorldState) (line written : List ℕ) → IsShortLine line → PlaysLine tells true names c line written z → IsPlayable names line
playable_line tells names c z line written short (inl skips) = record { short = short.short; is = inl skips.empty }
playable_line tells names c z line written short (inr (inl makes)) = record { short = short.short; is = inr (inl (makes.move, makes.reads)) }
playable_line tells names c z line written short (inr (inr audits)) = record { short = short.short; is = inr (inr audits.0) }

playable : (tells : Bool) (names : List (List ℕ)) (lines : List (List ℕ)) (c z : WorldState) (written : List ℕ) → All IsShortLine lines → Plays tells true names c lines written z → All (IsPlayable names) lines
playable tells names [] c z written short plays = All-nil (IsPlayable names)
playable tells names (line ∷ lines) c z written short (mid, front, rest, one, others, is) =
    All-cons (IsPlayable names) line lines (playable_line tells names c mid line front (All-head IsShortLine line lines short) one) (playable tells names lines mid z rest (All-tail IsShortLine line lines short) others)

insides : (lines : List (List ℕ)) → All IsShortLine lines → All IsInLine lines
insides lines short = All-weaker IsShortLine IsInLine (λ line is. is.inside) lines short

empty_is_playable : (names : List (List ℕ)) → IsPlayable names []
empty_is_playable names = record { short = omega arith; is = inl refl }

-- ---- the end

-- bytes that lack the last LF of these lines
lacking : (bytes last : List ℕ) (lines whole : List (List ℕ)) → bytes ++ 10 ∷ [] ≡ flat_map with_line_feed lines → All IsInLine lines → AreLines bytes whole last → whole ++ last ∷ [] ≡ lines
lacking bytes last lines whole is p are =
    let one_more : flat_map with_line_feed (whole ++ last ∷ []) ≡ flat_map with_line_feed whole ++ with_line_feed last =
    flat_map-append with_line_feed whole (last ∷ []) ∙ ap (λ (t : List ℕ). flat_map with_line_feed whole ++ t) (flat_map-cons with_line_feed last [] ∙ append-nil (with_line_feed last))
    in
    let same : flat_map with_line_feed lines ≡ flat_map with_line_feed (whole ++ last ∷ []) =
    sym is ∙ ap (λ (t : List ℕ). t ++ 10 ∷ []) are.whole ∙ append_assoc (flat_map with_line_feed whole) last (10 ∷ []) ∙ sym one_more
    in
    let inside : All IsInLine (whole ++ last ∷ []) = All-push IsInLine whole last are.inside are.last_inside in
    let front = front_of_lines lines (whole ++ last ∷ []) [] [] (ap (λ (t : List ℕ). t ++ []) same) p inside (All-nil IsByte) in
    let none = none_behind front.others [] [] front.rest_is (All-nil IsByte) in
    front.are ∙ ap (λ (xs : List (List ℕ)). lines ++ xs) none.0 ∙ append-nil lines

-- of which each was played
done_lines : (names : List (List ℕ)) (left : Option (List ℕ)) (bytes last : List ℕ) (lines whole : List (List ℕ)) → LieIn left bytes lines [] → All IsShortLine lines → All (IsPlayable names) lines → AreLines bytes whole last
    → All (IsPlayable names) (whole ++ last ∷ [])
done_lines names left bytes last lines whole (inl is) short each are =
    subst (All (IsPlayable names)) (sym (one_way bytes [] last lines whole is (insides lines short) (All-nil IsByte) are)) (All-push (IsPlayable names) lines [] each (empty_is_playable names))
done_lines names left bytes last lines whole (inr h) short each are = subst (All (IsPlayable names)) (sym (lacking bytes last lines whole h.0 (insides lines short) are)) each

-- of which the first that can't be played stands here
wrong_line : (names : List (List ℕ)) (bytes taken behind last rest line : List ℕ) (lines whole : List (List ℕ)) → bytes ≡ taken ++ behind → LieIn (Some behind) taken lines rest → All IsShortLine lines → All (IsPlayable names) lines → IsInLine line
    → IsNextLine (Some behind) line rest → IsWrong names line → AreLines bytes whole last → IsFirstWrong names (whole ++ last ∷ []) (length lines + 1)
wrong_line names bytes taken behind last rest line lines whole is (inl lie) short each inside (inl (more, next)) wrong are =
    let one_more : flat_map with_line_feed (lines ++ line ∷ []) ≡ flat_map with_line_feed lines ++ with_line_feed line =
    flat_map-append with_line_feed lines (line ∷ []) ∙ ap (λ (t : List ℕ). flat_map with_line_feed lines ++ t) (flat_map-cons with_line_feed line [] ∙ append-nil (with_line_feed line))
    in
    let taken_is : taken ≡ flat_map with_line_feed (lines ++ line ∷ []) ++ more =
    lie ∙ ap (λ (t : List ℕ). flat_map with_line_feed lines ++ t) (next ∙ sym (append_assoc line (10 ∷ []) more)) ∙ sym (append_assoc (flat_map with_line_feed lines) (with_line_feed line) more) ∙ ap (λ (t : List ℕ). t ++ more) (sym one_more)
    in
    let parts : flat_map with_line_feed (lines ++ line ∷ []) ++ (more ++ behind) ≡ flat_map with_line_feed whole ++ last =
    sym (append_assoc (flat_map with_line_feed (lines ++ line ∷ [])) more behind) ∙ ap (λ (t : List ℕ). t ++ behind) (sym taken_is) ∙ sym is ∙ are.whole
    in
    let front = front_of_lines (lines ++ line ∷ []) whole (more ++ behind) last parts (All-push IsInLine lines line (insides lines short) inside) are.inside are.last_inside in
    record {
      before = lines;
      line = line;
      after = front.others ++ last ∷ [];
      are =
          ap (λ (xs : List (List ℕ)). xs ++ last ∷ []) (front.are ∙ append_assoc lines (line ∷ []) front.others) ∙ append_assoc lines (line ∷ front.others) (last ∷ []);
      playable = each;
      wrong = wrong;
      number_is = refl;
    }
wrong_line names bytes taken behind last rest line lines whole is (inl lie) short each inside (inr (next, at_end)) wrong are =
    let whole_is : bytes ≡ flat_map with_line_feed lines ++ line =
    is ∙ ap (λ (t : List ℕ). taken ++ t) at_end ∙ append-nil taken ∙ lie ∙ ap (λ (t : List ℕ). flat_map with_line_feed lines ++ t) next
    in
    record {
      before = lines;
      line = line;
      after = [];
      are = one_way bytes line last lines whole whole_is (insides lines short) inside are;
      playable = each;
      wrong = wrong;
      number_is = refl;
    }
wrong_line names bytes taken behind last rest line lines whole is (inr h) short each inside (inl (more, next)) wrong are = absurd (omega (arith, ap length (sym h.1 ∙ next), length-append line (10 ∷ more)))
wrong_line names bytes taken behind last rest line lines whole is (inr h) short each inside (inr (next, at_end)) (inl long) are = absurd (omega (arith, long, ap length (sym next ∙ h.1)))
wrong_line names bytes taken behind last rest line lines whole is (inr h) short each inside (inr (next, at_end)) (inr (some, none)) are = absurd (some (sym next ∙ h.1))

pub script_plays : (tells : Bool) (names : List (List ℕ)) (left left' held held' : Option (List ℕ)) (ending : ScriptEnd) (c z : WorldState) → CameTo tells true names left left' held held' c ending z → is_script_end_by_input ending ≡ true → PlaysInput names left ending
script_plays tells names None left' held held' ending c z came by = tt
script_plays tells names (Some xs) None held held' end.Done c z came by = absurd came.played.consumed
script_plays tells names (Some xs) (Some ys) held held' end.Done c z came by = λ whole last are.
    let taken : xs ≡ came.taken = came.played.consumed ∙ ap (λ (t : List ℕ). came.taken ++ t) came.at_end ∙ append-nil came.taken in
    let few = came.few refl in
    let each = playable tells names came.lines c z came.played.written came.played.lines_are came.played.plays in (
      lt-ltb (length xs) most (omega (arith, ap length taken, few)),
      done_lines names (Some ys) came.taken last came.lines whole came.played.lie came.played.lines_are each (subst (λ (bytes : List ℕ). AreLines bytes whole last) taken are),
    )
script_plays tells names (Some xs) None held held' (end.Line number) c z came by = absurd came.played.consumed
script_plays tells names (Some xs) (Some ys) held held' (end.Line number) c z came by = λ whole last are.
    subst (IsFirstWrong names (whole ++ last ∷ [])) (sym came.before)
    (wrong_line names xs came.taken ys last came.rest came.line came.lines whole came.played.consumed came.played.lie came.played.lines_are
    (playable tells names came.lines c z came.played.written came.played.lines_are came.played.plays) came.inside came.next came.wrong are)
script_plays tells names (Some xs) left' held held' end.ReadFault c z came by = absurd cc
script_plays tells names (Some xs) left' held held' end.WriteFault c z came by = absurd cc
script_plays tells names (Some xs) None held held' end.Spent c z came by = absurd came.played.consumed
script_plays tells names (Some xs) (Some ys) held held' end.Spent c z came by = λ whole last are.
    let size = ap length came.played.consumed ∙ length-append came.taken ys in
    let all = came.count refl in
    le-ltb (length xs) most (omega (arith, size, all))
script_plays tells names (Some xs) left' held held' end.NoMemory c z came by = absurd cc
