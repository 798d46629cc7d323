-- How a script comes from line to line.
use Rattle.std.proofs.Common.{◌≡◌, ◌⊎◌, ℕ, ◌+◌, ◌*◌, ◌≤◌, Bool, List, [], ◌∷◌, ◌++◌, length, Option, Ok, Err, inl, inr, refl, sym, ap, subst, ◌∙◌, arith, append_assoc, append-nil, length-append}
use Rattle.std.specs.Prelude.{IsSome}
use Rattle.std.proofs.lemmas.List.Elements.{All-push, All-nil}
use Rattle.std.specs.Global.{Vec}
use Rattle.std.specs.Io.KnownBytes.{Consumes, Appends}
use Rattle.cj_script.proofs.Common.{PlaysOrEnds, PlaysWritten, ReadsLine, ScriptEnd, DoesNothing, WorldState}
use Rattle.cj_outside.specs.declared.lines.Line.{Line}
use Rattle.cj_outside.specs.Lines.{line_limit, ReaderState, IsInLine, IsLine, EndsLine, LastLine, TookBytes}
use Rattle.cj_outside.proofs.Joined.{consumes_none, appends_then, appends_none}
use Rattle.cj_outside.specs.declared.lines.Line.TheVariants.{Text, Long}
use Rattle.cj_script.specs.declared.play.ScriptEnd.TheVariants.{Done, Line as Line', ReadFault, WriteFault, Spent, NoMemory}
use Rattle.cj_words.specs.LinesInBytes.{IsNextLine, IsShortLine, LieIn}
use Rattle.cj_words.proofs.LinesInBytes.{Advances, longer, takes_off}
use Rattle.cj_script.specs.Script.{filled, PlaysLine, Plays, Played, PlayedInPart, MakesInPart, CameTo}
use Rattle.cj_script.proofs.Filled.{filled_more}

-- ---- lines that play

-- the lines, and one more behind them
pub plays_more : (tells armable : Bool) (names : List (List ℕ)) (c : WorldState) (lines : List (List ℕ)) (written : List ℕ) (mid : WorldState) (line more : List ℕ) (z : WorldState)
    → Plays tells armable names c lines written mid → PlaysLine tells armable names mid line more z → Plays tells armable names c (lines ++ line ∷ []) (written ++ more) z
plays_more tells armable names c [] written mid line more z before next =
    (z, more, [], subst (λ (x : WorldState). PlaysLine tells armable names x line more z) before.1 next, (refl, refl), ap (λ (t : List ℕ). t ++ more) before.0 ∙ sym (append-nil more))
plays_more tells armable names c (l ∷ lines) written mid line more z (d, front, rest, first, others, is) next =
    (d, front, rest ++ more, first, plays_more tells armable names d lines rest mid line more z others next, ap (λ (t : List ℕ). t ++ more) is ∙ append_assoc front rest more)

-- ---- between two lines

-- The lines were played that lie in the bytes taken, and so many of them; the reader holds what is left.
pub record Playing (tells armable : Bool) (names : List (List ℕ)) (left left' held held' : Option (List ℕ)) (c : WorldState) (rest : List ℕ) (bytes count : ℕ) (z : WorldState) : Type 0 where
  pub taken : List ℕ
  pub lines : List (List ℕ)
  pub played : Played tells armable names left left' held held' c taken lines rest z
  pub number : count ≡ length lines
  pub told : IsSome left → length taken ≡ bytes
  -- each line that is not blank took two bytes
  pub few : 2 * length (filled lines) + length rest ≤ bytes

-- at first none was
pub playing_none : (tells armable : Bool) (names : List (List ℕ)) (left held : Option (List ℕ)) (c : WorldState) (rest : List ℕ) (bytes : ℕ) → rest ≡ [] → bytes ≡ 0 → Playing tells armable names left left held held c rest bytes 0 c
playing_none tells armable names left held c rest bytes none zero = record {
  taken = [];
  lines = [];
  played = record {
    lines_are = All-nil IsShortLine;
    consumed = consumes_none left;
    lie = inl (sym none);
    written = [];
    plays = (refl, refl);
    appended = appends_none held;
  };
  number = refl;
  told = λ _. sym zero;
  few = omega (arith, zero, ap length none);
}

-- more was taken, and the rest is longer by it
pub playing_longer : (tells armable : Bool) (names : List (List ℕ)) (left mid left' held held' : Option (List ℕ)) (c : WorldState) (rest : List ℕ) (bytes count : ℕ) (z : WorldState) (more : List ℕ)
    → Playing tells armable names left mid held held' c rest bytes count z → Consumes mid left' more → Playing tells armable names left left' held held' c (rest ++ more) (bytes + length more) count z
playing_longer tells armable names left mid left' held held' c rest bytes count z more p next =
    let l = longer left mid left' p.taken p.lines rest more p.played.consumed p.played.lie next in
    record {
      taken = l.whole;
      lines = p.lines;
      played = record {
        lines_are = p.played.lines_are;
        consumed = l.consumed;
        lie = l.lie;
        written = p.played.written;
        plays = p.played.plays;
        appended = p.played.appended;
      };
      number = p.number;
      told = λ some. l.told some ∙ ap (λ (n : ℕ). n + length more) (p.told some);
      few = omega (arith, p.few, length-append rest more);
    }

-- the reader took more
playing_taken : (tells armable : Bool) (names : List (List ℕ)) (left mid left' held held' : Option (List ℕ)) (c : WorldState) (old new : ReaderState) (count : ℕ) (z : WorldState) (bytes : List ℕ)
    → Playing tells armable names left mid held held' c old.rest old.taken count z → TookBytes mid left' old new bytes → Playing tells armable names left left' held held' c (old.rest ++ bytes) new.taken count z
playing_taken tells armable names left mid left' held held' c old new count z bytes p took =
    subst (λ (n : ℕ). Playing tells armable names left left' held held' c (old.rest ++ bytes) n count z) (sym took.count)
    (playing_longer tells armable names left mid left' held held' c old.rest old.taken count z bytes p took.consumed)

-- ---- a line

-- The next line was read, as which `line` stands at the rest's front, and the reader holds the rest behind it.
pub record AtLine (tells armable : Bool) (names : List (List ℕ)) (left left' held held' : Option (List ℕ)) (c : WorldState) (line rest : List ℕ) (bytes count : ℕ) (z : WorldState) : Type 0 where
  pub whole : List ℕ
  pub playing : Playing tells armable names left left' held held' c whole bytes count z
  pub inside : IsInLine line
  pub next : IsNextLine left' line whole
  pub behind : LieIn left' playing.taken (playing.lines ++ line ∷ []) rest
  pub shorter : length line + length rest ≤ length whole

-- a line came, whole or too long
pub record LineCame (tells armable : Bool) (names : List (List ℕ)) (left left' held held' : Option (List ℕ)) (c : WorldState) (old new : ReaderState) (count : ℕ) (z : WorldState) (line : Line) : Type 0 where
  pub text : List ℕ
  pub is : IsLine text line
  pub advances : Advances old new text
  pub at : AtLine tells armable names left left' held held' c text new.rest new.taken count z

pub line_came : (tells armable : Bool) (names : List (List ℕ)) (left mid left' held held' : Option (List ℕ)) (c : WorldState) (old new : ReaderState) (count : ℕ) (z : WorldState) (bytes : List ℕ) (line : Line)
    → Playing tells armable names left mid held held' c old.rest old.taken count z → TookBytes mid left' old new bytes → EndsLine old new bytes line ⊎ LastLine left' old new bytes line
    → LineCame tells armable names left left' held held' c old new count z line
line_came tells armable names left mid left' held held' c old new count z bytes line p took came =
    let now = playing_taken tells armable names left mid left' held held' c old new count z bytes p took in
    let off = takes_off left' now.taken now.lines old new bytes line now.played.lie took.count came in
    record {
      text = off.text;
      is = off.is;
      advances = off.advances;
      at = record {
        whole = old.rest ++ bytes;
        playing = now;
        inside = off.inside;
        next = off.next;
        behind = off.behind;
        shorter = off.shorter;
      };
    }

-- The line was played, and what it gives written.
pub line_played : (tells armable : Bool) (names : List (List ℕ)) (left left' held held' held'' : Option (List ℕ)) (c : WorldState) (line rest : List ℕ) (bytes count : ℕ) (mid z : WorldState)
    → AtLine tells armable names left left' held held' c line rest bytes count mid → length line ≤ line_limit → PlaysWritten tells armable names held' held'' mid line z → Playing tells armable names left left' held held'' c rest bytes (count + 1) z
line_played tells armable names left left' held held' held'' c line rest bytes count mid z at short now =
    let p = at.playing in
    record {
      taken = p.taken;
      lines = p.lines ++ line ∷ [];
      played = record {
        lines_are = All-push IsShortLine p.lines line p.played.lines_are (record { inside = at.inside; short = short });
        consumed = p.played.consumed;
        lie = at.behind;
        written = p.played.written ++ now.written;
        plays = plays_more tells armable names c p.lines p.played.written mid line now.written z p.played.plays now.plays;
        appended = appends_then held held' held'' p.played.written now.written p.played.appended now.appended;
      };
      number = omega (arith, p.number, length-append p.lines (line ∷ []));
      told = p.told;
      few = filled_more tells armable names mid p.lines line now.written z (length rest) bytes now.plays (omega (arith, p.few, at.shorter));
    }

-- nothing was done and nothing written
playing_stays : (tells armable : Bool) (names : List (List ℕ)) (left left' held held' held'' : Option (List ℕ)) (c : WorldState) (taken : List ℕ) (lines : List (List ℕ)) (rest : List ℕ) (mid z : WorldState)
    → Played tells armable names left left' held held' c taken lines rest mid → DoesNothing held' held'' mid z → Played tells armable names left left' held held'' c taken lines rest z
playing_stays tells armable names left left' held held' held'' c taken lines rest mid z p stays = record {
  lines_are = p.lines_are;
  consumed = p.consumed;
  lie = p.lie;
  written = p.written;
  plays = subst (Plays tells armable names c lines p.written) (sym stays.0) p.plays;
  appended = subst (λ (t : List ℕ). Appends held held'' t) (append-nil p.written) (appends_then held held' held'' p.written [] p.appended stays.1);
}

-- ---- ends

-- in place of a line the script came to its end
pub read_end : (tells armable : Bool) (names : List (List ℕ)) (left mid left' held held' : Option (List ℕ)) (c : WorldState) (old new : ReaderState) (count number : ℕ) (z : WorldState) (last : ScriptEnd)
    → Playing tells armable names left mid held held' c old.rest old.taken count z → number ≡ count + 1 → ReadsLine mid left' old new number (Err last) → CameTo tells armable names left left' held held' c last z
read_end tells armable names left mid left' held held' c old new count number z Done p is (bytes, took, none) =
    let now = playing_taken tells armable names left mid left' held held' c old new count z bytes p took in
    record {
      taken = now.taken;
      lines = now.lines;
      played = subst (λ (t : List ℕ). Played tells armable names left left' held held' c now.taken now.lines t z) none.nothing now.played;
      at_end = none.at_end;
      few = λ some. omega (arith, now.told some, none.few);
    }
read_end tells armable names left mid left' held held' c old new count number z (Line' n) p is (same, (bytes, took, came)) =
    let l = line_came tells armable names left mid left' held held' c old new count z bytes Long p took came in
    record {
      taken = l.at.playing.taken;
      lines = l.at.playing.lines;
      rest = l.at.whole;
      played = l.at.playing.played;
      before = same ∙ is ∙ ap (λ (k : ℕ). k + 1) l.at.playing.number;
      line = l.text;
      inside = l.at.inside;
      next = l.at.next;
      wrong = inl l.is;
    }
read_end tells armable names left mid left' held held' c old new count number z ReadFault p is (bytes, took, (none, few)) =
    let now = playing_taken tells armable names left mid left' held held' c old new count z bytes p took in
    record { taken = now.taken; lines = now.lines; rest = old.rest ++ bytes; played = now.played; inside = none.inside; count = λ some. omega (arith, now.told some, few) }
read_end tells armable names left mid left' held held' c old new count number z WriteFault p is none = absurd none
read_end tells armable names left mid left' held held' c old new count number z Spent p is (bytes, took, (none, all)) =
    let now = playing_taken tells armable names left mid left' held held' c old new count z bytes p took in
    record { taken = now.taken; lines = now.lines; rest = old.rest ++ bytes; played = now.played; inside = none.inside; count = λ some. now.told some ∙ all }
read_end tells armable names left mid left' held held' c old new count number z NoMemory p is (bytes, took) =
    let now = playing_longer tells armable names left mid left' held held' c old.rest old.taken count z bytes p took in
    inl (record { taken = now.taken; lines = now.lines; rest = old.rest ++ bytes; stopped = z; played = now.played; same = refl; log_faults = refl })

-- a line that was made, with what it gives written in part
in_part : (tells armable : Bool) (names : List (List ℕ)) (left left' held held' held'' : Option (List ℕ)) (c : WorldState) (line rest : List ℕ) (bytes count : ℕ) (mid z : WorldState)
    → AtLine tells armable names left left' held held' c line rest bytes count mid → length line ≤ line_limit → MakesInPart tells armable names held' held'' mid line z → PlayedInPart tells armable names left left' held held'' c z
in_part tells armable names left left' held held' held'' c line rest bytes count mid z at short makes = record {
  taken = at.playing.taken;
  lines = at.playing.lines;
  rest = at.whole;
  mid = mid;
  between = held';
  played = at.playing.played;
  line = line;
  line_is = record { inside = at.inside; short = short };
  next = at.next;
  makes = makes;
}

-- in a line the script came to its end
pub play_end : (tells armable : Bool) (names : List (List ℕ)) (left left' held held' held'' : Option (List ℕ)) (c : WorldState) (line rest : List ℕ) (bytes count number : ℕ) (mid z : WorldState) (last : ScriptEnd)
    → AtLine tells armable names left left' held held' c line rest bytes count mid → length line ≤ line_limit → number ≡ count + 1 → PlaysOrEnds tells armable names held' held'' mid line number (Err last) z → CameTo tells armable names left left' held held'' c last z
play_end tells armable names left left' held held' held'' c line rest bytes count number mid z Done at short is none = absurd none
play_end tells armable names left left' held held' held'' c line rest bytes count number mid z (Line' n) at short is (same, refuses) = record {
  taken = at.playing.taken;
  lines = at.playing.lines;
  rest = at.whole;
  played = playing_stays tells armable names left left' held held' held'' c at.playing.taken at.playing.lines at.whole mid z at.playing.played refuses.stays;
  before = same ∙ is ∙ ap (λ (k : ℕ). k + 1) at.playing.number;
  line = line;
  inside = at.inside;
  next = at.next;
  wrong = inr (refuses.some, refuses.none);
}
play_end tells armable names left left' held held' held'' c line rest bytes count number mid z ReadFault at short is none = absurd none
play_end tells armable names left left' held held' held'' c line rest bytes count number mid z WriteFault at short is makes = in_part tells armable names left left' held held' held'' c line rest bytes count mid z at short makes
play_end tells armable names left left' held held' held'' c line rest bytes count number mid z Spent at short is none = absurd none
play_end tells armable names left left' held held' held'' c line rest bytes count number mid z NoMemory at short is (inl starves) =
    inl (record {
      taken = at.playing.taken;
      lines = at.playing.lines;
      rest = at.whole;
      stopped = mid;
      played = playing_stays tells armable names left left' held held' held'' c at.playing.taken at.playing.lines at.whole mid mid at.playing.played (refl, starves.nothing);
      same = starves.same;
      log_faults = starves.log_faults;
    })
play_end tells armable names left left' held held' held'' c line rest bytes count number mid z NoMemory at short is (inr makes) =
    inr (in_part tells armable names left left' held held' held'' c line rest bytes count mid z at short makes)

-- ---- the next line

-- The next line was read.
pub record TextCame (tells armable : Bool) (names : List (List ℕ)) (left left' held held' : Option (List ℕ)) (c : WorldState) (old new : ReaderState) (count : ℕ) (z : WorldState) (line : List ℕ) : Type 0 where
  pub advances : Advances old new line
  pub short : length line ≤ line_limit
  pub at : AtLine tells armable names left left' held held' c line new.rest new.taken count z

pub text_came : (tells armable : Bool) (names : List (List ℕ)) (left mid left' held held' : Option (List ℕ)) (c : WorldState) (old new : ReaderState) (count number : ℕ) (z : WorldState) (v : Vec ℕ)
    → Playing tells armable names left mid held held' c old.rest old.taken count z → ReadsLine mid left' old new number (Ok v) → TextCame tells armable names left left' held held' c old new count z v.items
text_came tells armable names left mid left' held held' c old new count number z v p (bytes, took, came) =
    let l = line_came tells armable names left mid left' held held' c old new count z bytes (Text v) p took came in
    subst (TextCame tells armable names left left' held held' c old new count z) (sym l.is.0) (record { advances = l.advances; short = l.is.1; at = l.at })
