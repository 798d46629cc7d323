-- How cases are played from line to line.
use Rattle.std.proofs.Common.{◌≡◌, ◌∙◌, refl, sym, ap, subst, ℕ, List, [], ◌∷◌, ◌++◌, Bool, true, false, Option, None}
use Rattle.std.proofs.Common.{Some, Ok, Err, inl, inr, append_assoc, append-nil, arith}
use Rattle.std.specs.Io.KnownBytes.{Appends}
use Rattle.cj_outside.proofs.Joined.{appends_then, appends_none}
use Rattle.cj_outside.specs.declared.sink.OutError.{OutError}
use Rattle.cj_outside.specs.declared.sink.OutError.TheVariants.{Failed, NoMemory}
use Rattle.cj_cases.specs.Cases.{CaseState, no_case, ran}
use Rattle.cj_cases.specs.Lines.{behind, before, lines_of, parts_behind, said, SaysOfCase}
use Rattle.cj_cases.specs.Plays.{asks_run, refused_line, IsNoDirective, PlayedAllCases, PlayedSomeCases, PlayedCasesTo, PlaysCaseLines}
use Rattle.cj_cases.specs.Plays.{PlaysInPart, PlaysCaseLine, PlaysOrStops, RunsInPart, RunsOrStops, StopsPlay, WritesLine}
use Rattle.cj_cases.specs.Plays.{WritesNone}
use Rattle.cj_cases.specs.declared.runner.Outcome.{Outcome}
use Rattle.cj_cases.proofs.Cutting.{part_more, parts_cut}

-- the lines, and one more behind them
pub plays_more : (gives : CaseState → Outcome → Type 0) (c : CaseState) (lines : List (List ℕ)) (written : List ℕ)
    (mid : CaseState) (line more : List ℕ) (z : CaseState)
    → PlaysCaseLines gives c lines written mid → PlaysCaseLine gives mid line more z
    → PlaysCaseLines gives c (lines ++ line ∷ []) (written ++ more) z
plays_more gives c [] written mid line more z before next = (
  z,
  more,
  [],
  subst (λ (x : CaseState). PlaysCaseLine gives x line more z) before.1 next,
  (refl, refl),
  ap (λ (t : List ℕ). t ++ more) before.0 ∙ sym (append-nil more),
)
plays_more gives c (l ∷ lines) written mid line more z (d, front, rest, first, others, is) next = (
  d,
  front,
  rest ++ more,
  first,
  plays_more gives d lines rest mid line more z others next,
  ap (λ (t : List ℕ). t ++ more) is ∙ append_assoc front rest more,
)

-- Lines of the text were played, what they gave was written, and this is left of it.
pub record Playing (gives : CaseState → Outcome → Type 0) (text : List ℕ) (rest : Option (List ℕ))
    (held held' : Option (List ℕ)) (z : CaseState) : Type 0 where
  pub lines : List (List ℕ)
  pub parts : lines_of text ≡ lines ++ parts_behind 10 rest
  pub written : List ℕ
  pub plays : PlaysCaseLines gives no_case lines written z
  pub appended : Appends held held' written

-- a line was played
pub playing_more : (gives : CaseState → Outcome → Type 0) (text here : List ℕ) (rest more : Option (List ℕ))
    (line written : List ℕ) (held held' held'' : Option (List ℕ)) (mid z : CaseState)
    → Playing gives text rest held held' mid → rest ≡ Some here → line ≡ before 10 here → more ≡ behind 10 here
    → PlaysCaseLine gives mid line written z → Appends held' held'' written → Playing gives text more held held'' z
playing_more gives text here rest more line written held held' held'' mid z p is first others plays appended =
    record {
      lines = p.lines ++ line ∷ [];
      parts =
          part_more 10 text here rest p.lines is p.parts
          ∙ ap (λ (w : List ℕ). (p.lines ++ w ∷ []) ++ parts_behind 10 (behind 10 here)) (sym first)
          ∙ ap (λ (r : Option (List ℕ)). (p.lines ++ line ∷ []) ++ parts_behind 10 r) (sym others);
      written = p.written ++ written;
      plays = plays_more gives no_case p.lines p.written mid line written z p.plays plays;
      appended = appends_then held held' held'' p.written written p.appended appended;
    }

-- at the end all were
pub played_all : (gives : CaseState → Outcome → Type 0) (text : List ℕ) (rest : Option (List ℕ))
    (held held' : Option (List ℕ)) (z : CaseState) → Playing gives text rest held held' z → rest ≡ None
    → PlayedAllCases gives (lines_of text) held held'
played_all gives text rest held held' z p none = record {
  written = p.written;
  last = z;
  plays = subst (λ (l : List (List ℕ)). PlaysCaseLines gives no_case l p.written z)
      (sym (p.parts ∙ ap (λ r. p.lines ++ parts_behind 10 r) none ∙ append-nil p.lines)) p.plays;
  appended = p.appended;
}

-- nothing was written behind it
stays : (held held' held'' : Option (List ℕ)) (written : List ℕ) → Appends held held' written
    → WritesNone held' held'' → Appends held held'' written
stays held held' held'' written before none =
    subst (λ (t : List ℕ). Appends held held'' t) (append-nil written)
    (appends_then held held' held'' written [] before none)

-- the next line stands behind those that were played
next_line : (gives : CaseState → Outcome → Type 0) (text here : List ℕ) (rest : Option (List ℕ)) (line : List ℕ)
    (held held' : Option (List ℕ)) (mid : CaseState)
    → (p : Playing gives text rest held held' mid) → rest ≡ Some here → line ≡ before 10 here
    → lines_of text ≡ p.lines ++ line ∷ parts_behind 10 (behind 10 here)
next_line gives text here rest line held held' mid p is first =
    p.parts ∙ ap (λ r. p.lines ++ parts_behind 10 r) is ∙ ap (λ (l : List (List ℕ)). p.lines ++ l) (parts_cut 10 here)
    ∙ ap (λ (w : List ℕ). p.lines ++ w ∷ parts_behind 10 (behind 10 here)) (sym first)

-- the next line is no directive
pub played_to : (gives : CaseState → Outcome → Type 0) (Refuses : List ℕ → Type 0) (text here : List ℕ)
    (rest : Option (List ℕ)) (line : List ℕ) (held held' held'' : Option (List ℕ)) (mid : CaseState)
    → Playing gives text rest held held' mid → rest ≡ Some here → line ≡ before 10 here → IsNoDirective mid line
    → WritesNone held' held'' → Refuses (refused_line mid line)
    → PlayedCasesTo gives Refuses (lines_of text) held held''
played_to gives Refuses text here rest line held held' held'' mid p is first wrong none refused = record {
  front = p.lines;
  line = line;
  others = parts_behind 10 (behind 10 here);
  parts = next_line gives text here rest line held held' mid p is first;
  written = p.written;
  last = mid;
  plays = p.plays;
  wrong = wrong;
  appended = stays held held' held'' p.written p.appended none;
  refused = refused;
}

-- a fault or want of memory came in the next line
pub played_some : (gives : CaseState → Outcome → Type 0) (text here : List ℕ) (rest : Option (List ℕ)) (line : List ℕ)
    (held held' held'' : Option (List ℕ)) (mid : CaseState) (e : OutError)
    → Playing gives text rest held held' mid → rest ≡ Some here → line ≡ before 10 here
    → StopsPlay gives mid line held' held'' e → PlayedSomeCases gives (lines_of text) held held'' e
played_some gives text here rest line held held' held'' mid e p is first stops = record {
  front = p.lines;
  line = line;
  others = parts_behind 10 (behind 10 here);
  parts = next_line gives text here rest line held held' mid p is first;
  written = p.written;
  last = mid;
  plays = p.plays;
  between = held';
  appended = p.appended;
  stops = stops;
}

-- at first none was played
pub playing_none : (gives : CaseState → Outcome → Type 0) (text : List ℕ) (held : Option (List ℕ))
    → Playing gives text (Some text) held held no_case
playing_none gives text held = record {
  lines = [];
  parts = refl;
  written = [];
  plays =
      (refl, refl);
  appended = appends_none held;
}

-- ---- a line

-- a run that was written, as a line that is played
pub runs : (gives : CaseState → Outcome → Type 0) (c : CaseState) (line : List ℕ) (held held' : Option (List ℕ))
    (z : CaseState) → asks_run c line ≡ true → RunsOrStops gives c held held' z (Ok tt)
    → PlaysOrStops gives c line held held' z (Ok true)
runs gives c line held held' z asks (outcome, given, (text, shows, appended), after) =
    (text, inl (record { asks = asks; outcome = outcome; given = given; shows = shows; after = after }), appended)

-- one that was not written whole
in_part : (gives : CaseState → Outcome → Type 0) (c : CaseState) (line : List ℕ) (held held' : Option (List ℕ))
    → asks_run c line ≡ true → RunsInPart gives c held held' → PlaysInPart gives c line held held'
in_part gives c line held held' asks r = record {
  written = r.text;
  last = ran c r.outcome.log.items;
  plays = inl (record { asks = asks; outcome = r.outcome; given = r.given; shows = r.shows; after = refl });
  count = r.count;
  cut = r.cut;
  appended = r.appended;
}

pub stops : (gives : CaseState → Outcome → Type 0) (c : CaseState) (line : List ℕ) (held held' : Option (List ℕ))
    (z : CaseState) (e : OutError) → asks_run c line ≡ true → RunsOrStops gives c held held' z (Err e)
    → StopsPlay gives c line held held' e
stops gives c line held held' z Failed asks r = in_part gives c line held held' asks r
stops gives c line held held' z NoMemory asks (inl none) = inl none
stops gives c line held held' z NoMemory asks (inr r) = inr (in_part gives c line held held' asks r)

-- a run whose text was cut short by this
pub run_cut : (gives : CaseState → Outcome → Type 0) (c : CaseState) (held held' : Option (List ℕ)) (z : CaseState)
    (e : OutError) → RunsInPart gives c held held' → RunsOrStops gives c held held' z (Err e)
run_cut gives c held held' z Failed r = r
run_cut gives c held held' z NoMemory r = inr r

-- a line that says something, or is no directive
pub says : (gives : CaseState → Outcome → Type 0) (c : CaseState) (line : List ℕ) (held : Option (List ℕ))
    (z : CaseState) (known : Bool) → asks_run c line ≡ false → SaysOfCase (said c line) c z known
    → PlaysOrStops gives c line held held z (Ok known)
says gives c line held z true asks is =
    ([], inr (record { asks = asks; says = is; nothing = refl }), appends_none held)
says gives c line held z false asks (none, same) = (record { asks = asks; says = none }, same, appends_none held)

-- nothing was written for want of memory
pub unwritten : (held : Option (List ℕ)) (faults b : ℕ) (text : List ℕ)
    → WritesLine held held faults faults (b ∷ text)
unwritten held faults b text = record {
  answer = Err NoMemory;
  bytes =
      (0, omega arith, appends_none held);
  cause = record { counted = λ e. absurd (cc); uncounted = λ _. refl };
}
