-- The replies in a script's lines are turns.
use Rattle.std.proofs.Common.{◌≡◌, ℕ, ◌+◌, ◌<◌, ◌≤◌, ◌^◌, Bool, List, [], ◌∷◌, ◌++◌, length, take, drop, All, Option, None, Err, inl, inr, sym, ap, subst, ◌∙◌, arith, append-nil, codes}
use Rattle.cj_core.proofs.Common.{All-cons, All-nil, IsWorld, LogView, SessionView, WorldState, take_all, with_log}
use Rattle.std.proofs.lemmas.List.Quantifiers.{position-Some}
use Rattle.std.proofs.Math.Seq.{take-append_seam, drop-append_seam}
use Rattle.cj_script.proofs.Common.{Appends, bytes_eq, Consumes, flat_map, flat_map-cons, most, Move, ReaderState, ScriptEnd}
use Rattle.cj_outside.proofs.Joined.{appends_then, appends_more}
use Rattle.cj_cluster.specs.declared.moves.Move.TheVariants.{Open, Close, Schedule, Abort, Apply, End, Read, Arm, Disable, Replay, Enable, Mark, Dump, Load}
use Rattle.cj_state.proofs.Common.{Core, faults_after, faults_of, session_at}
use Rattle.cj_cluster.specs.Moves.Runs.{RunsMoves, IsBetweenReplies, IsChained, IsMoveOfCluster, CanCountRequests}
use Rattle.cj_cluster.specs.Script.Lines.{MoveLine, NamesBackend, moved_lines}
use Rattle.cj_cluster.proofs.Chains.{run_chained}
use Rattle.cj_script.specs.declared.play.ScriptEnd.TheVariants.{Done, Line as Line', ReadFault, WriteFault, Spent, NoMemory}
use Rattle.cj_script.specs.Script.{audit_line, filled, moves_in, given_in, step_lines, faults_through, log_faults_through, AreSteps, MakesInPart, PlaysLine, Plays, InTurns, Step}
use Rattle.cj_words.specs.LinesInBytes.{LieIn}
use Rattle.cj_words.proofs.LinesInBytes.{longer}
use Rattle.cj_script.specs.Script.Step.{Moves, Audits}
use Rattle.cj_script.specs.Steps.{ReadsLine, Starves, DoesNothing, PlaysOrEnds}
use Rattle.cj_script.proofs.Filled.{filled_audit, filled_empty, filled_move, filled_more}
use Rattle.cj_script.proofs.Playing.{plays_more, Playing, AtLine}

-- ---- lines as steps

-- what the lines played, as a list of steps
record StepsOf (tells : Bool) (names : List (List ℕ)) (c : WorldState) (lines : List (List ℕ)) (written : List ℕ) (z : WorldState) : Type 0 where
  steps : List Step
  are : AreSteps names (filled lines) steps
  runs : RunsMoves tells c.core (moves_in steps) (given_in steps) z.core
  causes : faults_of z.cells ≡ faults_through (faults_of c.cells) steps
  log_causes : z.recovery_log.faults ≡ log_faults_through c.recovery_log.faults steps
  gives : written ≡ flat_map (step_lines names) steps

-- an audit, which left the core as it was, and the lines behind it
audit_on : (tells : Bool) (names : List (List ℕ)) (c : WorldState) (line : List ℕ) (lines : List (List ℕ)) (mid : WorldState) (front rest : List ℕ) (z : WorldState) (failed : Option ℕ)
    → line ≡ audit_line → mid.core ≡ c.core → faults_of mid.cells ≡ faults_after (faults_of c.cells) failed → mid.recovery_log ≡ c.recovery_log → StepsOf tells names mid lines rest z → StepsOf tells names c (line ∷ lines) (front ++ rest) z
audit_on tells names c line lines mid front rest z failed is core faults log later = record {
  steps = Audits failed front ∷ later.steps;
  are = subst (λ (ls : List (List ℕ)). AreSteps names ls (Audits failed front ∷ later.steps)) (sym (filled_audit line lines is)) (is, later.are);
  runs = subst (λ (x : Core). RunsMoves tells x (moves_in later.steps) (given_in later.steps) z.core) core later.runs;
  causes = later.causes ∙ ap (λ (counts : List ℕ). faults_through counts later.steps) faults;
  log_causes = later.log_causes ∙ ap (λ (l : LogView). log_faults_through l.faults later.steps) log;
  gives = ap (λ (t : List ℕ). front ++ t) later.gives ∙ sym (flat_map-cons (step_lines names) (Audits failed front) later.steps);
}

-- a line, and those behind it
steps_on : (tells armable : Bool) (names : List (List ℕ)) (c : WorldState) (line : List ℕ) (lines : List (List ℕ)) (mid : WorldState) (front rest : List ℕ) (z : WorldState)
    → PlaysLine tells armable names c line front mid → StepsOf tells names mid lines rest z → StepsOf tells names c (line ∷ lines) (front ++ rest) z
steps_on tells armable names c line lines mid front rest z (inl skips) later = record {
  steps = later.steps;
  are = subst (λ (ls : List (List ℕ)). AreSteps names ls later.steps) (sym (filled_empty line lines skips.empty)) later.are;
  runs = subst (λ (x : WorldState). RunsMoves tells x.core (moves_in later.steps) (given_in later.steps) z.core) skips.same later.runs;
  causes = later.causes ∙ ap (λ (x : WorldState). faults_through (faults_of x.cells) later.steps) skips.same;
  log_causes = later.log_causes ∙ ap (λ (x : WorldState). log_faults_through x.recovery_log.faults later.steps) skips.same;
  gives = ap (λ (t : List ℕ). t ++ rest) skips.nothing ∙ later.gives;
}
steps_on tells armable names c line lines mid front rest z (inr (inl makes)) later = record {
  steps = Moves makes.move makes.made ∷ later.steps;
  are = subst (λ (ls : List (List ℕ)). AreSteps names ls (Moves makes.move makes.made ∷ later.steps)) (sym (filled_move names line lines makes.move makes.reads)) (makes.reads, later.are);
  runs = (mid.core, makes.moves, later.runs);
  causes = later.causes ∙ ap (λ (faults : List ℕ). faults_through faults later.steps) makes.causes;
  log_causes = later.log_causes ∙ ap (λ (n : ℕ). log_faults_through n later.steps) makes.log_causes;
  gives =
      ap (λ (t : List ℕ). t ++ rest) makes.gives
      ∙ ap (λ (t : List ℕ). moved_lines names makes.made ++ t) later.gives ∙ sym (flat_map-cons (step_lines names) (Moves makes.move makes.made) later.steps);
}
steps_on tells armable names c line lines mid front rest z (inr (inr (is, inl later_on))) later =
    audit_on tells names c line lines mid front rest z None is (ap (λ (x : WorldState). x.core) later_on.same) (ap (λ (x : WorldState). faults_of x.cells) later_on.same) (ap (λ (x : WorldState). x.recovery_log) later_on.same) later
steps_on tells armable names c line lines mid front rest z (inr (inr (is, inr (failed, now)))) later =
    audit_on tells names c line lines mid front rest z failed is now.core now.faults now.recovery_log later

steps_of : (tells armable : Bool) (names : List (List ℕ)) (c : WorldState) (lines : List (List ℕ)) (written : List ℕ) (z : WorldState) → Plays tells armable names c lines written z → StepsOf tells names c lines written z
steps_of tells armable names c [] written z h = record { steps = []; are = tt; runs = ap (λ (x : WorldState). x.core) (sym h.1); causes = ap (λ (x : WorldState). faults_of x.cells) h.1; log_causes = ap (λ (x : WorldState). x.recovery_log.faults) h.1; gives = h.0 }
steps_of tells armable names c (line ∷ lines) written z (mid, front, rest, first, others, is) =
    subst (λ (t : List ℕ). StepsOf tells names c (line ∷ lines) t z) (sym is) (steps_on tells armable names c line lines mid front rest z first (steps_of tells armable names mid lines rest z others))

-- ---- what the moves ask for

-- a backend that is named is there
named_within : (names : List (List ℕ)) (n : ℕ) (line verb : List ℕ) (b : ℕ) → length names ≡ n → NamesBackend names line verb b → b < n
named_within names n line verb b as_many (name, is, e) = subst (λ (k : ℕ). b < k) as_many (position-Some (bytes_eq name) names b [] is.named).0

line_move : (names : List (List ℕ)) (n : ℕ) (line : List ℕ) (m : Move) → length names ≡ n → MoveLine names line m → IsMoveOfCluster n m
line_move names n line (Open user) as_many (is, e) = is.short
line_move names n line (Close s) as_many h = tt
line_move names n line (Schedule s r) as_many (number, sql, is, write, e) = (record { plain = write.sql.plain; text = sql; reads = write.sql.reads }, write.for_log)
line_move names n line (Abort tx) as_many h = tt
line_move names n line (Apply b) as_many h = named_within names n line (codes "apply") b as_many h
line_move names n line End as_many h = tt
line_move names n line (Read s b select) as_many (number, name, sql, is, named, reads, e) = (
  subst (λ (k : ℕ). b < k) as_many (position-Some (bytes_eq name) names b [] named.named).0,
  record { plain = reads.plain; text = sql; reads = reads.reads },
)
line_move names n line (Arm b) as_many h = named_within names n line (codes "arm") b as_many h
line_move names n line (Disable b) as_many h = named_within names n line (codes "disable") b as_many h
line_move names n line (Replay b) as_many h = named_within names n line (codes "replay") b as_many h
line_move names n line (Enable b) as_many h = named_within names n line (codes "enable") b as_many h
line_move names n line (Mark name) as_many h = h.0
line_move names n line (Dump b name) as_many (backend, is, named, e) = (subst (λ (k : ℕ). b < k) as_many (position-Some (bytes_eq backend) names b [] is.named).0, named)
line_move names n line (Load b name) as_many (backend, is, named, e) = (subst (λ (k : ℕ). b < k) as_many (position-Some (bytes_eq backend) names b [] is.named).0, named)

lines_move : (names : List (List ℕ)) (n : ℕ) (lines : List (List ℕ)) (steps : List Step) → length names ≡ n → AreSteps names lines steps → All (IsMoveOfCluster n) (moves_in steps)
lines_move names n [] [] as_many h = All-nil (IsMoveOfCluster n)
lines_move names n (line ∷ lines) (Moves m made ∷ steps) as_many h =
    All-cons (IsMoveOfCluster n) m (moves_in steps) (line_move names n line m as_many h.0) (lines_move names n lines steps as_many h.1)
lines_move names n (line ∷ lines) (Audits failed text ∷ steps) as_many h = lines_move names n lines steps as_many h.1
lines_move names n [] (step ∷ steps) as_many h = absurd h
lines_move names n (line ∷ lines) [] as_many h = absurd h

-- there are at most as many as lines
moves_length : (names : List (List ℕ)) (lines : List (List ℕ)) (steps : List Step) → AreSteps names lines steps → length (moves_in steps) ≤ length lines
moves_length names [] [] h = omega arith
moves_length names (line ∷ lines) (Moves m made ∷ steps) h = let rest = moves_length names lines steps h.1 in omega arith
moves_length names (line ∷ lines) (Audits failed text ∷ steps) h = let rest = moves_length names lines steps h.1 in omega arith
moves_length names [] (step ∷ steps) h = absurd h
moves_length names (line ∷ lines) [] h = absurd h

-- ---- turns

module _ (tells armable : Bool) (names : List (List ℕ)) (c : WorldState) (world : IsWorld tells c) (as_many : length names ≡ c.core.placement.backends) (can : CanCountRequests c.core (2 ^ 61)) where
  -- lines that lie in the bytes taken
  in_turns : (left left' held held' : Option (List ℕ)) (taken : List ℕ) (lines : List (List ℕ)) (rest written : List ℕ) (count : ℕ) (z : WorldState) → Consumes left left' taken → LieIn left' taken lines rest
      → Plays tells armable names c lines written z → length (filled lines) ≤ 2 ^ 61 → Appends held held' (take count written) → InTurns tells names left left' held held' c z
  in_turns left left' held held' taken lines rest written count z consumed lie plays few appended =
      let q = steps_of tells armable names c lines written z plays in
      let same = moves_length names (filled lines) q.steps q.are in
      let once : CanCountRequests c.core (length (moves_in q.steps)) = λ s. (let room = can s in let le : (session_at c.core s).requests + length (moves_in q.steps) ≤ 2 ^ 62 = omega arith in le) in
      record {
        taken = taken;
        lines = lines;
        rest = rest;
        consumed = consumed;
        lie = lie;
        steps = q.steps;
        are = q.are;
        count = count;
        appended = subst (λ (t : List ℕ). Appends held held' (take count t)) q.gives appended;
        runs = q.runs;
        chains = run_chained tells c.core (moves_in q.steps) (given_in q.steps) z.core world.sound (lines_move names c.core.placement.backends (filled lines) q.steps as_many q.are) once q.runs;
        causes = q.causes;
        log_causes = q.log_causes;
      }

  -- between two lines
  playing_turns : (left left' held held' : Option (List ℕ)) (rest : List ℕ) (bytes count : ℕ) (z : WorldState) → Playing tells armable names left left' held held' c rest bytes count z → bytes ≤ most → InTurns tells names left left' held held' c z
  playing_turns left left' held held' rest bytes count z p le =
      let few : length (filled p.lines) ≤ 2 ^ 61 = omega (arith, p.few) in
      let whole : length p.played.written ≤ length p.played.written = omega arith in
      in_turns left left' held held' p.taken p.lines rest p.played.written (length p.played.written) z p.played.consumed p.played.lie p.played.plays few
      (subst (Appends held held') (sym (take_all (length p.played.written) p.played.written whole)) p.played.appended)

  -- a line that was made, with what it gives written in part
  made_turns : (left left' held held' held'' : Option (List ℕ)) (line rest : List ℕ) (bytes count : ℕ) (mid z : WorldState) → AtLine tells armable names left left' held held' c line rest bytes count mid → bytes ≤ most
      → MakesInPart tells armable names held' held'' mid line z → InTurns tells names left left' held held'' c z
  made_turns left left' held held' held'' line rest bytes count mid z at le makes =
      let p = at.playing in
      let first : PlaysLine tells armable names mid line makes.whole z = inr makes.makes in
      let more = filled_more tells armable names mid p.lines line makes.whole z (length rest) bytes first (omega (arith, p.few, at.shorter)) in
      let few : length (filled (p.lines ++ line ∷ [])) ≤ 2 ^ 61 = omega arith in
      let n : ℕ = length p.played.written in
      let text : List ℕ = p.played.written ++ makes.whole in
      let front : Appends held held' (take n text) = subst (Appends held held') (sym (take-append_seam p.played.written makes.whole)) p.played.appended in
      let behind : Appends held' held'' (take makes.count (drop n text)) =
      subst (λ (t : List ℕ). Appends held' held'' (take makes.count t)) (sym (drop-append_seam p.played.written makes.whole)) makes.appended
      in
      in_turns left left' held held'' p.taken (p.lines ++ line ∷ []) rest text (n + makes.count) z p.played.consumed at.behind
      (plays_more tells armable names c p.lines p.played.written mid line makes.whole z p.played.plays first) few (appends_more held held' held'' n makes.count text front behind)

-- more was taken
turns_longer : (tells : Bool) (names : List (List ℕ)) (left mid left' held held' : Option (List ℕ)) (c z : WorldState) (more : List ℕ) → InTurns tells names left mid held held' c z → Consumes mid left' more
    → InTurns tells names left left' held held' c z
turns_longer tells names left mid left' held held' c z more q next =
    let l = longer left mid left' q.taken q.lines q.rest more q.consumed q.lie next in
    record {
      taken = l.whole;
      lines = q.lines;
      rest = q.rest ++ more;
      consumed = l.consumed;
      lie = l.lie;
      steps = q.steps;
      are = q.are;
      count = q.count;
      appended = q.appended;
      runs = q.runs;
      chains = q.chains;
      causes = q.causes;
      log_causes = q.log_causes;
    }

-- nothing was done, but that bytes behind the items of the log may be left, and nothing written
turns_stay : (tells : Bool) (names : List (List ℕ)) (left left' held held' held'' : Option (List ℕ)) (c mid z : WorldState) → InTurns tells names left left' held held' c mid → Starves held' held'' mid z
    → InTurns tells names left left' held held'' c z
turns_stay tells names left left' held held' held'' c mid z q stays =
    let text : List ℕ = take q.count (flat_map (step_lines names) q.steps) in
    let core : mid.core ≡ z.core = sym (ap (λ (x : WorldState). x.core) stays.same) in
    record {
      taken = q.taken;
      lines = q.lines;
      rest = q.rest;
      consumed = q.consumed;
      lie = q.lie;
      steps = q.steps;
      are = q.are;
      count = q.count;
      appended = subst (Appends held held'') (append-nil text) (appends_then held held' held'' text [] q.appended stays.nothing);
      runs = subst (RunsMoves tells c.core (moves_in q.steps) (given_in q.steps)) core q.runs;
      chains = subst (λ (x : Core). (s : ℕ) (a : SessionView) → 0 < s → IsBetweenReplies a c.core s → IsChained tells s c.core (moves_in q.steps) (given_in q.steps) x a) core q.chains;
      causes = ap (λ (x : WorldState). faults_of x.cells) stays.same ∙ q.causes;
      log_causes = stays.log_faults ∙ q.log_causes;
    }

-- where nothing at all was done
starves_none : (held held' : Option (List ℕ)) (c z : WorldState) → DoesNothing held held' c z → Starves held held' c z
starves_none held held' c z stays = record { same = stays.0 ∙ ap (λ (x : WorldState). with_log c x.recovery_log) (sym stays.0); log_faults = ap (λ (x : WorldState). x.recovery_log.faults) stays.0; nothing = stays.1 }

-- ---- ends

-- some bytes were taken in place of a line
end_takes : (left left' : Option (List ℕ)) (old new : ReaderState) (number : ℕ) (last : ScriptEnd) → ReadsLine left left' old new number (Err last) → (bytes : List ℕ) × Consumes left left' bytes
end_takes left left' old new number Done (bytes, took, none) = (bytes, took.consumed)
end_takes left left' old new number (Line' n) (same, (bytes, took, came)) = (bytes, took.consumed)
end_takes left left' old new number ReadFault (bytes, took, none) = (bytes, took.consumed)
end_takes left left' old new number WriteFault none = absurd none
end_takes left left' old new number Spent (bytes, took, none) = (bytes, took.consumed)
end_takes left left' old new number NoMemory (bytes, took) = (bytes, took)

module _ (tells armable : Bool) (names : List (List ℕ)) (c : WorldState) (world : IsWorld tells c) (as_many : length names ≡ c.core.placement.backends) (can : CanCountRequests c.core (2 ^ 61)) where
  -- in place of a line the script came to its end
  pub read_end_turns : (left mid left' held held' : Option (List ℕ)) (old new : ReaderState) (count number : ℕ) (z : WorldState) (last : ScriptEnd) → Playing tells armable names left mid held held' c old.rest old.taken count z
      → old.taken ≤ most → ReadsLine mid left' old new number (Err last) → InTurns tells names left left' held held' c z
  read_end_turns left mid left' held held' old new count number z last p le reads =
      let more = end_takes mid left' old new number last reads in
      turns_longer tells names left mid left' held held' c z more.0 (playing_turns tells armable names c world as_many can left mid held held' old.rest old.taken count z p le) more.1

  -- in a line the script came to its end
  pub play_end_turns : (left left' held held' held'' : Option (List ℕ)) (line rest : List ℕ) (bytes count number : ℕ) (mid z : WorldState) (last : ScriptEnd) → AtLine tells armable names left left' held held' c line rest bytes count mid
      → bytes ≤ most → PlaysOrEnds tells armable names held' held'' mid line number (Err last) z → InTurns tells names left left' held held'' c z
  play_end_turns left left' held held' held'' line rest bytes count number mid z Done at le none = absurd none
  play_end_turns left left' held held' held'' line rest bytes count number mid z (Line' n) at le (same, refuses) =
      turns_stay tells names left left' held held' held'' c mid z (playing_turns tells armable names c world as_many can left left' held held' at.whole bytes count mid at.playing le) (starves_none held' held'' mid z refuses.stays)
  play_end_turns left left' held held' held'' line rest bytes count number mid z ReadFault at le none = absurd none
  play_end_turns left left' held held' held'' line rest bytes count number mid z WriteFault at le makes = made_turns tells armable names c world as_many can left left' held held' held'' line rest bytes count mid z at le makes
  play_end_turns left left' held held' held'' line rest bytes count number mid z Spent at le none = absurd none
  play_end_turns left left' held held' held'' line rest bytes count number mid z NoMemory at le (inl starves) =
      turns_stay tells names left left' held held' held'' c mid z (playing_turns tells armable names c world as_many can left left' held held' at.whole bytes count mid at.playing le) starves
  play_end_turns left left' held held' held'' line rest bytes count number mid z NoMemory at le (inr makes) = made_turns tells armable names c world as_many can left left' held held' held'' line rest bytes count mid z at le makes
