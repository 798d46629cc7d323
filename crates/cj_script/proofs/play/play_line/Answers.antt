use Rattle.std.proofs.Common.{◌≡◌, ℕ, List, Result, inl, sym, ap, subst, ◌∙◌}
use Rattle.cj_script.proofs.Common.{DoesLine, moved_lines, MoveLine, PlaysOrEnds, ScriptEnd, Setup}
use Rattle.cj_words.specs.Words.{FindsValue}
use Rattle.cj_script.proofs.Auditing.{done_or_ends}
use Rattle.cj_script.proofs.play.play_line.Goals as goal

pub returns-clause-plays : goal.returns-clause-plays
returns-clause-plays g c =
    let tells = g.B.Backend.tells in
    let can = g.B.Backend.can_be_armed in
    let held = g.O.Sink.held c.args.output.now in
    let held' = g.O.Sink.held c.write_made.new.output in
    let w = c.args.world.now in
    let z = c.make.new.self in
    let first : c.names.result.now ≡ w.setup.names = c.names.ensures ∙ c.placement.ensures.names in
    let same : c.names-2.result.now ≡ w.setup.names = c.names-2.ensures ∙ (c.placement-2.ensures.names ∙ ap (λ (s : Setup). s.names) c.in-Ok.ensures.setup) in
    let found = subst (FindsValue (MoveLine c.names.result.now c.args.line.now)) c.in-Ok-Some.field-0-is c.in-Ok-Some.ensures in
    let does : DoesLine tells can w.setup.names w c.args.line.now (moved_lines c.names-2.result.now c.in-Ok.made) z =
    inl (record {
      move = c.in-Ok-Some.m;
      reads = subst (λ (names : List (List ℕ)). MoveLine names c.args.line.now c.in-Ok-Some.m) first found.0;
      made = c.in-Ok.made;
      moves = c.in-Ok.ensures.made;
      causes = c.in-Ok.ensures.causes;
      log_causes = c.in-Ok.ensures.log_causes;
      armings = c.in-Ok.ensures.armings;
      logins = c.in-Ok.ensures.logins;
      gives = ap (λ (names : List (List ℕ)). moved_lines names c.in-Ok.made) same;
    })
    in
    subst (λ (r : Result (Unit {0}) ScriptEnd). PlaysOrEnds tells can w.setup.names held held' w c.args.line.now c.args.number r z) (sym c.written_or_end.ensures)
    (done_or_ends tells can w.setup.names held held' w c.args.line.now c.args.number (moved_lines c.names-2.result.now c.in-Ok.made) z c.write_made.result does c.write_made.ensures.bytes)
