use Rattle.std.proofs.Common.{ℕ, List, Result, inl, inr, refl, sym, ap, subst}
use Rattle.cj_script.proofs.Common.{audit_line, DoesLine, PlaysOrEnds, ScriptEnd}
use Rattle.cj_cluster.specs.declared.moves.Reason.TheVariants.{EntryOpen}
use Rattle.cj_cluster.specs.History.Histories.{is_free}
use Rattle.cj_cluster.specs.Script.Lines.{not_now_text, with_line_feed}
use Rattle.cj_script.proofs.Auditing.{done_or_ends, not_idle}
use Rattle.cj_script.proofs.play.play_audit.Goals as goal

pub returns-in-Some-clause-plays : goal.returns-in-Some-clause-plays
returns-in-Some-clause-plays g c number =
    let tells = g.B.Backend.tells in
    let can = g.B.Backend.can_be_armed in
    let held = g.O.Sink.held c.args.output.now in
    let held' = g.O.Sink.held c.write_made.new.output in
    let w = c.args.world.now in
    let text : ℕ → List ℕ = λ n. with_line_feed (not_now_text (record { reason = EntryOpen; value = n })) in
    let does : DoesLine tells can w.setup.names w audit_line (text c.in-Some.number) w =
    inr (refl, inl (record { runs = not_idle (is_free w.core.history) c.in-Some.number c.in-Some.ensures.none; same = refl; gives = ap text c.in-Some.ensures.number }))
    in
    subst (λ (r : Result (Unit {0}) ScriptEnd). PlaysOrEnds tells can w.setup.names held held' w audit_line number r w) (sym c.written_or_end.ensures)
    (done_or_ends tells can w.setup.names held held' w audit_line number (text c.in-Some.number) w c.write_made.result does c.write_made.ensures.bytes)
