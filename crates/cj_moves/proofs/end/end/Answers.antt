use Rattle.std.proofs.Common.{ap, sym, ◌∙◌}
use Rattle.cj_state.proofs.Common.{WorldState, eq-eqb, is_entry_of}
use Rattle.cj_moves.proofs.end.end.Goals as goal

pub end_entry-requires-clause-waits : goal.end_entry-requires-clause-waits
end_entry-requires-clause-waits g c = let e = c.waiting-session.ensures in ap (is_entry_of c.waiting-session.result) e.1 ∙ eq-eqb e.0.session c.waiting-session.result (sym e.2)

pub returns-clause-moves : goal.returns-clause-moves
returns-clause-moves g c =
    let e = c.waiting-session.ensures in
    (e.0, e.1, e.2, c.reply-reply.ensures e.0 e.1, ap (λ (w : WorldState). w.core) c.end_entry.ensures)
