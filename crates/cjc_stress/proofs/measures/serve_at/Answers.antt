use Rattle.std.proofs.Common.{◌≡◌, ◌∙◌, ◌+◌, ◌<◌, List, [], All, Some, ap, sym, subst, arith}
use Rattle.cj_cluster.specs.declared.moves.OpenSession.{OpenSession}
use Rattle.cj_cluster.specs.History.Histories.{log}
use Rattle.cj_cluster.specs.Moves.Cores.{Core, find_session, new_session, session_at}
use Rattle.cj_cluster.proofs.OwnTransactions.{tx_of_unknown}
use Rattle.cj_core.specs.Solos.{SoloState, desk_of}
use Rattle.cj_core.proofs.Common.{All-nil, opened_for, session_at-is, session_of-push_same}
use Rattle.cj_desk.specs.DeskStates.{desk_tx}
use Rattle.cjc_stress.proofs.measures.serve_at.Goals as goal

-- a session that has just begun has made no request
none_asked : (c : Core) → c.sessions ≡ [] → (session_at (opened_for c []) (c.greatest + 1)).requests ≡ 0
none_asked c none =
    let y : OpenSession = new_session (c.greatest + 1) [] in
    let below : All (λ (x : OpenSession). x.number < y.number) c.sessions = subst (λ (l : List OpenSession). All (λ (x : OpenSession). x.number < y.number) l) (sym none) (All-nil (λ (x : OpenSession). x.number < y.number)) in
    let found : find_session (opened_for c []).sessions (c.greatest + 1) ≡ Some y = session_of-push_same c.sessions y below in
    ap (λ (x : OpenSession). x.requests) (session_at-is (opened_for c []) (c.greatest + 1) (Some y) found)

pub serve_timed-requires-clause-few : goal.serve_timed-requires-clause-few
serve_timed-requires-clause-few g c =
    let none = ap (λ (s : SoloState). (session_at s.world.core s.session).requests) c.in-Ok.ensures.opened ∙ none_asked c.args.world.core c.requires.fresh in
    omega (arith, none)

-- it has no transaction, since no entry of the log is its own
pub serve_timed-requires-clause-closed : goal.serve_timed-requires-clause-closed
serve_timed-requires-clause-closed g c =
    let core = c.args.world.core in
    subst (λ (d : SoloState). desk_tx (desk_of d) ≡ 0) (sym c.in-Ok.ensures.opened)
    (tx_of_unknown (core.greatest + 1) (log core.history) (λ k d lt. let le = c.legal.ensures.world.sound.known k d lt in omega (arith, le)))
