use Rattle.std.proofs.Common.{◌≡◌, ◌+◌, ◌%◌, ◌^◌, ◌≤◌, ℕ, None, get_or, sum, ap, sym, ◌∙◌, subst, arith}
use Rattle.cj_top.proofs.Cited.{IsLogOf, Lcg, ServesSession, SoloState, WorldState, client_state, desk_of, desk_tx, faults_of, generator_after, generator_of, log, of_generator, session_opened, quiet_log_session, quiet_session, seeded, session_answers, session_grows, solo_setting, transcript_chained, tx_of_unknown}
use Rattle.cj_top.proofs.piped.serve_one.Goals as goal

pub serve_session-end-requires-clause-closed : goal.serve_session-end-requires-clause-closed
serve_session-end-requires-clause-closed g c =
    let core = c.args.world.core in
    subst (λ (d : SoloState). desk_tx (desk_of d) ≡ 0) (sym c.in-Ok.ensures.opened)
    (tx_of_unknown (core.greatest + 1) (log core.history) (λ k d lt. let le = c.legal.ensures.world.sound.known k d lt in omega (arith, le)))

pub returns-clause-serves : goal.returns-clause-serves
returns-clause-serves g c =
    let tells = g.B.Backend.tells in
    let moment = g.C.Clock.moment c.args.clock.now in
    let end = c.serve_session-end in
    let number : c.session.result ≡ c.args.world.core.greatest + 1 = c.session.ensures ∙ ap (λ (d : SoloState). d.session) c.in-Ok.ensures.opened in
    let draw : c.new-draw.result ≡ generator_of c.args.seed (c.args.world.core.greatest + 1) =
    c.new-draw.ensures ∙ ap (λ (n : ℕ). seeded ((c.args.seed + n) % 2 ^ 64)) number
    in
    let from_desk =
    subst (λ (d : SoloState). ServesSession (solo_setting tells moment) (g.I.Source.left c.args.input.now) (g.I.Source.left end.new.input) (g.O.Sink.held c.args.output.now) (g.O.Sink.held end.new.output) (client_state None d c.new-draw.result) end.result end.new.desk end.new.draw)
    c.in-Ok.ensures.opened end.ensures.served
    in
    let served =
    subst (λ (d : Lcg). ServesSession (solo_setting tells moment) (g.I.Source.left c.args.input.now) (g.I.Source.left end.new.input) (g.O.Sink.held c.args.output.now) (g.O.Sink.held end.new.output) (client_state None (session_opened c.args.world) d) end.result end.new.desk end.new.draw)
    draw from_desk
    in
    record {
      desk = end.new.desk;
      draws = end.new.draw;
      served = served;
      turns =
          transcript_chained (solo_setting tells moment) tells (λ a x z h. h.0) (client_state None (session_opened c.args.world) (generator_of c.args.seed (c.args.world.core.greatest + 1))) served.taken served.written end.result
          end.new.desk end.new.draw served.transcript;
      blameless =
          λ same small.
          quiet_session tells of_generator (λ generator n. generator_after generator) moment (client_state None (session_opened c.args.world) (generator_of c.args.seed (c.args.world.core.greatest + 1))) served.taken
          served.written end.result end.new.desk end.new.draw served.transcript (sym (ap (λ (w : WorldState). sum (faults_of w.cells)) c.close.ensures) ∙ same) small;
      stored =
          λ same small.
          quiet_log_session tells of_generator (λ generator n. generator_after generator) moment (client_state None (session_opened c.args.world) (generator_of c.args.seed (c.args.world.core.greatest + 1))) served.taken
          served.written end.result end.new.desk end.new.draw served.transcript (sym (ap (λ (w : WorldState). w.recovery_log.faults) c.close.ensures) ∙ same) small;
      whole =
          λ by.
          session_answers (solo_setting tells moment) (client_state None (session_opened c.args.world) (generator_of c.args.seed (c.args.world.core.greatest + 1))) end.result end.new.desk end.new.draw (g.I.Source.left c.args.input.now)
          (g.I.Source.left end.new.input) (g.O.Sink.held c.args.output.now) (g.O.Sink.held end.new.output) served by;
      closed = c.close.ensures;
      grown =
          λ small k.
          subst (λ (w : WorldState). get_or (faults_of c.args.world.cells) k 0 ≤ get_or (faults_of w.cells) k 0) (sym c.close.ensures)
          (session_grows tells of_generator (λ generator n. generator_after generator) moment (client_state None (session_opened c.args.world) (generator_of c.args.seed (c.args.world.core.greatest + 1))) served.taken
          served.written end.result end.new.desk end.new.draw served.transcript small k);
    }

pub returns-in-Err-clause-left : goal.returns-in-Err-clause-left
returns-in-Err-clause-left g c =
    let s = g.S.Store in
    let left : IsLogOf s.faults s.held s.may s.tells c.in-Err.world c.into_log.result =
    record { counts = c.into_log.ensures.faults; bytes = c.into_log.ensures.bytes; kept = c.into_log.ensures.kept; stop = c.into_log.ensures.stop }
    in
    subst (λ (w : WorldState). IsLogOf s.faults s.held s.may s.tells w c.into_log.result) c.in-Err.ensures.full.2 left
