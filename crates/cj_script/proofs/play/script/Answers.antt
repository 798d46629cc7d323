use Rattle.std.proofs.Common.{◌+◌, Ok, Err, ap, ◌∙◌, refl, length, arith}
use Rattle.cj_state.specs.Worlds.{Setup}
use Rattle.cj_script.proofs.Moving.{counting_start, counting_played, plays_as}
use Rattle.cj_script.proofs.InTurns.{read_end_turns, play_end_turns}
use Rattle.cj_script.proofs.Playing.{playing_none, read_end, play_end, text_came, line_played}
use Rattle.cj_script.proofs.play.script.Goals as goal

pub loop-line-init : goal.loop-line-init
loop-line-init g c =
    let none = ap (λ r. r.rest) c.new-lines.ensures in
    let zero = ap (λ r. r.taken) c.new-lines.ensures in
    record {
      playing =
          playing_none g.B.Backend.tells g.B.Backend.can_be_armed c.args.world.now.setup.names (g.I.Source.left c.args.input.now) (g.O.Sink.held c.args.output.now) c.args.world.now c.new-lines.result.rest c.new-lines.result.taken none
          zero;
      few = omega (arith, zero);
      numbers = omega (arith, zero, ap length none);
      counting = counting_start c.new-lines.result.rest c.new-lines.result.taken c.args.world.now none zero c.requires;
      setup = refl;
      input = refl;
      output = refl;
    }

pub returns-in-Err-clause-came : goal.returns-in-Err-clause-came
returns-in-Err-clause-came g c =
    let left = g.I.Source.left in
    let held = g.O.Sink.held in
    read_end g.B.Backend.tells g.B.Backend.can_be_armed c.args.world.now.setup.names (left c.args.input.now) (left c.loop-line.input) (left c.read_line.new.input) (held c.args.output.now) (held c.loop-line.output)
    c.args.world.now c.loop-line.lines c.read_line.new.lines c.loop-line.number (c.loop-line.number + 1) c.loop-line.world c.in-Err.end c.loop-line.invariant.playing refl c.in-Err.ensures.bytes

pub returns-in-Err-play_line-clause-came : goal.returns-in-Err-play_line-clause-came
returns-in-Err-play_line-clause-came g c =
    let left = g.I.Source.left in
    let held = g.O.Sink.held in
    let came =
    text_came g.B.Backend.tells g.B.Backend.can_be_armed c.args.world.now.setup.names (left c.args.input.now) (left c.loop-line.input) (left c.read_line.new.input) (held c.args.output.now) (held c.loop-line.output)
    c.args.world.now c.loop-line.lines c.read_line.new.lines c.loop-line.number (c.loop-line.number + 1) c.loop-line.world c.in-Ok.line c.loop-line.invariant.playing c.in-Ok.ensures.bytes
    in
    play_end g.B.Backend.tells g.B.Backend.can_be_armed c.args.world.now.setup.names (left c.args.input.now) (left c.read_line.new.input) (held c.args.output.now) (held c.loop-line.output) (held c.play_line.new.output)
    c.args.world.now c.in-Ok.line.items c.read_line.new.lines.rest c.read_line.new.lines.taken c.loop-line.number (c.loop-line.number + 1) c.loop-line.world c.play_line.new.world
    c.in-Err-play_line.end came.at came.short refl
    (plays_as g.B.Backend.tells g.B.Backend.can_be_armed c.loop-line.world.setup.names c.args.world.now.setup.names (held c.loop-line.output) (held c.play_line.new.output) c.loop-line.world c.deref.result.now
    c.in-Ok.line.items (c.loop-line.number + 1) (Err c.in-Err-play_line.end) c.play_line.new.world (ap (λ (s : Setup). s.names) c.loop-line.invariant.setup) c.deref.ensures.value c.in-Err-play_line.ensures.plays)

pub returns-in-Err-clause-turns : goal.returns-in-Err-clause-turns
returns-in-Err-clause-turns g c =
    let left = g.I.Source.left in
    let held = g.O.Sink.held in
    read_end_turns g.B.Backend.tells g.B.Backend.can_be_armed c.args.world.now.setup.names c.args.world.now c.legal.ensures.world c.legal.ensures.world.named c.requires (left c.args.input.now) (left c.loop-line.input) (left c.read_line.new.input)
    (held c.args.output.now) (held c.loop-line.output) c.loop-line.lines c.read_line.new.lines c.loop-line.number (c.loop-line.number + 1) c.loop-line.world c.in-Err.end c.loop-line.invariant.playing
    c.loop-line.invariant.few c.in-Err.ensures.bytes

pub returns-in-Err-play_line-clause-turns : goal.returns-in-Err-play_line-clause-turns
returns-in-Err-play_line-clause-turns g c =
    let left = g.I.Source.left in
    let held = g.O.Sink.held in
    let came =
    text_came g.B.Backend.tells g.B.Backend.can_be_armed c.args.world.now.setup.names (left c.args.input.now) (left c.loop-line.input) (left c.read_line.new.input) (held c.args.output.now) (held c.loop-line.output)
    c.args.world.now c.loop-line.lines c.read_line.new.lines c.loop-line.number (c.loop-line.number + 1) c.loop-line.world c.in-Ok.line c.loop-line.invariant.playing c.in-Ok.ensures.bytes
    in
    play_end_turns g.B.Backend.tells g.B.Backend.can_be_armed c.args.world.now.setup.names c.args.world.now c.legal.ensures.world c.legal.ensures.world.named c.requires (left c.args.input.now) (left c.read_line.new.input)
    (held c.args.output.now) (held c.loop-line.output) (held c.play_line.new.output)
    c.in-Ok.line.items c.read_line.new.lines.rest c.read_line.new.lines.taken c.loop-line.number (c.loop-line.number + 1) c.loop-line.world c.play_line.new.world
    c.in-Err-play_line.end came.at c.in-Ok.ensures.few
    (plays_as g.B.Backend.tells g.B.Backend.can_be_armed c.loop-line.world.setup.names c.args.world.now.setup.names (held c.loop-line.output) (held c.play_line.new.output) c.loop-line.world c.deref.result.now
    c.in-Ok.line.items (c.loop-line.number + 1) (Err c.in-Err-play_line.end) c.play_line.new.world (ap (λ (s : Setup). s.names) c.loop-line.invariant.setup) c.deref.ensures.value c.in-Err-play_line.ensures.plays)

pub loop-line-smaller : goal.loop-line-smaller
loop-line-smaller g c =
    let left = g.I.Source.left in
    let held = g.O.Sink.held in
    let came =
    text_came g.B.Backend.tells g.B.Backend.can_be_armed c.args.world.now.setup.names (left c.args.input.now) (left c.loop-line.input) (left c.read_line.new.input) (held c.args.output.now) (held c.loop-line.output)
    c.args.world.now c.loop-line.lines c.read_line.new.lines c.loop-line.number (c.loop-line.number + 1) c.loop-line.world c.in-Ok.line c.loop-line.invariant.playing c.in-Ok.ensures.bytes
    in
    omega (arith, came.advances.some, c.in-Ok.ensures.few, c.loop-line.invariant.few)

pub loop-line-preserved : goal.loop-line-preserved
loop-line-preserved g c =
    let left = g.I.Source.left in
    let held = g.O.Sink.held in
    let came =
    text_came g.B.Backend.tells g.B.Backend.can_be_armed c.args.world.now.setup.names (left c.args.input.now) (left c.loop-line.input) (left c.read_line.new.input) (held c.args.output.now) (held c.loop-line.output)
    c.args.world.now c.loop-line.lines c.read_line.new.lines c.loop-line.number (c.loop-line.number + 1) c.loop-line.world c.in-Ok.line c.loop-line.invariant.playing c.in-Ok.ensures.bytes
    in
    let plays =
    plays_as g.B.Backend.tells g.B.Backend.can_be_armed c.loop-line.world.setup.names c.args.world.now.setup.names (held c.loop-line.output) (held c.play_line.new.output) c.loop-line.world c.deref.result.now
    c.in-Ok.line.items (c.loop-line.number + 1) (Ok tt) c.play_line.new.world (ap (λ (s : Setup). s.names) c.loop-line.invariant.setup) c.deref.ensures.value c.in_default.ensures.plays
    in
    record {
      playing =
          line_played g.B.Backend.tells g.B.Backend.can_be_armed c.args.world.now.setup.names (left c.args.input.now) (left c.read_line.new.input) (held c.args.output.now) (held c.loop-line.output) (held c.play_line.new.output)
          c.args.world.now c.in-Ok.line.items c.read_line.new.lines.rest c.read_line.new.lines.taken c.loop-line.number c.loop-line.world c.play_line.new.world came.at came.short plays;
      few = c.in-Ok.ensures.few;
      numbers = omega (arith, c.loop-line.invariant.numbers, came.advances.some);
      counting =
          counting_played g.B.Backend.tells g.B.Backend.can_be_armed c.args.world.now.setup.names (held c.loop-line.output) (held c.play_line.new.output) c.loop-line.lines c.read_line.new.lines c.in-Ok.line.items c.loop-line.world
          c.play_line.new.world c.loop-line.invariant.counting came.advances c.in-Ok.ensures.few plays;
      setup = c.in_default.ensures.setup ∙ c.loop-line.invariant.setup;
      input = c.in-Ok.ensures.cause.uncounted (λ failed. cc) ∙ c.loop-line.invariant.input;
      output = c.in_default.ensures.cause.uncounted (λ failed. cc) ∙ c.loop-line.invariant.output;
    }
