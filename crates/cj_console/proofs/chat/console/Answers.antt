use Rattle.std.proofs.Common.{ap, ◌∙◌, refl, sym, subst, arith}
use Rattle.std.proofs.lemmas.Bool.{false≢true}
use Rattle.cj_board.specs.Seats.{pass_view}
use Rattle.cj_pass.proofs.Passes.{seen_same, seen_then}
use Rattle.cj_console.specs.Chats.{GetsAnswer}
use Rattle.cj_console.proofs.Answering.{quit_done}
use Rattle.cj_console.proofs.Chatting.{chatting_none, line_chatted, quit_end, read_end, served_of, standing_at, taken_next, write_end}
use Rattle.cj_console.proofs.chat.console.Goals as goal

pub loop-line-init : goal.loop-line-init
loop-line-init g c =
    let none = ap (λ r. r.rest) c.new-lines.ensures in
    let zero = ap (λ r. r.taken) c.new-lines.ensures in
    let s = served_of g.B.Backend.tells g.D.Store.tells g.J.Naming.layout g.D.Store.held g.D.Store.faults in
    let a = standing_at (pass_view c.args.pass.now.seat) c.args.shelf.now in
    record {
      chatting = chatting_none s (g.I.Source.left c.args.input.now) (g.O.Sink.held c.args.output.now) a c.new-lines.result.rest c.new-lines.result.taken none zero;
      few = omega (arith, zero);
      seen = seen_same (pass_view c.args.pass.now.seat) (pass_view c.args.pass.now.seat) refl;
      legal = c.requires.legal;
      dumps = c.requires.dumps;
      input = refl;
      output = refl;
    }

pub returns-in-Err-clause-chats : goal.returns-in-Err-clause-chats
returns-in-Err-clause-chats g c =
    let left = g.I.Source.left in
    let held = g.O.Sink.held in
    let s = served_of g.B.Backend.tells g.D.Store.tells g.J.Naming.layout g.D.Store.held g.D.Store.faults in
    let a = standing_at (pass_view c.args.pass.now.seat) c.args.shelf.now in
    let mid = standing_at (pass_view c.loop-line.pass.seat) c.loop-line.shelf in
    read_end s (left c.args.input.now) (held c.args.output.now) a (left c.loop-line.input) (left c.read_line.new.input) (held c.loop-line.output) c.loop-line.lines c.read_line.new.lines mid c.in-Err.end c.loop-line.invariant.chatting c.in-Err.ensures.bytes

pub returns-in-Err-write_answer-clause-chats : goal.returns-in-Err-write_answer-clause-chats
returns-in-Err-write_answer-clause-chats g c =
    let left = g.I.Source.left in
    let held = g.O.Sink.held in
    let s = served_of g.B.Backend.tells g.D.Store.tells g.J.Naming.layout g.D.Store.held g.D.Store.faults in
    let a = standing_at (pass_view c.args.pass.now.seat) c.args.shelf.now in
    let mid = standing_at (pass_view c.loop-line.pass.seat) c.loop-line.shelf in
    let came = taken_next s (left c.args.input.now) (held c.args.output.now) a (left c.loop-line.input) (left c.read_line.new.input) (held c.loop-line.output) c.loop-line.lines c.read_line.new.lines c.in-Ok.line mid c.loop-line.invariant.chatting c.in-Ok.ensures.bytes in
    let z = standing_at (pass_view c.answer_of-answer.new.pass.seat) c.answer_of-answer.new.shelf in
    let gets = c.answer_of-answer.ensures.answers came.text came.is in
    write_end s (left c.args.input.now) (held c.args.output.now) a (left c.read_line.new.input) (held c.loop-line.output) (held c.write_answer.new.output) c.loop-line.lines c.read_line.new.lines c.in-Ok.line mid z c.answer_of-answer.result
    c.in-Err-write_answer.end came gets c.in-Err-write_answer.ensures.bytes

pub returns-then-is_quit-clause-chats : goal.returns-then-is_quit-clause-chats
returns-then-is_quit-clause-chats g c =
    let left = g.I.Source.left in
    let held = g.O.Sink.held in
    let s = served_of g.B.Backend.tells g.D.Store.tells g.J.Naming.layout g.D.Store.held g.D.Store.faults in
    let a = standing_at (pass_view c.args.pass.now.seat) c.args.shelf.now in
    let mid = standing_at (pass_view c.loop-line.pass.seat) c.loop-line.shelf in
    let came = taken_next s (left c.args.input.now) (held c.args.output.now) a (left c.loop-line.input) (left c.read_line.new.input) (held c.loop-line.output) c.loop-line.lines c.read_line.new.lines c.in-Ok.line mid c.loop-line.invariant.chatting c.in-Ok.ensures.bytes in
    let z = standing_at (pass_view c.answer_of-answer.new.pass.seat) c.answer_of-answer.new.shelf in
    let gets = c.answer_of-answer.ensures.answers came.text came.is in
    let quit = (c.is_quit.ensures came.text came.is).0 c.if-is_quit.true in
    let does = quit_done s mid z c.answer_of-answer.result (subst (λ x. GetsAnswer s x mid z c.answer_of-answer.result) quit gets) in
    quit_end s (left c.args.input.now) (held c.args.output.now) a (left c.read_line.new.input) (held c.loop-line.output) (held c.write_answer.new.output) c.loop-line.lines c.read_line.new.lines c.in-Ok.line mid z c.answer_of-answer.result
    came does.0 does.1 c.in_default.ensures.bytes quit

pub loop-line-smaller-else-is_quit : goal.loop-line-smaller-else-is_quit
loop-line-smaller-else-is_quit g c =
    let left = g.I.Source.left in
    let held = g.O.Sink.held in
    let s = served_of g.B.Backend.tells g.D.Store.tells g.J.Naming.layout g.D.Store.held g.D.Store.faults in
    let a = standing_at (pass_view c.args.pass.now.seat) c.args.shelf.now in
    let mid = standing_at (pass_view c.loop-line.pass.seat) c.loop-line.shelf in
    let came = taken_next s (left c.args.input.now) (held c.args.output.now) a (left c.loop-line.input) (left c.read_line.new.input) (held c.loop-line.output) c.loop-line.lines c.read_line.new.lines c.in-Ok.line mid c.loop-line.invariant.chatting c.in-Ok.ensures.bytes in
    omega (arith, came.shorter, c.in-Ok.ensures.few, c.loop-line.invariant.few)

pub loop-line-preserved-else-is_quit : goal.loop-line-preserved-else-is_quit
loop-line-preserved-else-is_quit g c =
    let left = g.I.Source.left in
    let held = g.O.Sink.held in
    let s = served_of g.B.Backend.tells g.D.Store.tells g.J.Naming.layout g.D.Store.held g.D.Store.faults in
    let a = standing_at (pass_view c.args.pass.now.seat) c.args.shelf.now in
    let mid = standing_at (pass_view c.loop-line.pass.seat) c.loop-line.shelf in
    let came = taken_next s (left c.args.input.now) (held c.args.output.now) a (left c.loop-line.input) (left c.read_line.new.input) (held c.loop-line.output) c.loop-line.lines c.read_line.new.lines c.in-Ok.line mid c.loop-line.invariant.chatting c.in-Ok.ensures.bytes in
    let z = standing_at (pass_view c.answer_of-answer.new.pass.seat) c.answer_of-answer.new.shelf in
    let gets = c.answer_of-answer.ensures.answers came.text came.is in
    record {
      chatting =
          line_chatted s (left c.args.input.now) (held c.args.output.now) a (left c.read_line.new.input) (held c.loop-line.output) (held c.write_answer.new.output) c.loop-line.lines c.read_line.new.lines c.in-Ok.line mid z
          c.answer_of-answer.result came gets c.in_default.ensures.bytes (λ quit. false≢true (sym c.if-is_quit.false ∙ (c.is_quit.ensures came.text came.is).1 quit));
      few = c.in-Ok.ensures.few;
      seen = seen_then (pass_view c.args.pass.now.seat) (pass_view c.loop-line.pass.seat) (pass_view c.answer_of-answer.new.pass.seat) c.loop-line.invariant.seen c.answer_of-answer.ensures.seen;
      legal = c.answer_of-answer.ensures.legal;
      dumps = c.answer_of-answer.ensures.dumps;
      input = c.in-Ok.ensures.cause.uncounted (λ failed. cc) ∙ c.loop-line.invariant.input;
      output = c.in_default.ensures.cause.uncounted (λ failed. cc) ∙ c.loop-line.invariant.output;
    }

pub loop-line-smaller : goal.loop-line-smaller
loop-line-smaller g c =
    let left = g.I.Source.left in
    let held = g.O.Sink.held in
    let s = served_of g.B.Backend.tells g.D.Store.tells g.J.Naming.layout g.D.Store.held g.D.Store.faults in
    let a = standing_at (pass_view c.args.pass.now.seat) c.args.shelf.now in
    let mid = standing_at (pass_view c.loop-line.pass.seat) c.loop-line.shelf in
    let came = taken_next s (left c.args.input.now) (held c.args.output.now) a (left c.loop-line.input) (left c.read_line.new.input) (held c.loop-line.output) c.loop-line.lines c.read_line.new.lines c.in-Ok.line mid c.loop-line.invariant.chatting c.in-Ok.ensures.bytes in
    omega (arith, came.shorter, c.in-Ok.ensures.few, c.loop-line.invariant.few)

pub loop-line-preserved : goal.loop-line-preserved
loop-line-preserved g c =
    let left = g.I.Source.left in
    let held = g.O.Sink.held in
    let s = served_of g.B.Backend.tells g.D.Store.tells g.J.Naming.layout g.D.Store.held g.D.Store.faults in
    let a = standing_at (pass_view c.args.pass.now.seat) c.args.shelf.now in
    let mid = standing_at (pass_view c.loop-line.pass.seat) c.loop-line.shelf in
    let came = taken_next s (left c.args.input.now) (held c.args.output.now) a (left c.loop-line.input) (left c.read_line.new.input) (held c.loop-line.output) c.loop-line.lines c.read_line.new.lines c.in-Ok.line mid c.loop-line.invariant.chatting c.in-Ok.ensures.bytes in
    let z = standing_at (pass_view c.answer_of-answer.new.pass.seat) c.answer_of-answer.new.shelf in
    let gets = c.answer_of-answer.ensures.answers came.text came.is in
    record {
      chatting =
          line_chatted s (left c.args.input.now) (held c.args.output.now) a (left c.read_line.new.input) (held c.loop-line.output) (held c.write_answer.new.output) c.loop-line.lines c.read_line.new.lines c.in-Ok.line mid z
          c.answer_of-answer.result came gets c.in_default.ensures.bytes (λ quit. false≢true (sym c.if-is_quit.false ∙ (c.is_quit.ensures came.text came.is).1 quit));
      few = c.in-Ok.ensures.few;
      seen = seen_then (pass_view c.args.pass.now.seat) (pass_view c.loop-line.pass.seat) (pass_view c.answer_of-answer.new.pass.seat) c.loop-line.invariant.seen c.answer_of-answer.ensures.seen;
      legal = c.answer_of-answer.ensures.legal;
      dumps = c.answer_of-answer.ensures.dumps;
      input = c.in-Ok.ensures.cause.uncounted (λ failed. cc) ∙ c.loop-line.invariant.input;
      output = c.in_default.ensures.cause.uncounted (λ failed. cc) ∙ c.loop-line.invariant.output;
    }
