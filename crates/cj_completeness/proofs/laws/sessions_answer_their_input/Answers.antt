use Rattle.cj_desk.specs.SessionTranscripts.{setting}
use Rattle.cj_top.proofs.InputSessions.{session_answers}
use Rattle.cj_completeness.proofs.QuietSessions.{did_not_fail, ended_by_input}
use Rattle.cj_completeness.proofs.laws.sessions_answer_their_input.Goals as goal

pub returns : goal.returns
returns g c = λ drawn later moment a input input' output output' ending desk draws served read wrote no_read no_write memory.
    let source = g.I.Source in
    let sink = g.O.Sink in
    let by = ended_by_input ending (did_not_fail _ (source.faults input) (source.faults input') read no_read) (did_not_fail _ (sink.faults output) (sink.faults output') wrote no_write) memory in
    (by, session_answers (setting g.K.Desk.state_of g.K.Desk.leads_to drawn later moment) a ending desk draws (source.left input) (source.left input') (sink.held output) (sink.held output') served by)
