use Rattle.cj_desk.specs.SessionTranscripts.{setting}
use Rattle.cj_causes.proofs.ToldFailures.{session_covered, session_told}
use Rattle.cj_causes.proofs.laws.sessions_are_told_of_failed_turns.Goals as goal

pub returns-clause-told : goal.returns-clause-told
returns-clause-told g c = λ drawn later moment a taken written ending desk draws transcript.
    session_told g.K.Desk.tells (setting g.K.Desk.state_of g.K.Desk.leads_to drawn later moment) g.met.K.Desk.promised a taken written ending desk draws transcript

pub returns-clause-covered : goal.returns-clause-covered
returns-clause-covered g c = λ drawn later moment a taken written ending desk draws transcript.
    session_covered g.K.Desk.tells (setting g.K.Desk.state_of g.K.Desk.leads_to drawn later moment) g.met.K.Desk.promised a taken written ending desk draws transcript
