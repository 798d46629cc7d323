use Rattle.cj_desk.specs.SessionTranscripts.{setting}
use Rattle.cj_desk.proofs.AnsweredLaws.{transcript_answers}
use Rattle.cj_desk.proofs.laws.transcripts_follow_the_reading.Goals as goal

pub returns : goal.returns
returns g c = λ drawn later moment a taken written ending desk draws transcript reading rest frames.
    transcript_answers (setting g.K.Desk.state_of g.K.Desk.leads_to drawn later moment) a taken written ending desk draws transcript reading rest frames
