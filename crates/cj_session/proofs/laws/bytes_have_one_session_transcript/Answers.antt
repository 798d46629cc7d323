use Rattle.std.proofs.Common.{Some, refl}
use Rattle.cj_desk.specs.SessionTranscripts.{setting}
use Rattle.cj_session.proofs.OneTranscript.{transcript_one}
use Rattle.cj_session.proofs.laws.bytes_have_one_session_transcript.Goals as goal

pub returns : goal.returns
returns g c = λ fixed drawn later moment a taken written other ending last desk final draws after x y ends finishes fed full reading rest frames.
    transcript_one (setting g.K.Desk.state_of g.K.Desk.leads_to drawn later (Some moment)) fixed moment refl a taken written other ending last desk final draws after x y ends finishes fed full reading rest frames
