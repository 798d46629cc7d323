use Rattle.cj_desk.specs.SessionTranscripts.{setting}
use Rattle.cj_desk.proofs.DeskChainLaws.{transcript_chained}
use Rattle.cj_desk.proofs.laws.transcripts_are_chains.Goals as goal

pub returns : goal.returns
returns g c = λ drawn later moment a taken written ending desk draws transcript.
    let d = g.K.Desk in
    transcript_chained (setting d.state_of d.leads_to drawn later moment) d.tells g.met.K.Desk.promised a taken written ending desk draws transcript
