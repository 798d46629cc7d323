use Rattle.cj_desk.specs.SessionTranscripts.{setting}
use Rattle.cj_desk.proofs.KeptCountLaws.{transcript_keeps}
use Rattle.cj_desk.proofs.laws.kept_counts_are_kept_by_each_call.Goals as goal

pub returns : goal.returns
returns g c = λ count grows drawn later moment a taken written ending desk draws transcript low.
    transcript_keeps (setting g.K.Desk.state_of g.K.Desk.leads_to drawn later moment) count grows a taken written ending desk draws transcript low
