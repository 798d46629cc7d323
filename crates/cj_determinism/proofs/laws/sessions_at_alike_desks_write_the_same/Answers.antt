use Rattle.std.proofs.Common.{Some, refl}
use Rattle.cj_desk.specs.SessionTranscripts.{setting}
use Rattle.cj_determinism.specs.AlikeDesks.{ShowsTheSame}
use Rattle.cj_determinism.proofs.AlikeTranscripts.{alike_one}
use Rattle.cj_determinism.proofs.laws.sessions_at_alike_desks_write_the_same.Goals as goal

pub returns : goal.returns
returns g c = λ view alike drawn later moment a b taken written other ending last desk final draws after x y same ends finishes fed full reading rest frames.
    alike_one (setting g.K.Desk.state_of g.K.Desk.leads_to drawn later (Some moment)) (ShowsTheSame view) alike moment refl a b taken written other ending last desk final draws after x y same ends finishes fed full reading rest frames
