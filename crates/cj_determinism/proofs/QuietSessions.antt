-- Quiet sessions that begin alike write the same.
use Rattle.std.proofs.Common.{◌≡◌, ℕ, ℤ, true, List, Some, refl, sym, subst}
use Rattle.cj_model.specs.declared.message.Message.{Message}
use Rattle.cj_model.specs.Wire.Frames.{Frames}
use Rattle.cj_cluster.specs.declared.session.SessionEnd.{SessionEnd}
use Rattle.cj_desk.specs.AnsweredMessages.{is_whole_end}
use Rattle.cj_desk.specs.Determinism.{NoneWantsMemory}
use Rattle.cj_desk.specs.SessionTranscripts.{ClientState, SessionTranscript, setting}
use Rattle.cj_core.specs.Solos.{SoloState, SoloSteps, desk_of}
use Rattle.cj_determinism.specs.AlikeDesks.{AreClientsAlike, ShowsTheSame}
use Rattle.cj_determinism.specs.QuietSolos.{PassesQuietly, QuietSteps, view_of}
use Rattle.cj_determinism.proofs.AlikeTranscripts.{alike_one}
use Rattle.cj_determinism.proofs.QuietSteps.{solos_stay_alike}
use Rattle.cj_determinism.proofs.QuietTranscripts.{transcript_quietly}

pub sessions_one : {D : Type 0} (drawn : D → ℕ → ℕ) (later : D → ℕ → D) (moment : ℤ) (a b : ClientState SoloState D) (taken written other : List ℕ) (ending last : SessionEnd) (desk final : SoloState) (draws after : D)
    (x : SessionTranscript (setting desk_of (SoloSteps true) drawn later (Some moment)) a taken written ending desk draws) (y : SessionTranscript (setting desk_of (SoloSteps true) drawn later (Some moment)) b taken other last final after)
    → AreClientsAlike (ShowsTheSame view_of) a b → PassesQuietly a.desk.world desk.world → PassesQuietly b.desk.world final.world → is_whole_end ending ≡ true → is_whole_end last ≡ true → NoneWantsMemory x.replies → NoneWantsMemory y.replies
    → (reading : List Message) (rest : List ℕ) → Frames taken reading rest → written ≡ other
sessions_one drawn later moment a b taken written other ending last desk final draws after x y same quiet still ends finishes fed full reading rest frames =
    let one = transcript_quietly true drawn later (Some moment) a taken written ending desk draws x quiet in
    let two = transcript_quietly true drawn later (Some moment) b taken other last final after y still in
    alike_one (setting desk_of (QuietSteps true) drawn later (Some moment)) (ShowsTheSame view_of) solos_stay_alike moment refl a b taken written other ending last desk final draws after one.0 two.0 same ends finishes
    (subst NoneWantsMemory (sym one.1) fed) (subst NoneWantsMemory (sym two.1) full) reading rest frames
