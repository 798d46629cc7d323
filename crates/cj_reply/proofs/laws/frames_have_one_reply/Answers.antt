use Rattle.cj_reply.proofs.Frames.{frames_once}
use Rattle.cj_reply.proofs.laws.frames_have_one_reply.Goals as goal

pub returns : goal.returns
returns c = frames_once
