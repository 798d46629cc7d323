use Rattle.std.proofs.Common.{ap, ◌∙◌}
use Rattle.std.specs.Result.{is_ok}
use Rattle.cj_auth.proofs.Spelling.{decodes_digests}
use Rattle.cj_auth.proofs.digests.is_digest.Goals as goal

pub returns : goal.returns
returns c = c.is_ok.ensures.value ∙ ap is_ok c.from_hex.ensures ∙ decodes_digests c.args.text.now
