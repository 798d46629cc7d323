use Rattle.std.proofs.Common.{ap, ◌∙◌}
use Rattle.std.specs.Result.{is_ok}
use Rattle.cj_auth.proofs.Spelling.{decodes_digests}
use Rattle.cj_auth.proofs.digests.key_of.Goals as goal

pub unwrap-requires : goal.unwrap-requires
unwrap-requires c = ap is_ok c.from_hex.ensures ∙ decodes_digests c.args.digest.now ∙ c.requires
