use Rattle.std.proofs.Common.{sym, ◌∙◌}
use Rattle.cj_args.proofs.Asking.{asked_read}
use Rattle.cj_args.proofs.laws.words_ask_for_one_thing.Goals as goal

pub returns : goal.returns
returns c = λ words one other is also. let same = sym (asked_read words one is) ∙ asked_read words other also in cc
