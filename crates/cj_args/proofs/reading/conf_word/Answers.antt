use Rattle.std.proofs.Common.{map}
use Rattle.std.specs.Prelude.{string_bytes}
use Rattle.cj_args.proofs.Asking.{conf_is_named, no_conf}
use Rattle.cj_args.proofs.reading.conf_word.Goals as goal

pub returns-clause-some : goal.returns-clause-some
returns-clause-some c = conf_is_named (map string_bytes c.args.words.now) c.file_in.result c.file_in.ensures

pub returns-clause-none : goal.returns-clause-none
returns-clause-none c = no_conf (map string_bytes c.args.words.now) c.file_in.result c.file_in.ensures
