use Rattle.std.proofs.Common.{map}
use Rattle.std.specs.Prelude.{string_bytes}
use Rattle.cj_args.proofs.Asking.{address_is_named, no_address}
use Rattle.cj_args.proofs.reading.address_word.Goals as goal

pub returns-clause-some : goal.returns-clause-some
returns-clause-some c = address_is_named (map string_bytes c.args.words.now) c.address_in.result c.address_in.ensures

pub returns-clause-none : goal.returns-clause-none
returns-clause-none c = no_address (map string_bytes c.args.words.now) c.address_in.result c.address_in.ensures
