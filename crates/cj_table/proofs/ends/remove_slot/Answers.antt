use Rattle.std.proofs.Common.{rules, not}
use Rattle.cj_table.proofs.Cited.{bytes_eq, filter_same, table_of}
use Rattle.cj_table.proofs.ends.remove_slot.Goals as goal

pub returns : goal.returns
returns c = filter_same _ (λ s. not (bytes_eq (table_of s) c.args.name.now)) _ (λ s b f called. search rules) c.args.slots.now.items c.retain.new.self.items c.retain.ensures.filtered
