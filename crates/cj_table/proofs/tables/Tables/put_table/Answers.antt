use Rattle.cj_table.proofs.PutLaws.{put_is_database}
use Rattle.cj_table.proofs.tables.Tables.put_table.Goals as goal

pub invariant_of-self : goal.invariant_of-self
invariant_of-self c = put_is_database c.self.inside.slots.items c.args.schema c.args.rows c.put_table.result c.put_table.new.slots.items c.self.invariant c.put_table.ensures
