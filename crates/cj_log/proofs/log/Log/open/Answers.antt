use Rattle.std.proofs.Common.{List, ap, refl, sym, subst, ◌∙◌}
use Rattle.cj_log.proofs.Common.{KeepsItems, LogItem, items_in, log_magic}
use Rattle.cj_log.proofs.ItemFormats.{items_back}
use Rattle.cj_log.proofs.Stops.{agrees_opened, keeps}
use Rattle.cj_log.proofs.log.Log.open.Goals as goal

pub invariant_of-result : goal.invariant_of-result
invariant_of-result g c =
    let read = c.in-Ok-read_items.ensures in
    agrees_opened g.S.Store.tells g.S.Store.held c.in-Ok.records c.read_items.new.records c.in-Ok-read_items.items.items c.in-Ok.ensures.magic c.in-Ok.ensures.shut read.same read.items read.each

pub returns-in-Ok-read_items-clause-bytes : goal.returns-in-Ok-read_items-clause-bytes
returns-in-Ok-read_items-clause-bytes g c = λ t.
    let old = g.S.Store.held c.args.store in
    let opens = c.in-Ok.ensures.bytes t in
    let read = c.in-Ok-read_items.ensures in
    let items = c.in-Ok-read_items.items.items in
    let vec = c.from_vec.ensures in (
      subst (λ (xs : List LogItem). KeepsItems old xs) (sym vec) (keeps old log_magic c.in-Ok.records.list items refl (read.items t) read.each opens.0),
      ap items_in (read.same.list t ∙ read.items t) ∙ items_back items read.each ∙ sym vec,
      read.same.bytes t ∙ opens.1,
    )
