use Rattle.std.proofs.Common.{◌≡◌, drop}
use Rattle.cj_table.proofs.Cited.{Draft, Slot, flat_map, fold, nat_cmp, option_map, option_to_list, put_by, writers}
use Rattle.cj_table.proofs.writers.writers_in.Given as goal

abbrev pub invariant-loop-slot : goal.invariant-loop-slot
invariant-loop-slot l = fold (put_by nat_cmp) l.numbers.items (flat_map (λ (s : Slot). option_to_list (option_map (λ (d : Draft). d.tx) s.draft)) (drop l.slot-index l.slots)) ≡ writers l.slots
