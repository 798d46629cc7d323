-- Rows with the value of their first key at hand are in the order of the keys.
use Rattle.std.proofs.Common.{◌≡◌, ℕ, Bool, true, false, is_eq, List, map, ap, sym, ◌∙◌}
use Rattle.std.specs.Prelude.{filter}
use Rattle.cj_query.proofs.Common.{at_most, back_total, is_lt, IsStrictWeakOrder, IsTotalOrder, map-map, on_total, ranks_by, rows_with, sorted_at, sorted_by, sorts_before, then_total, tied_itself, Value, value_cmp, value_total}
use Rattle.cj_query.specs.declared.ranked.Ranking.{Ranking}
use Rattle.cj_query.specs.Ranked.{RankedRow, by_lead, by_rank, keys_of, leads_before, led_by, ranked_by, ranks_before, wanted}
use Rattle.cj_query.proofs.KeyLaws.{by_sort_keys_total}
use Rattle.cj_query.proofs.MapLaws.{cut-map, map_itself}
use Rattle.cj_query.proofs.OrderLaws.{filter-ordered, ordered-map}
use Rattle.cj_query.proofs.GroupLaws.{equal_is}
use Rattle.cj_query.proofs.IndexLaws.{filter_seen}

by_lead_sense_total : (desc : Bool) (place : _) → IsTotalOrder (by_lead (record { place = place; desc = desc }))
by_lead_sense_total true place = back_total value_total
by_lead_sense_total false place = value_total

pub by_rank_total : (ranking : Ranking) → IsTotalOrder (by_rank ranking)
by_rank_total ranking = then_total (on_total (λ (x : RankedRow). x.0) (by_lead_sense_total ranking.first.now.desc ranking.first.now.place)) (on_total (λ (x : RankedRow). x.1) (by_sort_keys_total ranking.rest.now))

pub rank_orders : (ranking : Ranking) → IsStrictWeakOrder (ranks_before ranking)
rank_orders ranking = ranks_by (by_rank_total ranking) (λ (x : RankedRow). x)

-- ---- the order of one value, which is at hand

pub lead_total : IsTotalOrder (λ (x y : RankedRow). value_cmp x.0 y.0)
lead_total = on_total (λ (x : RankedRow). x.0) value_total

pub lead_orders : IsStrictWeakOrder leads_before
lead_orders = ranks_by lead_total (λ (x : RankedRow). x)

-- the rows beside their values at a place, in the order of these
pub led_rows : (place : ℕ) (rows : List (List Value)) → map (λ x. x.1) (sorted_by leads_before (map (led_by place) rows)) ≡ sorted_at place rows
led_rows place rows =
    ap (map (λ (x : RankedRow). x.1)) (sym (ordered-map (led_by place) leads_before rows))
    ∙ map-map (λ (x : RankedRow). x.1) (led_by place) (sorted_at place rows)
    ∙ map_itself (sorted_at place rows)

tied_leads : (v : Value) (x y : RankedRow) → is_eq (value_cmp x.0 v) ≡ true → is_eq (value_cmp y.0 v) ≡ true → leads_before x y ≡ false
tied_leads v x y a b = ap (λ u. is_lt (value_cmp u y.0)) (equal_is x.0 v a) ∙ ap (λ u. is_lt (value_cmp v u)) (equal_is y.0 v b) ∙ ap is_lt (tied_itself value_total v)

-- those with one value among them
pub led_with : (place : ℕ) (v : Value) (rows : List (List Value)) → map (λ x. x.1) (filter (λ x. is_eq (value_cmp x.0 v)) (sorted_by leads_before (map (led_by place) rows))) ≡ rows_with place rows v
led_with place v rows =
    ap (map (λ (x : RankedRow). x.1))
    (filter-ordered leads_before (λ x. is_eq (value_cmp x.0 v)) (tied_leads v) (map (led_by place) rows)
    ∙ sym (filter_seen (led_by place) (λ x. is_eq (value_cmp x.0 v)) rows))
    ∙ map-map (λ (x : RankedRow). x.1) (led_by place) (rows_with place rows v)
    ∙ map_itself (rows_with place rows v)

-- ---- the order of all keys

-- the wanted rows are the first ones in the order of the keys
pub wanted_rows : (ranking : Ranking) (rows : List (List Value)) → map (λ x. x.1) (wanted ranking (map (ranked_by ranking) rows)) ≡ at_most ranking.limit (sorted_by (sorts_before (keys_of ranking)) rows)
wanted_rows ranking rows =
    cut-map (λ (x : RankedRow). x.1) ranking.limit (sorted_by (ranks_before ranking) (map (ranked_by ranking) rows))
    ∙ ap (at_most ranking.limit)
    (ap (map (λ (x : RankedRow). x.1)) (sym (ordered-map (ranked_by ranking) (ranks_before ranking) rows))
    ∙ map-map (λ (x : RankedRow). x.1) (ranked_by ranking) (sorted_by (sorts_before (keys_of ranking)) rows)
    ∙ map_itself (sorted_by (sorts_before (keys_of ranking)) rows))
