use Rattle.std.proofs.Common.{◌≡◌, ◌≢◌, ◌∙◌, ◌⊎◌, inl, inr, refl, ◌-◌, ◌^◌, ap, subst, sym, length, map, min, sum, true, List, ℕ, Option, Some, bit_and, arith}
use Rattle.std.specs.Int.Bits.{and_lt}
use Rattle.cj_workload.proofs.Common.{All, AreSame, faults_of, first_count, first_host, hosts, in_mask, MatchOption, part, Placement, row_count, rows_in, slice_get, Slot, table_name, times_armed}
use Rattle.cj_cluster.specs.History.Histories.{database_of, is_enabled, log}
use Rattle.cj_workload.proofs.Summing.{all_same, as_many, cells_of, each_holds, rows_counted, same_counts, same_times}
use Rattle.cj_workload.proofs.summary.sum_up.Goals as goal
use Rattle.cj_workload.proofs.summary.sum_up.Goals.{else-hosts-ne0-via-then-hosts-ne0+else-mask-eq0, else-hosts-ne0-via-else-hosts-ne0}

pub ask_each-requires : goal.ask_each-requires
ask_each-requires g c =
    let b = g.B.Backend in
    let world = c.legal.ensures.world in
    let many : length c.into_vec-backends.result.items ≡ c.args.world.core.placement.backends =
    ap length c.into_vec-backends.ensures ∙ (as_many b.told b.faults b.asks b.login b.arming c.args.world.cells c.into_backends.result c.into_backends.ensures.same ∙ cells_of b.tells c.args.world world) in
    let few = world.few in
    omega (arith, many, few)

pub returns-clause-summary : goal.returns-clause-summary
returns-clause-summary g c =
    let b = g.B.Backend in
    let core = c.args.world.core in
    let p = core.placement in
    let db = database_of (log core.history) in
    let hosting = c.hosts-hosts.result in
    let enabled = c.enabled.result in
    let held = c.in-Ok.found.0 in
    let P : List Slot → Type 0 = λ (d : List Slot). rows_in d ≡ rows_in db in
    let is_host : (k : ℕ) → in_mask hosting k ≡ hosts p k table_name =
    λ k. c.hosts-hosts.ensures k ∙ (ap (λ (q : Placement). hosts q k c.table.result) c.placement.ensures.placement ∙ ap (λ (t : List ℕ). hosts p k t) c.table.ensures) in
    let is_on : (k : ℕ) → in_mask enabled k ≡ is_enabled core.history k = λ k. c.enabled.ensures k in
    let told : List (Option (List Slot)) = map b.told c.into_vec-backends.result.items in
    let current : b.tells ≡ true → (k : ℕ) → is_enabled core.history k ≡ true → slice_get told k ≡ Some (Some (part p k db)) =
    λ tells k on. subst (λ (l : List g.row.B.Denot). slice_get (map b.told l) k ≡ Some (Some (part p k db))) (sym c.into_vec-backends.ensures) (c.into_backends.ensures.current tells c.requires k on) in
    let same : b.tells ≡ true → All P held = λ tells. c.in-Ok.ensures.same (rows_in db) (each_holds p db hosting enabled (is_enabled core.history) is_host is_on told (current tells)) in
    let many : length c.into_vec-backends.result.items ≡ p.backends =
    ap length c.into_vec-backends.ensures ∙ (as_many b.told b.faults b.asks b.login b.arming c.args.world.cells c.into_backends.result c.into_backends.ensures.same ∙ cells_of b.tells c.args.world c.legal.ensures.world) in
    let either : (hosting ≡ 0) ⊎ (bit_and hosting enabled ≢ 0) =
    elim c.else-hosts-ne0.branch [ else-hosts-ne0-via-then-hosts-ne0+else-mask-eq0 w ↦ inr w.if-mask-eq0.false | else-hosts-ne0-via-else-hosts-ne0 w ↦ inl w.if-hosts-ne0.false ] in
    let faults : map b.faults c.deref.result.now ≡ faults_of c.args.world.cells =
    ap (map b.faults) (c.deref.ensures.value ∙ c.into_vec-backends.ensures) ∙ same_counts b.told b.faults b.asks b.login b.arming c.args.world.cells c.into_backends.result c.into_backends.ensures.same in
    let rows : c.count_of.result ≡ first_count held = c.count_of.ensures ∙ ap first_count c.as_slice.ensures in
    λ begun counted. record {
      statements = refl;
      entries = c.length-entries.ensures;
      faults = c.count_faults-faults.ensures ∙ ap (λ (l : List ℕ). min (sum l) (2 ^ 64 - 1)) faults;
      enabled = counted;
      rows = λ tells.
          subst (λ (n : ℕ). MatchOption (first_host p) (n ≡ 0) (λ (k : ℕ). n ≡ row_count (rows_in db))) (sym rows)
          (rows_counted p db hosting enabled (is_enabled core.history) is_host is_on held (and_lt 32 hosting enabled c.hosts-hosts.type_inv c.enabled.type_inv) either (λ k below bit. c.in-Ok.ensures.some k (omega (arith, below, many)) bit) c.in-Ok.ensures.none (same tells));
      hits = ap (λ (x : ℕ × ℕ). x.0) c.cache_counts-hits.ensures;
      misses = ap (λ (x : ℕ × ℕ). x.1) c.cache_counts-hits.ensures;
      equal = λ tells. c.are_equal.ensures.1 (subst AreSame (sym c.as_slice-2.ensures) (all_same (rows_in db) held (same tells)));
    }

-- asking the backends leaves their counts
pub returns-clause-backends : goal.returns-clause-backends
returns-clause-backends g c =
    let b = g.B.Backend in
    let cells = c.args.world.cells in
    let back = c.into_backends.result in
    let same = c.into_backends.ensures.same in
    record {
      failed =
          c.in-Ok.ensures.faults ∙ (ap (map b.faults) c.into_vec-backends.ensures ∙ same_counts b.told b.faults b.asks b.login b.arming cells back same);
      armed =
          c.in-Ok.ensures.armings ∙ (ap (times_armed b.arming) c.into_vec-backends.ensures ∙ same_times b.told b.faults b.asks b.login b.arming cells back same);
    }
