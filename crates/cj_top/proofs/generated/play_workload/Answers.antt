use Rattle.std.proofs.Common.{◌≡◌, ℕ, Bool, true, false, List, get_or, length, map, refl, sym, ap, ◌∙◌, subst, arith}
use Rattle.cj_top.proofs.Cited.{FlakyState, MemoryState, any_are_new, armings_of, both_ways, by_kinds, faults_by, faults_of, in_memory, memory_are_new, new_of, times_armed, arming_of}
use Rattle.cj_top.specs.Generated.{GeneratesAsConfigured}
use Rattle.cj_top.proofs.generated.play_workload.Goals as goal

pub play_over-requires-clause-new : goal.play_over-requires-clause-new
play_over-requires-clause-new c = memory_are_new c.count.result (length c.args.conf.placement.names) c.in_ok-backends.backends c.in_ok-backends.ensures c.count.ensures.count

pub play_over-requires-2-clause-new : goal.play_over-requires-2-clause-new
play_over-requires-2-clause-new c =
    any_are_new (length c.args.conf.placement.names) c.args.conf.kinds c.in_ok-backends-2.backends (c.in_ok-backends-2.ensures ∙ ap (map new_of) c.as_slice-2.ensures) c.requires.usable.kinds

pub returns-then-are_in_memory : goal.returns-then-are_in_memory
returns-then-are_in_memory c =
    let played = c.in_ok-summary.ensures in
    let cells = played.2.ended.world.cells in
    let given : List (FlakyState MemoryState) = c.as_slice-then-are_in_memory.result.now in
    let failed : map (faults_by (λ (s : MemoryState). 0)) given ≡ faults_of cells = ap (map (faults_by (λ (s : MemoryState). 0))) c.as_slice-then-are_in_memory.ensures ∙ played.3.failed in
    let armed : times_armed arming_of given ≡ armings_of cells = ap (times_armed arming_of) c.as_slice-then-are_in_memory.ensures ∙ played.3.armed in
    let memory : in_memory c.args.conf ≡ true = by_kinds c.args.conf.kinds c.as_slice.result.now c.are_in_memory.result true c.as_slice.ensures c.are_in_memory.ensures c.if-are_in_memory.true in
    subst (λ (t : Bool). GeneratesAsConfigured t c.args.conf c.args.seed c.args.count c.in_ok-summary.summary) (sym memory)
    (record {
      first = played.0;
      begins = played.1;
      plays = played.2;
      armed = λ t b.
          let counts = ap (λ (l : List ℕ). get_or l b 0) failed in
          let times = ap (λ (l : List ℕ). get_or l b 0) armed in
          let within = c.show_armed.ensures b in
          omega (arith, counts, times, within);
    })

pub returns : goal.returns
returns c =
    let played = c.in_ok-summary-2.ensures in
    let other : in_memory c.args.conf ≡ false = by_kinds c.args.conf.kinds c.as_slice.result.now c.are_in_memory.result false c.as_slice.ensures c.are_in_memory.ensures c.if-are_in_memory.false in
    subst (λ (t : Bool). GeneratesAsConfigured t c.args.conf c.args.seed c.args.count c.in_ok-summary-2.summary) (sym other)
    (record { first = played.0; begins = played.1; plays = played.2; armed = λ t. absurd (both_ways false refl t) })
