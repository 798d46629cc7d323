use Rattle.std.proofs.Common.{◌≡◌, Bool, length, true, false, refl, sym, ap, ◌∙◌, map, subst}
use Rattle.cj_top.proofs.Cited.{Found, GoesOnIn, any_are_new, both_ways, by_kinds, in_memory, keeps_front, memory_are_new, new_of, played_as_configured, script_longer}
use Rattle.cj_top.proofs.Common.{PlaysAsConfigured, WorldState}
use Rattle.cj_top.proofs.scripted.play.Goals as goal

pub play_over-requires-clause-new : goal.play_over-requires-clause-new
play_over-requires-clause-new g c = memory_are_new c.count.result (length c.args.conf.placement.names) c.in-Ok.backends c.in-Ok.ensures c.count.ensures.count

pub play_over-requires-2-clause-new : goal.play_over-requires-2-clause-new
play_over-requires-2-clause-new g c =
    any_are_new (length c.args.conf.placement.names) c.args.conf.kinds c.in-Ok-any_backends.backends (c.in-Ok-any_backends.ensures ∙ ap (map new_of) c.as_slice-2.ensures) c.requires.usable.kinds

pub returns-then-are_in_memory-clause-played : goal.returns-then-are_in_memory-clause-played
returns-then-are_in_memory-clause-played g c =
    let s = g.S.Store in
    let found = Found s.tells (s.held c.args.log) in
    let left = g.I.Source.left c.args.input.now in
    let left' = g.I.Source.left c.play_over.new.input in
    let held = g.O.Sink.held c.args.output.now in
    let held' = g.O.Sink.held c.play_over.new.output in
    let end = c.in_ok-end.end in
    let goes_on = GoesOnIn s.faults s.held s.may s.tells c.args.log c.log_over_memory.result in
    let played = c.in_ok-end.ensures.played in
    let first : WorldState = played.0 in
    let over : goes_on first c.in_ok-end.world =
    record {
      begins = played.2;
      longer =
          keeps_front s.tells (s.held c.args.log) _ _ first c.in_ok-end.world played.1.starts
          (script_longer true first.setup.names left left' held held' first c.in_ok-end.world played.4);
      leaves = c.log_over_memory.ensures.left;
    }
    in
    let memory : in_memory c.args.conf ≡ true = by_kinds c.args.conf.kinds c.as_slice.result.now c.are_in_memory.result true c.as_slice.ensures c.are_in_memory.ensures c.if-are_in_memory.true in
    subst (λ (t : Bool). PlaysAsConfigured t c.args.conf found goes_on left left' held held' end) (sym memory)
    (played_as_configured true c.args.conf found goes_on left left' held held' end first c.in_ok-end.world played.1 played.3 played.4 over (λ t. c.log_over_memory.ensures.armed))

pub returns-clause-played : goal.returns-clause-played
returns-clause-played g c =
    let s = g.S.Store in
    let found = Found s.tells (s.held c.args.log) in
    let left = g.I.Source.left c.args.input.now in
    let left' = g.I.Source.left c.play_over-2.new.input in
    let held = g.O.Sink.held c.args.output.now in
    let held' = g.O.Sink.held c.play_over-2.new.output in
    let end = c.in_ok-end-2.end in
    let goes_on = GoesOnIn s.faults s.held s.may s.tells c.args.log c.into_log.result in
    let played = c.in_ok-end-2.ensures.played in
    let first : WorldState = played.0 in
    let over : goes_on first c.in_ok-end-2.world =
    record {
      begins = played.2;
      longer =
          keeps_front s.tells (s.held c.args.log) _ _ first c.in_ok-end-2.world played.1.starts
          (script_longer false first.setup.names left left' held held' first c.in_ok-end-2.world played.4);
      leaves = record { counts = c.into_log.ensures.faults; bytes = c.into_log.ensures.bytes; kept = c.into_log.ensures.kept; stop = c.into_log.ensures.stop };
    }
    in
    let other : in_memory c.args.conf ≡ false = by_kinds c.args.conf.kinds c.as_slice.result.now c.are_in_memory.result false c.as_slice.ensures c.are_in_memory.ensures c.if-are_in_memory.false in
    subst (λ (t : Bool). PlaysAsConfigured t c.args.conf found goes_on left left' held held' end) (sym other)
    (played_as_configured false c.args.conf found goes_on left left' held held' end first c.in_ok-end-2.world played.1 played.3 played.4 over (λ t. absurd (both_ways false refl t)))
