use Rattle.cj_top.proofs.Cited.{BackendKind, BackendState, Found, GoesOnIn, IfErr, IsErrAnd, MemoryState, PipeError, RefusesPipe, RunsPipe, Slot, StartsFrom, all_alike, any_are_new, both_ways, faults_of, fresh_state, in_memory, is_memory, keeps_front, list_all, new_backend, new_can_count, new_of, placement_of, same_cause, seen_alike, session_longer, sum_of_none}
use Rattle.std.proofs.Common.{Ok, Err, Result, ◌≡◌, Bool, true, false, [], List, ℕ, Option, Some, length, map, replicate, sum, refl, sym, ap, ◌∙◌, subst, arith}
use Rattle.cj_cluster.specs.declared.session.SessionEnd.TheVariants as ends
use Rattle.cj_top.proofs.piped.run_pipe.Goals as goal

pub pipe-requires-clause-empty : goal.pipe-requires-clause-empty
pipe-requires-clause-empty g c = λ tells. all_alike (λ (t : Option (List Slot)). t ≡ Some []) (λ (s : MemoryState). s.told) c.count.result fresh_state c.in-Ok.backends c.in-Ok.ensures refl

pub pipe-requires-clause-none : goal.pipe-requires-clause-none
pipe-requires-clause-none g c = all_alike (λ (ts : List ℕ). ts ≡ []) (λ (s : MemoryState). s.begun) c.count.result fresh_state c.in-Ok.backends c.in-Ok.ensures refl

pub pipe-requires-2-clause-none : goal.pipe-requires-2-clause-none
pipe-requires-2-clause-none g c =
    (any_are_new (length c.args.conf.placement.names) c.args.conf.kinds c.in-Ok-any_backends.backends (c.in-Ok-any_backends.ensures ∙ ap (map new_of) c.as_slice-2.ensures) c.requires.usable.kinds).none

-- what was found of the kinds
by_kinds : (kinds given : List BackendKind) (found answer : Bool) → given ≡ kinds → found ≡ list_all is_memory given → found ≡ answer → list_all is_memory kinds ≡ answer
by_kinds kinds given found answer same finds is = sym (ap (list_all is_memory) same) ∙ (sym finds ∙ is)

pub returns-then-are_in_memory-clause-runs : goal.returns-then-are_in_memory-clause-runs
returns-then-are_in_memory-clause-runs g c =
    let served = c.in_ok-end.ensures.served in
    let found = Found g.S.Store.tells (g.S.Store.held c.args.log) in
    let p = placement_of c.args.conf.placement in
    let seen = seen_alike _ c.count.result (length c.args.conf.placement.names) fresh_state c.in-Ok.backends c.in-Ok.ensures c.count.ensures.count in
    let starts : StartsFrom found p (replicate (length c.args.conf.placement.names) (new_backend true)) served.0 = subst (λ (backends : List BackendState). StartsFrom found p backends served.0) seen served.1 in
    let room = new_can_count found p served.0 starts in
    let none = c.log_over_memory.ensures.none in
    let goes_on = GoesOnIn g.S.Store.faults g.S.Store.held g.S.Store.may g.S.Store.tells c.args.log c.log_over_memory.result in
    let first_none : sum (faults_of served.0.cells) ≡ 0 = sum_of_none (faults_of served.0.cells) (λ k. let grown = served.5.grown room k in let zero = none k in omega (arith, grown, zero)) in
    let last_none : sum (faults_of c.in_ok-end.world.cells) ≡ 0 = sum_of_none (faults_of c.in_ok-end.world.cells) (λ k. let zero = none k in omega (arith, zero)) in
    let memory : in_memory c.args.conf ≡ true = by_kinds c.args.conf.kinds c.as_slice.result.now c.are_in_memory.result true c.as_slice.ensures c.are_in_memory.ensures c.if-are_in_memory.true in
    let runs : RunsPipe true c.args.conf found goes_on (g.C.Clock.moment c.args.clock.now) (g.I.Source.left c.args.input.now) (g.I.Source.left c.pipe.new.input) (g.O.Sink.held c.args.output.now) (g.O.Sink.held c.pipe.new.output) c.status_of_session.result =
    record {
      first = served.0;
      begins = record { setup = served.2; starts = starts; cache = served.3 };
      ending = c.in_ok-end.end;
      last = c.in_ok-end.world;
      serves = served.5;
      goes_on = record { begins = served.4; longer = keeps_front g.S.Store.tells (g.S.Store.held c.args.log) p _ served.0 c.in_ok-end.world starts (session_longer _ _ _ _ _ _ _ served.0 c.in_ok-end.world c.in_ok-end.end served.5); leaves = c.log_over_memory.ensures.left };
      blameless = λ t. served.5.blameless (last_none ∙ sym first_none) room;
      status_is = c.status_of_session.ensures.status;
    }
    in
    subst (λ (t : Bool). RunsPipe t c.args.conf found goes_on (g.C.Clock.moment c.args.clock.now) (g.I.Source.left c.args.input.now) (g.I.Source.left c.pipe.new.input) (g.O.Sink.held c.args.output.now) (g.O.Sink.held c.pipe.new.output) c.status_of_session.result) (sym memory) runs

pub returns-clause-runs : goal.returns-clause-runs
returns-clause-runs g c =
    let served = c.in_ok-end-2.ensures.served in
    let found = Found g.S.Store.tells (g.S.Store.held c.args.log) in
    let p = placement_of c.args.conf.placement in
    let goes_on = GoesOnIn g.S.Store.faults g.S.Store.held g.S.Store.may g.S.Store.tells c.args.log c.into_log.result in
    let new = any_are_new (length c.args.conf.placement.names) c.args.conf.kinds c.in-Ok-any_backends.backends (c.in-Ok-any_backends.ensures ∙ ap (map new_of) c.as_slice-2.ensures) c.requires.usable.kinds in
    let starts : StartsFrom found p (replicate (length c.args.conf.placement.names) (new_backend false)) served.0 = subst (λ (backends : List BackendState). StartsFrom found p backends served.0) new.seen served.1 in
    let other : in_memory c.args.conf ≡ false = by_kinds c.args.conf.kinds c.as_slice.result.now c.are_in_memory.result false c.as_slice.ensures c.are_in_memory.ensures c.if-are_in_memory.false in
    let runs : RunsPipe false c.args.conf found goes_on (g.C.Clock.moment c.args.clock.now) (g.I.Source.left c.args.input.now) (g.I.Source.left c.pipe-2.new.input) (g.O.Sink.held c.args.output.now) (g.O.Sink.held c.pipe-2.new.output) c.status_of_session-2.result =
    record {
      first = served.0;
      begins = record { setup = served.2; starts = starts; cache = served.3 };
      ending = c.in_ok-end-2.end;
      last = c.in_ok-end-2.world;
      serves = served.5;
      goes_on = record {
        begins = served.4;
        longer = keeps_front g.S.Store.tells (g.S.Store.held c.args.log) p _ served.0 c.in_ok-end-2.world starts (session_longer _ _ _ _ _ _ _ served.0 c.in_ok-end-2.world c.in_ok-end-2.end served.5);
        leaves = record { counts = c.into_log.ensures.faults; bytes = c.into_log.ensures.bytes; kept = c.into_log.ensures.kept; stop = c.into_log.ensures.stop };
      };
      blameless = λ t. absurd (both_ways false refl t);
      status_is = c.status_of_session-2.ensures.status;
    }
    in
    subst (λ (t : Bool). RunsPipe t c.args.conf found goes_on (g.C.Clock.moment c.args.clock.now) (g.I.Source.left c.args.input.now) (g.I.Source.left c.pipe-2.new.input) (g.O.Sink.held c.args.output.now) (g.O.Sink.held c.pipe-2.new.output) c.status_of_session-2.result) (sym other) runs

pub returns-then-are_in_memory-clause-input : goal.returns-then-are_in_memory-clause-input
returns-then-are_in_memory-clause-input g c =
    let fault = c.status_of_session.ensures.read_fault in
    same_cause (c.in_ok-end.end ≡ ends.ReadFault) (c.status_of_session.result ≡ 5) _ _ fault.0 fault.1 c.in_ok-end.ensures.input

pub returns-then-are_in_memory-clause-output : goal.returns-then-are_in_memory-clause-output
returns-then-are_in_memory-clause-output g c =
    let fault = c.status_of_session.ensures.write_fault in
    same_cause (c.in_ok-end.end ≡ ends.WriteFault) (c.status_of_session.result ≡ 6) _ _ fault.0 fault.1 c.in_ok-end.ensures.output

pub returns-clause-input : goal.returns-clause-input
returns-clause-input g c =
    let fault = c.status_of_session-2.ensures.read_fault in
    same_cause (c.in_ok-end-2.end ≡ ends.ReadFault) (c.status_of_session-2.result ≡ 5) _ _ fault.0 fault.1 c.in_ok-end-2.ensures.input

pub returns-clause-output : goal.returns-clause-output
returns-clause-output g c =
    let fault = c.status_of_session-2.ensures.write_fault in
    same_cause (c.in_ok-end-2.end ≡ ends.WriteFault) (c.status_of_session-2.result ≡ 6) _ _ fault.0 fault.1 c.in_ok-end-2.ensures.output

-- what holds of the error that is handed on
refused_so : {A E : Type 0} (P : E → Type 0) (r : Result A E) (e : E) → IsErrAnd r (λ x. x ≡ e) → P e → IfErr r P
refused_so P (Ok x) e is p = tt
refused_so P (Err x) e is p = subst P (sym is) p

pub returns-in_err-end-clause-refused : goal.returns-in_err-end-clause-refused
returns-in_err-end-clause-refused g c =
    let s = g.S.Store in
    let refuses : List BackendState → PipeError × g.row.S.Denot → Type 0 = λ backends x. RefusesPipe s.faults s.held s.may s.tells c.args.log x.1 (placement_of c.args.conf.placement) backends x.0 in
    let n = length c.args.conf.placement.names in
    let memory : in_memory c.args.conf ≡ true = by_kinds c.args.conf.kinds c.as_slice.result.now c.are_in_memory.result true c.as_slice.ensures c.are_in_memory.ensures c.if-are_in_memory.true in
    let seen = seen_alike _ c.count.result n fresh_state c.in-Ok.backends c.in-Ok.ensures c.count.ensures.count ∙ ap (λ (t : Bool). replicate n (new_backend t)) (sym memory) in
    refused_so (refuses (replicate n (new_backend (in_memory c.args.conf)))) c.from_residual.result c.in_err-end.field-0.0 c.from_residual.ensures.1
    (subst (λ (backends : List BackendState). refuses backends c.in_err-end.field-0.0) seen c.in_err-end.ensures.refused)

pub returns-in_err-end-2-clause-refused : goal.returns-in_err-end-2-clause-refused
returns-in_err-end-2-clause-refused g c =
    let s = g.S.Store in
    let refuses : List BackendState → PipeError × g.row.S.Denot → Type 0 = λ backends x. RefusesPipe s.faults s.held s.may s.tells c.args.log x.1 (placement_of c.args.conf.placement) backends x.0 in
    let n = length c.args.conf.placement.names in
    let other : in_memory c.args.conf ≡ false = by_kinds c.args.conf.kinds c.as_slice.result.now c.are_in_memory.result false c.as_slice.ensures c.are_in_memory.ensures c.if-are_in_memory.false in
    let new = any_are_new n c.args.conf.kinds c.in-Ok-any_backends.backends (c.in-Ok-any_backends.ensures ∙ ap (map new_of) c.as_slice-2.ensures) c.requires.usable.kinds in
    refused_so (refuses (replicate n (new_backend (in_memory c.args.conf)))) c.from_residual-in_err-end-2.result c.in_err-end-2.field-0.0 c.from_residual-in_err-end-2.ensures.1
    (subst (λ (backends : List BackendState). refuses backends c.in_err-end-2.field-0.0) (new.seen ∙ ap (λ (t : Bool). replicate n (new_backend t)) (sym other)) c.in_err-end-2.ensures.refused)
