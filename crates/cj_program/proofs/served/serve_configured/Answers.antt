use Rattle.std.proofs.Common.{◌≡◌, ◌∙◌, sym, ap, true, false, ◌&&◌, Bool, ℕ, length, map, replicate}
use Rattle.cj_place.specs.Layouts.{Layout}
use Rattle.cj_top.proofs.ArmedBackends.{by_kinds}
use Rattle.cj_top.proofs.NewBackends.{any_are_new}
use Rattle.cj_top.specs.Configured.{in_memory, new_backend, new_of}
use Rattle.cj_top.specs.Logs.{Found}
use Rattle.cj_program.specs.Served.{Counted}
use Rattle.cj_program.proofs.Configured.{refuses_serving, runs_serve}
use Rattle.cj_program.proofs.NewBackends.{new_begun_none, new_count, new_empty, new_seen}
use Rattle.cj_program.proofs.served.serve_configured.Goals as goal

-- ---- backends in memory, beside the store of the dumps

pub serve_over-requires-clause-as_many : goal.serve_over-requires-clause-as_many
serve_over-requires-clause-as_many g c κs within =
    new_count (λ b. b.inner) g.D.Store.tells c.count.result c.in-Ok.backends c.in-Ok.ensures
    ∙ (c.count.ensures.count ∙ sym (ap (λ (l : Layout). length l.names) c.in-Ok-parts_of.ensures.placement))

pub serve_over-requires-clause-empty : goal.serve_over-requires-clause-empty
serve_over-requires-clause-empty g c κs within = λ told. new_empty (λ b. b.inner) g.D.Store.tells c.count.result c.in-Ok.backends c.in-Ok.ensures told

pub serve_over-requires-clause-none : goal.serve_over-requires-clause-none
serve_over-requires-clause-none g c κs within = new_begun_none (λ b. b.inner) g.D.Store.tells c.count.result c.in-Ok.backends c.in-Ok.ensures

pub returns-then-are_in_memory-clause-runs : goal.returns-then-are_in_memory-clause-runs
returns-then-are_in_memory-clause-runs g c =
    let conf = c.args.conf in
    let parts = c.in-Ok-parts_of in
    let memory : in_memory conf ≡ true = by_kinds conf.kinds c.as_slice.result.now c.are_in_memory.result true c.as_slice.ensures c.are_in_memory.ensures c.if-are_in_memory.true in
    let told : g.D.Store.tells ≡ (in_memory conf && g.D.Store.tells) = ap (λ (b : Bool). b && g.D.Store.tells) (sym memory) in
    let seen = new_seen (λ b. b.inner) g.D.Store.tells c.count.result c.in-Ok.backends c.in-Ok.ensures ∙ ap (λ (n : ℕ). replicate n (new_backend g.D.Store.tells)) c.count.ensures.count in
    let before : Counted = record { input = g.I.Source.faults c.args.input.now; output = g.O.Sink.faults c.args.output.now; port = g.P.Port.faults c.args.port.now; accepted = g.P.Port.accepted c.args.port.now } in
    let now : Counted = record { input = g.I.Source.faults c.serve_over.new.input; output = g.O.Sink.faults c.serve_over.new.output; port = g.P.Port.faults c.serve_over.new.port; accepted = g.P.Port.accepted c.serve_over.new.port } in
    runs_serve conf g.D.Store.tells (Found g.S.Store.tells (g.S.Store.held c.args.log)) c.args.dumps g.D.Store.tells told parts.parts.book.placement parts.ensures.placement _ seen g.D.Store.held g.D.Store.faults (g.I.Source.left c.args.input.now)
    (g.I.Source.left c.serve_over.new.input) (g.O.Sink.held c.args.output.now) (g.O.Sink.held c.serve_over.new.output) before now parts.parts.accounts parts.ensures.accounts parts.parts.book.cache parts.ensures.cache c.serve_over.result
    c.serve_over.ensures.served c.serve_over.ensures.done c.serve_over.ensures.input c.serve_over.ensures.output c.serve_over.ensures.port

pub returns-then-are_in_memory-clause-refused : goal.returns-then-are_in_memory-clause-refused
returns-then-are_in_memory-clause-refused g c =
    let conf = c.args.conf in
    let parts = c.in-Ok-parts_of in
    let memory : in_memory conf ≡ true = by_kinds conf.kinds c.as_slice.result.now c.are_in_memory.result true c.as_slice.ensures c.are_in_memory.ensures c.if-are_in_memory.true in
    let told : g.D.Store.tells ≡ (in_memory conf && g.D.Store.tells) = ap (λ (b : Bool). b && g.D.Store.tells) (sym memory) in
    let seen = new_seen (λ b. b.inner) g.D.Store.tells c.count.result c.in-Ok.backends c.in-Ok.ensures ∙ ap (λ (n : ℕ). replicate n (new_backend g.D.Store.tells)) c.count.ensures.count in
    refuses_serving conf g.D.Store.tells (Found g.S.Store.tells (g.S.Store.held c.args.log)) c.args.dumps g.D.Store.tells told parts.parts.book.placement parts.ensures.placement _ seen g.S.Store.faults g.S.Store.held g.S.Store.tells g.D.Store.faults
    g.D.Store.held c.args.log c.serve_over.result c.serve_over.ensures.refused

-- ---- any backends

pub serve_over-requires-2-clause-none : goal.serve_over-requires-2-clause-none
serve_over-requires-2-clause-none g c κs within =
    (any_are_new (length c.args.conf.placement.names) c.args.conf.kinds c.in-Ok-any_backends.backends (c.in-Ok-any_backends.ensures ∙ ap (map new_of) c.as_slice-2.ensures) c.requires.usable.kinds).none

pub returns-clause-runs : goal.returns-clause-runs
returns-clause-runs g c =
    let conf = c.args.conf in
    let parts = c.in-Ok-parts_of-2 in
    let other : in_memory conf ≡ false = by_kinds conf.kinds c.as_slice.result.now c.are_in_memory.result false c.as_slice.ensures c.are_in_memory.ensures c.if-are_in_memory.false in
    let told : false ≡ (in_memory conf && g.D.Store.tells) = ap (λ (b : Bool). b && g.D.Store.tells) (sym other) in
    let seen = (any_are_new (length conf.placement.names) conf.kinds c.in-Ok-any_backends.backends (c.in-Ok-any_backends.ensures ∙ ap (map new_of) c.as_slice-2.ensures) c.requires.usable.kinds).seen in
    let before : Counted = record { input = g.I.Source.faults c.args.input.now; output = g.O.Sink.faults c.args.output.now; port = g.P.Port.faults c.args.port.now; accepted = g.P.Port.accepted c.args.port.now } in
    let now : Counted = record { input = g.I.Source.faults c.serve_over-2.new.input; output = g.O.Sink.faults c.serve_over-2.new.output; port = g.P.Port.faults c.serve_over-2.new.port; accepted = g.P.Port.accepted c.serve_over-2.new.port } in
    runs_serve conf g.D.Store.tells (Found g.S.Store.tells (g.S.Store.held c.args.log)) c.args.dumps false told parts.parts.book.placement parts.ensures.placement _ seen g.D.Store.held g.D.Store.faults (g.I.Source.left c.args.input.now)
    (g.I.Source.left c.serve_over-2.new.input) (g.O.Sink.held c.args.output.now) (g.O.Sink.held c.serve_over-2.new.output) before now parts.parts.accounts parts.ensures.accounts parts.parts.book.cache parts.ensures.cache c.serve_over-2.result
    c.serve_over-2.ensures.served c.serve_over-2.ensures.done c.serve_over-2.ensures.input c.serve_over-2.ensures.output c.serve_over-2.ensures.port

pub returns-clause-refused : goal.returns-clause-refused
returns-clause-refused g c =
    let conf = c.args.conf in
    let parts = c.in-Ok-parts_of-2 in
    let other : in_memory conf ≡ false = by_kinds conf.kinds c.as_slice.result.now c.are_in_memory.result false c.as_slice.ensures c.are_in_memory.ensures c.if-are_in_memory.false in
    let told : false ≡ (in_memory conf && g.D.Store.tells) = ap (λ (b : Bool). b && g.D.Store.tells) (sym other) in
    let seen = (any_are_new (length conf.placement.names) conf.kinds c.in-Ok-any_backends.backends (c.in-Ok-any_backends.ensures ∙ ap (map new_of) c.as_slice-2.ensures) c.requires.usable.kinds).seen in
    refuses_serving conf g.D.Store.tells (Found g.S.Store.tells (g.S.Store.held c.args.log)) c.args.dumps false told parts.parts.book.placement parts.ensures.placement _ seen g.S.Store.faults g.S.Store.held g.S.Store.tells g.D.Store.faults
    g.D.Store.held c.args.log c.serve_over-2.result c.serve_over-2.ensures.refused
