use Rattle.std.proofs.Common.{◌≡◌, ◌<◌, ◌≤◌, [], Some, length, vec_capacity, ap, sym, ◌∙◌, subst, arith}
use Rattle.cj_core.proofs.Cited.{BACKEND_LIMIT, IsFresh, Layout, SeatedCell, started_backend, length-map, made_fresh, map_push, moving_first, moving_last, moving_more, moving_none, moving_room, placement_of, seating_first, seating_more, seating_nothing, state_by, states_of}
use Rattle.cj_core.proofs.start.cells_of.Goals as goal

pub loop-backend-init : goal.loop-backend-init
loop-backend-init g c =
    let made = c.in_ok-cells.ensures in (
      moving_first c.reverse.new.self.items c.reverse.ensures.items c.requires.as_many (ap states_of made.items) (subst (λ m. m ≤ vec_capacity c.in_ok-cells.cells) c.count.ensures.count made.capacity) c.requires.none,
      seating_first c.args.backends.now.items c.reverse.new.self.items c.args.seats.items c.reverse-2.new.self.items c.in_ok-cells.cells.items c.reverse.ensures.items c.reverse-2.ensures.items c.requires.seats.0 c.requires.seats.1 c.requires.nothing made.items,
    )

pub overflow_cast-b : goal.overflow_cast-b
overflow_cast-b g c =
    let l = c.loop-backend in
    let room = moving_room c.pop.new.self.items c.in-Some.backend c.in-Some.ensures.items l.invariant.0 in
    let is : c.len-b.result ≡ length (states_of l.cells.items) = c.len-b.ensures ∙ (l.cells.ok.0 ∙ sym (length-map l.cells.items (λ (x : SeatedCell). x.state))) in
    let lt : length (states_of l.cells.items) < length c.args.placement.now.names = room.0 in
    let few : length c.args.placement.now.names ≤ BACKEND_LIMIT = subst (λ m. m ≤ BACKEND_LIMIT) c.count.ensures.count c.count.ensures.most in
    omega arith

pub new-requires-clause-begun : goal.new-requires-clause-begun
new-requires-clause-begun g c = moving_none c.pop.new.self.items c.in-Some.backend c.in-Some.ensures.items c.loop-backend.invariant.0

pub new-requires-clause-empty : goal.new-requires-clause-empty
new-requires-clause-empty g c = seating_nothing c.pop.new.self.items c.in-Some.backend c.in-Some.ensures.items c.pop-in-Some.new.self.items c.in-Some-pop.seat c.in-Some-pop.ensures.items c.loop-backend.cells.items c.loop-backend.invariant.1

pub push_reserved-requires : goal.push_reserved-requires
push_reserved-requires g c =
    let l = c.loop-backend in
    subst (λ m. m < vec_capacity l.cells) (length-map l.cells.items (λ (x : SeatedCell). x.state) ∙ sym l.cells.ok.0) (moving_room c.pop.new.self.items c.in-Some.backend c.in-Some.ensures.items l.invariant.0).1

pub loop-backend-preserved : goal.loop-backend-preserved
loop-backend-preserved g c =
    let l = c.loop-backend in
    let x = c.in-Some.backend in
    let y : SeatedCell = c.new.result in
    let seen = state_by g.B.Backend.told g.B.Backend.faults g.B.Backend.asks g.B.Backend.login g.B.Backend.arming x in
    let p = placement_of c.args.placement.now in
    let number : c.len-b.result ≡ length (states_of l.cells.items) = c.len-b.ensures ∙ (l.cells.ok.0 ∙ sym (length-map l.cells.items (λ (z : SeatedCell). z.state))) in
    let made : y.state ≡ record { b = c.len-b.result; placement = p; position = Some 0; begun = []; login = seen.login; told = seen.told; faults = seen.faults; asks = seen.asks; arming = seen.arming } =
    subst (λ (q : Layout). y.state ≡ record { b = c.len-b.result; placement = placement_of q; position = Some 0; begun = []; login = seen.login; told = seen.told; faults = seen.faults; asks = seen.asks; arming = seen.arming }) c.in_ok-placement.ensures (ap (λ (z : SeatedCell). z.state) c.new.ensures)
    in (
      moving_more c.pop.new.self.items x c.in-Some.ensures.items l.invariant.0 y.state (states_of c.push_reserved.new.self.items) (vec_capacity c.push_reserved.new.self)
          (subst (λ n. IsFresh p n y.state × (started_backend y.state ≡ seen)) number (made_fresh c.len-b.result p seen y.state made)) (ap states_of c.push_reserved.ensures.items ∙ map_push (λ (z : SeatedCell). z.state) l.cells.items y) c.push_reserved.ensures.capacity,
      seating_more c.pop.new.self.items x c.in-Some.ensures.items c.pop-in-Some.new.self.items c.in-Some-pop.seat c.in-Some-pop.ensures.items l.cells.items l.invariant.1 y c.push_reserved.new.self.items (ap (λ (z : SeatedCell). z.board) c.new.ensures) c.push_reserved.ensures.items,
    )

pub returns-clause-fresh : goal.returns-clause-fresh
returns-clause-fresh g c = (moving_last (sym c.loop-backend.backends.ok.0 ∙ c.in_default.ensures.cases.0) c.loop-backend.invariant.0).0

pub returns-clause-same : goal.returns-clause-same
returns-clause-same g c = (moving_last (sym c.loop-backend.backends.ok.0 ∙ c.in_default.ensures.cases.0) c.loop-backend.invariant.0).1
