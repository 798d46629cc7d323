use Rattle.std.proofs.Common.{◌≡◌, ◌+◌, ℕ, refl, List, [], ◌∷◌, length, length-append, take, get_or, map, sym, ap, ◌∙◌, subst, arith}
use Rattle.cj_core.proofs.Cited.{HasRun, IsLegal, IsPrefix, Made, Making, Move, WorldState, given_of, making_legal, making_longer, making_met, making_more, making_none, making_part, making_run, take_all}
use Rattle.cj_core.proofs.runs.run.Goals as goal

pub returns-in_default-clause-runs : goal.returns-in_default-clause-runs
returns-in_default-clause-runs g c =
    making_part g.B.Backend.tells g.B.Backend.can_be_armed c.args.state.now c.args.moves.now 0 [] c.args.state.now c.legal.ensures.world c.requires.are c.requires.count (omega arith) (making_none g.B.Backend.tells g.B.Backend.can_be_armed c.args.state.now c.args.moves.now) c.args.state.now refl refl

pub make_copy-requires : goal.make_copy-requires
make_copy-requires g c =
    let same = ap length c.as_slice-m-items.ensures in
    making_met g.B.Backend.tells g.B.Backend.can_be_armed c.args.state.now c.args.moves.now c.loop-m.m-index c.loop-m.made.items c.loop-m.state c.legal.ensures.world c.requires.are c.requires.count (omega arith) c.loop-m.invariant.making
    c.m-item.result (omega arith) (c.m-item.is ∙ ap (λ (xs : List Move). get_or xs c.loop-m.m-index c.m-item.result) c.as_slice-m-items.ensures)

pub returns-in_default-make_copy-clause-runs : goal.returns-in_default-make_copy-clause-runs
returns-in_default-make_copy-clause-runs g c =
    let same = ap length c.as_slice-m-items.ensures in
    making_part g.B.Backend.tells g.B.Backend.can_be_armed c.args.state.now c.args.moves.now c.loop-m.m-index c.loop-m.made.items c.loop-m.state c.legal.ensures.world c.requires.are c.requires.count (omega arith) c.loop-m.invariant.making c.make_copy.new.state c.in_default-make_copy.ensures.want c.in_default-make_copy.ensures.log_want

pub returns-in_default-make_copy-clause-longer : goal.returns-in_default-make_copy-clause-longer
returns-in_default-make_copy-clause-longer g c =
    let same = ap length c.as_slice-m-items.ensures in
    subst (λ (w : WorldState). IsPrefix c.args.state.now.core.history w.core.history) (sym c.in_default-make_copy.ensures.want)
    (making_longer g.B.Backend.tells g.B.Backend.can_be_armed c.args.state.now c.args.moves.now c.loop-m.m-index c.loop-m.made.items c.loop-m.state c.legal.ensures.world c.requires.are c.requires.count (omega arith) c.loop-m.invariant.making)

pub returns-in_default-make_copy-clause-legal : goal.returns-in_default-make_copy-clause-legal
returns-in_default-make_copy-clause-legal g c =
    let same = ap length c.as_slice-m-items.ensures in
    subst (λ (w : WorldState). IsLegal w.core.history) (sym c.in_default-make_copy.ensures.want)
    (making_legal g.B.Backend.tells g.B.Backend.can_be_armed c.args.state.now c.args.moves.now c.loop-m.m-index c.loop-m.made.items c.loop-m.state c.legal.ensures.world c.requires.are c.requires.count (omega arith) c.loop-m.invariant.making)

pub returns-in_default-make_copy-clause-setup : goal.returns-in_default-make_copy-clause-setup
returns-in_default-make_copy-clause-setup g c = c.make_copy.ensures.setup ∙ c.loop-m.invariant.setup

pub returns-clause-longer : goal.returns-clause-longer
returns-clause-longer g c =
    let same = ap length c.as_slice-m-items.ensures in
    making_longer g.B.Backend.tells g.B.Backend.can_be_armed c.args.state.now c.args.moves.now c.loop-m.m-index c.loop-m.made.items c.loop-m.state c.legal.ensures.world c.requires.are c.requires.count (omega arith) c.loop-m.invariant.making

pub returns-clause-legal : goal.returns-clause-legal
returns-clause-legal g c =
    let same = ap length c.as_slice-m-items.ensures in
    making_legal g.B.Backend.tells g.B.Backend.can_be_armed c.args.state.now c.args.moves.now c.loop-m.m-index c.loop-m.made.items c.loop-m.state c.legal.ensures.world c.requires.are c.requires.count (omega arith) c.loop-m.invariant.making

pub returns-clause-runs : goal.returns-clause-runs
returns-clause-runs g c =
    let same = ap length c.as_slice-m-items.ensures in
    let all : take c.loop-m.m-index c.args.moves.now ≡ c.args.moves.now = take_all c.loop-m.m-index c.args.moves.now (omega arith) in
    let run = making_run g.B.Backend.tells g.B.Backend.can_be_armed c.args.state.now c.args.moves.now c.loop-m.m-index c.loop-m.made.items c.loop-m.state c.legal.ensures.world c.requires.are c.requires.count (omega arith) c.loop-m.invariant.making in
    let whole = subst (λ (ms : List Move). HasRun g.B.Backend.tells g.B.Backend.can_be_armed c.args.state.now ms (map given_of c.loop-m.made.items) c.loop-m.state) all run in
    rw c.from_vec.ensures whole

pub loop-m-preserved : goal.loop-m-preserved
loop-m-preserved g c =
    let same = ap length c.as_slice-m-items.ensures in
    let is = c.m-item.is ∙ ap (λ (xs : List Move). get_or xs c.loop-m.m-index c.m-item.result) c.as_slice-m-items.ensures in
    let more =
    making_more g.B.Backend.tells g.B.Backend.can_be_armed c.args.state.now c.args.moves.now c.loop-m.m-index c.m-item.result c.loop-m.made.items c.loop-m.state c.in-Ok-make_copy.came c.make_copy.new.state (omega arith) is
    c.loop-m.invariant.making (record { moves = c.in-Ok-make_copy.ensures.made; causes = c.in-Ok-make_copy.ensures.causes; log_causes = c.in-Ok-make_copy.ensures.log_causes; armings = c.in-Ok-make_copy.ensures.armings; logins = c.in-Ok-make_copy.ensures.logins; cache = c.in-Ok-make_copy.ensures.cache; setup = c.make_copy.ensures.setup })
    in
    record {
      making =
          subst (λ (came : List Made). Making g.B.Backend.tells g.B.Backend.can_be_armed c.args.state.now c.args.moves.now (c.loop-m.m-index + 1) came c.make_copy.new.state) (sym c.push_reserved.ensures.items) more;
      as_many = ap length c.push_reserved.ensures.items ∙ length-append c.loop-m.made.items (c.in-Ok-make_copy.came ∷ []) ∙ ap (λ (n : ℕ). n + 1) c.loop-m.invariant.as_many;
      room = omega (arith, c.loop-m.invariant.room, c.push_reserved.ensures.capacity);
      setup = c.make_copy.ensures.setup ∙ c.loop-m.invariant.setup;
    }
