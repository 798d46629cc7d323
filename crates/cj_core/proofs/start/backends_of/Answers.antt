use Rattle.std.proofs.Common.{◌≡◌, ◌<◌, ◌≤◌, ◌++◌, ◌∷◌, [], List, map, reverse, vec_capacity, refl, ap, sym, ◌∙◌, subst}
use Rattle.cj_core.proofs.Cited.{CellState, SeatedCell, started_backend, leaving_first, leaving_last, leaving_more, leaving_room, left_seen, length-map, map_push, reverse-append, state_by, states_of}
use Rattle.cj_core.proofs.start.backends_of.Goals as goal

map_reversed : {X Y : Type 0} (f : X → Y) (xs : List X) → map f (reverse xs) ≡ reverse (map f xs)
map_reversed f [] = refl
map_reversed f (x ∷ xs) =
    ap (map f) (reverse-append (x ∷ []) xs) ∙ (map_push f (reverse xs) x ∙ (ap (λ ys. ys ++ f x ∷ []) (map_reversed f xs) ∙ sym (reverse-append (f x ∷ []) (map f xs))))

-- the last cell is the last of what the world sees
last_state : (before left : List SeatedCell) (x : SeatedCell) → before ≡ left ++ x ∷ [] → states_of before ≡ states_of left ++ x.state ∷ []
last_state before left x is = ap states_of is ∙ map_push (λ (z : SeatedCell). z.state) left x

pub loop-cell-init : goal.loop-cell-init
loop-cell-init g c =
    leaving_first (states_of c.reverse.new.self.items) c.args.backends.items (ap states_of c.reverse.ensures.items ∙ map_reversed (λ (z : SeatedCell). z.state) c.args.cells.items) c.requires.empty
    (subst (λ m. m ≤ vec_capacity c.args.backends) (sym (length-map c.args.cells.items (λ (z : SeatedCell). z.state))) c.requires.room)

pub push_reserved-requires : goal.push_reserved-requires
push_reserved-requires g c =
    let l = c.loop-cell in
    subst (λ m. m < vec_capacity l.backends) (sym l.backends.ok.0) (leaving_room (states_of c.pop.new.self.items) c.in-Some.cell.state (last_state l.cells.items c.pop.new.self.items c.in-Some.cell c.in-Some.ensures.items) l.invariant)

pub loop-cell-preserved : goal.loop-cell-preserved
loop-cell-preserved g c =
    let l = c.loop-cell in
    let x : CellState = c.in-Some.cell.state in
    let y = c.into_backend.result in
    let out = c.into_backend.ensures in
    let seen : state_by g.B.Backend.told g.B.Backend.faults g.B.Backend.asks g.B.Backend.login g.B.Backend.arming y ≡ started_backend x = left_seen (state_by g.B.Backend.told g.B.Backend.faults g.B.Backend.asks g.B.Backend.login g.B.Backend.arming y) x out.told out.faults out.asks out.login out.arming in
    leaving_more (states_of c.pop.new.self.items) x (last_state l.cells.items c.pop.new.self.items c.in-Some.cell c.in-Some.ensures.items) l.invariant y c.push_reserved.new.self.items (vec_capacity c.push_reserved.new.self) seen out.begun c.push_reserved.ensures.items c.push_reserved.ensures.capacity

pub returns-clause-same : goal.returns-clause-same
returns-clause-same g c = (leaving_last (length-map c.loop-cell.cells.items (λ (z : SeatedCell). z.state) ∙ (sym c.loop-cell.cells.ok.0 ∙ c.in_default.ensures.cases.0)) c.loop-cell.invariant).0

pub returns-clause-begun : goal.returns-clause-begun
returns-clause-begun g c = (leaving_last (length-map c.loop-cell.cells.items (λ (z : SeatedCell). z.state) ∙ (sym c.loop-cell.cells.ok.0 ∙ c.in_default.ensures.cases.0)) c.loop-cell.invariant).1
