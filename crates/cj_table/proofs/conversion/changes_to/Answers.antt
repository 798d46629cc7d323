use Rattle.std.proofs.Common.{◌≡◌, ◌∙◌, ◌++◌, ◌∷◌, List, [], map, sym, ap, subst}
use Rattle.cj_table.proofs.Cited.{Rises, SettlesRow, Turned, Value, append-nil, append_assoc, by_key, deref, map-append, puts, turned_all, turned_more}
use Rattle.cj_table.proofs.conversion.changes_to.Goals as goal

pub loop-row-preserved : goal.loop-row-preserved
loop-row-preserved c =
    let k = c.args.place in
    let row = c.in-Some.row.now in
    let before : List (List Value) = map deref c.loop-row.yielded in
    let rest : List (List Value) = c.next.new.self in
    let i = c.loop-row.invariant in
    let more : map deref (c.loop-row.yielded ++ c.in-Some.row ∷ []) ≡ before ++ row ∷ [] = map-append deref c.loop-row.yielded (c.in-Some.row ∷ []) in
    let all : before ++ row ∷ rest ≡ c.args.old = ap (λ (l : List (List Value)). before ++ l) (sym c.in-Some.ensures.steps) ∙ i.all in
    let settles = subst (λ (v : Value). SettlesRow v row c.loop-row.changes c.settle.new.self) c.in_ok-key.ensures c.in_ok-settle.ensures.settles in
    record {
      rises = c.in_ok-settle.ensures.rises;
      turned = subst (λ (l : List (List Value)). Turned k l (puts k c.args.new) c.settle.new.self) (sym more)
          (turned_more k row before rest (subst (Rises (by_key k)) (sym all) c.requires.old) (puts k c.args.new) c.loop-row.changes c.settle.new.self i.turned settles);
      all = ap (λ (l : List (List Value)). l ++ rest) more ∙ append_assoc before (row ∷ []) rest ∙ all;
    }

pub returns : goal.returns
returns c =
    let i = c.loop-row.invariant in
    let done : map deref c.loop-row.yielded ≡ c.args.old =
    sym (append-nil (map deref c.loop-row.yielded)) ∙ ap (λ (l : List (List Value)). map deref c.loop-row.yielded ++ l) (sym c.in-None.ensures.steps.0) ∙ i.all in
    turned_all c.args.place c.args.old c.args.new c.loop-row.changes c.requires.old c.requires.new i.rises
    (subst (λ (l : List (List Value)). Turned c.args.place l (puts c.args.place c.args.new) c.loop-row.changes) done i.turned)
