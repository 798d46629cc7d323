use Rattle.std.proofs.Common.{◌≡◌, List, ℕ, [], true, false, map, ap, sym, ◌∙◌, subst}
use Rattle.std.proofs.lemmas.List.Elements.{All-nil, filter_passes}
use Rattle.std.proofs.lemmas.Result.{IfOk-weaker}
use Rattle.cj_place.proofs.Common.{All, HostRow, Layout, PlaceRow, cond-false, filter, fold, hosts, is_name, map-map, name_cmp, placement_of, put_by}
use Rattle.cj_model.proofs.RisingLaws.{all_put_each}
use Rattle.cj_place.proofs.placement.Placement.covered.Goals as goal

-- the names among some tables
abbrev names_of : List (List ℕ) → List (List ℕ)
names_of tables = fold (put_by name_cmp) [] (filter is_name tables)

all_names : (tables set : List (List ℕ)) → set ≡ names_of tables → All (λ name. is_name name ≡ true) set
all_names tables set e = subst (All (λ name. is_name name ≡ true)) (sym e) (all_put_each name_cmp (λ name. is_name name ≡ true) [] (filter is_name tables) (All-nil (λ name. is_name name ≡ true)) (filter_passes is_name tables))

pub returns-clause-tables : goal.returns-clause-tables
returns-clause-tables c =
    let layout = c.args.self.now in
    let part : layout.full ≡ false = sym (ap (λ (l : Layout). l.full) c.self.view_is) ∙ c.if-self.false in
    let tables : map (λ (row : HostRow). row.given.table) c.as_slice.result.now ≡ map (λ (row : PlaceRow). row.table) layout.rows =
    ap (map (λ (row : HostRow). row.given.table)) c.as_slice.ensures
    ∙ sym (map-map (λ (row : PlaceRow). row.table) (λ (row : HostRow). row.given) c.self.inside.rows)
    ∙ ap (λ (l : Layout). map (λ (row : PlaceRow). row.table) l.rows) c.self.view_is in
    IfOk-weaker c.covered_of.result _ _ (λ set e. e ∙ ap (λ (ts : List (List ℕ)). names_of (filter (hosts (placement_of layout) c.args.b) ts)) tables ∙ sym (cond-false layout.full _ _ part)) c.covered_of.ensures

pub returns-clause-names : goal.returns-clause-names
returns-clause-names c = IfOk-weaker c.covered_of.result _ _ (λ set e. all_names _ set e) c.covered_of.ensures
