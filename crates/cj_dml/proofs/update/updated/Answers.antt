use Rattle.std.proofs.Common.{◌∷◌, [], sym, ap, ◌∙◌}
use Rattle.cj_dml.proofs.Cited.{Schema, all_past, first_refused, keeps_key, list_any, scope_of, second_refused, sets_key, sets_twice, third_refused, ◌||◌}
use Rattle.cj_dml.proofs.update.updated.Goals as goal

pub returns-then-names_unknown_column : goal.returns-then-names_unknown_column
returns-then-names_unknown_column c =
    let is = c.in_ok-scope.ensures ∙ ap (λ (s : Schema). scope_of (s ∷ [])) c.schema-schema.ensures in
    first_refused c.args.is_undrafted c.args.view.now c.args.sets.now c.args.when.now c.in_ok-scope.scope is c.of_code.result (sym c.names_unknown_column.ensures ∙ c.if-names_unknown_column.true) c.of_code.ensures

pub returns-then-branch : goal.returns-then-branch
returns-then-branch c =
    let t = c.args.view.now in
    let sets = c.args.sets.now in
    let is = c.in_ok-scope.ensures ∙ ap (λ (s : Schema). scope_of (s ∷ [])) c.schema-schema.ensures in
    let named = sym c.names_unknown_column.ensures ∙ c.if-names_unknown_column.false in
    let set = ap (λ (s : Schema). sets_twice sets || list_any (sets_key c.in_ok-scope.scope s.key) sets) (sym c.schema-schema.ensures) ∙ sym c.in_ok-sets_badly.ensures in
    second_refused c.args.is_undrafted t sets c.args.when.now c.in_ok-scope.scope is c.of_code-then-branch.result named (set ∙ c.if-branch.true) c.of_code-then-branch.ensures

pub returns-then-has_mixed_kinds : goal.returns-then-has_mixed_kinds
returns-then-has_mixed_kinds c =
    let t = c.args.view.now in
    let sets = c.args.sets.now in
    let is = c.in_ok-scope.ensures ∙ ap (λ (s : Schema). scope_of (s ∷ [])) c.schema-schema.ensures in
    let named = sym c.names_unknown_column.ensures ∙ c.if-names_unknown_column.false in
    let set = ap (λ (s : Schema). sets_twice sets || list_any (sets_key c.in_ok-scope.scope s.key) sets) (sym c.schema-schema.ensures) ∙ sym c.in_ok-sets_badly.ensures in
    third_refused c.args.is_undrafted t sets c.args.when.now c.in_ok-scope.scope is c.of_code-then-has_mixed_kinds.result named (set ∙ c.if-branch.false) (sym c.has_mixed_kinds.ensures ∙ c.if-has_mixed_kinds.true) c.of_code-then-has_mixed_kinds.ensures

pub with_assignments-requires : goal.with_assignments-requires
with_assignments-requires c =
    let t = c.args.view.now in
    let sets = c.args.sets.now in
    let is = c.in_ok-scope.ensures ∙ ap (λ (s : Schema). scope_of (s ∷ [])) c.schema-schema.ensures in
    let set = ap (λ (s : Schema). sets_twice sets || list_any (sets_key c.in_ok-scope.scope s.key) sets) (sym c.schema-schema.ensures) ∙ sym c.in_ok-sets_badly.ensures in
    keeps_key c.args.is_undrafted t sets c.args.when.now c.in_ok-scope.scope is (set ∙ c.if-branch.false)

pub returns : goal.returns
returns c =
    let t = c.args.view.now in
    let sets = c.args.sets.now in
    let is = c.in_ok-scope.ensures ∙ ap (λ (s : Schema). scope_of (s ∷ [])) c.schema-schema.ensures in
    let named = sym c.names_unknown_column.ensures ∙ c.if-names_unknown_column.false in
    let set = ap (λ (s : Schema). sets_twice sets || list_any (sets_key c.in_ok-scope.scope s.key) sets) (sym c.schema-schema.ensures) ∙ sym c.in_ok-sets_badly.ensures in
    all_past c.args.is_undrafted t sets c.args.when.now c.in_ok-scope.scope is c.in_ok-decided.decided named (set ∙ c.if-branch.false) (sym c.has_mixed_kinds.ensures ∙ c.if-has_mixed_kinds.false) c.in_ok-decided.ensures
