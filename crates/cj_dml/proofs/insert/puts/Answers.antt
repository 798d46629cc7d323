use Rattle.std.proofs.Common.{◌≡◌, true, false, List, [], ◌∷◌, ◌++◌, ap, sym, ◌∙◌, subst}
use Rattle.std.specs.declared.option.Option.TheVariants.{Some}
use Rattle.cj_dml.proofs.Cited.{RowEntries, Value, append_assoc, at, cell, cond-true, has_key, has_key_twice, insert_entry, is_some, known_put, none_of, or_right, put_one_more, twice_more, twice_still, value_cmp}
use Rattle.cj_dml.proofs.insert.puts.Goals as goal

pub returns-then-knows : goal.returns-then-knows
returns-then-knows c =
    let k = c.args.place in
    let row = c.in-Some.row in
    let before = c.loop-row.yielded in
    let key = c.in_ok-key.ensures ∙ ap (λ (r : List Value). cell r k) c.as_slice.ensures in
    let known : has_key k before row ≡ true =
    sym (known_put k before row) ∙ ap (λ (es : RowEntries). is_some (at value_cmp (cell row k) es)) (sym c.loop-row.invariant.so_far)
    ∙ ap (λ (v : Value). is_some (at value_cmp v c.loop-row.changes)) (sym key)
    ∙ sym c.knows.ensures ∙ c.if-knows.true in
    let so_far : has_key_twice k (before ++ row ∷ []) ≡ true = twice_more k before row ∙ or_right (has_key_twice k before) _ known in
    let all : before ++ row ∷ [] ++ c.next.new.self.rest.items ≡ c.args.rows = append_assoc before (row ∷ []) c.next.new.self.rest.items ∙ ap (λ (l : List (List Value)). before ++ l) (sym c.in-Some.ensures.steps.0) ∙ c.loop-row.invariant.all in
    sym (cond-true _ _ _ (subst (λ (l : List (List Value)). has_key_twice k l ≡ true) all (twice_still k (before ++ row ∷ []) c.next.new.self.rest.items so_far)))

pub loop-row-preserved : goal.loop-row-preserved
loop-row-preserved c =
    let k = c.args.place in
    let row = c.in-Some.row in
    let before = c.loop-row.yielded in
    let key = c.in_ok-key.ensures ∙ ap (λ (r : List Value). cell r k) c.as_slice.ensures in
    let fresh : has_key k before row ≡ false =
    sym (known_put k before row) ∙ ap (λ (es : RowEntries). is_some (at value_cmp (cell row k) es)) (sym c.loop-row.invariant.so_far)
    ∙ ap (λ (v : Value). is_some (at value_cmp v c.loop-row.changes)) (sym key)
    ∙ sym c.knows.ensures ∙ c.if-knows.false in
    record {
      can_next = tt;
      is_finite = tt;
      all = append_assoc before (row ∷ []) c.next.new.self.rest.items ∙ ap (λ (l : List (List Value)). before ++ l) (sym c.in-Some.ensures.steps.0) ∙ c.loop-row.invariant.all;
      so_far = c.in_ok-insert.ensures.ok ∙ ap (λ (v : Value). insert_entry value_cmp c.loop-row.changes v (Some row)) key
          ∙ ap (λ (es : RowEntries). insert_entry value_cmp es (cell row k) (Some row)) c.loop-row.invariant.so_far ∙ put_one_more k before row [];
      once = twice_more k before row ∙ none_of (has_key_twice k before) (has_key k before row) c.loop-row.invariant.once fresh;
    }
