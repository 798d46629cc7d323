use Rattle.std.proofs.Common.{◌≡◌, Bool, true, cond, filter, fold, [], Some, ap, sym, ◌∙◌, subst}
use Rattle.cj_state.proofs.Cited.{Dump, IsHeld, Layout, WorldState, core_of, dumps_push, is_name, kept_dumped, name_cmp, name_some, position_at, put_by, states_of, hosted_tables}
use Rattle.cj_state.proofs.state.State.keep_dump.Goals as goal

pub add-requires : goal.add-requires
add-requires g c =
    let layout : Layout = c.placement.result.now in
    let replicates : (full : c.all.result ≡ true) → layout.full ≡ true =
    λ full. ap (λ (l : Layout). l.full) c.placement.ensures ∙ (sym (ap (λ (l : Layout). l.full) c.placement-2.ensures) ∙ (sym c.all.ensures ∙ full))
    in
    record {
      name = λ is. name_some c.args.name.now c.requires.named (sym c.copy.ensures ∙ is);
      covers = c.in_ok-covers.ensures.names;
      none = λ full. c.in_ok-covers.ensures.tables ∙ ap (λ (t : Bool). cond t [] (fold (put_by name_cmp) [] (filter is_name (hosted_tables layout c.args.b)))) (replicates full);
      db = c.requires.storable;
    }

pub invariant_of-self : goal.invariant_of-self
invariant_of-self g c = rw c.in_err-add.ensures.err c.self.invariant

pub invariant_of-self-2 : goal.invariant_of-self-2
invariant_of-self-2 g c =
    let w = c.self.inside in
    let tells = g.B.Backend.tells in
    let d : Dump = record { position = c.in-Some.position; source = c.args.b; name = c.copy.result; all = c.all.result; covers = c.in_ok-covers.covers; db = c.args.db } in
    let at : position_at (core_of w.book.state.layout w.book.state.history (states_of w.cells.items) w.tally.failed w.tally.starved w.sessions w.book.state.greatest w.dumps) c.args.b ≡ Some c.in-Some.position =
    subst (λ (x : WorldState). position_at x.core c.args.b ≡ Some c.in-Some.position) (sym c.self.view_is) (sym c.position.ensures ∙ c.in-Some.is)
    in
    let held = subst (λ (x : WorldState). IsHeld tells x.core c.args.b c.args.db) (sym c.self.view_is) c.requires.held in
    rw c.in_ok-add.ensures.ok (
      kept_dumped tells w.accounts w.book.state.layout w.book.state.history (states_of w.cells.items) w.tally.failed w.tally.starved w.sessions w.book.state.greatest w.dumps w.book.state.sessions w.tally c.self.invariant.0 d at,
      c.self.invariant.1,
      dumps_push tells w.accounts w.book.state.layout w.book.state.history (states_of w.cells.items) w.tally.failed w.tally.starved w.sessions w.book.state.greatest w.dumps w.book.state.sessions w.tally c.self.invariant.0 d at held c.self.invariant.2,
      c.self.invariant.3,
      c.self.invariant.4,
    )
