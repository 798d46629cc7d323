use Rattle.std.proofs.Common.{rules, ◌≡◌, ap, sym, ◌∙◌, subst}
use Rattle.std.specs.Prelude.{is_some}
use Rattle.cj_book.specs.Books.{read_at, BookState}
use Rattle.cj_locked.specs.declared.look.Look.{Look}
use Rattle.cj_locked.specs.declared.look.Look.TheVariants.{Ask, Tried}
use Rattle.cj_locked.specs.Looking.{IsPickOf}
use Rattle.cj_locked.proofs.Balancing.{locked_after_read}
use Rattle.cj_locked.proofs.Looking.{picks_none, picks_some, rest_below}
use Rattle.cj_locked.proofs.book.LockedBook.pick.Goals as goal
use Rattle.cj_locked.proofs.book.LockedBook.pick.Goals.{in-None, in-Some}

pub pick-requires : goal.pick-requires
pick-requires g c = rest_below c.args.serving c.args.tried c.without.result c.requires.below c.without.ensures

pub invariant_of-self : goal.invariant_of-self
invariant_of-self g c =
    elim c.match-pick.branch [
      | in-Some w ↦ locked_after_read g.J.Naming.board g.J.Naming.layout g.S.Store.tells g.S.Store.faults c.self.inside.ledger.total c.self.inside.book c.pick.new.self _ c.pick.ensures.seat c.self.invariant
          (read_at c.self.inside.book.state.balance w.in-Some.b) w.in-Some.ensures.some.stands
      | in-None w ↦ locked_after_read g.J.Naming.board g.J.Naming.layout g.S.Store.tells g.S.Store.faults c.self.inside.ledger.total c.self.inside.book c.pick.new.self _ c.pick.ensures.seat c.self.invariant
          c.self.inside.book.state.balance (c.pick.ensures.same (ap is_some w.in-None.is))
    ]

pub returns-clause-picks : goal.returns-clause-picks
returns-clause-picks g c =
    let same : c.args.self.now.book.state ≡ c.self.inside.book.state = search rules in
    elim c.match-pick.branch [
      | in-Some w ↦ (let is : Ask w.in-Some.b c.args.owed ≡ c.match-pick.result = cc w.result-is in
          subst (λ (l : Look). IsPickOf c.args.self.now.book.state c.args.serving c.args.tried c.args.owed l c.pick.new.self.state) is
          (subst (λ (x : BookState). IsPickOf x c.args.serving c.args.tried c.args.owed (Ask w.in-Some.b c.args.owed) c.pick.new.self.state) (sym same)
          (picks_some c.self.inside.book.state c.pick.new.self.state c.args.serving c.args.tried c.without.result c.args.owed c.without.ensures w.in-Some.b w.in-Some.ensures.some)))
      | in-None w ↦ (let is : Tried c.args.serving ≡ c.match-pick.result = cc w.result-is in
          subst (λ (l : Look). IsPickOf c.args.self.now.book.state c.args.serving c.args.tried c.args.owed l c.pick.new.self.state) is
          (subst (λ (x : BookState). IsPickOf x c.args.serving c.args.tried c.args.owed (Tried c.args.serving) c.pick.new.self.state) (sym same)
          (picks_none c.self.inside.book.state c.pick.new.self.state c.args.serving c.args.tried c.without.result c.args.owed c.without.ensures (c.pick.ensures.none.0 (ap is_some w.in-None.is)) (c.pick.ensures.same (ap is_some w.in-None.is)))))
    ]

pub returns-clause-history : goal.returns-clause-history
returns-clause-history g c =
    let same : c.args.self.now.book.state ≡ c.self.inside.book.state = search rules in
    elim c.match-pick.branch [
      | in-Some w ↦ ap (λ (x : BookState). x.history) w.in-Some.ensures.some.stands ∙ ap (λ (x : BookState). x.history) (sym same)
      | in-None w ↦ ap (λ (x : BookState). x.history) (c.pick.ensures.same (ap is_some w.in-None.is) ∙ sym same)
    ]
