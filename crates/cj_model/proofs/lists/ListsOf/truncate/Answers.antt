use Rattle.std.proofs.Common.{◌≡◌, ◌-◌, ◌∙◌, sym, ap, drop, length, subst, take, arith}
use Rattle.std.specs.List.{flat_map}
use Rattle.cj_model.specs.Proving.Cuts.{AreCut, cut}
use Rattle.cj_model.proofs.CutLaws.{behind_within, cut_front, cut_to}
use Rattle.cj_model.proofs.lists.ListsOf.truncate.Given as given
use Rattle.cj_model.proofs.lists.ListsOf.truncate.Goals as goal

pub overflow_sub-kept : goal.overflow_sub-kept
overflow_sub-kept g c = omega (arith, c.behind-behind.ensures, ap length c.items.ensures, behind_within c.args.count c.args.self.now)

module _ (g : given.Over) (c : goal.After-truncate-2 g) where
  kept : c.truncate-2.new.self.items ≡ take (length (flat_map (λ list. list) c.args.self.now) - length (flat_map (λ list. list) (drop c.args.count c.args.self.now))) c.self.inside.items.items
  kept = c.truncate-2.ensures.items ∙ ap (λ n. take n c.self.inside.items.items) (ap (λ n. n - c.behind-behind.result) (ap length c.items.ensures) ∙ ap (λ n. length (flat_map (λ list. list) c.args.self.now) - n) c.behind-behind.ensures)

pub invariant_of-self : goal.invariant_of-self
invariant_of-self g c =
    subst (λ ns. AreCut ns c.truncate-2.new.self.items) (sym c.truncate.ensures.items)
    (subst (AreCut _) (sym (kept g c)) (cut_front _ _ c.args.count c.self.invariant c.args.self.now c.self.view_is))

pub returns : goal.returns
returns g c =
    ap (λ ns. cut ns c.truncate-2.new.self.items) c.truncate.ensures.items ∙ ap (cut _) (kept g c)
    ∙ cut_to _ _ c.args.count c.self.invariant c.args.self.now c.self.view_is
