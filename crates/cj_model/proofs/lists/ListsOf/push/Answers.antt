use Rattle.std.proofs.Common.{◌≡◌, ◌∷◌, [], ◌++◌, ◌∙◌, sym, ap, length, subst}
use Rattle.cj_model.specs.Proving.Cuts.{AreCut, cut}
use Rattle.cj_model.proofs.CutLaws.{cut_more, cut_pushed}
use Rattle.cj_model.proofs.lists.ListsOf.push.Goals as goal
use Rattle.cj_model.proofs.lists.ListsOf.push.Given as given

module _ (g : given.Over) (c : goal.After-drop-items-2 g) where
  lengths : c.push_reserved.new.self.items ≡ c.self.inside.lengths.items ++ length c.args.list ∷ []
  lengths = c.push_reserved.ensures.items ∙ ap (λ ns. ns ++ c.len-length.result ∷ []) c.reserve.ensures.items ∙ ap (λ n. c.self.inside.lengths.items ++ n ∷ []) c.len-length.ensures

  items : c.append.new.self.items ≡ c.self.inside.items.items ++ c.args.list
  items = c.in_ok-append.ensures.items ∙ ap (λ xs. c.self.inside.items.items ++ xs) c.into_vec-items.ensures

pub invariant_of-self-2 : goal.invariant_of-self-2
invariant_of-self-2 g c = subst (λ ns. AreCut ns c.append.new.self.items) (sym (lengths g c)) (subst (AreCut _) (sym (items g c)) (cut_more c.self.inside.lengths.items c.self.inside.items.items c.args.list c.self.invariant))

pub returns-clause-ok : goal.returns-clause-ok
returns-clause-ok g c = ap (λ ns. cut ns c.append.new.self.items) (lengths g c) ∙ ap (cut _) (items g c) ∙ cut_pushed c.self.inside.lengths.items c.self.inside.items.items c.args.list c.self.invariant ∙ ap (λ lists. lists ++ c.args.list ∷ []) c.self.view_is
