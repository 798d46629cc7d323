use Rattle.std.proofs.Common.{◌∙◌, ◌<◌, ◌≤◌, suc, List, [], ◌∷◌, ◌++◌, length, map, take, drop, set, refl, ap, sym, subst, arith}
use Rattle.std.specs.List.{AllByRecursion}
use Rattle.cj_ptree.specs.declared.child.Child.{Child}
use Rattle.cj_ptree.specs.Branches.{part_of}
use Rattle.cj_ptree.specs.Links.{OwnsNode, target}
use Rattle.cj_ptree.proofs.BranchLaws.{each_out, each_set}
use Rattle.cj_ptree.proofs.EditLaws.{all_next, branch_done, done_all, kept_empty, kept_filled, left_out, left_set, pairs_done}
use Rattle.cj_ptree.proofs.branch.BranchNode.retain.Goals as goal

pub loop-place-init : goal.loop-place-init
loop-place-init g c = record {
  within = omega arith;
  built = c.requires.built.built;
  owned = c.requires.owned;
  done = [];
  rest = map (part_of g.N.Node.pairs) c.args.self.now.children.items;
  all = refl;
  kept = refl;
  left = refl;
}

pub loop-place-preserved-then-retain_below : goal.loop-place-preserved-then-retain_below
loop-place-preserved-then-retain_below g c =
    let pairs = g.N.Node.pairs in
    let stays = g.E.Edit.stays c.args.by.now in
    let edited = g.E.Edit.edited c.args.by.now in
    let cs = c.loop-place.self.children.items in
    let i = c.loop-place.place in
    let all = map (part_of pairs) c.args.self.now.children.items in
    let inv = c.loop-place.invariant in
    let child = c.index_mut.result.now in
    let node = c.retain_below.new.link in
    let changed : Child g.row.K.Denot g.row.N.Denot = record { bound = child.bound; node = node } in
    let h : i < length cs = omega (arith, c.loop-place.self.children.ok.0) in
    let is = c.index_mut.ensures.value in
    let q = c.retain_below.ensures.pairs in
    record {
      within = omega arith;
      built = each_set (λ (x : Child g.row.K.Denot g.row.N.Denot). g.N.Node.IsBuilt (target x.node)) cs i changed c.retain_below.ensures.built inv.built;
      owned = each_set (λ (x : Child g.row.K.Denot g.row.N.Denot). OwnsNode g.N.Node.IsOwned x.node) cs i changed c.retain_below.ensures.owned inv.owned;
      done = inv.done ++ part_of pairs child ∷ [];
      rest = map (part_of pairs) (drop (suc i) cs);
      all = all_next pairs stays edited cs i h child is node q all inv.done inv.rest inv.all inv.kept inv.left;
      kept = kept_filled pairs stays edited cs i h child is node q all inv.done inv.rest inv.all inv.kept inv.left (sym c.if-retain_below.ensures.filled);
      left = left_set pairs stays edited cs i h child is node q all inv.done inv.rest inv.all inv.kept inv.left;
    }

pub loop-place-preserved-else-retain_below : goal.loop-place-preserved-else-retain_below
loop-place-preserved-else-retain_below g c =
    let pairs = g.N.Node.pairs in
    let stays = g.E.Edit.stays c.args.by.now in
    let edited = g.E.Edit.edited c.args.by.now in
    let cs = c.loop-place.self.children.items in
    let i = c.loop-place.place in
    let all = map (part_of pairs) c.args.self.now.children.items in
    let inv = c.loop-place.invariant in
    let child = c.index_mut.result.now in
    let node = c.retain_below.new.link in
    let changed : Child g.row.K.Denot g.row.N.Denot = record { bound = child.bound; node = node } in
    let h : i < length cs = omega (arith, c.loop-place.self.children.ok.0) in
    let is = c.index_mut.ensures.value in
    let q = c.retain_below.ensures.pairs in
    let cut = c.remove.ensures.items in
    record {
      within = omega arith;
      built = subst (λ (xs : List (Child g.row.K.Denot g.row.N.Denot)). AllByRecursion (λ (x : Child g.row.K.Denot g.row.N.Denot). g.N.Node.IsBuilt (target x.node)) xs) (sym cut)
          (each_out (λ (x : Child g.row.K.Denot g.row.N.Denot). g.N.Node.IsBuilt (target x.node)) (set cs i changed) i (each_set (λ (x : Child g.row.K.Denot g.row.N.Denot). g.N.Node.IsBuilt (target x.node)) cs i changed c.retain_below.ensures.built inv.built));
      owned = subst (λ (xs : List (Child g.row.K.Denot g.row.N.Denot)). AllByRecursion (λ (x : Child g.row.K.Denot g.row.N.Denot). OwnsNode g.N.Node.IsOwned x.node) xs) (sym cut)
          (each_out (λ (x : Child g.row.K.Denot g.row.N.Denot). OwnsNode g.N.Node.IsOwned x.node) (set cs i changed) i (each_set (λ (x : Child g.row.K.Denot g.row.N.Denot). OwnsNode g.N.Node.IsOwned x.node) cs i changed c.retain_below.ensures.owned inv.owned));
      done = inv.done ++ part_of pairs child ∷ [];
      rest = map (part_of pairs) (drop (suc i) cs);
      all = all_next pairs stays edited cs i h child is node q all inv.done inv.rest inv.all inv.kept inv.left;
      kept = ap (λ (xs : List (Child g.row.K.Denot g.row.N.Denot)). map (part_of pairs) (take i xs)) cut ∙ kept_empty pairs stays edited cs i h child is node q all inv.done inv.rest inv.all inv.kept inv.left (sym c.if-retain_below.ensures.filled);
      left = ap (λ (xs : List (Child g.row.K.Denot g.row.N.Denot)). map (part_of pairs) (drop i xs)) cut ∙ left_out pairs stays edited cs i h child is node q all inv.done inv.rest inv.all inv.kept inv.left;
    }

pub returns-clause-pairs : goal.returns-clause-pairs
returns-clause-pairs g c =
    let pairs = g.N.Node.pairs in
    let stays = g.E.Edit.stays c.args.by.now in
    let edited = g.E.Edit.edited c.args.by.now in
    let cs = c.loop-place.self.children.items in
    let i = c.loop-place.place in
    let all = map (part_of pairs) c.args.self.now.children.items in
    let inv = c.loop-place.invariant in
    let h : length cs ≤ i = omega (arith, c.loop-place.self.children.ok.0) in
    pairs_done pairs stays edited cs c.args.self.now.children.items (done_all pairs stays edited cs i all inv.done inv.rest h inv.all inv.kept inv.left)

pub returns-clause-built : goal.returns-clause-built
returns-clause-built g c =
    let pairs = g.N.Node.pairs in
    let stays = g.E.Edit.stays c.args.by.now in
    let edited = g.E.Edit.edited c.args.by.now in
    let cs = c.loop-place.self.children.items in
    let i = c.loop-place.place in
    let all = map (part_of pairs) c.args.self.now.children.items in
    let inv = c.loop-place.invariant in
    let h : length cs ≤ i = omega (arith, c.loop-place.self.children.ok.0) in
    branch_done pairs stays edited g.N.Node.IsBuilt g.K.Ord.cmp cs c.args.self.now.children.items (done_all pairs stays edited cs i all inv.done inv.rest h inv.all inv.kept inv.left) inv.built c.requires.built
