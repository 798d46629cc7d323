use Rattle.std.proofs.Common.{◌∙◌, ◌<◌, List, length, set, ap, subst, sym}
use Rattle.cj_ptree.specs.declared.child.Child.{Child}
use Rattle.cj_ptree.specs.Branches.{IsBranch, branch_pairs}
use Rattle.cj_ptree.specs.Links.{target}
use Rattle.cj_ptree.specs.Parts.{all_pairs}
use Rattle.cj_ptree.proofs.BranchLaws.{cut_branch, cut_pairs, each_set, filled_set, gone_branch, gone_pairs, lookup_child, on_err, same_branch, same_parts}
use Rattle.cj_ptree.proofs.RetainLaws.{empty_from}
use Rattle.cj_ptree.proofs.branch.BranchNode.remove.Goals as goal

pub returns-in_err-old-clause-err : goal.returns-in_err-old-clause-err
returns-in_err-old-clause-err g c =
    let pairs = g.N.Node.pairs in
    let IsBuilt = g.N.Node.IsBuilt in
    let R = g.K.Ord.cmp in
    let o = g.met.K.Ord.total in
    let cs = c.args.self.now.children.items in
    let ds = c.deref.result.now in
    let v = c.deref.ensures.value in
    let i = c.child_of-place.result in
    let w = c.child_of-place.ensures.within in
    let k = c.args.key.now in
    let s = c.child_of-place.ensures.start in
    let e = c.child_of-place.ensures.end in
    let child = c.index_mut.result.now in
    let is = c.index_mut.ensures.value in
    let node = c.remove_below.new.link in
    let changed : Child g.row.K.Denot g.row.N.Denot = record { bound = child.bound; node = node } in
    let h : i < length cs = subst (λ (xs : List (Child g.row.K.Denot g.row.N.Denot)). i < length xs) v w in
    on_err _ (ap all_pairs (same_parts pairs IsBuilt R o cs i child node h is c.in_err-old.ensures.err))

pub returns-in_err-old-clause-built : goal.returns-in_err-old-clause-built
returns-in_err-old-clause-built g c =
    let pairs = g.N.Node.pairs in
    let IsBuilt = g.N.Node.IsBuilt in
    let R = g.K.Ord.cmp in
    let o = g.met.K.Ord.total in
    let cs = c.args.self.now.children.items in
    let ds = c.deref.result.now in
    let v = c.deref.ensures.value in
    let i = c.child_of-place.result in
    let w = c.child_of-place.ensures.within in
    let k = c.args.key.now in
    let s = c.child_of-place.ensures.start in
    let e = c.child_of-place.ensures.end in
    let child = c.index_mut.result.now in
    let is = c.index_mut.ensures.value in
    let node = c.remove_below.new.link in
    let changed : Child g.row.K.Denot g.row.N.Denot = record { bound = child.bound; node = node } in
    let h : i < length cs = subst (λ (xs : List (Child g.row.K.Denot g.row.N.Denot)). i < length xs) v w in
    same_branch pairs IsBuilt R o cs (set cs i changed) (same_parts pairs IsBuilt R o cs i child node h is c.in_err-old.ensures.err)
    (each_set (λ (x : Child g.row.K.Denot g.row.N.Denot). IsBuilt (target x.node)) cs i changed c.remove_below.ensures.built c.requires.built) c.requires

pub returns-then-is_filled-clause-value : goal.returns-then-is_filled-clause-value
returns-then-is_filled-clause-value g c =
    let pairs = g.N.Node.pairs in
    let IsBuilt = g.N.Node.IsBuilt in
    let R = g.K.Ord.cmp in
    let o = g.met.K.Ord.total in
    let cs = c.args.self.now.children.items in
    let ds = c.deref.result.now in
    let v = c.deref.ensures.value in
    let i = c.child_of-place.result in
    let w = c.child_of-place.ensures.within in
    let k = c.args.key.now in
    let s = c.child_of-place.ensures.start in
    let e = c.child_of-place.ensures.end in
    let child = c.index_mut.result.now in
    let is = c.index_mut.ensures.value in
    let node = c.remove_below.new.link in
    c.in_ok-old.ensures.value ∙ sym (lookup_child pairs IsBuilt R o cs ds v i w c.requires k s e child is)

pub returns-then-is_filled-clause-ok : goal.returns-then-is_filled-clause-ok
returns-then-is_filled-clause-ok g c =
    let pairs = g.N.Node.pairs in
    let IsBuilt = g.N.Node.IsBuilt in
    let R = g.K.Ord.cmp in
    let o = g.met.K.Ord.total in
    let cs = c.args.self.now.children.items in
    let ds = c.deref.result.now in
    let v = c.deref.ensures.value in
    let i = c.child_of-place.result in
    let w = c.child_of-place.ensures.within in
    let k = c.args.key.now in
    let s = c.child_of-place.ensures.start in
    let e = c.child_of-place.ensures.end in
    let child = c.index_mut.result.now in
    let is = c.index_mut.ensures.value in
    let node = c.remove_below.new.link in
    cut_pairs pairs IsBuilt R o cs ds v i w c.requires k s e child is node c.in_ok-old.ensures.ok

pub returns-then-is_filled-clause-built : goal.returns-then-is_filled-clause-built
returns-then-is_filled-clause-built g c =
    let pairs = g.N.Node.pairs in
    let IsBuilt = g.N.Node.IsBuilt in
    let R = g.K.Ord.cmp in
    let o = g.met.K.Ord.total in
    let cs = c.args.self.now.children.items in
    let ds = c.deref.result.now in
    let v = c.deref.ensures.value in
    let i = c.child_of-place.result in
    let w = c.child_of-place.ensures.within in
    let k = c.args.key.now in
    let s = c.child_of-place.ensures.start in
    let e = c.child_of-place.ensures.end in
    let child = c.index_mut.result.now in
    let is = c.index_mut.ensures.value in
    let node = c.remove_below.new.link in
    let changed : Child g.row.K.Denot g.row.N.Denot = record { bound = child.bound; node = node } in
    let h : i < length cs = subst (λ (xs : List (Child g.row.K.Denot g.row.N.Denot)). i < length xs) v w in
    cut_branch pairs IsBuilt R o cs ds v i w c.requires k s e child is node c.in_ok-old.ensures.ok c.remove_below.ensures.built (filled_set pairs cs i changed c.index.result.now c.node.result.now c.is_filled.result h c.index.ensures c.node.ensures c.is_filled.ensures ∙ c.if-is_filled.true)

pub returns-clause-value : goal.returns-clause-value
returns-clause-value g c =
    let pairs = g.N.Node.pairs in
    let IsBuilt = g.N.Node.IsBuilt in
    let R = g.K.Ord.cmp in
    let o = g.met.K.Ord.total in
    let cs = c.args.self.now.children.items in
    let ds = c.deref.result.now in
    let v = c.deref.ensures.value in
    let i = c.child_of-place.result in
    let w = c.child_of-place.ensures.within in
    let k = c.args.key.now in
    let s = c.child_of-place.ensures.start in
    let e = c.child_of-place.ensures.end in
    let child = c.index_mut.result.now in
    let is = c.index_mut.ensures.value in
    let node = c.remove_below.new.link in
    c.in_ok-old.ensures.value ∙ sym (lookup_child pairs IsBuilt R o cs ds v i w c.requires k s e child is)

pub returns-clause-ok : goal.returns-clause-ok
returns-clause-ok g c =
    let pairs = g.N.Node.pairs in
    let IsBuilt = g.N.Node.IsBuilt in
    let R = g.K.Ord.cmp in
    let o = g.met.K.Ord.total in
    let cs = c.args.self.now.children.items in
    let ds = c.deref.result.now in
    let v = c.deref.ensures.value in
    let i = c.child_of-place.result in
    let w = c.child_of-place.ensures.within in
    let k = c.args.key.now in
    let s = c.child_of-place.ensures.start in
    let e = c.child_of-place.ensures.end in
    let child = c.index_mut.result.now in
    let is = c.index_mut.ensures.value in
    let node = c.remove_below.new.link in
    let changed : Child g.row.K.Denot g.row.N.Denot = record { bound = child.bound; node = node } in
    let h : i < length cs = subst (λ (xs : List (Child g.row.K.Denot g.row.N.Denot)). i < length xs) v w in
    ap (λ (xs : List (Child g.row.K.Denot g.row.N.Denot)). branch_pairs pairs xs) c.remove.ensures.items
    ∙ gone_pairs pairs IsBuilt R o cs ds v i w c.requires k s e child is node c.in_ok-old.ensures.ok (empty_from _ (filled_set pairs cs i changed c.index.result.now c.node.result.now c.is_filled.result h c.index.ensures c.node.ensures c.is_filled.ensures ∙ c.if-is_filled.false))

pub returns-clause-built : goal.returns-clause-built
returns-clause-built g c =
    let pairs = g.N.Node.pairs in
    let IsBuilt = g.N.Node.IsBuilt in
    let R = g.K.Ord.cmp in
    let o = g.met.K.Ord.total in
    let cs = c.args.self.now.children.items in
    let ds = c.deref.result.now in
    let v = c.deref.ensures.value in
    let i = c.child_of-place.result in
    let w = c.child_of-place.ensures.within in
    let k = c.args.key.now in
    let s = c.child_of-place.ensures.start in
    let e = c.child_of-place.ensures.end in
    let child = c.index_mut.result.now in
    let is = c.index_mut.ensures.value in
    let node = c.remove_below.new.link in
    subst (λ (xs : List (Child g.row.K.Denot g.row.N.Denot)). IsBranch pairs IsBuilt R xs) (sym c.remove.ensures.items) (gone_branch pairs IsBuilt R o cs ds v i w c.requires k s e child is node c.in_ok-old.ensures.ok)
