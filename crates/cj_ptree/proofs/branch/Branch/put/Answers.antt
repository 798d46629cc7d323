use Rattle.std.proofs.Common.{◌≡◌, ◌∙◌, ◌<◌, List, length, set, ap, subst, sym, Some}
use Rattle.std.specs.BTreeMap.{insert_entry, is_at}
use Rattle.std.specs.Map.{lookup}
use Rattle.cj_ptree.specs.declared.child.Child.{Child}
use Rattle.cj_ptree.specs.Branches.{IsBranch, branch_pairs}
use Rattle.cj_ptree.specs.Links.{target}
use Rattle.cj_ptree.specs.Parts.{all_pairs}
use Rattle.cj_ptree.proofs.BranchLaws.{each_set, lookup_child, on_err, put_alone, put_branch, put_pairs, same_branch, same_parts, two_branch, two_pairs}
use Rattle.cj_ptree.proofs.branch.Branch.put.Goals as goal

pub returns-in_err-added-clause-err : goal.returns-in_err-added-clause-err
returns-in_err-added-clause-err g c =
    let pairs = g.N.Node.pairs in
    let IsBuilt = g.N.Node.IsBuilt in
    let R = g.K.Ord.cmp in
    let o = g.met.K.Ord.total in
    let cs = c.reserve.new.self.items in
    let ds = c.deref.result.now in
    let r = c.deref.ensures.value in
    let i = c.child_of-place.result in
    let w = c.child_of-place.ensures.within in
    let same = c.in_ok-reserve.ensures.items in
    let b = subst (λ (xs : List (Child g.row.K.Denot g.row.N.Denot)). IsBranch pairs IsBuilt R xs) (sym same) c.requires in
    let k = c.args.key in
    let s = c.child_of-place.ensures.start in
    let e = c.child_of-place.ensures.end in
    let child = c.index_mut.result.now in
    let is = c.index_mut.ensures.value in
    let node = c.insert_below.new.link in
    let changed : Child g.row.K.Denot g.row.N.Denot = record { bound = child.bound; node = node } in
    let h : i < length cs = subst (λ (xs : List (Child g.row.K.Denot g.row.N.Denot)). i < length xs) r w in
    on_err _ (ap all_pairs (same_parts pairs IsBuilt R o cs i child node h is c.in_err-added.ensures.err) ∙ ap (λ (xs : List (Child g.row.K.Denot g.row.N.Denot)). branch_pairs pairs xs) same)

pub returns-in_err-added-clause-built : goal.returns-in_err-added-clause-built
returns-in_err-added-clause-built g c =
    let pairs = g.N.Node.pairs in
    let IsBuilt = g.N.Node.IsBuilt in
    let R = g.K.Ord.cmp in
    let o = g.met.K.Ord.total in
    let cs = c.reserve.new.self.items in
    let ds = c.deref.result.now in
    let r = c.deref.ensures.value in
    let i = c.child_of-place.result in
    let w = c.child_of-place.ensures.within in
    let same = c.in_ok-reserve.ensures.items in
    let b = subst (λ (xs : List (Child g.row.K.Denot g.row.N.Denot)). IsBranch pairs IsBuilt R xs) (sym same) c.requires in
    let k = c.args.key in
    let s = c.child_of-place.ensures.start in
    let e = c.child_of-place.ensures.end in
    let child = c.index_mut.result.now in
    let is = c.index_mut.ensures.value in
    let node = c.insert_below.new.link in
    let changed : Child g.row.K.Denot g.row.N.Denot = record { bound = child.bound; node = node } in
    let h : i < length cs = subst (λ (xs : List (Child g.row.K.Denot g.row.N.Denot)). i < length xs) r w in
    same_branch pairs IsBuilt R o cs (set cs i changed) (same_parts pairs IsBuilt R o cs i child node h is c.in_err-added.ensures.err)
    (each_set (λ (x : Child g.row.K.Denot g.row.N.Denot). IsBuilt (target x.node)) cs i changed c.insert_below.ensures.built b.built) b

pub returns-in_default-clause-value : goal.returns-in_default-clause-value
returns-in_default-clause-value g c =
    let pairs = g.N.Node.pairs in
    let IsBuilt = g.N.Node.IsBuilt in
    let R = g.K.Ord.cmp in
    let o = g.met.K.Ord.total in
    let cs = c.reserve.new.self.items in
    let ds = c.deref.result.now in
    let r = c.deref.ensures.value in
    let i = c.child_of-place.result in
    let w = c.child_of-place.ensures.within in
    let same = c.in_ok-reserve.ensures.items in
    let b = subst (λ (xs : List (Child g.row.K.Denot g.row.N.Denot)). IsBranch pairs IsBuilt R xs) (sym same) c.requires in
    let k = c.args.key in
    let s = c.child_of-place.ensures.start in
    let e = c.child_of-place.ensures.end in
    let child = c.index_mut.result.now in
    let is = c.index_mut.ensures.value in
    let node = c.insert_below.new.link in
    c.in_ok-added.ensures.ok.value ∙ sym (lookup_child pairs IsBuilt R o cs ds r i w b k s e child is) ∙ ap (λ (xs : List (Child g.row.K.Denot g.row.N.Denot)). lookup (is_at (R k)) (branch_pairs pairs xs)) same

pub returns-in_default-clause-ok : goal.returns-in_default-clause-ok
returns-in_default-clause-ok g c =
    let pairs = g.N.Node.pairs in
    let IsBuilt = g.N.Node.IsBuilt in
    let R = g.K.Ord.cmp in
    let o = g.met.K.Ord.total in
    let cs = c.reserve.new.self.items in
    let ds = c.deref.result.now in
    let r = c.deref.ensures.value in
    let i = c.child_of-place.result in
    let w = c.child_of-place.ensures.within in
    let same = c.in_ok-reserve.ensures.items in
    let b = subst (λ (xs : List (Child g.row.K.Denot g.row.N.Denot)). IsBranch pairs IsBuilt R xs) (sym same) c.requires in
    let k = c.args.key in
    let s = c.child_of-place.ensures.start in
    let e = c.child_of-place.ensures.end in
    let child = c.index_mut.result.now in
    let is = c.index_mut.ensures.value in
    let node = c.insert_below.new.link in
    let q = put_alone pairs (target node) c.in_ok-added.added.right _ c.in_default.is c.in_ok-added.ensures.ok.put in
    put_pairs pairs IsBuilt R o cs ds r i w b k s e child is c.args.value node q ∙ ap (λ (xs : List (Child g.row.K.Denot g.row.N.Denot)). insert_entry R (branch_pairs pairs xs) k c.args.value) same

pub returns-in_default-clause-built : goal.returns-in_default-clause-built
returns-in_default-clause-built g c =
    let pairs = g.N.Node.pairs in
    let IsBuilt = g.N.Node.IsBuilt in
    let R = g.K.Ord.cmp in
    let o = g.met.K.Ord.total in
    let cs = c.reserve.new.self.items in
    let ds = c.deref.result.now in
    let r = c.deref.ensures.value in
    let i = c.child_of-place.result in
    let w = c.child_of-place.ensures.within in
    let same = c.in_ok-reserve.ensures.items in
    let b = subst (λ (xs : List (Child g.row.K.Denot g.row.N.Denot)). IsBranch pairs IsBuilt R xs) (sym same) c.requires in
    let k = c.args.key in
    let s = c.child_of-place.ensures.start in
    let e = c.child_of-place.ensures.end in
    let child = c.index_mut.result.now in
    let is = c.index_mut.ensures.value in
    let node = c.insert_below.new.link in
    let q = put_alone pairs (target node) c.in_ok-added.added.right _ c.in_default.is c.in_ok-added.ensures.ok.put in
    put_branch pairs IsBuilt R o cs ds r i w b k s e child is c.args.value node c.insert_below.ensures.built q

pub returns-clause-value : goal.returns-clause-value
returns-clause-value g c =
    let pairs = g.N.Node.pairs in
    let IsBuilt = g.N.Node.IsBuilt in
    let R = g.K.Ord.cmp in
    let o = g.met.K.Ord.total in
    let cs = c.reserve.new.self.items in
    let ds = c.deref.result.now in
    let r = c.deref.ensures.value in
    let i = c.child_of-place.result in
    let w = c.child_of-place.ensures.within in
    let same = c.in_ok-reserve.ensures.items in
    let b = subst (λ (xs : List (Child g.row.K.Denot g.row.N.Denot)). IsBranch pairs IsBuilt R xs) (sym same) c.requires in
    let k = c.args.key in
    let s = c.child_of-place.ensures.start in
    let e = c.child_of-place.ensures.end in
    let child = c.index_mut.result.now in
    let is = c.index_mut.ensures.value in
    let node = c.insert_below.new.link in
    c.in_ok-added.ensures.ok.value ∙ sym (lookup_child pairs IsBuilt R o cs ds r i w b k s e child is) ∙ ap (λ (xs : List (Child g.row.K.Denot g.row.N.Denot)). lookup (is_at (R k)) (branch_pairs pairs xs)) same

pub returns-clause-ok : goal.returns-clause-ok
returns-clause-ok g c =
    let pairs = g.N.Node.pairs in
    let IsBuilt = g.N.Node.IsBuilt in
    let R = g.K.Ord.cmp in
    let o = g.met.K.Ord.total in
    let cs = c.reserve.new.self.items in
    let ds = c.deref.result.now in
    let r = c.deref.ensures.value in
    let i = c.child_of-place.result in
    let w = c.child_of-place.ensures.within in
    let same = c.in_ok-reserve.ensures.items in
    let b = subst (λ (xs : List (Child g.row.K.Denot g.row.N.Denot)). IsBranch pairs IsBuilt R xs) (sym same) c.requires in
    let k = c.args.key in
    let s = c.child_of-place.ensures.start in
    let e = c.child_of-place.ensures.end in
    let child = c.index_mut.result.now in
    let is = c.index_mut.ensures.value in
    let node = c.insert_below.new.link in
    let z : c.in_ok-added.added.right ≡ Some (c.in-Some.bound, c.in-Some.node) = c.in-Some.is in
    ap (λ (xs : List (Child g.row.K.Denot g.row.N.Denot)). branch_pairs pairs xs) c.in-Ok.ensures.items
    ∙ two_pairs pairs IsBuilt R o cs ds r i w b k s e child is c.args.value node c.in-Some.bound c.in-Some.node c.of-node.result c.of-node.ensures c.in_ok-added.added.right z c.in_ok-added.ensures.ok.put c.in_ok-added.ensures.ok.split
    ∙ ap (λ (xs : List (Child g.row.K.Denot g.row.N.Denot)). insert_entry R (branch_pairs pairs xs) k c.args.value) same

pub returns-clause-built : goal.returns-clause-built
returns-clause-built g c =
    let pairs = g.N.Node.pairs in
    let IsBuilt = g.N.Node.IsBuilt in
    let R = g.K.Ord.cmp in
    let o = g.met.K.Ord.total in
    let cs = c.reserve.new.self.items in
    let ds = c.deref.result.now in
    let r = c.deref.ensures.value in
    let i = c.child_of-place.result in
    let w = c.child_of-place.ensures.within in
    let same = c.in_ok-reserve.ensures.items in
    let b = subst (λ (xs : List (Child g.row.K.Denot g.row.N.Denot)). IsBranch pairs IsBuilt R xs) (sym same) c.requires in
    let k = c.args.key in
    let s = c.child_of-place.ensures.start in
    let e = c.child_of-place.ensures.end in
    let child = c.index_mut.result.now in
    let is = c.index_mut.ensures.value in
    let node = c.insert_below.new.link in
    let z : c.in_ok-added.added.right ≡ Some (c.in-Some.bound, c.in-Some.node) = c.in-Some.is in
    subst (λ (xs : List (Child g.row.K.Denot g.row.N.Denot)). IsBranch pairs IsBuilt R xs) (sym c.in-Ok.ensures.items) (two_branch pairs IsBuilt R o cs ds r i w b k s e child is c.args.value node c.in-Some.bound c.in-Some.node c.of-node.result c.of-node.ensures c.in_ok-added.added.right z c.in_ok-added.ensures.ok.put c.in_ok-added.ensures.ok.split c.insert_below.ensures.built)
