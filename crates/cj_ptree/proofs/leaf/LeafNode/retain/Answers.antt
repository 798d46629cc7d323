use Rattle.std.proofs.Common.{List, rules, subst, sym}
use Rattle.cj_ptree.specs.Pairs.{PairsRise}
use Rattle.cj_ptree.proofs.LeafLaws.{retained_in_turn}
use Rattle.cj_ptree.proofs.ZoneLaws.{rise_retained}
use Rattle.cj_ptree.proofs.leaf.LeafNode.retain.Goals as goal

pub returns-clause-pairs : goal.returns-clause-pairs
returns-clause-pairs g c =
    let stays = g.E.Edit.stays c.args.by.now in
    let edited = g.E.Edit.edited c.args.by.now in
    retained_in_turn _ (λ e. stays e.1) (λ e. (e.0, edited e.1)) _ (λ x b t y r. search rules) _ _ c.retain_mut.ensures.filtered

pub returns-clause-built : goal.returns-clause-built
returns-clause-built g c =
    let stays = g.E.Edit.stays c.args.by.now in
    let edited = g.E.Edit.edited c.args.by.now in
    subst (λ (es : List (g.row.K.Denot × g.row.V.Denot)). PairsRise g.K.Ord.cmp es)
    (sym (retained_in_turn _ (λ e. stays e.1) (λ e. (e.0, edited e.1)) _ (λ x b t y r. search rules) _ _ c.retain_mut.ensures.filtered))
    (rise_retained g.K.Ord.cmp stays edited _ c.requires.built)
