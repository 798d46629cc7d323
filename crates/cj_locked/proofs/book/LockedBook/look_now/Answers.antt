use Rattle.std.proofs.Common.{rules, ◌≡◌, ℕ, List, max, ap, sym, ◌∙◌, subst}
use Rattle.cj_model.specs.Cluster.Masks.{in_mask}
use Rattle.cj_cluster.specs.History.Histories.{ended_count}
use Rattle.cj_cluster.specs.History.Legality.{IsLegal}
use Rattle.cj_place.specs.Layouts.{placement_of}
use Rattle.cj_book.specs.Books.{is_candidate, placement_at, BookState}
use Rattle.cj_locked.proofs.Looking.{look_laid, picked_at, picked_leaves}
use Rattle.cj_locked.proofs.book.LockedBook.look_now.Goals as goal

pub returns-clause-look : goal.returns-clause-look
returns-clause-look g c =
    let same : c.args.self.now.book.state ≡ c.self.inside.book.state = search rules in
    let legal : IsLegal c.args.self.now.book.state.history = subst (λ (x : BookState). IsLegal x.history) (sym same) c.legal.ensures.legal in
    let are : (b : ℕ) → in_mask c.candidates-serving.result b ≡ is_candidate c.args.self.now.book.state c.args.select.now.tables b =
    λ b. c.candidates-serving.ensures.hosts b ∙ (ap (λ (tables : List (List ℕ)). is_candidate c.self.inside.book.state tables b) c.as_slice.ensures ∙ ap (λ (x : BookState). is_candidate x c.args.select.now.tables b) (sym same))
    in
    let laid : placement_at c.args.self.now.book.state ≡ placement_of g.J.Naming.layout = ap placement_at same ∙ ap placement_of c.self.invariant.laid in
    let is : c.max-owed.result ≡ max c.args.least (ended_count c.args.self.now.book.state.history) = c.max-owed.ensures ∙ ap (max c.args.least) (c.ended_count.ensures ∙ ap (λ (x : BookState). ended_count x.history) (sym same)) in
    look_laid (placement_at c.args.self.now.book.state) (placement_of g.J.Naming.layout) c.args.self.now.book.state.history c.args.select.now c.args.least c.args.tried c.pick.result laid
    (picked_at c.args.self.now.book.state legal c.args.select.now c.args.least c.args.tried c.candidates-serving.result are c.candidates-serving.ensures.below c.max-owed.result c.if-serving-eq0.false is c.requires.owes c.pick.result c.pick.new.self.book.state c.pick.ensures.picks)

pub returns-clause-leaves : goal.returns-clause-leaves
returns-clause-leaves g c =
    let same : c.args.self.now.book.state ≡ c.self.inside.book.state = search rules in
    let legal : IsLegal c.args.self.now.book.state.history = subst (λ (x : BookState). IsLegal x.history) (sym same) c.legal.ensures.legal in
    let are : (b : ℕ) → in_mask c.candidates-serving.result b ≡ is_candidate c.args.self.now.book.state c.args.select.now.tables b =
    λ b. c.candidates-serving.ensures.hosts b ∙ (ap (λ (tables : List (List ℕ)). is_candidate c.self.inside.book.state tables b) c.as_slice.ensures ∙ ap (λ (x : BookState). is_candidate x c.args.select.now.tables b) (sym same))
    in
    picked_leaves c.args.self.now.book.state legal c.args.select.now c.args.least c.args.tried c.candidates-serving.result are c.candidates-serving.ensures.below c.max-owed.result c.pick.result c.pick.new.self.book.state c.pick.ensures.picks
