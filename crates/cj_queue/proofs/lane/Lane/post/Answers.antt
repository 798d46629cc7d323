use Rattle.crossbeam_queue.specs.Passes.{view, ruled_capacity}
use Rattle.cj_queue.specs.declared.numbered.Numbered.{Numbered}
use Rattle.cj_queue.proofs.Steps.{below_next, holds_last, posts, posted_rising, still_posts, within_more}
use Rattle.cj_queue.proofs.lane.Lane.post.Goals as goal

pub push_as-requires-clause-rule : goal.push_as-requires-clause-rule
push_as-requires-clause-rule g c =
    let p = c.args.poster.now in
    let v = view p.pass in (
      posts (ruled_capacity c.args.self.now.queue) p.pass.id v c.args.job p.posts (below_next (λ (j : Numbered _). j.number) v.posted p.last c.args.job.number p.within c.requires.rises),
      holds_last p.pass.id v p.posts,
    )

pub invariant_of-poster : goal.invariant_of-poster
invariant_of-poster g c =
    let p = c.args.poster.now in
    let v = view p.pass in
    let w = view c.push_as.new.pass in
    let is = c.in-Ok.ensures.rule in
    let rises = c.requires.rises in
    record {
      posts = still_posts v w c.args.job is p.posts;
      within = within_more v w c.args.job p.last is p.within rises;
      rising = posted_rising v w c.args.job p.last is p.within rises p.rising;
    }
