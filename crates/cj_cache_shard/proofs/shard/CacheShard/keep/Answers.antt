use Rattle.std.proofs.Common.{◌≡◌, ◌≤◌, length, sym, ◌∙◌, subst, arith}
use mathlib.Core.List.{IsPrefix}
use Rattle.cj_model.specs.Cluster.Caching.{CacheState}
use Rattle.cj_cluster.specs.History.Freshness.{IsFreshCache}
use Rattle.cj_cluster.specs.History.Histories.{log}
use Rattle.cj_board.specs.declared.view.SeatView.{SeatView}
use Rattle.cj_board.specs.Seats.{front, pass_view}
use Rattle.cj_cache_shard.specs.Shards.{IsShard}
use Rattle.cj_cache_shard.proofs.Fresher.{fresh_with, right_here}
use Rattle.cj_cache_shard.proofs.Fronts.{joined_begins}
use Rattle.cj_cache_shard.proofs.shard.CacheShard.keep.Goals as goal

pub invariant_of-self-2 : goal.invariant_of-self-2
invariant_of-self-2 g c =
    let told = g.J.Naming.tells in
    let e = c.args.answered in
    let S = front c.self.inside.pass.seat in
    let F = front c.args.pass.now.seat in
    let both = front c.rejoin.new.pass.seat in
    let here : e.at ≡ length (log S) = c.if-answered-self.false ∙ c.self.invariant.hears.entries in
    let begins : IsPrefix S both × IsPrefix F both = joined_begins (pass_view c.self.inside.pass.seat) (pass_view c.args.pass.now.seat) (pass_view c.split-both.result.seat) (pass_view c.split-seen.result.seat) (pass_view c.rejoin.new.pass.seat)
    c.split-both.ensures.other c.split-seen.ensures.other c.rejoin.ensures.more.seen.front c.rejoin.ensures.other in
    let within : e.at ≤ length (log S) = omega (arith, here) in
    let fresh = fresh_with told (log S) e c.self.inside.cache here c.requires.possible (right_here told S F both begins.0 begins.1 e within c.requires.within c.requires.right) c.self.invariant.fresh in
    subst (λ (v : SeatView). IsShard told (record { cache = c.keep.new.self; front = v.front; heard = c.self.inside.heard })) (sym c.split-both.ensures.pass)
    (record { legal = c.self.invariant.legal; hears = c.self.invariant.hears; fresh = subst (λ (d : CacheState). IsFreshCache told (log S) d) (sym c.in_ok-keep.ensures.ok) fresh })
