use Rattle.std.proofs.Common.{rules, ◌≡◌, ◌≤◌, ◌+◌, ℕ, ⊎_elim, IfSome, IsNone, List, length, drop, refl, ap, sym, ◌∙◌, subst, arith}
use Rattle.std.proofs.lemmas.List.Elements.{All-nil}
use Rattle.std.proofs.lemmas.Option.{IfSome_then}
use mathlib.Core.List.{IsPrefix}
use Rattle.cj_model.specs.Cluster.Caching.{CacheState}
use Rattle.cj_cluster.specs.declared.event.Event.{Event}
use Rattle.cj_cluster.specs.History.Freshness.{IsFreshAnswer, IsFreshCache, touches}
use Rattle.cj_cluster.specs.History.Histories.{log}
use Rattle.cj_cluster.specs.History.Legality.{IsLegal}
use Rattle.cj_cluster.proofs.Pushed.{log-prefix, prefix_length}
use Rattle.cj_board.specs.declared.view.SeatView.{SeatView}
use Rattle.cj_board.specs.Seats.{front, pass_view}
use Rattle.cj_book.specs.News.{AreTouchedFrom, IsHeard}
use Rattle.cj_cache_shard.specs.Shards.{with_each_dropped, ShardState}
use Rattle.cj_cache_shard.proofs.Fresher.{both_some, fresh_later}
use Rattle.cj_cache_shard.proofs.Fronts.{joined_later}
use Rattle.cj_cache_shard.proofs.shard.CacheShard.catch_up.Goals as goal
use Rattle.cj_cache_shard.proofs.shard.CacheShard.catch_up.Goals.{in-Some, in-None}

pub invariant_of-self : goal.invariant_of-self
invariant_of-self g c =
    let told = g.J.Naming.tells in
    let news = c.args.news.now in
    let S = front c.self.inside.pass.seat in
    let H = front c.args.pass.now.seat in
    let new = pass_view c.rejoin.new.pass.seat in
    let split : front c.split-seen.result.seat ≡ H = ap (λ (v : SeatView). v.front) c.split-seen.ensures.other in
    let less : length S ≤ length H = omega (arith, c.if-news-self.false, c.self.invariant.hears.events, c.requires.news.heard.events) in
    let kept : pass_view c.match-touched_after.self-inside.pass.seat ≡ pass_view c.self.inside.pass.seat = elim c.match-touched_after.branch [
      | in-Some w ↦ ap (λ y. pass_view y.pass.seat) w.self-inside-is
      | in-None w ↦ ap (λ y. pass_view y.pass.seat) w.self-inside-is
    ] in
    let later = joined_later (pass_view c.self.inside.pass.seat) (pass_view c.match-touched_after.self-inside.pass.seat) (pass_view c.split-seen.result.seat) new H kept split less c.rejoin.ensures.pass c.rejoin.ensures.more.seen.front in
    let now : new.front ≡ H = later.0 in
    let longer : IsPrefix S H = later.1 in
    let entries : c.self.inside.heard.entries ≡ length (log S) = c.self.invariant.hears.entries in
    let fresh : IsFreshCache told (log H) c.match-touched_after.self-inside.cache = elim c.match-touched_after.branch [
      | in-Some w ↦ (let told_of = subst (λ o. IfSome o (λ sets. AreTouchedFrom (log H) c.self.inside.heard.entries sets.now)) w.in-Some.is (c.touched_after.ensures.touched H c.requires.news) in
          subst (λ (d : CacheState). IsFreshCache told (log H) d) (sym (ap (λ y. y.cache) w.self-inside-is ∙ w.drop_each.ensures))
          (fresh_later told S H longer w.in-Some.touched.now c.self.inside.cache (λ i lt table. told_of.each i lt table ∙ ap (λ n. touches (log H) (n + i) table) entries) (ap (λ n. n + length w.in-Some.touched.now) (sym entries) ∙ told_of.whole) c.self.invariant.fresh))
      | in-None w ↦ subst (λ (d : CacheState). IsFreshCache told (log H) d) (sym (ap (λ y. y.cache) w.self-inside-is ∙ w.clear.ensures)) (All-nil (IsFreshAnswer told (log H)))
    ] in
    record {
      legal = subst (λ (h : List Event). IsLegal h) (sym now) c.requires.legal;
      hears = subst (λ (h : List Event). IsHeard h news.heard) (sym now) c.requires.news.heard;
      fresh = subst (λ (h : List Event). IsFreshCache told (log h) c.match-touched_after.self-inside.cache) (sym now) fresh;
    }

pub returns-clause-dropped : goal.returns-clause-dropped
returns-clause-dropped g c newer k known =
    let news = c.args.news.now in
    let S = front c.self.inside.pass.seat in
    let H = front c.args.pass.now.seat in
    let entries : c.self.inside.heard.entries ≡ length (log S) = c.self.invariant.hears.entries in
    let x : ShardState = record { cache = c.self.inside.cache; front = S; heard = c.self.inside.heard } in
    let before : x ≡ c.args.self.now = search rules in
    let ends : news.from + k ≡ c.self.inside.heard.entries = known ∙ sym (ap (λ (y : ShardState). y.heard.entries) before) in
    elim c.match-touched_after.branch [
      | in-Some w ↦ (let last = subst (λ o. IfSome o (λ sets. IfSome news.touched (λ all. (k : ℕ) → news.from + k ≡ c.self.inside.heard.entries → sets.now ≡ drop k all.items))) w.in-Some.is c.touched_after.ensures.last in
          IfSome_then news.touched last (λ all same. ap (λ y. y.cache) w.self-inside-is ∙ (w.drop_each.ensures ∙ (ap (λ sets. with_each_dropped sets c.self.inside.cache) (same k ends) ∙ ap (λ (y : ShardState). with_each_dropped (drop k all.items) y.cache) before))))
      | in-None w ↦ (let kept : pass_view c.match-touched_after.self-inside.pass.seat ≡ pass_view c.self.inside.pass.seat = ap (λ y. pass_view y.pass.seat) w.self-inside-is in
          let less : length S ≤ length H = omega (arith, c.if-news-self.false, c.self.invariant.hears.events, c.requires.news.heard.events) in
          let later = joined_later (pass_view c.self.inside.pass.seat) (pass_view c.match-touched_after.self-inside.pass.seat) (pass_view c.split-seen.result.seat) (pass_view c.rejoin.new.pass.seat) H kept (ap (λ (v : SeatView). v.front) c.split-seen.ensures.other) less c.rejoin.ensures.pass c.rejoin.ensures.more.seen.front in
          let few : length (log S) ≤ length (log H) = prefix_length (log S) (log H) (log-prefix S H later.1) in
          IfSome_then news.touched (both_some news.touched _ _ (c.touched_after.ensures.left_out (subst (λ o. IsNone o) (sym w.in-None.is) refl)) c.requires.news.touched)
          (λ all both. (let whole = both.1.whole in absurd (⊎_elim (λ low. omega (arith, low, ends)) (λ high. omega (arith, high, whole, few, entries)) both.0))))
    ]
