use Rattle.std.proofs.Common.{◌≡◌, [], sym, ◌∙◌, subst}
use Rattle.cj_model.specs.Cluster.Caching.{CacheState}
use Rattle.cj_cluster.specs.History.Legality.{IsLegal}
use Rattle.cj_board.specs.declared.view.SeatView.{SeatView}
use Rattle.cj_book.specs.News.{IsHeard}
use Rattle.cj_control.proofs.Starting.{all_pop, moves_one, stays_room}
use Rattle.cj_control.proofs.start.sharded.Goals as goal

pub new-requires-clause-legal : goal.new-requires-clause-legal
new-requires-clause-legal g c = subst (λ (v : SeatView). IsLegal v.front) (sym c.loop-cache.invariant.same) c.requires.legal

pub new-requires-clause-heard : goal.new-requires-clause-heard
new-requires-clause-heard g c = subst (λ (v : SeatView). IsHeard v.front c.args.heard) (sym c.loop-cache.invariant.same) c.requires.heard

pub new-requires-clause-empty : goal.new-requires-clause-empty
new-requires-clause-empty g c = (all_pop (λ (x : CacheState). x.entries ≡ []) c.loop-cache.caches.items c.pop.new.self.items c.in-Some.cache c.in-Some.ensures.items c.loop-cache.invariant.empty).1

pub loop-cache-preserved : goal.loop-cache-preserved
loop-cache-preserved g c =
    let l = c.loop-cache in
    record {
      same = c.new.ensures.same ∙ l.invariant.same;
      empty = (all_pop (λ (x : CacheState). x.entries ≡ []) l.caches.items c.pop.new.self.items c.in-Some.cache c.in-Some.ensures.items l.invariant.empty).0;
      count = moves_one c.pop.new.self.items c.push_reserved.new.self.items c.in-Some.cache l.shards.items c.new-in-Some.result l.caches.items c.in-Some.ensures.items l.invariant.count c.push_reserved.ensures.items;
      room = stays_room l.invariant.room c.push_reserved.ensures.capacity;
    }
