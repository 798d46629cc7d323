-- What a shard finds of a query, and what a look leaves.
use Rattle.std.proofs.Common.{◌≡◌, ◌≢◌, ◌<◌, ◌≤◌, ◌^◌, ◌&&◌, max, ℕ, Bool, true, false, List, length, Option, None, Some, option_map, refl, ap, sym, ◌∙◌, subst, arith}
use Rattle.std.specs.Prelude.{is_some}
use Rattle.std.specs.Result.{IsErrAnd}
use Rattle.std.specs.declared.result.Result.{Result}
use Rattle.std.specs.declared.result.Result.TheVariants.{Ok, Err}
use Rattle.cj_model.specs.declared.memory.NoMemory.{NoMemory}
use Rattle.cj_model.specs.declared.answer.Answer.{Answer}
use Rattle.cj_model.specs.declared.cached.Cached.{Cached}
use Rattle.cj_model.specs.declared.request.Request.TheVariants as request
use Rattle.cj_model.specs.declared.select.Select.{Select}
use Rattle.cj_model.specs.Cluster.Caching.{after_look, cached_entry, has_answer, CacheState}
use Rattle.cj_model.specs.Cluster.Masks.{in_mask}
use Rattle.cj_model.specs.Cluster.Placements.{hosts_all, Placement}
use Rattle.cj_model.proofs.CachingLaws.{all_looked}
use Rattle.cj_cache.specs.Kept.{kept_parts}
use mathlib.Core.List.{IsPrefix}
use Rattle.cj_cluster.specs.declared.event.Event.{Event}
use Rattle.cj_cluster.proofs.Pushed.{log-prefix, prefix_length}
use Rattle.cj_cluster.specs.History.Answering.{HasServer}
use Rattle.cj_cluster.specs.History.Freshness.{IsFreshAnswer, IsFreshCache}
use Rattle.cj_cluster.specs.History.Histories.{ended_count, log}
use Rattle.cj_cluster.specs.History.Legality.{IsLegal}
use Rattle.cj_board.proofs.OpenEntry.{one_open}
use Rattle.cj_book.specs.News.{IsOwedAt, IsRightAt}
use Rattle.cj_book.proofs.Serving.{served_by_some}
use Rattle.cj_cache_shard.specs.declared.shard.Found.{Found}
use Rattle.cj_cache_shard.specs.Shards.{IsShard, LooksInShard, ShardState}
use Rattle.cj_cache_shard.proofs.Fresher.{share_right}

-- ---- shares

pub some_there : (o : Option Cached) (parts : Answer × ℕ) → Some parts ≡ option_map kept_parts o → is_some o ≡ true
some_there None parts is = absurd (cc is)
some_there (Some e) parts is = refl

pub none_there : (o : Option Cached) → None ≡ option_map kept_parts o → is_some o ≡ false
none_there None is = refl
none_there (Some e) is = absurd (cc is)

pub share_given : {X : Type 0} (parts : X → Answer × ℕ) (o : Option X) (x : X) (kept : Option (Answer × ℕ)) → option_map parts o ≡ kept → o ≡ Some x → Some (parts x) ≡ kept
share_given parts o x kept is some = ap (option_map parts) (sym some) ∙ is

pub none_given : {X : Type 0} (parts : X → Answer × ℕ) (o : Option X) (kept : Option (Answer × ℕ)) → option_map parts o ≡ kept → o ≡ None → None ≡ kept
none_given parts o kept is none = ap (option_map parts) (sym none) ∙ is

-- ---- a look

-- memory ran out for a share
pub err_looks : (p : Placement) (h : List Event) (entries : ℕ) (s : Select) (old new : CacheState) (P : NoMemory → Type 0) (r : Result Found NoMemory) → IsErrAnd r P → HasServer p h (request.Select s) × (has_answer s old ≡ true) × (new ≡ after_look s old)
    → LooksInShard p h entries s old r new
err_looks p h entries s old new P (Ok x) is left = absurd is
err_looks p h entries s old new P (Err e) is left = left

-- what a session is owed is within all that it has seen since
pub within_seen : (F H : List Event) (n : ℕ) → IsPrefix F H → n ≤ length (log F) → n ≤ length (log H)
within_seen F H n longer within = let more = prefix_length (log F) (log H) (log-prefix F H longer) in omega (arith, within, more)

module _ (told : Bool) (p : Placement) (x : ShardState) (shard : IsShard told x) (s : Select) where
  -- after it the shard is one still
  pub still_shard : (c : CacheState) → c ≡ after_look s x.cache → IsShard told (record x { cache = c })
  still_shard c now = record {
    legal = shard.legal;
    hears = shard.hears;
    fresh = subst (λ (d : CacheState). IsFreshCache told (log x.front) d) (sym now) (all_looked (IsFreshAnswer told (log x.front)) s x.cache shard.fresh);
  }

  module _ (serving : ℕ) (are : (b : ℕ) → in_mask serving b ≡ (in_mask x.heard.enabled b && hosts_all p b s.tables)) (fits : serving < 2 ^ 32) (some : serving ≢ 0) where
    pub is_served : HasServer p x.front (request.Select s)
    is_served = served_by_some p x.front (request.Select s) serving fits some (λ b. are b ∙ ap (λ on. on && hosts_all p b s.tables) (shard.hears.enabled b))

    -- a kept answer
    pub kept_found : (least owed : ℕ) → least ≤ length (log x.front) → owed ≡ max least x.heard.ended → (answer : Answer) (at n : ℕ) → Some (answer, at) ≡ option_map kept_parts (cached_entry s x.cache.entries) → n ≡ max owed at
        → IsLegal x.front × IsRightAt told p x.front 0 s answer n × IsOwedAt x.front least n
    kept_found least owed owes is answer at n kept greatest =
        let ended : x.heard.ended ≡ ended_count x.front = shard.hears.ended in
        let one : ended_count x.front ≤ length (log x.front) = (one_open x.front shard.legal).0 in
        let few : owed ≤ length (log x.front) = omega (arith, is, owes, one, ended) in
        let right = share_right told x.front shard.legal x.cache shard.fresh s owed few answer at n kept greatest in
        let low : owed ≤ n = right.0 in
        (shard.legal, record { served = is_served; outside = refl; possible = right.2; right = right.3 }, record { owed = omega (arith, is, low); past = omega (arith, is, low, ended); within = right.1 })
