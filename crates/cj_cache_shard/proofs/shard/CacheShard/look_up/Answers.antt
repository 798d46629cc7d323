use Rattle.std.proofs.Common.{rules, ◌≡◌, ◌≤◌, ◌&&◌, ℕ, inl, IfOk, Ok, List, length, ap, sym, ◌∙◌, subst}
use Rattle.std.specs.declared.result.Result.{Result}
use Rattle.cj_model.specs.declared.memory.NoMemory.{NoMemory}
use Rattle.cj_model.specs.Cluster.Caching.{cached_entry}
use Rattle.cj_model.specs.Cluster.Masks.{in_mask}
use Rattle.cj_model.specs.Cluster.Placements.{hosts_all}
use Rattle.cj_cluster.specs.declared.event.Event.{Event}
use Rattle.cj_cluster.specs.History.Histories.{log}
use Rattle.cj_place.specs.Layouts.{placement_of, Layout}
use Rattle.cj_board.specs.Seats.{front}
use Rattle.cj_cache_shard.specs.declared.shard.Found.{Found}
use Rattle.cj_cache_shard.specs.declared.shard.Found.TheVariants.{Absent, Kept}
use Rattle.cj_cache_shard.specs.Shards.{IsFound, LooksInShard, ShardState}
use Rattle.cj_cache_shard.proofs.Finding.{err_looks, is_served, kept_found, none_given, none_there, share_given, some_there, still_shard, within_seen}
use Rattle.cj_cache_shard.proofs.shard.CacheShard.look_up.Goals as goal
use Rattle.cj_cache_shard.proofs.shard.CacheShard.look_up.Goals.{in-None, in-Some}

pub invariant_of-self : goal.invariant_of-self
invariant_of-self g c =
    let x : ShardState = record { cache = c.self.inside.cache; front = front c.self.inside.pass.seat; heard = c.self.inside.heard } in
    still_shard g.J.Naming.tells (placement_of g.J.Naming.layout) x c.self.invariant c.args.select.now c.look_up.new.self c.look_up.ensures.looked

pub invariant_of-self-2 : goal.invariant_of-self-2
invariant_of-self-2 g c =
    let x : ShardState = record { cache = c.self.inside.cache; front = front c.self.inside.pass.seat; heard = c.self.inside.heard } in
    still_shard g.J.Naming.tells (placement_of g.J.Naming.layout) x c.self.invariant c.args.select.now c.look_up.new.self c.look_up.ensures.looked

pub returns-clause-found : goal.returns-clause-found
returns-clause-found g c =
    let told = g.J.Naming.tells in
    let p = placement_of g.J.Naming.layout in
    let select = c.args.select.now in
    let least = c.args.least in
    let x : ShardState = record { cache = c.self.inside.cache; front = front c.self.inside.pass.seat; heard = c.self.inside.heard } in
    let seen : front c.is_current.new.pass.seat ≡ x.front = search rules in
    let are : (b : ℕ) → in_mask c.hosting.result b ≡ (in_mask x.heard.enabled b && hosts_all p b select.tables) = λ b.
    c.hosting.ensures b
    ∙ (ap (λ (tables : List (List ℕ)). in_mask x.heard.enabled b && hosts_all (placement_of c.args.placement.now) b tables) c.as_slice.ensures ∙ ap (λ (l : Layout). in_mask x.heard.enabled b && hosts_all (placement_of l) b select.tables) c.requires.laid)
    in
    let owes : least ≤ length (log x.front) = subst (λ (h : List Event). least ≤ length (log h)) seen (within_seen (front c.args.pass.now.seat) (front c.is_current.new.pass.seat) least c.is_current.ensures.more.seen.front c.requires.owes) in
    elim c.match-branch-2.branch [
      | in-Some w ↦ (let is : Ok (Kept w.in-Some.field-0.answer w.max.result) ≡ c.match-branch-2.result = cc w.result-is in
          subst (λ (r : Result Found NoMemory). IfOk r (IsFound told p (front c.is_current.new.pass.seat) select least)) is
          (subst (λ (h : List Event). IsFound told p h select least (Kept w.in-Some.field-0.answer w.max.result)) (sym seen)
          (kept_found told p x c.self.invariant select c.hosting.result are c.hosting.type_inv c.if-hosting-eq0.false least c.max-owed.result owes c.max-owed.ensures w.in-Some.field-0.answer.value w.in-Some.field-0.at w.max.result
          (share_given _ c.in_ok-answer.field-0 w.in-Some.field-0 _ c.in_ok-answer.ensures.shared w.in-Some.is) w.max.ensures)))
      | in-None w ↦ (let is : Ok Absent ≡ c.match-branch-2.result = cc w.result-is in
          subst (λ (r : Result Found NoMemory). IfOk r (IsFound told p (front c.is_current.new.pass.seat) select least)) is tt)
    ]

pub returns-clause-looks : goal.returns-clause-looks
returns-clause-looks g c =
    let told = g.J.Naming.tells in
    let p = placement_of g.J.Naming.layout in
    let select = c.args.select.now in
    let x : ShardState = record { cache = c.self.inside.cache; front = front c.self.inside.pass.seat; heard = c.self.inside.heard } in
    let same : x ≡ c.args.self.now = search rules in
    let are : (b : ℕ) → in_mask c.hosting.result b ≡ (in_mask x.heard.enabled b && hosts_all p b select.tables) = λ b.
    c.hosting.ensures b
    ∙ (ap (λ (tables : List (List ℕ)). in_mask x.heard.enabled b && hosts_all (placement_of c.args.placement.now) b tables) c.as_slice.ensures ∙ ap (λ (l : Layout). in_mask x.heard.enabled b && hosts_all (placement_of l) b select.tables) c.requires.laid)
    in
    let served = is_served told p x c.self.invariant select c.hosting.result are c.hosting.type_inv c.if-hosting-eq0.false in
    subst (λ (y : ShardState). LooksInShard p y.front y.heard.entries select y.cache c.match-branch-2.result c.look_up.new.self) same
    (elim c.match-branch-2.branch [
      | in-Some w ↦ (let is : Ok (Kept w.in-Some.field-0.answer w.max.result) ≡ c.match-branch-2.result = cc w.result-is in
          subst (λ (r : Result Found NoMemory). LooksInShard p x.front x.heard.entries select x.cache r c.look_up.new.self) is
          (served, some_there (cached_entry select x.cache.entries) _ (share_given _ c.in_ok-answer.field-0 w.in-Some.field-0 _ c.in_ok-answer.ensures.shared w.in-Some.is), c.look_up.ensures.looked))
      | in-None w ↦ (let is : Ok Absent ≡ c.match-branch-2.result = cc w.result-is in
          subst (λ (r : Result Found NoMemory). LooksInShard p x.front x.heard.entries select x.cache r c.look_up.new.self) is
          (inl (served, none_there (cached_entry select x.cache.entries) (none_given _ c.in_ok-answer.field-0 _ c.in_ok-answer.ensures.shared w.in-None.is), c.look_up.ensures.looked)))
    ])

pub returns-in_err-answer-clause-looks : goal.returns-in_err-answer-clause-looks
returns-in_err-answer-clause-looks g c =
    let told = g.J.Naming.tells in
    let p = placement_of g.J.Naming.layout in
    let select = c.args.select.now in
    let x : ShardState = record { cache = c.self.inside.cache; front = front c.self.inside.pass.seat; heard = c.self.inside.heard } in
    let same : x ≡ c.args.self.now = search rules in
    let are : (b : ℕ) → in_mask c.hosting.result b ≡ (in_mask x.heard.enabled b && hosts_all p b select.tables) = λ b.
    c.hosting.ensures b
    ∙ (ap (λ (tables : List (List ℕ)). in_mask x.heard.enabled b && hosts_all (placement_of c.args.placement.now) b tables) c.as_slice.ensures ∙ ap (λ (l : Layout). in_mask x.heard.enabled b && hosts_all (placement_of l) b select.tables) c.requires.laid)
    in
    let served = is_served told p x c.self.invariant select c.hosting.result are c.hosting.type_inv c.if-hosting-eq0.false in
    subst (λ (y : ShardState). LooksInShard p y.front y.heard.entries select y.cache c.from_residual.result c.look_up.new.self) same
    (err_looks p x.front x.heard.entries select x.cache c.look_up.new.self _ c.from_residual.result c.from_residual.ensures.1 (served, c.in_err-answer.ensures.err, c.look_up.ensures.looked))
