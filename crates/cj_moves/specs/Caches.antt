-- What moves change of the result cache: they neither look up nor keep answers, and entries drop the answers that
-- they invalidate.
use Rattle.std.specs.Prelude.{◌≡◌}
use Rattle.cj_cluster.specs.declared.moves.Move.{Move}
use Rattle.cj_cluster.specs.declared.moves.Move.TheVariants.{Open, Close, Schedule, Abort, Apply, End, Read, Arm, Disable, Replay, Enable, Mark, Dump, Load}
use Rattle.cj_state.specs.Worlds.{WorldState, CacheFollowsLog}

-- entries change the result cache as the log does, and other moves leave it
abbrev pub HasCacheAfter : WorldState → WorldState → Move → Type 0
HasCacheAfter old new (Open user) = new.cache ≡ old.cache
HasCacheAfter old new (Close s) = new.cache ≡ old.cache
HasCacheAfter old new (Schedule s r) = CacheFollowsLog old new
HasCacheAfter old new (Abort tx) = CacheFollowsLog old new
HasCacheAfter old new (Apply b) = new.cache ≡ old.cache
HasCacheAfter old new End = new.cache ≡ old.cache
HasCacheAfter old new (Read s b select) = new.cache ≡ old.cache
HasCacheAfter old new (Arm b) = new.cache ≡ old.cache
HasCacheAfter old new (Disable b) = new.cache ≡ old.cache
HasCacheAfter old new (Replay b) = new.cache ≡ old.cache
HasCacheAfter old new (Enable b) = new.cache ≡ old.cache
HasCacheAfter old new (Mark name) = new.cache ≡ old.cache
HasCacheAfter old new (Dump b name) = new.cache ≡ old.cache
HasCacheAfter old new (Load b name) = new.cache ≡ old.cache
