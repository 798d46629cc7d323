-- How a call uses the result cache.
use Rattle.std.specs.Prelude.{◌≡◌, ◌≢◌, ◌⊎◌, ℕ, length}
use Rattle.std.specs.declared.option.Option.{Option}
use Rattle.std.specs.declared.option.Option.TheVariants.{None, Some}
use Rattle.cj_model.specs.declared.answer.Answer.{Answer}
use Rattle.cj_model.specs.declared.request.Request.{Request}
use Rattle.cj_model.specs.declared.request.Request.TheVariants as request
use Rattle.cj_model.specs.declared.select.Select.{Select}
use Rattle.cj_model.specs.declared.answer.Reply.{Reply}
use Rattle.cj_model.specs.declared.answer.Reply.TheVariants.{Done, Rows, Refused, Stats}
use Rattle.cj_model.specs.declared.codes.TheConstants.{NO_MEMORY}
use Rattle.cj_model.specs.Cluster.Caching.{CacheState, after_keep, after_look, answer_kept}
use Rattle.cj_model.specs.Database.Inserts.{refusal_of_code}
use Rattle.cj_cluster.specs.History.Answering.{HasServer, HasNoServer}
use Rattle.cj_cluster.specs.History.Histories.{log}
use Rattle.cj_cluster.specs.History.Turns.{Call}
use Rattle.cj_state.specs.Worlds.{WorldState, CacheFollowsLog}

-- the cache after a query was answered at the log's end, of n entries: rows are kept, refusals are not
abbrev pub with_answer : Select → ℕ → Reply → CacheState → CacheState
with_answer s n (Rows answer) cache = after_keep (record { select = s; answer = answer; at = n }) cache
with_answer s n (Done count) cache = cache
with_answer s n (Refused refusal) cache = cache
with_answer s n (Stats hits misses) cache = cache

-- a kept answer is replied, unless memory runs out for it, and no backend is called
pub record AnswersFromCache (s : Select) (answer : Answer) (old : WorldState) (c : Call) (new : WorldState) : Type 0 where
  pub replied : (c.reply ≡ Rows answer) ⊎ (c.reply ≡ Refused (refusal_of_code NO_MEMORY))
  pub cells : new.cells ≡ old.cells
  pub balance : new.balance ≡ old.balance
  pub looked : new.cache ≡ after_look s old.cache

-- a kept answer is replied; without one, backends are asked, and rows that they answer are kept
abbrev pub AnswersLookUp : Select → Option Answer → WorldState → Call → WorldState → Type 0
AnswersLookUp s None old c new = new.cache ≡ with_answer s (length (log old.core.history)) c.reply (after_look s old.cache)
AnswersLookUp s (Some answer) old c new = AnswersFromCache s answer old c new

-- a query is looked up in the cache exactly if it is outside transactions and an enabled backend serves it
pub record ReadsWithCache (s : Select) (old : WorldState) (c : Call) (new : WorldState) : Type 0 where
  pub looked_up : c.tx ≡ 0 → HasServer old.core.placement old.core.history c.request → AnswersLookUp s (answer_kept s old.cache) old c new
  pub inside : c.tx ≢ 0 → new.cache ≡ old.cache
  pub unserved : HasNoServer old.core.placement old.core.history c.request → new.cache ≡ old.cache

-- how a call uses the cache: a query may be answered from it, and an entry drops the answers whose queries need a
-- table that it touches
abbrev pub UsesCache : Request → WorldState → Call → WorldState → Type 0
UsesCache (request.Select s) old c new = ReadsWithCache s old c new
UsesCache (request.Write w) old c new = CacheFollowsLog old new
UsesCache (request.Create x) old c new = CacheFollowsLog old new
UsesCache (request.Drop table) old c new = CacheFollowsLog old new
UsesCache request.Begin old c new = CacheFollowsLog old new
UsesCache request.Commit old c new = CacheFollowsLog old new
UsesCache request.Rollback old c new = CacheFollowsLog old new
