-- What is told of a history where answers are kept, and where a query may be answered.
use Rattle.std.specs.Prelude.{◌≡◌, ℕ, ◌+◌, ◌<◌, ◌≤◌, Bool, true, List, [], length, get_or, IfSome}
use Rattle.cj_model.specs.declared.answer.Answer.{Answer}
use Rattle.cj_model.specs.declared.answer.Asked.TheVariants.{Rows}
use Rattle.cj_model.specs.declared.request.Entry.{Entry}
use Rattle.cj_model.specs.declared.request.Request.TheVariants as request
use Rattle.cj_model.specs.declared.select.Select.{Select}
use Rattle.cj_model.specs.Cluster.Masks.{in_mask}
use Rattle.cj_model.specs.Cluster.Placements.{Placement}
use Rattle.cj_model.specs.Database.Outcomes.{IsAnswer}
use Rattle.cj_model.specs.Database.Queries.{ask}
use Rattle.cj_cluster.specs.declared.event.Event.{Event}
use Rattle.cj_cluster.specs.History.Answering.{HasServer}
use Rattle.cj_cluster.specs.History.Freshness.{touches}
use Rattle.cj_cluster.specs.History.Histories.{database_after, ended_count, is_enabled, log}
use Rattle.cj_book.specs.declared.news.Heard.{Heard}
use Rattle.cj_book.specs.declared.news.News.{News}
use Rattle.cj_book.specs.Touching.{has_table}

-- ---- where a query may be answered

-- Position n of history h is one at which a query may be answered: not below the least that its session owes, and past
-- each entry that had ended.
pub record IsOwedAt (h : List Event) (least n : ℕ) : Type 0 where
  pub owed : least ≤ n
  pub past : ended_count h ≤ n
  pub within : n ≤ length (log h)

-- the answer is right at position n, and outside transactions; that is known if the backends tell what they hold
pub record IsRightAt (tells : Bool) (p : Placement) (h : List Event) (tx : ℕ) (select : Select) (answer : Answer) (n : ℕ) : Type 0 where
  pub served : HasServer p h (request.Select select)
  pub outside : tx ≡ 0
  pub possible : IsAnswer answer
  pub right : tells ≡ true → Rows answer ≡ ask (database_after (log h) n) 0 select

-- ---- news

-- so far history h goes, and these backends are enabled in it
pub record IsHeard (h : List Event) (x : Heard) : Type 0 where
  pub events : x.events ≡ length h
  pub entries : x.entries ≡ length (log h)
  pub ended : x.ended ≡ ended_count h
  pub enabled : (b : ℕ) → in_mask x.enabled b ≡ is_enabled h b

-- the sets of tables that the entries after the first `from` touch, a set for each
pub record AreTouchedFrom (entries : List Entry) (from : ℕ) (sets : List (List (List ℕ))) : Type 0 where
  pub each : (i : ℕ) → i < length sets → (table : List ℕ) → has_table (get_or sets i []) table ≡ touches entries (from + i) table
  pub whole : from + length sets ≡ length entries

-- the news of history h where its first `from` entries are known
pub record IsNewsFrom (h : List Event) (from : ℕ) (x : News) : Type 0 where
  pub heard : IsHeard h x.heard
  pub from_there : x.from ≡ from
  pub touched : IfSome x.touched (λ sets. AreTouchedFrom (log h) from sets.items)
