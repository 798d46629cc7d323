use Rattle.std.proofs.Common.{◌≡◌, ℕ, List, length, ap, sym, ◌∙◌}
use Rattle.cj_calls.proofs.Cited.{Answer, Asked, CacheState, Entry, Rows, Select, WorldState, ask, asked_reply, cache_answered, database_after, database_of, log, take-length, with_cache}
use Rattle.cj_calls.proofs.read.keep.Goals as goal

pub returns-then-keeps_none-clause-ok : goal.returns-then-keeps_none-clause-ok
returns-then-keeps_none-clause-ok g c =
    let old : WorldState = c.args.state.now in
    let s : Select = c.args.select.now in
    let n : ℕ = length (log old.core.history) in
    let same : cache_answered c.args.tx s n (asked_reply c.args.answer.now) old.cache ≡ old.cache =
    ap (λ t. cache_answered t s n (asked_reply c.args.answer.now) old.cache) c.if-tx-ne0.false
    ∙ (ap (λ (a : Asked). cache_answered 0 s n (asked_reply a) old.cache) c.in-Rows.is ∙ c.keeps_none.ensures c.if-keeps_none.true (record { select = s; answer = c.in-Rows.rows; at = n }))
    in
    sym (ap (λ (q : CacheState). with_cache old q) same)

pub keep-requires-clause-right : goal.keep-requires-clause-right
keep-requires-clause-right g c = λ on.
    let entries : List Entry = log c.args.state.now.core.history in
    let s : Select = c.args.select.now in
    ap (λ (a : Answer). Rows a) c.in_ok-rows.ensures
    ∙ (sym c.in-Rows.is
    ∙ (c.requires.right on
    ∙ (ap (λ t. ask (database_of entries) t s) c.if-tx-ne0.false
    ∙ (ap (λ l. ask (database_of l) 0 s) (sym (take-length entries)) ∙ ap (λ (q : Select). ask (database_after entries (length entries)) 0 q) (sym c.in_ok-select.ensures)))))
