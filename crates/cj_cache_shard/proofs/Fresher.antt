-- What a shard keeps is fresh: as it is looked up, as more is kept, and as it hears of more entries.
use Rattle.std.proofs.Common.{◌≡◌, ℕ, suc, ◌+◌, ◌<◌, ◌≤◌, Bool, true, false, cond, max, List, [], ◌∷◌, ◌++◌, length, get_or, take, slice_get, Option, None, Some, option_map, IfSome, ap, sym, ◌∙◌, subst, arith, ⊎_elim}
use Rattle.std.specs.Prelude.{All}
use mathlib.Core.List.{IsPrefix}
use Rattle.std.specs.Option.{option_map_or}
use Rattle.std.proofs.lemmas.Bool.{cases_Bool}
use Rattle.std.proofs.lemmas.List.{take_all}
use Rattle.std.proofs.lemmas.List.Elements.{All-head, All-tail}
use Rattle.std.proofs.lemmas.Option.{slice_get_cases}
use Rattle.std.proofs.Math.Seq.{take-suc}
use Rattle.cj_model.specs.declared.answer.Answer.{Answer}
use Rattle.cj_model.specs.declared.answer.Asked.TheVariants.{Rows}
use Rattle.cj_model.specs.declared.cached.Cached.{Cached}
use Rattle.cj_model.specs.declared.request.Entry.{Entry}
use Rattle.cj_model.specs.declared.select.Select.{Select}
use Rattle.cj_model.specs.Cluster.Caching.{after_keep, cached_entry, is_entry_for, without_tables, CacheState}
use Rattle.cj_model.specs.Database.Outcomes.{IsAnswer}
use Rattle.cj_model.specs.Database.Queries.{ask}
use Rattle.cj_model.specs.Proving.SameStatements.{same_statement-Decides}
use Rattle.cj_model.proofs.CachingLaws.{all_put}
use Rattle.cj_cluster.specs.declared.event.Event.{Event}
use Rattle.cj_cluster.specs.History.Freshness.{touches, touches_behind, IsAnswerAt, IsFreshAnswer, IsFreshCache}
use Rattle.cj_cluster.specs.History.Histories.{database_after, log}
use Rattle.cj_cluster.specs.History.Legality.{IsLegal}
use Rattle.cj_cluster.proofs.AnswersStay.{ask_stays}
use Rattle.cj_cluster.proofs.FreshAnswers.{by_tables, fresh_next, fresh_now}
use Rattle.cj_cluster.proofs.Pushed.{at-prefix, log-prefix, take_whole}
use Rattle.cj_cluster.proofs.TransactionLaws.{legal_fit}
use Rattle.cj_book.specs.Touching.{has_table}
use Rattle.cj_cache_shard.specs.Shards.{with_each_dropped}

-- ---- a kept answer

-- the entry that is found is one of the statement, and has what each entry has
entry_found : (P : Cached → Type 0) (s : Select) (entries : List Cached) → All P entries → IfSome (cached_entry s entries) (λ e. (e.select ≡ s) × P e)
entry_found P s [] all = tt
entry_found P s (e ∷ entries) all = ⊎_elim
    (λ (same : is_entry_for s e ≡ true). subst (λ b. IfSome (cond b (Some e) (cached_entry s entries)) (λ (f : Cached). (f.select ≡ s) × P f)) (sym same) (sym ((same_statement-Decides s e.select).0 same), All-head P e entries all))
    (λ (other : is_entry_for s e ≡ false). subst (λ b. IfSome (cond b (Some e) (cached_entry s entries)) (λ (f : Cached). (f.select ≡ s) × P f)) (sym other) (entry_found P s entries (All-tail P e entries all)))
    (cases_Bool (is_entry_for s e))

-- a kept answer and its position
abbrev kept_pair : Cached → Answer × ℕ
kept_pair e = (e.answer, e.at)

-- a share is right at each position that is not below its own, up to the log's end
pub share_right : (told : Bool) (h : List Event) (legal : IsLegal h) (c : CacheState) → IsFreshCache told (log h) c → (s : Select) (owed : ℕ) → owed ≤ length (log h) → (answer : Answer) (at n : ℕ)
    → Some (answer, at) ≡ option_map kept_pair (cached_entry s c.entries) → n ≡ max owed at
    → (owed ≤ n) × (n ≤ length (log h)) × IsAnswer answer × (told ≡ true → Rows answer ≡ ask (database_after (log h) n) 0 s)
share_right told h legal c fresh s owed few answer at n is greatest = from (cached_entry s c.entries) (entry_found (IsFreshAnswer told (log h)) s c.entries fresh) is
  where
    of_entry : (e : Cached) → e.select ≡ s → IsFreshAnswer told (log h) e → e.answer ≡ answer → e.at ≡ at
        → (owed ≤ n) × (n ≤ length (log h)) × IsAnswer answer × (told ≡ true → Rows answer ≡ ask (database_after (log h) n) 0 s)
    of_entry e select right same there =
        let within : e.at ≤ length (log h) = right.within in
        let low : e.at ≤ n = omega (arith, greatest, there) in
        let high : n ≤ length (log h) = omega (arith, greatest, there, within, few) in (
          omega (arith, greatest),
          high,
          subst IsAnswer same right.possible,
          λ on.
              let then : Rows e.answer ≡ ask (database_after (log h) e.at) 0 e.select = right.right on in
              let stays : ask (database_after (log h) e.at) 0 e.select ≡ ask (database_after (log h) n) 0 e.select = ask_stays (log h) (legal_fit h legal) e.at n e.select low high (λ k lo hi. right.untouched k lo (omega arith)) in
              ap Rows (sym same) ∙ (then ∙ (stays ∙ ap (ask (database_after (log h) n) 0) select)),
        )

    from : (o : Option Cached) → IfSome o (λ e. (e.select ≡ s) × IsFreshAnswer told (log h) e) → Some (answer, at) ≡ option_map kept_pair o
        → (owed ≤ n) × (n ≤ length (log h)) × IsAnswer answer × (told ≡ true → Rows answer ≡ ask (database_after (log h) n) 0 s)
    from None found is = absurd (cc is)
    from (Some e) found is =
        let both : (answer, at) ≡ (e.answer, e.at) = cc is in
        of_entry e found.0 found.1 (sym (ap (λ (p : Answer × ℕ). p.0) both)) (sym (ap (λ (p : Answer × ℕ). p.1) both))

-- ---- one more answer

-- an answer that was right in what another pass has seen, where both have seen a beginning of one history
pub right_here : (told : Bool) (S F both : List Event) → IsPrefix S both → IsPrefix F both → (e : Cached) → e.at ≤ length (log S) → e.at ≤ length (log F) → (told ≡ true → IsAnswerAt (log F) e.at e.select (Rows e.answer))
    → told ≡ true → IsAnswerAt (log S) e.at e.select (Rows e.answer)
right_here told S F both p q e here there right on =
    right on ∙ ap (λ db. ask db 0 e.select) (sym (at-prefix (log F) (log both) e.at (log-prefix F both q) there) ∙ at-prefix (log S) (log both) e.at (log-prefix S both p) here)

-- a cache that keeps an answer of the log's end, too
pub fresh_with : (told : Bool) (entries : List Entry) (e : Cached) (c : CacheState) → e.at ≡ length entries → IsAnswer e.answer → (told ≡ true → IsAnswerAt entries e.at e.select (Rows e.answer)) → IsFreshCache told entries c → IsFreshCache told entries (after_keep e c)
fresh_with told entries e c here possible right fresh = all_put (IsFreshAnswer told entries) e c (fresh_now told entries e here possible right) fresh

-- ---- more entries

-- one more entry, the tables of which are dropped
fresh_past : (told : Bool) (entries : List Entry) (set : List (List ℕ)) (k : ℕ) (c : CacheState) → k < length entries → ((table : List ℕ) → has_table set table ≡ touches entries k table)
    → IsFreshCache told (take k entries) c → IsFreshCache told (take (suc k) entries) (without_tables set c)
fresh_past told entries set k c lt touched fresh =
    ⊎_elim
    (λ (h : (x : Entry) × (k < length entries) × (slice_get entries k ≡ Some x) × (get_or entries k x ≡ x)).
    let e = h.0 in
    let are : (table : List ℕ) → has_table set table ≡ touches_behind (take k entries) e.tx e.act table = λ table. touched table ∙ ap (λ (o : Option Entry). option_map_or (λ (x : Entry). touches_behind (take k entries) x.tx x.act table) o false) h.2 in
    let next : take (suc k) entries ≡ take k entries ++ e ∷ [] = take-suc entries k e lt ∙ ap (λ (x : Entry). take k entries ++ x ∷ []) h.3 in
    subst (λ (l : List Entry). IsFreshCache told l (without_tables set c)) (sym next)
    (subst (λ (d : CacheState). IsFreshCache told (take k entries ++ e ∷ []) d) (sym (by_tables (take k entries) e set c are)) (fresh_next told (take k entries) e c fresh)))
    (λ (h : (length entries ≤ k) × (slice_get entries k ≡ None)). let le : length entries ≤ k = h.0 in absurd (omega (arith, le, lt)))
    (slice_get_cases entries k).1

-- two clauses of one value that there may be
pub both_some : {A : Type 0} (o : Option A) (P Q : A → Type 0) → IfSome o P → IfSome o Q → IfSome o (λ a. P a × Q a)
both_some None P Q p q = tt
both_some (Some a) P Q p q = (p, q)

-- all entries that are left, the tables of each of which are dropped
pub fresh_over : (told : Bool) (entries : List Entry) (sets : List (List (List ℕ))) (k : ℕ) (c : CacheState) → ((i : ℕ) → i < length sets → (table : List ℕ) → has_table (get_or sets i []) table ≡ touches entries (k + i) table)
    → k + length sets ≡ length entries → IsFreshCache told (take k entries) c → IsFreshCache told entries (with_each_dropped sets c)
fresh_over told entries [] k c each whole fresh = let all : length entries ≤ k = omega arith in subst (λ (l : List Entry). IsFreshCache told l c) (take_all k entries all) fresh
fresh_over told entries (set ∷ sets) k c each whole fresh =
    let lt : k < length entries = omega arith in
    let here : k + 0 ≡ k = omega arith in
    let first : (table : List ℕ) → has_table set table ≡ touches entries k table = λ table. each 0 (omega arith) table ∙ ap (λ n. touches entries n table) here in
    let left : (i : ℕ) → i < length sets → (table : List ℕ) → has_table (get_or sets i []) table ≡ touches entries (suc k + i) table = λ i less table. (let at : k + suc i ≡ suc k + i = omega arith in each (suc i) (omega arith) table ∙ ap (λ n. touches entries n table) at) in
    fresh_over told entries sets (suc k) (without_tables set c) left (omega arith) (fresh_past told entries set k c lt first fresh)

-- A shard has heard of history S, a beginning of H, and its cache is fresh there. So it is in H, without what is touched after S.
pub fresh_later : (told : Bool) (S H : List Event) → IsPrefix S H → (sets : List (List (List ℕ))) (c : CacheState)
    → ((i : ℕ) → i < length sets → (table : List ℕ) → has_table (get_or sets i []) table ≡ touches (log H) (length (log S) + i) table) → length (log S) + length sets ≡ length (log H) → IsFreshCache told (log S) c → IsFreshCache told (log H) (with_each_dropped sets c)
fresh_later told S H longer sets c each whole fresh = fresh_over told (log H) sets (length (log S)) c each whole (subst (λ (l : List Entry). IsFreshCache told l c) (sym (take_whole (log S) (log H) (log-prefix S H longer))) fresh)
