-- Fresh answers are right, and what keeps a cache fresh.
use Rattle.std.proofs.Common.{◌≡◌, ℕ, ◌+◌, ◌<◌, ◌≤◌, Bool, true, false, not, cond, ◌||◌, List, [], ◌∷◌, ◌++◌, length, take, get_or, None, Some, refl, ap, sym, ◌∙◌, subst, arith, length-append, ⊎_elim, slice_get}
use Rattle.std.specs.Prelude.{filter}
use Rattle.std.specs.List.{list_any}
use Rattle.std.proofs.lemmas.Bool.{cases_lt, not-true}
use Rattle.std.proofs.lemmas.List.Elements.{All-filter, filter_passes}
use Rattle.std.proofs.lemmas.List.{take-append-le}
use Rattle.cj_model.specs.declared.answer.Answer.{Answer}
use Rattle.cj_model.specs.declared.answer.Asked.TheVariants.{Rows}
use Rattle.cj_model.specs.declared.cached.Cached.{Cached}
use Rattle.cj_model.specs.declared.request.Act.TheVariants as act
use Rattle.cj_model.specs.Cluster.Caching.{CacheState, answer_kept, needs_one_of, without_tables}
use Rattle.cj_model.proofs.CachingLaws.{kept_answer}
use Rattle.cj_model.specs.Database.Outcomes.{IsAnswer}
use Rattle.cj_cluster.proofs.Pushed.{get_left, get_seam}
use Rattle.std.proofs.Math.Seq.{take-append_seam}
use Rattle.cj_cluster.specs.History.Histories.{database_of}
use Rattle.cj_cluster.specs.History.Transactions.{AreFit}
use Rattle.cj_model.specs.Database.Queries.{ask}
use Rattle.cj_model.specs.declared.request.Entry.{Entry}
use Rattle.cj_model.specs.declared.select.Select.{Select}
use Rattle.std.proofs.lemmas.Option.{slice_get_cases}
use Rattle.std.specs.Option.{option_map_or}
use Rattle.std.specs.Str.{bytes_eq}
use Rattle.cj_cluster.specs.History.Freshness.{touches_behind, touches, touches_query, IsAnswerAt, IsFreshAnswer, FollowsLog, IsFreshCache, without_touched}
use Rattle.cj_cluster.proofs.AnswersStay.{ask_stays}

-- ---- tests that agree

-- tests that agree hold of some item alike
any_agree : {A : Type 0} (p q : A → Bool) → ((x : A) → p x ≡ q x) → (xs : List A) → list_any p xs ≡ list_any q xs
any_agree p q same [] = refl
any_agree p q same (x ∷ xs) = ap (λ c. c || list_any p xs) (same x) ∙ ap (λ c. q x || c) (any_agree p q same xs)

filter_agree : {A : Type 0} (p q : A → Bool) → ((x : A) → p x ≡ q x) → (xs : List A) → filter p xs ≡ filter q xs
filter_agree p q same [] = refl
filter_agree p q same (x ∷ xs) = ap (λ c. cond c (x ∷ filter p xs) (filter p xs)) (same x) ∙ ap (λ rest. cond (q x) (x ∷ rest) rest) (filter_agree p q same xs)

-- ---- right answers

-- a fresh answer is the one at the log's end
pub right_at_end : (entries : List Entry) (kept : Cached) → AreFit entries → IsFreshAnswer true entries kept → IsAnswerAt entries (length entries) kept.select (Rows kept.answer)
right_at_end entries kept fits fresh = fresh.right refl ∙ ask_stays entries fits kept.at (length entries) kept.select fresh.within (let end : length entries ≤ length entries = omega arith in end) fresh.untouched

-- so is what a fresh cache gives
pub given_at_end : (entries : List Entry) (c : CacheState) (s : Select) (a : Answer) → AreFit entries → IsFreshCache true entries c → answer_kept s c ≡ Some a → IsAnswerAt entries (length entries) s (Rows a)
given_at_end entries c s a fits fresh is =
    let found = kept_answer (IsFreshAnswer true entries) s c a fresh is in
    subst (λ (t : Select). IsAnswerAt entries (length entries) t (Rows a)) found.1
    (subst (λ (b : Answer). IsAnswerAt entries (length entries) found.0.select (Rows b)) found.2 (right_at_end entries found.0 fits found.3))

-- an answer from the log's end is fresh
pub fresh_now : (tells : Bool) (entries : List Entry) (kept : Cached) → kept.at ≡ length entries → IsAnswer kept.answer → (tells ≡ true → IsAnswerAt entries kept.at kept.select (Rows kept.answer)) → IsFreshAnswer tells entries kept
fresh_now tells entries kept here possible right = record { possible = possible; within = omega arith; right = right; untouched = λ n low high. absurd (omega arith) }

-- ---- one more entry

module _ (tells : Bool) (entries : List Entry) (e : Entry) where
  -- the entries with this one
  abbrev longer : List Entry
  longer = entries ++ e ∷ []

  -- what the entries before it touch
  touches_before : (n : ℕ) → n < length entries → (table : List ℕ) → touches longer n table ≡ touches entries n table
  touches_before n lt table =
      ap (λ o. option_map_or (λ (x : Entry). touches_behind (take n longer) x.tx x.act table) o false) same
      ∙ ap (λ before. option_map_or (λ (x : Entry). touches_behind before x.tx x.act table) (slice_get entries n) false) (take-append-le n entries (e ∷ []) (omega arith))
    where
      same : slice_get longer n ≡ slice_get entries n
      same = ⊎_elim
          (λ (h : (x : Entry) × (n < length entries) × (slice_get entries n ≡ Some x) × (get_or entries n x ≡ x)). get_left entries (e ∷ []) n h.0 h.2 ∙ sym h.2)
          (λ (h : (length entries ≤ n) × (slice_get entries n ≡ None)). let le : length entries ≤ n = h.0 in absurd (omega arith))
          (slice_get_cases entries n).1

  -- an answer stays fresh behind an entry that touches no table that its query needs
  pub fresh_longer : (kept : Cached) → IsFreshAnswer tells entries kept → touches_query longer (length entries) kept.select ≡ false → IsFreshAnswer tells longer kept
  fresh_longer kept fresh off =
      let size : length longer ≡ length entries + 1 = length-append entries (e ∷ []) in
      let old : kept.at ≤ length entries = fresh.within in
      record {
        possible = fresh.possible;
        within = omega arith;
        right = λ on. fresh.right on ∙ sym (ap (λ l. ask (database_of l) 0 kept.select) (take-append-le kept.at entries (e ∷ []) old));
        untouched = λ n low high. ⊎_elim
            (λ (before : n < length entries). any_agree (touches longer n) (touches entries n) (touches_before n before) kept.select.tables ∙ fresh.untouched n low before)
            (λ (last : length entries ≤ n). let is : length entries ≡ n = omega arith in subst (λ (m : ℕ). touches_query longer m kept.select ≡ false) is off)
            (cases_lt n (length entries));
      }

  -- what the last entry touches
  touches_last : (table : List ℕ) → touches longer (length entries) table ≡ touches_behind entries e.tx e.act table
  touches_last table =
      ap (λ o. option_map_or (λ (x : Entry). touches_behind (take (length entries) longer) x.tx x.act table) o false) (get_seam entries [] e)
      ∙ ap (λ before. touches_behind before e.tx e.act table) (take-append_seam entries (e ∷ []))

  -- so a cache stays fresh where what it touches is dropped
  pub fresh_next : (c : CacheState) → IsFreshCache tells entries c → IsFreshCache tells longer (without_touched entries e c)
  fresh_next c fresh k d lt =
      let kept : Cached = get_or (without_touched entries e c).entries k d in
      let test : Cached → Bool = λ x. not (list_any (touches_behind entries e.tx e.act) x.select.tables) in
      fresh_longer kept (All-filter test (IsFreshAnswer tells entries) c.entries fresh k d lt)
      (any_agree (touches longer (length entries)) (touches_behind entries e.tx e.act) touches_last kept.select.tables
      ∙ not-true (list_any (touches_behind entries e.tx e.act) kept.select.tables) (filter_passes test c.entries k d lt))

-- ---- tables that are touched

-- a set of exactly the tables that are touched
pub by_tables : (entries : List Entry) (e : Entry) (set : List (List ℕ)) (c : CacheState) → ((table : List ℕ) → list_any (λ name. bytes_eq name table) set ≡ touches_behind entries e.tx e.act table) → without_tables set c ≡ without_touched entries e c
by_tables entries e set c are =
    ap (λ (kept : List Cached). record c { entries = kept })
    (filter_agree (λ (kept : Cached). not (needs_one_of set kept.select)) (λ (kept : Cached). not (list_any (touches_behind entries e.tx e.act) kept.select.tables))
    (λ kept. ap not (any_agree (λ table. list_any (λ name. bytes_eq name table) set) (touches_behind entries e.tx e.act) are kept.select.tables)) c.entries)

-- ---- ends of transactions by ROLLBACK

-- they touch no table, so nothing is dropped behind them
pub kept_behind_abort : (entries : List Entry) (e : Entry) (c : CacheState) → e.act ≡ act.Abort → without_touched entries e c ≡ c
kept_behind_abort entries e c is = ap (λ (kept : List Cached). record c { entries = kept }) (all_left c.entries)
  where
    none_touched : (tables : List (List ℕ)) → list_any (touches_behind entries e.tx e.act) tables ≡ false
    none_touched [] = refl
    none_touched (table ∷ tables) = ap (λ a. touches_behind entries e.tx a table || list_any (touches_behind entries e.tx e.act) tables) is ∙ none_touched tables

    all_left : (kept : List Cached) → filter (λ (k : Cached). not (list_any (touches_behind entries e.tx e.act) k.select.tables)) kept ≡ kept
    all_left [] = refl
    all_left (k ∷ kept) =
        ap (λ b. cond (not b) (k ∷ filter (λ (x : Cached). not (list_any (touches_behind entries e.tx e.act) x.select.tables)) kept) (filter (λ (x : Cached). not (list_any (touches_behind entries e.tx e.act) x.select.tables)) kept)) (none_touched k.select.tables)
        ∙ ap (λ rest. k ∷ rest) (all_left kept)

pub follows_abort : (before now : List Entry) (old new : CacheState) (e : Entry) → e.act ≡ act.Abort → now ≡ before ++ e ∷ [] → FollowsLog before now old new → new ≡ old
follows_abort before now old new e aborts is follows = ⊎_elim
    (λ (same : (now ≡ before) × (new ≡ old)). same.1)
    (λ (grown : (d : Entry) × (now ≡ before ++ d ∷ []) × (new ≡ without_touched before d old)).
    let last : Some grown.0 ≡ Some e = sym (get_seam before [] grown.0) ∙ (ap (λ l. slice_get l (length before)) (sym grown.1 ∙ is) ∙ get_seam before [] e) in
    let one : grown.0 ≡ e = cc last in
    grown.2 ∙ kept_behind_abort before grown.0 old (ap (λ (x : Entry). x.act) one ∙ aborts))
    follows

-- ---- a log that has not grown

pub follows_same : (before now : List Entry) (old new : CacheState) → now ≡ before → FollowsLog before now old new → new ≡ old
follows_same before now old new same follows = ⊎_elim
    (λ (stayed : (now ≡ before) × (new ≡ old)). stayed.1)
    (λ (grown : (d : Entry) × (now ≡ before ++ d ∷ []) × (new ≡ without_touched before d old)).
    let more : length before ≡ length before + 1 = ap length (sym same ∙ grown.1) ∙ length-append before (grown.0 ∷ []) in
    absurd (omega (arith, more)))
    follows
