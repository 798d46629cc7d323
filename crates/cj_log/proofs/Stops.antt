-- What a stop leaves of a log.
use Rattle.std.proofs.Common.{◌≡◌, ◌⊎◌, inl, inr, ⊎_elim, ℕ, Bool, true, false, List, [], ◌∷◌, ◌++◌, length, Ok, sym, ap, subst, ◌∙◌}
use Rattle.std.proofs.lemmas.List.{map-append, append_cancel_left}
use Rattle.cj_log.proofs.Common.{AllByRecursion, IsBeforeOrAfter, IsItem, KeepsAtLeast, KeepsItems, LeavesOnly, LogItem, LogState, bodies_of, item_bytes, log_magic, ok_is, one_list}
use Rattle.cj_records.specs.RecordFiles.{Finds}
use Rattle.cj_records.specs.Records.{RecordList, SameRecords}
use Rattle.cj_records.specs.Records as records
use Rattle.cj_log.specs.Proving.Keeping.{AgreesWithRecords}
use Rattle.cj_log.specs.Proving.ItemFormats.{item_of, items_in}
use Rattle.cj_log.proofs.ItemFormats.{item_back, items_back}
use Rattle.cj_log.proofs.Listed.{each_more}

-- what follows from what a stop leaves
pub leaves_map : {D : Type 0} (moment : D → ℕ) (since : D → ℕ → List ℕ → Type 0) (a b : D) (P Q : List ℕ → Type 0) → LeavesOnly moment since a b P → ((image : List ℕ) → P image → Q image) → LeavesOnly moment since a b Q
leaves_map moment since a b P Q s so = record {
  later = s.later;
  each = λ image left. so image (s.each image left);
  before = λ t image le left. ⊎_elim (λ was. inl was) (λ p. inr (so image p)) (s.before t image le left);
}

-- what contracts see of a log with these fields
abbrev pub logged_at : {S : Type 0} → RecordList S → List LogItem → LogState S
logged_at kept items = record { store = kept.store; items = items; torn = kept.torn; refused = kept.refused }

-- what these records keep are the items
pub keeps : (image magic : List ℕ) (list : List (List ℕ)) (items : List LogItem) → magic ≡ log_magic → list ≡ bodies_of items → AllByRecursion IsItem items → Finds magic image (Ok list) → KeepsItems image items
keeps image magic list items is same all f = record {
  found = subst (λ (xs : List (List ℕ)). Finds log_magic image (Ok xs)) same (subst (λ (m : List ℕ). Finds m image (Ok list)) is f);
  each = all;
}

more : (list : List (List ℕ)) (items : List LogItem) (item : LogItem) (body : List ℕ) → list ≡ bodies_of items → item_bytes item ≡ body → list ++ body ∷ [] ≡ bodies_of (items ++ item ∷ [])
more list items item body same is = ap (λ (xs : List (List ℕ)). xs ++ body ∷ []) same ∙ ap (λ (b : List ℕ). bodies_of items ++ b ∷ []) (sym is) ∙ sym (map-append item_bytes items (item ∷ []))

pub items_of : {S : Type 0} (tells : Bool) (kept : RecordList S) (items : List LogItem) (item : LogItem) (body image : List ℕ) → tells ≡ true → AgreesWithRecords tells kept items → IsItem item → item_bytes item ≡ body → records.IsBeforeOrAfter kept body image → IsBeforeOrAfter (logged_at kept items) item image
items_of tells kept items item body image t l is its (inl f) = inl (keeps image kept.magic kept.list items l.magic (l.bodies t) (l.each t) f)
items_of tells kept items item body image t l is its (inr (inl f)) = inr (inl (keeps image kept.magic (kept.list ++ body ∷ []) (items ++ item ∷ []) l.magic (more kept.list items item body (l.bodies t) its) (each_more items item (l.each t) is) f))
items_of tells kept items item body image t l is its (inr (inr (up, f))) =
    let r = l.refused t up in
    inr (inr (r.0, up, r.2, keeps image kept.magic (kept.list ++ kept.refused ∷ []) (items ++ r.0 ∷ []) l.magic (more kept.list items r.0 kept.refused (l.bodies t) r.2) (each_more items r.0 (l.each t) r.1) f))

-- what a stop leaves of a store that is asked nothing, whatever is appended next: no body that is none of an item
module _ {S : Type 0} (tells : Bool) (kept : RecordList S) (items : List LogItem) (item : LogItem) (t : tells ≡ true) (l : AgreesWithRecords tells kept items) where
  stays : (image : List ℕ) → Finds kept.magic image (Ok kept.list) → IsBeforeOrAfter (logged_at kept items) item image
  stays image f = inl (keeps image kept.magic kept.list items l.magic (l.bodies t) (l.each t) f)

  refused : (image : List ℕ) → kept.torn ≡ true → Finds kept.magic image (Ok (kept.list ++ kept.refused ∷ [])) → IsBeforeOrAfter (logged_at kept items) item image
  refused image up f =
      let r = l.refused t up in
      inr (inr (r.0, up, r.2, keeps image kept.magic (kept.list ++ kept.refused ∷ []) (items ++ r.0 ∷ []) l.magic (more kept.list items r.0 kept.refused (l.bodies t) r.2) (each_more items r.0 (l.each t) r.1) f))

  one_body : (image : List ℕ) → Finds kept.magic image (Ok (kept.list ++ [] ∷ [])) → Finds kept.magic image (Ok (kept.list ++ (1 ∷ []) ∷ [])) → ⊥
  one_body image f g =
      let same : kept.list ++ [] ∷ [] ≡ kept.list ++ (1 ∷ []) ∷ [] = ok_is (kept.list ++ [] ∷ []) (kept.list ++ (1 ∷ []) ∷ []) (one_list kept.magic image (Ok (kept.list ++ [] ∷ [])) (Ok (kept.list ++ (1 ∷ []) ∷ [])) (ap length l.magic) f g) in
      let ends : [] ∷ [] ≡ (1 ∷ []) ∷ [] = append_cancel_left kept.list ([] ∷ []) ((1 ∷ []) ∷ []) same in
      absurd (cc ends)

  either : (image : List ℕ) → records.IsBeforeOrAfter kept [] image → records.IsBeforeOrAfter kept (1 ∷ []) image → IsBeforeOrAfter (logged_at kept items) item image
  either image (inl f) q = stays image f
  either image (inr (inr (up, f))) q = refused image up f
  either image (inr (inl f)) (inl g) = stays image g
  either image (inr (inl f)) (inr (inl g)) = absurd (one_body image f g)
  either image (inr (inl f)) (inr (inr (up, g))) = refused image up g

  pub leaves_now : (moment : S → ℕ) (since : S → ℕ → List ℕ → Type 0) → ((body : List ℕ) → LeavesOnly moment since kept.store kept.store (records.IsBeforeOrAfter kept body)) → LeavesOnly moment since kept.store kept.store (IsBeforeOrAfter (logged_at kept items) item)
  leaves_now moment since now = record {
    later = (now []).later;
    each = λ image left. either image ((now []).each image left) ((now (1 ∷ [])).each image left);
    before = λ time image le left. inl left;
  }

-- the bytes as they are have the items, and maybe the one that was refused
pub keeps_at_least : {S : Type 0} (tells : Bool) (kept : RecordList S) (items : List LogItem) (bytes : List ℕ) → tells ≡ true → AgreesWithRecords tells kept items → records.KeepsAtLeast kept bytes → KeepsAtLeast bytes items kept.torn
keeps_at_least tells kept items bytes t l (inl f) = inl (keeps bytes kept.magic kept.list items l.magic (l.bodies t) (l.each t) f)
keeps_at_least tells kept items bytes t l (inr (up, f)) =
    let r = l.refused t up in
    inr (up, r.0, keeps bytes kept.magic (kept.list ++ kept.refused ∷ []) (items ++ r.0 ∷ []) l.magic (more kept.list items r.0 kept.refused (l.bodies t) r.2) (each_more items r.0 (l.each t) r.1) f)

-- ---- what holds of the fields after a refused append

-- ---- the items are those of the bodies

pub agrees_opened : {S : Type 0} (tells : Bool) (held : S → List ℕ) (old new : RecordList S) (items : List LogItem) → old.magic ≡ log_magic → old.torn ≡ false → SameRecords tells held old new → (tells ≡ true → old.list ≡ bodies_of items) → AllByRecursion IsItem items → AgreesWithRecords tells new (items_in new.list)
agrees_opened tells held old new items magic shut same bodies each = record {
  magic = same.magic ∙ magic;
  bodies = λ t. let is = same.list t ∙ bodies t in is ∙ ap bodies_of (sym (items_back items each)) ∙ ap (λ (l : List (List ℕ)). bodies_of (items_in l)) (sym is);
  each = λ t. subst (λ (xs : List LogItem). AllByRecursion IsItem xs) (sym (ap items_in (same.list t ∙ bodies t) ∙ items_back items each)) each;
  refused = λ t up. absurd (cc (same.torn ∙ shut, up));
}

pub items_more : (old new : List (List ℕ)) (body : List ℕ) (item : LogItem) → new ≡ old ++ body ∷ [] → body ≡ item_bytes item → IsItem item → items_in new ≡ items_in old ++ item ∷ []
items_more old new body item more its is = ap items_in more ∙ map-append item_of old (body ∷ []) ∙ ap (λ (x : LogItem). items_in old ++ x ∷ []) (ap item_of its ∙ item_back item is)

pub agrees_more : {S : Type 0} (tells : Bool) (old new : RecordList S) (body : List ℕ) (item : LogItem) → AgreesWithRecords tells old (items_in old.list) → new.magic ≡ old.magic → (tells ≡ true → (new.list ≡ old.list ++ body ∷ []) × (new.torn ≡ false)) → body ≡ item_bytes item → IsItem item
    → AgreesWithRecords tells new (items_in new.list)
agrees_more tells old new body item l magic added its is = record {
  magic = magic ∙ l.magic;
  bodies = λ t. (added t).0 ∙ (more old.list (items_in old.list) item body (l.bodies t) (sym its) ∙ ap bodies_of (sym (items_more old.list new.list body item (added t).0 its is)));
  each = λ t. subst (λ (xs : List LogItem). AllByRecursion IsItem xs) (sym (items_more old.list new.list body item (added t).0 its is)) (each_more (items_in old.list) item (l.each t) is);
  refused = λ t up. absurd (cc ((added t).1, up));
}
