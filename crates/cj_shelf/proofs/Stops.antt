-- What a stop leaves of a shelf.
use Rattle.std.proofs.Common.{◌≡◌, inl, inr, ⊎_elim, ℕ, Bool, true, List, [], ◌∷◌, ◌++◌, length, Ok, ap, subst}
use Rattle.std.proofs.lemmas.List.{append_cancel_left}
use Rattle.cj_shelf.proofs.Common.{Dump, Finds, IsDump, Label, LeavesOnly, RecordList, dump_bytes, ok_is, one_list}
use Rattle.cj_records.specs.Records as records
use Rattle.cj_shelf.specs.Shelves.{ShelfState, shelf_magic, KeepsAtLeast, KeepsDumps, IsBeforeOrAfter}
use Rattle.cj_shelf.specs.Proving.{labelled, dumps_in, AreBodies, AgreesWithRecords}
use Rattle.cj_shelf.proofs.Bodies.{bodies_more}

-- what follows from what a stop leaves
leaves_map : {D : Type 0} (moment : D → ℕ) (since : D → ℕ → List ℕ → Type 0) (a b : D) (P Q : List ℕ → Type 0) → LeavesOnly moment since a b P → ((image : List ℕ) → P image → Q image) → LeavesOnly moment since a b Q
leaves_map moment since a b P Q s so = record {
  later = s.later;
  each = λ image left. so image (s.each image left);
  before = λ t image le left. ⊎_elim (λ was. inl was) (λ p. inr (so image p)) (s.before t image le left);
}

-- what contracts see of a shelf with these fields
abbrev pub shelf_at : {S : Type 0} → RecordList S → List Label → ShelfState S
shelf_at kept labels = record { store = kept.store; names = labelled labels; dumps = dumps_in kept.list; torn = kept.torn; refused = kept.refused }

-- what these records keep are the dumps
pub keeps : (image magic : List ℕ) (list : List (List ℕ)) (dumps : List Dump) → magic ≡ shelf_magic → AreBodies list dumps → Finds magic image (Ok list) → KeepsDumps image dumps
keeps image magic list dumps is are f = record {
  found = subst (λ (xs : List (List ℕ)). Finds shelf_magic image (Ok xs)) are.same (subst (λ (m : List ℕ). Finds m image (Ok list)) is f);
  each = are.each;
}

-- the bytes as they are have the dumps, and maybe the one that was refused
pub keeps_at_least : {S : Type 0} (tells : Bool) (kept : RecordList S) (labels : List Label) (bytes : List ℕ) → tells ≡ true → AgreesWithRecords tells kept labels → records.KeepsAtLeast kept bytes → KeepsAtLeast bytes (dumps_in kept.list) kept.torn
keeps_at_least tells kept labels bytes t a (inl f) = inl (keeps bytes kept.magic kept.list (dumps_in kept.list) a.magic (a.labels t).dumps f)
keeps_at_least tells kept labels bytes t a (inr (up, f)) =
    let r = a.refused t up in
    inr (up, r.0, keeps bytes kept.magic (kept.list ++ kept.refused ∷ []) (dumps_in kept.list ++ r.0 ∷ []) a.magic (bodies_more kept.list (dumps_in kept.list) kept.refused r.0 (a.labels t).dumps r.1 r.2) f)

module _ {S : Type 0} (tells : Bool) (kept : RecordList S) (labels : List Label) (d : Dump) (t : tells ≡ true) (a : AgreesWithRecords tells kept labels) where
  stays : (image : List ℕ) → Finds kept.magic image (Ok kept.list) → IsBeforeOrAfter (shelf_at kept labels) d image
  stays image f = inl (keeps image kept.magic kept.list (dumps_in kept.list) a.magic (a.labels t).dumps f)

  refused : (image : List ℕ) → kept.torn ≡ true → Finds kept.magic image (Ok (kept.list ++ kept.refused ∷ [])) → IsBeforeOrAfter (shelf_at kept labels) d image
  refused image up f =
      let r = a.refused t up in
      inr (inr (r.0, up, r.2, keeps image kept.magic (kept.list ++ kept.refused ∷ []) (dumps_in kept.list ++ r.0 ∷ []) a.magic (bodies_more kept.list (dumps_in kept.list) kept.refused r.0 (a.labels t).dumps r.1 r.2) f))

  -- what a stop leaves of the records is that of the shelf
  before_or_after : (body image : List ℕ) → IsDump d → dump_bytes d ≡ body → records.IsBeforeOrAfter kept body image → IsBeforeOrAfter (shelf_at kept labels) d image
  before_or_after body image is its (inl f) = stays image f
  before_or_after body image is its (inr (inl f)) = inr (inl (keeps image kept.magic (kept.list ++ body ∷ []) (dumps_in kept.list ++ d ∷ []) a.magic (bodies_more kept.list (dumps_in kept.list) body d (a.labels t).dumps is its) f))
  before_or_after body image is its (inr (inr (up, f))) = refused image up f

  pub leaves : (v : ShelfState S) → shelf_at kept labels ≡ v → (moment : S → ℕ) (since : S → ℕ → List ℕ → Type 0) (new : S) (body : List ℕ) → IsDump d → dump_bytes d ≡ body → LeavesOnly moment since kept.store new (records.IsBeforeOrAfter kept body) → LeavesOnly moment since v.store new (IsBeforeOrAfter v d)
  leaves v seen moment since new body is its s =
      subst (λ (w : ShelfState S). LeavesOnly moment since w.store new (IsBeforeOrAfter w d)) seen (leaves_map moment since kept.store new (records.IsBeforeOrAfter kept body) (IsBeforeOrAfter (shelf_at kept labels) d) s (λ image f. before_or_after body image is its f))

  -- of a store that is asked nothing, whatever is added next: no image has each of two bodies more
  one_body : (image : List ℕ) → Finds kept.magic image (Ok (kept.list ++ [] ∷ [])) → Finds kept.magic image (Ok (kept.list ++ (1 ∷ []) ∷ [])) → ⊥
  one_body image f g =
      let same : kept.list ++ [] ∷ [] ≡ kept.list ++ (1 ∷ []) ∷ [] = ok_is (kept.list ++ [] ∷ []) (kept.list ++ (1 ∷ []) ∷ []) (one_list kept.magic image (Ok (kept.list ++ [] ∷ [])) (Ok (kept.list ++ (1 ∷ []) ∷ [])) (ap length a.magic) f g) in
      let ends : [] ∷ [] ≡ (1 ∷ []) ∷ [] = append_cancel_left kept.list ([] ∷ []) ((1 ∷ []) ∷ []) same in
      absurd (cc ends)

  either : (image : List ℕ) → records.IsBeforeOrAfter kept [] image → records.IsBeforeOrAfter kept (1 ∷ []) image → IsBeforeOrAfter (shelf_at kept labels) d image
  either image (inl f) q = stays image f
  either image (inr (inr (up, f))) q = refused image up f
  either image (inr (inl f)) (inl g) = stays image g
  either image (inr (inl f)) (inr (inl g)) = absurd (one_body image f g)
  either image (inr (inl f)) (inr (inr (up, g))) = refused image up g

  pub leaves_now : (moment : S → ℕ) (since : S → ℕ → List ℕ → Type 0) → ((body : List ℕ) → LeavesOnly moment since kept.store kept.store (records.IsBeforeOrAfter kept body)) → LeavesOnly moment since kept.store kept.store (IsBeforeOrAfter (shelf_at kept labels) d)
  leaves_now moment since now = record {
    later = (now []).later;
    each = λ image left. either image ((now []).each image left) ((now (1 ∷ [])).each image left);
    before = λ time image le left. inl left;
  }
