-- Bodies that are read one after the other.
use Rattle.std.proofs.Common.{◌≡◌, ℕ, zero, suc, ◌+◌, ◌-◌, ◌^◌, ◌<◌, ◌≤◌, min, Bool, true, false, List, [], ◌∷◌, ◌++◌, length, take, drop, Some, Result, Ok, Err, sym, ap, subst, ◌∙◌, arith, length-append}
use Rattle.std.specs.Prelude.{slice_get, IsErrAnd}
use Rattle.std.specs.Global.{Vec}
use Rattle.std.specs.List.{flat_map}
use Rattle.std.proofs.lemmas.List.{map-append, flat_map_more, take-append-drop, take_more}
use Rattle.std.proofs.lemmas.List.Concat.{flat_map-append}
use Rattle.std.proofs.lemmas.Option.{slice_get_within, get_or_from_slice_get}
use Rattle.cj_shelf.proofs.Common.{Dump, IsDump, Label, RecordList, ShelfError, dump_bytes}
use Rattle.cj_records.specs.RecordFiles.{record_bytes, front_bytes}
use Rattle.cj_records.proofs.Reach.{length-record}
use Rattle.cj_shelf.specs.declared.error.ShelfError.TheVariants as errors
use Rattle.cj_shelf.specs.Shelves.{shelf_magic, names_of, IsNoDump, BadDumpIn}
use Rattle.cj_shelf.specs.Proving.{dumps_in, AreBodies, Labels, AgreesWithRecords, FindsDump, LabelsOf}
use Rattle.cj_shelf.proofs.Bodies.{bodies_more, dumps_are}

-- ---- a list and a body of it

parted : (list : List (List ℕ)) (n : ℕ) (body : List ℕ) → slice_get list n ≡ Some body → list ≡ take n list ++ body ∷ drop (suc n) list
parted [] n body e = absurd cc
parted (x ∷ xs) zero body e = let is : x ≡ body = cc in ap (λ (y : List ℕ). y ∷ xs) is
parted (x ∷ xs) (suc n) body e = ap (λ (ys : List (List ℕ)). x ∷ ys) (parted xs n body e)

pub one_more : (list : List (List ℕ)) (n : ℕ) (body : List ℕ) → slice_get list n ≡ Some body → take (n + 1) list ≡ take n list ++ body ∷ []
one_more list n body is =
    take_more list n body (slice_get_within list n body is) ∙ ap (λ (y : List ℕ). take n list ++ y ∷ []) (get_or_from_slice_get list n body body is)

front_within : (n : ℕ) (list : List (List ℕ)) → length (front_bytes shelf_magic (take n list)) ≤ length (front_bytes shelf_magic list)
front_within n list =
    let whole : flat_map record_bytes list ≡ flat_map record_bytes (take n list) ++ flat_map record_bytes (drop n list) = ap (flat_map record_bytes) (sym (take-append-drop n list)) ∙ flat_map-append record_bytes (take n list) (drop n list) in
    omega (arith, length-append shelf_magic (flat_map record_bytes list), length-append shelf_magic (flat_map record_bytes (take n list)), ap length whole, length-append (flat_map record_bytes (take n list)) (flat_map record_bytes (drop n list)))

-- where the next record begins
pub there_more : (list : List (List ℕ)) (n at end next : ℕ) (body : List ℕ) → at ≡ length (front_bytes shelf_magic (take n list)) → next ≡ min (at + (9 + length body)) (2 ^ 64 - 1) → end ≡ length (front_bytes shelf_magic list) → end < 2 ^ 63 → slice_get list n ≡ Some body
    → next ≡ length (front_bytes shelf_magic (take (n + 1) list))
there_more list n at end next body there sum all below read =
    omega (arith, there, ap (λ (bs : List (List ℕ)). length (front_bytes shelf_magic bs)) (one_more list n body read), ap length (flat_map_more record_bytes shelf_magic (take n list) body), length-append (front_bytes shelf_magic (take n list)) (record_bytes body), length-record body, front_within (n + 1) list, all, below, sum)

-- ---- dumps of bodies

-- a body that is no dump's
pub bad_in : (list : List (List ℕ)) (n at : ℕ) (body : List ℕ) → AreBodies (take n list) (dumps_in (take n list)) → at ≡ length (front_bytes shelf_magic (take n list)) → slice_get list n ≡ Some body → IsNoDump body → BadDumpIn list at
bad_in list n at body are there read bad = record {
  before = dumps_in (take n list);
  body = body;
  later = drop (suc n) list;
  parts = parted list n body read ∙ ap (λ (bs : List (List ℕ)). bs ++ body ∷ drop (suc n) list) are.same;
  each = are.each;
  bad = bad;
  there = there ∙ ap (λ (bs : List (List ℕ)). length (front_bytes shelf_magic bs)) are.same;
}

-- one label more
pub labels_more : (bodies : List (List ℕ)) (labels : List Label) (body : List ℕ) (d : Dump) (label : Label) → Labels bodies labels → IsDump d → body ≡ dump_bytes d → label.name ≡ d.name → Labels (bodies ++ body ∷ []) (labels ++ label ∷ [])
labels_more bodies labels body d label l is its named = record {
  dumps = subst (AreBodies (bodies ++ body ∷ [])) (sym grown) more;
  names =
      map-append (λ (x : Label). x.name) labels (label ∷ []) ∙ ap (λ (ns : List (List ℕ)). ns ++ label.name ∷ []) l.names ∙ ap (λ (n : List ℕ). names_of (dumps_in bodies) ++ n ∷ []) named
      ∙ sym (map-append (λ (x : Dump). x.name) (dumps_in bodies) (d ∷ [])) ∙ ap names_of (sym grown);
}
  where
    more : AreBodies (bodies ++ body ∷ []) (dumps_in bodies ++ d ∷ [])
    more = bodies_more bodies (dumps_in bodies) body d l.dumps is (sym its)

    grown : dumps_in (bodies ++ body ∷ []) ≡ dumps_in bodies ++ d ∷ []
    grown = dumps_are (bodies ++ body ∷ []) (dumps_in bodies ++ d ∷ []) more

-- a body that gives no label
pub labels_refused : (list : List (List ℕ)) (n at : ℕ) (body : List ℕ) (labels : List Label) (e : ShelfError) (r : Result (Vec Label) ShelfError) → Labels (take n list) labels → at ≡ length (front_bytes shelf_magic (take n list)) → slice_get list n ≡ Some body → FindsDump body at (Err e) → IsErrAnd r (λ x. x ≡ e)
    → LabelsOf list r
labels_refused list n at body labels e (Ok x) l there read f is = absurd is
labels_refused list n at body labels e (Err errors.Failed) l there read f is = tt
labels_refused list n at body labels e (Err errors.NoMemory) l there read f is = tt
labels_refused list n at body labels e (Err (errors.BadRecord offset)) l there read f is =
    let bad = subst (λ (x : ShelfError). FindsDump body at (Err x)) (sym is) f in
    subst (BadDumpIn list) (sym bad.1) (bad_in list n at body l.dumps there read bad.0)

pub dumps_more : (old new : List (List ℕ)) (body : List ℕ) (d : Dump) → AreBodies old (dumps_in old) → new ≡ old ++ body ∷ [] → IsDump d → body ≡ dump_bytes d → dumps_in new ≡ dumps_in old ++ d ∷ []
dumps_more old new body d are more is its = ap dumps_in more ∙ dumps_are (old ++ body ∷ []) (dumps_in old ++ d ∷ []) (bodies_more old (dumps_in old) body d are is (sym its))

-- what holds of the fields with one dump more
pub agrees_more : {S : Type 0} (tells : Bool) (old new : RecordList S) (labels labels' : List Label) (body : List ℕ) (d : Dump) (label : Label) → AgreesWithRecords tells old labels → new.magic ≡ old.magic → labels' ≡ labels ++ label ∷ [] → length new.list ≡ length old.list + 1
    → (tells ≡ true → (new.list ≡ old.list ++ body ∷ []) × (new.torn ≡ false)) → IsDump d → body ≡ dump_bytes d → label.name ≡ d.name → AgreesWithRecords tells new labels'
agrees_more tells old new labels labels' body d label a magic pushed count list is its named = record {
  magic = magic ∙ a.magic;
  count = omega (arith, a.count, count, ap length pushed, length-append labels (label ∷ []));
  labels = λ t. subst (λ (bs : List (List ℕ)). Labels bs labels') (sym (list t).0) (subst (Labels (old.list ++ body ∷ [])) (sym pushed) (labels_more old.list labels body d label (a.labels t) is its named));
  refused = λ t up. let down = (list t).1 in absurd (cc (down, up));
}
