-- Records that stand one after another, and what a write leaves of them.
use Rattle.std.proofs.Common.{◌≡◌, ℕ, ◌+◌, ◌≤◌, List, [], ◌∷◌, ◌++◌, length, take, drop, refl, sym, ap, subst, ◌∙◌, arith, length-append}
use Rattle.std.specs.List.{AllByRecursion}
use Rattle.std.proofs.lemmas.List.{take-append-drop, take_at, take-take, drop-take, flat_map_more, map-append}
use Rattle.std.proofs.Math.Seq.{take-add}
use Rattle.cj_records.proofs.Common.{AllWithin, Place, Reaches, bodies_at, body_at, end_of, to_be_bytes, w64}
use Rattle.cj_records.specs.RecordFiles.{record_bytes, front_bytes, HasLength, StartsWithRecords}

pub length-record : (body : List ℕ) → length (record_bytes body) ≡ 9 + length body
length-record body = omega (arith, length-append (to_be_bytes w64 (length body)) body)

-- one record more
pub reaches_more : (magic held : List ℕ) (bodies : List (List ℕ)) (at : ℕ) (body later : List ℕ) → Reaches magic held bodies at → drop at held ≡ record_bytes body ++ later → HasLength body → Reaches magic held (bodies ++ body ∷ []) (at + 9 + length body)
reaches_more magic held bodies at body later r e h =
    let n = length (record_bytes body) in
    let more : front_bytes magic bodies ++ record_bytes body ≡ front_bytes magic (bodies ++ body ∷ []) = flat_map_more record_bytes magic bodies body in
    let next : take n (drop at held) ≡ record_bytes body = ap (take n) e ∙ take_at (record_bytes body) later n refl in
    let both : take (at + n) held ≡ front_bytes magic (bodies ++ body ∷ []) = take-add at n held ∙ ap (λ (t : List ℕ). t ++ take n (drop at held)) r.front ∙ ap (λ (t : List ℕ). front_bytes magic bodies ++ t) next ∙ more in
    let ends : at + n ≡ at + 9 + length body = omega (arith, length-record body) in
    record {
      front = subst (λ (k : ℕ). take k held ≡ front_bytes magic (bodies ++ body ∷ [])) ends both;
      size = omega (arith, r.size, length-record body, ap length more, length-append (front_bytes magic bodies) (record_bytes body));
      each = each_more bodies r.each;
    }
  where
    each_more : (bodies : List (List ℕ)) → AllByRecursion HasLength bodies → AllByRecursion HasLength (bodies ++ body ∷ [])
    each_more [] all = (h, tt)
    each_more (b ∷ bs) all = (all.0, each_more bs all.1)

-- the records, and the rest from there on
pub reaches_fronts : (magic held : List ℕ) (bodies : List (List ℕ)) (at : ℕ) → Reaches magic held bodies at → StartsWithRecords magic held bodies (drop at held)
reaches_fronts magic held bodies at r = record { whole = sym (take-append-drop at held) ∙ ap (λ (t : List ℕ). t ++ drop at held) r.front; each = r.each }

-- a part that lies before an offset stays where the bytes before that offset stay
pub part_same : (n m end : ℕ) (old new : List ℕ) → n + m ≤ end → take end new ≡ take end old → take m (drop n new) ≡ take m (drop n old)
part_same n m end old new le same =
    sym (drop-take n m new) ∙ ap (drop n) (sym (take-take (n + m) end new le) ∙ ap (take (n + m)) same ∙ take-take (n + m) end old le) ∙ drop-take n m old

pub bodies_same : (end : ℕ) (places : List Place) (old new : List ℕ) → AllWithin end places → take end new ≡ take end old → bodies_at new places ≡ bodies_at old places
bodies_same end [] old new all same = refl
bodies_same end (p ∷ ps) old new all same =
    let first : body_at new p ≡ body_at old p = part_same (p.at + 9) p.len end old new all.0 same in
    ap (λ (x : List ℕ). x ∷ bodies_at new ps) first ∙ ap (λ (xs : List (List ℕ)). body_at old p ∷ xs) (bodies_same end ps old new all.1 same)

pub within_more : (end later : ℕ) (places : List Place) (p : Place) → AllWithin end places → end ≤ later → end_of p ≤ later → AllWithin later (places ++ p ∷ [])
within_more end later [] p all le last = (last, tt)
within_more end later (q ∷ qs) p all le last = (omega (arith, all.0, le), within_more end later qs p all.1 le last)

pub bodies_more : (held : List ℕ) (places : List Place) (p : Place) → bodies_at held (places ++ p ∷ []) ≡ bodies_at held places ++ body_at held p ∷ []
bodies_more held places p = map-append (body_at held) places (p ∷ [])
