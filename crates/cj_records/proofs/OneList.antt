-- Bytes keep one list of records, or are bad at one offset.
use Rattle.std.proofs.Common.{◌≡◌, inl, inr, ℕ, ◌^◌, List, [], ◌∷◌, ◌++◌, length, get_or, take, drop, Result, Ok, Err, refl, sym, ap, subst, ◌∙◌, append_assoc, arith, length-append}
use Rattle.std.specs.List.{flat_map, AllByRecursion}
use Rattle.std.specs.Int.{w64}
use Rattle.std.proofs.lemmas.List.{append_cancel_left, take_at}
use Rattle.cj_model.proofs.Fields.{wide64, text_same}
use Rattle.cj_records.specs.RecordFiles.{record_bytes, front_bytes, HasLength, StartsWithRecords, IsClosed, IsFaulty, IsNew, Holds, Breaks, Finds}

-- no record begins these bytes
abbrev Stops : List ℕ → Type 0
Stops rest = (body later : List ℕ) → HasLength body → rest ≡ record_bytes body ++ later → ⊥

closed_stops : (rest : List ℕ) → IsClosed rest → Stops rest
closed_stops [] c body later h e = c
closed_stops (gate ∷ rest) c body later h e = c (ap (λ (x : List ℕ). get_or x 0 0) e)

faulty_stops : (rest : List ℕ) → IsFaulty rest → Stops rest
faulty_stops [] f body later h e = cc
faulty_stops (gate ∷ rest) f body later h e = f.1 body later h (ap (drop 1) e)

-- one list, where both are written out
same : (xs ys : List (List ℕ)) (r s : List ℕ) → flat_map record_bytes xs ++ r ≡ flat_map record_bytes ys ++ s → AllByRecursion HasLength xs → AllByRecursion HasLength ys → Stops r → Stops s → (xs ≡ ys) × (r ≡ s)
same [] [] r s e p q f g = (refl, e)
same [] (b ∷ ys) r s e p q f g = absurd (f b (flat_map record_bytes ys ++ s) q.0 (e ∙ append_assoc (record_bytes b) (flat_map record_bytes ys) s))
same (a ∷ xs) [] r s e p q f g = absurd (g a (flat_map record_bytes xs ++ r) p.0 (sym e ∙ append_assoc (record_bytes a) (flat_map record_bytes xs) r))
same (a ∷ xs) (b ∷ ys) r s e p q f g =
    let whole : record_bytes a ++ (flat_map record_bytes xs ++ r) ≡ record_bytes b ++ (flat_map record_bytes ys ++ s) = sym (append_assoc (record_bytes a) (flat_map record_bytes xs) r) ∙ e ∙ append_assoc (record_bytes b) (flat_map record_bytes ys) s in
    let both = text_same w64 (2 ^ 64) wide64 a b (flat_map record_bytes xs ++ r) (flat_map record_bytes ys ++ s) p.0 q.0 (ap (drop 1) whole) in
    let later = same xs ys r s both.1 p.1 q.1 f g in
    (ap (λ (x : List ℕ). x ∷ xs) both.0 ∙ ap (λ (xs : List (List ℕ)). b ∷ xs) later.0, later.1)

fronts_same : (magic bytes : List ℕ) (xs ys : List (List ℕ)) (r s : List ℕ) → StartsWithRecords magic bytes xs r → StartsWithRecords magic bytes ys s → Stops r → Stops s → (xs ≡ ys) × (r ≡ s)
fronts_same magic bytes xs ys r s p q f g =
    let e : magic ++ (flat_map record_bytes xs ++ r) ≡ magic ++ (flat_map record_bytes ys ++ s) = sym (append_assoc magic (flat_map record_bytes xs) r) ∙ sym p.whole ∙ q.whole ∙ append_assoc magic (flat_map record_bytes ys) s in
    same xs ys r s (append_cancel_left magic _ _ e) p.each q.each f g

fronts_magic : (magic bytes : List ℕ) (xs : List (List ℕ)) (r : List ℕ) → length magic ≡ 4 → StartsWithRecords magic bytes xs r → take 4 bytes ≡ magic
fronts_magic magic bytes xs r len p = ap (take 4) (p.whole ∙ append_assoc magic (flat_map record_bytes xs) r) ∙ take_at magic (flat_map record_bytes xs ++ r) 4 len

-- a closed gate is no fault
closed_not_faulty : (rest : List ℕ) → IsClosed rest → IsFaulty rest → ⊥
closed_not_faulty [] c f = c
closed_not_faulty (gate ∷ rest) c f = c f.0

-- a closed gate in so few bytes ends no record
new_holds : (magic bytes : List ℕ) (bodies : List (List ℕ)) (rest : List ℕ) → length magic ≡ 4 → IsNew bytes → StartsWithRecords magic bytes bodies rest → IsClosed rest → bodies ≡ []
new_holds magic bytes [] rest len new front closed = refl
new_holds magic bytes (b ∷ ys) rest len new front closed =
    absurd (omega (arith, new, len, ap length front.whole, length-append (front_bytes magic (b ∷ ys)) rest, length-append magic (flat_map record_bytes (b ∷ ys)), length-append (record_bytes b) (flat_map record_bytes ys)))

holds_breaks : (magic bytes : List ℕ) (bodies : List (List ℕ)) (offset : ℕ) → Holds magic bytes bodies → Breaks magic bytes offset → ⊥
holds_breaks magic bytes bodies offset h b =
    let both = fronts_same magic bytes bodies b.bodies h.rest b.rest h.front b.front (closed_stops h.rest h.closed) (faulty_stops b.rest b.faulty) in
    closed_not_faulty b.rest (subst IsClosed both.1 h.closed) b.faulty

ok_err : (magic bytes : List ℕ) (bodies : List (List ℕ)) (offset : ℕ) → length magic ≡ 4 → Finds magic bytes (Ok bodies) → Finds magic bytes (Err offset) → ⊥
ok_err magic bytes bodies offset len (inl new) e = omega (arith, new.0, e.0)
ok_err magic bytes bodies offset len (inr h) (long, inl alien) = alien.0 (fronts_magic magic bytes bodies h.rest len h.front)
ok_err magic bytes bodies offset len (inr h) (long, inr b) = holds_breaks magic bytes bodies offset h b

ok_ok : (magic bytes : List ℕ) (xs ys : List (List ℕ)) → length magic ≡ 4 → Finds magic bytes (Ok xs) → Finds magic bytes (Ok ys) → xs ≡ ys
ok_ok magic bytes xs ys len (inl a) (inl b) = a.1 ∙ sym b.1
ok_ok magic bytes xs ys len (inl a) (inr b) = a.1 ∙ sym (new_holds magic bytes ys b.rest len a.0 b.front b.closed)
ok_ok magic bytes xs ys len (inr a) (inl b) = new_holds magic bytes xs a.rest len b.0 a.front a.closed ∙ sym b.1
ok_ok magic bytes xs ys len (inr a) (inr b) = (fronts_same magic bytes xs ys a.rest b.rest a.front b.front (closed_stops a.rest a.closed) (closed_stops b.rest b.closed)).0

err_err : (magic bytes : List ℕ) (a b : ℕ) → length magic ≡ 4 → Finds magic bytes (Err a) → Finds magic bytes (Err b) → a ≡ b
err_err magic bytes a b len (l, inl x) (m, inl y) = x.1 ∙ sym y.1
err_err magic bytes a b len (l, inl x) (m, inr y) = absurd (x.0 (fronts_magic magic bytes y.bodies y.rest len y.front))
err_err magic bytes a b len (l, inr x) (m, inl y) = absurd (y.0 (fronts_magic magic bytes x.bodies x.rest len x.front))
err_err magic bytes a b len (l, inr x) (m, inr y) =
    let both = fronts_same magic bytes x.bodies y.bodies x.rest y.rest x.front y.front (faulty_stops x.rest x.faulty) (faulty_stops y.rest y.faulty) in
    x.there ∙ ap (λ (bodies : List (List ℕ)). length (front_bytes magic bodies)) both.0 ∙ sym y.there

-- the bytes fix what is found in them
pub one_list : (magic bytes : List ℕ) (a b : Result (List (List ℕ)) ℕ) → length magic ≡ 4 → Finds magic bytes a → Finds magic bytes b → a ≡ b
one_list magic bytes (Ok xs) (Ok ys) len p q = ap (λ (x : List (List ℕ)). Ok x) (ok_ok magic bytes xs ys len p q)
one_list magic bytes (Ok xs) (Err b) len p q = absurd (ok_err magic bytes xs b len p q)
one_list magic bytes (Err a) (Ok ys) len p q = absurd (ok_err magic bytes ys a len q p)
one_list magic bytes (Err a) (Err b) len p q = ap (λ (x : ℕ). Err x) (err_err magic bytes a b len p q)
