-- What a stop may leave of records while one is appended.
use Rattle.std.proofs.Common.{◌≡◌, ◌≢◌, ◌⊎◌, inl, inr, ℕ, ◌+◌, ◌<◌, false, List, [], ◌∷◌, ◌++◌, length, get_or, take, drop, Ok, refl, sym, ap, subst, ◌∙◌, append_assoc, arith, length-append, length-take}
use Rattle.std.proofs.lemmas.Bool.{cases_eq}
use Rattle.std.proofs.lemmas.List.{take_at, drop_at, drop-drop, drop_more, get_or-take, take-take, take-append-le}
use Rattle.cj_records.proofs.Common.{Reaches, from_be_bytes, str64, to_be_bytes, w64}
use Rattle.cj_outside.specs.Stores.{Torn, overwritten}
use Rattle.cj_model.proofs.Fields.{wide64}
use Rattle.cj_records.specs.RecordFiles.{record_bytes, HasLength, IsClosed, Finds}
use Rattle.cj_records.specs.Proving.Parts.{SameButGate}
use Rattle.cj_records.specs.Proving.Keeping.{Laid, HasRecordBehind, body_behind}
use Rattle.cj_records.proofs.Reach.{reaches_more, length-record}
use Rattle.cj_records.proofs.Begun.{walked_finds}
use Rattle.cj_records.proofs.Appended.{laid_front}

-- ---- all but the gate

pub torn_same : (end : ℕ) (old new : List ℕ) → end < length old → Torn end 1 old new → SameButGate end old new
torn_same end old new there t = record { front = t.before; behind = t.after; gate = omega (arith, there, t.no_shorter) }

pub same_trans : (end : ℕ) (a b c : List ℕ) → SameButGate end a b → SameButGate end b c → SameButGate end a c
same_trans end a b c s t = record { front = t.front ∙ s.front; behind = t.behind ∙ s.behind; gate = t.gate }

pub same_back : (end : ℕ) (a b c : List ℕ) → SameButGate end a b → SameButGate end a c → SameButGate end b c
same_back end a b c s t = record { front = t.front ∙ sym s.front; behind = t.behind ∙ sym s.behind; gate = t.gate }

reaches_same : (magic old new : List ℕ) (bodies : List (List ℕ)) (end : ℕ) → Reaches magic old bodies end → take end new ≡ take end old → Reaches magic new bodies end
reaches_same magic old new bodies end r same = record { front = same ∙ r.front; size = r.size; each = r.each }

-- ---- a record behind a gate that may stand open

pub staged_same : (end : ℕ) (old new body : List ℕ) → HasRecordBehind old end body → drop (end + 1) new ≡ drop (end + 1) old → HasRecordBehind new end body
staged_same end old new body s same = record { later = s.later; behind = same ∙ s.behind; small = s.small }

pub staged_is : (held : List ℕ) (end : ℕ) (body : List ℕ) → HasRecordBehind held end body → body_behind held end ≡ body
staged_is held end body s =
    let parts : drop (end + 1) held ≡ to_be_bytes w64 (length body) ++ (body ++ 0 ∷ s.later) = s.behind ∙ append_assoc (to_be_bytes w64 (length body)) body (0 ∷ s.later) in
    let number : from_be_bytes w64 (take 8 (drop (end + 1) held)) ≡ length body = ap (λ (t : List ℕ). from_be_bytes w64 (take 8 t)) parts ∙ ap (from_be_bytes w64) (take_at (to_be_bytes w64 (length body)) (body ++ 0 ∷ s.later) 8 refl) ∙ wide64.again (length body) s.small in
    let eight : end + 1 + 8 ≡ end + 9 = omega arith in
    let rest : drop (end + 9) held ≡ body ++ 0 ∷ s.later = ap (λ (k : ℕ). drop k held) (sym eight) ∙ sym (drop-drop 8 (end + 1) held) ∙ ap (drop 8) parts ∙ drop_at (to_be_bytes w64 (length body)) (body ++ 0 ∷ s.later) 8 refl in
    ap (λ (k : ℕ). take k (drop (end + 9) held)) number ∙ ap (take (length body)) rest ∙ take_at body (0 ∷ s.later) (length body) refl

-- with any byte as its gate it counts, or it doesn't
pub gate_cases : (magic held : List ℕ) (bodies : List (List ℕ)) (end : ℕ) (body image : List ℕ) → Reaches magic held bodies end → HasRecordBehind held end body → SameButGate end held image → Finds magic image (Ok bodies) ⊎ Finds magic image (Ok (bodies ++ body ∷ []))
gate_cases magic held bodies end body image r s same = cases (cases_eq (get_or image end 1) 1)
  where
    front : Reaches magic image bodies end
    front = reaches_same magic held image bodies end r same.front

    cases : (get_or image end 1 ≡ 1) ⊎ (get_or image end 1 ≢ 1) → Finds magic image (Ok bodies) ⊎ Finds magic image (Ok (bodies ++ body ∷ []))
    cases (inr ne) = inl (walked_finds magic image bodies end front (subst IsClosed (sym (drop_more image end 1 same.gate)) ne))
    cases (inl one) =
        let whole : drop end image ≡ record_bytes body ++ 0 ∷ s.later = drop_more image end 1 same.gate ∙ ap (λ (g : ℕ). g ∷ drop (end + 1) image) one ∙ ap (λ (t : List ℕ). 1 ∷ t) (same.behind ∙ s.behind) in
        let ends : end + length (record_bytes body) ≡ end + 9 + length body = omega (arith, length-record body) in
        let later : drop (end + 9 + length body) image ≡ 0 ∷ s.later = ap (λ (k : ℕ). drop k image) (sym ends) ∙ sym (drop-drop (length (record_bytes body)) end image) ∙ ap (drop (length (record_bytes body))) whole ∙ drop_at (record_bytes body) (0 ∷ s.later) (length (record_bytes body)) refl in
        inr (walked_finds magic image (bodies ++ body ∷ []) (end + 9 + length body) (reaches_more magic image bodies end body (0 ∷ s.later) front whole s.small) (subst IsClosed (sym later) (λ e. omega (arith, e))))

-- ---- writing behind a closed gate

pub behind_laid : (magic old new : List ℕ) (bodies : List (List ℕ)) (end n : ℕ) → Laid magic old bodies end false → Torn (end + 1) n old new → Laid magic new bodies end false
behind_laid magic old new bodies end n l t =
    let front : take end new ≡ take end old = sym (take-take end (end + 1) new (omega arith)) ∙ ap (take end) t.before ∙ take-take end (end + 1) old (omega arith) in
    let gate : get_or new end 1 ≡ get_or old end 1 = sym (get_or-take (end + 1) new end 1 (omega arith)) ∙ ap (λ (x : List ℕ). get_or x end 1) t.before ∙ get_or-take (end + 1) old end 1 (omega arith) in
    laid_front magic old new bodies end false false l (record { front = front; gate = omega (arith, l.gate, t.no_shorter) }) (λ e one. l.closed e (sym gate ∙ one))

-- the bytes once all behind the gate is written
pub record Behind (magic held : List ℕ) (bodies : List (List ℕ)) (end : ℕ) (body tail : List ℕ) : Type 0 where
  pub reaches : Reaches magic (overwritten held (end + 1) tail) bodies end
  pub body_behind : HasRecordBehind (overwritten held (end + 1) tail) end body
  pub gate : end < length (overwritten held (end + 1) tail)

pub written_behind : (magic held : List ℕ) (bodies : List (List ℕ)) (end : ℕ) (body tail : List ℕ) → Laid magic held bodies end false → tail ≡ str64 body ++ 0 ∷ [] → HasLength body → Behind magic held bodies end body tail
written_behind magic held bodies end body tail l t small = record {
  reaches = reaches_same magic held new bodies end l.reaches front;
  body_behind = record { later = later; behind = behind; small = small };
  gate = omega (arith, ap length (append_assoc (take (end + 1) held) tail later), length-append (take (end + 1) held) (tail ++ later), len);
}
  where
    later : List ℕ
    later = drop (end + 1 + length tail) held

    new : List ℕ
    new = overwritten held (end + 1) tail

    len : length (take (end + 1) held) ≡ end + 1
    len = omega (arith, l.gate, length-take (end + 1) held)

    parts : new ≡ take (end + 1) held ++ (tail ++ later)
    parts = append_assoc (take (end + 1) held) tail later

    front : take end new ≡ take end held
    front = ap (take end) parts ∙ take-append-le end (take (end + 1) held) (tail ++ later) (omega (arith, len)) ∙ take-take end (end + 1) held (omega arith)

    behind : drop (end + 1) new ≡ str64 body ++ 0 ∷ later
    behind = ap (drop (end + 1)) parts ∙ drop_at (take (end + 1) held) (tail ++ later) (end + 1) len ∙ ap (λ (x : List ℕ). x ++ later) t ∙ append_assoc (str64 body) (0 ∷ []) later
