-- What an append leaves of records.
use Rattle.std.proofs.Common.{◌≡◌, ◌≢◌, ◌⊎◌, ℕ, ◌+◌, ◌^◌, ◌<◌, ◌≤◌, Bool, true, false, List, [], ◌∷◌, ◌++◌, length, get_or, take, drop, Result, Ok, Err, refl, sym, ap, subst, ◌∙◌, append_assoc, arith, length-append, length-take}
use Rattle.std.specs.Prelude.{IsErrAnd}
use Rattle.std.proofs.lemmas.List.{take_at, drop_at, get_or_at, drop-drop}
use Rattle.cj_records.proofs.Common.{AgreesWithStore, AllWithin, AppendsRecord, Laid, OutError, Place, Reaches, RecordList, RecordsError, Refuses, ShowsPart, bodies_at, body_at, body_behind, overwritten, str64}
use Rattle.cj_outside.specs.declared.sink.OutError.TheVariants as out
use Rattle.cj_outside.specs.Streams.{most}
use Rattle.cj_records.specs.Refusals.{of_out}
use Rattle.cj_records.specs.RecordFiles.{record_bytes}
use Rattle.cj_records.specs.Proving.Parts.{KeepsFront, SameButGate, ShutsGate, WritesRecord}
use Rattle.cj_records.proofs.Reach.{reaches_more, bodies_same, bodies_more, within_more, length-record}

-- the records stay where the bytes before the gate stay
pub laid_front : (magic old new : List ℕ) (bodies : List (List ℕ)) (end : ℕ) (torn torn' : Bool) → Laid magic old bodies end torn → KeepsFront end old new → (torn' ≡ false → get_or new end 1 ≢ 1) → Laid magic new bodies end torn'
laid_front magic old new bodies end torn torn' l k closed = record {
  reaches = record { front = k.front ∙ l.reaches.front; size = l.reaches.size; each = l.reaches.each };
  gate = k.gate;
  closed = closed;
}

pub kept_front : (tells : Bool) (old new magic : List ℕ) (places : List Place) (end : ℕ) (torn torn' : Bool) (from from' : ℕ) (part part' : List ℕ) → AgreesWithStore tells old magic places end torn from part
    → (tells ≡ true → KeepsFront end old new) → (tells ≡ true → torn' ≡ false → get_or new end 1 ≢ 1) → part' ≡ [] → AgreesWithStore tells new magic places end torn' from' part'
kept_front tells old new magic places end torn torn' from from' part part' k front closed none = record {
  limit = k.limit;
  within = k.within;
  laid = λ t.
      let same : bodies_at new places ≡ bodies_at old places = bodies_same end places old new k.within (front t).front in
      subst (λ (bs : List (List ℕ)). Laid magic new bs end torn') (sym same) (laid_front magic old new (bodies_at old places) end torn torn' (k.laid t) (front t) (closed t));
  shown = λ t. subst (λ (p : List ℕ). ShowsPart new from' p) (sym none) refl;
}

-- what contracts see of records with these fields
abbrev pub kept_at : {S : Type 0} → (S → List ℕ) → S → List ℕ → List Place → ℕ → Bool → RecordList S
kept_at held store magic places end torn = record { store = store; magic = magic; list = bodies_at (held store) places; end = end; torn = torn; refused = body_behind (held store) end }

-- a gate that was to be closed
pub shut_refused : (end : ℕ) (old new : List ℕ) (torn torn' : Bool) (e : OutError) → ShutsGate end old torn new torn' (Err e) → SameButGate end old new × (torn' ≡ true) × (torn ≡ true)
shut_refused end old new torn torn' out.Failed s = s
shut_refused end old new torn torn' out.NoMemory s = absurd s

-- a record that was to be written
pub write_refused : (end : ℕ) (old tail new : List ℕ) (torn : Bool) (e : OutError) → WritesRecord end old tail new torn (Err e) → KeepsFront end old new × (torn ≡ false → get_or new end 1 ≡ get_or old end 1) × (torn ≡ true → SameButGate end (overwritten old (end + 1) tail) new)
write_refused end old tail new torn out.Failed w = w
write_refused end old tail new torn out.NoMemory w = (w.0, λ shut. w.2, λ up. let down = w.1 in absurd (cc (down, up)))

-- what lies before the gate
pub keeps_front : (end : ℕ) (old new : List ℕ) → SameButGate end old new → KeepsFront end old new
keeps_front end old new s = record { front = s.front; gate = s.gate }

-- a refusal that leaves the list
pub refused_list : {S : Type 0} (old new : RecordList S) (body : List ℕ) (r : Result ℕ RecordsError) (e : OutError) → IsErrAnd r (λ x. x ≡ of_out e) → new.list ≡ old.list → (e ≡ out.NoMemory → new.torn ≡ true → old.torn ≡ true) → AppendsRecord old body new r
refused_list old new body (Ok n) e is same torn = absurd is
refused_list old new body (Err x) out.Failed is same torn = subst (λ (x : RecordsError). AppendsRecord old body new (Err x)) (sym is) same
refused_list old new body (Err x) out.NoMemory is same torn = subst (λ (x : RecordsError). AppendsRecord old body new (Err x)) (sym is) (same, torn refl)

-- the bytes with one record more
pub record Written (magic old new : List ℕ) (places : List Place) (end : ℕ) (body : List ℕ) : Type 0 where
  pub bodies : bodies_at new (places ++ record { at = end; len = length body } ∷ []) ≡ bodies_at old places ++ body ∷ []
  pub laid : Laid magic new (bodies_at old places ++ body ∷ []) (end + 9 + length body) false

pub written : (magic old new : List ℕ) (places : List Place) (end : ℕ) (body tail : List ℕ) → AllWithin end places → Laid magic old (bodies_at old places) end false → tail ≡ str64 body ++ 0 ∷ [] → end + 1 + length tail ≤ most
    → new ≡ take end old ++ 1 ∷ tail ++ drop (end + 1 + length tail) old → Written magic old new places end body
written magic old new places end body tail within l t limit is = record {
  bodies = bodies_more new places place ∙ ap (λ (bs : List (List ℕ)). bs ++ body_at new place ∷ []) kept ∙ ap (λ (b : List ℕ). bodies_at old places ++ b ∷ []) this;
  laid = record {
    reaches = reaches_more magic new (bodies_at old places) end body (0 ∷ later) front behind small;
    gate = omega (arith, ap length whole, length-append (take end old) (record_bytes body ++ 0 ∷ later), length-append (record_bytes body) (0 ∷ later), length-record body, len);
    closed = λ e one. let zero_there : get_or new (end + 9 + length body) 1 ≡ 0 = ap (λ (h : List ℕ). get_or h (end + 9 + length body) 1) (whole ∙ sym (append_assoc (take end old) (record_bytes body) (0 ∷ later))) ∙ get_or_at (take end old ++ record_bytes body) 0 later 1 (end + 9 + length body) (omega (arith, length-append (take end old) (record_bytes body), length-record body, len)) in omega (arith, one, zero_there);
  };
}
  where
    place : Place
    place = record { at = end; len = length body }

    later : List ℕ
    later = drop (end + 1 + length tail) old

    len : length (take end old) ≡ end
    len = omega (arith, l.gate, length-take end old)

    whole : new ≡ take end old ++ (record_bytes body ++ 0 ∷ later)
    whole = is ∙ append_assoc (take end old) (1 ∷ tail) later ∙ ap (λ (x : List ℕ). take end old ++ (1 ∷ (x ++ later))) t ∙ ap (λ (x : List ℕ). take end old ++ (1 ∷ x)) (append_assoc (str64 body) (0 ∷ []) later)

    same : take end new ≡ take end old
    same = ap (take end) whole ∙ take_at (take end old) (record_bytes body ++ 0 ∷ later) end len

    behind : drop end new ≡ record_bytes body ++ 0 ∷ later
    behind = ap (drop end) whole ∙ drop_at (take end old) (record_bytes body ++ 0 ∷ later) end len

    kept : bodies_at new places ≡ bodies_at old places
    kept = bodies_same end places old new within same

    small : length body < 2 ^ 64
    small = omega (arith, limit, ap length t, length-append (str64 body) (0 ∷ []), length-record body)

    front : Reaches magic new (bodies_at old places) end
    front = record { front = same ∙ l.reaches.front; size = l.reaches.size; each = l.reaches.each }

    this : body_at new place ≡ body
    this = ap (take (length body)) (sym (drop-drop 9 end new) ∙ ap (drop 9) behind) ∙ take_at body (0 ∷ later) (length body) refl

-- records with one more
pub kept_more : (tells : Bool) (old new magic : List ℕ) (places places' : List Place) (end : ℕ) (body tail : List ℕ) (torn : Bool) (from : ℕ) (part : List ℕ) → AllWithin end places → tail ≡ str64 body ++ 0 ∷ [] → end + 1 + length tail ≤ most
    → places' ≡ places ++ record { at = end; len = length body } ∷ [] → (tells ≡ true → Written magic old new places end body) → torn ≡ false → part ≡ [] → AgreesWithStore tells new magic places' (end + 9 + length body) torn from part
kept_more tells old new magic places places' end body tail torn from part within t limit more w shut none = record {
  limit = omega (arith, limit, size);
  within = subst (AllWithin (end + 9 + length body)) (sym more) (within_more end (end + 9 + length body) places (record { at = end; len = length body }) within (omega arith) (omega arith));
  laid = λ u. subst (λ (ps : List Place). Laid magic new (bodies_at new ps) (end + 9 + length body) torn) (sym more) (subst (λ (bs : List (List ℕ)). Laid magic new bs (end + 9 + length body) torn) (sym (w u).bodies) (subst (λ (b : Bool). Laid magic new (bodies_at old places ++ body ∷ []) (end + 9 + length body) b) (sym shut) (w u).laid));
  shown = λ u. subst (λ (p : List ℕ). ShowsPart new from p) (sym none) refl;
}
  where
    size : length tail ≡ 9 + length body
    size = omega (arith, ap length t, length-append (str64 body) (0 ∷ []), length-record body)

-- a refusal
pub refuses : {S : Type 0} (old new : RecordList S) (body : List ℕ) (r : Result ℕ RecordsError) (e : OutError) → IsErrAnd r (λ x. x ≡ of_out e) → (new.torn ≡ true → (new.refused ≡ body) ⊎ (old.torn ≡ true) × (new.refused ≡ old.refused)) → Refuses old body new r
refuses old new body (Ok x) e is so = absurd is
refuses old new body (Err x) e is so = so
