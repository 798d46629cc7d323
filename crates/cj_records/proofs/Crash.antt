-- What a stop at any moment of an append leaves.
use Rattle.std.proofs.Common.{◌≡◌, ◌⊎◌, inl, inr, ⊎_elim, ℕ, ◌+◌, ◌≤◌, Bool, true, false, List, [], ◌∷◌, ◌++◌, length, Ok, Err, refl, sym, subst, arith}
use Rattle.cj_records.proofs.Common.{Finds, IsBeforeOrAfter, OutError, Place, bodies_at}
use Rattle.cj_outside.specs.Stores.{Torn, Only, IsSteppedImage, Steps, LeavesOnly, overwritten}
use Rattle.cj_records.specs.Proving.Parts.{SameButGate, RecordStep, RecordSince, RecordImages}
use Rattle.cj_records.specs.Proving.Keeping.{Laid, HasRecordBehind, body_behind, SurvivesStop}
use Rattle.cj_records.proofs.Begun.{laid_finds}
use Rattle.cj_records.proofs.Appended.{kept_at}
use Rattle.cj_records.proofs.Safe.{torn_same, same_trans, same_back, staged_same, staged_is, gate_cases, behind_laid, Behind}

-- one of two
two : (b : Bool) → (b ≡ true) ⊎ (b ≡ false)
two true = inl refl
two false = inr refl

-- calls go on
goes_on : {D : Type 0} (moment : D → ℕ) (since : D → ℕ → List ℕ → Type 0) (a b c : D) (P : List ℕ → Type 0) → LeavesOnly moment since a b P → moment b ≤ moment c → ((t : ℕ) (image : List ℕ) → t ≤ moment b → since c t image → since b t image ⊎ P image) → LeavesOnly moment since a c P
goes_on moment since a b c P s later past = record {
  later = omega (arith, s.later, later);
  each = λ image left. ⊎_elim (λ was. s.each image was) (λ p. p) (past (moment a) image s.later left);
  before = λ t image le left. ⊎_elim (λ was. s.before t image le was) (λ p. inr p) (past t image (omega (arith, le, s.later)) left);
}

-- what a stop leaves while a gate is torn
pub safe_torn : (end : ℕ) (a b : List ℕ) (old now : List ℕ → Type 0) → ((image : List ℕ) → old image → SameButGate end a image) → SameButGate end a b → ((image : List ℕ) → now image → IsSteppedImage (Torn end 1) old image) → (image : List ℕ) → now image → SameButGate end b image
safe_torn end a b old now may_be_open same steps image there =
    let from = steps image there in
    let first = may_be_open from.0 from.1 in
    same_back end a b image same (same_trans end a from.0 image first (torn_same end from.0 image first.gate from.2))

-- what stands behind a gate is the same
pub stands_same : (end : ℕ) (a b body : List ℕ) → HasRecordBehind a end body → SameButGate end a b → HasRecordBehind b end (body_behind b end)
stands_same end a b body s same =
    let there : HasRecordBehind b end body = staged_same end a b body s same.behind in
    subst (λ (x : List ℕ). HasRecordBehind b end x) (sym (staged_is b end body there)) there

module _ {D : Type 0} (moment : D → ℕ) (may : D → List ℕ → Type 0) (since : D → ℕ → List ℕ → Type 0) (held : D → List ℕ) (magic : List ℕ) (places : List Place) (end : ℕ) (torn : Bool) (body : List ℕ) (s0 : D) (laid : Laid magic (held s0) (bodies_at (held s0) places) end torn) (safe : SurvivesStop true (held s0) (may s0) magic places end torn) where
  abbrev bodies : List (List ℕ)
  bodies = bodies_at (held s0) places

  abbrev pub P : List ℕ → Type 0
  P image = IsBeforeOrAfter (kept_at held s0 magic places end torn) body image

  ajar_finds : torn ≡ true → (image : List ℕ) → SameButGate end (held s0) image → P image
  ajar_finds up image same = ⊎_elim (λ same_list. inl same_list) (λ more. inr (inr (up, more))) (gate_cases magic (held s0) bodies end (body_behind (held s0) end) image laid.reaches (safe.stands refl up) same)

  now_finds : (image : List ℕ) → may s0 image → P image
  now_finds image now = ⊎_elim (λ up. ajar_finds up image (safe.may_be_open refl up image now)) (λ down. inl (laid_finds magic image bodies end false (safe.shut refl down image now) refl)) (two torn)

  -- before the first call on the store
  pub started : ((image : List ℕ) → since s0 (moment s0) image → may s0 image) → LeavesOnly moment since s0 s0 P
  started only = record { later = omega arith; each = λ image left. now_finds image (only image left); before = λ t image le left. inl left }

  -- after the gate was to be closed
  pub shut_leaves : (s1 : D) → Steps moment may since (Torn end 1) s0 s1 → (torn ≡ false → s1 ≡ s0) → LeavesOnly moment since s0 s0 P → LeavesOnly moment since s0 s1 P
  shut_leaves s1 steps kept s = ⊎_elim (λ up. opened up) (λ down. subst (λ (x : D). LeavesOnly moment since s0 x P) (sym (kept down)) s) (two torn)
    where
      opened : torn ≡ true → LeavesOnly moment since s0 s1 P
      opened up = goes_on moment since s0 s0 s1 P s steps.later (λ t image le left. ⊎_elim (λ was. inl was) (λ stepped.
          let first = safe.may_be_open refl up stepped.0 stepped.1 in
          inr (ajar_finds up image (same_trans end (held s0) stepped.0 image first (torn_same end stepped.0 image first.gate stepped.2)))) (steps.past t image le left))

  -- once the gate is closed, a stop leaves the records
  pub mid_images : (s1 : D) → Laid magic (held s1) bodies end false → (torn ≡ false → s1 ≡ s0) → (torn ≡ true → Only (held s1) (may s1)) → (image : List ℕ) → may s1 image → Laid magic image bodies end false
  mid_images s1 closed kept only image now = ⊎_elim
      (λ up. subst (λ (x : List ℕ). Laid magic x bodies end false) (sym (only up image now)) closed)
      (λ down. safe.shut refl down image (subst (λ (x : D). may x image) (kept down) now)) (two torn)

  -- after the record was written, or refused
  pub record_leaves : (s1 s2 : D) (tail : List ℕ) → LeavesOnly moment since s0 s1 P → ((image : List ℕ) → may s1 image → Laid magic image bodies end false) → Behind magic (held s1) bodies end body tail → RecordSince moment may since end tail (held s1) s1 s2 → LeavesOnly moment since s0 s2 P
  record_leaves s1 s2 tail s images behind r = goes_on moment since s0 s1 s2 P s r.later (λ t image le left. ⊎_elim (λ was. inl was) (λ step. inr (step_finds image step)) (r.past t image le left))
    where
      step_finds : (image : List ℕ) → RecordStep end tail (held s1) (may s1) image → P image
      step_finds image (inl stepped) = inl (laid_finds magic image bodies end false (behind_laid magic stepped.0 image bodies end (length tail) (images stepped.0 stepped.1) stepped.2) refl)
      step_finds image (inr gate) = ⊎_elim (λ same_list. inl same_list) (λ more. inr (inl more))
          (gate_cases magic (overwritten (held s1) (end + 1) tail) bodies end body image behind.reaches behind.body_behind (torn_same end (overwritten (held s1) (end + 1) tail) image behind.gate gate))

-- the bytes as they are have the records, and maybe the one that was refused
pub held_at_least : (held : List ℕ) (may : List ℕ → Type 0) (magic : List ℕ) (places : List Place) (end : ℕ) (torn : Bool) → Laid magic held (bodies_at held places) end torn → SurvivesStop true held may magic places end torn
    → Finds magic held (Ok (bodies_at held places)) ⊎ (torn ≡ true) × Finds magic held (Ok (bodies_at held places ++ body_behind held end ∷ []))
held_at_least held may magic places end torn laid safe = ⊎_elim
    (λ up. ⊎_elim (λ same. inl same) (λ more. inr (up, more)) (gate_cases magic held (bodies_at held places) end (body_behind held end) held laid.reaches (safe.stands refl up) (record { front = refl; behind = refl; gate = laid.gate })))
    (λ down. inl (laid_finds magic held (bodies_at held places) end torn laid down)) (two torn)

-- ---- what holds of the fields afterwards

pub safe_shut_refused : (tells : Bool) (old new : List ℕ) (may may' : List ℕ → Type 0) (magic : List ℕ) (places : List Place) (end : ℕ) (torn torn' : Bool) → SurvivesStop tells old may magic places end torn
    → (tells ≡ true → SameButGate end old new × (torn' ≡ true) × (torn ≡ true)) → ((image : List ℕ) → may' image → IsSteppedImage (Torn end 1) may image) → SurvivesStop tells new may' magic places end torn'
safe_shut_refused tells old new may may' magic places end torn torn' s refused steps = record {
  shut = λ t down. let up = (refused t).1 in absurd (cc (up, down));
  may_be_open = λ t up image now. safe_torn end old new may may' (s.may_be_open t (refused t).2) (refused t).0 steps image now;
  stands = λ t up. stands_same end old new (body_behind old end) (s.stands t (refused t).2) (refused t).0;
}

pub safe_write_refused : (tells : Bool) (mid new : List ℕ) (may may' : List ℕ → Type 0) (magic : List ℕ) (places : List Place) (bodies : List (List ℕ)) (end : ℕ) (torn : Bool) (body tail : List ℕ) (e : OutError)
    → (tells ≡ true → bodies_at new places ≡ bodies) → (tells ≡ true → (image : List ℕ) → may image → Laid magic image bodies end false) → (tells ≡ true → Behind magic mid bodies end body tail) → (tells ≡ true → torn ≡ true → SameButGate end (overwritten mid (end + 1) tail) new)
    → (tells ≡ true → RecordImages end tail mid may torn new may' (Err e)) → SurvivesStop tells new may' magic places end torn
safe_write_refused tells mid new may may' magic places bodies end torn body tail e same images behind may_be_open steps = record {
  shut = λ t down image now.
      let from = (steps t).0 down image now in
      subst (λ (bs : List (List ℕ)). Laid magic image bs end false) (sym (same t)) (behind_laid magic from.0 image bodies end (length tail) (images t from.0 from.1) from.2);
  may_be_open = λ t up image now. same_back end (overwritten mid (end + 1) tail) new image (may_be_open t up) (torn_same end (overwritten mid (end + 1) tail) image (behind t).gate ((steps t).1 up image now));
  stands = λ t up. stands_same end (overwritten mid (end + 1) tail) new body (behind t).body_behind (may_be_open t up);
}

pub safe_only : (tells : Bool) (new : List ℕ) (may : List ℕ → Type 0) (magic : List ℕ) (places : List Place) (end : ℕ) (torn : Bool) → torn ≡ false → (tells ≡ true → Laid magic new (bodies_at new places) end torn) → (tells ≡ true → Only new may) → SurvivesStop tells new may magic places end torn
safe_only tells new may magic places end torn down laid only = record {
  shut = λ t e image now. subst (λ (x : List ℕ). Laid magic x (bodies_at new places) end false) (sym (only t image now)) (subst (λ (b : Bool). Laid magic new (bodies_at new places) end b) down (laid t));
  may_be_open = λ t up. absurd (cc (down, up));
  stands = λ t up. absurd (cc (down, up));
}

pub safe_tells : (tells : Bool) (held : List ℕ) (may : List ℕ → Type 0) (magic : List ℕ) (places : List Place) (end : ℕ) (torn : Bool) → tells ≡ true → SurvivesStop tells held may magic places end torn → SurvivesStop true held may magic places end torn
safe_tells tells held may magic places end torn t s = record { shut = λ u. s.shut t; may_be_open = λ u. s.may_be_open t; stands = λ u. s.stands t }
