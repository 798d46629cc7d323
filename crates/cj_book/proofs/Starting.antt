-- Why no book is opened.
use Rattle.std.proofs.Common.{◌≡◌, inl, ℕ, ◌<◌, ◌≤◌, cond, nat_le, List, [], ◌∷◌, ◌++◌, length, Err, refl, ap, sym, ◌∙◌, arith, ⊎_elim}
use Rattle.std.proofs.lemmas.Bool.{cases_lt, le-leb, lt-leb}
use Rattle.cj_book.proofs.Common.{HasBadEntry, LogItem}
use Rattle.cj_records.specs.Records.{begun, WritesOnlyNew}
use Rattle.cj_log.specs.Logs.{log_magic, KeepsItems}
use Rattle.cj_log.proofs.OneLog.{one_log}
use Rattle.cj_recovery.specs.declared.error.OpeningError.{OpeningError}
use Rattle.cj_recovery.specs.declared.error.OpeningError.TheVariants as openings
use Rattle.cj_book.specs.Found.{entry_error_of}
use Rattle.cj_book.specs.Starts.{Starts}

-- ---- the log wasn't opened

-- ---- or it was, and its items are no history's

-- the bytes of an opened log are those from before, or a new file's
abbrev pub Begins : List ℕ → List ℕ → Type 0
Begins old new = new ≡ cond (nat_le (length old) 5) (begun log_magic) old

begins_long : (old new : List ℕ) → Begins old new → 5 < length old → new ≡ old
begins_long old new is long = rw (lt-leb (length old) 5 long) at is

-- only a new file was written
pub new_only : (old new : List ℕ) → Begins old new → WritesOnlyNew old new
new_only old new is = record {
  long = λ long. begins_long old new is long;
  short = λ short. let five : new ≡ begun log_magic = rw (le-leb (length old) 5 short) at is in let n = ap length five in omega arith;
}

-- a new file has no items
none_new : (old : List ℕ) (items : List LogItem) → length old ≤ 5 → KeepsItems old items → items ≡ []
none_new old items short keeps = one_log old items [] keeps (record { found = inl (short, refl); each = tt })

-- and so no bad one
none_bad : (items : List LogItem) (n : ℕ) → items ≡ [] → HasBadEntry items n → ⊥
none_bad items n none bad = some bad.before bad.item bad.later (sym none ∙ bad.parts)
  where
    some : (before : List LogItem) (item : LogItem) (later : List LogItem) → [] ≡ before ++ item ∷ later → ⊥
    some [] item later is = absurd (cc is)
    some (x ∷ before) item later is = absurd (cc is)

pub items_refused : {S : Type 0} (held : S → List ℕ) (old : List ℕ) (items : List LogItem) (error : OpeningError) (store : S) → KeepsItems old items → Begins old (held store) → ((n : ℕ) → error ≡ openings.BadEntry n → HasBadEntry items n) → Starts held old (Err (entry_error_of error, store))
items_refused held old items (openings.BadEntry n) store keeps is bad =
    let here : HasBadEntry items n = bad n refl in (
      (items, keeps, here),
      ⊎_elim (λ (long : 5 < length old). begins_long old (held store) is long)
          (λ (short : length old ≤ 5). absurd (none_bad items n (none_new old items short keeps) here)) (cases_lt 5 (length old)),
    )
items_refused held old items openings.NoMemory store keeps is bad = new_only old (held store) is
