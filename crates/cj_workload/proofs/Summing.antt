-- What is summed up of the backends that a world hands back.
use Rattle.std.proofs.Common.{◌≡◌, ◌≢◌, ◌∙◌, ◌⊎◌, ⊎_elim, inl, inr, refl, sym, ap, ℕ, zero, suc, ◌+◌, ◌<◌, ◌≤◌, ◌^◌, ◌&&◌, Bool, true, false, cond, List, [], ◌∷◌, length, map, Option, None, Some, bit_and, nat_lt, arith}
use Rattle.cj_core.proofs.Common.{All-head, All-tail, BackendState, CellState, IsWorld, WorldState, started_backend, has-zero, some_bit, state_by}
use Rattle.cj_state.specs.ArmedCells.{armings_of}
use Rattle.cj_workload.proofs.Common.{All, and_parts, AreSame, both_ways, EachHolds, eq-or-lt_of_le, faults_of, find, first_count, first_host, hosts, in_mask, length-map, ltb-true, MatchOption, option_map, part, Placement, range_with_len, row_count, rows_in, slice_get, Slot, table_name, times_armed, Value}
use Rattle.cj_model.proofs.MaskBits.{has-and}
use Rattle.cj_model.proofs.PartLaws.{found_in_part}
use Rattle.cj_backend.specs.Backends.{Arming}
use Rattle.cj_workload.proofs.Rounds.{found_passes}

-- ---- the counts of backends

counts_seen : (cells : List CellState) → map (λ (s : BackendState). s.faults) (map started_backend cells) ≡ faults_of cells
counts_seen [] = refl
counts_seen (x ∷ cells) = ap (λ (ns : List ℕ). x.faults ∷ ns) (counts_seen cells)

times_seen : (cells : List CellState) → map (λ (s : BackendState). s.arming.times) (map started_backend cells) ≡ armings_of cells
times_seen [] = refl
times_seen (x ∷ cells) = ap (λ (ns : List ℕ). x.arming.times ∷ ns) (times_seen cells)

module _ {X : Type 0} (told : X → Option (List Slot)) (faults asks : X → ℕ) (login : X → Option (List ℕ)) (arming : X → Arming) where
  counts_by : (xs : List X) → map (λ (s : BackendState). s.faults) (map (state_by told faults asks login arming) xs) ≡ map faults xs
  counts_by [] = refl
  counts_by (x ∷ xs) = ap (λ (ns : List ℕ). faults x ∷ ns) (counts_by xs)

  times_by : (xs : List X) → map (λ (s : BackendState). s.arming.times) (map (state_by told faults asks login arming) xs) ≡ times_armed arming xs
  times_by [] = refl
  times_by (x ∷ xs) = ap (λ (ns : List ℕ). (arming x).times ∷ ns) (times_by xs)

  -- the backends count what their cells did
  pub same_counts : (cells : List CellState) (xs : List X) → map (state_by told faults asks login arming) xs ≡ map started_backend cells → map faults xs ≡ faults_of cells
  same_counts cells xs same = sym (counts_by xs) ∙ (ap (map (λ (s : BackendState). s.faults)) same ∙ counts_seen cells)

  -- they were armed as often
  pub same_times : (cells : List CellState) (xs : List X) → map (state_by told faults asks login arming) xs ≡ map started_backend cells → times_armed arming xs ≡ armings_of cells
  same_times cells xs same = sym (times_by xs) ∙ (ap (map (λ (s : BackendState). s.arming.times)) same ∙ times_seen cells)

  -- and there are as many
  pub as_many : (cells : List CellState) (xs : List X) → map (state_by told faults asks login arming) xs ≡ map started_backend cells → length xs ≡ length cells
  as_many cells xs same = sym (length-map xs (state_by told faults asks login arming)) ∙ (ap length same ∙ length-map cells started_backend)

-- each backend of a world has a cell
pub cells_of : (tells : Bool) (w : WorldState) → IsWorld tells w → length w.cells ≡ w.core.placement.backends
cells_of tells w is = sym (ap length is.positions ∙ length-map w.cells (λ (x : CellState). x.position)) ∙ is.sound.cells

-- ---- what the enabled hosts hold

-- all of them have the same rows where each has these
pub all_same : (rows : Option (List (List Value))) (held : List (List Slot)) → All (λ (db : List Slot). rows_in db ≡ rows) held → AreSame held
all_same rows [] h = tt
all_same rows (db ∷ dbs) h =
    let P : List Slot → Type 0 = λ (d : List Slot). rows_in d ≡ rows in
    λ k d l. All-tail P db dbs h k d l ∙ sym (All-head P db dbs h)

-- and the first has so many
first_rows : (rows : Option (List (List Value))) (held : List (List Slot)) → 0 < length held → All (λ (db : List Slot). rows_in db ≡ rows) held → first_count held ≡ row_count rows
first_rows rows [] some h = absurd (omega (arith, some))
first_rows rows (db ∷ dbs) some h = ap row_count (All-head (λ (d : List Slot). rows_in d ≡ rows) db dbs h)

none_by : (p : ℕ → Bool) (a b : ℕ) (rest : Option ℕ) (t : Bool) → t ≡ p a → cond t (Some a) rest ≡ None → a ≤ b → (rest ≡ None → a + 1 ≤ b → p b ≡ false) → p b ≡ false
none_by p a b rest true e h low later = cc h
none_by p a b rest false e h low later = ⊎_elim (λ (q : a ≡ b). ap p (sym q) ∙ sym e) (λ (q : a < b). later h (omega arith)) (eq-or-lt_of_le low)

-- none of so many numbers passes where none is found
none_passes : (p : ℕ → Bool) (a n b : ℕ) → find p (range_with_len a n) ≡ None → a ≤ b → b < a + n → p b ≡ false
none_passes p a zero b h low high = absurd (omega (arith, low, high))
none_passes p a (suc n) b h low high = none_by p a b (find p (range_with_len (a + 1) n)) (p a) refl h low (λ k above. none_passes p (a + 1) n b k above (omega (arith, high)))

-- by what was found
by_cases : (o : Option ℕ) {P Q : Type 0} → (o ≡ None → P) → ((b : ℕ) → o ≡ Some b → Q) → MatchOption o P (λ b. Q)
by_cases None none some = none refl
by_cases (Some b) none some = some b refl

module _ (p : Placement) (db : List Slot) (hosting enabled : ℕ) (on : ℕ → Bool) (is_host : (b : ℕ) → in_mask hosting b ≡ hosts p b table_name) (is_on : (b : ℕ) → in_mask enabled b ≡ on b) where
  bits : (b : ℕ) → in_mask (bit_and hosting enabled) b ≡ true → (hosts p b table_name ≡ true) × (on b ≡ true)
  bits b bit = let parts = and_parts (in_mask hosting b) (in_mask enabled b) (sym (has-and hosting enabled b) ∙ bit) in (sym (is_host b) ∙ parts.0, sym (is_on b) ∙ parts.1)

  -- each enabled host holds the rows of the one database
  pub each_holds : (told : List (Option (List Slot))) → ((b : ℕ) → on b ≡ true → slice_get told b ≡ Some (Some (part p b db))) → EachHolds (bit_and hosting enabled) told (rows_in db)
  each_holds told current b below bit =
      let parts = bits b bit in
      (part p b db, current b parts.1, ap (option_map (λ (s : Slot). s.base.rows)) (found_in_part p b db table_name parts.0))

  -- the first of them has so many rows, where one hosts the table and one of those is enabled; where none hosts it nothing was held
  pub rows_counted : (held : List (List Slot)) → bit_and hosting enabled < 2 ^ 32 → (hosting ≡ 0) ⊎ (bit_and hosting enabled ≢ 0)
      → ((b : ℕ) → b < p.backends → in_mask (bit_and hosting enabled) b ≡ true → 0 < length held) → (((b : ℕ) → in_mask (bit_and hosting enabled) b ≡ false) → held ≡ []) → All (λ (d : List Slot). rows_in d ≡ rows_in db) held
      → MatchOption (first_host p) (first_count held ≡ 0) (λ b. first_count held ≡ row_count (rows_in db))
  rows_counted held small (inl none) some empty same =
      let nobody : (b : ℕ) → hosts p b table_name ≡ false = λ b. sym (is_host b) ∙ (ap (λ (m : ℕ). in_mask m b) none ∙ has-zero b) in
      let off : (b : ℕ) → in_mask (bit_and hosting enabled) b ≡ false = λ b. has-and hosting enabled b ∙ ap (λ (t : Bool). t && in_mask enabled b) (is_host b ∙ nobody b) in
      let nothing : first_count held ≡ 0 = ap first_count (empty off) in
      by_cases (first_host p) (λ _. nothing) (λ b found. absurd (both_ways (hosts p b table_name) (nobody b) (found_passes (λ (k : ℕ). hosts p k table_name) (range_with_len 0 p.backends) b found)))
  rows_counted held small (inr some_on) some empty same =
      let bit = some_bit (bit_and hosting enabled) some_on small in
      let hosted = (bits bit.0 bit.2).0 in
      let within : bit.0 < p.backends = ltb-true bit.0 p.backends (and_parts (nat_lt bit.0 p.backends) _ hosted).0 in
      let rows = first_rows (rows_in db) held (some bit.0 within bit.2) same in
      by_cases (first_host p) (λ none. absurd (both_ways (hosts p bit.0 table_name) (none_passes (λ (k : ℕ). hosts p k table_name) 0 p.backends bit.0 none (omega arith) (omega (arith, within))) hosted)) (λ b found. rows)
