-- Who serves a request.
use Rattle.std.proofs.Common.{◌≡◌, ◌≢◌, ℕ, zero, suc, min, arith, ◌+◌, ◌-◌, ◌*◌, ◌/◌, ◌%◌, ◌<◌, ◌≤◌, ◌^◌, ◌==◌, ◌&&◌, ⊎_elim, Bool, true, false, List, [], ◌∷◌, Some, refl, ap, sym, ◌∙◌, bit_and}
use Rattle.std.proofs.lemmas.Nat.Bits.{and_high, bit_at_above, bit_at_and, bit_at-lt, bit_at_ones, bit_at_ones_above, same_from_bits}
use Rattle.std.specs.Int.{bit_at}
use Rattle.cj_book.proofs.Common.{Act, and_parts, both_ways, cases_lt, eq-eqb, Event, has-and, HasServer, hosts, hosts_all, in_mask, is_enabled, needs, Placement, Request, request_of, table_changed}
use Rattle.cj_model.specs.declared.request.Act.TheVariants as act
use Rattle.cj_model.proofs.Masks.{some_bit}

-- an act of a table needs that table alone
needs_table : (a : Act) (table : List ℕ) → table_changed a ≡ Some table → needs (request_of a) ≡ table ∷ []
needs_table act.Begin table is = absurd (cc is)
needs_table (act.Write w) table is = cc
needs_table (act.Create c) table is = cc
needs_table (act.Drop name) table is = cc
needs_table act.Commit table is = absurd (cc is)
needs_table act.Abort table is = absurd (cc is)

and_true : (b : Bool) → (b && true) ≡ b
and_true true = refl
and_true false = refl

-- the enabled backends that host the table of an act
pub servers_of : (p : Placement) (h : List Event) (a : Act) (table : List ℕ) (on hosting b : ℕ) → table_changed a ≡ Some table → in_mask on b ≡ is_enabled h b → in_mask hosting b ≡ hosts p b table
    → in_mask (bit_and on hosting) b ≡ (is_enabled h b && hosts_all p b (needs (request_of a)))
servers_of p h a table on hosting b is enabled there =
    has-and on hosting b ∙ rw (enabled, there, needs_table a table is) (ap (λ x. is_enabled h b && x) (sym (and_true (hosts p b table))))

-- where a mask of servers isn't empty, there is one
pub served_by_some : (p : Placement) (h : List Event) (r : Request) (mask : ℕ) → mask < 2 ^ 32 → mask ≢ 0 → ((b : ℕ) → in_mask mask b ≡ (is_enabled h b && hosts_all p b (needs r))) → HasServer p h r
served_by_some p h r mask fits some is _ =
    let bit = some_bit mask some fits in
    let q = and_parts (is_enabled h bit.0) (hosts_all p bit.0 (needs r)) (sym (is bit.0) ∙ bit.2) in
    (bit.0, (q.0, q.1))

-- what is picked of candidates that are all below 16 is below 16
pub picked_below : (mask b : ℕ) → mask < 2 ^ 16 → in_mask mask b ≡ true → b < 16
picked_below mask b lt there =
    ⊎_elim (λ (below : b < 16). below) (λ (above : 16 ≤ b). absurd (both_ways (in_mask mask b) (ap (λ x. x == 1) (bit_at_above mask 16 b lt above)) there)) (cases_lt b 16)

-- a mask of backends that are all below 16
pub mask_below : (m : ℕ) → ((b : ℕ) → in_mask m b ≡ true → b < 16) → m < 2 ^ 16
mask_below m few =
    let low : bit_and m (2 ^ (16 + 0) - 2 ^ 0) ≡ (m / 2 ^ 0 % 2 ^ 16) * 2 ^ 0 = and_high m 16 0 in
    let same : m ≡ bit_and m 65535 = same_from_bits m (bit_and m 65535) bit in
    omega arith
  where
    smaller : (x : ℕ) → x < 2 → x ≡ min x 1
    smaller zero lt = refl
    smaller (suc zero) lt = refl
    smaller (suc (suc x)) lt = absurd (omega arith)

    bit : (i : ℕ) → bit_at m i ≡ bit_at (bit_and m 65535) i
    bit i =
        ⊎_elim
        (λ (below : i < 16). smaller (bit_at m i) (bit_at-lt m i) ∙ (ap (min (bit_at m i)) (sym (bit_at_ones 16 i below)) ∙ sym (bit_at_and m 65535 i)))
        (λ (above : 16 ≤ i).
        let one : bit_at m i ≢ 1 = λ (is : bit_at m i ≡ 1). let lt : i < 16 = few i (eq-eqb (bit_at m i) 1 is) in omega arith in
        let lt = bit_at-lt m i in
        let none : bit_at m i ≡ 0 = omega arith in
        none ∙ (sym (ap (λ x. min x 0) none) ∙ (ap (min (bit_at m i)) (sym (bit_at_ones_above 16 i above)) ∙ sym (bit_at_and m 65535 i))))
        (cases_lt i 16)
