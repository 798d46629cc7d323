-- What decoding comes to, and that bytes have one reading.
use Rattle.std.proofs.Common.{◌≡◌, ◌≢◌, ◌⊎◌, ℕ, List, [], ◌∷◌, ◌++◌, length, Result, Ok, Err, refl, sym, ap, subst, ◌∙◌, append-nil, inl, inr}
use Rattle.cj_dump.proofs.Common.{BadField, Cut, Dump, DumpError, NoMemory, Order, Place, offset}
use Rattle.cj_codec.specs.Formats.{AreBytes}
use Rattle.cj_dump.specs.DumpLayout.{dump}
use Rattle.cj_dump.specs.Dumps.{dump_bytes, IsDump, start_of, Stops, Decodes, WrittenReadsBack, BytesHaveOneReading}
use Rattle.cj_dump.specs.Layouts.{FieldReading, Between, TakesOff}
use Rattle.cj_dump.proofs.DumpLaws.{dump_law, dump_spelled}
use Rattle.cj_dump.proofs.Dumped.{fits_dump, dump_fits}

-- ---- decoding

-- all bytes were read
pub all_read : (bytes : List ℕ) (start next : Place) (d : Dump) → AreBytes bytes → start ≡ start_of bytes → dump.reads start ≡ Ok (d, next) → next.rest ≡ [] → (bytes ≡ dump_bytes d) × IsDump d
all_read bytes start next d are from e end =
    let p = dump_law.whole (start_of bytes) d next are (ap dump.reads (sym from) ∙ e) in
    (p.0.front ∙ ap (λ (t : List ℕ). dump.bytes d ++ t) end ∙ append-nil (dump.bytes d) ∙ dump_spelled d, fits_dump d p.1)

-- bytes are left behind a dump
pub some_left : (bytes : List ℕ) (start next : Place) (d : Dump) (e : DumpError) → AreBytes bytes → start ≡ start_of bytes → dump.reads start ≡ Ok (d, next) → next.rest ≢ [] → e ≡ BadField (offset next) → Stops bytes e
some_left bytes start next d e are from read more is =
    let p = dump_law.whole (start_of bytes) d next are (ap dump.reads (sym from) ∙ read) in
    inr (record { dumped = d; next = next; front = subst (λ (t : List ℕ). Between t (start_of bytes) next) (dump_spelled d) p.0; is = fits_dump d p.1; more = more; there = is })

-- a field stopped the reading
pub stopped : (bytes : List ℕ) (start next : Place) (e : DumpError) (r : Result Dump DumpError) → AreBytes bytes → start ≡ start_of bytes → TakesOff dump start next (Err e) → r ≡ Err e → Decodes bytes r
stopped bytes start next e r are from found is =
    subst (Decodes bytes) (sym is) (λ some. inl (dump_law.inside (start_of bytes) e are (ap dump.reads (sym from) ∙ found some)))

-- ---- one reading

-- what the reading of a dump says of the bytes
abbrev ended : Dump → Place → List ℕ → Result Dump DumpError
ended d next [] = Ok d
ended d next (b ∷ rest) = Err (BadField (offset next))

abbrev verdict : FieldReading Dump → Result Dump DumpError
verdict (Ok x) = ended x.0 x.1 x.1.rest
verdict (Err e) = Err e

not_ended : (d : Dump) (next : Place) (rest : List ℕ) → rest ≢ [] → ended d next rest ≡ Err (BadField (offset next))
not_ended d next [] more = absurd (more refl)
not_ended d next (b ∷ rest) more = refl

dump_read : (bytes : List ℕ) (d : Dump) → bytes ≡ dump_bytes d → IsDump d → dump.reads (start_of bytes) ≡ Ok (d, record { rest = []; size = length bytes })
dump_read bytes d e is =
    dump_law.again d (start_of bytes) (record { rest = []; size = length bytes }) (record { front = e ∙ sym (dump_spelled d) ∙ sym (append-nil (dump.bytes d)); size = refl }) (dump_fits d is)

stops_settled : (bytes : List ℕ) (e : DumpError) → Stops bytes e → verdict (dump.reads (start_of bytes)) ≡ Err e
stops_settled bytes e (inl h) = ap verdict (dump_law.stopped (start_of bytes) e h)
stops_settled bytes e (inr h) =
    ap verdict (dump_law.again h.dumped (start_of bytes) h.next (subst (λ (t : List ℕ). Between t (start_of bytes) h.next) (sym (dump_spelled h.dumped)) h.front) (dump_fits h.dumped h.is))
    ∙ not_ended h.dumped h.next h.next.rest h.more
    ∙ ap (λ (d : DumpError). Err d) (sym h.there)

settled : (bytes : List ℕ) (r : Result Dump DumpError) → Decodes bytes r → r ≢ Err NoMemory → verdict (dump.reads (start_of bytes)) ≡ r
settled bytes (Ok d) h some = ap verdict (dump_read bytes d h.0 h.1)
settled bytes (Err e) h some = stops_settled bytes e (h (λ is. some (ap (λ (d : DumpError). Err d) is)))

pub one_reading : BytesHaveOneReading
one_reading bytes r s some other h k = sym (settled bytes r h some) ∙ settled bytes s k other

starved : (r : Result Dump DumpError) → (r ≡ Err NoMemory) ⊎ (r ≢ Err NoMemory)
starved (Ok d) = inr (λ e. absurd cc)
starved (Err (Cut n)) = inr (λ e. absurd cc)
starved (Err (BadField n)) = inr (λ e. absurd cc)
starved (Err (Order n)) = inr (λ e. absurd cc)
starved (Err NoMemory) = inl refl

pub reads_back : WrittenReadsBack
reads_back d r is h = cases (starved r)
  where
    cases : (r ≡ Err NoMemory) ⊎ (r ≢ Err NoMemory) → (r ≡ Ok d) ⊎ (r ≡ Err NoMemory)
    cases (inl none) = inr none
    cases (inr some) = inl (sym (settled (dump_bytes d) r h some) ∙ settled (dump_bytes d) (Ok d) (refl, is) (λ e. absurd cc))
