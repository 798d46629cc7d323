-- A body is that of one dump, and bodies are those of one list of dumps.
use Rattle.std.proofs.Common.{◌≡◌, ◌≢◌, ℕ, List, [], ◌∷◌, ◌++◌, length, Ok, Err, refl, sym, ap, subst, ◌∙◌, append-nil}
use Rattle.std.specs.List.{AllByRecursion}
use Rattle.std.proofs.lemmas.List.{map-append}
use Rattle.cj_shelf.proofs.Common.{Dump, ShelfError, one_list}
use Rattle.cj_model.proofs.Fields.{ok_is, err_is}
use Rattle.cj_dump.specs.declared.error.DumpError.{DumpError}
use Rattle.cj_dump.specs.declared.error.DumpError.TheVariants.{Cut, BadField, Order, NoMemory}
use Rattle.cj_dump.specs.DumpLayout.{dump}
use Rattle.cj_dump.specs.Dumps.{dump_bytes, start_of, Decodes, IsDump}
use Rattle.cj_dump.specs.Layouts.{FieldReading}
use Rattle.cj_dump.proofs.DumpLaws.{dump_law, dump_spelled}
use Rattle.cj_dump.proofs.Dumped.{dump_fits}
use Rattle.cj_dump.proofs.Decoded.{one_reading}
use Rattle.cj_shelf.specs.Shelves.{shelf_magic, dump_bodies, IsNoDump, BytesFixDumps}
use Rattle.cj_shelf.specs.Proving.{refusal_at, FindsDump, read_dump, dumps_in, AreBodies}

-- ---- one body

pub one_dump : (a b : Dump) → IsDump a → IsDump b → dump_bytes a ≡ dump_bytes b → a ≡ b
one_dump a b is its same = ok_is a b (one_reading (dump_bytes a) (Ok a) (Ok b) (λ e. absurd cc) (λ e. absurd cc) (refl, is) (same, its))

-- bytes that stop being a dump's are none's
no_dump : (body : List ℕ) (e : DumpError) → e ≢ NoMemory → Decodes body (Err e) → IsNoDump body
no_dump body e some stops = λ d is same.
    let both : Err e ≡ Ok d = one_reading body (Err e) (Ok d) (λ none. some (err_is {A = Dump} e NoMemory none)) (λ none. absurd cc) stops (same, is) in
    absurd cc

pub dump_refused : (body : List ℕ) (at : ℕ) (e : DumpError) (refusal : ShelfError) → Decodes body (Err e) → refusal ≡ refusal_at at e → FindsDump body at (Err refusal)
dump_refused body at (Cut n) refusal stops is = subst (λ (x : ShelfError). FindsDump body at (Err x)) (sym is) (no_dump body (Cut n) (λ none. absurd cc) stops, refl)
dump_refused body at (BadField n) refusal stops is = subst (λ (x : ShelfError). FindsDump body at (Err x)) (sym is) (no_dump body (BadField n) (λ none. absurd cc) stops, refl)
dump_refused body at (Order n) refusal stops is = subst (λ (x : ShelfError). FindsDump body at (Err x)) (sym is) (no_dump body (Order n) (λ none. absurd cc) stops, refl)
dump_refused body at NoMemory refusal stops is = subst (λ (x : ShelfError). FindsDump body at (Err x)) (sym is) tt

reads_back : (d : Dump) → IsDump d → dump.reads (start_of (dump_bytes d)) ≡ Ok (d, record { rest = []; size = length (dump_bytes d) })
reads_back d is = dump_law.again d (start_of (dump_bytes d)) (record { rest = []; size = length (dump_bytes d) }) (record { front = sym (dump_spelled d) ∙ sym (append-nil (dump.bytes d)); size = refl }) (dump_fits d is)

-- ---- bodies in a list

pub dumps_back : (dumps : List Dump) → AllByRecursion IsDump dumps → dumps_in (dump_bodies dumps) ≡ dumps
dumps_back [] all = refl
dumps_back (d ∷ dumps) all = ap (λ (r : FieldReading Dump). read_dump r ++ dumps_in (dump_bodies dumps)) (reads_back d all.0) ∙ ap (λ (ds : List Dump). d ∷ ds) (dumps_back dumps all.1)

pub dumps_are : (bodies : List (List ℕ)) (dumps : List Dump) → AreBodies bodies dumps → dumps_in bodies ≡ dumps
dumps_are bodies dumps are = ap dumps_in are.same ∙ dumps_back dumps are.each

each_more : (dumps : List Dump) (d : Dump) → AllByRecursion IsDump dumps → IsDump d → AllByRecursion IsDump (dumps ++ d ∷ [])
each_more [] d all is = (is, tt)
each_more (x ∷ dumps) d all is = (all.0, each_more dumps d all.1 is)

-- one dump more
pub bodies_more : (bodies : List (List ℕ)) (dumps : List Dump) (body : List ℕ) (d : Dump) → AreBodies bodies dumps → IsDump d → dump_bytes d ≡ body → AreBodies (bodies ++ body ∷ []) (dumps ++ d ∷ [])
bodies_more bodies dumps body d are is its = record {
  same = ap (λ (xs : List (List ℕ)). xs ++ body ∷ []) are.same ∙ ap (λ (b : List ℕ). dump_bodies dumps ++ b ∷ []) (sym its) ∙ sym (map-append dump_bytes dumps (d ∷ []));
  each = each_more dumps d are.each is;
}

-- the bytes are those of one list
pub one_shelf : BytesFixDumps
one_shelf bytes a b p q =
    let same : dump_bodies a ≡ dump_bodies b = ok_is (dump_bodies a) (dump_bodies b) (one_list shelf_magic bytes (Ok (dump_bodies a)) (Ok (dump_bodies b)) refl p.found q.found) in
    sym (dumps_back a p.each) ∙ ap dumps_in same ∙ dumps_back b q.each
