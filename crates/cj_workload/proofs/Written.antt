-- Some text reads as each statement of the workload: its canonical one does.
use Rattle.std.proofs.Common.{◌≡◌, refl, ap, ℕ, ◌+◌, ◌<◌, ◌≤◌, ◌^◌, ◌%◌, ◌==◌, true, codes, Option, None, Some, arith, lit≤}
use Rattle.cj_workload.proofs.Common.{cond_both, IsWritten, Lcg}
use Rattle.cj_model.specs.declared.request.Request.TheVariants as request
use Rattle.cj_model.specs.declared.select.Item.{Item}
use Rattle.cj_model.specs.declared.select.Item.TheVariants as item
use Rattle.cj_model.specs.Database.Conditions.{Condition}
use Rattle.cj_model.specs.Sql.Grammar.{WhereFits, where_meant}
use Rattle.cj_model.specs.Sql.PlainRequests.{is_plain_where}
use Rattle.cj_model.specs.Sql.Lexical.{keyword}
use Rattle.cj_model.proofs.Spellable.{FineName, FineItem, FineWhere}
use Rattle.cj_outside.specs.Draws.{of_generator, of_generator_below}
use Rattle.cj_print.proofs.Forms.{where_form}
use Rattle.cj_print.proofs.StoredWritten.{written_in_canonical}
use Rattle.cj_workload.specs.Statements.{creation, insertion, increment, look_up, count_of_rows, column, key_equals, query, statement_of}

fine_g : FineName (codes "g")
unfolding keyword
fine_g = ((refl, tt), lit≤ tt, refl, refl)

fine_k : FineName (codes "k")
unfolding keyword
fine_k = ((refl, tt), lit≤ tt, refl, refl)

fine_v : FineName (codes "v")
unfolding keyword
fine_v = ((refl, tt), lit≤ tt, refl, refl)

pub creation_written : IsWritten (request.Create creation)
creation_written = written_in_canonical (request.Create creation) refl (fine_g, (fine_k, (fine_v, tt))) (lit≤ tt, lit≤ tt, (tt, (tt, tt))) refl

pub insertion_written : (key value : ℕ) → key < 2 ^ 63 → value < 2 ^ 63 → IsWritten (request.Write (insertion key value))
insertion_written key value k v =
    let le : key ≤ 2 ^ 63 = omega arith in
    let less : value ≤ 2 ^ 63 = omega arith in
    written_in_canonical (request.Write (insertion key value)) refl (fine_g, tt, (((tt, le), ((tt, less), tt)), tt)) (tt, (lit≤ tt, lit≤ tt, ((lit≤ tt, lit≤ tt, (k, (v, tt))), tt))) refl

-- k = key fits
key_fits : (key : ℕ) → key < 2 ^ 63 → WhereFits (where_form (Some (key_equals key)))
key_fits key k = record { nests = (((tt, k), tt), tt); counts = lit≤ tt }

pub increment_written : (key : ℕ) → key < 2 ^ 63 → IsWritten (request.Write (increment key))
increment_written key k =
    let le : key ≤ 2 ^ 63 = omega arith in
    written_in_canonical (request.Write (increment key)) refl (fine_g, ((fine_v, ((tt, fine_v), lit≤ tt)), tt), ((tt, fine_k), le)) ((lit≤ tt, lit≤ tt, ((tt, lit≤ tt), tt)), key_fits key k) refl

-- a query of one item and one table
query_written : (x : Item) (cond : Option Condition) → FineItem x → FineWhere cond → is_plain_where cond ≡ true → WhereFits (where_form cond) → cond ≡ where_meant (where_form cond) → IsWritten (request.Select (query x cond))
query_written x cond fine where_fine plain fits meant =
    written_in_canonical (request.Select (query x cond)) plain
    (record { items = (fine, tt); tables = (fine_g, tt); cond = where_fine; group = tt; order = tt; limit = tt })
    (record { items = (lit≤ tt, lit≤ tt, (tt, tt)); tables = (lit≤ tt, lit≤ tt, (tt, tt)); different = refl; cond = fits; order = lit≤ tt; limit = tt; alone = λ _. refl })
    (ap (λ (o : Option Condition). request.Select (query x o)) meant)

pub look_up_written : (key : ℕ) → key < 2 ^ 63 → IsWritten (request.Select (look_up key))
look_up_written key k =
    let le : key ≤ 2 ^ 63 = omega arith in
    query_written (item.Col (column (codes "v"))) (Some (key_equals key)) (tt, fine_v) ((tt, fine_k), le) refl (key_fits key k) refl

pub count_written : IsWritten (request.Select count_of_rows)
count_written = query_written item.Count None tt tt refl tt refl

-- each statement of the workload
pub statement_written : (generator : Lcg) (i : ℕ) → 0 < i → i < 2 ^ 32 → IsWritten (statement_of generator i)
statement_written generator i some few =
    let value : of_generator generator 1000 < 1000 = of_generator_below generator 1000 (lit≤ tt) in
    let key : of_generator generator i < i = of_generator_below generator i some in
    cond_both (i % 4 == 1) _ _ IsWritten (λ _. insertion_written i (of_generator generator 1000) (omega arith) (omega arith))
    (λ _. cond_both (i % 4 == 2) _ _ IsWritten (λ _. increment_written (1 + of_generator generator i) (omega arith))
    (λ _. cond_both (i % 4 == 3) _ _ IsWritten (λ _. look_up_written (1 + of_generator generator i) (omega arith)) (λ _. count_written)))
