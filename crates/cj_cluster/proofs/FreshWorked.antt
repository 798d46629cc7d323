-- A log worked out: which of its entries touch which tables, and when the answer of a query becomes another.
use Rattle.std.proofs.Common.{◌≡◌, ℕ, Bool, pos, true, false, List, [], ◌∷◌, map, replicate, refl}
use Rattle.std.specs.Prelude.{codes}
use Rattle.std.specs.declared.option.Option.TheVariants.{None}
use Rattle.cj_cluster.specs.History.Histories.{database_after}
use Rattle.cj_model.specs.Database.Queries.{ask}
use Rattle.cj_model.specs.declared.codes.TheConstants.{NO_TABLE}
use Rattle.cj_model.specs.declared.request.Act.{Act}
use Rattle.cj_model.specs.declared.request.Entry.{Entry}
use Rattle.cj_model.specs.declared.select.Select.{Select}
use Rattle.cj_model.specs.declared.value.Value.{Value}
use Rattle.cj_model.specs.declared.value.Value.TheVariants.{Int}
use Rattle.cj_model.specs.declared.value.Kind.TheVariants as kind
use Rattle.cj_model.specs.declared.term.Term.TheVariants.{Lit}
use Rattle.cj_model.specs.declared.schema.Create.{Create}
use Rattle.cj_model.specs.declared.select.Items.TheVariants as items
use Rattle.cj_model.specs.declared.write.Write.TheVariants.{Insert}
use Rattle.cj_model.specs.declared.request.Act.TheVariants as act
use Rattle.cj_model.specs.declared.answer.Asked.{Asked}
use Rattle.cj_model.specs.declared.answer.Asked.TheVariants.{Rows, Refused}
use Rattle.cj_model.specs.Database.Inserts.{refusal_of_code}
use Rattle.cj_cluster.specs.History.Freshness.{touches}

-- an entry of session 1
abbrev entry : ℕ → ℕ → Act → Entry
entry number tx a = record { session = 1; seq = number; tx = tx; user = codes "u"; act = a }

abbrev with_key : List ℕ → Create
with_key table = record { table = table; columns = record { name = codes "k"; kind = kind.Integer; key = true } ∷ [] }

abbrev insert : List ℕ → ℕ → Act
insert table n = act.Write (Insert table None ((Lit (Int (pos n)) ∷ []) ∷ []))

-- CREATE TABLE a, CREATE TABLE b, BEGIN, INSERT INTO a, a second CREATE TABLE b that is refused, COMMIT, INSERT INTO b and DROP TABLE a
abbrev entries : List Entry
entries =
    entry 1 0 (act.Create (with_key (codes "a"))) ∷ entry 2 0 (act.Create (with_key (codes "b"))) ∷ entry 3 0 act.Begin ∷ entry 4 3 (insert (codes "a") 7)
    ∷ entry 5 0 (act.Create (with_key (codes "b"))) ∷ entry 6 3 act.Commit ∷ entry 7 0 (insert (codes "b") 8) ∷ entry 8 0 (act.Drop (codes "a")) ∷ []

-- which of them touch a table: the INSERT of the transaction none, and its COMMIT what it wrote
abbrev touching : List ℕ → List Bool
touching table = map (λ n. touches entries n table) (0 ∷ 1 ∷ 2 ∷ 3 ∷ 4 ∷ 5 ∷ 6 ∷ 7 ∷ [])

touching_a : touching (codes "a") ≡ true ∷ false ∷ false ∷ false ∷ false ∷ true ∷ false ∷ true ∷ []
touching_a = refl

touching_b : touching (codes "b") ≡ false ∷ true ∷ false ∷ false ∷ true ∷ false ∷ true ∷ false ∷ []
touching_b = refl

-- SELECT * FROM a
abbrev all_of_a : Select
all_of_a = record { items = items.All; tables = codes "a" ∷ []; cond = None; group = None; order = []; limit = None }

abbrev rows_answered : List (List Value) → Asked
rows_answered rows = Rows (record { columns = codes "k" ∷ []; rows = rows })

abbrev answer_after : ℕ → Asked
answer_after n = ask (database_after entries n) 0 all_of_a

-- it has no rows from the first CREATE on, one from the COMMIT on, and is refused from the DROP on
each_answer : map answer_after (1 ∷ 2 ∷ 3 ∷ 4 ∷ 5 ∷ []) ≡ replicate 5 (rows_answered [])
each_answer = refl

then_answered : map answer_after (6 ∷ 7 ∷ 8 ∷ []) ≡ rows_answered ((Int (pos 7) ∷ []) ∷ []) ∷ rows_answered ((Int (pos 7) ∷ []) ∷ []) ∷ Refused (refusal_of_code NO_TABLE) ∷ []
then_answered = refl
