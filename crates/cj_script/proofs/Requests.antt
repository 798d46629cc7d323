-- Requests of a line.
use Rattle.std.proofs.Common.{◌≡◌, ◌∙◌, refl, sym, ap, subst, List, ℕ, true, false, Option, Some, None}
use Rattle.cj_script.proofs.Common.{false≢true, is_name, Move}
use Rattle.cj_model.specs.declared.request.Request.{Request}
use Rattle.cj_model.specs.declared.request.Request.TheVariants as request
use Rattle.cj_model.specs.declared.select.Select.{Select}
use Rattle.cj_cluster.specs.declared.moves.Move.TheVariants as move
use Rattle.cj_model.specs.Sql.PlainRequests.{is_plain}
use Rattle.cj_cluster.specs.Script.Lines.{IsPlainSql, IsWrite}
use Rattle.cj_script.specs.Reading.{NamesBackendAndDump, OfDump, SaysWrite, Queries, IsQuery}
use Rattle.cj_words.specs.Words.{FindsValue, IsNamed, IsNumbered}
use Rattle.cj_words.proofs.Cutting.{numbered_one, named_one}
use Rattle.cj_model.specs.Sql.Grammar.{TextReadsAs, ReadsAsNothing}

-- the one request that the text reads as is plain
pub plain_found : (text : List ℕ) (r : Request) → TextReadsAs text r → ((s : Request) → TextReadsAs text s → s ≡ r) → is_plain r ≡ true → IsPlainSql text r × ((s : Request) → IsPlainSql text s → s ≡ r)
plain_found text r reads one plain = (record { reads = reads; plain = plain }, λ s i. one s i.reads)

-- or it isn't
pub plain_not : (text : List ℕ) (r : Request) → ((s : Request) → TextReadsAs text s → s ≡ r) → is_plain r ≡ false → (s : Request) → IsPlainSql text s → ⊥
plain_not text r one other s i = false≢true (sym other ∙ ap is_plain (sym (one s i.reads)) ∙ i.plain)

-- what reads as nothing reads as no plain request
pub plain_nothing : (text : List ℕ) → ReadsAsNothing text → (s : Request) → IsPlainSql text s → ⊥
plain_nothing text none s i = none s i.reads

-- ---- writes

-- no number begins the arguments
pub no_writes : (rest : List ℕ) → ((n : ℕ) (more : List ℕ) → IsNumbered rest n more → ⊥) → (m : Move) → SaysWrite rest m → ⊥
no_writes rest none m w = none w.session w.sql w.numbered

-- no write follows the number
pub no_write : (rest : List ℕ) (s : ℕ) (sql : List ℕ) → IsNumbered rest s sql → ((r : Request) → IsWrite sql r → ⊥) → (m : Move) → SaysWrite rest m → ⊥
no_write rest s sql i none m w =
    let k = numbered_one rest s w.session sql w.sql i w.numbered in
    none w.request (subst (λ z. IsWrite z w.request) (sym k.1) w.reads)

-- one does
pub one_write : (rest : List ℕ) (s : ℕ) (sql : List ℕ) (r : Request) → IsNumbered rest s sql → IsWrite sql r → ((x : Request) → IsWrite sql x → x ≡ r) → SaysWrite rest (move.Schedule s r) × ((m : Move) → SaysWrite rest m → m ≡ move.Schedule s r)
one_write rest s sql r i h one = (
  record { session = s; sql = sql; numbered = i; request = r; reads = h; is = refl },
  λ m w.
      let k = numbered_one rest s w.session sql w.sql i w.numbered in
      let same = one w.request (subst (λ z. IsWrite z w.request) (sym k.1) w.reads) in
      let number = k.0 in
      let is = w.is in
      cc,
)

-- ---- queries

-- no number begins the arguments
pub no_queries : (names : List (List ℕ)) (rest : List ℕ) → ((n : ℕ) (more : List ℕ) → IsNumbered rest n more → ⊥) → (m : Move) → Queries names rest m → ⊥
no_queries names rest none m q = none q.session q.more q.numbered

-- no backend's name follows the number
pub no_named : (names : List (List ℕ)) (rest : List ℕ) (s : ℕ) (more : List ℕ) → IsNumbered rest s more → ((b : ℕ) (sql : List ℕ) → IsNamed names more b sql → ⊥) → (m : Move) → Queries names rest m → ⊥
no_named names rest s more i none m q =
    let k = numbered_one rest s q.session more q.more i q.numbered in
    none q.b q.sql (subst (λ z. IsNamed names z q.b q.sql) (sym k.1) q.named)

-- no query follows the name
pub no_query : (names : List (List ℕ)) (rest : List ℕ) (s : ℕ) (more : List ℕ) (b : ℕ) (sql : List ℕ) → IsNumbered rest s more → IsNamed names more b sql → ((x : Select) → IsPlainSql sql (request.Select x) → ⊥) → (m : Move) → Queries names rest m → ⊥
no_query names rest s more b sql i h none m q =
    let k = numbered_one rest s q.session more q.more i q.numbered in
    let n = named_one names more b q.b sql q.sql h (subst (λ z. IsNamed names z q.b q.sql) (sym k.1) q.named) in
    none q.select (subst (λ z. IsPlainSql z (request.Select q.select)) (sym n.1) q.reads)

-- one does
pub one_query : (names : List (List ℕ)) (rest : List ℕ) (s : ℕ) (more : List ℕ) (b : ℕ) (sql : List ℕ) (x : Select) → IsNumbered rest s more → IsNamed names more b sql → IsPlainSql sql (request.Select x) → ((y : Select) → IsPlainSql sql (request.Select y) → y ≡ x) → Queries names rest (move.Read s b x) × ((m : Move) → Queries names rest m → m ≡ move.Read s b x)
one_query names rest s more b sql x i h reads one = (
  record { session = s; more = more; numbered = i; b = b; sql = sql; named = h; select = x; reads = reads; is = refl },
  λ m q.
      let k = numbered_one rest s q.session more q.more i q.numbered in
      let n = named_one names more b q.b sql q.sql h (subst (λ z. IsNamed names z q.b q.sql) (sym k.1) q.named) in
      let same = one q.select (subst (λ z. IsPlainSql z (request.Select q.select)) (sym n.1) q.reads) in
      let number = k.0 in
      let place = n.0 in
      let is = q.is in
      cc,
)

-- the query that the one plain request is
pub found_query : (text : List ℕ) (r : Request) (o : Option Select) → IsPlainSql text r → ((s : Request) → IsPlainSql text s → s ≡ r) → IsQuery r o → FindsValue (λ x. IsPlainSql text (request.Select x)) o
found_query text r None reads one h = λ x i. h x (sym (one (request.Select x) i))
found_query text r (Some y) reads one h = (subst (IsPlainSql text) h reads, λ x i. let same = one (request.Select x) i in cc)

-- ---- dumps

-- no backend's name begins the arguments
pub no_dump : (names : List (List ℕ)) (rest : List ℕ) → ((b : ℕ) (more : List ℕ) → IsNamed names rest b more → ⊥) → (x : ℕ × List ℕ) → NamesBackendAndDump names rest x → ⊥
no_dump names rest none x d = none x.0 x.1 d.0

-- what follows it is no name
pub no_dump_name : (names : List (List ℕ)) (rest : List ℕ) (b : ℕ) (word : List ℕ) → IsNamed names rest b word → is_name word ≡ false → (x : ℕ × List ℕ) → NamesBackendAndDump names rest x → ⊥
no_dump_name names rest b word h other x d =
    let n = named_one names rest b x.0 word x.1 h d.0 in
    false≢true (sym other ∙ (ap is_name n.1 ∙ d.1))

-- or it is
pub one_dump : (names : List (List ℕ)) (rest : List ℕ) (b : ℕ) (word : List ℕ) → IsNamed names rest b word → is_name word ≡ true → FindsValue (NamesBackendAndDump names rest) (Some (b, word))
one_dump names rest b word h is = (
  (h, is),
  λ x d.
      let n = named_one names rest b x.0 word x.1 h d.0 in
      sym (ap (λ (k : ℕ). (k, word)) n.0 ∙ ap (λ (z : List ℕ). (x.0, z)) n.1),
)

-- the move of what is found
pub of_dump : (names : List (List ℕ)) (make : ℕ → List ℕ → Move) (rest : List ℕ) (x : ℕ × List ℕ) → FindsValue (NamesBackendAndDump names rest) (Some x) → FindsValue (OfDump names make rest) (Some (make x.0 x.1))
of_dump names make rest x found = (
  (x.0, x.1, found.0, refl),
  λ m d. let same = found.1 (d.0, d.1) d.2 in d.3 ∙ ap (λ (z : ℕ × List ℕ). make z.0 z.1) same,
)

-- none is the move of nothing
pub of_no_dump : (names : List (List ℕ)) (make : ℕ → List ℕ → Move) (rest : List ℕ) → FindsValue (NamesBackendAndDump names rest) None → FindsValue (OfDump names make rest) None
of_no_dump names make rest none m d = none (d.0, d.1) d.2
