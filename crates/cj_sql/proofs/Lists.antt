-- What it is for a reader to read exactly the forms of the grammar, and lists with commas of what such a reader reads.
use Rattle.std.proofs.Common.{◌≡◌, ◌∙◌, refl, sym, ap, ℕ, zero, suc, ◌≤◌, ◌<◌, List, [], ◌∷◌, ◌++◌, append_assoc, length, map, drop, arith}
use Rattle.cj_model.specs.declared.token.Token.{Token}
use Rattle.cj_model.specs.declared.token.Token.TheVariants as token
use Rattle.cj_model.specs.declared.token.Symbol.TheVariants as symbol
use Rattle.cj_model.specs.Sql.TermForms.{commas, SomeFit}
use Rattle.cj_sql.specs.Proving.Reader.{read, Reader, same_symbol, sees_symbol, items_from, items}
use Rattle.cj_sql.proofs.Binds.{branch, holds, fails, part, part_of}
use Rattle.cj_sql.proofs.Front.{symbol_seen}
use Rattle.cj_sql.proofs.Ranks.{rank, no_symbol}

-- the tokens up to the rest are those of a form that fits, which means the value
pub record IsForm {F A : Type 0} (tokens_of : F → List Token → List Token) (meant : F → A) (Fits : F → Type 0) (ts : List Token) (x : A) (rest : List Token) : Type 0 where
  pub form : F
  pub tokens_are : ts ≡ tokens_of form rest
  pub means : meant form ≡ x
  pub fits : Fits form

-- What the reader reads is a form, and it reads each form where what follows is above the level.
pub record IsReaderOf {F A : Type 0} (tokens_of : F → List Token → List Token) (meant : F → A) (Fits : F → Type 0) (level : ℕ) (reader : Reader A) : Type 0 where
  pub sound : (ts : List Token) (x : A) (rest : List Token) → reader ts ≡ read x rest → IsForm tokens_of meant Fits ts x rest
  pub complete : (form : F) (rest : List Token) → Fits form → level < rank rest → reader (tokens_of form rest) ≡ read (meant form) rest

module _ {F A : Type 0} (tokens_of : F → List Token → List Token) (meant : F → A) (Fits : F → Type 0) (level : ℕ) (item : Reader A) where
  -- an item, a comma and more items are items with commas
  cons_commas : (f : F) (fs : List F) (rest : List Token) → 0 < length fs → tokens_of f (token.Symbol symbol.Comma ∷ commas tokens_of fs rest) ≡ commas tokens_of (f ∷ fs) rest
  cons_commas f [] rest h = absurd (omega arith)
  cons_commas f (x ∷ fs) rest h = refl

  -- the items that were read after those found are forms with commas
  items_from_sound : ((ts : List Token) (x : A) (rest : List Token) → item ts ≡ read x rest → IsForm tokens_of meant Fits ts x rest) →
      (room : ℕ) (found : List A) (ts : List Token) (xs : List A) (rest : List Token) → items_from item room found ts ≡ read xs rest →
      IsForm (commas tokens_of) (λ fs. found ++ map meant fs) (SomeFit Fits room) ts xs rest
  unfolding items_from
  items_from_sound sound zero found ts xs rest h = absurd (cc)
  items_from_sound sound (suc room) found ts xs rest h = elim (part_of (sound ts) h) [
    | part x us a k ↦
        elim (branch (sees_symbol symbol.Comma us) _ _ _ k) [
          | holds e k ↦
              let b = items_from_sound sound room (found ++ x ∷ []) (drop 1 us) xs rest k in
              let comma = symbol_seen symbol.Comma us e ∙ ap (λ vs. token.Symbol symbol.Comma ∷ vs) b.tokens_are in
              record {
                form = a.form ∷ b.form;
                tokens_are = a.tokens_are ∙ ap (tokens_of a.form) comma ∙ cons_commas a.form b.form rest b.fits.0;
                means = ap (λ y. found ++ y ∷ map meant b.form) a.means ∙ sym (append_assoc found (x ∷ []) (map meant b.form)) ∙ b.means;
                fits = (omega arith, let l = b.fits.1 in omega arith, (a.fits, b.fits.2));
              }
          | fails e k ↦ record { form = a.form ∷ []; tokens_are = cc; means = cc; fits = (omega arith, omega arith, (a.fits, tt)) }
        ]
  ]

  -- forms with commas are read as further items
  items_from_complete : level < 4 →
      ((form : F) (rest : List Token) → Fits form → level < rank rest → item (tokens_of form rest) ≡ read (meant form) rest) →
      (fs : List F) (room : ℕ) (found : List A) (rest : List Token) → SomeFit Fits room fs → 4 < rank rest →
      items_from item room found (commas tokens_of fs rest) ≡ read (found ++ map meant fs) rest
  unfolding items_from same_symbol
  items_from_complete low complete [] room found rest fits e = absurd (let l = fits.0 in omega arith)
  items_from_complete low complete (f ∷ fs) zero found rest fits e = absurd (let l = fits.1 in omega arith)
  items_from_complete low complete (f ∷ []) (suc room) found rest fits e = rw (complete f rest fits.2.0 (omega (arith, low, e)), no_symbol symbol.Comma rest e) refl
  items_from_complete low complete (f ∷ g ∷ fs) (suc room) found rest fits e =
      let l : length (g ∷ fs) ≤ room = let k = fits.1 in omega arith in
      let some : 0 < length (g ∷ fs) = omega arith in
      rw (
        complete f (token.Symbol symbol.Comma ∷ commas tokens_of (g ∷ fs) rest) fits.2.0 low,
        items_from_complete low complete (g ∷ fs) room (found ++ meant f ∷ []) rest (some, l, fits.2.1) e,
        append_assoc found (meant f ∷ []) (map meant (g ∷ fs)),
      ) refl

  -- a list of what the reader reads
  pub items_read : (limit : ℕ) → level < 4 → IsReaderOf tokens_of meant Fits level item →
      IsReaderOf (commas tokens_of) (map meant) (SomeFit Fits limit) 4 (items item limit)
  unfolding items
  items_read limit low reads = record {
    sound = λ ts xs rest h. let a = items_from_sound reads.sound limit [] ts xs rest h in record { form = a.form; tokens_are = a.tokens_are; means = a.means; fits = a.fits };
    complete = λ fs rest fits e. items_from_complete low reads.complete fs limit [] rest fits e;
  }

-- what each item means by itself, all mean
map_same : {A : Type 0} (xs : List A) → map (λ x. x) xs ≡ xs
map_same [] = refl
map_same (x ∷ xs) = ap (λ ys. x ∷ ys) (map_same xs)

-- a list of what means itself means itself
pub themselves_read : {A : Type 0} (tokens_of : A → List Token → List Token) (Fits : A → Type 0) (level : ℕ) (item : Reader A) (limit : ℕ)
    → level < 4 → IsReaderOf tokens_of (λ x. x) Fits level item → IsReaderOf (commas tokens_of) (λ xs. xs) (SomeFit Fits limit) 4 (items item limit)
themselves_read tokens_of Fits level item limit low reads =
    let all = items_read tokens_of (λ x. x) Fits level item limit low reads in
    record {
      sound = λ ts xs rest h. let a = all.sound ts xs rest h in record { form = a.form; tokens_are = a.tokens_are; means = sym (map_same a.form) ∙ a.means; fits = a.fits };
      complete = λ xs rest fits e. all.complete xs rest fits e ∙ ap (λ ys. read ys rest) (map_same xs);
    }
