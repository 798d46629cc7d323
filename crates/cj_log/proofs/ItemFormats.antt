-- The body of an item is a format: its bytes are those of items, and it holds the items.
use Rattle.std.proofs.Common.{◌≡◌, ◌==◌, ℕ, ◌^◌, ◌<◌, false, nat_le, List, [], ◌∷◌, ◌++◌, length, Option, Some, None, Result, Err, refl, sym, ap, subst, ◌∙◌, arith, inl, inr}
use Rattle.std.proofs.lemmas.List.{append-nil}
use Rattle.std.proofs.lemmas.Bool.{cases_eq, eqb-true, ne_eqb, leb-true, le-leb, and_parts, and_from}
use Rattle.cj_log.proofs.Common.{AllByRecursion, LogItem, bodies_of}
use Rattle.cj_model.specs.declared.limits.TheConstants.{USER_LIMIT}
use Rattle.cj_model.specs.Sql.Names.{is_text, IsNameOrEmpty}
use Rattle.cj_codec.specs.declared.error.CodecError.{CodecError}
use Rattle.cj_codec.specs.declared.error.CodecError.TheVariants as codec
use Rattle.cj_codec.specs.Fields.{byte, number64, string16, string64, name}
use Rattle.cj_codec.specs.Formats.{IsFormat, pair, nothing}
use Rattle.cj_codec.specs.Readings.{IsNoField, ReadsWhole}
use Rattle.cj_codec.proofs.Fields.{byte_law, number16_law, number64_law, string_law, name_law}
use Rattle.cj_codec.specs.Fields.{number16}
use Rattle.cj_codec.proofs.Formats.{behind_law, mapped_law, pair_law, such_that_law, choice_law, choice_holds, nothing_law, one_reading}
use Rattle.cj_codec.proofs.Held.{fields_hold}
use Rattle.cj_log.specs.declared.error.ItemError.{ItemError}
use Rattle.cj_log.specs.declared.item.LogItem.TheVariants.{Entry, Marker}
use Rattle.cj_log.specs.Items.{backend_byte, item_bytes, FitsBackendByte, IsItem, IsNoItem, BodiesFixItems}
use Rattle.cj_log.specs.Proving.ItemFormats.{is_user_name, user, text, backend_of_byte, backend, entry_from, entry_in, entry, marker_from, marker_in, marker, kind_of, fields_of, item, item_error, item_found, item_of, items_in, FindsItem}

-- ---- the law of formats

user_law : IsFormat user
user_law = such_that_law is_user_name string16 (string_law number16 number16_law)

text_law : IsFormat text
text_law = such_that_law is_text string64 (string_law number64 number64_law)

-- a backend's byte is its byte again
byte_back : (b : ℕ) → backend_byte (backend_of_byte b) ≡ b
byte_back b =
    elim (cases_eq b 255) [
      | inl is ↦ rw is refl
      | inr other ↦ let no : (b == 255) ≡ false = ne_eqb b 255 other in rw no refl
    ]

backend_law : IsFormat backend
backend_law = mapped_law backend_of_byte backend_byte byte byte_law (λ b fits. byte_back b)

entry_law : IsFormat entry
entry_law =
    mapped_law entry_from entry_in (pair number64 (pair number64 (pair number64 (pair number64 (pair user text)))))
    (pair_law number64 (pair number64 (pair number64 (pair number64 (pair user text)))) number64_law
    (pair_law number64 (pair number64 (pair number64 (pair user text))) number64_law
    (pair_law number64 (pair number64 (pair user text)) number64_law
    (pair_law number64 (pair user text) number64_law (pair_law user text user_law text_law)))))
    (λ p fits. refl)

marker_law : IsFormat marker
marker_law =
    mapped_law marker_from marker_in (pair number64 (pair name backend)) (pair_law number64 (pair name backend) number64_law (pair_law name backend name_law backend_law)) (λ p fits. refl)

fields_law : (kind : ℕ) → IsFormat (fields_of kind)
unfolding fields_of
fields_law kind = choice_law (kind == 1) entry _ entry_law (choice_law (kind == 2) marker nothing marker_law nothing_law)

fields_kind : (kind : ℕ) (x : LogItem) → (fields_of kind).fits x → kind_of x ≡ kind
unfolding fields_of
fields_kind kind x =
    choice_holds (kind == 1) entry _ x (λ is fits. ap kind_of (sym fits.1) ∙ sym (eqb-true kind 1 is))
    (λ other. choice_holds (kind == 2) marker nothing x (λ is fits. ap kind_of (sym fits.1) ∙ sym (eqb-true kind 2 is)) (λ other never. absurd never))

pub item_law : IsFormat item
item_law = behind_law byte kind_of fields_of byte_law fields_law fields_kind

-- ---- the bytes

pub bytes_same : (x : LogItem) → item.bytes x ≡ item_bytes x
unfolding fields_of
bytes_same (Entry e) = refl
bytes_same (Marker m) = refl

-- ---- what is held

backend_held : (b : Option ℕ) → FitsBackendByte b → backend.fits b
backend_held None is = (omega arith, refl)
backend_held (Some b) is = let no : (b == 255) ≡ false = ne_eqb b 255 (λ e. omega (arith, e, is)) in (omega (arith, is), rw no refl)

held_backend : (b : Option ℕ) → backend.fits b → FitsBackendByte b
held_backend None held = tt
held_backend (Some b) held =
    elim (cases_eq b 255) [
      | inl is ↦ let none : backend_of_byte b ≡ None = rw is refl in let no : None ≡ Some b = sym none ∙ held.1 in absurd cc
      | inr other ↦ omega (arith, held.0, other)
    ]

pub item_held : (x : LogItem) → IsItem x → item.fits x
unfolding fields_of
item_held (Entry e) is =
    let small : length e.user < 2 ^ 16 = omega (arith, is.short) in
    let named = and_from (nat_le (length e.user) USER_LIMIT) (is_text e.user) (le-leb (length e.user) USER_LIMIT is.short) is.user in
    (omega arith, ((is.number, ((is.session, ((is.seq, ((is.tx, ((((small, refl), named), (((is.long, refl), is.text), refl)), refl)), refl)), refl)), refl)), refl))
item_held (Marker m) is = (omega arith, ((is.after, (((fields_hold.of_name m.name).1 is.name, (backend_held m.b is.backend, refl)), refl)), refl))

pub held_item : (x : LogItem) → item.fits x → IsItem x
unfolding fields_of
held_item (Entry e) held =
    let p = held.1.0 in
    let u = p.1.0.1.0.1.0.1.0 in
    let named = and_parts (nat_le (length e.user) USER_LIMIT) (is_text e.user) u.0.1 in
    record {
      number = p.0;
      session = p.1.0.0;
      seq = p.1.0.1.0.0;
      tx = p.1.0.1.0.1.0.0;
      user = named.1;
      short = leb-true (length e.user) USER_LIMIT named.0;
      text = u.1.0.1;
      long = u.1.0.0.0;
    }
held_item (Marker m) held = record { after = held.1.0.0; name = (fields_hold.of_name m.name).0 held.1.0.1.0.0; backend = held_backend m.b held.1.0.1.0.1.0 }

-- ---- bodies

-- what is read of a body is the item whose body it is
pub body_read : (body : List ℕ) (x : LogItem) → body ≡ item.bytes x → item.fits x → (body ≡ item_bytes x) × IsItem x
body_read body x is held = (is ∙ bytes_same x, held_item x held)

-- a body of which none is read is no item's
no_item : (body : List ℕ) → IsNoField item body → IsNoItem body
no_item body none = λ x is e. none x (item_held x is) (e ∙ sym (bytes_same x))

pub none_read : (body : List ℕ) (error : CodecError) (result : Result LogItem ItemError) → ReadsWhole item body (Err error) → result ≡ Err (item_error error) → FindsItem body result
none_read body (codec.Cut n) result none is = subst (FindsItem body) (sym is) (no_item body none)
none_read body (codec.BadField n) result none is = subst (FindsItem body) (sym is) (no_item body none)
none_read body codec.NoMemory result none is = subst (FindsItem body) (sym is) tt

pub one_item : BodiesFixItems
one_item a b is its e =
    (one_reading item item_law a b [] [] (item_held a is) (item_held b its) (ap (λ (t : List ℕ). t ++ []) (bytes_same a ∙ e ∙ sym (bytes_same b)))).0

-- names are short
pub name_short : (n : List ℕ) → IsNameOrEmpty n → length n < 2 ^ 16
name_short [] is = omega arith
name_short (b ∷ n) is = ((fields_hold.of_name (b ∷ n)).1 is).0.0

-- ---- the items of bodies

pub item_back : (x : LogItem) → IsItem x → item_of (item_bytes x) ≡ x
unfolding item_of
item_back x is = ap (λ (bytes : List ℕ). item_found (item.reads bytes)) (sym (bytes_same x) ∙ sym (append-nil (item.bytes x))) ∙ ap item_found (item_law.again x [] (item_held x is))

pub items_back : (items : List LogItem) → AllByRecursion IsItem items → items_in (bodies_of items) ≡ items
items_back [] each = refl
items_back (x ∷ items) each = ap (λ (y : LogItem). y ∷ items_in (bodies_of items)) (item_back x each.0) ∙ ap (λ (ys : List LogItem). x ∷ ys) (items_back items each.1)
