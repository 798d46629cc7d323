-- Values: INTEGER is ordered as numbers, TEXT by bytes, and each INTEGER comes before each TEXT.
use Rattle.std.specs.Prelude.{◌≡◌, refl}
use Rattle.std.specs.Cmp.{IsTotalOrder, int_cmp_total}
use Rattle.std.specs.Cmp.Lexicographic.{slice_cmp, nat_list_cmp_total}
use Rattle.std.specs.declared.cmp.Ordering.{Ordering}
use Rattle.std.specs.Ordering.{int_cmp, nat_cmp, ordering_reverse}
use Rattle.std.specs.declared.cmp.Ordering.TheVariants.{Less, Equal, Greater}
use Rattle.std.proofs.lemmas.Map.Lookups.{exact_bytes, exact_signed}
use Rattle.std.proofs.Common.{ap}
use Rattle.cj_model.specs.declared.value.Value.{Value}
use Rattle.cj_model.specs.declared.value.Value.TheVariants.{Int, Text}
use Rattle.cj_model.specs.declared.value.Kind.{Kind}
use Rattle.cj_model.specs.declared.value.Kind.TheVariants as kind

abbrev pub kind_of : Value → Kind
kind_of (Int n) = kind.Integer
kind_of (Text t) = kind.Text

abbrev pub value_cmp : Value → Value → Ordering
value_cmp (Int a) (Int b) = int_cmp a b
value_cmp (Int a) (Text t) = Less
value_cmp (Text s) (Int b) = Greater
value_cmp (Text s) (Text t) = slice_cmp nat_cmp s t

-- the three parts of a total order
antisymm_of : (x y : Value) → value_cmp x y ≡ ordering_reverse (value_cmp y x)
antisymm_of (Int a) (Int b) = int_cmp_total.antisymm a b
antisymm_of (Int a) (Text t) = refl
antisymm_of (Text s) (Int b) = refl
antisymm_of (Text s) (Text t) = nat_list_cmp_total.antisymm s t

trans_of : (x y z : Value) → value_cmp x y ≡ Less → value_cmp y z ≡ Less → value_cmp x z ≡ Less
trans_of (Int a) (Int b) (Int c) p q = int_cmp_total.trans a b c p q
trans_of (Int a) y (Text u) p q = refl
trans_of (Int a) (Text t) (Int c) p q = cc q
trans_of (Text s) (Int b) z p q = cc p
trans_of (Text s) (Text t) (Int c) p q = cc q
trans_of (Text s) (Text t) (Text u) p q = nat_list_cmp_total.trans s t u p q

congr_of : (x y z : Value) → value_cmp x y ≡ Equal → value_cmp x z ≡ value_cmp y z
congr_of (Int a) (Int b) (Int c) p = int_cmp_total.congr a b c p
congr_of (Int a) (Int b) (Text u) p = refl
congr_of (Int a) (Text t) z p = cc p
congr_of (Text s) (Int b) z p = cc p
congr_of (Text s) (Text t) (Int c) p = refl
congr_of (Text s) (Text t) (Text u) p = nat_list_cmp_total.congr s t u p

-- the order of values is total
pub value_total : IsTotalOrder value_cmp
value_total = record { antisymm = antisymm_of; trans = trans_of; congr = congr_of }

-- equal values are one value
pub value_exact : (x y : Value) → value_cmp x y ≡ Equal → x ≡ y
value_exact (Int a) (Int b) p = ap Int (exact_signed a b p)
value_exact (Int a) (Text t) p = cc p
value_exact (Text s) (Int b) p = cc p
value_exact (Text s) (Text t) p = ap Text (exact_bytes s t p)
