-- Taking apart what a reader answered: by its tests, and by the readers before it.
use Rattle.std.proofs.Common.{◌≡◌, refl, Bool, true, false, cond}
use Rattle.cj_sql.specs.Proving.Reader.{ReadResult, refused, read, and_then}

-- which branch gave the answer
pub data Branch {A : Type 0} (b : Bool) (x y z : A) : Type 0 where
  holds : b ≡ true → x ≡ z → Branch b x y z
  fails : b ≡ false → y ≡ z → Branch b x y z

-- the branch of a choice that gave the answer
pub branch : {A : Type 0} (b : Bool) (x y z : A) → cond b x y ≡ z → Branch b x y z
branch true x y z h = holds refl h
branch false x y z h = fails refl h

-- the first reader's answer, of which a fact is known, and what the second made of it
pub data Part {A B S T : Type 0} (P : A → S → Type 0) (f : A → S → ReadResult B T) (y : B) (end : T) : Type 0 where
  part : (x : A) (rest : S) → P x rest → f x rest ≡ read y end → Part P f y end

-- the first reader answered, and it is sound
pub part_of : {A B S T : Type 0} {r : ReadResult A S} {P : A → S → Type 0} {f : A → S → ReadResult B T} {y : B} {end : T}
    → ((x : A) (rest : S) → r ≡ read x rest → P x rest) → and_then r f ≡ read y end → Part P f y end
part_of {r = refused} sound h = absurd (cc)
part_of {r = read x rest} sound h = part x rest (sound x rest refl) h
