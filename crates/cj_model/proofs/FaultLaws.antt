-- The fault of a rest stays, whatever comes after it.
use Rattle.std.proofs.Common.{◌≡◌, ℕ, ◌+◌, ◌<◌, ◌≤◌, Bool, true, false, cond, ltb, eqb, not, List, ◌++◌, length, get_or, take, drop, Option, Some, None, refl, sym, ap, subst, ◌∙◌, arith, length-append}
use Rattle.std.specs.Int.{w32, from_be_bytes}
use Rattle.std.proofs.lemmas.Bool.{ltb-true, ltb-false, lt-ltb, le-ltb, eqb-true, eqb-false, eq-eqb, ne_eqb, not-true, not-false}
use Rattle.std.proofs.lemmas.Option.{same_Some}
use Rattle.std.proofs.lemmas.List.{take-append-le, get_or_append_left, take-append-drop, take_at}
use Rattle.cj_model.proofs.Common.{Login, Message, Query, Quit, Stats}
use Rattle.cj_model.specs.declared.message.FrameFault.{FrameFault}
use Rattle.cj_model.specs.declared.message.FrameFault.TheVariants.{LengthZero, LengthOver, Kind, Payload}
use Rattle.cj_model.specs.declared.limits.TheConstants.{FRAME_LIMIT}
use Rattle.cj_model.specs.Wire.Frames.{message_body, frame, IsFramed, BeginsNoFrame, stated_length, is_client_kind, fault_of, FaultsStay}
use Rattle.cj_model.proofs.Fields.{wide32}

-- four bytes that say a length that may be
pub record HasLength (rest : List ℕ) : Type 0 where
  pub four : 4 ≤ length rest
  pub some : 0 < stated_length rest
  pub most : stated_length rest ≤ FRAME_LIMIT

-- what shows each fault
abbrev pub Shows : List ℕ → FrameFault → Type 0
Shows rest LengthZero = (4 ≤ length rest) × (stated_length rest ≡ 0)
Shows rest LengthOver = (4 ≤ length rest) × (FRAME_LIMIT < stated_length rest)
Shows rest Kind = HasLength rest × (5 ≤ length rest) × (is_client_kind (get_or rest 4 0) ≡ false)
Shows rest Payload = HasLength rest × (4 + stated_length rest ≤ length rest) × (is_client_kind (get_or rest 4 0) ≡ true)

-- a test for more bytes that found enough
enough : (b : Bool) (o : Option FrameFault) (f : FrameFault) → cond b None o ≡ Some f → (b ≡ false) × (o ≡ Some f)
enough true o f e = absurd cc
enough false o f e = (refl, e)

-- a test for a fault, where it found one and where it found none
tested : (P : FrameFault → Type 0) (b : Bool) (x f : FrameFault) (o : Option FrameFault) → (b ≡ true → P x) → (b ≡ false → o ≡ Some f → P f) → cond b (Some x) o ≡ Some f → P f
tested P true x f o found none e = let is : x ≡ f = same_Some x f e in subst P is (found refl)
tested P false x f o found none e = none refl e

-- the last fault is the only one left
last : (P : FrameFault → Type 0) (x f : FrameFault) → P x → Some x ≡ Some f → P f
last P x f found e = let is : x ≡ f = same_Some x f e in subst P is found

-- a fault is shown
pub shows : (rest : List ℕ) (f : FrameFault) → fault_of rest ≡ Some f → Shows rest f
unfolding fault_of
shows rest f e =
    let n = stated_length rest in
    let kind = is_client_kind (get_or rest 4 0) in
    let whole : Option FrameFault = cond (ltb (length rest) (4 + n)) None (Some Payload) in
    let fifth : Option FrameFault = cond (not kind) (Some Kind) whole in
    let over : Option FrameFault = cond (ltb FRAME_LIMIT n) (Some LengthOver) (cond (ltb (length rest) 5) None fifth) in
    let four = enough (ltb (length rest) 4) (cond (eqb n 0) (Some LengthZero) over) f e in
    let at_least : 4 ≤ length rest = ltb-false _ _ four.0 in
    tested (Shows rest) (eqb n 0) LengthZero f over
    (λ zero_length. (at_least, eqb-true n 0 zero_length))
    (λ some e1. tested (Shows rest) (ltb FRAME_LIMIT n) LengthOver f (cond (ltb (length rest) 5) None fifth)
    (λ above. (at_least, ltb-true _ _ above))
    (λ below e2.
    let has : HasLength rest = record { four = at_least; some = grind (arith, eqb-false n 0 some); most = ltb-false _ _ below } in
    let five = enough (ltb (length rest) 5) fifth f e2 in
    tested (Shows rest) (not kind) Kind f whole
    (λ unknown. (has, ltb-false _ _ five.0, not-true kind unknown))
    (λ known e3.
    let all = enough (ltb (length rest) (4 + n)) (Some Payload) f e3 in
    last (Shows rest) Payload f (has, ltb-false _ _ all.0, not-false kind known) all.1)
    five.1)
    e1)
    four.1

-- what is shown is the fault
pub shown : (rest : List ℕ) (f : FrameFault) → Shows rest f → fault_of rest ≡ Some f
unfolding fault_of
shown rest LengthZero s =
    let four : ltb (length rest) 4 ≡ false = le-ltb _ _ s.0 in
    let none : eqb (stated_length rest) 0 ≡ true = eq-eqb _ _ s.1 in
    rw (four, none) refl
shown rest LengthOver s =
    let four : ltb (length rest) 4 ≡ false = le-ltb _ _ s.0 in
    let some : eqb (stated_length rest) 0 ≡ false = ne_eqb _ _ (λ e. omega (arith, e, s.1)) in
    let above : ltb FRAME_LIMIT (stated_length rest) ≡ true = lt-ltb _ _ s.1 in
    rw (four, some, above) refl
shown rest Kind s =
    let four : ltb (length rest) 4 ≡ false = le-ltb _ _ s.0.four in
    let some : eqb (stated_length rest) 0 ≡ false = ne_eqb _ _ (λ e. omega (arith, e, s.0.some)) in
    let below : ltb FRAME_LIMIT (stated_length rest) ≡ false = le-ltb _ _ s.0.most in
    let five : ltb (length rest) 5 ≡ false = le-ltb _ _ s.1 in
    rw (four, some, below, five, s.2) refl
shown rest Payload s =
    let four : ltb (length rest) 4 ≡ false = le-ltb _ _ s.0.four in
    let some : eqb (stated_length rest) 0 ≡ false = ne_eqb _ _ (λ e. omega (arith, e, s.0.some)) in
    let below : ltb FRAME_LIMIT (stated_length rest) ≡ false = le-ltb _ _ s.0.most in
    let five : ltb (length rest) 5 ≡ false = le-ltb _ _ (omega (arith, s.0.some, s.1)) in
    let whole : ltb (length rest) (4 + stated_length rest) ≡ false = le-ltb _ _ s.1 in
    rw (four, some, below, five, s.2, whole) refl

-- four bytes say the same length, whatever comes after them
stated_more : (rest more : List ℕ) → 4 ≤ length rest → stated_length (rest ++ more) ≡ stated_length rest
stated_more rest more four = ap (from_be_bytes w32) (take-append-le 4 rest more four)

-- the fifth byte is the same, whatever comes after it
fifth_more : (rest more : List ℕ) → 5 ≤ length rest → get_or (rest ++ more) 4 0 ≡ get_or rest 4 0
fifth_more rest more five = get_or_append_left rest more 0 4 five

-- a length that may be, whatever comes after it
length_more : (rest more : List ℕ) → HasLength rest → HasLength (rest ++ more)
length_more rest more h =
    let same = stated_more rest more h.four in
    record { four = omega (arith, h.four, length-append rest more); some = omega (arith, same, h.some); most = omega (arith, same, h.most) }

-- what shows a fault still shows it, whatever comes after it
shows_more : (rest more : List ℕ) (f : FrameFault) → Shows rest f → Shows (rest ++ more) f
shows_more rest more LengthZero s = (omega (arith, s.0, length-append rest more), stated_more rest more s.0 ∙ s.1)
shows_more rest more LengthOver s = (omega (arith, s.0, length-append rest more), omega (arith, stated_more rest more s.0, s.1))
shows_more rest more Kind s = (length_more rest more s.0, omega (arith, s.1, length-append rest more), ap is_client_kind (fifth_more rest more s.1) ∙ s.2)
shows_more rest more Payload s =
    (length_more rest more s.0, omega (arith, stated_more rest more s.0.four, s.1, length-append rest more), ap is_client_kind (fifth_more rest more (omega (arith, s.0.some, s.1))) ∙ s.2)

-- the first four bytes of a message's frame say the length of its body
stated_frame : (m : Message) (more : List ℕ) → IsFramed m → stated_length (frame m ++ more) ≡ length (message_body m)
stated_frame m more framed = wide32.again (length (message_body m)) (omega (arith, framed.size))

-- the fifth byte of a message's frame is a kind that a client may send
kind_frame : (m : Message) (more : List ℕ) → is_client_kind (get_or (frame m ++ more) 4 0) ≡ true
kind_frame (Login user password) more = refl
kind_frame (Query text) more = refl
kind_frame Stats more = refl
kind_frame Quit more = refl

-- a message's body has its kind at least
some_body : (m : Message) → 0 < length (message_body m)
some_body (Login user password) = omega arith
some_body (Query text) = omega arith
some_body Stats = omega arith
some_body Quit = omega arith

-- a frame that begins a long rest and more begins the rest
begins : (rest more tail : List ℕ) (m : Message) → rest ++ more ≡ frame m ++ tail → length (frame m) ≤ length rest → rest ≡ frame m ++ drop (length (frame m)) rest
begins rest more tail m e long =
    let front : take (length (frame m)) rest ≡ frame m = sym (take-append-le (length (frame m)) rest more long) ∙ ap (take (length (frame m))) e ∙ take_at (frame m) tail (length (frame m)) refl in
    sym (take-append-drop (length (frame m)) rest) ∙ ap (λ (t : List ℕ). t ++ drop (length (frame m)) rest) front

-- where a fault is shown, no frame begins the rest and what comes after it
no_frame : (rest more : List ℕ) (f : FrameFault) → BeginsNoFrame rest → Shows rest f → BeginsNoFrame (rest ++ more)
no_frame rest more LengthZero none s m tail framed e =
    let stated : stated_length rest ≡ length (message_body m) = sym (stated_more rest more s.0) ∙ ap stated_length e ∙ stated_frame m tail framed in
    omega (arith, stated, s.1, some_body m)
no_frame rest more LengthOver none s m tail framed e =
    let stated : stated_length rest ≡ length (message_body m) = sym (stated_more rest more s.0) ∙ ap stated_length e ∙ stated_frame m tail framed in
    omega (arith, stated, s.1, framed.size)
no_frame rest more Kind none s m tail framed e =
    let kind : get_or rest 4 0 ≡ get_or (frame m ++ tail) 4 0 = sym (fifth_more rest more s.1) ∙ ap (λ (t : List ℕ). get_or t 4 0) e in
    let known : is_client_kind (get_or rest 4 0) ≡ true = ap is_client_kind kind ∙ kind_frame m tail in
    absurd cc
no_frame rest more Payload none s m tail framed e =
    let stated : stated_length rest ≡ length (message_body m) = sym (stated_more rest more s.0.four) ∙ ap stated_length e ∙ stated_frame m tail framed in
    let size : length (frame m) ≡ 4 + length (message_body m) = omega arith in
    none m (drop (length (frame m)) rest) framed (begins rest more tail m e (omega (arith, size, stated, s.1)))

-- a faulty rest has its fault whatever comes after it, and never becomes a frame
pub faults_stay : FaultsStay
faults_stay rest more f none e =
    let s = shows rest f e in
    (no_frame rest more f none s, shown (rest ++ more) f (shows_more rest more f s))
