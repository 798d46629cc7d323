-- What is held once a message was taken off.
use Rattle.std.proofs.Common.{◌≡◌, ℕ, ◌-◌, List, [], ◌∷◌, ◌++◌, length, take, drop, sym, ap, ◌∙◌, arith, append_assoc, length-append}
use Rattle.std.proofs.lemmas.List.{take-append-drop, drop_at, append-nil}
use Rattle.cj_frame.proofs.Common.{AllByRecursion, flat_map, flat_map-cons, frame, IsFramed, Message}
use Rattle.cj_frame.specs.Feeding.{FeedStep, piece_fed, message_taken, FeedLeadsTo, FeedsGiveReadings}

-- the bytes behind a front, counted from the end
back_part : (bytes front after : List ℕ) → bytes ≡ front ++ after → drop (length bytes - length after) bytes ≡ after
back_part bytes front after is = ap (drop (length bytes - length after)) is ∙ drop_at front after (length bytes - length after) (omega (arith, ap length is, length-append front after))

-- where what stood behind `at` began with a frame, what is left of it is held
pub taken_off : (now bytes held frame after : List ℕ) (at to : ℕ) → drop at bytes ≡ now → held ≡ drop at bytes → held ≡ frame ++ after → to ≡ length bytes - length after → now ≡ frame ++ drop to bytes
taken_off now bytes held frame after at to now_is holds is to_is =
    let whole : bytes ≡ (take at bytes ++ frame) ++ after = sym (take-append-drop at bytes) ∙ ap (λ (x : List ℕ). take at bytes ++ x) (sym holds ∙ is) ∙ sym (append_assoc (take at bytes) frame after) in
    let back : drop to bytes ≡ after = ap (λ (n : ℕ). drop n bytes) to_is ∙ back_part bytes (take at bytes ++ frame) after whole in
    sym now_is ∙ sym holds ∙ is ∙ ap (λ (x : List ℕ). frame ++ x) (sym back)

-- ---- any pieces

-- the bytes held and piece_fed are the frames of the messages and the rest
pub record IsSplit (bytes : List ℕ) (messages : List Message) (rest : List ℕ) : Type 0 where
  pub whole : bytes ≡ flat_map frame messages ++ rest
  pub each : AllByRecursion IsFramed messages

fed_split : (held : List ℕ) (steps : List FeedStep) (bytes : List ℕ) (messages : List Message) (rest : List ℕ) → FeedLeadsTo held steps bytes messages rest → IsSplit (held ++ bytes) messages rest
fed_split held [] bytes messages rest h =
    rw (h.0, h.1) (record { whole = append-nil held ∙ sym h.2; each = tt })
fed_split held (piece_fed piece ∷ steps) bytes messages rest h =
    let later = fed_split (held ++ piece) steps h.0 messages rest h.2 in
    record { whole = ap (λ (x : List ℕ). held ++ x) h.1 ∙ sym (append_assoc held piece h.0) ∙ later.whole; each = later.each }
fed_split held (message_taken m ∷ steps) bytes messages rest h =
    let later = fed_split h.0 steps bytes h.1 rest h.5 in
    rw h.4 (record {
      whole = ap (λ (x : List ℕ). x ++ bytes) h.2 ∙ append_assoc (frame m) h.0 bytes ∙ ap (λ (x : List ℕ). frame m ++ x) later.whole
          ∙ sym (append_assoc (frame m) (flat_map frame h.1) rest) ∙ ap (λ (x : List ℕ). x ++ rest) (sym (flat_map-cons frame m h.1));
      each = (h.3, later.each);
    })

pub feeds_are_readings : FeedsGiveReadings
feeds_are_readings steps bytes messages rest h stops =
    let split = fed_split [] steps bytes messages rest h in
    record { whole = split.whole; each = split.each; stops = stops }
