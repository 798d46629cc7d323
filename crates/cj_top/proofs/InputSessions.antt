-- A session that ended by its input has answered all of it.
use Rattle.std.proofs.Common.{◌≡◌, ℕ, ◌+◌, ◌-◌, ◌<◌, ◌≤◌, Bool, true, false, List, [], ◌∷◌, ◌++◌, length, take, Option, Some, None, refl, sym, ap, subst, ◌∙◌, arith, lit≤, append_assoc, append-nil, length-append}
use Rattle.std.specs.List.{flat_map, list_any, AllByRecursion}
use Rattle.std.specs.Io.KnownBytes.{Appends, Consumes}
use Rattle.cj_core.proofs.Common.{take-append-add, take_all}
use Rattle.std.proofs.ByRecursion.{All-push as ByRecursion-push}
use Rattle.std.proofs.lemmas.Bool.{le-ltb, lt-ltb, or_parts}
use Rattle.cj_top.proofs.Common.{flat_map-append, flat_map-cons, IfSome, most, Reply, SessionEnd}
use Rattle.cj_model.specs.declared.message.FrameFault.{FrameFault}
use Rattle.cj_model.specs.declared.message.Message.{Message}
use Rattle.cj_model.specs.declared.message.Message.TheVariants as message
use Rattle.cj_model.specs.Wire.Frames.{frame, IsFramed, BeginsNoFrame, Frames, fault_of}
use Rattle.cj_model.specs.Wire.Replies.{reply_bytes}
use Rattle.cj_model.proofs.FaultLaws.{faults_stay}
use Rattle.cj_model.proofs.OneReading.{one_reading}
use Rattle.cj_cluster.specs.declared.session.SessionEnd.TheVariants as end
use Rattle.cj_cluster.specs.Wire.Sessions.{answered_messages, is_quit}
use Rattle.cj_desk.specs.SessionTranscripts.{SessionSetting, ClientState, EndsTranscript, MessageExchanges, SessionTranscript}
use Rattle.cj_desk.proofs.AnsweredLaws.{front_of_reading}
use Rattle.cj_session.specs.Serving.{ReachesEnd, ServesSession}
use Rattle.cj_top.specs.Completeness.{AnswersInput, end_by_rest, end_of_reading, end_of_short, is_end_by_input, is_short_input, replies_at_end}

-- ---- replies

one_each : {S D : Type 0} (w : SessionSetting S D) (ms : List Message) (rs : List Reply) (a z : ClientState S D) → MessageExchanges w a ms rs z → length rs ≡ length ms
one_each w [] [] a z h = refl
one_each w [] (r ∷ rs) a z never = absurd never
one_each w (m ∷ ms) [] a z never = absurd never
one_each w (m ∷ ms) (r ∷ rs) a z h = let later = one_each w ms rs h.0 z h.2 in omega (arith, later)

written_at_end : (rest : List ℕ) (replies : List Reply) (written : List ℕ) (ending : SessionEnd) → EndsTranscript rest replies written ending → is_end_by_input ending ≡ true
    → flat_map reply_bytes (replies ++ replies_at_end ending) ≡ written
written_at_end rest replies written end.Quit ends by = ap (flat_map reply_bytes) (append-nil replies) ∙ sym ends.1
written_at_end rest replies written end.Eof ends by = ap (flat_map reply_bytes) (append-nil replies) ∙ sym ends.1
written_at_end rest replies written end.Cut ends by = ap (flat_map reply_bytes) (append-nil replies) ∙ sym ends.2
written_at_end rest replies written (end.BadFrame fault) ends by = sym ends.1
written_at_end rest replies written end.ReadFault ends by = absurd cc
written_at_end rest replies written end.WriteFault ends by = absurd cc
written_at_end rest replies written end.Spent ends by = ap (flat_map reply_bytes) (append-nil replies) ∙ sym ends.1
written_at_end rest replies written end.NoMemory ends by = absurd cc

-- ---- messages before the first Quit

all_answered : (ms : List Message) → list_any is_quit ms ≡ false → answered_messages ms ≡ ms
all_answered [] none = refl
all_answered (m ∷ ms) none = let parts = or_parts (is_quit m) (list_any is_quit ms) none in rw parts.0 (ap (λ (xs : List Message). m ∷ xs) (all_answered ms parts.1))

quit_found : (ms others : List Message) → list_any is_quit ms ≡ false → list_any is_quit (ms ++ message.Quit ∷ others) ≡ true
quit_found [] others none = refl
quit_found (m ∷ ms) others none = let parts = or_parts (is_quit m) (list_any is_quit ms) none in rw parts.0 (quit_found ms others parts.1)

answered_to_quit : (ms others : List Message) → list_any is_quit ms ≡ false → answered_messages (ms ++ message.Quit ∷ others) ≡ ms
answered_to_quit [] others none = refl
answered_to_quit (m ∷ ms) others none =
    let parts = or_parts (is_quit m) (list_any is_quit ms) none in rw parts.0 (ap (λ (xs : List Message). m ∷ xs) (answered_to_quit ms others parts.1))

-- ---- the end

-- the end and the number of replies are those of this reading
abbrev IsEndOf : Bool → List Reply → SessionEnd → List Message → List ℕ → Type 0
IsEndOf short replies ending messages rest = (ending ≡ end_of_reading short messages rest) × (length replies ≡ length (answered_messages messages))

-- with no Quit the reading is that of the transcript
at_rest : (short : Bool) (bytes behind rest : List ℕ) (ms messages : List Message) (replies : List Reply) (ending : SessionEnd) → bytes ≡ flat_map frame ms ++ behind → AllByRecursion IsFramed ms → list_any is_quit ms ≡ false → BeginsNoFrame behind
    → length replies ≡ length ms → end_by_rest (fault_of behind) short behind ≡ ending → Frames bytes messages rest → IsEndOf short replies ending messages rest
at_rest short bytes behind rest ms messages replies ending whole each no_quit stops count is f =
    let one = one_reading bytes behind rest ms messages (record { whole = whole; each = each; stops = stops }) f in
    let here : ending ≡ end_of_reading short ms behind = rw no_quit (sym is) in
    let all : length replies ≡ length (answered_messages ms) = count ∙ ap length (sym (all_answered ms no_quit)) in
    subst (λ (xs : List Message). IsEndOf short replies ending xs rest) one.0 (subst (λ (r : List ℕ). IsEndOf short replies ending ms r) one.1 (here, all))

-- with a Quit all messages before it are those of the transcript
at_quit : (short : Bool) (bytes behind rest : List ℕ) (ms messages : List Message) (replies : List Reply) → bytes ≡ flat_map frame ms ++ (frame message.Quit ++ behind) → AllByRecursion IsFramed ms → list_any is_quit ms ≡ false
    → length replies ≡ length ms → Frames bytes messages rest → IsEndOf short replies end.Quit messages rest
at_quit short bytes behind rest ms messages replies whole each no_quit count f =
    let to_quit : flat_map frame (ms ++ message.Quit ∷ []) ≡ flat_map frame ms ++ frame message.Quit =
    flat_map-append frame ms (message.Quit ∷ []) ∙ ap (λ (t : List ℕ). flat_map frame ms ++ t) (flat_map-cons frame message.Quit [] ∙ append-nil (frame message.Quit))
    in
    let parts : flat_map frame (ms ++ message.Quit ∷ []) ++ behind ≡ flat_map frame messages ++ rest =
    ap (λ (t : List ℕ). t ++ behind) to_quit ∙ append_assoc (flat_map frame ms) (frame message.Quit) behind ∙ sym whole ∙ f.whole
    in
    let framed : AllByRecursion IsFramed (ms ++ message.Quit ∷ []) = ByRecursion-push IsFramed ms message.Quit each (record { texts = tt; size = lit≤ tt }) in
    let front = front_of_reading (ms ++ message.Quit ∷ []) messages behind rest parts framed f.each f.stops in
    let are : ms ++ message.Quit ∷ front.others ≡ messages = sym (append_assoc ms (message.Quit ∷ []) front.others) ∙ sym front.are in
    let here : end.Quit ≡ end_of_reading short (ms ++ message.Quit ∷ front.others) rest = rw (quit_found ms front.others no_quit) refl in
    let all : length replies ≡ length (answered_messages (ms ++ message.Quit ∷ front.others)) = count ∙ ap length (sym (answered_to_quit ms front.others no_quit)) in
    subst (λ (xs : List Message). IsEndOf short replies end.Quit xs rest) are (here, all)

-- what was not taken
abbrev Fits : Bool → List ℕ → SessionEnd → Type 0
Fits short more end.Quit = Unit {0}
Fits short more end.Eof = (short ≡ true) × (more ≡ [])
Fits short more end.Cut = (short ≡ true) × (more ≡ [])
Fits short more (end.BadFrame fault) = Unit {0}
Fits short more end.ReadFault = Unit {0}
Fits short more end.WriteFault = Unit {0}
Fits short more end.Spent = (short ≡ false) × (more ≡ [])
Fits short more end.NoMemory = Unit {0}

stops_nil : BeginsNoFrame []
stops_nil m more framed e = absurd (omega (arith, ap length e, length-append (frame m) more))

nothing_wrong : fault_of [] ≡ None
unfolding fault_of
nothing_wrong = refl

some_left : (rest : List ℕ) → (rest ≡ [] → ⊥) → end_of_short rest ≡ end.Cut
some_left [] some = absurd (some refl)
some_left (b ∷ rest) some = refl

none_behind : (rest more : List ℕ) → more ≡ [] → rest ≡ rest ++ more
none_behind rest more none = sym (append-nil rest) ∙ ap (λ (t : List ℕ). rest ++ t) (sym none)

module _ (short : Bool) (more bytes messages_rest : List ℕ) (messages : List Message) where
  -- by the rest of the transcript, behind which more may come
  by_rest : (rest : List ℕ) (ms : List Message) (replies : List Reply) (written : List ℕ) (ending : SessionEnd) → bytes ≡ flat_map frame ms ++ (rest ++ more) → AllByRecursion IsFramed ms → list_any is_quit ms ≡ false → length replies ≡ length ms
      → EndsTranscript rest replies written ending → is_end_by_input ending ≡ true → Fits short more ending → Frames bytes messages messages_rest → IsEndOf short replies ending messages messages_rest
  by_rest rest ms replies written end.Quit whole each no_quit count ends by fits f =
      at_quit short bytes (ends.0.0 ++ more) messages_rest ms messages replies
      (whole ∙ ap (λ (t : List ℕ). flat_map frame ms ++ t) (ap (λ (t : List ℕ). t ++ more) ends.0.1 ∙ append_assoc (frame message.Quit) ends.0.0 more)) each no_quit count f
  by_rest rest ms replies written end.Eof whole each no_quit count ends by fits f =
      let nothing : rest ++ more ≡ [] = sym (none_behind rest more fits.1) ∙ ends.0 in
      at_rest short bytes [] messages_rest ms messages replies end.Eof (whole ∙ ap (λ (t : List ℕ). flat_map frame ms ++ t) nothing) each no_quit stops_nil count
      (ap (λ (o : Option FrameFault). end_by_rest o short []) nothing_wrong ∙ (rw fits.0 refl)) f
  by_rest rest ms replies written end.Cut whole each no_quit count ends by fits f =
      at_rest short bytes rest messages_rest ms messages replies end.Cut (whole ∙ ap (λ (t : List ℕ). flat_map frame ms ++ t) (sym (none_behind rest more fits.1))) each no_quit ends.0.stops count
      (ap (λ (o : Option FrameFault). end_by_rest o short rest) ends.0.fine ∙ (rw fits.0 (some_left rest ends.1))) f
  by_rest rest ms replies written (end.BadFrame fault) whole each no_quit count ends by fits f =
      let stay = faults_stay rest more fault ends.0.stops ends.0.fault_is in
      at_rest short bytes (rest ++ more) messages_rest ms messages replies (end.BadFrame fault) whole each no_quit stay.0 count (ap (λ (o : Option FrameFault). end_by_rest o short (rest ++ more)) stay.1) f
  by_rest rest ms replies written end.ReadFault whole each no_quit count ends by fits f = absurd cc
  by_rest rest ms replies written end.WriteFault whole each no_quit count ends by fits f = absurd cc
  by_rest rest ms replies written end.Spent whole each no_quit count ends by fits f =
      at_rest short bytes rest messages_rest ms messages replies end.Spent (whole ∙ ap (λ (t : List ℕ). flat_map frame ms ++ t) (sym (none_behind rest more fits.1))) each no_quit ends.0.stops count
      (ap (λ (o : Option FrameFault). end_by_rest o short rest) ends.0.fine ∙ (rw fits.0 refl)) f
  by_rest rest ms replies written end.NoMemory whole each no_quit count ends by fits f = absurd cc

-- ---- what was taken of the input

-- of an input the first bytes are what was taken, and more
taken_of : (bytes taken behind : List ℕ) (limit : ℕ) → bytes ≡ taken ++ behind → length taken ≤ limit → take limit bytes ≡ taken ++ take (limit - length taken) behind
taken_of bytes taken behind limit is few =
    let sum : limit ≡ length taken + (limit - length taken) = omega (arith, few) in
    ap (take limit) is ∙ ap (λ (n : ℕ). take n (taken ++ behind)) sum ∙ take-append-add taken behind (limit - length taken)

reaches_few : (left : Option (List ℕ)) (count : ℕ) (ending : SessionEnd) → ReachesEnd left count ending → count ≤ most
reaches_few left count end.Quit h = h
reaches_few left count end.Eof h = omega (arith, h.1)
reaches_few left count end.Cut h = omega (arith, h.1)
reaches_few left count (end.BadFrame fault) h = h
reaches_few left count end.ReadFault h = omega (arith, h)
reaches_few left count end.WriteFault h = h
reaches_few left count end.Spent h = omega (arith, h)
reaches_few left count end.NoMemory h = h

-- all of a short input was taken
fits_end : (bytes taken behind : List ℕ) → bytes ≡ taken ++ behind → behind ≡ [] → length taken < most → (is_short_input bytes ≡ true) × (take (most - length taken) behind ≡ [])
fits_end bytes taken behind is none few =
    let size = ap length is ∙ length-append taken behind in
    let nothing = ap length none in
    (lt-ltb (length bytes) most (omega (arith, size, nothing, few)), take_all (most - length taken) behind (omega (arith, nothing)) ∙ none)

-- as much as may be was taken of another
fits_spent : (bytes taken behind : List ℕ) → bytes ≡ taken ++ behind → length taken ≡ most → (is_short_input bytes ≡ false) × (take (most - length taken) behind ≡ [])
fits_spent bytes taken behind is all =
    let size = ap length is ∙ length-append taken behind in
    let none : most - length taken ≡ 0 = omega (arith, all) in
    (le-ltb (length bytes) most (omega (arith, size, all)), ap (λ (n : ℕ). take n behind) none)

fits_taken : (bytes taken behind : List ℕ) (ending : SessionEnd) → bytes ≡ taken ++ behind → ReachesEnd (Some behind) (length taken) ending → Fits (is_short_input bytes) (take (most - length taken) behind) ending
fits_taken bytes taken behind end.Quit is h = tt
fits_taken bytes taken behind end.Eof is h = fits_end bytes taken behind is h.0 h.1
fits_taken bytes taken behind end.Cut is h = fits_end bytes taken behind is h.0 h.1
fits_taken bytes taken behind (end.BadFrame fault) is h = tt
fits_taken bytes taken behind end.ReadFault is h = tt
fits_taken bytes taken behind end.WriteFault is h = tt
fits_taken bytes taken behind end.Spent is h = fits_spent bytes taken behind is h
fits_taken bytes taken behind end.NoMemory is h = tt

module _ {S D : Type 0} (w : SessionSetting S D) (a : ClientState S D) (ending : SessionEnd) (desk : S) (draws : D) where
  read_as : (left left' : Option (List ℕ)) (taken written : List ℕ) (t : SessionTranscript w a taken written ending desk draws) → Consumes left left' taken → ReachesEnd left' (length taken) ending → is_end_by_input ending ≡ true
      → IfSome left (λ bytes. (messages : List Message) (rest : List ℕ) → Frames (take most bytes) messages rest → IsEndOf (is_short_input bytes) t.replies ending messages rest)
  read_as None left' taken written t bytes reaches by = tt
  read_as (Some xs) None taken written t bytes reaches by = absurd bytes
  read_as (Some xs) (Some ys) taken written t bytes reaches by = λ messages rest f.
      let more = take (most - length taken) ys in
      let whole : take most xs ≡ flat_map frame t.so_far.messages ++ (t.rest ++ more) =
      taken_of xs taken ys most bytes (reaches_few (Some ys) (length taken) ending reaches) ∙ ap (λ (x : List ℕ). x ++ more) t.so_far.whole ∙ append_assoc (flat_map frame t.so_far.messages) t.rest more
      in
      by_rest (is_short_input xs) more (take most xs) rest messages t.rest t.so_far.messages t.replies written ending whole t.so_far.each t.so_far.no_quit
      (one_each w t.so_far.messages t.replies a t.last t.so_far.exchanges) t.ends by (fits_taken xs taken ys ending bytes reaches) f

  pub session_answers : (left left' held held' : Option (List ℕ)) (s : ServesSession w left left' held held' a ending desk draws) → is_end_by_input ending ≡ true → AnswersInput s.transcript.replies left held held' ending
  session_answers left left' held held' s by = record {
    wrote = subst (λ (x : List ℕ). Appends held held' x) (sym (written_at_end s.transcript.rest s.transcript.replies s.written ending s.transcript.ends by)) s.wrote;
    as_read = read_as left left' s.taken s.written s.transcript s.bytes s.reaches by;
  }
