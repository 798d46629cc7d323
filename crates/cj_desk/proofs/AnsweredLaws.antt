-- The messages of a transcript are the reading of the bytes taken, up to the first Quit.
use Rattle.std.proofs.Common.{◌≡◌, ℕ, true, false, List, [], ◌∷◌, ◌++◌, length, refl, sym, ap, subst, ◌∙◌, arith, lit≤, append_assoc, length-append}
use Rattle.std.specs.List.{flat_map, list_any, AllByRecursion}
use Rattle.std.proofs.lemmas.Bool.{or_parts}
use Rattle.std.proofs.lemmas.List.Concat.{flat_map-cons}
use Rattle.cj_model.specs.declared.message.Message.{Message}
use Rattle.cj_model.specs.declared.message.Message.TheVariants as message
use Rattle.cj_model.specs.Wire.Frames.{frame, IsFramed, BeginsNoFrame, Frames}
use Rattle.cj_model.proofs.OneReading.{frame_same}
use Rattle.cj_cluster.specs.declared.session.SessionEnd.{SessionEnd}
use Rattle.cj_cluster.specs.declared.session.SessionEnd.TheVariants as end
use Rattle.cj_model.specs.declared.answer.Reply.{Reply}
use Rattle.cj_cluster.specs.Wire.Sessions.{is_quit, answered_messages}
use Rattle.cj_desk.specs.SessionTranscripts.{SessionSetting, ClientState, EndsTranscript, SessionTranscript}
use Rattle.cj_desk.specs.AnsweredMessages.{is_whole_end, AreAnsweredMessages}

-- the first frame, and all that follows it
first : (m : Message) (ms : List Message) (rest : List ℕ) → flat_map frame (m ∷ ms) ++ rest ≡ frame m ++ (flat_map frame ms ++ rest)
first m ms rest = ap (λ (t : List ℕ). t ++ rest) (flat_map-cons frame m ms) ∙ append_assoc (frame m) (flat_map frame ms) rest

-- the messages are a front of the reading, and the frames of the others stand in the rest
pub record IsFront (messages ms : List Message) (rest last : List ℕ) : Type 0 where
  pub others : List Message
  pub are : ms ≡ messages ++ others
  pub each : AllByRecursion IsFramed others
  pub rest_is : rest ≡ flat_map frame others ++ last

-- messages whose frames begin the bytes are a front of the bytes' reading
pub front_of_reading : (messages ms : List Message) (rest last : List ℕ) → flat_map frame messages ++ rest ≡ flat_map frame ms ++ last → AllByRecursion IsFramed messages → AllByRecursion IsFramed ms → BeginsNoFrame last
    → IsFront messages ms rest last
front_of_reading [] ms rest last e p q stops = record { others = ms; are = refl; each = q; rest_is = e }
front_of_reading (m ∷ messages) [] rest last e p q stops = absurd (stops m (flat_map frame messages ++ rest) p.0 (sym e ∙ first m messages rest))
front_of_reading (m ∷ messages) (n ∷ ms) rest last e p q stops =
    let both = frame_same m n (flat_map frame messages ++ rest) (flat_map frame ms ++ last) p.0 q.0 (sym (first m messages rest) ∙ e ∙ first n ms last) in
    let later = front_of_reading messages ms rest last both.1 p.1 q.1 stops in
    record {
      others = later.others;
      are = ap (λ (x : Message). x ∷ ms) (sym both.0) ∙ ap (λ (xs : List Message). m ∷ xs) later.are;
      each = later.each;
      rest_is = later.rest_is;
    }

answered_messages_then : (messages others : List Message) → list_any is_quit messages ≡ false → answered_messages (messages ++ others) ≡ messages ++ answered_messages others
answered_messages_then [] others none = refl
answered_messages_then (m ∷ messages) others none =
    let parts = or_parts (is_quit m) (list_any is_quit messages) none in
    rw parts.0 (ap (λ (xs : List Message). m ∷ xs) (answered_messages_then messages others parts.1))

-- a rest that begins with no frame has none
no_others : (rest last : List ℕ) (others : List Message) → BeginsNoFrame rest → AllByRecursion IsFramed others → rest ≡ flat_map frame others ++ last → others ≡ []
no_others rest last [] stops each is = refl
no_others rest last (m ∷ others) stops each is = absurd (stops m (flat_map frame others ++ last) each.0 (is ∙ first m others last))

-- a rest that begins with a Quit
at_quit : (more rest last : List ℕ) (others : List Message) → BeginsNoFrame last → AllByRecursion IsFramed others → rest ≡ flat_map frame others ++ last → rest ≡ frame message.Quit ++ more → answered_messages others ≡ []
at_quit more rest last [] stops each is quit = absurd (stops message.Quit more (record { texts = tt; size = lit≤ tt }) (sym is ∙ quit))
at_quit more rest last (m ∷ others) stops each is quit =
    let both = frame_same m message.Quit (flat_map frame others ++ last) more each.0 (record { texts = tt; size = lit≤ tt }) (sym (first m others last) ∙ sym is ∙ quit) in
    rw both.0 refl

stops_nil : BeginsNoFrame []
stops_nil m more framed e = absurd (omega (arith, ap length e, length-append (frame m) more))

-- what stands behind the messages that were answered holds no message more, unless the session was cut short
none_left : (rest last written : List ℕ) (others : List Message) (replies : List Reply) (ending : SessionEnd) → BeginsNoFrame last → AllByRecursion IsFramed others → rest ≡ flat_map frame others ++ last
    → EndsTranscript rest replies written ending → is_whole_end ending ≡ true → answered_messages others ≡ []
none_left rest last written others replies end.Quit stops each is ends whole = at_quit ends.0.0 rest last others stops each is ends.0.1
none_left rest last written others replies end.Eof stops each is ends whole = ap answered_messages (no_others rest last others (subst BeginsNoFrame (sym ends.0) stops_nil) each is)
none_left rest last written others replies end.Cut stops each is ends whole = ap answered_messages (no_others rest last others ends.0.stops each is)
none_left rest last written others replies (end.BadFrame fault) stops each is ends whole = ap answered_messages (no_others rest last others ends.0.stops each is)
none_left rest last written others replies end.ReadFault stops each is ends whole = ap answered_messages (no_others rest last others ends.0.stops each is)
none_left rest last written others replies end.WriteFault stops each is ends whole = absurd cc
none_left rest last written others replies end.Spent stops each is ends whole = ap answered_messages (no_others rest last others ends.0.stops each is)
none_left rest last written others replies end.NoMemory stops each is ends whole = absurd cc

pub transcript_answers : {S D : Type 0} (w : SessionSetting S D) (a : ClientState S D) (taken written : List ℕ) (ending : SessionEnd) (desk : S) (draws : D) (t : SessionTranscript w a taken written ending desk draws) (reading : List Message) (last : List ℕ)
    → Frames taken reading last → AreAnsweredMessages reading ending t.so_far.messages
transcript_answers w a taken written ending desk draws t reading last f =
    let front = front_of_reading t.so_far.messages reading t.rest last (sym t.so_far.whole ∙ f.whole) t.so_far.each f.each f.stops in
    record {
      others = answered_messages front.others;
      front = ap answered_messages front.are ∙ answered_messages_then t.so_far.messages front.others t.so_far.no_quit;
      all = none_left t.rest last written front.others t.replies ending f.stops front.each front.rest_is t.ends;
    }
