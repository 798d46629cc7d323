-- How serving a session goes on, and how it ends.
use Rattle.std.proofs.Common.{◌≡◌, ℕ, ◌+◌, ◌<◌, ◌≤◌, true, false, List, [], ◌∷◌, ◌++◌, length, take, Result, Err, Option, Some, None, refl, sym, ap, subst, ◌∙◌, inl, inr, MatchOption, arith, append_assoc, length-append}
use Rattle.std.specs.List.{flat_map, list_any, AllByRecursion}
use Rattle.std.specs.Io.KnownBytes.{Consumes, Appends}
use Rattle.std.proofs.lemmas.List.Concat.{flat_map-append, flat_map-cons}
use Rattle.std.proofs.lemmas.List.Folds.{list_any-append}
use Rattle.cj_session.proofs.Common.{append-nil, FrameFault, Message, most, OutError, Reply, reply_bytes, SessionEnd, WritesAll}
use Rattle.cj_outside.proofs.Joined.{consumes_none, consumes_then, appends_none, appends_then}
use Rattle.cj_model.specs.declared.message.Message.TheVariants as message
use Rattle.cj_cluster.specs.declared.session.SessionEnd.TheVariants as end
use Rattle.cj_model.specs.Wire.Frames.{frame, IsFramed}
use Rattle.cj_cluster.specs.Wire.Sessions.{is_quit}
use Rattle.cj_desk.specs.SessionTranscripts.{SessionSetting, ClientState, MessageExchange, MessageExchanges, TranscriptSoFar, AwaitsMore, IsFaultyRest, IsWrittenWhole, IsCutShort, IsCutTranscript, EndsTranscript, bad_frame_reply, LeavesDesk}
use Rattle.cj_session.specs.Serving.{ReachesEnd, ServesSession}
use Rattle.cj_session.specs.Proving.Points.{SessionPoint, ServesUpTo, ServesToEnd, RefusesFrame, TakesPiece, FillsFeed, ExchangesMessage}

-- ---- lists of exchanges

exchanges_then : {S D : Type 0} (w : SessionSetting S D) (a b c : ClientState S D) (ms ns : List Message) (rs qs : List Reply)
    → MessageExchanges w a ms rs b → MessageExchanges w b ns qs c → MessageExchanges w a (ms ++ ns) (rs ++ qs) c
exchanges_then {S} {D} w a b c [] ns [] qs first second = subst (λ (x : ClientState S D). MessageExchanges w x ns qs c) first second
exchanges_then w a b c [] ns (r ∷ rs) qs first second = absurd first
exchanges_then w a b c (m ∷ ms) ns [] qs first second = absurd first
exchanges_then w a b c (m ∷ ms) ns (r ∷ rs) qs first second = (first.0, first.1, exchanges_then w first.0 b c ms ns rs qs first.2 second)

framed_then : (ms ns : List Message) → AllByRecursion IsFramed ms → AllByRecursion IsFramed ns → AllByRecursion IsFramed (ms ++ ns)
framed_then [] ns first second = second
framed_then (m ∷ ms) ns first second = (first.0, framed_then ms ns first.1 second)

quits_then : (ms ns : List Message) → list_any is_quit ms ≡ false → list_any is_quit ns ≡ false → list_any is_quit (ms ++ ns) ≡ false
quits_then ms ns first second = list_any-append is_quit ms ns ∙ rw (first, second) refl

-- the replies of two parts, one after the other
bytes_then : (rs qs : List Reply) → flat_map reply_bytes (rs ++ qs) ≡ flat_map reply_bytes rs ++ flat_map reply_bytes qs
bytes_then rs qs = flat_map-append reply_bytes rs qs

bytes_one : (r : Reply) → flat_map reply_bytes (r ∷ []) ≡ reply_bytes r
bytes_one r = flat_map-cons reply_bytes r [] ∙ append-nil (reply_bytes r)

frame_one : (m : Message) → flat_map frame (m ∷ []) ≡ frame m
frame_one m = flat_map-cons frame m [] ∙ append-nil (frame m)

-- a frame has five bytes at least
frame_five : (m : Message) → 5 ≤ length (frame m)
frame_five (message.Login user password) = omega arith
frame_five (message.Query text) = omega arith
frame_five message.Stats = omega arith
frame_five message.Quit = omega arith

-- ---- a session so far

so_far_none : {S D : Type 0} (w : SessionSetting S D) (a z : ClientState S D) (bytes : List ℕ) → z ≡ a → TranscriptSoFar w a bytes bytes [] z
so_far_none w a z bytes same = record { messages = []; whole = refl; each = tt; no_quit = refl; exchanges = same }

so_far_one : {S D : Type 0} (w : SessionSetting S D) (a z : ClientState S D) (bytes rest : List ℕ) (m : Message) (r : Reply)
    → bytes ≡ frame m ++ rest → IsFramed m → is_quit m ≡ false → MessageExchange w a m r z → TranscriptSoFar w a (bytes ++ []) rest (r ∷ []) z
so_far_one w a z bytes rest m r is framed goes_on exchange =
    record {
      messages = m ∷ [];
      whole = append-nil bytes ∙ is ∙ ap (λ (x : List ℕ). x ++ rest) (sym (frame_one m));
      each = (framed, tt);
      no_quit = rw goes_on refl;
      exchanges = (z, exchange, refl);
    }

so_far_then : {S D : Type 0} (w : SessionSetting S D) (a b c : ClientState S D) (front taken rest more last : List ℕ) (rs qs : List Reply)
    → TranscriptSoFar w a (front ++ taken) rest rs b → TranscriptSoFar w b (rest ++ more) last qs c → TranscriptSoFar w a (front ++ (taken ++ more)) last (rs ++ qs) c
so_far_then w a b c front taken rest more last rs qs first second =
    let ms : List Message = first.messages in
    let ns : List Message = second.messages in
    record {
      messages = ms ++ ns;
      whole = sym (append_assoc front taken more) ∙ ap (λ (x : List ℕ). x ++ more) first.whole ∙ append_assoc (flat_map frame ms) rest more
          ∙ ap (λ (x : List ℕ). flat_map frame ms ++ x) second.whole ∙ sym (append_assoc (flat_map frame ms) (flat_map frame ns) last)
          ∙ ap (λ (x : List ℕ). x ++ last) (sym (flat_map-append frame ms ns));
      each = framed_then ms ns first.each second.each;
      no_quit = quits_then ms ns first.no_quit second.no_quit;
      exchanges = exchanges_then w a b c ms ns rs qs first.exchanges second.exchanges;
    }

-- ---- ends, with replies before

whole_then : (rs qs : List Reply) (written : List ℕ) → IsWrittenWhole qs written → IsWrittenWhole (rs ++ qs) (flat_map reply_bytes rs ++ written)
whole_then rs qs written whole = ap (λ (x : List ℕ). flat_map reply_bytes rs ++ x) whole ∙ sym (bytes_then rs qs)

cut_then : (rs qs : List Reply) (written : List ℕ) → IsCutShort qs written → IsCutShort (rs ++ qs) (flat_map reply_bytes rs ++ written)
cut_then rs qs written cut =
    record {
      before = rs ++ cut.before;
      last = cut.last;
      are = ap (λ (x : List Reply). rs ++ x) cut.are ∙ sym (append_assoc rs cut.before (cut.last ∷ []));
      count = cut.count;
      short = cut.short;
      bytes = ap (λ (x : List ℕ). flat_map reply_bytes rs ++ x) cut.bytes ∙ sym (append_assoc (flat_map reply_bytes rs) (flat_map reply_bytes cut.before) (take cut.count (reply_bytes cut.last)))
          ∙ ap (λ (x : List ℕ). x ++ take cut.count (reply_bytes cut.last)) (sym (bytes_then rs cut.before));
    }

cut_talk_then : (rest : List ℕ) (rs qs : List Reply) (written : List ℕ) → IsCutTranscript rest qs written → IsCutTranscript rest (rs ++ qs) (flat_map reply_bytes rs ++ written)
cut_talk_then rest rs qs written (inl cut) = inl (cut_then rs qs written cut)
cut_talk_then rest rs qs written (inr (fault, faulty, cut)) =
    inr (fault, faulty, subst (λ (x : List Reply). IsCutShort x (flat_map reply_bytes rs ++ written)) (sym (append_assoc rs qs (bad_frame_reply fault ∷ []))) (cut_then rs (qs ++ bad_frame_reply fault ∷ []) written cut))

ends_then : (rest : List ℕ) (rs qs : List Reply) (written : List ℕ) (ending : SessionEnd) → EndsTranscript rest qs written ending → EndsTranscript rest (rs ++ qs) (flat_map reply_bytes rs ++ written) ending
ends_then rest rs qs written end.Quit ends = (ends.0, whole_then rs qs written ends.1)
ends_then rest rs qs written end.Eof ends = (ends.0, whole_then rs qs written ends.1)
ends_then rest rs qs written end.Cut ends = (ends.0, ends.1, whole_then rs qs written ends.2)
ends_then rest rs qs written (end.BadFrame fault) ends =
    (ends.0, subst (λ (x : List Reply). IsWrittenWhole x (flat_map reply_bytes rs ++ written)) (sym (append_assoc rs qs (bad_frame_reply fault ∷ []))) (whole_then rs (qs ++ bad_frame_reply fault ∷ []) written ends.1))
ends_then rest rs qs written end.ReadFault ends = (ends.0, whole_then rs qs written ends.1)
ends_then rest rs qs written end.WriteFault ends = cut_talk_then rest rs qs written ends
ends_then rest rs qs written end.Spent ends = (ends.0, whole_then rs qs written ends.1)
ends_then rest rs qs written end.NoMemory (inl whole) = inl (whole_then rs qs written whole)
ends_then rest rs qs written end.NoMemory (inr cut) = inr (cut_talk_then rest rs qs written cut)

-- ---- a session goes on

pub serves_start : {S D : Type 0} (w : SessionSetting S D) (p : SessionPoint S D) → p.count ≤ most → ServesUpTo w p p
serves_start w p few =
    record {
      taken = [];
      replies = [];
      bytes = consumes_none p.left;
      count_is = omega arith;
      few = few;
      wrote = appends_none p.held;
      so_far = record { messages = []; whole = append-nil p.rest; each = tt; no_quit = refl; exchanges = refl };
      paid = omega arith;
    }

pub serves_then : {S D : Type 0} (w : SessionSetting S D) (p q r : SessionPoint S D) → ServesUpTo w p q → ServesUpTo w q r → ServesUpTo w p r
serves_then w p q r a b =
    record {
      taken = a.taken ++ b.taken;
      replies = a.replies ++ b.replies;
      bytes = consumes_then p.left q.left r.left a.taken b.taken a.bytes b.bytes;
      count_is = omega (arith, a.count_is, b.count_is, length-append a.taken b.taken);
      few = b.few;
      wrote = subst (λ (x : List ℕ). Appends p.held r.held x) (sym (bytes_then a.replies b.replies)) (appends_then p.held q.held r.held (flat_map reply_bytes a.replies) (flat_map reply_bytes b.replies) a.wrote b.wrote);
      so_far = so_far_then w p.client q.client r.client p.rest a.taken q.rest b.taken r.rest a.replies b.replies a.so_far b.so_far;
      paid = omega (arith, a.paid, b.paid, length-append a.taken b.taken);
    }

pub serves_to_end_then : {S D : Type 0} (w : SessionSetting S D) (p q : SessionPoint S D) (left held : Option (List ℕ)) (ending : SessionEnd) (z : ClientState S D) → ServesUpTo w p q → ServesToEnd w q left held ending z → ServesToEnd w p left held ending z
serves_to_end_then w p q left held ending z a b =
    let count : q.count + length b.taken ≡ p.count + length (a.taken ++ b.taken) = omega (arith, a.count_is, length-append a.taken b.taken) in
    record {
      taken = a.taken ++ b.taken;
      written = flat_map reply_bytes a.replies ++ b.written;
      rest = b.rest;
      replies = a.replies ++ b.replies;
      bytes = consumes_then p.left q.left left a.taken b.taken a.bytes b.bytes;
      reaches = subst (λ (n : ℕ). ReachesEnd left n ending) count b.reaches;
      wrote = appends_then p.held q.held held (flat_map reply_bytes a.replies) b.written a.wrote b.wrote;
      so_far = so_far_then w p.client q.client z p.rest a.taken q.rest b.taken b.rest a.replies b.replies a.so_far b.so_far;
      ends = ends_then b.rest a.replies b.replies b.written ending b.ends;
    }

-- ---- one step

-- a message more has its reply
pub answered : {S D : Type 0} (w : SessionSetting S D) (p q : SessionPoint S D) (m : Message) (r : Reply)
    → p.rest ≡ frame m ++ q.rest → IsFramed m → is_quit m ≡ false → q.left ≡ p.left → q.count ≡ p.count → p.count ≤ most
    → (w.state_of q.client.desk).requests ≤ (w.state_of p.client.desk).requests + 1
    → MessageExchange w p.client m r q.client → Appends p.held q.held (reply_bytes r) → ServesUpTo w p q
answered w p q m r is framed goes_on left count few queries exchange wrote =
    record {
      taken = [];
      replies = r ∷ [];
      bytes = subst (λ (x : Option (List ℕ)). Consumes p.left x []) (sym left) (consumes_none p.left);
      count_is = omega (arith, count);
      few = omega (arith, count, few);
      wrote = subst (λ (x : List ℕ). Appends p.held q.held x) (sym (bytes_one r)) wrote;
      so_far = so_far_one w p.client q.client p.rest q.rest m r is framed goes_on exchange;
      paid = omega (arith, queries, frame_five m, ap length is, length-append (frame m) q.rest);
    }

-- a piece more was taken
pub took : {S D : Type 0} (w : SessionSetting S D) (p q : SessionPoint S D) (piece : List ℕ) → TakesPiece p.left q.left p.rest q.rest p.count q.count piece → q.client ≡ p.client → q.held ≡ p.held → ServesUpTo w p q
took {S} {D} w p q piece t unmoved held =
    record {
      taken = piece;
      replies = [];
      bytes = t.bytes;
      count_is = t.count_is;
      few = t.few;
      wrote = subst (λ (x : Option (List ℕ)). Appends p.held x []) (sym held) (appends_none p.held);
      so_far = record { messages = []; whole = sym t.holds; each = tt; no_quit = refl; exchanges = unmoved };
      paid = omega (arith, ap (λ (x : ClientState S D). (w.state_of x.desk).requests) unmoved, ap length t.holds, length-append p.rest piece);
    }

-- ---- the end

-- it ends with no reply more
pub ended : {S D : Type 0} (w : SessionSetting S D) (p : SessionPoint S D) (left held : Option (List ℕ)) (ending : SessionEnd) (z : ClientState S D) (piece : List ℕ)
    → Consumes p.left left piece → held ≡ p.held → z ≡ p.client → ReachesEnd left (p.count + length piece) ending → EndsTranscript (p.rest ++ piece) [] [] ending → ServesToEnd w p left held ending z
ended w p left held ending z piece bytes same unmoved reaches ends =
    record {
      taken = piece;
      written = [];
      rest = p.rest ++ piece;
      replies = [];
      bytes = bytes;
      reaches = reaches;
      wrote = subst (λ (x : Option (List ℕ)). Appends p.held x []) (sym same) (appends_none p.held);
      so_far = so_far_none w p.client z (p.rest ++ piece) unmoved;
      ends = ends;
    }

-- at a Quit
pub ended_quit : {S D : Type 0} (w : SessionSetting S D) (p : SessionPoint S D) (left held : Option (List ℕ)) (z : ClientState S D) (m : Message) (more : List ℕ)
    → left ≡ p.left → held ≡ p.held → z ≡ p.client → p.count ≤ most → is_quit m ≡ true → p.rest ≡ frame m ++ more → ServesToEnd w p left held end.Quit z
ended_quit w p left held z (message.Login user password) more l h s few quit is = absurd cc
ended_quit w p left held z (message.Query text) more l h s few quit is = absurd cc
ended_quit w p left held z message.Stats more l h s few quit is = absurd cc
ended_quit w p left held z message.Quit more l h s few quit is =
    ended w p left held end.Quit z [] (subst (λ (x : Option (List ℕ)). Consumes p.left x []) (sym l) (consumes_none p.left)) h s (omega (arith, few)) ((more, append-nil p.rest ∙ is), refl)

-- where no piece came
pub ended_filling : {S D : Type 0} (w : SessionSetting S D) (p : SessionPoint S D) (left held : Option (List ℕ)) (rest : List ℕ) (count : ℕ) (ending : SessionEnd) (z : ClientState S D)
    → held ≡ p.held → z ≡ p.client → AwaitsMore p.rest → FillsFeed p.left left p.rest rest p.count count (Some ending) → ServesToEnd w p left held ending z
ended_filling w p left held rest count end.Quit z h s waits fills = absurd fills
ended_filling w p left held rest count end.Eof z h s waits fills =
    ended w p left held end.Eof z [] fills.0.bytes h s (fills.1, omega (arith, fills.3)) (append-nil p.rest ∙ fills.2, refl)
ended_filling w p left held rest count end.Cut z h s waits fills =
    ended w p left held end.Cut z [] fills.0.bytes h s (fills.1, omega (arith, fills.3))
    (subst AwaitsMore (sym (append-nil p.rest)) waits, (λ (e : p.rest ++ [] ≡ []). fills.2 (sym (append-nil p.rest) ∙ e)), refl)
ended_filling w p left held rest count (end.BadFrame fault) z h s waits fills = absurd fills
ended_filling w p left held rest count end.ReadFault z h s waits fills =
    ended w p left held end.ReadFault z [] fills.0.bytes h s (omega (arith, fills.1)) (subst AwaitsMore (sym (append-nil p.rest)) waits, refl)
ended_filling w p left held rest count end.WriteFault z h s waits fills = absurd fills
ended_filling w p left held rest count end.Spent z h s waits fills =
    ended w p left held end.Spent z [] fills.0.bytes h s (omega (arith, fills.1)) (subst AwaitsMore (sym (append-nil p.rest)) waits, refl)
ended_filling w p left held rest count end.NoMemory z h s waits fills =
    ended w p left held end.NoMemory z fills.0 fills.1 h s fills.2 (inl refl)

-- where no message was held a piece was taken, or none came
pub filled : {S D : Type 0} (w : SessionSetting S D) (p q : SessionPoint S D) (before : List ℕ) (result : Option SessionEnd) → before ≡ p.rest → q.client ≡ p.client → q.held ≡ p.held → AwaitsMore p.rest
    → FillsFeed p.left q.left before q.rest p.count q.count result → MatchOption result (ServesUpTo w p q) (λ (ending : SessionEnd). ServesToEnd w p q.left q.held ending q.client)
filled w p q before None same unmoved held waits fills =
    took w p q fills.0 (subst (λ (x : List ℕ). TakesPiece p.left q.left x q.rest p.count q.count fills.0) same fills.2) unmoved held
filled w p q before (Some ending) same unmoved held waits fills =
    ended_filling w p q.left q.held q.rest q.count ending q.client held unmoved waits (subst (λ (x : List ℕ). FillsFeed p.left q.left x q.rest p.count q.count (Some ending)) same fills)

-- what is written after the end of a session
with_bytes : {S D : Type 0} (w : SessionSetting S D) (p : SessionPoint S D) (left held : Option (List ℕ)) (ending : SessionEnd) (z : ClientState S D) (written : List ℕ)
    → left ≡ p.left → Appends p.held held written → z ≡ p.client → ReachesEnd left (p.count + 0) ending → EndsTranscript (p.rest ++ []) [] written ending → ServesToEnd w p left held ending z
with_bytes w p left held ending z written same wrote unmoved reaches ends =
    record {
      taken = [];
      written = written;
      rest = p.rest ++ [];
      replies = [];
      bytes = subst (λ (x : Option (List ℕ)). Consumes p.left x []) (sym same) (consumes_none p.left);
      reaches = reaches;
      wrote = wrote;
      so_far = so_far_none w p.client z (p.rest ++ []) unmoved;
      ends = ends;
    }

-- the refusal of a faulty frame alone, of which a front was written
refusal_cut : (rest : List ℕ) (fault : FrameFault) (count : ℕ) → count < length (reply_bytes (bad_frame_reply fault)) → IsFaultyRest rest fault → IsCutTranscript rest [] (take count (reply_bytes (bad_frame_reply fault)))
refusal_cut rest fault count short faulty = inr (fault, faulty, record { before = []; last = bad_frame_reply fault; are = refl; count = count; short = short; bytes = refl })

-- at a faulty frame
pub ended_faulty : {S D : Type 0} (w : SessionSetting S D) (p : SessionPoint S D) (left held : Option (List ℕ)) (fault : FrameFault) (ending : SessionEnd) (z : ClientState S D)
    → left ≡ p.left → z ≡ p.client → p.count ≤ most → IsFaultyRest p.rest fault → RefusesFrame p.held held fault ending → ServesToEnd w p left held ending z
ended_faulty w p left held fault end.Quit z l s few faulty refuses = absurd refuses
ended_faulty w p left held fault end.Eof z l s few faulty refuses = absurd refuses
ended_faulty w p left held fault end.Cut z l s few faulty refuses = absurd refuses
ended_faulty w p left held fault (end.BadFrame f) z l s few faulty refuses =
    let here : IsFaultyRest (p.rest ++ []) f = subst (λ (x : List ℕ). IsFaultyRest x f) (sym (append-nil p.rest)) (subst (λ (x : FrameFault). IsFaultyRest p.rest x) (sym refuses.0) faulty) in
    with_bytes w p left held (end.BadFrame f) z (reply_bytes (bad_frame_reply fault)) l refuses.1 s (omega (arith, few)) (here, ap (λ (x : FrameFault). reply_bytes (bad_frame_reply x)) (sym refuses.0) ∙ sym (bytes_one (bad_frame_reply f)))
ended_faulty w p left held fault end.ReadFault z l s few faulty refuses = absurd refuses
ended_faulty w p left held fault end.WriteFault z l s few faulty refuses =
    with_bytes w p left held end.WriteFault z (take refuses.0 (reply_bytes (bad_frame_reply fault))) l refuses.2 s (omega (arith, few)) (refusal_cut (p.rest ++ []) fault refuses.0 refuses.1 (subst (λ (x : List ℕ). IsFaultyRest x fault) (sym (append-nil p.rest)) faulty))
ended_faulty w p left held fault end.Spent z l s few faulty refuses = absurd refuses
ended_faulty w p left held fault end.NoMemory z l s few faulty refuses =
    with_bytes w p left held end.NoMemory z (take refuses.0 (reply_bytes (bad_frame_reply fault))) l refuses.2 s (omega (arith, few)) (inr (refusal_cut (p.rest ++ []) fault refuses.0 refuses.1 (subst (λ (x : List ℕ). IsFaultyRest x fault) (sym (append-nil p.rest)) faulty)))

-- where a reply was cut short
cut_exchange : {S D : Type 0} (w : SessionSetting S D) (p : SessionPoint S D) (left held : Option (List ℕ)) (ending : SessionEnd) (z : ClientState S D) (rest : List ℕ) (m : Message) (r : Reply) (count : ℕ)
    → left ≡ p.left → ReachesEnd left (p.count + 0) ending → p.rest ≡ frame m ++ rest → IsFramed m → is_quit m ≡ false → MessageExchange w p.client m r z
    → count < length (reply_bytes r) → Appends p.held held (take count (reply_bytes r)) → (IsCutTranscript rest (r ∷ []) (take count (reply_bytes r)) → EndsTranscript rest (r ∷ []) (take count (reply_bytes r)) ending)
    → ServesToEnd w p left held ending z
cut_exchange w p left held ending z rest m r count same reaches is framed goes_on exchange short wrote how =
    record {
      taken = [];
      written = take count (reply_bytes r);
      rest = rest;
      replies = r ∷ [];
      bytes = subst (λ (x : Option (List ℕ)). Consumes p.left x []) (sym same) (consumes_none p.left);
      reaches = reaches;
      wrote = wrote;
      so_far = so_far_one w p.client z p.rest rest m r is framed goes_on exchange;
      ends = how (inl (record { before = []; last = r; are = refl; count = count; short = short; bytes = refl }));
    }

pub ended_failed : {S D : Type 0} (w : SessionSetting S D) (p : SessionPoint S D) (left held : Option (List ℕ)) (z : ClientState S D) (rest : List ℕ) (m : Message) (result : Result (Unit {0}) OutError) (e : OutError)
    → left ≡ p.left → p.count ≤ most → p.rest ≡ frame m ++ rest → IsFramed m → is_quit m ≡ false → result ≡ Err e → ExchangesMessage w p.held held p.client m z result
    → ServesToEnd w p left held end.WriteFault z
ended_failed w p left held z rest m result e same few is framed goes_on failed x =
    let wrote : WritesAll p.held held (reply_bytes x.sent) (Err e) = subst (λ (y : Result (Unit {0}) OutError). WritesAll p.held held (reply_bytes x.sent) y) failed x.wrote in
    cut_exchange w p left held end.WriteFault z rest m x.sent wrote.0 same (omega (arith, few)) is framed goes_on x.exchange wrote.1 wrote.2 (λ (c : IsCutTranscript rest (x.sent ∷ []) (take wrote.0 (reply_bytes x.sent))). c)

pub ended_starved : {S D : Type 0} (w : SessionSetting S D) (p : SessionPoint S D) (left held : Option (List ℕ)) (z : ClientState S D) (rest : List ℕ) (m : Message) (result : Result (Unit {0}) OutError) (e : OutError)
    → left ≡ p.left → p.count ≤ most → p.rest ≡ frame m ++ rest → IsFramed m → is_quit m ≡ false → result ≡ Err e → ExchangesMessage w p.held held p.client m z result
    → ServesToEnd w p left held end.NoMemory z
ended_starved w p left held z rest m result e same few is framed goes_on failed x =
    let wrote : WritesAll p.held held (reply_bytes x.sent) (Err e) = subst (λ (y : Result (Unit {0}) OutError). WritesAll p.held held (reply_bytes x.sent) y) failed x.wrote in
    cut_exchange w p left held end.NoMemory z rest m x.sent wrote.0 same (omega (arith, few)) is framed goes_on x.exchange wrote.1 wrote.2 (λ (c : IsCutTranscript rest (x.sent ∷ []) (take wrote.0 (reply_bytes x.sent))). inr c)

-- ---- a session

pub served : {S D : Type 0} (w : SessionSetting S D) (p : SessionPoint S D) (left held : Option (List ℕ)) (ending : SessionEnd) (z : ClientState S D) (desk : S)
    → p.rest ≡ [] → p.count ≡ 0 → ServesToEnd w p left held ending z → LeavesDesk w.state_of w.leads_to z.user z.desk desk → ServesSession w p.left left p.held held p.client ending desk z.draws
served w p left held ending z desk none zero_count t leaves =
    let count : p.count + length t.taken ≡ length t.taken = omega (arith, zero_count) in
    record {
      taken = t.taken;
      written = t.written;
      bytes = t.bytes;
      reaches = subst (λ (n : ℕ). ReachesEnd left n ending) count t.reaches;
      wrote = t.wrote;
      transcript =
          record {
            rest = t.rest;
            replies = t.replies;
            last = z;
            so_far = subst (λ (x : List ℕ). TranscriptSoFar w p.client (x ++ t.taken) t.rest t.replies z) none t.so_far;
            ends = t.ends;
            leaves = leaves;
            draws_are = refl;
          };
    }
