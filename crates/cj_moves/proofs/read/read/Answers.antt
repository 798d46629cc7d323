use Rattle.std.proofs.Common.{◌≡◌, ℕ, Bool, true, false, cond, None, Some, Ok, Err, refl, ap, sym, ◌∙◌, subst, arith}
use Rattle.cj_moves.proofs.Cited.{AskError, Asks, Core, HasNoOtherRead, HaveFailed, AskedUnderLogin, Moved, ReadFailed, RefusesOrStays, WorldState, answered, answers_blame_none, answers_log_in, armings_of, asked_core, asks_same, both_ways, can_read, failed, failed_asked, failures_blame, failures_log_in, faults_after, faults_of, is_behind, is_entry_of, is_out, is_waiting, login_to_ask, logins_of, not_serving, open_above, open_tx, opened-same, read_number, session_at, tells_fault, tried_more, unnoted}
use Rattle.cj_moves.proofs.read.read.Goals as goal

pub has_bit-requires : goal.has_bit-requires
has_bit-requires g c =
    let few = c.legal.ensures.world.few in
    let within = c.requires.within in
    omega arith

pub refuse_read-requires-clause-idle : goal.refuse_read-requires-clause-idle
refuse_read-requires-clause-idle g c = (can_read c.args.state.now.core c.args.s c.args.b c.args.select c.requires.now).idle

pub give_answer-requires-clause-idle : goal.give_answer-requires-clause-idle
give_answer-requires-clause-idle g c =
    subst (λ (x : Core). is_waiting x c.args.s ≡ false) (sym c.in-Ok.ensures.core) (can_read c.args.state.now.core c.args.s c.args.b c.args.select c.requires.now).idle

pub refuse_or_stay-requires-clause-idle : goal.refuse_or_stay-requires-clause-idle
refuse_or_stay-requires-clause-idle g c =
    let core = subst (λ (e : AskError). c.ask.new.self.core ≡ asked_core c.args.state.now.core c.args.s c.args.b (Err e)) c.in-Err-Failed.field-0-is c.in-Err-Failed.ensures.core in
    subst (λ (x : Core). is_waiting x c.args.s ≡ false) (sym core)
    (ap (is_entry_of c.args.s) (opened-same c.args.state.now.core.history (ReadFailed c.args.s (read_number (session_at c.args.state.now.core c.args.s)) c.args.b) refl refl)
    ∙ (can_read c.args.state.now.core c.args.s c.args.b c.args.select c.requires.now).idle)

pub refuse_or_stay-requires-clause-since : goal.refuse_or_stay-requires-clause-since
refuse_or_stay-requires-clause-since g c =
    let core = subst (λ (e : AskError). c.ask.new.self.core ≡ asked_core c.args.state.now.core c.args.s c.args.b (Err e)) c.in-Err-Failed.field-0-is c.in-Err-Failed.ensures.core in
    let above = open_above c.args.state.now.core c.args.s c.legal.ensures.world.sound (can_read c.args.state.now.core c.args.s c.args.b c.args.select c.requires.now).here in
    subst (λ (x : Core). HaveFailed x c.args.s c.tried_with-tried.result) (sym core)
    (rw c.tried_with-tried.ensures (tried_more c.args.state.now.core c.args.s c.args.b (read_number (session_at c.args.state.now.core c.args.s)) c.args.select above refl c.legal.ensures.world.between))

pub refuse_unnoted-requires-clause-idle : goal.refuse_unnoted-requires-clause-idle
refuse_unnoted-requires-clause-idle g c =
    let core = subst (λ (e : AskError). c.ask.new.self.core ≡ asked_core c.args.state.now.core c.args.s c.args.b (Err e)) c.in-Err-Unnoted.field-0-is c.in-Err-Unnoted.ensures.core in
    subst (λ (x : Core). is_waiting x c.args.s ≡ false) (sym core) (can_read c.args.state.now.core c.args.s c.args.b c.args.select c.requires.now).idle

pub wait-requires-clause-idle : goal.wait-requires-clause-idle
wait-requires-clause-idle g c =
    let core = subst (λ (e : AskError). c.ask.new.self.core ≡ asked_core c.args.state.now.core c.args.s c.args.b (Err e)) c.in-Err-Out.field-0-is c.in-Err-Out.ensures.core in
    subst (λ (x : Core). is_waiting x c.args.s ≡ false) (sym core) (can_read c.args.state.now.core c.args.s c.args.b c.args.select c.requires.now).idle

pub wait-requires-in-Err-Behind-clause-idle : goal.wait-requires-in-Err-Behind-clause-idle
wait-requires-in-Err-Behind-clause-idle g c =
    let core = subst (λ (e : AskError). c.ask.new.self.core ≡ asked_core c.args.state.now.core c.args.s c.args.b (Err e)) c.in-Err-Behind.field-0-is c.in-Err-Behind.ensures.core in
    subst (λ (x : Core). is_waiting x c.args.s ≡ false) (sym core) (can_read c.args.state.now.core c.args.s c.args.b c.args.select c.requires.now).idle

pub returns-then-not-has_bit-clause-moves : goal.returns-then-not-has_bit-clause-moves
returns-then-not-has_bit-clause-moves g c =
    let same : HasNoOtherRead (session_at c.args.state.now.core c.args.s) c.args.select = c.if-reads_other.ensures in
    not_serving g.B.Backend.tells c.args.state.now.core c.args.s c.args.b c.args.select same c.serving-serving.result c.serving-serving.type_inv c.if-serving-eq0.false c.serving-serving.ensures.mask
    (λ serves. both_ways c.has_bit.result c.if-not-has_bit.true (c.has_bit.ensures ∙ (c.serving-serving.ensures.mask c.args.b).0 serves))

pub returns-in-Ok-clause-moves : goal.returns-in-Ok-clause-moves
returns-in-Ok-clause-moves g c =
    let same : HasNoOtherRead (session_at c.args.state.now.core c.args.s) c.args.select = c.if-reads_other.ensures in
    answered g.B.Backend.tells c.args.state.now.core c.args.s c.args.b c.args.select same ((c.serving-serving.ensures.mask c.args.b).1 (sym c.has_bit.ensures ∙ c.if-not-has_bit.false)) c.in-Ok.answer c.in-Ok.position c.ask.new.self.core c.give_answer.new.state.core
    c.give_answer.result (subst (λ (t : ℕ). Asks g.B.Backend.tells c.args.state.now.core c.args.s c.args.b t c.args.select (Ok (c.in-Ok.answer, c.in-Ok.position))) c.open_tx-tx.ensures c.in-Ok.ensures.asks) c.in-Ok.ensures.core (ap (λ (w : WorldState). w.core) c.give_answer.ensures.ok) c.give_answer.ensures.moved

pub returns-in-Ok-clause-causes : goal.returns-in-Ok-clause-causes
returns-in-Ok-clause-causes g c =
    let blames : tells_fault (Ok c.give_answer.result) ≡ false = ap (λ (m : Moved). tells_fault (Ok m)) c.give_answer.ensures.moved ∙ answers_blame_none c.in-Ok.answer c.in-Ok.ensures.asks.3 in
    ap (λ (w : WorldState). faults_of w.cells) c.give_answer.ensures.ok ∙ (c.in-Ok.ensures.counts ∙ ap (λ (failed : Bool). faults_after (faults_of c.args.state.now.cells) (cond failed (Some c.args.b) None)) (sym blames))

pub returns-in-Err-Failed-clause-moves : goal.returns-in-Err-Failed-clause-moves
returns-in-Err-Failed-clause-moves g c =
    let same : HasNoOtherRead (session_at c.args.state.now.core c.args.s) c.args.select = c.if-reads_other.ensures in
    let asks = asks_same g.B.Backend.tells c.args.state.now.core c.args.s c.args.b c.args.select c.open_tx-tx.result (open_tx c.args.state.now.core c.args.s) _ _ c.open_tx-tx.ensures c.in-Err-Failed.field-0-is c.in-Err-Failed.ensures.asks in
    let core = subst (λ (e : AskError). c.ask.new.self.core ≡ asked_core c.args.state.now.core c.args.s c.args.b (Err e)) c.in-Err-Failed.field-0-is c.in-Err-Failed.ensures.core in
    failed g.B.Backend.tells c.args.state.now.core c.args.s c.args.b c.args.select same ((c.serving-serving.ensures.mask c.args.b).1 (sym c.has_bit.ensures ∙ c.if-not-has_bit.false)) c.ask.new.self.core c.refuse_or_stay.new.state.core c.refuse_or_stay.result c.serving-serving.result c.serving-serving.ensures.mask asks core
    (subst (λ (tried : ℕ). RefusesOrStays c.ask.new.self.core c.args.s c.args.select tried c.serving-serving.result c.refuse_or_stay.result c.refuse_or_stay.new.state.core) c.tried_with-tried.ensures c.refuse_or_stay.ensures.moves)

pub returns-in-Err-Failed-clause-causes : goal.returns-in-Err-Failed-clause-causes
returns-in-Err-Failed-clause-causes g c =
    let counts = subst (λ (e : AskError). faults_of c.ask.new.self.cells ≡ faults_after (faults_of c.args.state.now.cells) (failed_asked c.args.b (Err e))) c.in-Err-Failed.field-0-is c.in-Err-Failed.ensures.counts in
    let blames = failures_blame c.ask.new.self.core c.args.s c.args.select c.tried_with-tried.result c.serving-serving.result c.refuse_or_stay.result c.refuse_or_stay.new.state.core c.refuse_or_stay.ensures.moves in
    ap faults_of c.refuse_or_stay.ensures.cells ∙ (counts ∙ ap (λ (failed : Bool). faults_after (faults_of c.args.state.now.cells) (cond failed (Some c.args.b) None)) (sym blames))

pub returns-in-Err-Unnoted-clause-moves : goal.returns-in-Err-Unnoted-clause-moves
returns-in-Err-Unnoted-clause-moves g c =
    let same : HasNoOtherRead (session_at c.args.state.now.core c.args.s) c.args.select = c.if-reads_other.ensures in
    let asks = asks_same g.B.Backend.tells c.args.state.now.core c.args.s c.args.b c.args.select c.open_tx-tx.result (open_tx c.args.state.now.core c.args.s) _ _ c.open_tx-tx.ensures c.in-Err-Unnoted.field-0-is c.in-Err-Unnoted.ensures.asks in
    let core = subst (λ (e : AskError). c.ask.new.self.core ≡ asked_core c.args.state.now.core c.args.s c.args.b (Err e)) c.in-Err-Unnoted.field-0-is c.in-Err-Unnoted.ensures.core in
    unnoted g.B.Backend.tells c.args.state.now.core c.args.s c.args.b c.args.select same ((c.serving-serving.ensures.mask c.args.b).1 (sym c.has_bit.ensures ∙ c.if-not-has_bit.false)) c.in-Err-Unnoted.events c.ask.new.self.core c.refuse_unnoted.new.state.core c.refuse_unnoted.result asks core c.refuse_unnoted.ensures.moved
    (ap (λ (w : WorldState). w.core) c.refuse_unnoted.ensures.ok)

pub returns-in-Err-Unnoted-clause-causes : goal.returns-in-Err-Unnoted-clause-causes
returns-in-Err-Unnoted-clause-causes g c =
    let counts = subst (λ (e : AskError). faults_of c.ask.new.self.cells ≡ faults_after (faults_of c.args.state.now.cells) (failed_asked c.args.b (Err e))) c.in-Err-Unnoted.field-0-is c.in-Err-Unnoted.ensures.counts in
    let blames : tells_fault (Ok c.refuse_unnoted.result) ≡ true = ap (λ (m : Moved). tells_fault (Ok m)) c.refuse_unnoted.ensures.moved in
    ap (λ (w : WorldState). faults_of w.cells) c.refuse_unnoted.ensures.ok ∙ (counts ∙ ap (λ (failed : Bool). faults_after (faults_of c.args.state.now.cells) (cond failed (Some c.args.b) None)) (sym blames))

pub returns-in-Err-Out-clause-moves : goal.returns-in-Err-Out-clause-moves
returns-in-Err-Out-clause-moves g c =
    let same : HasNoOtherRead (session_at c.args.state.now.core c.args.s) c.args.select = c.if-reads_other.ensures in
    let asks = asks_same g.B.Backend.tells c.args.state.now.core c.args.s c.args.b c.args.select c.open_tx-tx.result (open_tx c.args.state.now.core c.args.s) _ _ c.open_tx-tx.ensures c.in-Err-Out.field-0-is c.in-Err-Out.ensures.asks in
    let core = subst (λ (e : AskError). c.ask.new.self.core ≡ asked_core c.args.state.now.core c.args.s c.args.b (Err e)) c.in-Err-Out.field-0-is c.in-Err-Out.ensures.core in
    is_out g.B.Backend.tells c.args.state.now.core c.args.s c.args.b c.args.select same ((c.serving-serving.ensures.mask c.args.b).1 (sym c.has_bit.ensures ∙ c.if-not-has_bit.false)) c.ask.new.self.core c.wait.new.state.core asks core (ap (λ (w : WorldState). w.core) c.wait.ensures)

pub returns-in-Err-Out-clause-causes : goal.returns-in-Err-Out-clause-causes
returns-in-Err-Out-clause-causes g c =
    let counts = subst (λ (e : AskError). faults_of c.ask.new.self.cells ≡ faults_after (faults_of c.args.state.now.cells) (failed_asked c.args.b (Err e))) c.in-Err-Out.field-0-is c.in-Err-Out.ensures.counts in
    ap (λ (w : WorldState). faults_of w.cells) c.wait.ensures ∙ counts

pub returns-in-Err-Behind-clause-moves : goal.returns-in-Err-Behind-clause-moves
returns-in-Err-Behind-clause-moves g c =
    let same : HasNoOtherRead (session_at c.args.state.now.core c.args.s) c.args.select = c.if-reads_other.ensures in
    let asks = asks_same g.B.Backend.tells c.args.state.now.core c.args.s c.args.b c.args.select c.open_tx-tx.result (open_tx c.args.state.now.core c.args.s) _ _ c.open_tx-tx.ensures c.in-Err-Behind.field-0-is c.in-Err-Behind.ensures.asks in
    let core = subst (λ (e : AskError). c.ask.new.self.core ≡ asked_core c.args.state.now.core c.args.s c.args.b (Err e)) c.in-Err-Behind.field-0-is c.in-Err-Behind.ensures.core in
    is_behind g.B.Backend.tells c.args.state.now.core c.args.s c.args.b c.args.select same ((c.serving-serving.ensures.mask c.args.b).1 (sym c.has_bit.ensures ∙ c.if-not-has_bit.false)) c.in-Err-Behind.position c.ask.new.self.core
    c.wait-in-Err-Behind.new.state.core asks core (ap (λ (w : WorldState). w.core) c.wait-in-Err-Behind.ensures)

pub returns-in-Err-Behind-clause-causes : goal.returns-in-Err-Behind-clause-causes
returns-in-Err-Behind-clause-causes g c =
    let counts = subst (λ (e : AskError). faults_of c.ask.new.self.cells ≡ faults_after (faults_of c.args.state.now.cells) (failed_asked c.args.b (Err e))) c.in-Err-Behind.field-0-is c.in-Err-Behind.ensures.counts in
    ap (λ (w : WorldState). faults_of w.cells) c.wait-in-Err-Behind.ensures ∙ counts

pub returns-in-Ok-clause-armings : goal.returns-in-Ok-clause-armings
returns-in-Ok-clause-armings g c = ap (λ (w : WorldState). armings_of w.cells) c.give_answer.ensures.ok ∙ c.ask.ensures.armings

pub returns-in-Err-Failed-clause-armings : goal.returns-in-Err-Failed-clause-armings
returns-in-Err-Failed-clause-armings g c = ap armings_of c.refuse_or_stay.ensures.cells ∙ c.ask.ensures.armings

pub returns-in-Err-Unnoted-clause-armings : goal.returns-in-Err-Unnoted-clause-armings
returns-in-Err-Unnoted-clause-armings g c = ap (λ (w : WorldState). armings_of w.cells) c.refuse_unnoted.ensures.ok ∙ c.ask.ensures.armings

pub returns-in-Err-Out-clause-armings : goal.returns-in-Err-Out-clause-armings
returns-in-Err-Out-clause-armings g c = ap (λ (w : WorldState). armings_of w.cells) c.wait.ensures ∙ c.ask.ensures.armings

pub returns-in-Err-Behind-clause-armings : goal.returns-in-Err-Behind-clause-armings
returns-in-Err-Behind-clause-armings g c = ap (λ (w : WorldState). armings_of w.cells) c.wait-in-Err-Behind.ensures ∙ c.ask.ensures.armings

pub returns-in-Ok-clause-logins : goal.returns-in-Ok-clause-logins
returns-in-Ok-clause-logins g c =
    let same : logins_of c.give_answer.new.state.cells ≡ logins_of c.ask.new.self.cells = ap (λ (w : WorldState). logins_of w.cells) c.give_answer.ensures.ok in
    rw (same, c.give_answer.ensures.moved)
    (answers_log_in c.args.b (login_to_ask c.args.state.now c.args.s c.args.b) c.in-Ok.answer (logins_of c.args.state.now.cells) (logins_of c.ask.new.self.cells) c.in-Ok.ensures.logins)

pub returns-in-Err-Failed-clause-logins : goal.returns-in-Err-Failed-clause-logins
returns-in-Err-Failed-clause-logins g c =
    let logs = subst (λ (e : AskError). AskedUnderLogin c.args.b (login_to_ask c.args.state.now c.args.s c.args.b) (Err e) (logins_of c.args.state.now.cells) (logins_of c.ask.new.self.cells)) c.in-Err-Failed.field-0-is c.in-Err-Failed.ensures.logins in
    rw c.refuse_or_stay.ensures.cells
    (failures_log_in c.args.b (login_to_ask c.args.state.now c.args.s c.args.b) c.ask.new.self.core c.args.s c.args.select c.tried_with-tried.result c.serving-serving.result c.refuse_or_stay.result c.refuse_or_stay.new.state.core
    (logins_of c.args.state.now.cells) (logins_of c.ask.new.self.cells) c.refuse_or_stay.ensures.moves logs)

pub returns-in-Err-Unnoted-clause-logins : goal.returns-in-Err-Unnoted-clause-logins
returns-in-Err-Unnoted-clause-logins g c =
    let logs = subst (λ (e : AskError). AskedUnderLogin c.args.b (login_to_ask c.args.state.now c.args.s c.args.b) (Err e) (logins_of c.args.state.now.cells) (logins_of c.ask.new.self.cells)) c.in-Err-Unnoted.field-0-is c.in-Err-Unnoted.ensures.logins in
    let same : logins_of c.refuse_unnoted.new.state.cells ≡ logins_of c.ask.new.self.cells = ap (λ (w : WorldState). logins_of w.cells) c.refuse_unnoted.ensures.ok in
    rw (same, c.refuse_unnoted.ensures.moved) logs

pub returns-in-Err-Out-clause-logins : goal.returns-in-Err-Out-clause-logins
returns-in-Err-Out-clause-logins g c =
    let logs = subst (λ (e : AskError). AskedUnderLogin c.args.b (login_to_ask c.args.state.now c.args.s c.args.b) (Err e) (logins_of c.args.state.now.cells) (logins_of c.ask.new.self.cells)) c.in-Err-Out.field-0-is c.in-Err-Out.ensures.logins in
    ap (λ (w : WorldState). logins_of w.cells) c.wait.ensures ∙ logs

pub returns-in-Err-Behind-clause-logins : goal.returns-in-Err-Behind-clause-logins
returns-in-Err-Behind-clause-logins g c =
    let logs = subst (λ (e : AskError). AskedUnderLogin c.args.b (login_to_ask c.args.state.now c.args.s c.args.b) (Err e) (logins_of c.args.state.now.cells) (logins_of c.ask.new.self.cells)) c.in-Err-Behind.field-0-is c.in-Err-Behind.ensures.logins in
    ap (λ (w : WorldState). logins_of w.cells) c.wait-in-Err-Behind.ensures ∙ logs
