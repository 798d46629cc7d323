use Rattle.std.proofs.Common.{true, false, Err, inl, inr, ap, sym, ◌∙◌, subst}
use Rattle.cj_calls.proofs.Cited.{AskError, Asks, Core, AskedUnderLogin, Refusal, Refused, WorldState, accounts_of, ask, asked_core, called_one, database_of, failed_asked, faults_after, faults_of, log, login_of, logins_of, not_behind, not_out, one_answered, one_failed, query_answered, query_failed, query_starved, query_unnoted, right_at_end}
use Rattle.cj_calls.proofs.read.attempt.Goals as goal

pub unreachable-requires : goal.unreachable-requires
unreachable-requires g c =
    not_out g.B.Backend.tells c.args.s c.args.b c.args.tx c.args.select.now c.args.state.now c.legal.ensures.world.sound c.requires.stands c.requires.serves
    (subst (λ (e : AskError). Asks g.B.Backend.tells c.args.state.now.core c.args.s c.args.b c.args.tx c.args.select.now (Err e)) c.in-Err-Out.field-0-is c.in-Err-Out.ensures.asks)

pub unreachable-requires-in-Err-Behind : goal.unreachable-requires-in-Err-Behind
unreachable-requires-in-Err-Behind g c =
    not_behind g.B.Backend.tells c.args.s c.args.b c.args.tx c.args.select.now c.args.state.now c.legal.ensures.world.sound c.requires.stands c.requires.serves c.in-Err-Behind.field-0-0
    (subst (λ (e : AskError). Asks g.B.Backend.tells c.args.state.now.core c.args.s c.args.b c.args.tx c.args.select.now (Err e)) c.in-Err-Behind.field-0-is c.in-Err-Behind.ensures.asks)

pub returns-in_default-clause-came : goal.returns-in_default-clause-came
returns-in_default-clause-came g c =
    let kept = c.in_default.ensures.ok in
    let answered =
    query_answered g.B.Backend.tells c.args.s c.args.b c.args.tx c.args.select.now c.args.state.now c.legal.ensures.world.sound c.requires.stands c.requires.serves c.in-Ok.answer c.in-Ok.position c.keep.new.state
    c.answer_read.new.self c.reply_of.result c.in-Ok.ensures.asks (ap (λ (w : WorldState). w.core) kept ∙ c.in-Ok.ensures.core) (ap (λ (w : WorldState). faults_of w.cells) kept ∙ c.in-Ok.ensures.counts) c.reply_of.ensures c.answer_read.ensures
    in
    let one = one_answered c.args.user.now c.args.b c.args.state.now c.ask.new.self c.in-Ok.ensures.answered c.in-Ok.ensures.logins c.in-Ok.ensures.others c.in-Ok.ensures.balance in
    inl (
      answered,
      called_one c.args.user.now c.args.b true c.args.state.now c.ask.new.self c.answer_read.new.self one
          (ap (λ (w : WorldState). w.cells) c.answer_read.ensures ∙ ap (λ (w : WorldState). w.cells) kept) (ap (λ (w : WorldState). w.balance) c.answer_read.ensures ∙ ap (λ (w : WorldState). w.balance) kept),
    )

pub returns-in-Err-clause-came : goal.returns-in-Err-clause-came
returns-in-Err-clause-came g c =
    let kept = c.in-Err.ensures.err in
    let one = one_answered c.args.user.now c.args.b c.args.state.now c.ask.new.self c.in-Ok.ensures.answered c.in-Ok.ensures.logins c.in-Ok.ensures.others c.in-Ok.ensures.balance in
    inr (inr (
      query_starved c.args.s c.args.state.now c.keep.new.state c.refuse.new.state c.refuse.result (ap (λ (w : WorldState). w.core) kept ∙ c.in-Ok.ensures.core) (ap (λ (w : WorldState). faults_of w.cells) kept ∙ c.in-Ok.ensures.counts)
          (c.refuse.ensures.reply ∙ ap (λ (r : Refusal). Refused r) c.of_code.ensures) c.refuse.ensures.counted,
      inl (called_one c.args.user.now c.args.b true c.args.state.now c.ask.new.self c.refuse.new.state one (ap (λ (w : WorldState). w.cells) c.refuse.ensures.counted ∙ ap (λ (w : WorldState). w.cells) kept)
          (ap (λ (w : WorldState). w.balance) c.refuse.ensures.counted ∙ ap (λ (w : WorldState). w.balance) kept)),
    ))

pub returns-in-Err-Failed-clause-came : goal.returns-in-Err-Failed-clause-came
returns-in-Err-Failed-clause-came g c =
    let asked = c.in-Err-Failed.ensures in
    let asks = subst (λ (e : AskError). Asks g.B.Backend.tells c.args.state.now.core c.args.s c.args.b c.args.tx c.args.select.now (Err e)) c.in-Err-Failed.field-0-is asked.asks in
    let core = asked.core ∙ ap (λ (e : AskError). asked_core c.args.state.now.core c.args.s c.args.b (Err e)) c.in-Err-Failed.field-0-is in
    let counts = asked.counts ∙ ap (λ (e : AskError). faults_after (faults_of c.args.state.now.cells) (failed_asked c.args.b (Err e))) c.in-Err-Failed.field-0-is in
    let logins = subst (λ (e : AskError). AskedUnderLogin c.args.b (login_of (accounts_of c.args.state.now) c.args.user.now c.args.b) (Err e) (logins_of c.args.state.now.cells) (logins_of c.ask.new.self.cells)) c.in-Err-Failed.field-0-is asked.logins in (
      query_failed g.B.Backend.tells c.args.s c.args.b c.args.tx c.args.select.now c.args.state.now c.legal.ensures.world.sound c.requires.stands c.requires.serves c.ask.new.self asks core c.legal-in-Err-Failed.ensures.world.sound counts,
      one_failed c.args.user.now c.args.b c.args.state.now c.ask.new.self asked.answered logins asked.others asked.balance,
    )

pub returns-in-Err-Unnoted-clause-came : goal.returns-in-Err-Unnoted-clause-came
returns-in-Err-Unnoted-clause-came g c =
    let asked = c.in-Err-Unnoted.ensures in
    let asks = subst (λ (e : AskError). Asks g.B.Backend.tells c.args.state.now.core c.args.s c.args.b c.args.tx c.args.select.now (Err e)) c.in-Err-Unnoted.field-0-is asked.asks in
    let core = asked.core ∙ ap (λ (e : AskError). asked_core c.args.state.now.core c.args.s c.args.b (Err e)) c.in-Err-Unnoted.field-0-is in
    let counts = asked.counts ∙ ap (λ (e : AskError). faults_after (faults_of c.args.state.now.cells) (failed_asked c.args.b (Err e))) c.in-Err-Unnoted.field-0-is in
    let logins = subst (λ (e : AskError). AskedUnderLogin c.args.b (login_of (accounts_of c.args.state.now) c.args.user.now c.args.b) (Err e) (logins_of c.args.state.now.cells) (logins_of c.ask.new.self.cells)) c.in-Err-Unnoted.field-0-is asked.logins in
    let after = c.refuse-in-Err-Unnoted.ensures.counted in
    let one = one_failed c.args.user.now c.args.b c.args.state.now c.ask.new.self asked.answered logins asked.others asked.balance in
    inr (inl (
      query_unnoted g.B.Backend.tells c.args.s c.args.b c.args.tx c.args.select.now c.args.state.now c.legal.ensures.world.sound c.requires.stands c.requires.serves c.in-Err-Unnoted.events c.ask.new.self c.refuse-in-Err-Unnoted.new.state c.refuse-in-Err-Unnoted.result asks core counts c.refuse-in-Err-Unnoted.ensures.reply after,
      called_one c.args.user.now c.args.b false c.args.state.now c.ask.new.self c.refuse-in-Err-Unnoted.new.state one (ap (λ (w : WorldState). w.cells) after) (ap (λ (w : WorldState). w.balance) after),
    ))

pub returns-in-Err-NoMemory-clause-came : goal.returns-in-Err-NoMemory-clause-came
returns-in-Err-NoMemory-clause-came g c =
    let same = c.in-Err-NoMemory.ensures.want (ap (λ (e : AskError). Err e) c.in-Err-NoMemory.field-0-is) in
    let after = c.refuse-in-Err-NoMemory.ensures.counted in
    inr (inr (
      query_starved c.args.s c.args.state.now c.ask.new.self c.refuse-in-Err-NoMemory.new.state c.refuse-in-Err-NoMemory.result (ap (λ (w : WorldState). w.core) same) (ap (λ (w : WorldState). faults_of w.cells) same)
          (c.refuse-in-Err-NoMemory.ensures.reply ∙ ap (λ (r : Refusal). Refused r) c.of_code-in-Err-NoMemory.ensures) after,
      inr (record { cells = ap (λ (w : WorldState). w.cells) after ∙ ap (λ (w : WorldState). w.cells) same; balance = ap (λ (w : WorldState). w.balance) after ∙ ap (λ (w : WorldState). w.balance) same }),
    ))

pub keep-requires-clause-right : goal.keep-requires-clause-right
keep-requires-clause-right g c = λ on.
    right_at_end g.B.Backend.tells c.args.s c.args.b c.args.tx c.args.select.now c.args.state.now c.legal.ensures.world.sound c.requires.stands c.requires.serves c.in-Ok.answer c.in-Ok.position c.in-Ok.ensures.asks on
    ∙ ap (λ (k : Core). ask (database_of (log k.history)) c.args.tx c.args.select.now) (sym c.in-Ok.ensures.core)
