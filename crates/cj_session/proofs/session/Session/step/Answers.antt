use Rattle.std.proofs.Common.{refl, sym, subst, inl, arith, [], ◌∙◌}
use Rattle.cj_session.proofs.Common.{consumes_none, FrameFault, RefusesFrame}
use Rattle.cj_session.proofs.Steps.{answered, ended, ended_quit, ended_faulty, ended_failed, ended_starved, filled}
use Rattle.cj_session.proofs.session.Session.step.Goals as goal

pub returns-then-is_quit-clause-goes : goal.returns-then-is_quit-clause-goes
returns-then-is_quit-clause-goes g c =
    let off = rw c.in-Ok-Some.field-0-is at c.in-Ok-Some.ensures in
    ended_quit _ _ _ _ _ c.in-Ok-Some.message c.next.new.self refl refl refl c.requires.few (sym c.is_quit.ensures ∙ c.if-is_quit.true) off.0

pub returns-in-Ok-clause-goes : goal.returns-in-Ok-clause-goes
returns-in-Ok-clause-goes g c =
    let off = rw c.in-Ok-Some.field-0-is at c.in-Ok-Some.ensures in
    let x = c.in-Ok.ensures.exchanged in
    answered _ _ _ c.in-Ok-Some.message x.sent off.0 off.1 (sym c.is_quit.ensures ∙ c.if-is_quit.false) refl refl c.requires.few c.exchange.ensures.requests x.exchange x.wrote

pub returns-in-Err-Failed-clause-goes : goal.returns-in-Err-Failed-clause-goes
returns-in-Err-Failed-clause-goes g c =
    let off = rw c.in-Ok-Some.field-0-is at c.in-Ok-Some.ensures in
    ended_failed _ _ _ _ _ c.next.new.self c.in-Ok-Some.message c.exchange.result c.in-Err-Failed.field-0 refl c.requires.few off.0 off.1 (sym c.is_quit.ensures ∙ c.if-is_quit.false) c.in-Err-Failed.is
    c.exchange.ensures.exchanged

pub returns-in-Err-NoMemory-exchange-clause-goes : goal.returns-in-Err-NoMemory-exchange-clause-goes
returns-in-Err-NoMemory-exchange-clause-goes g c =
    let off = rw c.in-Ok-Some.field-0-is at c.in-Ok-Some.ensures in
    ended_starved _ _ _ _ _ c.next.new.self c.in-Ok-Some.message c.exchange.result c.in-Err-NoMemory-exchange.field-0 refl c.requires.few off.0 off.1 (sym c.is_quit.ensures ∙ c.if-is_quit.false) c.in-Err-NoMemory-exchange.is
    c.exchange.ensures.exchanged

pub returns-in-Ok-None-clause-goes : goal.returns-in-Ok-None-clause-goes
returns-in-Ok-None-clause-goes g c =
    let off = rw c.in-Ok-None.field-0-is at c.in-Ok-None.ensures in
    filled _ _ _ c.next.new.self c.fill.result off.0 refl refl (record { stops = off.1; fine = off.2 }) c.fill.ensures.bytes

pub returns-in-Err-Fault-clause-goes : goal.returns-in-Err-Fault-clause-goes
returns-in-Err-Fault-clause-goes g c =
    let off = rw c.in-Err-Fault.field-0-is at c.in-Err-Fault.ensures in
    let held = g.O.Sink.held in
    let refuses = subst (λ (f : FrameFault). RefusesFrame (held c.args.output.now) (held c.refuse.new.output) f c.refuse.result) c.in-Err-Fault.fault-is c.refuse.ensures.bytes in
    ended_faulty _ _ _ _ c.in-Err-Fault.fault c.refuse.result _ refl refl c.requires.few (record { stops = off.1; fault_is = off.2 }) refuses

pub returns-in-Err-NoMemory-clause-goes : goal.returns-in-Err-NoMemory-clause-goes
returns-in-Err-NoMemory-clause-goes g c = ended _ _ _ _ _ _ [] (consumes_none _) refl refl (omega arith) (inl refl)
