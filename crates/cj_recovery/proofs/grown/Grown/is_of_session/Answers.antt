use Rattle.std.proofs.Common.{rules, sym, subst}
use Rattle.cj_recovery.proofs.Common.{FitsTx, SessionSoFar, both_ways, log}
use Rattle.cj_recovery.proofs.KeptSessions.{as_known, from_known}
use Rattle.cj_recovery.proofs.grown.Grown.is_of_session.Goals as goal

pub returns-then-entry-session : goal.returns-then-entry-session
returns-then-entry-session c =
    let entries = log c.args.self.now.events.items in
    let e = c.args.entry.now in
    let sessions = c.args.self.now.sessions in (
      λ on. from_known entries e sessions c.requires.followed
          (record {
            session = (search rules, search rules);
            limit = search rules;
            newer = search rules;
            tx = subst (λ (x : SessionSoFar). FitsTx x.tx e.tx e.act) c.session-session.ensures (c.fits_tx.ensures.0 on);
          }),
      λ s. c.fits_tx.ensures.1 (subst (λ (x : SessionSoFar). FitsTx x.tx e.tx e.act) (sym c.session-session.ensures) (as_known entries e sessions c.requires.followed s).tx),
    )

pub returns-else-entry-session : goal.returns-else-entry-session
returns-else-entry-session c =
    let entries = log c.args.self.now.events.items in
    let e = c.args.entry.now in
    let sessions = c.args.self.now.sessions in (
      λ on. absurd (both_ways c.if-entry-le-REQUEST_LIMIT.value c.if-entry-session.false on),
      λ s. let own = as_known entries e sessions c.requires.followed s in search (rules, own.session.0, own.session.1, own.limit, own.newer),
    )
