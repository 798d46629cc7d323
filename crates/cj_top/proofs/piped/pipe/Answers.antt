use Rattle.std.proofs.Common.{◌≡◌, ◌≤◌, Result, Ok, Err, map, sym, ◌∙◌, subst}
use Rattle.cj_model.specs.declared.limits.TheConstants.{SESSION_NUMBER_LIMIT}
use Rattle.cj_top.specs.declared.piped.PipeError.TheVariants as errors
use Rattle.cj_top.proofs.Cited.{Found, IfErr, IfOk, IsLogOf, Layout, PipeError, RefusesPipe, Register, SessionEnd, StartsFrom, WorldState, keeps_front, placement_of, prefix_self, state_by}
use Rattle.cj_top.proofs.piped.pipe.Goals as goal

-- what is promised of a session that was served
served_at : {S : Type 0} {A : SessionEnd → WorldState → Type 0} {B : SessionEnd → WorldState → Type 0} (r : Result (SessionEnd × WorldState) (PipeError × S)) → IfOk r (λ x. A x.0 x.1)
    → ((ending : SessionEnd) (last : WorldState) → A ending last → B ending last) → IfOk r (λ x. B x.0 x.1)
served_at (Ok (ending, last)) a gives = gives ending last a
served_at (Err e) a gives = tt

-- a session that was not opened
refused_at : {S : Type 0} (A B Z : PipeError → S → Type 0) (r : Result (SessionEnd × WorldState) (PipeError × S)) → IfErr r (λ x. A x.0 x.1) → IfErr r (λ x. B x.0 x.1) → ((e : PipeError) (left : S) → A e left → B e left → Z e left) → IfErr r (λ x. Z x.0 x.1)
refused_at A B Z (Ok x) a b gives = tt
refused_at A B Z (Err (e, left)) a b gives = gives e left a b

pub returns-in-Err-clause-refused : goal.returns-in-Err-clause-refused
returns-in-Err-clause-refused g c = record { bytes = c.in-Err.ensures.bytes; cause = c.in-Err.ensures.cause }

pub serve_one-requires-clause-fresh : goal.serve_one-requires-clause-fresh
serve_one-requires-clause-fresh g c = c.in-Ok-start.ensures.started.started.sessions

pub serve_one-requires-clause-idle : goal.serve_one-requires-clause-idle
serve_one-requires-clause-idle g c = c.in-Ok-start.ensures.started.started.idle

pub returns-clause-served : goal.returns-clause-served
returns-clause-served g c =
    let first : WorldState = c.in-Ok-start.world in
    let setup : first.setup ≡ record { names = c.args.conf.placement.names; accounts = c.args.conf.accounts } =
    subst (λ (r : Register). first.setup ≡ record { names = c.args.conf.placement.names; accounts = r }) c.in-Ok.ensures.accounts
    (subst (λ (l : Layout). first.setup ≡ record { names = l.names; accounts = c.in-Ok.parts.accounts }) c.in-Ok.ensures.placement c.in-Ok-start.ensures.setup)
    in
    let starts = subst (λ (l : Layout). StartsFrom (Found g.S.Store.tells (g.S.Store.held c.args.log)) (placement_of l) (map (state_by g.B.Backend.told g.B.Backend.faults g.B.Backend.asks g.B.Backend.login g.B.Backend.arming) c.args.backends) first) c.in-Ok.ensures.placement c.in-Ok-start.ensures.started in
    served_at c.serve_one.result c.serve_one.ensures.serves
    (λ ending last serves. (
      first,
      starts,
      setup,
      c.in-Ok-start.ensures.cache ∙ c.in-Ok.ensures.cache,
      c.in-Ok-start.ensures.cause,
      serves,
    ))

pub returns-clause-refused : goal.returns-clause-refused
returns-clause-refused g c =
    let first : WorldState = c.in-Ok-start.world in
    let starts = subst (λ (l : Layout). StartsFrom (Found g.S.Store.tells (g.S.Store.held c.args.log)) (placement_of l) (map (state_by g.B.Backend.told g.B.Backend.faults g.B.Backend.asks g.B.Backend.login g.B.Backend.arming) c.args.backends) first) c.in-Ok.ensures.placement c.in-Ok-start.ensures.started in
    let s = g.S.Store in
    let p = placement_of c.args.conf.placement in
    let backends = map (state_by g.B.Backend.told g.B.Backend.faults g.B.Backend.asks g.B.Backend.login g.B.Backend.arming) c.args.backends in
    refused_at (λ e left. (e ≡ errors.SessionsFull) × (SESSION_NUMBER_LIMIT ≤ first.core.greatest)) (λ e left. IsLogOf s.faults s.held s.may s.tells first left) (λ e left. RefusesPipe s.faults s.held s.may s.tells c.args.log left p backends e)
    c.serve_one.result c.serve_one.ensures.full c.serve_one.ensures.left
    (λ e left full leaves.
    subst (λ (x : PipeError). RefusesPipe s.faults s.held s.may s.tells c.args.log left p backends x) (sym full.0)
    (record { first = first; starts = starts; last_given = full.1; goes_on = record { begins = c.in-Ok-start.ensures.cause; longer = keeps_front s.tells (s.held c.args.log) p backends first first starts (prefix_self first.core.history); leaves = leaves } }))
