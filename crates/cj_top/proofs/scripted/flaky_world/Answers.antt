use Rattle.std.proofs.Common.{◌≡◌, List, Result, Ok, Err, length, map, replicate, sym, ap, ◌∙◌, subst}
use Rattle.cj_top.proofs.Cited.{AreEmpty, BackendState, FlakyState, Found, HaveBegunNone, IfOk, Layout, Register, StartsFrom, WorldState, counted_start, flaky_count, flaky_empty, flaky_none, flaky_seen, new_backend, placement_of, refused_start, told_by}
use Rattle.cj_top.proofs.scripted.flaky_world.Goals as goal

pub start-requires-clause-as_many : goal.start-requires-clause-as_many
start-requires-clause-as_many g c =
    let b = g.B.Backend in
    ap length c.in-Ok.ensures
    ∙ (flaky_count b.told b.faults b.asks b.login b.arming b.begun b.tells (length c.args.conf.placement.names) c.args.backends c.requires.new
    ∙ ap (λ (l : Layout). length l.names) (sym c.in-Ok-parts_of.ensures.placement))

pub start-requires-clause-empty : goal.start-requires-clause-empty
start-requires-clause-empty g c =
    let b = g.B.Backend in
    subst (λ (xs : List (FlakyState g.row.B.Denot)). AreEmpty b.tells (map (told_by b.told) xs)) (sym c.in-Ok.ensures)
    (flaky_empty b.told b.faults b.asks b.login b.arming b.begun b.tells (length c.args.conf.placement.names) c.args.backends c.requires.new)

pub start-requires-clause-none : goal.start-requires-clause-none
start-requires-clause-none g c =
    let b = g.B.Backend in
    subst (λ (xs : List (FlakyState g.row.B.Denot)). HaveBegunNone (map (λ (f : FlakyState g.row.B.Denot). b.begun f.inner) xs)) (sym c.in-Ok.ensures)
    (flaky_none b.told b.faults b.asks b.login b.arming b.begun b.tells (length c.args.conf.placement.names) c.args.backends c.requires.new)

-- what a start leads to, by what it says of it
begins_so : {E : Type 0} {P Q R Z : WorldState → Type 0} (r : Result WorldState E) → IfOk r P → IfOk r Q → IfOk r R → ((w : WorldState) → P w → Q w → R w → Z w) → IfOk r Z
begins_so (Ok w) p q r gives = gives w p q r
begins_so (Err e) p q r gives = tt

pub returns-clause-begins : goal.returns-clause-begins
returns-clause-begins g c =
    let b = g.B.Backend in
    let found = Found g.S.Store.tells (g.S.Store.held c.args.log) in
    let parts = c.in-Ok-parts_of.parts in
    let seen =
    ap (map _) c.in-Ok.ensures ∙ flaky_seen b.told b.faults b.asks b.login b.arming b.begun b.tells (length c.args.conf.placement.names) c.args.backends c.requires.new
    in
    begins_so c.start.result c.start.ensures.started c.start.ensures.setup c.start.ensures.cache
    (λ w started set cached. record {
      setup =
          subst (λ (r : Register). w.setup ≡ record { names = c.args.conf.placement.names; accounts = r }) c.in-Ok-parts_of.ensures.accounts
          (subst (λ (l : Layout). w.setup ≡ record { names = l.names; accounts = parts.accounts }) c.in-Ok-parts_of.ensures.placement set);
      starts =
          subst (λ (l : Layout). StartsFrom found (placement_of l) (replicate (length c.args.conf.placement.names) (new_backend b.tells)) w) c.in-Ok-parts_of.ensures.placement
          (subst (λ (backends : List BackendState). StartsFrom found (placement_of parts.book.placement) backends w) seen started);
      cache = cached ∙ c.in-Ok-parts_of.ensures.cache;
    })

pub returns-clause-counts : goal.returns-clause-counts
returns-clause-counts g c = let s = g.S.Store in counted_start s.faults s.held s.tells c.args.log c.start.result c.start.ensures.cause

pub returns-clause-refused : goal.returns-clause-refused
returns-clause-refused g c = let s = g.S.Store in refused_start s.faults s.held s.tells c.args.log c.start.result c.start.ensures.bytes c.start.ensures.cause
