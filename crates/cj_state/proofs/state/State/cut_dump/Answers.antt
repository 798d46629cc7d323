use Rattle.std.proofs.Common.{◌≡◌, false, length, map, Option, option_map, None, Some, ap, sym, ◌∙◌, subst}
use Rattle.cj_state.proofs.Cited.{Dump, IfSome, IsDump, IsDumpOf, IsSoundDump, IsStorable, Layout, Load, TakenDump, WorldState, can_load, core_of, cut, cut_holds, database_after, find_dump, first_all, first_of, first_taken, hosts_beyond, log, not_now, part, part_is_storable, placement_of, states_of, taken_all, taken_of}
use Rattle.cj_state.proofs.state.State.cut_dump.Goals as goal

pub unreachable-requires : goal.unreachable-requires
unreachable-requires g c =
    let w = c.self.inside in
    let can = can_load (core_of w.book.state.layout w.book.state.history (states_of w.cells.items) w.tally.failed w.tally.starved w.sessions w.book.state.greatest w.dumps) c.args.b c.args.name.now (subst (λ (x : WorldState). not_now x.core (Load c.args.b c.args.name.now) ≡ None) (sym c.self.view_is) c.requires.now) in
    let none : first_of c.args.name.now w.dumps ≡ None = sym c.in_ok-dump.ensures.first ∙ c.in-None.is in
    absurd (cc (sym can.found ∙ (first_taken c.args.name.now w.dumps ∙ ap (option_map taken_of) none)))

pub returns-clause-storable : goal.returns-clause-storable
returns-clause-storable g c =
    let is : IsDump c.in-Some.dump = subst (λ (o : Option Dump). IfSome o IsDump) c.in-Some.is c.in_ok-dump.ensures.storable in
    subst (λ (x : Dump). IsStorable x.db) (sym c.cut.ensures) (part_is_storable (placement_of c.placement.result.now) c.args.b c.in-Some.dump.db is.db)

pub returns-clause-found : goal.returns-clause-found
returns-clause-found g c =
    let w = c.self.inside in
    let there : first_of c.args.name.now w.dumps ≡ Some c.in-Some.dump = sym c.in_ok-dump.ensures.first ∙ c.in-Some.is in
    subst (λ (x : WorldState). find_dump x.core.dumps c.args.name.now ≡ Some (taken_of c.cut.result)) c.self.view_is
    (first_taken c.args.name.now w.dumps ∙ (ap (option_map taken_of) there ∙ ap (λ (x : Dump). Some (taken_of x)) (sym c.cut.ensures)))

pub returns-clause-held : goal.returns-clause-held
returns-clause-held g c on =
    let w = c.self.inside in
    let tells = g.B.Backend.tells in
    let d : Dump = c.in-Some.dump in
    let can = can_load (core_of w.book.state.layout w.book.state.history (states_of w.cells.items) w.tally.failed w.tally.starved w.sessions w.book.state.greatest w.dumps) c.args.b c.args.name.now (subst (λ (x : WorldState). not_now x.core (Load c.args.b c.args.name.now) ≡ None) (sym c.self.view_is) c.requires.now) in
    let there : first_of c.args.name.now w.dumps ≡ Some d = sym c.in_ok-dump.ensures.first ∙ c.in-Some.is in
    let found : find_dump (map taken_of w.dumps) c.args.name.now ≡ Some (taken_of d) = first_taken c.args.name.now w.dumps ∙ ap (option_map taken_of) there in
    let same : can.taken ≡ taken_of d = cc (sym can.found ∙ found) in
    let covered : hosts_beyond (placement_of w.book.state.layout) c.args.b d.source ≡ false = subst (λ (t : TakenDump). hosts_beyond (placement_of w.book.state.layout) c.args.b t.source ≡ false) same can.covered in
    let sound : IsSoundDump (length w.book.state.layout.names) w.book.state.history (taken_of d) = taken_all (IsSoundDump (length w.book.state.layout.names) w.book.state.history) (map taken_of w.dumps) c.args.name.now (taken_of d) c.self.invariant.0.world.sound.dumps found in
    let is : IsDumpOf tells (placement_of w.book.state.layout) (log w.book.state.history) d = first_all (IsDumpOf tells (placement_of w.book.state.layout) (log w.book.state.history)) c.args.name.now w.dumps c.self.invariant.2 d there in
    let cut_is : c.cut.result ≡ cut d w.book.state.layout c.args.b = c.cut.ensures ∙ ap (λ (l : Layout). cut d l c.args.b) c.placement.ensures in
    subst (λ (x : WorldState). c.cut.result.db ≡ part x.core.placement c.args.b (database_after (log x.core.history) c.cut.result.position)) c.self.view_is
    (subst (λ (x : Dump). x.db ≡ part (placement_of w.book.state.layout) c.args.b (database_after (log w.book.state.history) x.position)) (sym cut_is)
    (cut_holds tells w.book.state.layout (log w.book.state.history) d c.args.b is covered sound.source on))

pub invariant_of-self-2 : goal.invariant_of-self-2
invariant_of-self-2 g c = rw c.read.ensures.same c.self.invariant
