use Rattle.std.proofs.Common.{◌≡◌, ◌<◌, ◌≤◌, List, length, get_or, slice_get, None, Some, ⊎_elim, ap, sym, ◌∙◌, subst, arith}
use Rattle.cj_state.proofs.Cited.{BookState, CellState, IsPrefix, SeatedCell, TookEntry, heard_then, length-map, length-set, slice_get_cases, states_of}
use Rattle.cj_state.proofs.cells.take.Goals as goal

pub returns-clause-heard : goal.returns-clause-heard
returns-clause-heard g c = heard_then c.args.book.now c.tell.new.book c.hear.new.book c.tell.ensures.heard c.hear.ensures.heard.heard

pub returns-clause-took : goal.returns-clause-took
returns-clause-took g c =
    subst (λ (now : List CellState). TookEntry g.B.Backend.tells c.args.accounts.now.accounts c.args.book.now.state.layout c.args.book.now.state.history (states_of c.args.cells.now.items) c.args.b c.catch_up_at-did.result now) (sym c.hear.ensures.cells)
    (subst (λ (was : List CellState). TookEntry g.B.Backend.tells c.args.accounts.now.accounts c.args.book.now.state.layout c.args.book.now.state.history was c.args.b c.catch_up_at-did.result (states_of c.catch_up_at-did.new.cells.items)) c.tell.ensures.cells
    (subst (λ (k : BookState). TookEntry g.B.Backend.tells c.args.accounts.now.accounts k.layout k.history (states_of c.tell.new.cells.items) c.args.b c.catch_up_at-did.result (states_of c.catch_up_at-did.new.cells.items)) c.tell.ensures.heard.state c.catch_up_at-did.ensures.took))

pub catch_up_at-did-requires-clause-told : goal.catch_up_at-did-requires-clause-told
catch_up_at-did-requires-clause-told g c = λ d. subst (λ (k : BookState). IsPrefix k.history (get_or c.tell.new.cells.items c.args.b d).view.front) (sym c.tell.ensures.heard.state) (c.tell.ensures.told d)

pub returns-clause-token : goal.returns-clause-token
returns-clause-token g c failed =
    let cells : List SeatedCell = c.catch_up_at-did.new.cells.items in
    let long : length (states_of cells) ≡ length (states_of c.tell.new.cells.items) = ap length c.catch_up_at-did.ensures.took.set ∙ length-set (states_of c.tell.new.cells.items) c.args.b c.catch_up_at-did.ensures.took.cell in
    let as_many : length cells ≡ length (states_of c.args.cells.now.items) = sym (length-map cells (λ (z : SeatedCell). z.state)) ∙ (long ∙ ap length c.tell.ensures.cells) in
    let within : c.args.b < length (states_of c.args.cells.now.items) = c.requires.can.within in
    ⊎_elim
    (λ (there : (x : SeatedCell) × (c.args.b < length cells) × (slice_get cells c.args.b ≡ Some x) × (get_or cells c.args.b x ≡ x)).
    let one = c.catch_up_at-did.ensures.token failed there.0 there.2 in
    let heard = c.hear.ensures.heard.fault there.0 c.args.b there.2 in
    omega (arith, one, heard))
    (λ (past : (length cells ≤ c.args.b) × (slice_get cells c.args.b ≡ None)). let le = past.0 in absurd (omega (arith, le, as_many, within)))
    (slice_get_cases cells c.args.b).1
