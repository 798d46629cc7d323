use Rattle.std.proofs.Common.{◌≡◌, refl, subst, sym}
use Rattle.cj_core.proofs.Cited.{Call, FitsTx, IsEntryNumber, SoloState, desk_of, desk_tx, next_call, number_added, request_of, tx_after_adding, tx_after_write}
use Rattle.cj_core.proofs.solo.SoloDesk.write.Goals as goal

pub returns-clause-tx : goal.returns-clause-tx
returns-clause-tx g c =
    let a : SoloState = record { world = c.self.inside.world; session = c.self.inside.session } in
    let z : SoloState = record { world = c.serve_write.new.self; session = c.self.inside.session } in
    let call : Call = next_call (desk_of a) c.args.tx c.args.user.now (request_of c.args.act) c.serve_write.result.written.reply in
    let fits : FitsTx (desk_tx (desk_of a)) c.args.tx c.args.act = subst (λ (x : SoloState). FitsTx (desk_tx (desk_of x)) c.args.tx c.args.act) (sym c.self.view_is) c.requires.fits in
    let entry = c.serve_write.ensures.entry in
    subst (λ (x : SoloState). desk_tx (desk_of z) ≡ tx_after_write c.serve_write.result.written.number c.args.act (desk_tx (desk_of x))) c.self.view_is
    (tx_after_adding a.session c.serve_write.result.written.number call c.args.act entry.0 a.world.core.history z.world.core.history fits entry.1)

pub returns-clause-number : goal.returns-clause-number
returns-clause-number g c =
    let a : SoloState = record { world = c.self.inside.world; session = c.self.inside.session } in
    let z : SoloState = record { world = c.serve_write.new.self; session = c.self.inside.session } in
    let call : SoloState → Call = λ x. next_call (desk_of x) c.args.tx c.args.user.now (request_of c.args.act) c.serve_write.result.written.reply in
    let entry = c.serve_write.ensures.entry in
    subst (λ (x : SoloState). IsEntryNumber c.serve_write.result.written.number c.args.act (desk_of x) (call x) (desk_of z)) c.self.view_is
    (number_added a z c.serve_write.result.written.number (call a) c.args.act entry.0 refl entry.1)
