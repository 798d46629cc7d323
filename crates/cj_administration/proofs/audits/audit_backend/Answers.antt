use Rattle.std.proofs.Common.{rules, ◌≡◌, ◌∙◌, true, slice_get, ap, sym}
use Rattle.cj_board.specs.Seats.{front}
use Rattle.cj_cluster.proofs.Pushed.{prefix_trans}
use Rattle.cj_model.specs.Cluster.Masks.{in_mask}
use Rattle.cj_place.specs.Layouts.{placement_of, Layout}
use Rattle.cj_administration.proofs.Auditing.{its_lines}
use Rattle.cj_administration.proofs.audits.audit_backend.Goals as goal

pub returns-in-Ok-append_backend-clause-lines : goal.returns-in-Ok-append_backend-clause-lines
returns-in-Ok-append_backend-clause-lines g c =
    let yes : in_mask c.args.enabled c.args.b ≡ true = search rules in
    let new = front c.contents_at-contents.new.pass.seat in
    λ h seen length_is is tells. its_lines g.J.Naming.layout.names (placement_of g.J.Naming.layout) h c.args.b (in_mask c.args.enabled c.args.b) yes is c.args.n length_is new
    (prefix_trans h (front c.args.pass.now.seat) new seen c.contents_at-contents.ensures.more.seen.front) c.in-Ok.database (c.in-Ok.ensures.gives.2 tells) c.name.result.now
    (ap (λ (l : Layout). slice_get l.names c.args.b) (sym c.args.control.now.locks.laid) ∙ c.name.ensures) c.args.text.now.items c.append_backend.new.text.items c.in-Ok-append_backend.ensures.ok
