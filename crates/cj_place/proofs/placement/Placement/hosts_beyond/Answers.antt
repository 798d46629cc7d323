use Rattle.std.proofs.Common.{◌≡◌, ◌<◌, ◌&&◌, not, true, length, ap, sym, ◌∙◌, subst}
use Rattle.cj_place.proofs.Common.{HostRow, Layout, hosts_beyond, in_mask, list_any, placement_of}
use Rattle.cj_place.proofs.Beyond.{masks_tell}
use Rattle.cj_place.proofs.Parts.{none_beyond_full}
use Rattle.cj_place.proofs.placement.Placement.hosts_beyond.Goals as goal

pub returns-then-self : goal.returns-then-self
returns-then-self c =
    let full : c.args.self.now.full ≡ true = sym (ap (λ (l : Layout). l.full) c.self.view_is) ∙ c.if-self.true in
    sym (none_beyond_full (placement_of c.args.self.now) c.args.b c.args.other c.requires.other full)

pub returns : goal.returns
returns c =
    let own = c.self.inside in
    let within : c.args.other < length own.names = subst (λ (l : Layout). c.args.other < length l.names) (sym c.self.view_is) c.requires.other in
    c.has_beyond.ensures
    ∙ ap (list_any (λ (row : HostRow). in_mask row.mask c.args.b && not (in_mask row.mask c.args.other))) c.as_slice.ensures
    ∙ masks_tell own.names own.full own.rows c.args.b c.args.other c.if-self.false c.self.invariant.masks c.self.invariant.rises within
    ∙ ap (λ (l : Layout). hosts_beyond (placement_of l) c.args.b c.args.other) c.self.view_is
