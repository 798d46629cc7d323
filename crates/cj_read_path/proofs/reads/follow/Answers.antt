use Rattle.std.proofs.Common.{◌≡◌, ℕ, true, refl, ap, sym, subst}
use Rattle.cj_model.specs.declared.answer.Refusal.{Refusal}
use Rattle.cj_model.specs.declared.answer.Reply.{Reply}
use Rattle.cj_model.specs.declared.answer.Reply.TheVariants.{Refused}
use Rattle.cj_model.specs.declared.codes.TheConstants.{READ_FAULT}
use Rattle.cj_model.specs.Cluster.Masks.{in_mask}
use Rattle.cj_cluster.proofs.Pushed.{prefix_self}
use Rattle.cj_board.specs.Seats.{front}
use Rattle.cj_locked.specs.declared.look.Look.TheVariants.{Tried, Unserved}
use Rattle.cj_locked.specs.Reading.{EndsRead}
use Rattle.cj_place.specs.Layouts.{placement_of}
use Rattle.cj_read_path.specs.Reading.{HaveFailedSince}
use Rattle.cj_read_path.proofs.Reading.{ends_earlier, ends_in_vain, ends_unserved, look_is, some_weaker}
use Rattle.cj_read_path.proofs.reads.follow.Goals as goal

pub returns-in-Ask-clause-ended : goal.returns-in-Ask-clause-ended
returns-in-Ask-clause-ended g c = λ F before all.
    let query = c.args.query.now in
    let tells = g.B.Backend.tells in
    let p = placement_of g.J.Naming.layout in
    let m = front c.args.pass.now.seat in
    let G = front c.try_at.new.pass.seat in
    some_weaker (λ (r : Reply × ℕ). EndsRead tells p m query.session query.seq query.tx query.select.now query.least G r.0 r.1) (λ (r : Reply × ℕ). EndsRead tells p F query.session query.seq query.tx query.select.now query.least G r.0 r.1)
    (λ r x. ends_earlier tells p F m G query.session query.seq query.tx query.select.now query.least r.0 r.1 before x) c.try_at.result c.try_at.ensures.ended

pub returns-in-Tried-clause-ended : goal.returns-in-Tried-clause-ended
returns-in-Tried-clause-ended g c = λ F before all.
    let query = c.args.query.now in
    let tells = g.B.Backend.tells in
    let p = placement_of g.J.Naming.layout in
    let m = front c.args.pass.now.seat in
    let tried = c.requires.look.0 in
    let failed = c.args.tries.now.failed in
    let mask = c.in-Tried.serving in
    let looked = look_is p m query.select.now query.least tried c.args.look (Tried mask) c.in-Tried.is c.requires.look.1 in
    some_weaker (λ (r : Reply × ℕ). (r.0 ≡ Refused (record { code = READ_FAULT; a = mask; b = 0 })) × (r.1 ≡ query.least) × ((b : ℕ) → in_mask mask b ≡ true → in_mask failed b ≡ true))
    (λ (r : Reply × ℕ). EndsRead tells p F query.session query.seq query.tx query.select.now query.least m r.0 r.1)
    (λ r x. ends_in_vain tells p F m query.session query.seq query.tx query.select.now query.least tried failed mask r.0 r.1 before looked all x.2 x.0 x.1)
    c.tried_all.result c.tried_all.ensures.vain

pub returns-in-Tried-clause-failed : goal.returns-in-Tried-clause-failed
returns-in-Tried-clause-failed g c = λ F before all. subst (HaveFailedSince F (front c.args.pass.now.seat) c.args.query.now.session c.args.query.now.seq) (sym c.tried_all.ensures.failed) all

pub returns-in-Unserved-clause-ended : goal.returns-in-Unserved-clause-ended
returns-in-Unserved-clause-ended g c = λ F before all.
    let query = c.args.query.now in
    let p = placement_of g.J.Naming.layout in
    let m = front c.args.pass.now.seat in
    let looked = look_is p m query.select.now query.least c.requires.look.0 c.args.look Unserved c.in-Unserved.is c.requires.look.1 in
    ends_unserved g.B.Backend.tells p F m m query.session query.seq query.tx query.select.now query.least (Refused c.of_code.result) query.least before (prefix_self m) looked
    (ap (λ (r : Refusal). Refused r) c.of_code.ensures) refl
