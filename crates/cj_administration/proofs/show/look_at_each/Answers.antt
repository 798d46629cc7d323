use Rattle.std.proofs.Common.{◌≡◌, ◌∙◌, ◌+◌, ℕ, true, [], ◌∷◌, ◌++◌, length, length-append, Contains, IfSome, ap, sym, subst}
use Rattle.cj_board.specs.Seats.{front, pass_view}
use Rattle.cj_cluster.specs.History.Histories.{is_enabled}
use Rattle.cj_pass.proofs.Passes.{noted_then}
use Rattle.cj_administration.specs.Showing.{AreNoted, StandAtEnd}
use Rattle.cj_administration.proofs.Showing.{noted_on, noted_push, stand_on, stand_push}
use Rattle.cj_administration.proofs.show.look_at_each.Goals as goal

pub returns-in_err-look-clause-more : goal.returns-in_err-look-clause-more
returns-in_err-look-clause-more g c = noted_then (pass_view c.args.pass.now.seat) (pass_view c.loop-b.pass.seat) (pass_view c.look_at.new.pass.seat) c.loop-b.invariant.more c.look_at.ensures.more

pub returns-in_err-push-clause-more : goal.returns-in_err-push-clause-more
returns-in_err-push-clause-more g c = noted_then (pass_view c.args.pass.now.seat) (pass_view c.loop-b.pass.seat) (pass_view c.look_at.new.pass.seat) c.loop-b.invariant.more c.look_at.ensures.more

pub loop-b-preserved : goal.loop-b-preserved
loop-b-preserved g c =
    let v = pass_view c.loop-b.pass.seat in
    let w = pass_view c.look_at.new.pass.seat in
    let F = front c.args.pass.now.seat in
    let before = c.loop-b.invariant in
    let looks = c.loop-b.looks.items in
    let look = c.in_ok-look.look in
    let is : c.push.new.self.items ≡ looks ++ look ∷ [] = c.in_ok-push.ensures.items in
    let its : IfSome look.position (λ n. Contains w.position_notes (length looks, n)) = subst (λ (k : ℕ). IfSome look.position (λ n. Contains w.position_notes (k, n))) (sym before.each) c.in_ok-look.ensures.noted in
    record {
      more = noted_then (pass_view c.args.pass.now.seat) v w before.more c.look_at.ensures.more;
      each = ap length is ∙ (length-append looks (look ∷ []) ∙ ap (λ (k : ℕ). k + 1) before.each);
      stand =
          subst (StandAtEnd F (front c.look_at.new.pass.seat)) (sym is) (
          stand_push F (front c.loop-b.pass.seat) (front c.look_at.new.pass.seat) looks look before.more.seen.front
          (stand_on F (front c.loop-b.pass.seat) (front c.look_at.new.pass.seat) looks before.more.seen.front c.look_at.ensures.more.seen.front before.stand)
          (λ m seen free same on. c.in_ok-look.ensures.stands m seen free same (subst (λ (k : ℕ). is_enabled m k ≡ true) before.each on))
          );
      noted = subst (AreNoted w) (sym is) (noted_push w looks look (noted_on v w looks c.look_at.ensures.more before.noted) its);
    }
