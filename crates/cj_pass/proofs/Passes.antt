-- What a pass knows more after one call, and after another.
use Rattle.std.proofs.Common.{◌≡◌, ◌+◌, ◌≤◌, Contains, refl, ap, sym, ◌∙◌, subst, arith}
use mathlib.Core.List.{IsPrefix}
use Rattle.std.proofs.lemmas.List.Elements.{Contains-append_left}
use Rattle.cj_cluster.proofs.Pushed.{prefix_self, prefix_trans}
use Rattle.cj_board.specs.declared.view.SeatView.{SeatView}
use Rattle.cj_board.specs.Points.{fault_tokens_of}
use Rattle.cj_board.specs.Steps.{after_join}
use Rattle.cj_board.proofs.FaultPoint.{tokens-append}
use Rattle.cj_pass.specs.Passes.{HasNotedMore, HasSeenMore}

pub seen_same : (v w : SeatView) → w ≡ v → HasSeenMore v w
seen_same v w same = subst (HasSeenMore v) (sym same) (record { front = prefix_self v.front; own = refl; count = refl })

pub seen_then : (u v w : SeatView) → HasSeenMore u v → HasSeenMore v w → HasSeenMore u w
seen_then u v w p q = record { front = prefix_trans u.front v.front w.front p.front q.front; own = q.own ∙ p.own; count = q.count ∙ p.count }

pub noted_self : (v : SeatView) → HasNotedMore v v
noted_self v = record { seen = seen_same v v refl; positions = λ x there. there; faults = λ x there. there; tokens = λ b. omega arith }

pub noted_same : (v w : SeatView) → w ≡ v → HasNotedMore v w
noted_same v w same = subst (HasNotedMore v) (sym same) (noted_self v)

pub noted_then : (u v w : SeatView) → HasNotedMore u v → HasNotedMore v w → HasNotedMore u w
noted_then u v w p q =
    record {
      seen = seen_then u v w p.seen q.seen;
      positions = λ x there. q.positions x (p.positions x there);
      faults = λ x there. q.faults x (p.faults x there);
      tokens = λ b. (let m : fault_tokens_of b u.fault_tokens ≤ fault_tokens_of b v.fault_tokens = p.tokens b in let n : fault_tokens_of b v.fault_tokens ≤ fault_tokens_of b w.fault_tokens = q.tokens b in omega arith);
    }

-- a pass to which another was joined
pub noted_joined : (v u w : SeatView) → w ≡ after_join v u → IsPrefix v.front w.front → HasNotedMore v w
noted_joined v u w is longer =
    record {
      seen = record { front = longer; own = ap (λ (x : SeatView). x.own_session) is; count = ap (λ (x : SeatView). x.count) is };
      positions = λ x there. subst (λ (z : SeatView). Contains z.position_notes x) (sym is) (Contains-append_left v.position_notes u.position_notes x there);
      faults = λ x there. subst (λ (z : SeatView). Contains z.fault_notes x) (sym is) (Contains-append_left v.fault_notes u.fault_notes x there);
      tokens =
          λ b.
          let all : fault_tokens_of b w.fault_tokens ≡ fault_tokens_of b v.fault_tokens + fault_tokens_of b u.fault_tokens = ap (λ (x : SeatView). fault_tokens_of b x.fault_tokens) is ∙ tokens-append b v.fault_tokens u.fault_tokens in
          omega (arith, all);
    }
