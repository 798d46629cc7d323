use Rattle.std.proofs.Common.{refl, subst}
use Rattle.cj_state.proofs.Cited.{IsWorld, WorldState, board_id, pass_board, world_with_log}
use Rattle.cj_state.proofs.Sharing.{gives_next}
use Rattle.cj_state.specs.Sharing.{IsTakenApart}
use Rattle.cj_state.specs.Worlds.{IsFresh}
use Rattle.cj_state.proofs.state.State.into_shared.Goals as goal

pub returns-clause-world : goal.returns-clause-world
returns-clause-world g c = subst (IsWorld g.B.Backend.tells) c.self.view_is (world_with_log g.B.Backend.tells _ _ _ _ c.self.invariant.0.world)

pub returns-clause-fresh : goal.returns-clause-fresh
returns-clause-fresh g c = subst (IsFresh g.B.Backend.tells) c.self.view_is c.self.invariant.1

pub returns-clause-parts : goal.returns-clause-parts
returns-clause-parts g c =
    let w = c.self.inside in
    let ready = c.self.invariant.3.1 in
    subst (λ (x : WorldState). IsTakenApart g.B.Backend.tells x (board_id w.board) (pass_board w.pass) w.book w.cells.items w.accounts w.dumps) c.self.view_is
    (record {
      at = c.self.invariant.3.0;
      book =
          record {
            history = refl;
            placement = refl;
            names = refl;
            sessions = c.self.invariant.0.numbers_are;
            greatest = refl;
            cache = refl;
            balance = refl;
          };
      front = c.legal.ensures.front;
      pending = c.self.invariant.4.1;
      unowned = ready.unowned;
      gives = gives_next w.book c.legal.ensures.front ready.none_given;
      cells = refl;
      accounts = refl;
      dumps = refl;
      held = c.self.invariant.2;
    })
