use Rattle.std.proofs.Common.{◌≡◌, ◌≤◌, ℕ, List, get_or, ap, sym, ◌∙◌, subst, arith}
use Rattle.cj_book.specs.Books.{IsKeptIn}
use Rattle.cj_cluster.specs.declared.event.Event.{Event}
use Rattle.cj_state.proofs.Sharing.{kept_left}
use Rattle.cj_state.specs.Worlds.{LogView}
use Rattle.cj_top.proofs.Cited.{faults_of, states_of}
use Rattle.cj_top.proofs.Common.{CellState}
use Rattle.cj_top.proofs.piped.log_over_memory.Goals as goal

pub returns-clause-left : goal.returns-clause-left
returns-clause-left g c =
    let s = g.S.Store in
    let book = c.into_shared-shared.result.book.state in
    let log = c.into_shared-shared.result.recovery_log.log in
    let follows = c.into_shared-shared.ensures.follows in
    let left = c.into_log.result in
    let is : left ≡ log.store = c.into_log.ensures in
    let seen = c.into_shared-shared.ensures.recovery_log in
    let same : book.history ≡ c.args.world.core.history = c.into_shared-shared.ensures.parts.book.history in
    record {
      counts = ap s.faults is ∙ ap (λ (v : LogView). v.faults) seen;
      bytes = ap s.held is ∙ ap (λ (v : LogView). v.bytes) seen;
      kept = λ t. subst (λ (h : List Event). IsKeptIn (s.held left) h) same (subst (λ (x : g.row.S.Denot). IsKeptIn (s.held x) book.history) (sym is) (c.legal.ensures.kept book.history follows t));
      stop =
          λ t image may.
          let there : s.may log.store image = subst (λ (x : g.row.S.Denot). s.may x image) is may in
          let now : s.moment log.store ≤ s.moment log.store = omega arith in
          let since = g.met.S.Store.counts_now log.store (s.moment log.store) image now there in
          subst (λ (h : List Event). IsKeptIn image h) same (kept_left book.history log (follows.logged t) image (λ well. c.legal.ensures.safe book.history follows t well image there) (λ item. (c.legal.ensures.now t item).each image since));
    }

pub returns-clause-none : goal.returns-clause-none
returns-clause-none g c = λ b. subst (λ (cells : List CellState). ◌≡◌ {A = ℕ} (get_or (faults_of cells) b 0) 0) (ap states_of c.deref.ensures.value ∙ c.into_shared-shared.ensures.parts.cells) (c.show_none.ensures b)
