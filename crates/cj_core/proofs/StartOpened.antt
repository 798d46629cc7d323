-- A start over the log that was opened.
use Rattle.std.proofs.Common.{◌≡◌, ℕ, List, [], map, ap, sym, ◌∙◌, subst}
use Rattle.cj_core.proofs.Common.{started_backend, BackendState, Core, Event, faults_of, HasStarted}
use Rattle.cj_core.proofs.Common.{log, LogItem, map-map, opened_core, OpensTo, Placement, StartsFrom, WorldState}

-- a start of cells over an opened history is one of the backends in them
pub starts_from : (found : List LogItem → Type 0) (items : List LogItem) (p : Placement) (opening : List Event) (backends : List BackendState) (old new : WorldState) → found items → OpensTo items opening
    → old.core ≡ opened_core p opening → map started_backend old.cells ≡ backends → HasStarted old.core.placement old.core.history (faults_of old.cells) new → (log old.core.history ≡ [] → new.cells ≡ old.cells) → StartsFrom found p backends new
starts_from found items p opening backends old new found_in opens opened same started uncalled =
    let placement : old.core.placement ≡ p = ap (λ (c : Core). c.placement) opened in
    let history : old.core.history ≡ opening = ap (λ (c : Core). c.history) opened in
    let faults : faults_of old.cells ≡ map (λ (s : BackendState). s.faults) backends = sym (map-map (λ (s : BackendState). s.faults) started_backend old.cells) ∙ ap (map (λ (s : BackendState). s.faults)) same in
    record {
      items = items;
      found_in = found_in;
      opening = opening;
      opens = opens;
      started =
          subst (λ (counts : List ℕ). HasStarted p opening counts new) faults
          (subst (λ (h : List Event). HasStarted p h (faults_of old.cells) new) history (subst (λ (q : Placement). HasStarted q old.core.history (faults_of old.cells) new) placement started));
      uncalled = λ none. ap (map started_backend) (uncalled (ap (λ (h : List Event). log h) history ∙ none)) ∙ same;
    }
