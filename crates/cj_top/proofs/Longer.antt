-- What a log kept stands before what a run adds.
use Rattle.std.proofs.Common.{◌≡◌, ℕ, ℤ, ◌+◌, Bool, true, List, [], ◌∷◌, ◌++◌, length, map, Option, refl, ap, sym, ◌∙◌, subst}
use mathlib.Core.List.{IsPrefix}
use Rattle.cj_top.proofs.Common.{BackendState, LogItem, SessionEnd, StartsFrom, WorldState}
use Rattle.cj_model.specs.Cluster.Placements.{Placement}
use Rattle.cj_cluster.specs.declared.event.Event.{Event}
use Rattle.cj_cluster.specs.declared.event.Event.TheVariants.{Enabled, Ended, Sched}
use Rattle.cj_cluster.specs.History.Histories.{log}
use Rattle.cj_cluster.proofs.Growth.{runs_grow}
use Rattle.cj_cluster.proofs.Pushed.{prefix_self, prefix_trans}
use Rattle.cj_core.specs.Solos.{desk_of, session_opened}
use Rattle.cj_start.specs.Started.{AbortsEach, with_abort}
use Rattle.cj_desk.proofs.ChainEntries.{stands_over}
use Rattle.cj_log.specs.Logs.{KeepsItems}
use Rattle.cj_log.proofs.OneLog.{one_log}
use Rattle.cj_recovery.specs.Openings.{items_behind, items_of}
use Rattle.cj_recovery.proofs.Longer.{items_append}
use Rattle.cj_script.specs.Script.{InTurns, given_in, moves_in}
use Rattle.cj_top.specs.Logs.{Found}
use Rattle.cj_top.specs.Piped.{ServesOneSession}

-- a longer history has the items of its beginning before its others
items_longer : (f h : List Event) → IsPrefix f h → IsPrefix (items_of f) (items_of h)
items_longer f h p = (items_behind (0 + length (log f)) p.0, sym (items_append 0 f p.0) ∙ ap items_of p.1)

-- the ends of orphans come behind
aborts_longer : (h : List Event) (txs : List ℕ) (z : List Event) → AbortsEach h txs z → IsPrefix h z
aborts_longer h [] z is = subst (λ (g : List Event). IsPrefix h g) (sym is) (prefix_self h)
aborts_longer h (tx ∷ txs) z (failed, rest) = prefix_trans h (with_abort h tx failed) z (Sched _ ∷ Ended failed 0 ∷ [], refl) (aborts_longer (with_abort h tx failed) txs z rest)

-- over one session, from its opening to its closing
pub session_longer : (tells : Bool) (seed : ℕ) (moment : Option ℤ) (left left' held held' : Option (List ℕ)) (first last : WorldState) (ending : SessionEnd) → ServesOneSession tells seed moment left left' held held' first ending last
    → IsPrefix first.core.history last.core.history
session_longer tells seed moment left left' held held' first last ending s =
    subst (λ (w : WorldState). IsPrefix first.core.history w.core.history) (sym s.closed) (stands_over tells (desk_of (session_opened first)) (desk_of s.desk) s.turns).longer

-- over a script
pub script_longer : (tells : Bool) (names : List (List ℕ)) (left left' held held' : Option (List ℕ)) (first last : WorldState) → InTurns tells names left left' held held' first last → IsPrefix first.core.history last.core.history
script_longer tells names left left' held held' first last turns = (runs_grow tells first.core (moves_in turns.steps) (given_in turns.steps) last.core turns.runs).longer

-- so what was found stands before what was added
pub keeps_front : (tells : Bool) (bytes : List ℕ) (p : Placement) (backends : List BackendState) (first last : WorldState) → StartsFrom (Found tells bytes) p backends first → IsPrefix first.core.history last.core.history
    → tells ≡ true → (items : List LogItem) → KeepsItems bytes items → IsPrefix items (items_of last.core.history)
keeps_front tells bytes p backends first last starts longer told items keeps =
    let same : starts.items ≡ items = one_log bytes starts.items items (starts.found_in told) keeps in
    let enabled : List Event = map Enabled starts.started.enabled in
    let begun : IsPrefix (starts.opening ++ enabled) first.core.history = aborts_longer (starts.opening ++ enabled) _ first.core.history starts.started.history in
    let opened : IsPrefix starts.opening first.core.history = prefix_trans starts.opening (starts.opening ++ enabled) first.core.history (enabled, refl) begun in
    let whole : IsPrefix starts.opening last.core.history = prefix_trans starts.opening first.core.history last.core.history opened longer in
    subst (λ (xs : List LogItem). IsPrefix xs (items_of last.core.history)) (starts.opens.same ∙ same) (items_longer starts.opening last.core.history whole)
