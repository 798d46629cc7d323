-- The cells of a world: where they stand, what they hold of a log that grew, and how one of them is changed.
use Rattle.std.proofs.Common.{◌≡◌, ℕ, ◌<◌, ◌≤◌, Bool, true, List, [], ◌∷◌, ◌++◌, length, map, get_or, set, Option, None, Some, IfSome, refl, ap, sym, ◌∙◌, subst, arith, ⊎_elim}
use Rattle.cj_state.proofs.Common.{AreBetween, BackendStands, cases_eq, CellState, Core, CoreInvariant, ended_count, Entry, eqb-true, Event, get_or-map, get_or-set_other, get_or-set_same, is_enabled, is_free, IsCell, IsWorld, last_number, length-set, log, OpenSession, Placement, position_at, TakenDump, WorldState}
use Rattle.cj_cluster.proofs.Effects.{stands_there, no_masks}
use Rattle.cj_replica.proofs.HeldParts.{drafts_longer, holds_longer}

-- a cell is the same of a log that grew
pub cell_longer : (tells : Bool) (p : Placement) (b : ℕ) (entries : List Entry) (e : Entry) (x : CellState) → ((q : ℕ) → x.position ≡ Some q → q ≤ length entries) → IsCell tells p entries b x → IsCell tells p (entries ++ e ∷ []) b x
cell_longer tells p b entries e x le is =
    record {
      number = is.number;
      placement = is.placement;
      holds = holds_longer tells p b entries (entries ++ e ∷ []) (e ∷ [], refl) x.told x.position (within x.position le) is.holds;
      drafts = drafts_longer tells p b entries (entries ++ e ∷ []) (e ∷ [], refl) x.begun x.position (within x.position le) is.drafts;
    }
  where
    within : (o : Option ℕ) → ((q : ℕ) → o ≡ Some q → q ≤ length entries) → IfSome o (λ n. n ≤ length entries)
    within None le = tt
    within (Some q) le = le q refl

-- a world behind events that are no entries, with which its core is sound
pub world_behind : {tells : Bool} {w : WorldState} → IsWorld tells w → (h : List Event) (f s : ℕ) (ss : List OpenSession) (g : ℕ) (ds : List TakenDump) → log h ≡ log w.core.history
    → CoreInvariant (record w.core { history = h; failed = f; starved = s; sessions = ss; greatest = g; dumps = ds }) → AreBetween (record w.core { history = h; failed = f; starved = s; sessions = ss; greatest = g; dumps = ds })
    → IsWorld tells (record w { core = record w.core { history = h; failed = f; starved = s; sessions = ss; greatest = g; dumps = ds } })
world_behind {tells} {w} is h f s ss g ds same sound between =
    record {
      sound = sound;
      named = is.named;
      registered = is.registered;
      few = is.few;
      positions = is.positions;
      begun = is.begun;
      cells = λ k d lt. subst (λ (entries : List Entry). IsCell tells w.core.placement entries k (get_or w.cells k d)) (sym same) (is.cells k d lt);
      between = between;
    }

-- a position is within the log
pub position_within : (c : Core) → CoreInvariant c → (b p : ℕ) → position_at c b ≡ Some p → p ≤ length (log c.history)
position_within c w b p is = (stands_there c b p w is).0

-- while no entry is open, an enabled backend stands at the log's end
module _ (c : Core) (w : CoreInvariant c) (idle : is_free c.history ≡ true) (b : ℕ) (on : is_enabled c.history b ≡ true) where
  stands_at : (p : Option ℕ) → p ≡ position_at c b → BackendStands c.history c.failed c.starved b p → position_at c b ≡ Some (last_number c)
  stands_at None is stands = absurd (no_masks c w idle b (stands on))
  stands_at (Some p) is stands =
      let ended : ended_count c.history ≡ length (log c.history) = eqb-true _ _ idle in
      let past : ended_count c.history ≤ p = stands.1 on in
      let within : p ≤ length (log c.history) = stands.0 in
      let end : p ≡ length (log c.history) = omega arith in
      sym is ∙ ap (λ (m : ℕ). Some m) end

  pub at_log_end : position_at c b ≡ Some (last_number c)
  at_log_end = stands_at (position_at c b) refl (w.stands b (w.hosts b on))

-- the position of a cell, as the core has it
pub position_of : (cells : List CellState) (b : ℕ) (d : CellState) → b < length cells → get_or (map (λ (x : CellState). x.position) cells) b None ≡ (get_or cells b d).position
position_of cells b d lt = get_or-map (λ (x : CellState). x.position) cells b d None lt

-- and the transactions that it has begun
pub begun_of : (cells : List CellState) (b : ℕ) (d : CellState) → b < length cells → get_or (map (λ (x : CellState). x.begun) cells) b [] ≡ (get_or cells b d).begun
begun_of cells b d lt = get_or-map (λ (x : CellState). x.begun) cells b d [] lt

-- each cell is as before but one, which is one too
pub cells_set : (tells : Bool) (p : Placement) (entries : List Entry) (cells : List CellState) (b : ℕ) (y : CellState) → IsCell tells p entries b y
    → ((k : ℕ) (d : CellState) → k < length cells → IsCell tells p entries k (get_or cells k d))
    → (k : ℕ) (d : CellState) → k < length (set cells b y) → IsCell tells p entries k (get_or (set cells b y) k d)
cells_set tells p entries cells b y new all k d lt =
    let klt : k < length cells = subst (λ (m : ℕ). k < m) (length-set cells b y) lt in
    ⊎_elim (λ (e : k ≡ b). let blt : b < length cells = omega arith in subst (λ (x : ℕ). IsCell tells p entries x (get_or (set cells b y) x d)) (sym e) (rw (get_or-set_same cells b y d blt) new))
    (λ (ne : k ≡ b → ⊥). rw (get_or-set_other cells b k y d ne) (all k d klt)) (cases_eq k b)
