-- What a book knows that has heard more, and cells of which one has changed.
use Rattle.std.proofs.Common.{◌≡◌, ⊎_elim, ℕ, ◌+◌, ◌<◌, ◌≤◌, ◌==◌, Bool, cond, List, [], ◌∷◌, length, get_or, set, slice_get, Some, refl, ap, sym, ◌∙◌, subst, arith}
use Rattle.std.specs.Prelude.{All, Contains}
use Rattle.std.proofs.lemmas.List.Elements.{All-get_or, All-set, Contains-append_left, Contains-append_right}
use Rattle.std.proofs.lemmas.List.Sums.{sum_by-cons}
use Rattle.cj_state.proofs.Common.{both_ways, cases_eq, CellState, Did, eq-eqb, failed_after, fault_tokens_of, get_or-map, get_or-set_other, get_or-set_same, in_mask, length-map, length-set, map-set, map-set_same, SeatedBook, SeatedCell, SeatView, slice_get-get_or, slice_get_within, states_of, TableId, tokens-append}
use Rattle.cj_model.proofs.Masks.{has-with_other, has-zero}
use Rattle.cj_board.specs.Steps.{after_learning}
use Rattle.cj_cluster.specs.declared.moves.Did.TheVariants as did
use Rattle.cj_state.specs.Proving.Seated.{AreNumbered, HasLearned, IsReady, position_in}
use Rattle.cj_state.proofs.CellsKept.{position_of}

-- ---- what a book has heard

pub heard_then : (a b c : SeatedBook) → HasLearned a b → HasLearned b c → HasLearned a c
heard_then a b c p q =
    record {
      state = q.state ∙ p.state;
      pending = q.pending ∙ p.pending;
      given = q.given ∙ p.given;
      last_given = q.last_given ∙ p.last_given;
      tokens = λ k. (let m : fault_tokens_of k a.view.fault_tokens ≤ fault_tokens_of k b.view.fault_tokens = p.tokens k in let n : fault_tokens_of k b.view.fault_tokens ≤ fault_tokens_of k c.view.fault_tokens = q.tokens k in omega arith);
      notes = λ x there. q.notes x (p.notes x there);
    }

-- a seat that learnt
module _ (old new : SeatedBook) (w : SeatView) (state : new.state ≡ old.state) (pending : new.pending ≡ old.pending) (view : new.view ≡ after_learning old.view w) where
  pub learnt_tokens : (k : ℕ) → fault_tokens_of k new.view.fault_tokens ≡ fault_tokens_of k old.view.fault_tokens + fault_tokens_of k w.fault_tokens
  learnt_tokens k = ap (λ (v : SeatView). fault_tokens_of k v.fault_tokens) view ∙ tokens-append k old.view.fault_tokens w.fault_tokens

  pub learnt : HasLearned old new
  learnt =
      record {
        state = state;
        pending = pending;
        given = ap (λ (v : SeatView). v.given) view;
        last_given = ap (λ (v : SeatView). v.last_given) view;
        tokens = λ k. (let e : fault_tokens_of k new.view.fault_tokens ≡ fault_tokens_of k old.view.fault_tokens + fault_tokens_of k w.fault_tokens = learnt_tokens k in omega arith);
        notes = λ x there. subst (λ (v : SeatView). Contains v.position_notes x) (sym view) (Contains-append_left old.view.position_notes w.position_notes x there);
      }

  pub learnt_note : (x : ℕ × ℕ) → Contains w.position_notes x → Contains new.view.position_notes x
  learnt_note x there = subst (λ (v : SeatView). Contains v.position_notes x) (sym view) (Contains-append_right old.view.position_notes w.position_notes x there)

pub ready_heard : (old new : SeatedBook) (failed : ℕ) → IsReady old.view failed → HasLearned old new → IsReady new.view failed
ready_heard old new failed ready heard =
    record {
      unowned = heard.given ∙ ready.unowned;
      none_given = heard.last_given ∙ ready.none_given;
      tokens = λ k on. (let some : 0 < fault_tokens_of k old.view.fault_tokens = ready.tokens k on in let more : fault_tokens_of k old.view.fault_tokens ≤ fault_tokens_of k new.view.fault_tokens = heard.tokens k in omega arith);
    }

-- the book heard of the backend that failed
pub ready_taken : (old new : SeatedBook) (failed b : ℕ) (d : Did) → IsReady old.view failed → HasLearned old new → (d ≡ did.Failed → 0 < fault_tokens_of b new.view.fault_tokens) → IsReady new.view (failed_after failed b d)
ready_taken old new failed b (did.Done o) ready heard token = ready_heard old new failed ready heard
ready_taken old new failed b did.Skipped ready heard token = ready_heard old new failed ready heard
ready_taken old new failed b did.Starved ready heard token = ready_heard old new failed ready heard
ready_taken old new failed b did.Failed ready heard token =
    let was = ready_heard old new failed ready heard in
    record {
      unowned = was.unowned;
      none_given = was.none_given;
      tokens =
          λ k on.
          ⊎_elim (λ (same : k ≡ b). subst (λ (n : ℕ). 0 < fault_tokens_of n new.view.fault_tokens) (sym same) (token refl))
          (λ (ne : k ≡ b → ⊥). was.tokens k (sym (has-with_other failed b k ne) ∙ on)) (cases_eq k b);
    }

-- a mask of none asks for no token
pub ready_none : (book : SeatView) → book.given ≡ [] → book.last_given ≡ 0 → IsReady book 0
ready_none book unowned none_given = record { unowned = unowned; none_given = none_given; tokens = λ k on. absurd (both_ways (in_mask 0 k) (has-zero k) on) }

-- a token more
pub one_token : (b : ℕ) (ts : List ℕ) → fault_tokens_of b (b ∷ ts) ≡ 1 + fault_tokens_of b ts
one_token b ts = sum_by-cons (λ x. cond (x == b) 1 0) b ts ∙ ap (λ (x : Bool). cond x 1 0 + fault_tokens_of b ts) (eq-eqb b b refl)

-- ---- cells

-- what the world sees of one cell
pub state_of : (cells : List SeatedCell) (b : ℕ) (d : SeatedCell) (e : CellState) → b < length cells → get_or (states_of cells) b e ≡ (get_or cells b d).state
state_of cells b d e lt = get_or-map (λ (x : SeatedCell). x.state) cells b d e lt

-- what the world sees of the cell that was indexed
pub seen_as : (cells : List SeatedCell) (b : ℕ) (x : SeatedCell) → b < length cells → x ≡ get_or cells b x → x.state ≡ get_or (states_of cells) b x.state
seen_as cells b x lt value = sym (state_of cells b x x.state lt ∙ ap (λ (z : SeatedCell). z.state) (sym value))

-- where the cell of backend b stands
pub stands_in : (cells : List SeatedCell) (b : ℕ) (x : SeatedCell) → slice_get cells b ≡ Some x → x.state.position ≡ position_in (states_of cells) b
stands_in cells b x there =
    let lt : b < length cells = slice_get_within cells b x there in
    let found : Some (get_or cells b x) ≡ Some x = sym (slice_get-get_or cells b x lt) ∙ there in
    let is : get_or cells b x ≡ x = cc found in
    sym (position_of (states_of cells) b x.state (rw length-map lt) ∙ ap (λ (z : CellState). z.position) (state_of cells b x x.state lt ∙ ap (λ (z : SeatedCell). z.state) is))

-- the cell that was put there
pub there_set : (cells : List SeatedCell) (b : ℕ) (y : SeatedCell) → b < length cells → slice_get (set cells b y) b ≡ Some y
there_set cells b y lt =
    let within : b < length (set cells b y) = subst (λ (m : ℕ). b < m) (sym (length-set cells b y)) lt in
    slice_get-get_or (set cells b y) b y within ∙ ap (λ (z : SeatedCell). Some z) (get_or-set_same cells b y y lt)

-- a cell has changed in its seat alone
pub states_stay : (cells : List SeatedCell) (b : ℕ) (x y : SeatedCell) → b < length cells → x ≡ get_or cells b x → y.state ≡ x.state → states_of (set cells b y) ≡ states_of cells
states_stay cells b x y lt value same = map-set_same (λ (z : SeatedCell). z.state) cells b y x (same ∙ ap (λ (z : SeatedCell). z.state) value)

pub states_set : (cells : List SeatedCell) (b : ℕ) (y : SeatedCell) → states_of (set cells b y) ≡ set (states_of cells) b y.state
states_set cells b y = map-set (λ (z : SeatedCell). z.state) cells b y

module _ (id : TableId) (cells : List SeatedCell) (b : ℕ) (x y : SeatedCell) (lt : b < length cells) (value : x ≡ get_or cells b x) (at : All (λ (z : SeatedCell). z.board ≡ id) cells) where
  pub board_of : x.board ≡ id
  board_of = ap (λ (z : SeatedCell). z.board) value ∙ All-get_or (λ (z : SeatedCell). z.board ≡ id) cells b x lt at

  pub all_at : y.board ≡ x.board → All (λ (z : SeatedCell). z.board ≡ id) (set cells b y)
  all_at same = All-set (λ (z : SeatedCell). z.board ≡ id) cells b y (same ∙ board_of) at

-- each cell keeps its number
pub numbered_set : (cells : List SeatedCell) (b : ℕ) (x y : SeatedCell) → b < length cells → x ≡ get_or cells b x → y.state.b ≡ x.state.b → AreNumbered (states_of cells) → AreNumbered (states_of (set cells b y))
numbered_set cells b x y lt value same numbered k d within =
    let states : List CellState = states_of cells in
    let is = states_set cells b y in
    let inside : k < length states = subst (λ (m : ℕ). k < m) (ap length is ∙ length-set states b y.state) within in
    let there : b < length states = rw length-map lt in
    rw is
    (⊎_elim
    (λ (e : k ≡ b). rw (e, get_or-set_same states b y.state d there) (same ∙ (ap (λ (z : CellState). z.b) (seen_as cells b x lt value) ∙ numbered b x.state there)))
    (λ (ne : k ≡ b → ⊥). rw (get_or-set_other states b k y.state d ne) (numbered k d inside)) (cases_eq k b))
