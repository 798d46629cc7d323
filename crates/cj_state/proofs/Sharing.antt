-- What the parts of a world are, and what a stop leaves of its log.
use Rattle.std.proofs.Common.{◌≡◌, ◌⊎◌, inl, inr, ℕ, ◌+◌, true, false, List, [], ◌∷◌, ◌++◌, None, ap, sym, ◌∙◌, subst, ⊎_elim}
use Rattle.cj_board.specs.Counting.{session_after}
use Rattle.cj_book.specs.Books.{IsKeptIn, last_write_failed}
use Rattle.cj_book.specs.Seated.{SeatedBook, GivesOwnPassesOnly}
use Rattle.cj_cluster.specs.declared.event.Event.{Event}
use Rattle.cj_log.specs.declared.item.LogItem.{LogItem}
use Rattle.cj_log.specs.Items.{item_bytes}
use Rattle.cj_log.specs.Logs.{LogState, IsBeforeOrAfter, KeepsItems}
use Rattle.cj_recovery.specs.Openings.{items_of, marker_item}

-- a book of which no session was given an own pass gives the next one
pub gives_next : (book : SeatedBook) → book.view.front ≡ book.state.history → book.view.last_given ≡ 0 → book.state.greatest + 1 ≡ session_after 0 book.state.history → GivesOwnPassesOnly book
gives_next book front none next = next ∙ sym (ap (λ (n : ℕ). session_after n book.view.front) none ∙ ap (session_after 0) front)

-- what is left before or after an append is kept in the bytes
module _ {S : Type 0} (h : List Event) (log : LogState S) (items : items_of h ≡ log.items) (image : List ℕ) (whole : last_write_failed h ≡ false → KeepsItems image (items_of h)) (left : (item : LogItem) → IsBeforeOrAfter log item image) where
  pub kept_left : IsKeptIn image h
  kept_left =
      let item : LogItem = marker_item 0 [] None in
      record {
        whole = whole;
        at_least =
            ⊎_elim (λ (same : KeepsItems image log.items). inl (subst (KeepsItems image) (sym items) same))
            (λ (more : KeepsItems image (log.items ++ item ∷ []) ⊎ (refused : LogItem) × (log.torn ≡ true) × (item_bytes refused ≡ log.refused) × KeepsItems image (log.items ++ refused ∷ [])).
            inr
            (⊎_elim (λ (one : KeepsItems image (log.items ++ item ∷ [])). (item, subst (λ (xs : List LogItem). KeepsItems image (xs ++ item ∷ [])) (sym items) one))
            (λ (q : (refused : LogItem) × (log.torn ≡ true) × (item_bytes refused ≡ log.refused) × KeepsItems image (log.items ++ refused ∷ [])).
            (q.0, subst (λ (xs : List LogItem). KeepsItems image (xs ++ q.0 ∷ [])) (sym items) q.3)) more)) (left item);
      }
