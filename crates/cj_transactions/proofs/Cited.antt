-- The names that answers of this crate cite, its own lemmas among them, passed on from one place. Declares nothing.
pub use Rattle.cj_model.specs.Cluster.Masks.{in_mask}
pub use Rattle.cj_place.specs.Layouts.{placement_of}
pub use Rattle.cj_transactions.proofs.Numbered.{changed, changed_rises, removed, removed_rises, rises_push, searched, unchanged, unremoved}
pub use Rattle.cj_transactions.proofs.TransactionSteps.{concerns_tx}
pub use Rattle.cj_transactions.specs.Lists.{IsIndexOf, TransactionList, book_session, new_tx, session_number, tx_number}
pub use Rattle.cj_transactions.specs.declared.sessions.BookSession.{BookSession}
pub use Rattle.std.proofs.lemmas.List.Sorted.{answers_always}
