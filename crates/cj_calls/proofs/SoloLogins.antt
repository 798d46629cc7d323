-- Under which logins the calls of a session's request reach the backends.
use Rattle.std.proofs.Common.{◌≡◌, inl, inr, ℕ, List, slice_get, Option, Some, Result, Ok, Err, ap, sym, ◌∙◌, ⊎_elim}
use Rattle.cj_model.specs.declared.account.Account.{Account}
use Rattle.cj_calls.proofs.Common.{AreCalledFor, Asked, AskError, CallsUnder, Did, login_of, AskedUnderLogin, LogsInToTake, MayCallUnder}
use Rattle.cj_cluster.specs.declared.moves.Did.TheVariants as did
use Rattle.cj_state.specs.declared.cells.AskError.TheVariants as errors
use Rattle.cj_moves.proofs.SameWorlds.{got_or_set}

module _ (accounts : List Account) (user : List ℕ) where
  pub called_none : (old new : List (Option (List ℕ))) → new ≡ old → AreCalledFor accounts user old new
  called_none old new same = λ b. inl (ap (λ xs. slice_get xs b) same)

  pub called_then : (old mid new : List (Option (List ℕ))) → AreCalledFor accounts user old mid → AreCalledFor accounts user mid new → AreCalledFor accounts user old new
  called_then old mid new x y = λ b. ⊎_elim (λ e. ⊎_elim (λ d. inl (e ∙ d)) (λ v. inr (e ∙ v)) (x b)) (λ v. inr v) (y b)

  called_under : (b : ℕ) (old new : List (Option (List ℕ))) → CallsUnder b (login_of accounts user b) old new → AreCalledFor accounts user old new
  called_under b old new calls =
      λ k.
      ⊎_elim (λ e. inl (ap (λ xs. slice_get xs k) calls ∙ e))
      (λ here. inr (ap (λ xs. slice_get xs k) calls ∙ (here.1 ∙ ap (λ (i : ℕ). Some (Some (login_of accounts user i))) (sym here.0))))
      (got_or_set old b k (Some (login_of accounts user b)))

  pub may_be_called : (b : ℕ) (old new : List (Option (List ℕ))) → MayCallUnder b (login_of accounts user b) old new → AreCalledFor accounts user old new
  may_be_called b old new calls = ⊎_elim (called_none old new) (called_under b old new) calls

  pub called_to_take : (b : ℕ) (d : Did) (old new : List (Option (List ℕ))) → LogsInToTake b (login_of accounts user b) d old new → AreCalledFor accounts user old new
  called_to_take b (did.Done o) old new logs = called_under b old new logs
  called_to_take b did.Skipped old new logs = called_none old new logs
  called_to_take b _ old new logs = may_be_called b old new logs

  pub called_to_ask : (b : ℕ) (r : Result (Asked × ℕ) AskError) (old new : List (Option (List ℕ))) → AskedUnderLogin b (login_of accounts user b) r old new → AreCalledFor accounts user old new
  called_to_ask b (Ok answered) old new logs = called_under b old new logs
  called_to_ask b (Err errors.Failed) old new logs = may_be_called b old new logs
  called_to_ask b (Err (errors.Unnoted n)) old new logs = may_be_called b old new logs
  called_to_ask b _ old new logs = called_none old new logs
