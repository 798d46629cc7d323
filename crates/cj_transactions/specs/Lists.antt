-- What a book keeps of its sessions and transactions, as lists.
use Rattle.std.specs.Prelude.{◌≡◌, ℕ, ◌<◌, ◌==◌, not, List, [], ◌∷◌, ◌++◌, length, map, filter, find, slice_get, bit_or, if◌then◌else◌}
use Rattle.std.specs.declared.option.Option.{Option}
use Rattle.std.specs.declared.option.Option.TheVariants.{None, Some}
use Rattle.std.specs.Ordering.{nat_cmp}
use Rattle.std.specs.declared.cmp.Ordering.{Ordering}
use Rattle.cj_model.specs.declared.request.Act.{Act}
use Rattle.cj_model.specs.declared.request.Act.TheVariants as act
use Rattle.cj_model.specs.declared.request.Entry.{Entry}
use Rattle.cj_transactions.specs.declared.sessions.BookSession.{BookSession}
use Rattle.cj_transactions.specs.declared.transactions.OpenTransaction.{OpenTransaction}

-- ---- items with a number

-- the order of items by their numbers
abbrev pub by_number : {A : Type 0} → (A → ℕ) → A → A → Ordering
by_number number x y = nat_cmp (number x) (number y)

-- the item of a number
abbrev pub numbered : {A : Type 0} → (A → ℕ) → List A → ℕ → Option A
numbered number xs n = find (λ x. number x == n) xs

-- the items without those of a number
abbrev pub without : {A : Type 0} → (A → ℕ) → ℕ → List A → List A
without number n xs = filter (λ x. not (number x == n)) xs

-- the item of this number is at this index
pub record IsIndexOf {A : Type 0} (number : A → ℕ) (xs : List A) (n place : ℕ) : Type 0 where
  pub within : place < length xs
  pub found : numbered number xs n ≡ slice_get xs place

-- ---- sessions

-- the number of a session
abbrev pub session_number : BookSession → ℕ
session_number s = s.number

-- a session with no transaction
abbrev pub book_session : ℕ → BookSession
book_session n = record { number = n; tx = 0 }

-- the session of a number has this transaction open
abbrev pub with_tx : ℕ → ℕ → List BookSession → List BookSession
with_tx n tx ss = map (λ (s : BookSession). if session_number s == n then record s { tx = tx } else s) ss

-- the sessions after entry n of the log
abbrev pub sessions_after : List BookSession → ℕ → Entry → Act → List BookSession
sessions_after ss n e act.Begin = with_tx e.session n ss
sessions_after ss n e (act.Write w) = ss
sessions_after ss n e (act.Create c) = ss
sessions_after ss n e (act.Drop table) = ss
sessions_after ss n e act.Commit = with_tx e.session 0 ss
sessions_after ss n e act.Abort = with_tx e.session 0 ss

-- ---- transactions

-- the number of a transaction, which is that of its BEGIN entry
abbrev pub tx_number : OpenTransaction → ℕ
tx_number t = t.number

-- a transaction that has written nothing
abbrev pub new_tx : ℕ → ℕ → OpenTransaction
new_tx n session = record { number = n; session = session; wrote = 0 }

-- the transaction of a number wrote at these backends too
abbrev pub with_wrote : ℕ → ℕ → List OpenTransaction → List OpenTransaction
with_wrote n hosts ts = map (λ (t : OpenTransaction). if tx_number t == n then record t { wrote = bit_or t.wrote hosts } else t) ts

-- the backends at which the transaction of a number wrote
abbrev pub wrote_of : Option OpenTransaction → ℕ
wrote_of None = 0
wrote_of (Some t) = t.wrote

-- the transactions after entry n of the log, which concerns these backends
abbrev pub transactions_after : List OpenTransaction → ℕ → ℕ → Entry → Act → List OpenTransaction
transactions_after ts n hosts e act.Begin = ts ++ new_tx n e.session ∷ []
transactions_after ts n hosts e (act.Write w) = with_wrote e.tx hosts ts
transactions_after ts n hosts e (act.Create c) = ts
transactions_after ts n hosts e (act.Drop table) = ts
transactions_after ts n hosts e act.Commit = without tx_number e.tx ts
transactions_after ts n hosts e act.Abort = without tx_number e.tx ts

-- the open transactions, and for how many more there is a place
pub record TransactionList : Type 0 where
  pub list : List OpenTransaction
  pub places : ℕ
