-- What a look at the book gives a query, and what the look leaves.
use Rattle.std.specs.Prelude.{◌≡◌, ◌≢◌, ℕ, ◌<◌, ◌&&◌, not, true, false, List}
use Rattle.cj_model.specs.declared.limits.TheConstants.{BACKEND_LIMIT}
use Rattle.cj_model.specs.declared.request.Request.TheVariants as request
use Rattle.cj_model.specs.declared.select.Select.{Select}
use Rattle.cj_model.specs.Cluster.Balancing.{Balance, IsFirst, is_ahead}
use Rattle.cj_model.specs.Cluster.Masks.{in_mask}
use Rattle.cj_model.specs.Cluster.Placements.{Placement}
use Rattle.cj_cluster.specs.declared.event.Event.{Event}
use Rattle.cj_cluster.specs.History.Answering.{CanServe, HasNoServer}
use Rattle.cj_book.specs.Books.{is_candidate, read_at, BookState, PicksOf}
use Rattle.cj_book.specs.News.{IsOwedAt}
use Rattle.cj_locked.specs.declared.look.Look.{Look}
use Rattle.cj_locked.specs.declared.look.Look.TheVariants.{Ask, Tried, Unserved}

-- ---- what the history says

-- the mask has exactly the backends that serve the query at history h
abbrev pub IsServing : Placement → List Event → Select → ℕ → Type 0
IsServing p h select mask = (b : ℕ) → (CanServe p h (request.Select select) b → in_mask mask b ≡ true) × (in_mask mask b ≡ true → CanServe p h (request.Select select) b)

-- backend b serves the query, and was not tried
pub record IsUntried (p : Placement) (h : List Event) (select : Select) (tried b : ℕ) : Type 0 where
  pub below : b < BACKEND_LIMIT
  pub serves : CanServe p h (request.Select select) b
  pub untried : in_mask tried b ≡ false

-- the mask has those that serve the query, of whom there are some, and each was tried
pub record AreAllTried (p : Placement) (h : List Event) (select : Select) (tried mask : ℕ) : Type 0 where
  pub some : mask ≢ 0
  pub serving : IsServing p h select mask
  pub each : (b : ℕ) → in_mask mask b ≡ true → in_mask tried b ≡ true

-- where a query may be answered at history h, of which its session owes the position `least`
abbrev pub IsLookAt : Placement → List Event → Select → ℕ → ℕ → Look → Type 0
IsLookAt p h select least tried (Ask b n) = IsUntried p h select tried b × IsOwedAt h least n
IsLookAt p h select least tried (Tried mask) = AreAllTried p h select tried mask
IsLookAt p h select least tried Unserved = HasNoServer p h (request.Select select)

-- ---- what the look leaves

-- the balancer picks backend b of those that serve the query and were not tried, and a read begins there
pub record PicksUntried (old : BookState) (select : Select) (tried b : ℕ) (balance : Balance) : Type 0 where
  pub candidates : ℕ
  pub are : (k : ℕ) → in_mask candidates k ≡ (is_candidate old select.tables k && not (in_mask tried k))
  pub first : IsFirst (is_ahead old.balance.policy old.balance.weights old.balance.standing) candidates b
  pub stands : balance ≡ read_at old.balance b

-- the balancer picks where a backend is to be asked, and only there
abbrev pub PicksFor : BookState → Select → ℕ → Look → Balance → Type 0
PicksFor old select tried (Ask b n) balance = PicksUntried old select tried b balance
PicksFor old select tried (Tried mask) balance = balance ≡ old.balance
PicksFor old select tried Unserved balance = balance ≡ old.balance

-- what a look leaves: but for the balancer all is as before
pub record LooksAt (old : BookState) (select : Select) (tried : ℕ) (look : Look) (new : BookState) : Type 0 where
  pub balance : PicksFor old select tried look new.balance
  pub same : new ≡ record old { balance = new.balance }

-- ---- its part

-- one of those that serve and were not tried is picked, by the balancer; or each was tried, and the book is as before
abbrev pub IsPickOf : BookState → ℕ → ℕ → ℕ → Look → BookState → Type 0
IsPickOf old serving tried owed (Ask b n) new = (n ≡ owed) × (in_mask serving b ≡ true) × (in_mask tried b ≡ false) × (candidates : ℕ) × ((k : ℕ) → in_mask candidates k ≡ (in_mask serving k && not (in_mask tried k))) × PicksOf old new candidates b
IsPickOf old serving tried owed (Tried mask) new = (mask ≡ serving) × (new ≡ old) × ((b : ℕ) → in_mask serving b ≡ true → in_mask tried b ≡ true)
IsPickOf old serving tried owed Unserved new = ⊥
