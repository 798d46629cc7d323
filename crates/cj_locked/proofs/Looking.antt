-- What a look at the book gives a query.
use Rattle.std.proofs.Common.{◌≡◌, ◌≢◌, ℕ, ◌<◌, ◌≤◌, ◌^◌, ◌&&◌, not, max, Bool, true, false, List, length, refl, ap, sym, ◌∙◌, subst, arith}
use mathlib.Core.List.{IsPrefix}
use Rattle.std.proofs.lemmas.Bool.{and_parts, not-true}
use Rattle.cj_model.specs.declared.limits.TheConstants.{BACKEND_LIMIT}
use Rattle.cj_model.specs.declared.request.Request.TheVariants as request
use Rattle.cj_model.specs.declared.select.Select.{Select}
use Rattle.cj_model.specs.Cluster.Masks.{in_mask}
use Rattle.cj_model.specs.Cluster.Placements.{hosts_all, Placement}
use Rattle.cj_model.proofs.Masks.{has-zero}
use Rattle.cj_cluster.specs.declared.event.Event.{Event}
use Rattle.cj_cluster.specs.History.Answering.{HasNoServer}
use Rattle.cj_cluster.specs.History.Histories.{ended_count, is_enabled, log}
use Rattle.cj_cluster.specs.History.Legality.{IsLegal}
use Rattle.cj_cluster.proofs.Pushed.{log-prefix, prefix_length}
use Rattle.cj_board.proofs.OpenEntry.{one_open}
use Rattle.cj_book.specs.Books.{is_candidate, placement_at, BookState, PicksOf}
use Rattle.cj_book.specs.News.{IsOwedAt}
use Rattle.cj_book.proofs.Serving.{mask_below, picked_below}
use Rattle.cj_locked.specs.declared.look.Look.{Look}
use Rattle.cj_locked.specs.declared.look.Look.TheVariants.{Ask, Tried, Unserved}
use Rattle.cj_locked.specs.Looking.{IsLookAt, IsPickOf, IsServing, LooksAt, PicksFor}

-- ---- a pick

-- what is left of a mask of backends
pub rest_below : (m k r : ℕ) → m < 2 ^ BACKEND_LIMIT → ((b : ℕ) → in_mask r b ≡ (in_mask m b && not (in_mask k b))) → r < 2 ^ BACKEND_LIMIT
rest_below m k r lt is = mask_below r (λ b on. picked_below m b lt (and_parts (in_mask m b) (not (in_mask k b)) (sym (is b) ∙ on)).0)

second_on : (p q : Bool) → p ≡ true → (p && not q) ≡ false → q ≡ true
second_on true true on off = refl
second_on true false on off = absurd (cc off)
second_on false q on off = absurd (cc on)

second_off : (p q : Bool) → p ≡ true → (p && q) ≡ false → q ≡ false
second_off true q on off = off
second_off false q on off = absurd (cc on)

and_given : (p q : Bool) → p ≡ true → q ≡ true → (p && q) ≡ true
and_given p q a b = rw (a, b) refl

module _ (old new : BookState) (serving tried rest owed : ℕ) (are : (b : ℕ) → in_mask rest b ≡ (in_mask serving b && not (in_mask tried b))) where
  pub picks_some : (b : ℕ) → PicksOf old new rest b → IsPickOf old serving tried owed (Ask b owed) new
  picks_some b picks =
      let parts = and_parts (in_mask serving b) (not (in_mask tried b)) (sym (are b) ∙ picks.first.candidate) in
      (refl, parts.0, not-true (in_mask tried b) parts.1, rest, are, picks)

  pub picks_none : rest ≡ 0 → new ≡ old → IsPickOf old serving tried owed (Tried serving) new
  picks_none none same = (refl, same, λ b on. second_on (in_mask serving b) (in_mask tried b) on (sym (are b) ∙ (ap (λ m. in_mask m b) none ∙ has-zero b)))

-- a pick leaves all but the balance
pub picked_state : (old : BookState) (serving tried owed : ℕ) (look : Look) (new : BookState) → IsPickOf old serving tried owed look new → new ≡ record old { balance = new.balance }
picked_state old serving tried owed (Ask b n) new picks = let is = picks.5.stands in is ∙ ap (λ (x : BookState). record old { balance = x.balance }) (sym is)
picked_state old serving tried owed (Tried mask) new picks = let is = picks.1 in is ∙ ap (λ (x : BookState). record old { balance = x.balance }) (sym is)
picked_state old serving tried owed Unserved new picks = absurd picks

pub picked_history : (old : BookState) (serving tried owed : ℕ) (look : Look) (new : BookState) → IsPickOf old serving tried owed look new → new.history ≡ old.history
picked_history old serving tried owed look new picks = ap (λ (x : BookState). x.history) (picked_state old serving tried owed look new picks)

-- ---- a look

module _ (old : BookState) (legal : IsLegal old.history) (select : Select) (least tried serving : ℕ) (are : (b : ℕ) → in_mask serving b ≡ is_candidate old select.tables b) (few : serving < 2 ^ BACKEND_LIMIT) where
  abbrev p : Placement
  p = placement_at old

  abbrev h : List Event
  h = old.history

  serves : IsServing p h select serving
  serves b = (
    λ can. are b ∙ and_given (is_enabled h b) (hosts_all p b select.tables) can.0 can.1,
    λ on. and_parts (is_enabled h b) (hosts_all p b select.tables) (sym (are b) ∙ on),
  )

  none_serves : serving ≡ 0 → HasNoServer p h (request.Select select)
  none_serves none = (refl, λ b on. second_off (is_enabled h b) (hosts_all p b select.tables) on (sym (are b) ∙ (ap (λ m. in_mask m b) none ∙ has-zero b)))

  -- ---- nobody serves it

  pub unserved_at : serving ≡ 0 → IsLookAt p h select least tried Unserved
  unserved_at none = none_serves none

  pub unserved_leaves : (new : BookState) → new ≡ old → LooksAt old select tried Unserved new
  unserved_leaves new same = subst (LooksAt old select tried Unserved) (sym same) (record { balance = refl; same = refl })

  module _ (owed : ℕ) where
    -- ---- where it may be answered

    module _ (some : serving ≢ 0) (is : owed ≡ max least (ended_count h)) (known : least ≤ length (log h)) where
      owed_at : IsOwedAt h least owed
      owed_at = let one : ended_count h ≤ length (log h) = (one_open h legal).0 in record { owed = omega (arith, is); past = omega (arith, is); within = omega (arith, is, known, one) }

      pub picked_at : (look : Look) (new : BookState) → IsPickOf old serving tried owed look new → IsLookAt p h select least tried look
      picked_at (Ask b n) new picks = (record { below = picked_below serving b few picks.1; serves = (serves b).1 picks.1; untried = picks.2 }, subst (IsOwedAt h least) (sym picks.0) owed_at)
      picked_at (Tried mask) new picks = record {
        some = subst (λ m. m ≢ 0) (sym picks.0) some;
        serving = subst (IsServing p h select) (sym picks.0) serves;
        each = λ b on. picks.2 b (subst (λ m. in_mask m b ≡ true) picks.0 on);
      }
      picked_at Unserved new picks = absurd picks

    -- ---- what that leaves

    picks_for : (look : Look) (new : BookState) → IsPickOf old serving tried owed look new → PicksFor old select tried look new.balance
    picks_for (Ask b n) new picks = record {
      candidates = picks.3;
      are = λ k. picks.4 k ∙ ap (λ x. x && not (in_mask tried k)) (are k);
      first = picks.5.first;
      stands = ap (λ (x : BookState). x.balance) picks.5.stands;
    }
    picks_for (Tried mask) new picks = ap (λ (x : BookState). x.balance) picks.1
    picks_for Unserved new picks = absurd picks

    pub picked_leaves : (look : Look) (new : BookState) → IsPickOf old serving tried owed look new → LooksAt old select tried look new
    picked_leaves look new picks = record { balance = picks_for look new picks; same = picked_state old serving tried owed look new picks }

-- what is right at the book's placement, by the layout that is named
pub look_laid : (p q : Placement) (h : List Event) (select : Select) (least tried : ℕ) (look : Look) → p ≡ q → IsLookAt p h select least tried look → IsLookAt q h select least tried look
look_laid p q h select least tried look laid at = subst (λ (x : Placement). IsLookAt x h select least tried look) laid at

-- ---- what a pass had seen

pub within_on : (F H : List Event) (n : ℕ) → IsPrefix F H → n ≤ length (log F) → n ≤ length (log H)
within_on F H n longer within = let more = prefix_length (log F) (log H) (log-prefix F H longer) in omega arith
