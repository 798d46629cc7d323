-- An opening history grows by one item.
use Rattle.std.proofs.Common.{◌≡◌, ℕ, suc, ◌+◌, ◌^◌, ◌≤◌, true, List, [], ◌∷◌, ◌++◌, length, refl, ap, sym, ◌∙◌, subst, arith, append_assoc, length-append}
use Rattle.std.proofs.lemmas.Bool.{eq-eqb, both_ways}
use Rattle.cj_recovery.proofs.Common.{Event, LogItem}
use Rattle.cj_model.specs.Cluster.Masks.{in_mask}
use Rattle.cj_model.proofs.Masks.{has-zero}
use Rattle.cj_cluster.specs.declared.event.Event.TheVariants.{Sched, Ended, ReadFailed, LogFailed, Disabled, Enabled, Marker}
use Rattle.cj_cluster.specs.History.Histories.{log, ended_count, is_free, masks_of_ends}
use Rattle.cj_cluster.specs.History.Legality.{AreFitMasks, IsLegal}
use Rattle.cj_cluster.proofs.Pushed.{free-sched, legal_push, length-ends}
use Rattle.cj_log.specs.declared.item.LogItem.TheVariants as items
use Rattle.cj_recovery.specs.Openings.{entry_item, marker_item, items_behind, IsOpening, OpensTo, HasBadEntry}
use Rattle.cj_recovery.specs.Proving.Steps.{Brings, BringsNothing}
use Rattle.cj_recovery.proofs.Fronts.{opens_last}
use Rattle.cj_recovery.proofs.OneOpening.{items_fix}

-- no entry of an opening history is open
ends_of : (h : List Event) → IsOpening h → length (masks_of_ends h) ≡ length (log h)
ends_of [] o = refl
ends_of (Sched e ∷ Ended f s ∷ h) o = ap suc (ends_of h o.2)
ends_of (Marker name b ∷ h) o = ends_of h o
ends_of _ o = absurd o

pub idle_opening : (h : List Event) → IsOpening h → is_free h ≡ true
idle_opening h o = eq-eqb (ended_count h) (length (log h)) (sym (length-ends h) ∙ ends_of h o)

-- opening histories one behind the other
opening_append : (h g : List Event) → IsOpening h → IsOpening g → IsOpening (h ++ g)
opening_append [] g o p = p
opening_append (Sched e ∷ Ended f s ∷ h) g o p = (o.0, o.1, opening_append h g o.2 p)
opening_append (Marker name b ∷ h) g o p = opening_append h g o p
opening_append _ g o p = absurd o

-- the items of events one behind the other
pub items_append : (n : ℕ) (h g : List Event) → items_behind n (h ++ g) ≡ items_behind n h ++ items_behind (n + length (log h)) g
items_append n [] g = let e : n + 0 ≡ n = omega arith in ap (λ (k : ℕ). items_behind k g) (sym e)
items_append n (Sched e ∷ h) g =
    let count : n + 1 + length (log h) ≡ n + suc (length (log h)) = omega arith in
    ap (λ (l : List LogItem). entry_item (n + 1) e ∷ l) (items_append (n + 1) h g ∙ ap (λ (k : ℕ). items_behind (n + 1) h ++ items_behind k g) count)
items_append n (Ended f s ∷ h) g = items_append n h g
items_append n (ReadFailed s q b ∷ h) g = items_append n h g
items_append n (LogFailed s q ∷ h) g = items_append n h g
items_append n (Disabled b ∷ h) g = items_append n h g
items_append n (Enabled b ∷ h) g = items_append n h g
items_append n (Marker name b ∷ h) g = ap (λ (l : List LogItem). marker_item n name b ∷ l) (items_append n h g)

-- no backend failed
no_masks : (h : List Event) → AreFitMasks h 0 0
no_masks h b = (λ on. absurd (both_ways (in_mask 0 b) (has-zero b) on), λ on. absurd (both_ways (in_mask 0 b) (has-zero b) on))

-- what the item brings comes legally
legal_more : (h events : List Event) (item : LogItem) → IsLegal h → IsOpening h → length h + 2 ≤ 2 ^ 62 → Brings h item events → IsLegal (h ++ events)
legal_more h events (items.Entry x) l o short b =
    let e = b.0 in
    let one : IsLegal (h ++ Sched e ∷ []) = legal_push h (Sched e) l (omega arith) (idle_opening h o, b.1.fit) in
    let n : length (h ++ Sched e ∷ []) ≡ length h + 1 = length-append h (Sched e ∷ []) in
    let two : IsLegal ((h ++ Sched e ∷ []) ++ Ended 0 0 ∷ []) = legal_push (h ++ Sched e ∷ []) (Ended 0 0) one (omega arith) (free-sched h e (idle_opening h o), no_masks (h ++ Sched e ∷ [])) in
    subst IsLegal (append_assoc h (Sched e ∷ []) (Ended 0 0 ∷ []) ∙ ap (λ (es : List Event). h ++ es) (sym b.2)) two
legal_more h events (items.Marker m) l o short b =
    subst (λ (es : List Event). IsLegal (h ++ es)) (sym b.1) (legal_push h (Marker m.name m.b) l (omega arith) (idle_opening h o, b.0.new_name))

-- it is an opening history
opening_brought : (h events : List Event) (item : LogItem) → Brings h item events → IsOpening events
opening_brought h events (items.Entry x) b = subst IsOpening (sym b.2) (refl, refl, tt)
opening_brought h events (items.Marker m) b = subst IsOpening (sym b.1) tt

-- and has the item
items_brought : (h events : List Event) (item : LogItem) → Brings h item events → items_behind (length (log h)) events ≡ item ∷ []
items_brought h events (items.Entry x) b = ap (λ (es : List Event). items_behind (length (log h)) es) b.2 ∙ ap (λ (i : LogItem). i ∷ []) (sym b.1.is)
items_brought h events (items.Marker m) b =
    ap (λ (es : List Event). items_behind (length (log h)) es) b.1 ∙ ap (λ (n : ℕ). marker_item n m.name m.b ∷ []) (sym b.0.after)

-- the history that the items open with, and the events that one more brings, are what the longer list opens with
pub opens_more : (xs : List LogItem) (item : LogItem) (h events : List Event) → OpensTo xs h → length h + 2 ≤ 2 ^ 62 → Brings h item events → OpensTo (xs ++ item ∷ []) (h ++ events)
opens_more xs item h events o short b =
    let count : 0 + length (log h) ≡ length (log h) = omega arith in
    record {
      legal = legal_more h events item o.legal o.opening short b;
      opening = opening_append h events o.opening (opening_brought h events item b);
      same = items_append 0 h events
          ∙ (ap (λ (n : ℕ). items_behind 0 h ++ items_behind n events) count ∙ (ap (λ (l : List LogItem). items_behind 0 h ++ l) (items_brought h events item b) ∙ ap (λ (l : List LogItem). l ++ item ∷ []) o.same));
    }

-- where the item can't come next it is a bad entry
pub bad_next : (before later all : List LogItem) (item : LogItem) (h : List Event) (n : ℕ) → OpensTo before h → all ≡ before ++ item ∷ later → n ≡ length (log h) + 1 → BringsNothing h item → HasBadEntry all n
bad_next before later all item h n o parts number nothing = record {
  before = before;
  item = item;
  later = later;
  h = h;
  parts = parts;
  opens = o;
  number = number;
  none = λ g opens. (let q = opens_last before item g opens in
      let same : q.0 ≡ h = items_fix before q.0 h q.2 o in
      nothing q.1 (subst (λ (k : List Event). Brings k item q.1) same q.3));
}

-- an opening history is at most twice as long as its items
pub brought_short : (h events : List Event) (item : LogItem) → Brings h item events → length events ≤ 2
brought_short h events (items.Entry x) b = let n = ap length b.2 in omega arith
brought_short h events (items.Marker m) b = let n = ap length b.1 in omega arith
