-- Own passes count their sessions' events, at each step.
use Rattle.std.proofs.Common.{◌≡◌, ◌≢◌, ℕ, zero, suc, ◌+◌, ◌<◌, ◌≤◌, Bool, true, false, not, ◌==◌, eqb, cond, List, [], ◌∷◌, ◌++◌, length, get_or, set, filter, refl, sym, ap, ◌∙◌, subst, arith, All, Contains, eq-eqb, ne_eqb, eqb-true, ◌⊎◌, inl, inr, ⊎_elim}
use mathlib.Core.Logic.{dite}
use mathlib.Core.Option.{some}
use native.Mathlib.Decide.{ℕ_discrete, dec_le}
use lib.ListN.{get_elem?}
use Rattle.std.proofs.lemmas.List.Elements.{All-nil, All-append, All-cons, All-contains, All-filter, All-contains_itself}
use Rattle.cj_board.proofs.Common.{Book, Cell, Event, Pass, Role, SeatView, event_count_of}
use Rattle.cj_board.specs.Points.{KnowsGiven, IsCountNote, CountsSessions, OwnPassesCount, HasSeat, SeatsAreKnown}
use Rattle.cj_board.specs.Steps.{HasCountNotes}
use Rattle.cj_board.specs.Views.{count_note_of, IsBook, IsNotBook, cells_made, next_session}
use Rattle.cj_board.proofs.EachSeat.{each_set, each_more}
use Rattle.cj_board.proofs.KnownSeats.{put, put_else, put_here, not_book}
use Rattle.cj_board.proofs.Counts.{next_has_none}

-- nothing that this point reads has changed
pub record SameCounts (v w : SeatView) : Type 0 where
  pub books : (g : List ℕ) (l : ℕ) → KnowsGiven g l v.role v.given v.last_given → KnowsGiven g l w.role w.given w.last_given
  pub own : w.own_session ≡ v.own_session
  pub count : w.count ≡ v.count
  pub notes : w.count_notes ≡ v.count_notes

module _ (given : List ℕ) (last : ℕ) (holder count_of : ℕ → ℕ) where
  counts_same : (j : ℕ) (v w : SeatView) → SameCounts v w → CountsSessions given last holder count_of j v → CountsSessions given last holder count_of j w
  counts_same j v w e s = record {
    book = e.books given last s.book;
    own = subst (λ (z : ℕ × ℕ). 0 < z.0 → (j ≡ holder z.0) × (z.1 ≡ count_of z.0) × Contains given z.0) (λ k. (sym e.own k, sym e.count k)) s.own;
    notes = subst (λ (z : List (ℕ × ℕ)). All (IsCountNote last count_of) z) (sym e.notes) s.notes;
  }

  -- a view that is no book's and no own pass
  counts_nothing : (j : ℕ) (w : SeatView) → IsNotBook w.role → w.own_session ≡ 0 → All (IsCountNote last count_of) w.count_notes → CountsSessions given last holder count_of j w
  counts_nothing j w not own notes = record { book = no_book w.role not; own = λ lt. absurd (omega arith); notes = notes }
    where
      no_book : (r : Role) → IsNotBook r → KnowsGiven given last r w.given w.last_given
      no_book (Book m) not = absurd (not m refl)
      no_book (Cell b p) not = tt
      no_book Pass not = tt

  -- the note of an own pass
  own_note : (own k : ℕ) → All (λ s. s ≤ last) given → (0 < own → (k ≡ count_of own) × Contains given own) → All (IsCountNote last count_of) (count_note_of own k)
  own_note own k members owns = dite (ℕ_discrete own 0)
      (λ e. subst (λ (b : Bool). All (IsCountNote last count_of) (cond b [] ((own, k) ∷ []))) (sym (eq-eqb own 0 e)) (All-nil (IsCountNote last count_of)))
      (λ ne. subst (λ (b : Bool). All (IsCountNote last count_of) (cond b [] ((own, k) ∷ []))) (sym (ne_eqb own 0 ne))
      (let o = owns (omega arith) in let same = o.0 in let top = All-contains (λ s. s ≤ last) given own members o.1 in All-cons (IsCountNote last count_of) (own, k) [] (omega arith, top) (All-nil (IsCountNote last count_of))))

  -- the notes of a view, and that of its own pass
  all_notes : (j : ℕ) (v : SeatView) → All (λ s. s ≤ last) given → CountsSessions given last holder count_of j v → All (IsCountNote last count_of) (v.count_notes ++ count_note_of v.own_session v.count)
  all_notes j v members mine = All-append (IsCountNote last count_of) v.count_notes (count_note_of v.own_session v.count) mine.notes (own_note v.own_session v.count members (λ lt. let o = mine.own lt in (o.1, o.2)))

-- an event that a session with an own pass has more is counted
enough : (given : List ℕ) (last : ℕ) (count_of : ℕ → ℕ) (h : List Event) (e : Event) (notes : List (ℕ × ℕ)) → All (IsCountNote last count_of) notes → HasCountNotes given h notes e → ((s : ℕ) → Contains given s → event_count_of s h ≤ count_of s)
    → (s : ℕ) → Contains given s → event_count_of s (h ++ e ∷ []) ≤ count_of s
enough given last count_of h e notes all has old s in_given = let o = old s in_given in dite (dec_le (event_count_of s (h ++ e ∷ [])) (event_count_of s h))
    (λ le. omega arith)
    (λ more. let note = has s in_given (omega arith) in let high = All-contains (IsCountNote last count_of) notes (s, note.0) all note.1 in let up = high.0 in let top = note.2 in omega arith)

module _ (h : List Event) (vs : List SeatView) where
  pub counts_append : (i : ℕ) (e : Event) (v w : SeatView) → OwnPassesCount h vs → get_elem? vs i ≡ some v → IsBook v.role → HasCountNotes v.given h v.count_notes e → SameCounts v w → OwnPassesCount (h ++ e ∷ []) (set vs i w)
  counts_append i e v w p at book has same =
      let F = CountsSessions p.given p.last p.holder p.count_of in
      let mine = p.seats i v at in
      let knows : KnowsGiven p.given p.last (Book (cells_made v.role)) v.given v.last_given = subst (λ (r : Role). KnowsGiven p.given p.last r v.given v.last_given) book mine.book in
      record {
        given = p.given;
        last = p.last;
        holder = p.holder;
        count_of = p.count_of;
        seats = each_set F F vs i w p.seats (λ j u _ x. x) (counts_same p.given p.last p.holder p.count_of i v w same mine);
        counted = enough p.given p.last p.count_of h e v.count_notes mine.notes (subst (λ (g : List ℕ). HasCountNotes g h v.count_notes e) knows.0 has) p.counted;
        members = p.members;
      }

  -- the history stays
  pub counts_set : (i : ℕ) (v w : SeatView) → OwnPassesCount h vs → get_elem? vs i ≡ some v → SameCounts v w → OwnPassesCount h (set vs i w)
  counts_set i v w p at same = let F = CountsSessions p.given p.last p.holder p.count_of in record {
    given = p.given;
    last = p.last;
    holder = p.holder;
    count_of = p.count_of;
    seats = each_set F F vs i w p.seats (λ j u _ x. x) (counts_same p.given p.last p.holder p.count_of i v w same (p.seats i v at));
    counted = p.counted;
    members = p.members;
  }

  -- a new view that is no own pass
  pub counts_split : (i : ℕ) (v w u : SeatView) → OwnPassesCount h vs → get_elem? vs i ≡ some v → SameCounts v w → u.own_session ≡ 0 → IsNotBook u.role → (u.count_notes ≡ v.count_notes ++ count_note_of v.own_session v.count) ⊎ (u.count_notes ≡ []) → OwnPassesCount h (set vs i w ++ u ∷ [])
  counts_split i v w u p at same none not notes =
      let F = CountsSessions p.given p.last p.holder p.count_of in
      let G = IsCountNote p.last p.count_of in
      let mine = p.seats i v at in
      record {
        given = p.given;
        last = p.last;
        holder = p.holder;
        count_of = p.count_of;
        seats = each_more F F (set vs i w) u (each_set F F vs i w p.seats (λ j z _ x. x) (counts_same p.given p.last p.holder p.count_of i v w same mine)) (λ j z _ x. x)
            (counts_nothing p.given p.last p.holder p.count_of (length (set vs i w)) u not none (⊎_elim
            (λ (e : u.count_notes ≡ v.count_notes ++ count_note_of v.own_session v.count). subst (λ (xs : List (ℕ × ℕ)). All G xs) (sym e) (all_notes p.given p.last p.holder p.count_of i v p.members mine))
            (λ (e : u.count_notes ≡ []). subst (λ (xs : List (ℕ × ℕ)). All G xs) (sym e) (All-nil G))
            notes));
        counted = p.counted;
        members = p.members;
      }

  -- another view is taken in
  pub counts_join : (i k : ℕ) (v w both spent : SeatView) → OwnPassesCount h vs → get_elem? vs i ≡ some v → get_elem? vs k ≡ some w → both.role ≡ v.role → both.own_session ≡ v.own_session → both.count ≡ v.count → both.given ≡ v.given → both.last_given ≡ v.last_given
      → both.count_notes ≡ v.count_notes ++ w.count_notes → IsNotBook spent.role → spent.own_session ≡ 0 → spent.count_notes ≡ [] → OwnPassesCount h (set (set vs i both) k spent)
  counts_join i k v w both spent p at there role own count given last notes not none no_notes =
      let F = CountsSessions p.given p.last p.holder p.count_of in
      let G = IsCountNote p.last p.count_of in
      let mine = p.seats i v at in
      let theirs = p.seats k w there in
      record {
        given = p.given;
        last = p.last;
        holder = p.holder;
        count_of = p.count_of;
        seats = each_set F F (set vs i both) k spent
            (each_set F F vs i both p.seats (λ j z _ x. x) record {
              book = subst (λ (z : Role × List ℕ × ℕ). KnowsGiven p.given p.last z.0 z.1 z.2) (λ k. (sym role k, sym given k, sym last k)) mine.book;
              own = subst (λ (z : ℕ × ℕ). 0 < z.0 → (i ≡ p.holder z.0) × (z.1 ≡ p.count_of z.0) × Contains p.given z.0) (λ k. (sym own k, sym count k)) mine.own;
              notes = subst (λ (xs : List (ℕ × ℕ)). All G xs) (sym notes) (All-append G v.count_notes w.count_notes mine.notes theirs.notes);
            })
            (λ j z _ x. x) (counts_nothing p.given p.last p.holder p.count_of k spent not none (subst (λ (xs : List (ℕ × ℕ)). All G xs) (sym no_notes) (All-nil G)));
        counted = p.counted;
        members = p.members;
      }

  -- an own pass counts one more
  pub counts_up : (i : ℕ) (v w : SeatView) → OwnPassesCount h vs → get_elem? vs i ≡ some v → w.role ≡ v.role → w.own_session ≡ v.own_session → w.count_notes ≡ v.count_notes → w.given ≡ v.given → w.last_given ≡ v.last_given → w.count ≡ v.count + 1 → 0 < v.own_session
      → OwnPassesCount h (set vs i w)
  counts_up i v w p at role own notes given last count is_own =
      let s : ℕ = v.own_session in
      let n : ℕ = v.count + 1 in
      let mine = p.seats i v at in
      let o = mine.own is_own in
      let count' : ℕ → ℕ = put p.count_of s n in
      let F = CountsSessions p.given p.last p.holder p.count_of in
      let G = CountsSessions p.given p.last p.holder count' in
      let up : (t : ℕ) → p.count_of t ≤ count' t = λ t. dite (ℕ_discrete t s)
      (λ e. let a : count' t ≡ n = ap count' e ∙ put_here p.count_of s n in let b : p.count_of t ≡ v.count = ap p.count_of e ∙ sym o.1 in omega arith)
      (λ ne. let a = put_else p.count_of s n t ne in omega arith) in
      let raise : (xs : List (ℕ × ℕ)) → All (IsCountNote p.last p.count_of) xs → All (IsCountNote p.last count') xs = λ xs a k d lt. let x = a k d lt in let y = up (get_or xs k d).0 in (omega arith, x.1) in
      record {
        given = p.given;
        last = p.last;
        holder = p.holder;
        count_of = count';
        seats = each_set F G vs i w p.seats
            (λ j u ne x. record {
              book = x.book;
              own = λ lt. let y = x.own lt in (y.0, y.1 ∙ sym (put_else p.count_of s n u.own_session (λ e. ne (y.0 ∙ (ap p.holder e ∙ sym o.0)))), y.2);
              notes = raise u.count_notes x.notes;
            })
            record {
              book = subst (λ (z : Role × List ℕ × ℕ). KnowsGiven p.given p.last z.0 z.1 z.2) (λ k. (sym role k, sym given k, sym last k)) mine.book;
              own = λ lt. (o.0 ∙ ap p.holder (sym own), count ∙ (sym (put_here p.count_of s n) ∙ ap count' (sym own)), subst (Contains p.given) (sym own) o.2);
              notes = subst (λ (xs : List (ℕ × ℕ)). All (IsCountNote p.last count') xs) (sym notes) (raise v.count_notes mine.notes);
            };
        counted = λ t c. let a = p.counted t c in let b = up t in omega arith;
        members = p.members;
      }

-- ---- the sessions that have an own pass

in_cons : (s x : ℕ) (xs : List ℕ) → Contains (s ∷ xs) x → (s ≡ x) ⊎ Contains xs x
in_cons s x xs (zero, lt, e) = inl e
in_cons s x xs (suc k, lt, e) = inr (k, omega arith, e)

cons_in : (s x : ℕ) (xs : List ℕ) → Contains xs x → Contains (s ∷ xs) x
cons_in s x xs c = let lt = c.1 in (suc c.0, omega arith, c.2)

abbrev others : ℕ → List ℕ → List ℕ
others s xs = filter (λ t. not (t == s)) xs

others_in : (s : ℕ) (xs : List ℕ) → All (Contains xs) (others s xs)
others_in s xs = All-filter (λ t. not (t == s)) (Contains xs) xs (All-contains_itself xs)

in_others : (s x : ℕ) (xs : List ℕ) → Contains xs x → x ≢ s → Contains (others s xs) x
in_others s x [] c ne = c
in_others s x (y ∷ ys) c ne = by_test (λ d. in_others s x ys d ne) (eqb y s) refl (in_cons y x ys c)
  where
    by_test : (Contains ys x → Contains (others s ys) x) → (b : Bool) → eqb y s ≡ b → (y ≡ x) ⊎ Contains ys x → Contains (cond (not b) (y ∷ others s ys) (others s ys)) x
    by_test rec true e d = ⊎_elim (λ (t : y ≡ x). absurd (ne (sym t ∙ eqb-true y s e))) rec d
    by_test rec false e d = ⊎_elim (λ (t : y ≡ x). (0, omega arith, t)) (λ t. cons_in y x (others s ys) (rec t)) d

other_given : (given given' : List ℕ) (last last' : ℕ) (r : Role) (g : List ℕ) (l : ℕ) → IsNotBook r → KnowsGiven given last r g l → KnowsGiven given' last' r g l
other_given given given' last last' (Book m) g l not k = absurd (not m refl)
other_given given given' last last' (Cell b p) g l not k = k
other_given given given' last last' Pass g l not k = k

module _ (n made : ℕ) (who : ℕ → ℕ) (h : List Event) (ws : List ℕ) (vs : List SeatView) where
  -- the book gives the next session an own pass
  pub counts_open : (i : ℕ) (v w u : SeatView) → SeatsAreKnown n made who h ws vs → i ≡ who 0 → OwnPassesCount h vs → get_elem? vs i ≡ some v → IsBook v.role → v.front ≡ h → w.role ≡ v.role → w.own_session ≡ v.own_session → w.count ≡ v.count → w.count_notes ≡ v.count_notes
      → w.given ≡ next_session v ∷ v.given → w.last_given ≡ next_session v → u.role ≡ Pass → u.own_session ≡ next_session v → u.count ≡ 0 → u.count_notes ≡ v.count_notes ++ count_note_of v.own_session v.count → OwnPassesCount h (set vs i w ++ u ∷ [])
  counts_open i v w u known mine p at book whole role own count notes given last urole uown ucount unotes =
      let x = p.seats i v at in
      let knows : KnowsGiven p.given p.last (Book (cells_made v.role)) v.given v.last_given = subst (λ (r : Role). KnowsGiven p.given p.last r v.given v.last_given) book x.book in
      let s : ℕ = next_session v in
      let last_is = knows.1 in
      let above : p.last < s = omega arith in
      let given' : List ℕ = s ∷ p.given in
      let end : ℕ = length (set vs i w) in
      let holder' : ℕ → ℕ = put p.holder s end in
      let count' : ℕ → ℕ = put p.count_of s 0 in
      let F : ℕ → SeatView → Type 0 = λ j z. HasSeat n made who h j z.role z.front × CountsSessions p.given p.last p.holder p.count_of j z in
      let G = CountsSessions given' s holder' count' in
      let older : (t : ℕ) → t ≤ p.last → t ≢ s = λ t le e. omega arith in
      let kept : (xs : List (ℕ × ℕ)) → All (IsCountNote p.last p.count_of) xs → All (IsCountNote s count') xs = λ xs a k d lt. let y = a k d lt in let le = y.1 in let same = put_else p.count_of s 0 (get_or xs k d).0 (older (get_or xs k d).0 le) in let up = y.0 in (omega arith, omega arith) in
      let owned : (j : ℕ) (z : SeatView) → CountsSessions p.given p.last p.holder p.count_of j z → 0 < z.own_session → (j ≡ holder' z.own_session) × (z.count ≡ count' z.own_session) × Contains given' z.own_session = λ j z y lt.
      let o = y.own lt in let le = All-contains (λ t. t ≤ p.last) p.given z.own_session p.members o.2 in let ne = older z.own_session le in
      (o.0 ∙ sym (put_else p.holder s end z.own_session ne), o.1 ∙ sym (put_else p.count_of s 0 z.own_session ne), cons_in s z.own_session p.given o.2) in
      record {
        given = given';
        last = s;
        holder = holder';
        count_of = count';
        seats = each_more G G (set vs i w) u
            (each_set F G vs i w (λ j z e. (known.seats j z e, p.seats j z e))
            (λ j z ne y. record { book = other_given p.given given' p.last s z.role z.given z.last_given (not_book n made who h i j z.role z.front mine ne y.0) y.1.book; own = owned j z y.1; notes = kept z.count_notes y.1.notes })
            record {
              book = subst (λ (r : Role). KnowsGiven given' s r w.given w.last_given) (sym (role ∙ book)) (given ∙ ap (λ (g : List ℕ). s ∷ g) knows.0, last);
              own = subst (λ (z : ℕ × ℕ). 0 < z.0 → (i ≡ holder' z.0) × (z.1 ≡ count' z.0) × Contains given' z.0) (λ k. (sym own k, sym count k)) (owned i v x);
              notes = subst (λ (xs : List (ℕ × ℕ)). All (IsCountNote s count') xs) (sym notes) (kept v.count_notes x.notes);
            })
            (λ j z _ y. y)
            record {
              book = subst (λ (r : Role). KnowsGiven given' s r u.given u.last_given) (sym urole) tt;
              own = λ lt. (sym (put_here p.holder s end) ∙ ap holder' (sym uown), ucount ∙ (sym (put_here p.count_of s 0) ∙ ap count' (sym uown)), (0, omega arith, sym uown));
              notes = subst (λ (xs : List (ℕ × ℕ)). All (IsCountNote s count') xs) (sym unotes) (kept (v.count_notes ++ count_note_of v.own_session v.count) (all_notes p.given p.last p.holder p.count_of i v p.members x));
            };
        counted = λ t c. ⊎_elim
            (λ (e : s ≡ t).
            let none : event_count_of s h ≡ 0 = ap (event_count_of s) (sym whole) ∙ next_has_none v.last_given s v.front refl in
            let same : event_count_of s h ≡ event_count_of t h = ap (λ z. event_count_of z h) e in omega arith)
            (λ (d : Contains p.given t). let le = All-contains (λ z. z ≤ p.last) p.given t p.members d in let a = p.counted t d in let b = put_else p.count_of s 0 t (older t le) in omega arith)
            (in_cons s t p.given c);
        members = All-cons (λ t. t ≤ s) s p.given (omega arith) (λ k d lt. let le = p.members k d lt in omega arith);
      }

  -- the book takes an own pass back: its session is no longer one that has one
  pub counts_close : (i k : ℕ) (v w both spent : SeatView) → SeatsAreKnown n made who h ws vs → i ≡ who 0 → OwnPassesCount h vs → get_elem? vs i ≡ some v → get_elem? vs k ≡ some w → k ≢ i → IsBook v.role → 0 < w.own_session
      → both.role ≡ v.role → both.own_session ≡ 0 → both.count_notes ≡ v.count_notes ++ w.count_notes → both.given ≡ others w.own_session v.given → both.last_given ≡ v.last_given → IsNotBook spent.role → spent.own_session ≡ 0 → spent.count_notes ≡ []
      → OwnPassesCount h (set (set vs i both) k spent)
  counts_close i k v w both spent known mine p at there apart book is_own role own notes given last other none no_notes =
      let s : ℕ = w.own_session in
      let x = p.seats i v at in
      let y = p.seats k w there in
      let knows : KnowsGiven p.given p.last (Book (cells_made v.role)) v.given v.last_given = subst (λ (r : Role). KnowsGiven p.given p.last r v.given v.last_given) book x.book in
      let given' : List ℕ = others s p.given in
      let F : ℕ → SeatView → Type 0 = λ j z. HasSeat n made who h j z.role z.front × CountsSessions p.given p.last p.holder p.count_of j z in
      let H = CountsSessions given' p.last p.holder p.count_of in
      let G : ℕ → SeatView → Type 0 = λ j z. j ≢ k → CountsSessions given' p.last p.holder p.count_of j z in
      let N = IsCountNote p.last p.count_of in
      record {
        given = given';
        last = p.last;
        holder = p.holder;
        count_of = p.count_of;
        seats = each_set G H (set vs i both) k spent
            (each_set F G vs i both (λ j z e. (known.seats j z e, p.seats j z e))
            (λ j z ne t off. record {
              book = other_given p.given given' p.last p.last z.role z.given z.last_given (not_book n made who h i j z.role z.front mine ne t.0) t.1.book;
              own = λ lt. let o = t.1.own lt in (o.0, o.1, in_others s z.own_session p.given o.2 (λ e. off (o.0 ∙ (ap p.holder e ∙ sym (y.own is_own).0))));
              notes = t.1.notes;
            })
            (λ off. record {
              book = subst (λ (r : Role). KnowsGiven given' p.last r both.given both.last_given) (sym (role ∙ book)) (given ∙ ap (others s) knows.0, last ∙ knows.1);
              own = λ lt. absurd (omega arith);
              notes = subst (λ (xs : List (ℕ × ℕ)). All N xs) (sym notes) (All-append N v.count_notes w.count_notes x.notes y.notes);
            }))
            (λ j z ne t. t ne) (counts_nothing given' p.last p.holder p.count_of k spent other none (subst (λ (xs : List (ℕ × ℕ)). All N xs) (sym no_notes) (All-nil N)));
        counted = λ t c. p.counted t (All-contains (Contains p.given) given' t (others_in s p.given) c);
        members = All-filter (λ t. not (t == s)) (λ t. t ≤ p.last) p.given p.members;
      }
