-- What is said to have failed did fail, at each step: faults, failures in the history, and tokens.
use Rattle.std.proofs.Common.{◌≡◌, ◌≢◌, ℕ, zero, suc, ◌+◌, ◌*◌, ◌<◌, ◌≤◌, Bool, true, false, ◌==◌, eqb, cond, List, [], ◌∷◌, ◌++◌, get_or, set, refl, sym, ap, ◌∙◌, subst, arith, All, eq-eqb, ne_eqb}
use mathlib.Core.Logic.{dite}
use mathlib.Core.Option.{some, some-injective, some-ne-none}
use native.Mathlib.Decide.{ℕ_discrete}
use lib.ListN.{get_elem?}
use Rattle.std.proofs.lemmas.List.Sums.{sum_by-cons, sum_by-append}
use Rattle.cj_board.proofs.Common.{Book, Cell, Event, Pass, Role, SeatView, set_else}
use Rattle.cj_cluster.specs.History.Histories.{notes_failure, failures_noted}
use Rattle.cj_cluster.proofs.Pushed.{blame-push}
use Rattle.cj_board.specs.Points.{max_word, fault_word, fault_tokens_of, all_fault_tokens_of, KnowsFaults, IsFaultNote, FailuresHaveFaults, HasSeat, SeatsAreKnown}
use Rattle.cj_board.specs.Steps.{spend, HasFaultTokens}
use Rattle.cj_board.proofs.EachSeat.{each_set, each_more}
use Rattle.cj_board.proofs.Words.{fault_first, fault_aside, fault_same, fault_else}

-- ---- tokens

tokens-cons : (b t : ℕ) (ts : List ℕ) → fault_tokens_of b (t ∷ ts) ≡ cond (eqb t b) 1 0 + fault_tokens_of b ts
tokens-cons b t ts = sum_by-cons (λ x. cond (x == b) 1 0) t ts

pub tokens-append : (b : ℕ) (xs ys : List ℕ) → fault_tokens_of b (xs ++ ys) ≡ fault_tokens_of b xs + fault_tokens_of b ys
tokens-append b xs ys = sum_by-append (λ x. cond (x == b) 1 0) xs ys

all-cons : (b : ℕ) (v : SeatView) (vs : List SeatView) → all_fault_tokens_of b (v ∷ vs) ≡ fault_tokens_of b v.fault_tokens + all_fault_tokens_of b vs
all-cons b v vs = sum_by-cons (λ (u : SeatView). fault_tokens_of b u.fault_tokens) v vs

all-push : (b : ℕ) (vs : List SeatView) (v : SeatView) → all_fault_tokens_of b (vs ++ v ∷ []) ≡ all_fault_tokens_of b vs + fault_tokens_of b v.fault_tokens
all-push b vs v = let a = sum_by-append (λ (u : SeatView). fault_tokens_of b u.fault_tokens) vs (v ∷ []) in let c = all-cons b v [] in omega arith

-- one view is another
all-set : (b : ℕ) (vs : List SeatView) (i : ℕ) (v w : SeatView) → get_elem? vs i ≡ some v → all_fault_tokens_of b (set vs i w) + fault_tokens_of b v.fault_tokens ≡ all_fault_tokens_of b vs + fault_tokens_of b w.fault_tokens
all-set b [] i v w at = absurd (some-ne-none v (sym at))
all-set b (u ∷ us) zero v w at =
    let same : fault_tokens_of b u.fault_tokens ≡ fault_tokens_of b v.fault_tokens = ap (λ (z : SeatView). fault_tokens_of b z.fault_tokens) (some-injective u v at) in
    let x = all-cons b u us in let y = all-cons b w us in omega arith
all-set b (u ∷ us) (suc i) v w at = let r = all-set b us i v w at in let x = all-cons b u us in let y = all-cons b u (set us i w) in omega arith

-- ---- what is spent

abbrev one_of : ℕ → ℕ → ℕ
one_of t b = cond (eqb t b) 1 0

is_one : (t b : ℕ) → t ≡ b → one_of t b ≡ 1
is_one t b e = ap (λ z. cond {A = ℕ} z 1 0) (eq-eqb t b e)

is_none : (t b : ℕ) → t ≢ b → one_of t b ≡ 0
is_none t b ne = ap (λ z. cond {A = ℕ} z 1 0) (ne_eqb t b ne)

-- none of b is spent
pub spend_none : (P : ℕ → Bool) (b : ℕ) (ts : List ℕ) → P b ≡ false → fault_tokens_of b (spend P ts) ≡ fault_tokens_of b ts
spend_none P b [] e = refl
spend_none P b (t ∷ ts) e = by_test (λ Q z. spend_none Q b ts z) (P t) refl
  where
    by_test : ((Q : ℕ → Bool) → Q b ≡ false → fault_tokens_of b (spend Q ts) ≡ fault_tokens_of b ts) → (x : Bool) → P t ≡ x → fault_tokens_of b (cond x (spend (λ c. cond (eqb c t) false (P c)) ts) (t ∷ spend P ts)) ≡ fault_tokens_of b (t ∷ ts)
    by_test rec true is =
        let ne : t ≢ b = λ (same : t ≡ b). let z : true ≡ false = sym is ∙ (ap P same ∙ e) in absurd cc in
        let off = is_none t b ne in
        let c = tokens-cons b t ts in
        let i = rec (λ c. cond (eqb c t) false (P c)) (ap (λ z. cond z false (P b)) (ne_eqb b t (λ s. ne (sym s))) ∙ e) in omega arith
    by_test rec false is = let i = rec P e in let c = tokens-cons b t ts in let d = tokens-cons b t (spend P ts) in omega arith

-- one of b is spent
pub spend_one : (P : ℕ → Bool) (b : ℕ) (ts : List ℕ) → P b ≡ true → 0 < fault_tokens_of b ts → fault_tokens_of b (spend P ts) + 1 ≡ fault_tokens_of b ts
spend_one P b [] e lt = absurd (omega arith)
spend_one P b (t ∷ ts) e lt = by_test (λ Q z l. spend_one Q b ts z l) (P t) refl
  where
    count : fault_tokens_of b (t ∷ ts) ≡ one_of t b + fault_tokens_of b ts
    count = tokens-cons b t ts

    by_test : ((Q : ℕ → Bool) → Q b ≡ true → 0 < fault_tokens_of b ts → fault_tokens_of b (spend Q ts) + 1 ≡ fault_tokens_of b ts) → (x : Bool) → P t ≡ x → fault_tokens_of b (cond x (spend (λ c. cond (eqb c t) false (P c)) ts) (t ∷ spend P ts)) + 1 ≡ fault_tokens_of b (t ∷ ts)
    by_test rec true is = dite (ℕ_discrete t b)
        (λ s. let on = is_one t b s in let c = count in
        let i = spend_none (λ c. cond (eqb c t) false (P c)) b ts (ap (λ z. cond z false (P b)) (eq-eqb b t (sym s))) in omega arith)
        (λ ne. let off = is_none t b ne in let c = count in let l = lt in
        let i = rec (λ c. cond (eqb c t) false (P c)) (ap (λ z. cond z false (P b)) (ne_eqb b t (λ s. ne (sym s))) ∙ e) (omega arith) in omega arith)
    by_test rec false is =
        let ne : t ≢ b = λ (s : t ≡ b). let z : true ≡ false = sym e ∙ (sym (ap P s) ∙ is) in absurd cc in
        let off = is_none t b ne in let c = count in let l = lt in
        let d : fault_tokens_of b (t ∷ spend P ts) ≡ one_of t b + fault_tokens_of b (spend P ts) = tokens-cons b t (spend P ts) in
        let i = rec P e (omega arith) in omega arith

-- failures in the history and tokens together don't rise
paid : (b : ℕ) (h : List Event) (e : Event) (ts : List ℕ) → HasFaultTokens ts e → failures_noted (h ++ e ∷ []) b + fault_tokens_of b (spend (λ c. notes_failure c e) ts) ≡ failures_noted h b + fault_tokens_of b ts
paid b h e ts has = by_test (notes_failure b e) refl
  where
    by_test : (x : Bool) → notes_failure b e ≡ x → failures_noted (h ++ e ∷ []) b + fault_tokens_of b (spend (λ c. notes_failure c e) ts) ≡ failures_noted h b + fault_tokens_of b ts
    by_test true is =
        let more : failures_noted (h ++ e ∷ []) b ≡ failures_noted h b + 1 = blame-push h e b ∙ ap (λ z. failures_noted h b + cond {A = ℕ} z 1 0) is in
        let s = spend_one (λ c. notes_failure c e) b ts is (has b is) in omega arith
    by_test false is =
        let same : failures_noted (h ++ e ∷ []) b ≡ failures_noted h b + 0 = blame-push h e b ∙ ap (λ z. failures_noted h b + cond {A = ℕ} z 1 0) is in
        let s = spend_none (λ c. notes_failure c e) b ts is in omega arith

-- ---- notes

all_faults : (ws us : List ℕ) (xs : List (ℕ × ℕ)) → ((b : ℕ) → fault_word ws b ≤ fault_word us b) → All (IsFaultNote ws) xs → All (IsFaultNote us) xs
all_faults ws us xs f a k d lt = let x = a k d lt in let y = f (get_or xs k d).0 in omega arith

knows_as : (ws us : List ℕ) (role : Role) (f : ℕ) → ((b : ℕ) → fault_word us b ≡ fault_word ws b) → KnowsFaults ws role f → KnowsFaults us role f
knows_as ws us (Book m) f same k = k
knows_as ws us (Cell b p) f same k = k ∙ sym (same b)
knows_as ws us Pass f same k = k

-- ---- the steps

module _ (h : List Event) (ws : List ℕ) (vs : List SeatView) where
  pub faults_append : (i x : ℕ) (e : Event) (v w : SeatView) → FailuresHaveFaults h ws vs → get_elem? vs i ≡ some v → HasFaultTokens v.fault_tokens e → w.role ≡ v.role → w.faults ≡ v.faults → w.fault_notes ≡ v.fault_notes
      → w.fault_tokens ≡ spend (λ b. notes_failure b e) v.fault_tokens → FailuresHaveFaults (h ++ e ∷ []) (set ws 0 x) (set vs i w)
  faults_append i x e v w p at has role f fs ts = let us : List ℕ = set ws 0 x in record {
    notes = each_set (λ j u. All (IsFaultNote ws) u.fault_notes) (λ j u. All (IsFaultNote us) u.fault_notes) vs i w p.notes (λ j u _ a. all_faults ws us u.fault_notes up a)
        (subst (λ (xs : List (ℕ × ℕ)). All (IsFaultNote us) xs) (sym fs) (all_faults ws us v.fault_notes up (p.notes i v at)));
    known = each_set (λ j u. KnowsFaults ws u.role u.faults) (λ j u. KnowsFaults us u.role u.faults) vs i w p.known (λ j u _ k. knows_as ws us u.role u.faults (fault_first ws x) k)
        (subst (λ (z : Role × ℕ). KnowsFaults us z.0 z.1) (λ k. (sym role k, sym f k)) (knows_as ws us v.role v.faults (fault_first ws x) (p.known i v at)));
    covered = λ b ne. let same = fault_first ws x b in let c = p.covered b (λ z. ne (same ∙ z)) in let s = all-set b vs i v w at in let q = paid b h e v.fault_tokens has in
        let t : fault_tokens_of b w.fault_tokens ≡ fault_tokens_of b (spend (λ c. notes_failure c e) v.fault_tokens) = ap (fault_tokens_of b) ts in omega arith;
  }
    where
      up : (b : ℕ) → fault_word ws b ≤ fault_word (set ws 0 x) b
      up b = let s = fault_first ws x b in omega arith

  -- a position is set
  pub faults_move : (i b q : ℕ) (v w : SeatView) → FailuresHaveFaults h ws vs → get_elem? vs i ≡ some v → KnowsFaults ws w.role w.faults → w.fault_notes ≡ v.fault_notes → w.fault_tokens ≡ v.fault_tokens
      → FailuresHaveFaults h (set ws (2 * b + 1) q) (set vs i w)
  faults_move i b q v w p at mine fs ts = let us : List ℕ = set ws (2 * b + 1) q in record {
    notes = each_set (λ j u. All (IsFaultNote ws) u.fault_notes) (λ j u. All (IsFaultNote us) u.fault_notes) vs i w p.notes (λ j u _ a. all_faults ws us u.fault_notes up a)
        (subst (λ (xs : List (ℕ × ℕ)). All (IsFaultNote us) xs) (sym fs) (all_faults ws us v.fault_notes up (p.notes i v at)));
    known = each_set (λ j u. KnowsFaults ws u.role u.faults) (λ j u. KnowsFaults us u.role u.faults) vs i w p.known (λ j u _ k. knows_as ws us u.role u.faults (fault_aside ws q b) k) (knows_as ws us w.role w.faults (fault_aside ws q b) mine);
    covered = λ c ne. let same = fault_aside ws q b c in let k = p.covered c (λ z. ne (same ∙ z)) in let s = all-set c vs i v w at in let t : fault_tokens_of c w.fault_tokens ≡ fault_tokens_of c v.fault_tokens = ap (fault_tokens_of c) ts in omega arith;
  }
    where
      up : (c : ℕ) → fault_word ws c ≤ fault_word (set ws (2 * b + 1) q) c
      up c = let s = fault_aside ws q b c in omega arith

  -- the words stay
  pub faults_set : (i : ℕ) (v w : SeatView) → FailuresHaveFaults h ws vs → get_elem? vs i ≡ some v → All (IsFaultNote ws) w.fault_notes → KnowsFaults ws w.role w.faults → ((b : ℕ) → fault_tokens_of b w.fault_tokens ≤ fault_tokens_of b v.fault_tokens)
      → FailuresHaveFaults h ws (set vs i w)
  faults_set i v w p at fs mine less = let F : ℕ → SeatView → Type 0 = λ j u. All (IsFaultNote ws) u.fault_notes in let G : ℕ → SeatView → Type 0 = λ j u. KnowsFaults ws u.role u.faults in record {
    notes = each_set F F vs i w p.notes (λ j u _ a. a) fs;
    known = each_set G G vs i w p.known (λ j u _ k. k) mine;
    covered = λ b ne. let c = p.covered b ne in let s = all-set b vs i v w at in let l = less b in omega arith;
  }

  pub faults_split : (i : ℕ) (v w u : SeatView) → FailuresHaveFaults h ws vs → get_elem? vs i ≡ some v → All (IsFaultNote ws) w.fault_notes → KnowsFaults ws w.role w.faults → All (IsFaultNote ws) u.fault_notes → KnowsFaults ws u.role u.faults
      → ((b : ℕ) → fault_tokens_of b w.fault_tokens + fault_tokens_of b u.fault_tokens ≤ fault_tokens_of b v.fault_tokens) → FailuresHaveFaults h ws (set vs i w ++ u ∷ [])
  faults_split i v w u p at fs mine gs theirs less = let F : ℕ → SeatView → Type 0 = λ j z. All (IsFaultNote ws) z.fault_notes in let G : ℕ → SeatView → Type 0 = λ j z. KnowsFaults ws z.role z.faults in record {
    notes = each_more F F (set vs i w) u (each_set F F vs i w p.notes (λ j z _ a. a) fs) (λ j z _ a. a) gs;
    known = each_more G G (set vs i w) u (each_set G G vs i w p.known (λ j z _ k. k) mine) (λ j z _ k. k) theirs;
    covered = λ b ne. let c = p.covered b ne in let s = all-set b vs i v w at in let t = all-push b (set vs i w) u in let l = less b in omega arith;
  }

  pub faults_join : (i k : ℕ) (v w both spent : SeatView) → FailuresHaveFaults h ws vs → get_elem? vs i ≡ some v → k ≢ i → get_elem? vs k ≡ some w → All (IsFaultNote ws) both.fault_notes → KnowsFaults ws both.role both.faults
      → All (IsFaultNote ws) spent.fault_notes → KnowsFaults ws spent.role spent.faults
      → ((b : ℕ) → fault_tokens_of b both.fault_tokens + fault_tokens_of b spent.fault_tokens ≤ fault_tokens_of b v.fault_tokens + fault_tokens_of b w.fault_tokens) → FailuresHaveFaults h ws (set (set vs i both) k spent)
  faults_join i k v w both spent p at apart there fs mine gs theirs less = let F : ℕ → SeatView → Type 0 = λ j z. All (IsFaultNote ws) z.fault_notes in let G : ℕ → SeatView → Type 0 = λ j z. KnowsFaults ws z.role z.faults in record {
    notes = each_set F F (set vs i both) k spent (each_set F F vs i both p.notes (λ j z _ a. a) fs) (λ j z _ a. a) gs;
    known = each_set G G (set vs i both) k spent (each_set G G vs i both p.known (λ j z _ y. y) mine) (λ j z _ y. y) theirs;
    covered = λ b ne. let c = p.covered b ne in let s = all-set b vs i v both at in let t = all-set b (set vs i both) k w spent (set_else vs i k both apart ∙ there) in let l = less b in omega arith;
  }

  knows_other : (n made : ℕ) (who : ℕ → ℕ) (f b i j : ℕ) (role : Role) (front : List Event) (y : ℕ) → i ≡ who (suc b) → j ≢ i → HasSeat n made who h j role front → KnowsFaults ws role y → KnowsFaults (set ws (2 * b + 2) f) role y
  knows_other n made who f b i j (Book m) front y at ne s k = k
  knows_other n made who f b i j (Cell c q) front y at ne s k = k ∙ sym (fault_else ws f b c (λ e. ne (s.0 ∙ (ap (λ z. who (suc z)) e ∙ sym at))))
  knows_other n made who f b i j Pass front y at ne s k = k

  -- the fault word is one higher, or full as before, and there is a token more
  pub faults_fault : (n made : ℕ) (who : ℕ → ℕ) (i b f p : ℕ) (v w : SeatView) → SeatsAreKnown n made who h ws vs → FailuresHaveFaults h ws vs → get_elem? vs i ≡ some v → i ≡ who (suc b) → b < n → w.role ≡ Cell b p → w.faults ≡ f → w.fault_notes ≡ v.fault_notes
      → w.fault_tokens ≡ b ∷ v.fault_tokens → fault_word ws b ≤ f → (f ≢ max_word → f ≡ fault_word ws b + 1) → f ≤ max_word → FailuresHaveFaults h (set ws (2 * b + 2) f) (set vs i w)
  faults_fault n made who i b f p v w s five at mine lt role fl fs ts more next fits = let us : List ℕ = set ws (2 * b + 2) f in record {
    notes = each_set (λ j u. All (IsFaultNote ws) u.fault_notes) (λ j u. All (IsFaultNote us) u.fault_notes) vs i w five.notes (λ j u _ a. all_faults ws us u.fault_notes up a)
        (subst (λ (xs : List (ℕ × ℕ)). All (IsFaultNote us) xs) (sym fs) (all_faults ws us v.fault_notes up (five.notes i v at)));
    known = each_set (λ j u. HasSeat n made who h j u.role u.front × KnowsFaults ws u.role u.faults) (λ j u. KnowsFaults us u.role u.faults) vs i w (λ j u e. (s.seats j u e, five.known j u e))
        (λ j u ne k. knows_other n made who f b i j u.role u.front u.faults mine ne k.0 k.1) (subst (λ (r : Role). KnowsFaults us r w.faults) (sym role) (fl ∙ sym here));
    covered = λ c ne. dite (ℕ_discrete c b) (λ e. same_backend c e ne) (λ apart. other_backend c apart ne);
  }
    where
      here : fault_word (set ws (2 * b + 2) f) b ≡ f
      here = let words = s.words in fault_same ws f b (omega arith)

      up : (c : ℕ) → fault_word ws c ≤ fault_word (set ws (2 * b + 2) f) c
      up c = dite (ℕ_discrete c b) (λ e. let x : fault_word ws c ≡ fault_word ws b = ap (fault_word ws) e in let y : fault_word (set ws (2 * b + 2) f) c ≡ f = ap (fault_word (set ws (2 * b + 2) f)) e ∙ here in omega arith) (λ ne. let x = fault_else ws f b c ne in omega arith)

      one_more : (c : ℕ) → fault_tokens_of c w.fault_tokens ≡ one_of b c + fault_tokens_of c v.fault_tokens
      one_more c = ap (fault_tokens_of c) ts ∙ tokens-cons c b v.fault_tokens

      same_backend : (c : ℕ) → c ≡ b → fault_word (set ws (2 * b + 2) f) c ≢ max_word → failures_noted h c + all_fault_tokens_of c (set vs i w) ≤ fault_word (set ws (2 * b + 2) f) c
      same_backend c e ne =
          let y : fault_word (set ws (2 * b + 2) f) c ≡ f = ap (fault_word (set ws (2 * b + 2) f)) e ∙ here in
          let x : fault_word ws c ≡ fault_word ws b = ap (fault_word ws) e in
          let grown = next (λ z. ne (y ∙ z)) in
          let t = all-set c vs i v w at in
          let on = is_one b c (sym e) in
          let m = one_more c in
          let top = fits in
          let old = five.covered c (λ z. absurd (omega arith)) in omega arith

      other_backend : (c : ℕ) → c ≢ b → fault_word (set ws (2 * b + 2) f) c ≢ max_word → failures_noted h c + all_fault_tokens_of c (set vs i w) ≤ fault_word (set ws (2 * b + 2) f) c
      other_backend c apart ne =
          let x = fault_else ws f b c apart in
          let t = all-set c vs i v w at in
          let off = is_none b c (λ z. apart (sym z)) in
          let m = one_more c in
          let old = five.covered c (λ z. ne (x ∙ z)) in omega arith
