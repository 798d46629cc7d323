-- A change in which one of two backends fails, and the first entry of a log, for tests alone.
use Rattle.std.proofs.Common.{◌≡◌, ◌+◌, ◌<◌, ◌≤◌, ℕ, true, false, List, [], ◌∷◌, ◌++◌, length, inl, refl, codes, sym, ap, ◌∙◌, subst, arith, length-append, ⊎_elim}
use Rattle.std.specs.Prelude.{Contains}
use Rattle.std.proofs.lemmas.Bool.{both_ways, cases_eq, ne_eqb}
use Rattle.cj_board.proofs.Common.{Enabled, Ended, Entry, Event, IsFitEntry, IsLegal, Sched, USER_LIMIT, fault_tokens_of}
use mathlib.Core.List.{IsPrefix}
use Rattle.cj_model.specs.declared.request.Act.TheVariants as act
use Rattle.cj_model.specs.declared.request.Request.TheVariants as request
use Rattle.cj_model.specs.declared.token.Keyword.TheVariants as word
use Rattle.cj_model.specs.declared.token.Token.TheVariants as token
use Rattle.cj_model.specs.Sql.Grammar as grammar
use Rattle.cj_model.specs.Sql.Lexical.{keyword, Spells}
use Rattle.cj_model.specs.Sql.WrittenRequests.{IsWritten}
use Rattle.cj_model.specs.Cluster.Masks.{in_mask}
use Rattle.cj_model.proofs.Masks.{has-zero, has-with_other}
use Rattle.cj_cluster.specs.History.Histories.{log, is_enabled}
use Rattle.cj_cluster.proofs.Pushed.{legal_push, log-prefix}
use Rattle.cj_board.specs.Steps.{HasFaultTokens, HasPositionNotes}

-- BEGIN is a request that some text reads as
begin_spelled : Spells (token.Word word.Begin) (codes "BEGIN")
unfolding keyword
begin_spelled = ((refl, (refl, (refl, (refl, (refl, tt))))), omega arith, refl)

begin_written : IsWritten request.Begin
begin_written =
    record {
      plain = refl;
      text = codes "BEGIN";
      reads =
          record {
            tokens = token.Word word.Begin ∷ [];
            tokens_of = ([], record { blanks = []; spelling = codes "BEGIN"; text_is = refl; blank = tt; spells = begin_spelled; ends = tt }, tt);
            reads = record { statement = grammar.begin; semicolon = false; tokens_are = refl; fits = tt; meant = refl };
          };
    }

-- the first entry of the first session
abbrev pub first_entry : List ℕ → Entry
first_entry user = record { session = 1; seq = 1; tx = 0; user = user; act = act.Begin }

pub first_fits : (user : List ℕ) → length user ≤ USER_LIMIT → IsFitEntry [] (first_entry user)
first_fits user short =
    record {
      written = begin_written;
      user = short;
      by = inl (record { session = (omega arith, omega arith); limit = omega arith; newer = λ k d lt. absurd (omega (arith, lt)); tx = (refl, refl) });
    }

-- the history while the entry is open
abbrev pub open_row : Entry → List Event
open_row e = Enabled 0 ∷ Enabled 1 ∷ Sched e ∷ []

-- the mask of the second backend has no other
second_alone : (b : ℕ) → in_mask 2 b ≡ true → b ≡ 1
second_alone b on = ⊎_elim (λ (is : b ≡ 1). is) (λ (ne : b ≡ 1 → ⊥). absurd (both_ways (in_mask 2 b) (has-with_other 0 1 b ne ∙ has-zero b) on)) (cases_eq b 1)

pub legal_row : (e : Entry) → IsFitEntry [] e → IsLegal (open_row e ++ Ended 2 0 ∷ [])
legal_row e fit =
    let none : IsLegal [] = record { short = omega arith; each = λ k d lt. absurd (omega (arith, lt)) } in
    let one = legal_push [] (Enabled 0) none (omega arith) (refl, refl) in
    let two = legal_push (Enabled 0 ∷ []) (Enabled 1) one (omega arith) (refl, refl) in
    let three = legal_push (Enabled 0 ∷ Enabled 1 ∷ []) (Sched e) two (omega arith) (refl, fit) in
    legal_push (open_row e) (Ended 2 0) three (omega arith) (
      refl,
      λ b. (
        λ failed. subst (λ (k : ℕ). (is_enabled (open_row e) k ≡ true) × (in_mask 0 k ≡ false)) (sym (second_alone b failed)) (refl, refl),
        λ starved. absurd (both_ways (in_mask 0 b) (has-zero b) starved),
      ),
    )

-- the first backend alone is enabled then
pub stands_row : (e : Entry) (notes : List (ℕ × ℕ)) → Contains notes (0, 1) → HasPositionNotes (open_row e) notes (Ended 2 0)
stands_row e notes note b on =
    ⊎_elim (λ (is : b ≡ 0). subst (λ (k : ℕ). Contains notes (k, 1)) (sym is) note)
    (λ (other : b ≡ 0 → ⊥).
    ⊎_elim (λ (is : b ≡ 1). absurd (both_ways false refl (subst (λ (k : ℕ). is_enabled (open_row e ++ Ended 2 0 ∷ []) k ≡ true) is on)))
    (λ (ne : b ≡ 1 → ⊥). let off : is_enabled (open_row e ++ Ended 2 0 ∷ []) b ≡ false = rw (ne_eqb b 0 other, ne_eqb b 1 ne) refl in absurd (both_ways (is_enabled (open_row e ++ Ended 2 0 ∷ []) b) off on))
    (cases_eq b 1))
    (cases_eq b 0)

pub blamed_row : (tokens : List ℕ) → 0 < fault_tokens_of 1 tokens → HasFaultTokens tokens (Ended 2 0)
blamed_row tokens some b failed = subst (λ (k : ℕ). 0 < fault_tokens_of k tokens) (sym (second_alone b failed)) some

-- who has seen a history of one entry, and more, has seen an entry
pub sees_one : (h seen : List Event) → IsPrefix h seen → length (log h) ≡ 1 → 0 < length (log seen)
sees_one h seen longer one =
    let p = log-prefix h seen longer in
    let count : length (log h) + length p.0 ≡ length (log seen) = sym (length-append (log h) p.0) ∙ ap length p.1 in
    omega (arith, count, one)
