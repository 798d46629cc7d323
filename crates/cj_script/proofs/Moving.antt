-- Lines that are moves: how many can come.
use Rattle.std.proofs.Common.{◌≡◌, ℕ, ◌+◌, ◌*◌, ◌-◌, ◌≤◌, ◌^◌, Bool, List, [], length, Option, Result, inl, inr, sym, ap, subst, arith}
use Rattle.cj_script.proofs.Common.{CanCountRequests, Core, most, PlaysOrEnds, PlaysWritten, ReaderState, ScriptEnd, WorldState}
use Rattle.cj_cluster.proofs.Growth.{moves_grow, can_count}
use Rattle.cj_core.specs.Played.{given_of}
use Rattle.cj_script.specs.Script.{PlaysLine, MakesMove}
use Rattle.cj_script.proofs.Filled.{move_line_long}
use Rattle.cj_words.proofs.LinesInBytes.{Advances}

-- ---- a line that was played

-- it left the core as it was, or it made its move
pub line_cases : (tells armable : Bool) (names : List (List ℕ)) (c : WorldState) (line written : List ℕ) (z : WorldState) (P : Type 0) → PlaysLine tells armable names c line written z → (z.core ≡ c.core → P) → (MakesMove tells armable names c line written z → P) → P
line_cases tells armable names c line written z P (inl skips) same made = same (ap (λ (x : WorldState). x.core) skips.same)
line_cases tells armable names c line written z P (inr (inl makes)) same made = made makes
line_cases tells armable names c line written z P (inr (inr (is, inl later))) same made = same (ap (λ (x : WorldState). x.core) later.same)
line_cases tells armable names c line written z P (inr (inr (is, inr (failed, now)))) same made = same now.core

-- what a line comes to is the same under equal names, and of an equal line
pub plays_as : (tells armable : Bool) (names names' : List (List ℕ)) (held held' : Option (List ℕ)) (c : WorldState) (line line' : List ℕ) (number : ℕ) (result : Result (Unit {0}) ScriptEnd) (z : WorldState)
    → names ≡ names' → line ≡ line' → PlaysOrEnds tells armable names held held' c line number result z → PlaysOrEnds tells armable names' held held' c line' number result z
plays_as tells armable names names' held held' c line line' number result z same_names same h =
    subst (λ (t : List ℕ). PlaysOrEnds tells armable names' held held' c t number result z) same
    (subst (λ (ns : List (List ℕ)). PlaysOrEnds tells armable ns held held' c line number result z) same_names h)

-- ---- how many can come

-- each session can make as many requests more as lines can come
pub record Counting (rest taken : ℕ) (z : WorldState) : Type 0 where
  pub more : ℕ
  pub can : CanCountRequests z.core more
  pub room : most + rest ≤ 2 * more + taken

pub counting_start : (rest : List ℕ) (taken : ℕ) (c : WorldState) → rest ≡ [] → taken ≡ 0 → CanCountRequests c.core (2 ^ 61) → Counting (length rest) taken c
counting_start rest taken c none zero can = record { more = 2 ^ 61; can = can; room = omega (arith, ap length none, zero) }

-- after a line there is room for those that can still come
pub counting_played : (tells armable : Bool) (names : List (List ℕ)) (held held' : Option (List ℕ)) (old new : ReaderState) (line : List ℕ) (c z : WorldState)
    → Counting (length old.rest) old.taken c → Advances old new line → new.taken ≤ most → PlaysWritten tells armable names held held' c line z → Counting (length new.rest) new.taken z
counting_played tells armable names held held' old new line c z k a few h =
    line_cases tells armable names c line h.written z (Counting (length new.rest) new.taken z) h.plays
    (λ same. record { more = k.more; can = subst (λ (d : Core). CanCountRequests d k.more) (sym same) k.can; room = omega (arith, k.room, a.some) })
    (λ made.
    let long = move_line_long names line made.move made.reads in
    let some : 1 + (k.more - 1) ≡ k.more = omega (arith, k.room, a.by) in
    record {
      more = k.more - 1;
      can = can_count 1 (k.more - 1) c.core z.core (moves_grow tells c.core made.move (given_of made.made) z.core made.moves) (subst (CanCountRequests c.core) (sym some) k.can);
      room = omega (arith, k.room, a.by, some, long);
    })
