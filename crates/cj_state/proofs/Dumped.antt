-- The dumps of a world: what they hold of a log that grew, and one more.
use Rattle.std.proofs.Common.{◌≡◌, ℕ, ◌<◌, ◌≤◌, cond, filter, slice_get, Bool, true, false, List, [], ◌∷◌, ◌++◌, length, map, All, IfSome, Option, None, Some, option_map, refl, ap, sym, ◌∙◌, subst, arith, length-append}
use Rattle.cj_book.proofs.Common.{All-head, All-push, All-tail, All-weaker, bytes_eq}
use Rattle.std.proofs.lemmas.List.{take-append-le, map_push}
use Rattle.std.proofs.lemmas.Option.{same_Some}
use Rattle.cj_state.proofs.Common.{AreBetween, CellState, CoreInvariant, cut, Dump, Entry, Event, find_dump, first_of, HoldsPart, hosts_beyond, IsHeld, Kept, Layout, log-same, log-sched, OpenSession, part, Placement, placement_of, position_at, Register, Sched, taken_of, TakenDump, Tally}
use Rattle.cj_model.proofs.RisingLaws.{found_All}
use Rattle.cj_cluster.specs.History.Histories.{log, scheduled_entry, database_of, database_after}
use Rattle.cj_cluster.specs.Moves.Moves.{dumped_as}
use Rattle.cj_cluster.proofs.Effects.{sound_dumped, stands_there}
use Rattle.cj_place.proofs.Parts.{part_of_part}
use Rattle.cj_state.specs.Worlds.{core_of, world_of, IsDumpOf, AreDumpsOf}
use Rattle.cj_state.proofs.CellsKept.{world_behind}

-- a dump is the same of a log that grew
dump_longer : (tells : Bool) (p : Placement) (entries : List Entry) (e : Entry) (d : Dump) → IsDumpOf tells p entries d → IsDumpOf tells p (entries ++ e ∷ []) d
dump_longer tells p entries e d is =
    let len = length-append entries (e ∷ []) in
    let le : d.position ≤ length entries = is.within in
    record { within = omega arith; holds = λ on. is.holds on ∙ ap (λ (l : List Entry). part p d.source (database_of l)) (sym (take-append-le d.position entries (e ∷ []) le)) }

module _ (tells : Bool) (p : Placement) (h : List Event) (dumps : List Dump) (are : AreDumpsOf tells p (log h) dumps) where
  -- so are they behind an event that is no entry
  pub dumps_event : (e : Event) → scheduled_entry e ≡ None → AreDumpsOf tells p (log (h ++ e ∷ [])) dumps
  dumps_event e none = subst (λ (entries : List Entry). AreDumpsOf tells p entries dumps) (sym (log-same h e none)) are

  -- and behind an entry
  pub dumps_entry : (e : Entry) → AreDumpsOf tells p (log (h ++ Sched e ∷ [])) dumps
  dumps_entry e =
      subst (λ (entries : List Entry). AreDumpsOf tells p entries dumps) (sym (log-sched h e))
      (All-weaker (IsDumpOf tells p (log h)) (IsDumpOf tells p (log h ++ e ∷ [])) (dump_longer tells p (log h) e) dumps are)

-- ---- one more

module _ (tells : Bool) (reg : Register) (l : Layout) (h : List Event) (cells : List CellState) (f s : ℕ) (ss : List OpenSession) (g : ℕ) (ds : List Dump) (numbers : List ℕ) (tally : Tally) (kept : Kept tells (world_of reg l h cells f s ss g ds) numbers tally)
    (d : Dump) (at : position_at (core_of l h cells f s ss g ds) d.source ≡ Some d.position) where
  pub core_dumped : core_of l h cells f s ss g (ds ++ d ∷ []) ≡ dumped_as (core_of l h cells f s ss g ds) d.source d.name d.position
  core_dumped = ap (λ (ts : List TakenDump). record (core_of l h cells f s ss g ds) { dumps = ts }) (map_push taken_of ds d)

  between : AreBetween (core_of l h cells f s ss g (ds ++ d ∷ []))
  between n some = let q = kept.world.between n some in (q.0, record { longer = q.1.longer; owes = q.1.owes; here = q.1.here; later = q.1.later })

  pub kept_dumped : Kept tells (world_of reg l h cells f s ss g (ds ++ d ∷ [])) numbers tally
  kept_dumped =
      record {
        world =
            world_behind kept.world h f s ss g (map taken_of (ds ++ d ∷ [])) refl
            (subst CoreInvariant (sym core_dumped) (sound_dumped (core_of l h cells f s ss g ds) d.source d.name d.position kept.world.sound at)) between;
        numbers_are = kept.numbers_are;
        served = kept.served;
        tallied = kept.tallied;
        taken = kept.taken;
      }

  -- it holds what its backend held
  pub dumps_push : IsHeld tells (core_of l h cells f s ss g ds) d.source d.db → AreDumpsOf tells (placement_of l) (log h) ds → AreDumpsOf tells (placement_of l) (log h) (ds ++ d ∷ [])
  dumps_push held are =
      let holds : tells ≡ true → Some d.db ≡ Some (part (placement_of l) d.source (database_after (log h) d.position)) = subst (HoldsPart tells (placement_of l) d.source (log h) (Some d.db)) at held in
      All-push (IsDumpOf tells (placement_of l) (log h)) ds d are
      (record { within = (stands_there (core_of l h cells f s ss g ds) d.source d.position kept.world.sound at).0; holds = λ on. same_Some d.db _ (holds on) })

-- ---- looking one up

-- what is at hand of the first dump of a name
pub first_taken : (name : List ℕ) (ds : List Dump) → find_dump (map taken_of ds) name ≡ option_map taken_of (first_of name ds)
first_taken name [] = refl
first_taken name (d ∷ ds) = one (bytes_eq d.name name) (first_taken name ds)
  where
    one : (b : Bool) → find_dump (map taken_of ds) name ≡ option_map taken_of (first_of name ds)
        → cond b (Some (taken_of d)) (find_dump (map taken_of ds) name) ≡ option_map taken_of (slice_get (cond b (d ∷ filter (λ (x : Dump). bytes_eq x.name name) ds) (filter (λ (x : Dump). bytes_eq x.name name) ds)) 0)
    one true later = refl
    one false later = later

-- what holds of each dump holds of the first of a name
pub first_all : (P : Dump → Type 0) (name : List ℕ) (ds : List Dump) → All P ds → (d : Dump) → first_of name ds ≡ Some d → P d
first_all P name [] all d is = absurd (cc is)
first_all P name (x ∷ ds) all d is = one (bytes_eq x.name name) (first_all P name ds (All-tail P x ds all) d) is
  where
    one : (b : Bool) → (first_of name ds ≡ Some d → P d) → slice_get (cond b (x ∷ filter (λ (y : Dump). bytes_eq y.name name) ds) (filter (λ (y : Dump). bytes_eq y.name name) ds)) 0 ≡ Some d → P d
    one true later there = subst P (same_Some x d there) (All-head P x ds all)
    one false later there = later there

-- what holds of each dump at hand holds of that of a name
pub taken_all : (P : TakenDump → Type 0) (dumps : List TakenDump) (name : List ℕ) (d : TakenDump) → All P dumps → find_dump dumps name ≡ Some d → P d
taken_all P dumps name d all is = subst (λ (o : Option TakenDump). IfSome o P) is (found_All P (λ (x : TakenDump). bytes_eq x.name name) dumps all)

-- what a dump has of a backend's tables, of which its own backend hosts all
pub cut_holds : (tells : Bool) (l : Layout) (entries : List Entry) (d : Dump) (b : ℕ) → IsDumpOf tells (placement_of l) entries d → hosts_beyond (placement_of l) b d.source ≡ false → d.source < length l.names
    → tells ≡ true → (cut d l b).db ≡ part (placement_of l) b (database_after entries d.position)
cut_holds tells l entries d b is covered within on = ap (part (placement_of l) b) (is.holds on) ∙ part_of_part (placement_of l) b d.source (database_after entries d.position) covered within
