-- Bytes that have no dump, for tests alone.
use Rattle.std.proofs.Common.{◌≡◌, ◌≢◌, ◌<◌, ◌≤◌, ℕ, Contains, true, List, [], length, take, Ok, Err, refl, sym, subst, inl, arith}
use Rattle.std.proofs.lemmas.List.Elements.{at_from_Contains}
use Rattle.cj_records.proofs.OneList.{one_list}
use Rattle.cj_cluster.specs.declared.event.Event.{Event}
use Rattle.cj_dump.specs.declared.dump.Dump.{Dump}
use Rattle.cj_shelf.specs.Shelves.{dump_bodies, KeepsDumps, shelf_magic}
use Rattle.cj_shelf.proofs.Bodies.{one_shelf}
use Rattle.cj_console.specs.Answers.{AreRightDumps}

-- those of a new shelf have none
pub new_has_none : (bytes : List ℕ) → length bytes ≤ 5 → (kept : List Dump) → KeepsDumps bytes kept → kept ≡ []
new_has_none bytes few kept keeps = one_shelf bytes kept [] keeps (record { found = inl (few, refl); each = tt })

-- and so have those of another file
pub other_has_none : (bytes : List ℕ) → 5 < length bytes → take 4 bytes ≢ shelf_magic → (kept : List Dump) → KeepsDumps bytes kept → kept ≡ []
other_has_none bytes many other kept keeps =
    let same = one_list shelf_magic bytes (Ok (dump_bodies kept)) (Err 0) refl keeps.found (many, inl (other, refl)) in absurd (cc same)

-- none is among none
none_among : (d : Dump) → Contains [] d → ⊥
none_among d there = let at = at_from_Contains [] d there in omega (arith, at.1)

-- of none each is right
pub none_are_right : (opening : List Event) (kept : List Dump) → kept ≡ [] → AreRightDumps true opening kept
none_are_right opening kept none = subst (AreRightDumps true opening) (sym none) (λ on d there. absurd (none_among d there))
