use Rattle.std.proofs.Common.{◌≡◌, ◌&&◌, [], ◌==◌, not, Bool, true, ℕ, None, Some, refl, ap, sym, ◌∙◌}
use Rattle.cj_core.proofs.Cited.{IsUtf8-nil, is_utf8-from_IsUtf8, list_all}
use Rattle.cj_model.specs.Sql.Names.{is_text, text_of}
use Rattle.cj_core.proofs.solo.empty_text.Goals as goal

no_bytes : is_text [] ≡ true
unfolding is_text
no_bytes = ap (λ (t : Bool). t && list_all (λ (b : ℕ). not (b == 0)) []) (is_utf8-from_IsUtf8 [] IsUtf8-nil)

no_text : text_of [] ≡ None → ⊥
no_text none = let some : text_of [] ≡ Some [] = rw no_bytes refl in absurd (cc (some, none))

pub unreachable-requires : goal.unreachable-requires
unreachable-requires c = no_text (ap text_of (sym c.new.ensures.items) ∙ (sym c.of.ensures ∙ c.in-None.is))
