-- The bytes of a log are those of one list of items.
use Rattle.std.proofs.Common.{◌≡◌, List, [], ◌∷◌, Ok, refl, ap, ◌∙◌}
use Rattle.cj_log.proofs.Common.{AllByRecursion, IsItem, LogItem, item_bytes, ok_is, one_list}
use Rattle.cj_log.specs.Logs.{log_magic, bodies_of, BytesFixItems}
use Rattle.cj_log.proofs.ItemFormats.{one_item}

-- the bodies are those of one list
same_items : (a b : List LogItem) → AllByRecursion IsItem a → AllByRecursion IsItem b → bodies_of a ≡ bodies_of b → a ≡ b
same_items [] [] p q e = refl
same_items [] (y ∷ b) p q e = absurd cc
same_items (x ∷ a) [] p q e = absurd cc
same_items (x ∷ a) (y ∷ b) p q e =
    let first : item_bytes x ≡ item_bytes y = cc in
    let rest : bodies_of a ≡ bodies_of b = cc in
    ap (λ (z : LogItem). z ∷ a) (one_item x y p.0 q.0 first) ∙ ap (λ (zs : List LogItem). y ∷ zs) (same_items a b p.1 q.1 rest)

pub one_log : BytesFixItems
one_log bytes a b p q =
    same_items a b p.each q.each (ok_is (bodies_of a) (bodies_of b) (one_list log_magic bytes (Ok (bodies_of a)) (Ok (bodies_of b)) refl p.found q.found))
