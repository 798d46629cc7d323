use Rattle.std.proofs.Common.{◌≡◌, get_or, set, Equal, sym, ap, ◌∙◌}
use Rattle.std.proofs.lemmas.List.{set-get_or}
use Rattle.std.proofs.lemmas.Map.Lookups.{exact_bytes}
use Rattle.cj_model.specs.Database.Tables.{name_cmp}
use Rattle.cj_model.proofs.RisingLaws.{put_over}
use Rattle.cj_model.proofs.table_set.gap_for.Goals as goal

pub returns-in-Equal : goal.returns-in-Equal
returns-in-Equal c =
    let names = c.args.names.now in
    let name = c.args.name.now in
    let other = c.index-names-i.result in
    let equal : name_cmp name other ≡ Equal =
    ap (λ n. name_cmp n other) (sym c.as_slice.ensures.value)
    ∙ ap (name_cmp c.as_slice.result.now) (sym c.as_slice-in-loop-i.ensures.value) ∙ sym c.in-Equal.ensures in
    let same : name ≡ get_or names c.loop-i.i other = exact_bytes name other equal ∙ c.index-names-i.is in
    put_over name_cmp names name c.loop-i.i c.loop-i.invariant other c.loop-i-test.true (ap (name_cmp name) (sym c.index-names-i.is) ∙ equal)
    ∙ ap (set names c.loop-i.i) same ∙ set-get_or names c.loop-i.i other
