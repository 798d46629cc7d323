use Rattle.std.proofs.Common.{◌≡◌, ◌∙◌, ℕ, List, [], ◌++◌, length, slice_get, slice_index_or, ap, sym, subst}
use Rattle.std.proofs.lemmas.List.{get_or_read_under}
use Rattle.std.proofs.lemmas.Option.{get_or_from_slice_get}
use Rattle.cj_audit.proofs.AuditTexts.{empty_text}
use Rattle.cj_model.specs.Cluster.Masks.{in_mask}
use Rattle.cj_model.specs.Sql.Names.{IsText}
use Rattle.cj_place.specs.Layouts.{Layout}
use Rattle.cj_administration.specs.Showing.{backend_line, no_look}
use Rattle.cj_administration.proofs.Auditing.{lines_next}
use Rattle.cj_administration.proofs.Showing.{same_line}
use Rattle.cj_administration.proofs.show.lines_of.Goals as goal

pub loop-b-init : goal.loop-b-init
loop-b-init g c = record { lines = c.new-text.ensures.items; text = subst IsText (sym c.new-text.ensures.items) empty_text }

pub loop-b-preserved : goal.loop-b-preserved
loop-b-preserved g c =
    let names = g.J.Naming.layout.names in
    let looks = c.args.looks.now in
    let b = c.loop-b.b in
    let laid = c.args.control.now.locks.laid in
    let all : c.count-b-end.result ≡ length looks = c.count-b-end.ensures.count ∙ (ap (λ (l : Layout). length l.names) laid ∙ sym c.requires.each) in
    let name : c.name-name.result.now ≡ slice_index_or names b [] = sym (get_or_from_slice_get names b c.name-name.result.now [] (ap (λ (l : Layout). slice_get l.names b) (sym laid) ∙ c.name-name.ensures)) in
    let look : c.index-looks-b.result ≡ slice_index_or looks b no_look = get_or_read_under looks b c.count-b-end.result c.index-looks-b.result no_look c.index-looks-b.is c.loop-b-test.true all in
    let line : ℕ → List ℕ = λ k. backend_line (slice_index_or names k []) (in_mask c.args.enabled k) (slice_index_or looks k no_look) in
    let same : backend_line c.name-name.result.now c.has_bit.result c.index-looks-b.result ≡ line b = same_line name c.has_bit.ensures look in
    record {
      lines = lines_next line b c.loop-b.text.items c.append_line.new.text.items c.loop-b.invariant.lines (c.in_ok-append_line.ensures.ok ∙ ap (λ (t : List ℕ). c.loop-b.text.items ++ t) same);
      text = c.in_ok-append_line.ensures.text c.loop-b.invariant.text;
    }
