use Rattle.std.proofs.Common.{rules, ◌≡◌, ◌<◌, ◌≤◌, ℕ, true, length, None, Ok, Err, Result, Bool, Contains, refl, ap, sym, ◌∙◌, subst}
use Rattle.cj_model.specs.Cluster.Placements.{part}
use Rattle.cj_model.specs.Database.Storable.{IsStorable}
use Rattle.cj_cluster.specs.History.Histories.{database_after, log}
use Rattle.cj_place.specs.Layouts.{placement_of, Layout}
use Rattle.cj_board.specs.Seats.{front, pass_view}
use Rattle.cj_dump.specs.declared.dump.Dump.{Dump}
use Rattle.cj_dump.specs.Coverage.{cut, lacks}
use Rattle.cj_pass.specs.Passes.{HasNotedMore}
use Rattle.cj_pass.proofs.Passes.{noted_self, noted_then}
use Rattle.cj_replica.specs.declared.replica.CellError.{CellError}
use Rattle.cj_replica.specs.declared.replica.CellError.TheVariants.{Failed}
use Rattle.cj_locked_cell.specs.Loading.{IsLoaded}
use Rattle.cj_locked_cell.proofs.Asking.{fault_between}
use Rattle.cj_locked_cell.proofs.Loading.{within_later}
use Rattle.cj_return_path.proofs.Restoring.{cut_right, cut_storable}
use Rattle.cj_return_path.proofs.restore.load.Goals as goal

pub returns-then-is_enabled-clause-more : goal.returns-then-is_enabled-clause-more
returns-then-is_enabled-clause-more g c = noted_then (pass_view c.args.pass.now.seat) (pass_view c.log_length-length.new.pass.seat) (pass_view c.is_enabled.new.pass.seat) c.log_length-length.ensures.more c.is_enabled.ensures.more

pub returns-in-At-clause-more : goal.returns-in-At-clause-more
returns-in-At-clause-more g c = noted_then (pass_view c.args.pass.now.seat) (pass_view c.log_length-length.new.pass.seat) (pass_view c.stand.new.pass.seat) c.log_length-length.ensures.more (noted_then (pass_view c.log_length-length.new.pass.seat) (pass_view c.is_enabled.new.pass.seat) (pass_view c.stand.new.pass.seat) c.is_enabled.ensures.more c.stand.ensures.more)

pub returns-in-Elsewhere-clause-more : goal.returns-in-Elsewhere-clause-more
returns-in-Elsewhere-clause-more g c = noted_then (pass_view c.args.pass.now.seat) (pass_view c.log_length-length.new.pass.seat) (pass_view c.stand.new.pass.seat) c.log_length-length.ensures.more (noted_then (pass_view c.log_length-length.new.pass.seat) (pass_view c.is_enabled.new.pass.seat) (pass_view c.stand.new.pass.seat) c.is_enabled.ensures.more c.stand.ensures.more)

pub returns-in-Some-clause-more : goal.returns-in-Some-clause-more
returns-in-Some-clause-more g c = noted_then (pass_view c.args.pass.now.seat) (pass_view c.log_length-length.new.pass.seat) (pass_view c.stand.new.pass.seat) c.log_length-length.ensures.more (noted_then (pass_view c.log_length-length.new.pass.seat) (pass_view c.is_enabled.new.pass.seat) (pass_view c.stand.new.pass.seat) c.is_enabled.ensures.more c.stand.ensures.more)

pub returns-then-d-length-clause-more : goal.returns-then-d-length-clause-more
returns-then-d-length-clause-more g c = noted_then (pass_view c.args.pass.now.seat) (pass_view c.log_length-length.new.pass.seat) (pass_view c.stand.new.pass.seat) c.log_length-length.ensures.more (noted_then (pass_view c.log_length-length.new.pass.seat) (pass_view c.is_enabled.new.pass.seat) (pass_view c.stand.new.pass.seat) c.is_enabled.ensures.more c.stand.ensures.more)

pub returns-then-d-length-clause-loads : goal.returns-then-d-length-clause-loads
returns-then-d-length-clause-loads g c =
    let u = pass_view c.args.pass.now.seat in
    let v = pass_view c.log_length-length.new.pass.seat in
    let w = pass_view c.stand.new.pass.seat in
    let later : HasNotedMore v w = noted_then v (pass_view c.is_enabled.new.pass.seat) w c.is_enabled.ensures.more c.stand.ensures.more in
    let before : HasNotedMore u w = noted_then u v w c.log_length-length.ensures.more later in
    let more : c.log_length-length.result < c.args.d.position = search rules in
    (refl, v.front, c.log_length-length.ensures.more.seen.front, later.seen.front, subst (λ (k : ℕ). k < c.args.d.position) c.log_length-length.ensures.length more)

pub load_part-requires-clause-storable : goal.load_part-requires-clause-storable
load_part-requires-clause-storable g c =
    let same : c.cut-position.result ≡ cut c.args.d g.J.Naming.layout c.args.b = c.cut-position.ensures ∙ ap (λ (l : Layout). cut c.args.d l c.args.b) c.args.locks.now.laid in
    subst (λ (x : Dump). IsStorable x.db) (sym same) (cut_storable g.J.Naming.layout c.args.b c.args.d c.requires.dump.storable)

pub load_part-requires-clause-within : goal.load_part-requires-clause-within
load_part-requires-clause-within g c =
    let u = pass_view c.args.pass.now.seat in
    let v = pass_view c.log_length-length.new.pass.seat in
    let w = pass_view c.stand.new.pass.seat in
    let later : HasNotedMore v w = noted_then v (pass_view c.is_enabled.new.pass.seat) w c.is_enabled.ensures.more c.stand.ensures.more in
    let before : HasNotedMore u w = noted_then u v w c.log_length-length.ensures.more later in
    let most : c.args.d.position ≤ c.log_length-length.result = search rules in
    let within : c.args.d.position ≤ length (log v.front) = subst (λ (k : ℕ). c.args.d.position ≤ k) c.log_length-length.ensures.length most in
    let same : c.cut-position.result ≡ cut c.args.d g.J.Naming.layout c.args.b = c.cut-position.ensures ∙ ap (λ (l : Layout). cut c.args.d l c.args.b) c.args.locks.now.laid in
    subst (λ (x : Dump). x.position ≤ length (log w.front)) (sym same) (within_later v.front w.front later.seen.front c.args.d.position within)

pub load_part-requires-clause-right : goal.load_part-requires-clause-right
load_part-requires-clause-right g c on =
    let u = pass_view c.args.pass.now.seat in
    let v = pass_view c.log_length-length.new.pass.seat in
    let w = pass_view c.stand.new.pass.seat in
    let later : HasNotedMore v w = noted_then v (pass_view c.is_enabled.new.pass.seat) w c.is_enabled.ensures.more c.stand.ensures.more in
    let before : HasNotedMore u w = noted_then u v w c.log_length-length.ensures.more later in
    let nothing : c.lacks.result ≡ None = search rules in
    let none : lacks c.args.d g.J.Naming.layout c.args.b ≡ None = sym (c.lacks.ensures ∙ ap (λ (l : Layout). lacks c.args.d l c.args.b) c.args.locks.now.laid) ∙ nothing in
    let same : c.cut-position.result ≡ cut c.args.d g.J.Naming.layout c.args.b = c.cut-position.ensures ∙ ap (λ (l : Layout). cut c.args.d l c.args.b) c.args.locks.now.laid in
    subst (λ (x : Dump). x.db ≡ part (placement_of g.J.Naming.layout) c.args.b (database_after (log w.front) x.position)) (sym same) (cut_right g.B.Backend.tells g.J.Naming.layout c.args.b u.front w.front c.args.d c.requires.dump none before.seen.front on)

pub returns-in-Ok-true-clause-loads : goal.returns-in-Ok-true-clause-loads
returns-in-Ok-true-clause-loads g c =
    let u = pass_view c.args.pass.now.seat in
    let v = pass_view c.log_length-length.new.pass.seat in
    let w = pass_view c.stand.new.pass.seat in
    let later : HasNotedMore v w = noted_then v (pass_view c.is_enabled.new.pass.seat) w c.is_enabled.ensures.more c.stand.ensures.more in
    let before : HasNotedMore u w = noted_then u v w c.log_length-length.ensures.more later in
    let most : c.args.d.position ≤ c.log_length-length.result = search rules in
    let within : c.args.d.position ≤ length (log v.front) = subst (λ (k : ℕ). c.args.d.position ≤ k) c.log_length-length.ensures.length most in
    let nothing : c.lacks.result ≡ None = search rules in
    let none : lacks c.args.d g.J.Naming.layout c.args.b ≡ None = sym (c.lacks.ensures ∙ ap (λ (l : Layout). lacks c.args.d l c.args.b) c.args.locks.now.laid) ∙ nothing in
    let same : c.cut-position.result ≡ cut c.args.d g.J.Naming.layout c.args.b = c.cut-position.ensures ∙ ap (λ (l : Layout). cut c.args.d l c.args.b) c.args.locks.now.laid in
    let z = pass_view c.load_part.new.pass.seat in
    let done : c.load_part.result ≡ Ok true = search rules in
    let loaded : Contains z.position_notes (c.args.b, c.cut-position.result.position) = subst (λ (r : Result Bool CellError). IsLoaded c.args.b c.cut-position.result.position w z r) done c.load_part.ensures.loaded in
    let there : c.args.d.position ≤ length (log w.front) = within_later v.front w.front later.seen.front c.args.d.position within in
    (none, within_later w.front z.front c.load_part.ensures.more.seen.front c.args.d.position there, subst (λ (x : Dump). Contains z.position_notes (c.args.b, x.position)) same loaded)

pub returns-in-Err-Failed-clause-loads : goal.returns-in-Err-Failed-clause-loads
returns-in-Err-Failed-clause-loads g c =
    let u = pass_view c.args.pass.now.seat in
    let v = pass_view c.log_length-length.new.pass.seat in
    let w = pass_view c.stand.new.pass.seat in
    let later : HasNotedMore v w = noted_then v (pass_view c.is_enabled.new.pass.seat) w c.is_enabled.ensures.more c.stand.ensures.more in
    let before : HasNotedMore u w = noted_then u v w c.log_length-length.ensures.more later in
    let z = pass_view c.load_part.new.pass.seat in
    let failed : c.load_part.result ≡ Err Failed = search rules in
    (refl, fault_between c.args.b u w z z before (noted_self z) (subst (λ (r : Result Bool CellError). IsLoaded c.args.b c.cut-position.result.position w z r) failed c.load_part.ensures.loaded))

pub returns-in-Ok-true-clause-more : goal.returns-in-Ok-true-clause-more
returns-in-Ok-true-clause-more g c =
    let u = pass_view c.args.pass.now.seat in
    let v = pass_view c.log_length-length.new.pass.seat in
    let w = pass_view c.stand.new.pass.seat in
    let later : HasNotedMore v w = noted_then v (pass_view c.is_enabled.new.pass.seat) w c.is_enabled.ensures.more c.stand.ensures.more in
    let before : HasNotedMore u w = noted_then u v w c.log_length-length.ensures.more later in
    noted_then u w (pass_view c.load_part.new.pass.seat) before c.load_part.ensures.more

pub returns-in-Ok-false-clause-more : goal.returns-in-Ok-false-clause-more
returns-in-Ok-false-clause-more g c =
    let u = pass_view c.args.pass.now.seat in
    let v = pass_view c.log_length-length.new.pass.seat in
    let w = pass_view c.stand.new.pass.seat in
    let later : HasNotedMore v w = noted_then v (pass_view c.is_enabled.new.pass.seat) w c.is_enabled.ensures.more c.stand.ensures.more in
    let before : HasNotedMore u w = noted_then u v w c.log_length-length.ensures.more later in
    noted_then u w (pass_view c.load_part.new.pass.seat) before c.load_part.ensures.more

pub returns-in-Err-Failed-clause-more : goal.returns-in-Err-Failed-clause-more
returns-in-Err-Failed-clause-more g c =
    let u = pass_view c.args.pass.now.seat in
    let v = pass_view c.log_length-length.new.pass.seat in
    let w = pass_view c.stand.new.pass.seat in
    let later : HasNotedMore v w = noted_then v (pass_view c.is_enabled.new.pass.seat) w c.is_enabled.ensures.more c.stand.ensures.more in
    let before : HasNotedMore u w = noted_then u v w c.log_length-length.ensures.more later in
    noted_then u w (pass_view c.load_part.new.pass.seat) before c.load_part.ensures.more

pub returns-in-Err-Starved-clause-more : goal.returns-in-Err-Starved-clause-more
returns-in-Err-Starved-clause-more g c =
    let u = pass_view c.args.pass.now.seat in
    let v = pass_view c.log_length-length.new.pass.seat in
    let w = pass_view c.stand.new.pass.seat in
    let later : HasNotedMore v w = noted_then v (pass_view c.is_enabled.new.pass.seat) w c.is_enabled.ensures.more c.stand.ensures.more in
    let before : HasNotedMore u w = noted_then u v w c.log_length-length.ensures.more later in
    noted_then u w (pass_view c.load_part.new.pass.seat) before c.load_part.ensures.more
