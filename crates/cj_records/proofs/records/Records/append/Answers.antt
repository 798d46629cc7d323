use Rattle.std.proofs.Common.{◌≡◌, ◌+◌, ℕ, false, true, List, [], ◌∷◌, ◌++◌, length, Ok, Err, ◌∙◌, sym, ap, subst, inl, inr}
use Rattle.cj_records.proofs.Common.{AgreesWithStore, AppendsRecord, Finds, IsBeforeOrAfter, Laid, LeavesOnly, OutError, Place, RecordList, Refuses, bodies_at, body_behind, overwritten}
use Rattle.cj_records.proofs.Reach.{bodies_same}
use Rattle.cj_records.proofs.Appended.{laid_front, keeps_front, kept_front, kept_at, shut_refused, write_refused, refused_list, refuses, Written, written, kept_more}
use Rattle.cj_records.proofs.Begun.{laid_finds}
use Rattle.cj_records.proofs.Safe.{Behind, written_behind, staged_is, staged_same}
use Rattle.cj_records.proofs.Crash.{started, shut_leaves, mid_images, record_leaves, safe_shut_refused, safe_write_refused, safe_only, safe_tells}
use Rattle.cj_records.proofs.records.Records.append.Goals as goal

pub invariant_of-self-in_err-shut_gate : goal.invariant_of-self-in_err-shut_gate
invariant_of-self-in_err-shut_gate g c =
    let held = g.S.Store.held in
    let r = c.self.inside in
    let refused = λ (t : g.S.Store.tells ≡ true). shut_refused r.end (held r.store) (held c.shut_gate.new.store) r.torn c.shut_gate.new.torn c.in_err-shut_gate.field-0.0 (c.in_err-shut_gate.ensures.bytes t) in
    rw c.reserve.ensures.items (
      kept_front g.S.Store.tells (held r.store) (held c.shut_gate.new.store) r.magic r.places.items r.end r.torn c.shut_gate.new.torn r.window.from c.shut.new.self.from r.window.bytes c.shut.new.self.bytes c.self.invariant.0
          (λ t. keeps_front r.end (held r.store) (held c.shut_gate.new.store) (refused t).0) (λ t shut. let open_gate = (refused t).1 in absurd (cc (open_gate, shut))) c.shut.ensures,
      safe_shut_refused g.S.Store.tells (held r.store) (held c.shut_gate.new.store) (g.S.Store.may r.store) (g.S.Store.may c.shut_gate.new.store) r.magic r.places.items r.end r.torn c.shut_gate.new.torn c.self.invariant.1 refused c.in_err-shut_gate.ensures.disk.images,
    )

pub returns-in_err-shut_gate-clause-list : goal.returns-in_err-shut_gate-clause-list
returns-in_err-shut_gate-clause-list g c = λ t.
    let held = g.S.Store.held in
    let r = c.self.inside in
    let refused = shut_refused r.end (held r.store) (held c.shut_gate.new.store) r.torn c.shut_gate.new.torn c.in_err-shut_gate.field-0.0 (c.in_err-shut_gate.ensures.bytes t) in
    let same : bodies_at (held c.shut_gate.new.store) c.reserve.new.self.items ≡ bodies_at (held r.store) r.places.items = ap (bodies_at (held c.shut_gate.new.store)) c.reserve.ensures.items ∙ bodies_same r.end r.places.items (held r.store) (held c.shut_gate.new.store) c.self.invariant.0.within refused.0.front in
    let new : RecordList g.row.S.Denot = kept_at held c.shut_gate.new.store r.magic c.reserve.new.self.items r.end c.shut_gate.new.torn in
    subst (λ (v : RecordList g.row.S.Denot). AppendsRecord v c.args.body.now new c.from_residual-in_err-shut_gate.result) c.self.view_is
    (refused_list (kept_at held r.store r.magic r.places.items r.end r.torn) new c.args.body.now c.from_residual-in_err-shut_gate.result c.in_err-shut_gate.field-0.0 c.from_residual-in_err-shut_gate.ensures.1 same (λ e up. refused.2))

-- what stands once the gate is closed
mid_laid : (g : _) (c : goal.After-drop-tail-in_err-write_record g) → g.S.Store.tells ≡ true → Laid c.self.inside.magic (g.S.Store.held c.shut_gate.new.store) (bodies_at (g.S.Store.held c.self.inside.store) c.self.inside.places.items) c.self.inside.end false
mid_laid g c t =
    let held = g.S.Store.held in
    let r = c.self.inside in
    let shut = c.in_ok-shut_gate.ensures.bytes t in
    laid_front r.magic (held r.store) (held c.shut_gate.new.store) (bodies_at (held r.store) r.places.items) r.end r.torn false (c.self.invariant.0.laid t) (keeps_front r.end (held r.store) (held c.shut_gate.new.store) shut.0) (λ e. shut.2 (c.self.invariant.0.laid t).closed)

behind : (g : _) (c : goal.After-drop-tail-in_err-write_record g) → g.S.Store.tells ≡ true → Behind c.self.inside.magic (g.S.Store.held c.shut_gate.new.store) (bodies_at (g.S.Store.held c.self.inside.store) c.self.inside.places.items) c.self.inside.end c.args.body.now c.deref.result.now
behind g c t = written_behind c.self.inside.magic (g.S.Store.held c.shut_gate.new.store) (bodies_at (g.S.Store.held c.self.inside.store) c.self.inside.places.items) c.self.inside.end c.args.body.now c.deref.result.now (mid_laid g c t) (c.deref.ensures.value ∙ c.in_ok-tail.ensures.tail) c.tail_of.ensures.len

images : (g : _) (c : goal.After-drop-tail-in_err-write_record g) → g.S.Store.tells ≡ true → (image : List ℕ) → g.S.Store.may c.shut_gate.new.store image → Laid c.self.inside.magic image (bodies_at (g.S.Store.held c.self.inside.store) c.self.inside.places.items) c.self.inside.end false
images g c t =
    let r = c.self.inside in
    let s = g.S.Store in
    mid_images s.moment s.may s.since s.held r.magic r.places.items r.end r.torn c.args.body.now r.store (c.self.invariant.0.laid t) (safe_tells s.tells (s.held r.store) (s.may r.store) r.magic r.places.items r.end r.torn t c.self.invariant.1) c.shut_gate.new.store (mid_laid g c t) c.in_ok-shut_gate.ensures.kept c.in_ok-shut_gate.ensures.safe

pub invariant_of-self-in_err-write_record : goal.invariant_of-self-in_err-write_record
invariant_of-self-in_err-write_record g c =
    let held = g.S.Store.held in
    let r = c.self.inside in
    let shut = λ (t : g.S.Store.tells ≡ true). c.in_ok-shut_gate.ensures.bytes t in
    let closed = λ (t : g.S.Store.tells ≡ true). (shut t).2 ((c.self.invariant.0.laid t).closed) in
    let mid : AgreesWithStore g.S.Store.tells (held c.shut_gate.new.store) r.magic r.places.items r.end false c.shut.new.self.from c.shut.new.self.bytes =
    kept_front g.S.Store.tells (held r.store) (held c.shut_gate.new.store) r.magic r.places.items r.end r.torn false r.window.from c.shut.new.self.from r.window.bytes c.shut.new.self.bytes c.self.invariant.0 (λ t. keeps_front r.end (held r.store) (held c.shut_gate.new.store) (shut t).0) (λ t e. closed t) c.shut.ensures in
    let refused = λ (t : g.S.Store.tells ≡ true). write_refused r.end (held c.shut_gate.new.store) c.deref.result.now (held c.write_record.new.store) c.write_record.new.torn c.in_err-write_record.field-0.0 (c.in_err-write_record.ensures.bytes t) in
    let same = λ (t : g.S.Store.tells ≡ true). bodies_same r.end r.places.items (held r.store) (held c.write_record.new.store) c.self.invariant.0.within ((refused t).0.front ∙ (shut t).0.front) in
    rw c.reserve.ensures.items (
      kept_front g.S.Store.tells (held c.shut_gate.new.store) (held c.write_record.new.store) r.magic r.places.items r.end false c.write_record.new.torn c.shut.new.self.from c.shut.new.self.from c.shut.new.self.bytes c.shut.new.self.bytes mid
          (λ t. (refused t).0) (λ t e one. closed t (sym ((refused t).1 e) ∙ one)) c.shut.ensures,
      safe_write_refused g.S.Store.tells (held c.shut_gate.new.store) (held c.write_record.new.store) (g.S.Store.may c.shut_gate.new.store) (g.S.Store.may c.write_record.new.store) r.magic r.places.items (bodies_at (held r.store) r.places.items) r.end c.write_record.new.torn c.args.body.now c.deref.result.now c.in_err-write_record.field-0.0
          same (images g c) (behind g c) (λ t. (refused t).2) c.in_err-write_record.ensures.images,
    )

pub returns-in_err-write_record-clause-list : goal.returns-in_err-write_record-clause-list
returns-in_err-write_record-clause-list g c = λ t.
    let held = g.S.Store.held in
    let r = c.self.inside in
    let shut = c.in_ok-shut_gate.ensures.bytes t in
    let refused = write_refused r.end (held c.shut_gate.new.store) c.deref.result.now (held c.write_record.new.store) c.write_record.new.torn c.in_err-write_record.field-0.0 (c.in_err-write_record.ensures.bytes t) in
    let same : bodies_at (held c.write_record.new.store) c.reserve.new.self.items ≡ bodies_at (held r.store) r.places.items =
    ap (bodies_at (held c.write_record.new.store)) c.reserve.ensures.items ∙ bodies_same r.end r.places.items (held r.store) (held c.write_record.new.store) c.self.invariant.0.within (refused.0.front ∙ shut.0.front) in
    let new : RecordList g.row.S.Denot = kept_at held c.write_record.new.store r.magic c.reserve.new.self.items r.end c.write_record.new.torn in
    subst (λ (v : RecordList g.row.S.Denot). AppendsRecord v c.args.body.now new c.from_residual-in_err-write_record.result) c.self.view_is
    (refused_list (kept_at held r.store r.magic r.places.items r.end r.torn) new c.args.body.now c.from_residual-in_err-write_record.result c.in_err-write_record.field-0.0 c.from_residual-in_err-write_record.ensures.1 same
    (λ e up. let down = c.in_err-write_record.ensures.memory (ap (λ (x : OutError). Err x) e) in absurd (cc (down, up))))

-- the bytes that were written
bytes : (g : _) (c : goal.After-drop-tail-2 g) → g.S.Store.tells ≡ true → Written c.self.inside.magic (g.S.Store.held c.shut_gate.new.store) (g.S.Store.held c.write_record.new.store) c.self.inside.places.items c.self.inside.end c.args.body.now
bytes g c t =
    let held = g.S.Store.held in
    let r = c.self.inside in
    let shut = c.in_ok-shut_gate.ensures.bytes t in
    let kept : bodies_at (held c.shut_gate.new.store) r.places.items ≡ bodies_at (held r.store) r.places.items = bodies_same r.end r.places.items (held r.store) (held c.shut_gate.new.store) c.self.invariant.0.within shut.0.front in
    let laid : Laid r.magic (held c.shut_gate.new.store) (bodies_at (held r.store) r.places.items) r.end false =
    laid_front r.magic (held r.store) (held c.shut_gate.new.store) (bodies_at (held r.store) r.places.items) r.end r.torn false (c.self.invariant.0.laid t) (keeps_front r.end (held r.store) (held c.shut_gate.new.store) shut.0) (λ e. shut.2 (c.self.invariant.0.laid t).closed) in
    written r.magic (held c.shut_gate.new.store) (held c.write_record.new.store) r.places.items r.end c.args.body.now c.deref.result.now c.self.invariant.0.within
    (subst (λ (bs : List (List ℕ)). Laid r.magic (held c.shut_gate.new.store) bs r.end false) (sym kept) laid) (c.deref.ensures.value ∙ c.in_ok-tail.ensures.tail) c.in_ok-write_record.ensures.limit (c.in_ok-write_record.ensures.bytes t).0

places : (g : _) (c : goal.After-drop-tail-2 g) → c.push_reserved.new.self.items ≡ c.self.inside.places.items ++ record { at = c.self.inside.end; len = length c.args.body.now } ∷ []
places g c = c.push_reserved.ensures.items ∙ ap (λ (ps : List Place). ps ++ record { at = c.self.inside.end; len = length c.args.body.now } ∷ []) c.reserve.ensures.items

kept : (g : _) (c : goal.After-drop-tail-2 g) → AgreesWithStore g.S.Store.tells (g.S.Store.held c.write_record.new.store) c.self.inside.magic c.push_reserved.new.self.items (c.self.inside.end + 9 + length c.args.body.now) c.write_record.new.torn c.shut.new.self.from c.shut.new.self.bytes
kept g c =
    let held = g.S.Store.held in
    let r = c.self.inside in
    let tail = c.deref.ensures.value ∙ c.in_ok-tail.ensures.tail in
    kept_more g.S.Store.tells (held c.shut_gate.new.store) (held c.write_record.new.store) r.magic r.places.items c.push_reserved.new.self.items r.end c.args.body.now c.deref.result.now c.write_record.new.torn c.shut.new.self.from c.shut.new.self.bytes
    c.self.invariant.0.within tail c.in_ok-write_record.ensures.limit (places g c) (bytes g c) c.in_ok-write_record.ensures.torn c.shut.ensures

pub invariant_of-self-2 : goal.invariant_of-self-2
invariant_of-self-2 g c = (kept g c, safe_only g.S.Store.tells (g.S.Store.held c.write_record.new.store) (g.S.Store.may c.write_record.new.store) c.self.inside.magic c.push_reserved.new.self.items (c.self.inside.end + 9 + length c.args.body.now) c.write_record.new.torn c.in_ok-write_record.ensures.torn (kept g c).laid c.in_ok-write_record.ensures.images)

pub returns-clause-list : goal.returns-clause-list
returns-clause-list g c = λ t.
    let held = g.S.Store.held in
    let r = c.self.inside in
    let kept : bodies_at (held c.shut_gate.new.store) r.places.items ≡ bodies_at (held r.store) r.places.items = bodies_same r.end r.places.items (held r.store) (held c.shut_gate.new.store) c.self.invariant.0.within (c.in_ok-shut_gate.ensures.bytes t).0.front in
    let same : bodies_at (held c.write_record.new.store) c.push_reserved.new.self.items ≡ bodies_at (held r.store) r.places.items ++ c.args.body.now ∷ [] =
    ap (bodies_at (held c.write_record.new.store)) (places g c) ∙ (bytes g c t).bodies ∙ ap (λ (bs : List (List ℕ)). bs ++ c.args.body.now ∷ []) kept in
    let list : bodies_at (held r.store) r.places.items ≡ c.args.self.now.list = ap (λ (v : RecordList g.row.S.Denot). v.list) c.self.view_is in
    (same ∙ ap (λ (bs : List (List ℕ)). bs ++ c.args.body.now ∷ []) list, c.in_ok-write_record.ensures.torn)

-- ---- what a stop leaves

pub returns-in_err-tail-clause-any_moment : goal.returns-in_err-tail-clause-any_moment
returns-in_err-tail-clause-any_moment g c = λ t.
    let s = g.S.Store in
    let r = c.self.inside in
    subst (λ (v : RecordList g.row.S.Denot). LeavesOnly s.moment s.since v.store v.store (IsBeforeOrAfter v c.args.body.now)) c.self.view_is
    (started s.moment s.may s.since s.held r.magic r.places.items r.end r.torn c.args.body.now r.store (c.self.invariant.0.laid t) (safe_tells s.tells (s.held r.store) (s.may r.store) r.magic r.places.items r.end r.torn t c.self.invariant.1) (λ image left. g.met.S.Store.only_now r.store image left))

pub returns-in_err-reserve-clause-any_moment : goal.returns-in_err-reserve-clause-any_moment
returns-in_err-reserve-clause-any_moment g c = λ t.
    let s = g.S.Store in
    let r = c.self.inside in
    subst (λ (v : RecordList g.row.S.Denot). LeavesOnly s.moment s.since v.store r.store (IsBeforeOrAfter v c.args.body.now)) c.self.view_is
    (started s.moment s.may s.since s.held r.magic r.places.items r.end r.torn c.args.body.now r.store (c.self.invariant.0.laid t) (safe_tells s.tells (s.held r.store) (s.may r.store) r.magic r.places.items r.end r.torn t c.self.invariant.1) (λ image left. g.met.S.Store.only_now r.store image left))

pub returns-in_err-shut_gate-clause-any_moment : goal.returns-in_err-shut_gate-clause-any_moment
returns-in_err-shut_gate-clause-any_moment g c = λ t.
    let s = g.S.Store in
    let r = c.self.inside in
    let laid = c.self.invariant.0.laid t in
    let safe = safe_tells s.tells (s.held r.store) (s.may r.store) r.magic r.places.items r.end r.torn t c.self.invariant.1 in
    let start = started s.moment s.may s.since s.held r.magic r.places.items r.end r.torn c.args.body.now r.store laid safe (λ image left. g.met.S.Store.only_now r.store image left) in
    subst (λ (v : RecordList g.row.S.Denot). LeavesOnly s.moment s.since v.store c.shut_gate.new.store (IsBeforeOrAfter v c.args.body.now)) c.self.view_is
    (shut_leaves s.moment s.may s.since s.held r.magic r.places.items r.end r.torn c.args.body.now r.store laid safe c.shut_gate.new.store c.in_err-shut_gate.ensures.disk c.in_err-shut_gate.ensures.kept start)

pub returns-in_err-write_record-clause-any_moment : goal.returns-in_err-write_record-clause-any_moment
returns-in_err-write_record-clause-any_moment g c = λ t.
    let s = g.S.Store in
    let r = c.self.inside in
    let laid = c.self.invariant.0.laid t in
    let safe = safe_tells s.tells (s.held r.store) (s.may r.store) r.magic r.places.items r.end r.torn t c.self.invariant.1 in
    let start = started s.moment s.may s.since s.held r.magic r.places.items r.end r.torn c.args.body.now r.store laid safe (λ image left. g.met.S.Store.only_now r.store image left) in
    let mid = shut_leaves s.moment s.may s.since s.held r.magic r.places.items r.end r.torn c.args.body.now r.store laid safe c.shut_gate.new.store c.in_ok-shut_gate.ensures.disk c.in_ok-shut_gate.ensures.kept start in
    subst (λ (v : RecordList g.row.S.Denot). LeavesOnly s.moment s.since v.store c.write_record.new.store (IsBeforeOrAfter v c.args.body.now)) c.self.view_is
    (record_leaves s.moment s.may s.since s.held r.magic r.places.items r.end r.torn c.args.body.now r.store laid safe c.shut_gate.new.store c.write_record.new.store c.deref.result.now mid (images g c t) (behind g c t) (c.in_err-write_record.ensures.since t))

pub returns-in_err-shut_gate-clause-refused : goal.returns-in_err-shut_gate-clause-refused
returns-in_err-shut_gate-clause-refused g c = λ t.
    let held = g.S.Store.held in
    let r = c.self.inside in
    let refused = shut_refused r.end (held r.store) (held c.shut_gate.new.store) r.torn c.shut_gate.new.torn c.in_err-shut_gate.field-0.0 (c.in_err-shut_gate.ensures.bytes t) in
    let stands = c.self.invariant.1.stands t refused.2 in
    let new : RecordList g.row.S.Denot = kept_at held c.shut_gate.new.store r.magic c.reserve.new.self.items r.end c.shut_gate.new.torn in
    subst (λ (v : RecordList g.row.S.Denot). Refuses v c.args.body.now new c.from_residual-in_err-shut_gate.result) c.self.view_is
    (refuses (kept_at held r.store r.magic r.places.items r.end r.torn) new c.args.body.now c.from_residual-in_err-shut_gate.result c.in_err-shut_gate.field-0.0 c.from_residual-in_err-shut_gate.ensures.1
    (λ up. inr (refused.2, staged_is (held c.shut_gate.new.store) r.end (body_behind (held r.store) r.end) (staged_same r.end (held r.store) (held c.shut_gate.new.store) (body_behind (held r.store) r.end) stands refused.0.behind))))

pub returns-in_err-write_record-clause-refused : goal.returns-in_err-write_record-clause-refused
returns-in_err-write_record-clause-refused g c = λ t.
    let held = g.S.Store.held in
    let r = c.self.inside in
    let refused = write_refused r.end (held c.shut_gate.new.store) c.deref.result.now (held c.write_record.new.store) c.write_record.new.torn c.in_err-write_record.field-0.0 (c.in_err-write_record.ensures.bytes t) in
    let new : RecordList g.row.S.Denot = kept_at held c.write_record.new.store r.magic c.reserve.new.self.items r.end c.write_record.new.torn in
    subst (λ (v : RecordList g.row.S.Denot). Refuses v c.args.body.now new c.from_residual-in_err-write_record.result) c.self.view_is
    (refuses (kept_at held r.store r.magic r.places.items r.end r.torn) new c.args.body.now c.from_residual-in_err-write_record.result c.in_err-write_record.field-0.0 c.from_residual-in_err-write_record.ensures.1
    (λ up. inl (staged_is (held c.write_record.new.store) r.end c.args.body.now (staged_same r.end (overwritten (held c.shut_gate.new.store) (r.end + 1) c.deref.result.now) (held c.write_record.new.store) c.args.body.now (behind g c t).body_behind (refused.2 up).behind))))

pub returns-clause-safe : goal.returns-clause-safe
returns-clause-safe g c = λ t image now.
    let held = g.S.Store.held in
    let only = c.in_ok-write_record.ensures.images t image now in
    let list = bodies_at (held c.write_record.new.store) c.push_reserved.new.self.items in
    subst (λ (x : List ℕ). Finds c.self.inside.magic x (Ok list)) (sym only) (laid_finds c.self.inside.magic (held c.write_record.new.store) list (c.self.inside.end + 9 + length c.args.body.now) c.write_record.new.torn ((kept g c).laid t) c.in_ok-write_record.ensures.torn)

pub returns-clause-any_moment : goal.returns-clause-any_moment
returns-clause-any_moment g c = λ t.
    let s = g.S.Store in
    let r = c.self.inside in
    let laid = c.self.invariant.0.laid t in
    let safe = safe_tells s.tells (s.held r.store) (s.may r.store) r.magic r.places.items r.end r.torn t c.self.invariant.1 in
    let start = started s.moment s.may s.since s.held r.magic r.places.items r.end r.torn c.args.body.now r.store laid safe (λ image left. g.met.S.Store.only_now r.store image left) in
    let mid = shut_leaves s.moment s.may s.since s.held r.magic r.places.items r.end r.torn c.args.body.now r.store laid safe c.shut_gate.new.store c.in_ok-shut_gate.ensures.disk c.in_ok-shut_gate.ensures.kept start in
    let shut = c.in_ok-shut_gate.ensures.bytes t in
    let mid_is = laid_front r.magic (s.held r.store) (s.held c.shut_gate.new.store) (bodies_at (s.held r.store) r.places.items) r.end r.torn false laid (keeps_front r.end (s.held r.store) (s.held c.shut_gate.new.store) shut.0) (λ e. shut.2 laid.closed) in
    let written = written_behind r.magic (s.held c.shut_gate.new.store) (bodies_at (s.held r.store) r.places.items) r.end c.args.body.now c.deref.result.now mid_is (c.deref.ensures.value ∙ c.in_ok-tail.ensures.tail) c.tail_of.ensures.len in
    let seen = mid_images s.moment s.may s.since s.held r.magic r.places.items r.end r.torn c.args.body.now r.store laid safe c.shut_gate.new.store mid_is c.in_ok-shut_gate.ensures.kept c.in_ok-shut_gate.ensures.safe in
    subst (λ (v : RecordList g.row.S.Denot). LeavesOnly s.moment s.since v.store c.write_record.new.store (IsBeforeOrAfter v c.args.body.now)) c.self.view_is
    (record_leaves s.moment s.may s.since s.held r.magic r.places.items r.end r.torn c.args.body.now r.store laid safe c.shut_gate.new.store c.write_record.new.store c.deref.result.now mid seen written (c.in_ok-write_record.ensures.since t))
