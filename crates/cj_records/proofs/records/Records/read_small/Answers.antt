use Rattle.std.proofs.Common.{subst}
use Rattle.cj_records.specs.Records.{RecordList, SameRecords}
use Rattle.cj_records.proofs.Appended.{kept_at}
use Rattle.cj_records.proofs.Unchanged.{kept_same}
use Rattle.cj_records.proofs.records.Records.read_small.Goals as goal

pub returns-then-part-place-clause-same : goal.returns-then-part-place-clause-same
returns-then-part-place-clause-same g c =
    let s = g.S.Store in
    let r = c.self.inside in
    subst (λ (v : RecordList g.row.S.Denot). SameRecords s.tells s.held v (kept_at s.held c.show.new.store r.magic r.places.items r.end r.torn)) c.self.view_is
    (kept_same s.tells s.held r.store c.show.new.store r.magic r.places.items r.end r.torn c.show.ensures.bytes)
