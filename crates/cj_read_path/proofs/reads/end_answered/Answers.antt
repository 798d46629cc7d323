use Rattle.std.proofs.Common.{ap, sym, ◌∙◌}
use Rattle.cj_model.specs.declared.select.Select.{Select}
use Rattle.cj_model.specs.Database.Queries.{ask}
use Rattle.cj_cluster.specs.History.Histories.{database_after, log}
use Rattle.cj_board.specs.Seats.{front}
use Rattle.cj_read_path.proofs.reads.end_answered.Goals as goal

pub keep-requires-clause-right : goal.keep-requires-clause-right
keep-requires-clause-right g c = λ on.
    let entries = log (front c.args.pass.now.seat) in
    let outside = c.in-Some.ensures.outside in
    let copy = c.in-Some-copy_for_cache.ensures in
    let says = c.requires.gives.1.says (sym c.args.locks.now.told ∙ on) c.requires.hosts in
    copy.1 ∙ (says ∙ (ap (λ k. ask (database_after entries c.args.at) k c.args.query.now.select.now) outside ∙ (ap (λ (s : Select). ask (database_after entries c.args.at) 0 s) (sym copy.0) ∙ ap (λ k. ask (database_after entries k) 0 c.in-Some-copy_for_cache.copy.select) (sym copy.2))))
