use Rattle.cj_conf.proofs.Cited.{err_from_is_err_and, plain_refusal, table_view}
use Rattle.cj_conf.proofs.conf.read_conf.Goals as goal

pub returns-in_err-settings-clause-memory : goal.returns-in_err-settings-clause-memory
returns-in_err-settings-clause-memory c =
    let p = err_from_is_err_and c.from_residual-in_err-settings.result c.from_residual-in_err-settings.ensures.1 in
    rw (p.1, p.2) (plain_refusal (table_view c.in_ok-table.table) _ c.in_err-settings.ensures.settings)
