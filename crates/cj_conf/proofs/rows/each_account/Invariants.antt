use Rattle.std.proofs.Common.{◌≡◌, drop}
use Rattle.cj_conf.proofs.Cited.{HasShortUsers, Users, account_of, array_view, as_table, each, items_view, onto, config_row}
use Rattle.cj_conf.proofs.rows.each_account.Given as goal

abbrev pub invariant-loop-value : goal.invariant-loop-value
invariant-loop-value l =
    (each (λ row. config_row Users account_of (as_table row)) (array_view l.array)
    ≡ onto l.accounts (each (λ row. config_row Users account_of (as_table row)) (items_view (drop l.value-index l.value-items))))
    × HasShortUsers l.accounts
