use Rattle.std.proofs.Common.{◌≡◌}
use Rattle.cj_conf.proofs.Cited.{first_unknown, members_view}
use Rattle.cj_conf.proofs.fields.stranger.Given as goal

abbrev pub invariant-keys : goal.invariant-keys
invariant-keys l =
    (goal.iterator-keys).can_next l.key-iterator × (goal.iterator-keys).is_finite l.key-iterator
    × (first_unknown l.known (members_view l.table.entries) ≡ first_unknown l.known (members_view l.key-iterator))
