use Rattle.std.proofs.Common.{List, ap, ◌∙◌}
use Rattle.cj_start.proofs.Cited.{Event, enabled_standing, has_started, idle_opening, is_enabled, is_free, none_on, only_history}
use Rattle.cj_start.proofs.start.bring_up.Goals as goal

pub replay_everywhere-requires-clause-off : goal.replay_everywhere-requires-clause-off
replay_everywhere-requires-clause-off g c = none_on c.args.state.now.core.history c.requires.opening

pub enable_everywhere-requires-clause-free : goal.enable_everywhere-requires-clause-free
enable_everywhere-requires-clause-free g c =
    ap (λ (h : List Event). is_free h) (only_history c.args.state.now c.replay_everywhere.new.state c.replay_everywhere.ensures.only) ∙ idle_opening c.args.state.now.core.history c.requires.opening

pub enable_everywhere-requires-clause-off : goal.enable_everywhere-requires-clause-off
enable_everywhere-requires-clause-off g c b =
    ap (λ (h : List Event). is_enabled h b) (only_history c.args.state.now c.replay_everywhere.new.state c.replay_everywhere.ensures.only) ∙ none_on c.args.state.now.core.history c.requires.opening b

pub end_all-requires-clause-stands : goal.end_all-requires-clause-stands
end_all-requires-clause-stands g c =
    enabled_standing c.args.state.now c.replay_everywhere.new.state c.replay_everywhere.ensures.only c.in_ok-replay_everywhere.ensures.all c.enable_everywhere.new.state c.in_ok-enable_everywhere.ensures.ok

pub returns-clause-started : goal.returns-clause-started
returns-clause-started g c =
    has_started c.args.state.now c.replay_everywhere.new.state c.replay_everywhere.ensures.only c.in_ok-replay_everywhere.ensures.all c.enable_everywhere.new.state c.in_ok-enable_everywhere.ensures.ok c.requires.opened
    c.end_all.new.state c.in_ok-end_all.ensures.ended g.B.Backend.tells c.legal-2.ensures.world
