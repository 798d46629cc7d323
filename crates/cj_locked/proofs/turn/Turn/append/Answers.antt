use Rattle.cj_locked.proofs.Following.{follows_append}
use Rattle.cj_locked.proofs.Marking.{follows_mark}
use Rattle.cj_locked.proofs.turn.Turn.append.Goals as goal

pub returns-clause-follows : goal.returns-clause-follows
returns-clause-follows g c = λ h e follows its.
    follows_append g.S.Store.tells g.S.Store.faults c.append.new.self h e c.append.result (c.append.ensures.follows_entry h e follows its) (c.append.ensures.follows_fault h e.session e.seq follows) (c.append.ensures.follows_want h follows)

pub returns-clause-follows_marker : goal.returns-clause-follows_marker
returns-clause-follows_marker g c = λ h name b follows its.
    follows_mark g.S.Store.tells g.S.Store.faults c.append.new.self h name b c.append.result (c.append.ensures.follows_marker h name b follows its) (c.append.ensures.follows_fault h 0 0 follows) (c.append.ensures.follows_want h follows)
