use Rattle.cj_top.proofs.scripted.play_over.Goals as goal

pub returns-clause-played : goal.returns-clause-played
returns-clause-played g c = (c.in_ok-world.world, c.in_ok-world.ensures.begins, c.in_ok-world.ensures.counts, c.script-end.ensures.came, c.script-end.ensures.turns)
