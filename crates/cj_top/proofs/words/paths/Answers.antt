use Rattle.cj_top.proofs.words.paths.Goals as goal

pub returns-in-Some-clause-none : goal.returns-in-Some-clause-none
returns-in-Some-clause-none c = (λ e. absurd (cc e), λ none. absurd (none c.in-Some.conf.now c.in-Some.ensures.some))
