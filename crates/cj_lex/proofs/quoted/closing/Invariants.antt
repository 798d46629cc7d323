use Rattle.std.proofs.Common.{◌≡◌, length, false}
use Rattle.cj_lex.specs.Proving.Cut.{close_string, with_front}
use Rattle.cj_lex.proofs.quoted.closing.Given as goal

abbrev pub invariant-loop-text : goal.invariant-loop-text
invariant-loop-text l = close_string false l.initial.text ≡ with_front l.found.items (close_string l.after_quote l.text)

abbrev pub decreases-loop-text : goal.decreases-loop-text
decreases-loop-text l = length l.text
