-- What follows from what words were read as.
use Rattle.std.proofs.Common.{◌≡◌, ◌↔◌, inl, inr, ℕ, List, Option, None, Some, subst}
use Rattle.cj_top.proofs.Common.{Command, Gen, Log, Pipe, Script}
use Rattle.cj_args.specs.Words.{AsksCommand, Says, SaysWork}
use Rattle.cj_args.specs.declared.asked.Asked.{Asked}
use Rattle.cj_args.specs.declared.asked.Asked.TheVariants as asked
use Rattle.cj_args.specs.declared.asked.Topic.{Topic}
use Rattle.cj_top.specs.Program.{AsksForText}
use Rattle.cj_top.specs.Runs.{HasFewStatements}

-- words ask for no more statements than they may
pub few_said : (words : List (List ℕ)) (a : Command) → Says words a → HasFewStatements a
few_said words (Pipe path) says = tt
few_said words (Script path) says = tt
few_said words (Log path) says = tt
few_said words (Gen path seed count) says = says.2.most

-- words that ask for work ask for something
pub work_asked : (words : List (List ℕ)) → SaysWork words → ((a : Asked) → AsksCommand words a → ⊥) → ⊥
work_asked words (inl (command, says)) none = none (asked.Command command) says
work_asked words (inr (conf, address, serves)) none = none (asked.Serve conf address) serves

module _ (words : List (List ℕ)) (found : Option Asked) (reads : (a : Asked) → (found ≡ Some a) ↔ AsksCommand words a) where
  command_same : (a b : Command) → found ≡ Some (asked.Command a) → Says words b → a ≡ b
  command_same a b is says = let other = (reads (asked.Command b)).1 says in cc (is, other)

  -- what holds of the command that was read holds of each that the words are
  pub of_command : (P : Command → Type 0) (a : Command) → found ≡ Some (asked.Command a) → P a → (b : Command) → Says words b → P b
  of_command P a is holds b says = subst P (command_same a b is says) holds

  pub is_no_text : (a : Command) → found ≡ Some (asked.Command a) → AsksForText words → ⊥
  is_no_text a is (inl (topic, asks)) = let other = (reads (asked.Help topic)).1 asks in absurd (cc (is, other))
  is_no_text a is (inr asks) = let other = (reads asked.Version).1 asks in absurd (cc (is, other))

  pub help_is_no_command : (topic : Topic) (b : Command) → found ≡ Some (asked.Help topic) → Says words b → ⊥
  help_is_no_command topic b is says = let other = (reads (asked.Command b)).1 says in absurd (cc (is, other))

  pub version_is_no_command : (b : Command) → found ≡ Some asked.Version → Says words b → ⊥
  version_is_no_command b is says = let other = (reads (asked.Command b)).1 says in absurd (cc (is, other))

  pub serving_is_no_command : (conf address : List ℕ) (b : Command) → found ≡ Some (asked.Serve conf address) → Says words b → ⊥
  serving_is_no_command conf address b is says = let other = (reads (asked.Command b)).1 says in absurd (cc (is, other))

  pub serving_is_no_text : (conf address : List ℕ) → found ≡ Some (asked.Serve conf address) → AsksForText words → ⊥
  serving_is_no_text conf address is (inl (topic, asks)) = let other = (reads (asked.Help topic)).1 asks in absurd (cc (is, other))
  serving_is_no_text conf address is (inr asks) = let other = (reads asked.Version).1 asks in absurd (cc (is, other))

  pub asks_nothing : found ≡ None → (a : Asked) → AsksCommand words a → ⊥
  asks_nothing is a asks = let other = (reads a).1 asks in absurd (cc (is, other))

  pub asks_for_no_text : found ≡ None → AsksForText words → ⊥
  asks_for_no_text is (inl (topic, asks)) = asks_nothing is (asked.Help topic) asks
  asks_for_no_text is (inr asks) = asks_nothing is asked.Version asks
