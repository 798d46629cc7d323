-- What follows from words that ask to serve.
use Rattle.std.proofs.Common.{◌≡◌, sym, ◌∙◌, ℕ, true, List, ◌∷◌, codes, inl, inr}
use Rattle.std.specs.Str.{bytes_eq}
use Rattle.std.proofs.lemmas.Slice.Eq.{bytes_eq-Decides}
use Rattle.cj_args.specs.Words.{AsksCommand, Says}
use Rattle.cj_args.specs.declared.asked.Asked.{Asked}
use Rattle.cj_args.specs.declared.asked.Asked.TheVariants as asked
use Rattle.cj_args.specs.declared.asked.Command.{Command}
use Rattle.cj_args.specs.declared.asked.Command.TheVariants.{Pipe, Script, Log, Gen}
use Rattle.cj_args.specs.declared.asked.Topic.TheVariants as topic
use Rattle.cj_top.specs.Program.{AsksForText}
use Rattle.cj_program.specs.Served.{AsksToServe}

-- the first words of two lists that are the same
first_same : (x y : List ℕ) (xs ys : List (List ℕ)) → x ∷ xs ≡ y ∷ ys → x ≡ y
first_same x y xs ys same = cc same

gen_is_not_serve : codes "gen" ≡ codes "serve" → ⊥
gen_is_not_serve same = let equal : bytes_eq (codes "gen") (codes "serve") ≡ true = (bytes_eq-Decides (codes "gen") (codes "serve")).1 same in absurd (cc equal)

-- they are no command's
pub serving_is_no_command : (words : List (List ℕ)) → AsksToServe words → (command : Command) → Says words command → ⊥
serving_is_no_command words (conf, address, serves) (Pipe path) says = let first = serves.0 in let other = says.0 in absurd (cc (first, other))
serving_is_no_command words (conf, address, serves) (Script path) says = let first = serves.0 in let other = says.0 in absurd (cc (first, other))
serving_is_no_command words (conf, address, serves) (Log path) says = let first = serves.0 in let other = says.0 in absurd (cc (first, other))
serving_is_no_command words (conf, address, serves) (Gen path seed count) (rest, is, workload) = gen_is_not_serve (first_same _ _ _ _ (sym is ∙ serves.0))

-- they ask for no text
pub serving_is_no_text : (words : List (List ℕ)) → AsksToServe words → AsksForText words → ⊥
serving_is_no_text words (conf, address, serves) (inl (topic.Program, asks)) = let first = serves.0 in absurd (cc (first, asks))
serving_is_no_text words (conf, address, serves) (inl (topic.Command verb, asks)) = let first = serves.0 in absurd (cc (first, asks))
serving_is_no_text words (conf, address, serves) (inr asks) = let first = serves.0 in absurd (cc (first, asks))

-- and they ask for something
pub serving_is_asked : (words : List (List ℕ)) → AsksToServe words → ((a : Asked) → AsksCommand words a → ⊥) → ⊥
serving_is_asked words (conf, address, serves) none = none (asked.Serve conf address) serves
