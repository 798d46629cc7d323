-- What the cursor over tokens lends and takes, and what a function that reads ensures.
use Rattle.std.specs.Prelude.{◌≡◌, List, [], ◌∷◌, drop, Result, Ok, Err}
use Rattle.std.specs.declared.option.Option.{Option}
use Rattle.std.specs.declared.option.Option.TheVariants.{None, Some}
use Rattle.std.specs.Borrow.{Bor}
use Rattle.std.specs.Global.{Box}
use Rattle.cj_model.specs.declared.token.Token.{Token}
use Rattle.cj_model.specs.declared.condition.CondNode.{CondNode}
use Rattle.cj_model.specs.Database.Conditions.{Condition}
use Rattle.cj_model.specs.Proving.ConditionNodes.{condition_of_node}
use Rattle.cj_lex.specs.declared.error.SqlError.{SqlError}
use Rattle.cj_lex.specs.declared.error.SqlError.TheVariants.{Syntax, NoMemory}
use Rattle.cj_sql.specs.Proving.Reader.{ReadResult, refused, read}

-- the cursor lends the next token, or none at the end
abbrev pub Shows : Option (Bor Token) → List Token → Type 0
Shows None ts = ts ≡ []
Shows (Some t) ts = ts ≡ t.now ∷ drop 1 ts

-- the cursor takes the next token, or none at the end
abbrev pub TakesToken : Option Token → List Token → List Token → Type 0
TakesToken None old new = (old ≡ []) × (new ≡ old)
TakesToken (Some t) old new = old ≡ t ∷ new

-- A function of the code reads what the reader reads, with these tokens before and those after, unless memory ran out.
abbrev pub ReadsAs : {A S T : Type 0} → (S → ReadResult A T) → S → Result A SqlError → T → Type 0
ReadsAs reader old (Ok x) new = reader old ≡ read x new
ReadsAs reader old (Err Syntax) new = reader old ≡ refused
ReadsAs reader old (Err NoMemory) new = Unit {0}

-- So does one that reads a node of a condition's tree, in its box.
abbrev pub ReadsNode : {S T : Type 0} → (S → ReadResult Condition T) → S → Result (Box CondNode) SqlError → T → Type 0
ReadsNode reader old (Ok node) new = reader old ≡ read (condition_of_node node.value) new
ReadsNode reader old (Err Syntax) new = reader old ≡ refused
ReadsNode reader old (Err NoMemory) new = Unit {0}
