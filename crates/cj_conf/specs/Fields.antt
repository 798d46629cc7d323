-- The values at the keys of a table, or why they are refused.
use Rattle.std.specs.Prelude.{ℕ, ℤ, pos, negsuc, Bool, ◌&&◌, nat_le, if◌then◌else◌, List, length, codes}
use Rattle.std.specs.declared.option.Option.{Option}
use Rattle.std.specs.declared.option.Option.TheVariants.{None, Some}
use Rattle.std.specs.declared.result.Result.{Result}
use Rattle.std.specs.declared.result.Result.TheVariants.{Ok, Err}
use Rattle.std.specs.List.{list_any}
use Rattle.std.specs.Str.{bytes_eq}
use Rattle.toml.specs.Data.{Data, Members, no_members, member, get_member, as_str, as_integer}
use Rattle.cj_model.specs.declared.placement.Level.{Level}
use Rattle.cj_model.specs.declared.placement.Level.TheVariants.{Raidb0, Raidb1, Raidb2}
use Rattle.cj_model.specs.declared.policy.Policy.{Policy}
use Rattle.cj_model.specs.declared.policy.Policy.TheVariants.{RoundRobin, Weighted, LeastPending}
use Rattle.cj_model.specs.declared.limits.TheConstants.{USER_LIMIT}
use Rattle.cj_model.specs.Sql.Names as names
use Rattle.cj_conf.specs.declared.backend.BackendKind.{BackendKind}
use Rattle.cj_conf.specs.declared.backend.BackendKind.TheVariants.{Memory, Sqlite}
use Rattle.cj_conf.specs.declared.key.Key.{Key}
use Rattle.cj_conf.specs.declared.key.Key.TheVariants as key
use Rattle.cj_conf.specs.declared.error.ConfError.{ConfError}
use Rattle.cj_conf.specs.declared.error.ConfError.TheVariants.{Missing, WrongType, Range, Unknown}
use Rattle.cj_conf.specs.Keys.{key_name}

-- ---- words

-- what was read goes on to the next step; a refusal ends the reading
abbrev pub and_then : {A B : Type 0} → Result A ConfError → (A → Result B ConfError) → Result B ConfError
and_then (Ok a) next = next a
and_then (Err e) next = Err e

-- what was read, unless there is something wrong with it
abbrev pub unless : {A E : Type 0} → (E → ConfError) → Option E → A → Result A ConfError
unless refuse None read = Ok read
unless refuse (Some e) read = Err (refuse e)

-- the value at a key of a table
abbrev pub at : Key → Members → Option Data
at k ms = get_member (key_name k) ms

-- the value at a key that must be there, or its refusal
abbrev pub required : {A : Type 0} → Key → (Data → Result A ConfError) → Option Data → Result A ConfError
required k read None = Err (Missing k)
required k read (Some d) = read d

-- the value at a key that may be absent, and what holds then
abbrev pub optional : {A : Type 0} → A → (Data → Result A ConfError) → Option Data → Result A ConfError
optional absent read None = Ok absent
optional absent read (Some d) = read d

-- ---- numbers

-- an integer within bounds
abbrev pub number_within : Key → ℕ → ℕ → Option ℤ → Result ℕ ConfError
number_within k least most None = Err (WrongType k)
number_within k least most (Some (pos n)) = if nat_le least n && nat_le n most then Ok n else Err (Range k)
number_within k least most (Some (negsuc n)) = Err (Range k)

-- an integer within bounds at a key that may be absent
abbrev pub number_at : Key → ℕ → ℕ → ℕ → Members → Result ℕ ConfError
number_at k least most absent ms = optional absent (λ d. number_within k least most (as_integer d)) (at k ms)

-- ---- texts

-- what a text is read as, or the refusal `Range` if it can't be read
abbrev pub in_range : {A : Type 0} → Key → Option A → Result A ConfError
in_range k None = Err (Range k)
in_range k (Some a) = Ok a

-- what the text at a key is read as, or its refusal if it is no text or can't be read
abbrev pub text_as : {A : Type 0} → Key → (List ℕ → Option A) → Option (List ℕ) → Result A ConfError
text_as k read None = Err (WrongType k)
text_as k read (Some s) = in_range k (read s)

-- a name: 1 to 32 letters in lower case, digits and `_`, not beginning with a digit
abbrev pub name_in : Key → Data → Result (List ℕ) ConfError
name_in k d = text_as k names.name_of (as_str d)

-- a text without byte 0
abbrev pub text_in : Key → Data → Result (List ℕ) ConfError
text_in k d = text_as k names.text_of (as_str d)

-- 1 to 64 bytes, as a user's name has
abbrev pub is_user : List ℕ → Bool
is_user s = nat_le 1 (length s) && nat_le (length s) USER_LIMIT

-- a text without byte 0 that is a user's name
abbrev pub user_text : List ℕ → Option (List ℕ)
user_text s = if is_user s then names.text_of s else None

-- the levels, policies and kinds by their words
abbrev pub level_named : List ℕ → Option Level
level_named s =
    if bytes_eq s (codes "raidb0") then Some Raidb0
    else if bytes_eq s (codes "raidb1") then Some Raidb1
    else if bytes_eq s (codes "raidb2") then Some Raidb2
    else None

abbrev pub policy_named : List ℕ → Option Policy
policy_named s =
    if bytes_eq s (codes "round-robin") then Some RoundRobin
    else if bytes_eq s (codes "weighted") then Some Weighted
    else if bytes_eq s (codes "least-pending") then Some LeastPending
    else None

abbrev pub kind_named : List ℕ → Option BackendKind
kind_named s =
    if bytes_eq s (codes "memory") then Some Memory
    else if bytes_eq s (codes "sqlite") then Some Sqlite
    else None

-- ---- fields of one value

abbrev pub level_at : Members → Result Level ConfError
level_at ms = required key.Level (λ d. text_as key.Level level_named (as_str d)) (at key.Level ms)

abbrev pub policy_at : Members → Result Policy ConfError
policy_at ms = optional RoundRobin (λ d. text_as key.Policy policy_named (as_str d)) (at key.Policy ms)

abbrev pub kind_at : Members → Result BackendKind ConfError
kind_at ms = required key.Kind (λ d. text_as key.Kind kind_named (as_str d)) (at key.Kind ms)

abbrev pub name_field : Members → Result (List ℕ) ConfError
name_field ms = required key.Name (name_in key.Name) (at key.Name ms)

abbrev pub user_at : Members → Result (List ℕ) ConfError
user_at ms = required key.Name (λ d. text_as key.Name user_text (as_str d)) (at key.Name ms)

abbrev pub digest_at : Members → Result (List ℕ) ConfError
digest_at ms = required key.Sha256 (text_in key.Sha256) (at key.Sha256 ms)

-- ---- other keys

-- whether the text is one of the keys
abbrev pub is_known : List Key → List ℕ → Bool
is_known known k = list_any (λ (key : Key). bytes_eq k (key_name key)) known

-- the first key, in the order of their bytes, that is none of the known ones: a table has its members in this order
abbrev pub first_unknown : List Key → Members → Option (List ℕ)
first_unknown known no_members = None
first_unknown known (member k d ms) = if is_known known k then first_unknown known ms else Some k

-- what was read, unless the table has another key than the known ones
abbrev pub with_only : {A : Type 0} → List Key → Members → A → Result A ConfError
with_only known ms read = unless Unknown (first_unknown known ms) read
