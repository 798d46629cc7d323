-- A configuration's refusal never hides want of memory in the refusal of a placement or of accounts.
use Rattle.std.proofs.Common.{◌≡◌, ℕ, Bool, true, false, cond, List, [], ◌∷◌, sym, subst, ⊎_elim}
use Rattle.std.specs.Prelude.{ℤ, pos, negsuc, IfErr}
use Rattle.std.specs.declared.option.Option.{Option}
use Rattle.cj_conf.proofs.Common.{ConfError, Err, None, Ok, Result, RoundRobin, settings_of, Some}
use Rattle.toml.specs.Data.{Data, Items, no_items, item, Members, as_array, as_integer, as_str, as_table}
use Rattle.cj_conf.specs.declared.error.ConfError.TheVariants as error
use Rattle.cj_conf.specs.declared.key.Key.{Key}
use Rattle.cj_conf.specs.declared.key.Key.TheVariants as key
use Rattle.cj_conf.specs.Fields.{and_then, at, digest_at, in_range, kind_at, level_at, name_field, number_at, number_within, optional, policy_at, policy_named, required, text_as, unless, user_at}
use Rattle.cj_conf.specs.Refusals.{Gives, TellsMemoryPlainly}
use Rattle.cj_conf.specs.Rows.{account_of, backend_row, backends_at, each, each_of, hosts_at, is_table, is_text, logins_at, placed_of, config_row, rows_of, tables_at, texts_of, users_at}

abbrev pub IsPlain : {A : Type 0} → Result A ConfError → Type 0
IsPlain r = IfErr r TellsMemoryPlainly

-- ---- the ways to read

plain_then : {A B : Type 0} (r : Result A ConfError) (next : A → Result B ConfError) → IsPlain r → ((a : A) → IsPlain (next a)) → IsPlain (and_then r next)
plain_then (Ok a) next p q = q a
plain_then (Err e) next p q = p

plain_if : {A : Type 0} (b : Bool) (r s : Result A ConfError) → IsPlain r → IsPlain s → IsPlain (cond b r s)
plain_if true r s p q = p
plain_if false r s p q = q

plain_required : {A : Type 0} (k : Key) (read : Data → Result A ConfError) (o : Option Data) → ((d : Data) → IsPlain (read d)) → IsPlain (required k read o)
plain_required k read None p = tt
plain_required k read (Some d) p = p d

plain_optional : {A : Type 0} (a : A) (read : Data → Result A ConfError) (o : Option Data) → ((d : Data) → IsPlain (read d)) → IsPlain (optional a read o)
plain_optional a read None p = tt
plain_optional a read (Some d) p = p d

plain_number : (k : Key) (least most : ℕ) (o : Option ℤ) → IsPlain (number_within k least most o)
plain_number k least most None = tt
plain_number k least most (Some (pos n)) = plain_if _ (Ok n) (Err (error.Range k)) tt tt
plain_number k least most (Some (negsuc n)) = tt

plain_in_range : {A : Type 0} (k : Key) (o : Option A) → IsPlain (in_range k o)
plain_in_range k None = tt
plain_in_range k (Some a) = tt

plain_text : {A : Type 0} (k : Key) (read : List ℕ → Option A) (o : Option (List ℕ)) → IsPlain (text_as k read o)
plain_text k read None = tt
plain_text k read (Some s) = plain_in_range k (read s)

plain_unknown : {A : Type 0} (o : Option (List ℕ)) (a : A) → IsPlain (unless error.Unknown o a)
plain_unknown None a = tt
plain_unknown (Some k) a = tt

plain_each : {A : Type 0} (read : Data → Result A ConfError) (ds : Items) → ((d : Data) → IsPlain (read d)) → IsPlain (each read ds)
plain_each read no_items p = tt
plain_each read (item d ds) p = plain_then (read d) _ (p d) (λ a. plain_then (each read ds) (λ more. Ok (a ∷ more)) (plain_each read ds p) (λ more. tt))

plain_each_of : {A : Type 0} (k : Key) (is_kind : Data → Bool) (read : Data → Result A ConfError) (o : Option Items) → ((d : Data) → IsPlain (read d)) → IsPlain (each_of k is_kind read o)
plain_each_of k is_kind read None p = tt
plain_each_of k is_kind read (Some ds) p = plain_if _ (each read ds) (Err (error.WrongType k)) (plain_each read ds p) tt

plain_row : {A : Type 0} (k : Key) (read : Members → Result A ConfError) (o : Option Members) → ((ms : Members) → IsPlain (read ms)) → IsPlain (config_row k read o)
plain_row k read None p = tt
plain_row k read (Some ms) p = p ms

-- ---- the keys

plain_number_at : (k : Key) (least most absent : ℕ) (ms : Members) → IsPlain (number_at k least most absent ms)
plain_number_at k least most absent ms = plain_optional absent _ (at k ms) (λ d. plain_number k least most (as_integer d))

plain_word_at : {A : Type 0} (k : Key) (read : List ℕ → Option A) (ms : Members) → IsPlain (required k (λ d. text_as k read (as_str d)) (at k ms))
plain_word_at k read ms = plain_required k _ (at k ms) (λ d. plain_text k read (as_str d))

plain_texts_at : (k : Key) (read : List ℕ → Option (List ℕ)) (ms : Members) → IsPlain (required k (texts_of k (λ d. text_as k read (as_str d))) (at k ms))
plain_texts_at k read ms = plain_required k _ (at k ms) (λ d. plain_each_of k is_text _ (as_array d) (λ e. plain_text k read (as_str e)))

plain_rows : {A : Type 0} (k : Key) (read : Members → Result A ConfError) (d : Data) → ((ms : Members) → IsPlain (read ms)) → IsPlain (rows_of k read d)
plain_rows k read d p = plain_each_of k is_table _ (as_array d) (λ row. plain_row k read (as_table row) p)

plain_backend : (ms : Members) → IsPlain (backend_row ms)
plain_backend ms =
    plain_then (name_field ms) _ (plain_word_at key.Name _ ms) (λ name.
    plain_then (kind_at ms) _ (plain_word_at key.Kind _ ms) (λ kind.
    plain_then (number_at key.Weight 1 1000 1 ms) _ (plain_number_at key.Weight 1 1000 1 ms) (λ weight.
    plain_unknown _ _)))

plain_placed : (ms : Members) → IsPlain (placed_of ms)
plain_placed ms =
    plain_then (name_field ms) _ (plain_word_at key.Name _ ms) (λ name.
    plain_then (hosts_at ms) _ (plain_texts_at key.Hosts _ ms) (λ hosts.
    plain_unknown _ _))

plain_account : (ms : Members) → IsPlain (account_of ms)
plain_account ms =
    plain_then (user_at ms) _ (plain_word_at key.Name _ ms) (λ user.
    plain_then (digest_at ms) _ (plain_word_at key.Sha256 _ ms) (λ digest.
    plain_then (logins_at ms) _ (plain_texts_at key.Logins _ ms) (λ logins.
    plain_unknown _ _)))

plain_settings : (ms : Members) → IsPlain (settings_of ms)
plain_settings ms =
    plain_then (level_at ms) _ (plain_word_at key.Level _ ms) (λ level.
    plain_then (policy_at ms) _ (plain_optional RoundRobin _ (at key.Policy ms) (λ d. plain_text key.Policy policy_named (as_str d))) (λ policy.
    plain_then (number_at key.Cache 0 65536 64 ms) _ (plain_number_at key.Cache 0 65536 64 ms) (λ cache.
    plain_then (number_at key.Seed 0 9223372036854775807 0 ms) _ (plain_number_at key.Seed 0 9223372036854775807 0 ms) (λ seed.
    plain_then (number_at key.Connections 0 9223372036854775807 0 ms) _ (plain_number_at key.Connections 0 9223372036854775807 0 ms) (λ connections.
    plain_then (backends_at ms) _ (plain_required key.Backends _ (at key.Backends ms) (λ d. plain_rows key.Backends backend_row d plain_backend)) (λ backends.
    plain_then (tables_at ms) _ (plain_optional [] _ (at key.Tables ms) (λ d. plain_rows key.Tables placed_of d plain_placed)) (λ tables.
    plain_then (users_at ms) _ (plain_required key.Users _ (at key.Users ms) (λ d. plain_rows key.Users account_of d plain_account)) (λ users.
    plain_unknown _ _))))))))

-- ---- a call

-- a call whose told refusals are plain gives plain refusals
plain_given : {A : Type 0} (told given : Result A ConfError) → IsPlain told → Gives told given → IsPlain given
plain_given told (Ok a) p gives = tt
plain_given told (Err e) p gives = ⊎_elim (λ (memory : e ≡ error.NoMemory). subst TellsMemoryPlainly (sym memory) tt) (λ (is : told ≡ Err e). subst IsPlain is p) gives

pub plain_refusal : (ms : Members) (e : ConfError) → Gives (settings_of ms) (Err e) → TellsMemoryPlainly e
plain_refusal ms e gives = plain_given (settings_of ms) (Err e) (plain_settings ms) gives
