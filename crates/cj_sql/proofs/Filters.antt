-- The reader of WHERE reads exactly the conditions of the grammar.
use Rattle.std.proofs.Common.{◌≡◌, refl, ap, ◌-◌, ◌<◌, List, drop, Option, None, Some, arith}
use Rattle.cj_model.specs.declared.token.Token.{Token}
use Rattle.cj_model.specs.declared.token.Keyword.TheVariants as word
use Rattle.cj_model.specs.Database.Conditions.{Condition}
use Rattle.cj_model.specs.Sql.ConditionForms.{CondForm, cond_tokens, cond_meant, comparisons, CondFits}
use Rattle.cj_model.specs.Sql.Grammar.{where_tokens, where_meant, WhereFits}
use Rattle.cj_sql.specs.Proving.Reader.{read, same_word, sees_word}
use Rattle.cj_sql.specs.Proving.ConditionReader.{input_at, condition, filter}
use Rattle.cj_sql.proofs.Binds.{branch, holds, fails, part, part_of}
use Rattle.cj_sql.proofs.Front.{word_seen}
use Rattle.cj_sql.proofs.Lists.{IsForm, IsReaderOf}
use Rattle.cj_sql.proofs.Ranks.{rank, no_word}
use Rattle.cj_sql.proofs.ConditionsSound.{cond_sound}
use Rattle.cj_sql.proofs.ConditionsComplete.{cond_complete}

condition_sound : (ts : List Token) (c : Condition) (rest : List Token) → condition ts ≡ read c rest → IsForm cond_tokens cond_meant CondFits ts c rest
unfolding condition
condition_sound ts c rest h =
    elim (part_of (cond_sound 64 (input_at ts 256)) h) [
      | part x o a k ↦
          let same = ap comparisons a.means in
          let m = a.counts in
          record { form = a.form; tokens_are = cc; means = cc; fits = record { nests = a.nests; counts = omega (arith, same, m) } }
    ]

condition_complete : (f : CondForm) (rest : List Token) → CondFits f → 3 < rank rest → condition (cond_tokens f rest) ≡ read (cond_meant f) rest
unfolding condition
condition_complete f rest fits e =
    let m = fits.counts in
    rw (cond_complete 64 f rest 256 (256 - comparisons (cond_meant f)) fits.nests e (omega (arith, m))) refl

-- a WHERE that was read stood there
filter_sound : (ts : List Token) (x : Option Condition) (rest : List Token) → filter ts ≡ read x rest → IsForm where_tokens where_meant WhereFits ts x rest
unfolding filter
filter_sound ts x rest h = elim (branch (sees_word word.Where ts) _ _ _ h) [
  | holds e k ↦
      let w = word_seen word.Where ts e in
      elim (part_of (condition_sound (drop 1 ts)) k) [ part c us a k ↦ record { form = Some a.form; tokens_are = cc; means = cc; fits = a.fits } ]
  | fails e k ↦ record { form = None; tokens_are = cc; means = cc; fits = tt }
]

-- a WHERE is read
filter_complete : (f : Option CondForm) (rest : List Token) → WhereFits f → 5 < rank rest → filter (where_tokens f rest) ≡ read (where_meant f) rest
unfolding filter same_word
filter_complete None rest fits e = rw (no_word word.Where rest e) refl
filter_complete (Some c) rest fits e = rw (condition_complete c rest fits (omega (arith, e))) refl

pub filter_read : IsReaderOf where_tokens where_meant WhereFits 5 filter
filter_read = record { sound = filter_sound; complete = filter_complete }
