-- Scripts: the lines that are moves, and the lines that they give.
use Rattle.std.specs.Prelude.{◌≡◌, ℕ, ◌<◌, ◌≤◌, ◌^◌, true, not, ◌==◌, List, [], ◌∷◌, ◌++◌, length, codes, slice_index_or, position}
use Rattle.std.specs.declared.option.Option.TheVariants.{Some}
use Rattle.std.specs.List.{join_with_byte, flat_map, list_all}
use Rattle.std.specs.Str.{bytes_eq}
use Rattle.std.specs.Fmt.{decimal}
use Rattle.cj_model.specs.declared.value.Value.{Value}
use Rattle.cj_model.specs.declared.request.Request.{Request}
use Rattle.cj_model.specs.declared.request.Request.TheVariants as request
use Rattle.cj_model.specs.declared.answer.Answer.{Answer}
use Rattle.cj_model.specs.declared.answer.Outcome.TheVariants as outcome
use Rattle.cj_model.specs.declared.answer.Refusal.{Refusal}
use Rattle.cj_model.specs.declared.answer.Reply.{Reply}
use Rattle.cj_model.specs.declared.answer.Reply.TheVariants as reply
use Rattle.cj_cluster.specs.declared.moves.Move.{Move}
use Rattle.cj_cluster.specs.declared.moves.Move.TheVariants.{Open, Close, Schedule, Abort, Apply, End, Read, Arm, Disable, Replay, Enable, Mark, Dump, Load}
use Rattle.cj_cluster.specs.declared.moves.Did.{Did}
use Rattle.cj_cluster.specs.declared.moves.Did.TheVariants as did
use Rattle.cj_cluster.specs.declared.moves.Moved.{Moved}
use Rattle.cj_cluster.specs.declared.moves.Moved.TheVariants as moved
use Rattle.cj_cluster.specs.declared.moves.Reason.{Reason}
use Rattle.cj_cluster.specs.declared.moves.Reason.TheVariants as reason
use Rattle.cj_cluster.specs.declared.moves.Why.{Why}
use Rattle.cj_cluster.specs.declared.moves.Made.{Made}
use Rattle.cj_cluster.specs.declared.moves.Made.TheVariants as made
use Rattle.cj_model.specs.declared.limits.TheConstants.{USER_LIMIT}
use Rattle.cj_model.specs.Sql.Names.{is_name, IsText}
use Rattle.cj_model.specs.Sql.Grammar.{TextReadsAs}
use Rattle.cj_model.specs.Sql.PlainRequests.{is_plain}
use Rattle.cj_cluster.specs.Moves.Runs.{IsForLog}
use Rattle.cj_model.specs.Sql.Literals.{literal}

-- these words, with one space between each two
abbrev pub words : List (List ℕ) → List ℕ
words = join_with_byte 32

-- ---- moves

-- no byte is a space
abbrev pub HasNoSpace : List ℕ → Type 0
HasNoSpace z = list_all (λ b. not (b == 32)) z ≡ true

-- a user's name
pub record IsUser (z : List ℕ) : Type 0 where
  pub text : IsText z
  pub word : HasNoSpace z
  pub some : 0 < length z
  pub short : length z ≤ USER_LIMIT

-- a number in decimal digits, with no sign and no zero before others
pub record IsNumber (z : List ℕ) (n : ℕ) : Type 0 where
  pub spelled : z ≡ decimal n
  pub fits : n < 2 ^ 64

-- the word names backend b, the first that has this name
pub record IsBackend (names : List (List ℕ)) (z : List ℕ) (b : ℕ) : Type 0 where
  pub word : HasNoSpace z
  pub named : position (bytes_eq z) names ≡ Some b

-- the text reads as a request that calls neither the clock nor random numbers
pub record IsPlainSql (text : List ℕ) (r : Request) : Type 0 where
  pub reads : TextReadsAs text r
  pub plain : is_plain r ≡ true

-- the text reads as a request without clock or random numbers that becomes an entry of the log
pub record IsWrite (text : List ℕ) (r : Request) : Type 0 where
  pub sql : IsPlainSql text r
  pub for_log : IsForLog r

-- the line "VERB B"
abbrev pub NamesBackend : List (List ℕ) → List ℕ → List ℕ → ℕ → Type 0
NamesBackend names line verb b = (name : List ℕ) × IsBackend names name b × (line ≡ words (verb ∷ name ∷ []))

-- the line "VERB B NAME"
abbrev pub NamesDump : List (List ℕ) → List ℕ → List ℕ → ℕ → List ℕ → Type 0
NamesDump names line verb b name = (backend : List ℕ) × IsBackend names backend b × (is_name name ≡ true) × (line ≡ words (verb ∷ backend ∷ name ∷ []))

-- The line, without its LF, is the move. Backends go by these names.
abbrev pub MoveLine : List (List ℕ) → List ℕ → Move → Type 0
MoveLine names line (Open user) = IsUser user × (line ≡ words (codes "open" ∷ user ∷ []))
MoveLine names line (Close s) = (number : List ℕ) × IsNumber number s × (line ≡ words (codes "close" ∷ number ∷ []))
MoveLine names line (Schedule s r) =
    (number : List ℕ) × (sql : List ℕ) × IsNumber number s × IsWrite sql r × (line ≡ words (codes "write" ∷ number ∷ sql ∷ []))
MoveLine names line (Abort tx) = (number : List ℕ) × IsNumber number tx × (line ≡ words (codes "abort" ∷ number ∷ []))
MoveLine names line (Apply b) = NamesBackend names line (codes "apply") b
MoveLine names line End = line ≡ codes "end"
MoveLine names line (Read s b select) =
    (number : List ℕ) × (name : List ℕ) × (sql : List ℕ) × IsNumber number s × IsBackend names name b × IsPlainSql sql (request.Select select)
    × (line ≡ words (codes "read" ∷ number ∷ name ∷ sql ∷ []))
MoveLine names line (Arm b) = NamesBackend names line (codes "arm") b
MoveLine names line (Disable b) = NamesBackend names line (codes "disable") b
MoveLine names line (Replay b) = NamesBackend names line (codes "replay") b
MoveLine names line (Enable b) = NamesBackend names line (codes "enable") b
MoveLine names line (Mark name) = (is_name name ≡ true) × (line ≡ words (codes "mark" ∷ name ∷ []))
MoveLine names line (Dump b name) = NamesDump names line (codes "dump") b name
MoveLine names line (Load b name) = NamesDump names line (codes "load") b name

-- ---- what they give

-- a line with its LF
abbrev pub with_line_feed : List ℕ → List ℕ
with_line_feed line = line ++ 10 ∷ []

-- the name of backend b
abbrev pub name_at : List (List ℕ) → ℕ → List ℕ
name_at names b = slice_index_or names b []

abbrev pub refusal_text : Refusal → List ℕ
refusal_text r = words (codes "refused" ∷ decimal r.code ∷ decimal r.a ∷ decimal r.b ∷ [])

abbrev pub count_text : ℕ → List ℕ
count_text n = words (codes "done" ∷ decimal n ∷ [])

abbrev pub did_text : Did → List ℕ
did_text (did.Done (outcome.Done n)) = count_text n
did_text (did.Done (outcome.Refused r)) = refusal_text r
did_text did.Skipped = codes "skipped"
did_text did.Failed = codes "failed"
did_text did.Starved = codes "starved"

abbrev pub rows_text : Answer → List ℕ
rows_text a = words (codes "rows" ∷ decimal (length a.rows) ∷ [])

-- a reply to an entry as text; none is rows, or the counts of the cache
abbrev pub reply_text : Reply → List ℕ
reply_text (reply.Done n) = count_text n
reply_text (reply.Rows a) = rows_text a
reply_text (reply.Stats hits misses) = words (codes "stats" ∷ decimal hits ∷ decimal misses ∷ [])
reply_text (reply.Refused r) = refusal_text r

abbrev pub moved_text : List (List ℕ) → Moved → List ℕ
moved_text names (moved.Session n) = words (codes "session" ∷ decimal n ∷ [])
moved_text names moved.Closed = codes "closed"
moved_text names (moved.Entry n) = words (codes "entry" ∷ decimal n ∷ [])
moved_text names (moved.Refused r) = refusal_text r
moved_text names (moved.Applied b d) = words (name_at names b ∷ did_text d ∷ [])
moved_text names (moved.Replied s r) = words (codes "reply" ∷ decimal s ∷ reply_text r ∷ [])
moved_text names (moved.Rows a) = rows_text a
moved_text names (moved.Behind p) = words (codes "behind" ∷ decimal p ∷ [])
moved_text names moved.Out = codes "out"
moved_text names moved.Failed = codes "failed"
moved_text names moved.Starved = codes "starved"
moved_text names moved.Armed = codes "armed"
moved_text names moved.Disabled = codes "disabled"
moved_text names moved.Enabled = codes "enabled"
moved_text names (moved.Marked n) = words (codes "marked" ∷ decimal n ∷ [])
moved_text names (moved.Dumped n) = words (codes "dumped" ∷ decimal n ∷ [])
moved_text names (moved.Loaded n) = words (codes "loaded" ∷ decimal n ∷ [])
moved_text names (moved.Replayed n d) = words (codes "replayed" ∷ decimal n ∷ did_text d ∷ [])

-- the number of a reason
abbrev pub reason_number : Reason → ℕ
reason_number reason.EntryOpen = 1
reason_number reason.NoEntryOpen = 2
reason_number reason.NotEnabled = 3
reason_number reason.Enabled = 4
reason_number reason.AtEnd = 5
reason_number reason.Behind = 6
reason_number reason.Out = 7
reason_number reason.NotOut = 8
reason_number reason.NoSession = 9
reason_number reason.Waiting = 10
reason_number reason.NotServing = 11
reason_number reason.NoDump = 12
reason_number reason.NameTaken = 13
reason_number reason.NotOrphan = 14
reason_number reason.DumpLacks = 15

-- why a move can't be made now
abbrev pub not_now_text : Why → List ℕ
not_now_text why = words (codes "not" ∷ codes "now" ∷ decimal (reason_number why.reason) ∷ decimal why.value ∷ [])

-- the literals of a row's values
abbrev pub row_text : List Value → List ℕ
row_text [] = []
row_text (v ∷ []) = literal v
row_text (v ∷ w ∷ vs) = literal v ++ (codes ", " ++ row_text (w ∷ vs))

-- a line for each row of a query's answer, which come after the answer's own line
abbrev pub rows_under : Moved → List ℕ
rows_under (moved.Rows a) = flat_map (λ (row : List Value). with_line_feed (row_text row)) a.rows
rows_under _ = []

-- the lines of a move's result
abbrev pub moved_lines : List (List ℕ) → Made → List ℕ
moved_lines names (made.Moved m) = with_line_feed (moved_text names m) ++ rows_under m
moved_lines names (made.NotNow why) = with_line_feed (not_now_text why)
