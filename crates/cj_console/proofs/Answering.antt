-- What a command is answered, as the answer to its line.
use Rattle.std.proofs.Common.{◌≡◌, ◌≢◌, ◌↔◌, ℕ, ◌<◌, Bool, true, List, [], length, Some, None, Result, Ok, Err, inl, inr, refl, ap, sym, ◌∙◌, subst, arith}
use Rattle.std.specs.Str.{bytes_eq}
use Rattle.std.proofs.lemmas.Bool.{false≢true}
use Rattle.std.proofs.lemmas.List.Quantifiers.{position-Some}
use Rattle.cj_model.specs.Sql.Names.{is_name}
use Rattle.cj_cluster.specs.Script.Lines.{IsBackend}
use Rattle.cj_place.specs.Layouts.{Layout}
use Rattle.cj_listing.specs.Listing.{listing}
use Rattle.cj_locked.specs.Listing.{items_between}
use Rattle.cj_administration.specs.Showing.{ShowsBackends}
use Rattle.cj_administration.specs.declared.administration.AdminError.{AdminError}
use Rattle.cj_board.specs.declared.view.SeatView.{SeatView}
use Rattle.cj_dump.specs.declared.dump.Dump.{Dump}
use Rattle.cj_shelf.specs.Shelves.{GivesFirst, ShelfState}
use Rattle.cj_replay.specs.Reenabling.{Reenables}
use Rattle.cj_replay.specs.declared.reenabling.ReplayError.{ReplayError}
use Rattle.cj_commands.specs.Commands.{CommandLine, IsNoCommand, NamesNoBackend}
use Rattle.cj_commands.specs.declared.command.Command.{Command}
use Rattle.cj_commands.specs.declared.command.Command.TheVariants as commands
use Rattle.cj_commands.specs.declared.command.Unread.{Unread}
use Rattle.cj_commands.specs.declared.command.Unread.TheVariants as unread
use Rattle.cj_console.specs.Answers.{answer_of_done, answer_of_number, answer_of_reenabling, AnswersAsked, AnswersCommand, AnswersLine, BacksUpAndReenables, ReenablesFrom, Served, ShowsAudit, ShowsText, Standing}
use Rattle.cj_console.specs.Chats.{GetsAnswer, quit_line}
use Rattle.cj_console.specs.Steps.{answer_of_unread, CanObey}
use Rattle.cj_console.specs.declared.answer.Answer.{Answer}
use Rattle.cj_console.specs.declared.answer.Answer.TheVariants.{Done, NoBackend, NoCommand}

-- ---- a backend comes back with a dump

pub reenables_from : {D : Type 0} (s : Served D) (b : ℕ) (name : List ℕ) (old new : SeatView) (shelf now : ShelfState D) (d : Dump) (r : Result ℕ ReplayError) (answer : Answer)
    → d.name ≡ name → (s.kept ≡ true → GivesFirst name shelf.dumps (Ok (Some d))) → Reenables s.layout b (Some d) old new r → answer ≡ answer_of_reenabling r → ReenablesFrom s b name old new shelf now answer
reenables_from {D} s b name old new shelf now d (Ok n) answer named first comes is = subst (ReenablesFrom s b name old new shelf now) (sym is) (d, named, first, Ok n, comes, refl)
reenables_from {D} s b name old new shelf now d (Err error) answer named first comes is = subst (ReenablesFrom s b name old new shelf now) (sym is) (d, named, first, Err error, comes, refl)

-- ---- a line's command

-- a name is not empty
named_some : (name : List ℕ) → is_name name ≡ true → name ≢ []
unfolding is_name
named_some name is none = false≢true (subst (λ (z : List ℕ). is_name z ≡ true) none is)

-- a backend that a word names is one of the names
named_below : (names : List (List ℕ)) (word : List ℕ) (b : ℕ) → IsBackend names word b → b < length names
named_below names word b is = (position-Some (bytes_eq word) names b [] is.named).0

pub can_obey : (names : List (List ℕ)) (line : List ℕ) (c : Command) → CommandLine names line c → CanObey names c
can_obey names line commands.ShowBackends is = tt
can_obey names line (commands.ShowLog from to) is = tt
can_obey names line commands.ShowCache is = tt
can_obey names line commands.Audit is = tt
can_obey names line (commands.Checkpoint name) is = named_some name is.0
can_obey names line (commands.Disable b) is = named_below names is.0 b is.1
can_obey names line (commands.Enable b None) is = named_below names is.0 b is.1
can_obey names line (commands.Enable b (Some name)) is = named_below names is.0 b is.1
can_obey names line (commands.Backup b name) is = (named_below names is.0 b is.1, named_some name is.2)
can_obey names line (commands.Abort tx) is = tt
can_obey names line commands.Quit is = tt

-- ---- the answer to a command

-- the answer is none that a line without a command gets
abbrev IsOfCommand : Answer → Type 0
IsOfCommand NoCommand = ⊥
IsOfCommand NoBackend = ⊥
IsOfCommand answer = Unit {0}

of_text : (Is : List ℕ → Type 0) (answer : Answer) → ShowsText Is answer → IsOfCommand answer
of_text Is NoCommand is = subst IsOfCommand (sym is) tt
of_text Is NoBackend is = subst IsOfCommand (sym is) tt
of_text Is answer is = tt

of_audit : (tells : Bool) (l : Layout) (old new : SeatView) (answer : Answer) → ShowsAudit tells l old new answer → IsOfCommand answer
of_audit tells l old new NoCommand shows = subst IsOfCommand (sym shows.1) tt
of_audit tells l old new NoBackend shows = subst IsOfCommand (sym shows.1) tt
of_audit tells l old new answer shows = tt

of_done : (r : Result Unit AdminError) → IsOfCommand (answer_of_done r)
of_done (Ok u) = tt
of_done (Err error) = tt

of_number : (r : Result ℕ AdminError) → IsOfCommand (answer_of_number r)
of_number (Ok n) = tt
of_number (Err error) = tt

of_reenabling : (r : Result ℕ ReplayError) → IsOfCommand (answer_of_reenabling r)
of_reenabling (Ok n) = tt
of_reenabling (Err error) = tt

module _ {D : Type 0} (s : Served D) (old new : SeatView) (shelf now : ShelfState D) where
  of_dump : (b : ℕ) (name : List ℕ) (answer : Answer) → ReenablesFrom s b name old new shelf now answer → IsOfCommand answer
  of_dump b name NoCommand (d, named, first, r, comes, is) = subst IsOfCommand (sym is) (of_reenabling r)
  of_dump b name NoBackend (d, named, first, r, comes, is) = subst IsOfCommand (sym is) (of_reenabling r)
  of_dump b name answer comes = tt

  of_backup : (b : ℕ) (name : List ℕ) (answer : Answer) → BacksUpAndReenables s b name old new shelf now answer → IsOfCommand answer
  of_backup b name NoCommand none = none
  of_backup b name NoBackend none = none
  of_backup b name answer backs = tt

  of_command : (c : Command) (answer : Answer) → AnswersAsked s c old new shelf now answer → IsOfCommand answer
  of_command commands.ShowBackends answer is = of_text (ShowsBackends s.layout.names old new) answer is
  of_command (commands.ShowLog from to) answer is = of_text (λ text. text ≡ listing s.layout.names (items_between from to new.front)) answer is
  of_command commands.ShowCache answer is = subst IsOfCommand (sym is.2) tt
  of_command commands.Audit answer is = of_audit s.tells s.layout old new answer is
  of_command (commands.Checkpoint name) answer is = subst IsOfCommand (sym is.2) (of_number is.0)
  of_command (commands.Disable b) answer is = subst IsOfCommand (sym is.2) (of_done is.0)
  of_command (commands.Enable b None) answer is = subst IsOfCommand (sym is.2) (of_reenabling is.0)
  of_command (commands.Enable b (Some name)) answer is = of_dump b name answer is
  of_command (commands.Backup b name) answer is = of_backup b name answer is
  of_command (commands.Abort tx) answer is = subst IsOfCommand (sym is.2) (of_number is.0)
  of_command commands.Quit answer is = subst IsOfCommand (sym is.0) tt

-- ---- the answer to a line

-- the answer to a command is the answer to its line
pub command_answered : {D : Type 0} (s : Served D) (line : List ℕ) (c : Command) (a z : Standing D) (answer : Answer) → CommandLine s.layout.names line c → AnswersCommand s c a z answer → AnswersLine s line a z answer
command_answered {D} s line c a z NoCommand is answers = absurd (of_command s a.view z.view a.shelf z.shelf c NoCommand answers.answers)
command_answered {D} s line c a z NoBackend is answers = absurd (of_command s a.view z.view a.shelf z.shelf c NoBackend answers.answers)
command_answered {D} s line c a z answer is answers = (c, is, answers)

-- a line that was not read as a command is answered so
pub unread_answered : {D : Type 0} (s : Served D) (line : List ℕ) (a : Standing D) (u : Unread)
    → (◌≡◌ {A = Result Command Unread} (Err u) (Err unread.NoCommand)) ↔ IsNoCommand s.layout.names line → (◌≡◌ {A = Result Command Unread} (Err u) (Err unread.NoBackend)) ↔ NamesNoBackend s.layout.names line → AnswersLine s line a a (answer_of_unread u)
unread_answered {D} s line a unread.NoCommand none lacks = (refl, none.0 refl)
unread_answered {D} s line a unread.NoBackend none lacks = (refl, lacks.0 refl)

-- ---- the line that ends a chat

quit_command : (names : List (List ℕ)) (c : Command) → CommandLine names quit_line c → c ≡ commands.Quit
quit_command names commands.ShowBackends is = cc
quit_command names (commands.ShowLog from to) (first, last, p, q, is) = cc
quit_command names commands.ShowCache is = cc
quit_command names commands.Audit is = cc
quit_command names (commands.Checkpoint name) (p, is) = cc
quit_command names (commands.Disable b) (word, p, is) = cc
quit_command names (commands.Enable b None) (word, p, is) = cc
quit_command names (commands.Enable b (Some name)) (word, p, q, is) = cc
quit_command names (commands.Backup b name) (word, p, q, is) = cc
quit_command names (commands.Abort tx) (number, p, is) = cc
quit_command names commands.Quit is = refl

quit_names : (names : List (List ℕ)) → NamesNoBackend names quit_line → ⊥
quit_names names (inl (inl (word, none, is))) = cc
quit_names names (inl (inr (word, none, is))) = cc
quit_names names (inr (inl (word, name, none, named, is))) = cc
quit_names names (inr (inr (word, name, none, named, is))) = cc

module _ {D : Type 0} (s : Served D) (a z : Standing D) where
  abbrev standing : SeatView → ShelfState D → Standing D
  standing view shelf = record { view = view; shelf = shelf }

  quit_does : (c : Command) (answer : Answer) → CommandLine s.layout.names quit_line c → AnswersCommand s c a z answer → (answer ≡ Done) × (z ≡ a)
  quit_does c answer is answers =
      let quits : AnswersCommand s commands.Quit a z answer = subst (λ (x : Command). AnswersCommand s x a z answer) (quit_command s.layout.names c is) answers in
      let view : z.view ≡ a.view = quits.answers.1 in
      let shelf : z.shelf ≡ a.shelf = quits.shelf in
      (quits.answers.0, ap (λ (v : SeatView). standing v z.shelf) view ∙ ap (standing a.view) shelf)

  quit_answered : (answer : Answer) → AnswersLine s quit_line a z answer → (answer ≡ Done) × (z ≡ a)
  quit_answered NoCommand answers = absurd (answers.1.0 commands.Quit refl)
  quit_answered NoBackend answers = absurd (quit_names s.layout.names answers.1)
  quit_answered answer answers = quit_does answers.0 answer answers.1 answers.2

  -- it is answered that it was carried out, and changes nothing
  pub quit_done : (answer : Answer) → GetsAnswer s quit_line a z answer → (answer ≡ Done) × (z ≡ a)
  quit_done answer (inl long) = absurd (omega (arith, long.0))
  quit_done answer (inr answers) = quit_answered answer answers.1
