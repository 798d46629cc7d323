-- A command that took a whole input is done.
use Rattle.std.proofs.Common.{◌≡◌, ◌⊎◌, inl, inr, ℕ, Bool, true, false, if◌then◌else◌, List, [], ◌∷◌, ◌++◌, length, take, All, Option, None, Some, refl, sym, ap, subst, ◌∙◌, arith}
use Rattle.std.specs.List.{list_any}
use Rattle.std.proofs.lemmas.Bool.{both_ways, lt-ltb}
use Rattle.std.proofs.lemmas.List.{take_all}
use Rattle.std.proofs.lemmas.List.Elements.{All-head, All-tail}
use Rattle.cj_model.specs.declared.answer.Reply.{Reply}
use Rattle.cj_model.specs.declared.message.FrameFault.{FrameFault}
use Rattle.cj_model.specs.declared.message.Message.{Message}
use Rattle.cj_model.specs.Wire.Frames.{Frames, fault_of}
use Rattle.cj_outside.specs.Streams.{most}
use Rattle.cj_cluster.specs.declared.session.SessionEnd.{SessionEnd}
use Rattle.cj_cluster.specs.declared.session.SessionEnd.TheVariants as end
use Rattle.cj_cluster.specs.Wire.Sessions.{is_quit}
use Rattle.cj_cluster.specs.declared.moves.Move.{Move}
use Rattle.cj_cluster.specs.Script.Lines.{MoveLine}
use Rattle.cj_script.specs.Script.{IsWrong, audit_line}
use Rattle.cj_script.specs.declared.play.ScriptEnd.{ScriptEnd}
use Rattle.cj_script.specs.declared.play.ScriptEnd.TheVariants as script_end
use Rattle.cj_args.specs.declared.asked.Command.{Command}
use Rattle.cj_args.specs.declared.asked.Command.TheVariants.{Pipe, Script, Log, Gen}
use Rattle.cj_conf.specs.declared.conf.Conf.{Conf}
use Rattle.cj_top.specs.Completeness.{AnswersInput, CompletesCommand, IsPlayable, PlaysInput, end_by_rest, end_of_reading, is_short_input}
use Rattle.cj_top.specs.Program.{status_of_script, status_of_session}
use Rattle.cj_completeness.specs.WholeInputs.{IsWholeScript, IsWholeSession, TellsWholeInput}

-- ---- a session

nothing_wrong : fault_of [] ≡ None
unfolding fault_of
nothing_wrong = refl

-- behind whole messages a session ends as its input does, or by a Quit before
at_end : (quit : Bool) (rest : List ℕ) → rest ≡ [] → status_of_session (if quit then end.Quit else end_by_rest (fault_of rest) true rest) ≡ 0
at_end true rest none = refl
at_end false rest none =
    ap (λ (bytes : List ℕ). status_of_session (end_by_rest (fault_of bytes) true bytes)) none ∙ ap (λ (o : Option FrameFault). status_of_session (end_by_rest o true [])) nothing_wrong

ends_whole : (messages : List Message) (rest : List ℕ) → (list_any is_quit messages ≡ true) ⊎ (rest ≡ []) → status_of_session (end_of_reading true messages rest) ≡ 0
ends_whole messages rest (inl quit) = ap (λ (t : Bool). status_of_session (if t then end.Quit else end_by_rest (fault_of rest) true rest)) quit
ends_whole messages rest (inr none) = at_end (list_any is_quit messages) rest none

session_done : (bytes : List ℕ) (replies : List Reply) (held held' : Option (List ℕ)) (ending : SessionEnd) → AnswersInput replies (Some bytes) held held' ending → IsWholeSession bytes → status_of_session ending ≡ 0
session_done bytes replies held held' ending answers w =
    let few = w.short in
    let all : Frames (take most bytes) w.messages w.rest = subst (λ (taken : List ℕ). Frames taken w.messages w.rest) (sym (take_all most bytes (omega (arith, few)))) w.reading in
    let is : ending ≡ end_of_reading (is_short_input bytes) w.messages w.rest = (answers.as_read w.messages w.rest all).0 in
    let short : is_short_input bytes ≡ true = lt-ltb (length bytes) most few in
    ap status_of_session is ∙ ap (λ (t : Bool). status_of_session (end_of_reading t w.messages w.rest)) short ∙ ends_whole w.messages w.rest w.whole

-- ---- a script

-- a line in the midst
in_midst : {A : Type 0} (P : A → Type 0) (before after : List A) (x : A) → All P (before ++ x ∷ after) → P x
in_midst P [] after x all = All-head P x after all
in_midst P (y ∷ before) after x all = in_midst P before after x (All-tail P y (before ++ x ∷ after) all)

-- a line that can be played isn't wrong
not_wrong : (names : List (List ℕ)) (line : List ℕ) → IsPlayable names line → IsWrong names line → ⊥
not_wrong names line plays (inl long) = let short = plays.short in omega (arith, short, long)
not_wrong names line plays (inr (some, none)) = is_none plays.is
  where
    is_none : (line ≡ []) ⊎ ((m : Move) × MoveLine names line m) ⊎ (line ≡ audit_line) → ⊥
    is_none (inl empty) = some empty
    is_none (inr (inl move)) = none.0 move.0 move.1
    is_none (inr (inr audit)) = none.1 audit

script_done : (names : List (List ℕ)) (bytes : List ℕ) (ending : ScriptEnd) → PlaysInput names (Some bytes) ending → IsWholeScript names bytes → status_of_script ending ≡ 0
script_done names bytes script_end.Done plays w = refl
script_done names bytes (script_end.Line number) plays w =
    let first = plays w.lines w.last w.are in
    absurd (not_wrong names first.line (in_midst (IsPlayable names) first.before first.after first.line (subst (All (IsPlayable names)) first.are w.playable)) first.wrong)
script_done names bytes script_end.ReadFault plays w = absurd (plays w.lines w.last w.are)
script_done names bytes script_end.WriteFault plays w = absurd (plays w.lines w.last w.are)
script_done names bytes script_end.Spent plays w = absurd (both_ways (is_short_input bytes) (plays w.lines w.last w.are) (lt-ltb (length bytes) most w.short))
script_done names bytes script_end.NoMemory plays w = absurd (plays w.lines w.last w.are)

-- ---- a command

pub command_done : (command : Command) (left held held' : Option (List ℕ)) (status : ℕ) (c : Conf) → CompletesCommand command left held held' status c → TellsWholeInput command c.placement.names left → status ≡ 0
command_done (Pipe path) left held held' status c x (bytes, is, whole) =
    x.status_is ∙ session_done bytes x.replies held held' x.ending (subst (λ (o : Option (List ℕ)). AnswersInput x.replies o held held' x.ending) is x.answers) whole
command_done (Script path) left held held' status c x (bytes, is, whole) =
    x.status_is ∙ script_done c.placement.names bytes x.ending (subst (λ (o : Option (List ℕ)). PlaysInput c.placement.names o x.ending) is x.plays) whole
command_done (Log path) left held held' status c x whole = x
command_done (Gen path seed count) left held held' status c x whole = x
