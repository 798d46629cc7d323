-- Which messages of a session are answered, and refusals as replies.
use Rattle.std.specs.Prelude.{ℕ, Bool, true, false, List, [], ◌∷◌, if◌then◌else◌}
use Rattle.cj_model.specs.declared.message.Message.{Message}
use Rattle.cj_model.specs.declared.message.Message.TheVariants as message
use Rattle.cj_model.specs.declared.answer.Reply.{Reply}
use Rattle.cj_model.specs.declared.answer.Reply.TheVariants.{Refused}
use Rattle.cj_model.specs.Database.Inserts.{refusal_of_code}

abbrev pub refused_reply : ℕ → Reply
refused_reply code = Refused (refusal_of_code code)

abbrev pub is_quit : Message → Bool
is_quit (message.Login user password) = false
is_quit (message.Query text) = false
is_quit message.Stats = false
is_quit message.Quit = true

-- the messages that are answered: those before the first Quit
abbrev pub answered_messages : List Message → List Message
answered_messages [] = []
answered_messages (m ∷ ms) = if is_quit m then [] else m ∷ answered_messages ms
