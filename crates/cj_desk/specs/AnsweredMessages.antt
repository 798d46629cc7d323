-- Which messages a transcript is about.
use Rattle.std.specs.Prelude.{◌≡◌, Bool, true, false, List, [], ◌++◌}
use Rattle.cj_model.specs.declared.message.Message.{Message}
use Rattle.cj_cluster.specs.declared.session.SessionEnd.{SessionEnd}
use Rattle.cj_cluster.specs.declared.session.SessionEnd.TheVariants as end
use Rattle.cj_cluster.specs.Wire.Sessions.{answered_messages}

-- a session that ends so was not cut short
abbrev pub is_whole_end : SessionEnd → Bool
is_whole_end end.Quit = true
is_whole_end end.Eof = true
is_whole_end end.Cut = true
is_whole_end (end.BadFrame fault) = true
is_whole_end end.ReadFault = true
is_whole_end end.WriteFault = false
is_whole_end end.Spent = true
is_whole_end end.NoMemory = false

-- Of the reading of the bytes taken, these are the messages before the first Quit.
-- If the session was cut short, they are the first of these.
pub record AreAnsweredMessages (reading : List Message) (ending : SessionEnd) (messages : List Message) : Type 0 where
  pub others : List Message
  pub front : answered_messages reading ≡ messages ++ others
  pub all : is_whole_end ending ≡ true → others ≡ []
