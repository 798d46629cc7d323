-- The names that most proofs of this crate cite, passed on from one place. Declares nothing.
pub use Rattle.std.specs.Str.{bytes_eq}
pub use Rattle.std.proofs.lemmas.Bool.{false≢true}
pub use Rattle.cj_model.specs.Sql.Names.{is_name}
pub use Rattle.cj_cluster.specs.Script.Lines.{HasNoSpace, IsBackend, IsNumber}
pub use Rattle.cj_words.specs.Words.{CutsWord, FindsValue, IsNamed, IsNumbered}
pub use Rattle.cj_commands.specs.Commands.{CommandLine, IsNoBackend, IsNoCommand, NamesNoBackend}
pub use Rattle.cj_commands.specs.Reading.{AsksFor, AsksToBackup, AsksToEnable, AsksToShow, HasBackendAndName, IsLogRange, IsOneWordCommand, IsRange, IsReadAs, LacksAmong, LacksNamed, LacksToEnable, verb_named, verb_word}
pub use Rattle.cj_commands.specs.declared.command.Command.{Command}
pub use Rattle.cj_commands.specs.declared.command.Unread.{Unread}
pub use Rattle.cj_commands.specs.declared.command.Unread.TheVariants.{NoBackend, NoCommand}
pub use Rattle.cj_commands.specs.declared.verb.Verb.{Verb}
pub use Rattle.cj_commands.specs.declared.verb.Verb.TheVariants.{Abort, Backup, Checkpoint, Disable, Enable, Show}
