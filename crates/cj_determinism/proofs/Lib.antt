pub mod AlikeTranscripts
pub mod CacheSteps
pub mod QuietSessions
pub mod QuietStarts
pub mod QuietSteps
pub mod QuietTranscripts
pub mod QuietTurns
pub mod RisingLists
