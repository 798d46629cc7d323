mod IndexLaws
mod TakeLaws
mod KnownRowLaws
mod AlikeLaws
mod RiseLaws
mod TurnLaws
pub mod AskLaws
pub mod Cited
pub mod Common
pub mod CountLaws
pub mod EvenLaws
pub mod GroupLaws
pub mod JoinLaws
pub mod KeyLaws
pub mod LimitLaws
pub mod MadeLaws
pub mod MapLaws
pub mod NameLaws
pub mod OrderLaws
pub mod PathLaws
pub mod ProjectionLaws
pub mod RankLaws
pub mod ReverseLaws
pub mod RunLaws
pub mod TopLaws
pub mod WalkLaws
