pub mod FlatBeginnings
pub mod ScriptCalls
pub mod PrefixLaws
pub mod Prelude
