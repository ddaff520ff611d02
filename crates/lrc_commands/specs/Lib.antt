pub mod ExitStatus
pub mod TraceCommand
pub mod SampleCommand
pub mod ExplainCommand
pub mod WhyUnshown
pub mod Prelude
