-- What is found of the bytes of a trace.
use Rattle.std.specs.Prelude.{ℕ, ◌≡◌, List, ⊤}
use Rattle.journal.specs.declared.event.Event.{Event}
use Rattle.journal.specs.Sizes.{Sizes}
use Rattle.lrc_check.specs.Traces.FedText.{IsUnfinishedTrace}
use Rattle.lrc_check.specs.Traces.Labels.{without_trace_labels}
use Rattle.lrc_check.specs.Traces.LawfulTraces.{IsLawfulTrace}
use Rattle.lrc_check.specs.Traces.TraceText.{trace_text}
use Rattle.lrc_check.specs.declared.checked.Rules.{Rules}
use Rattle.lrc_check.specs.declared.checked.Checked.{Checked}
use Rattle.lrc_check.specs.declared.check_fault.CheckFault.{CheckFault}
use Rattle.lrc_check.specs.declared.check_fault.CheckFault.TheVariants.{Output, Trace}
use Rattle.lrc_check.specs.CheckVerdicts.{IsTrueCheckVerdict}

-- the bytes are, without their labels, the text of a trace, and what is said of it is true
pub record IsFoundInBytes (r : Rules) (bytes : List ℕ) (found : Checked) : Type 0 where
  pub sizes : Sizes
  pub events : List Event
  pub trace : IsLawfulTrace sizes events
  pub text_is : without_trace_labels bytes ≡ trace_text sizes events
  pub checked : IsTrueCheckVerdict r sizes events found

-- the bytes are, without their labels, the text of a trace and the beginning of a line, and what is said of that trace is true
pub record IsFoundInUnfinished (r : Rules) (bytes : List ℕ) (found : Checked) : Type 0 where
  pub sizes : Sizes
  pub events : List Event
  pub trace : IsLawfulTrace sizes events
  pub text_is : IsUnfinishedTrace bytes sizes events
  pub checked : IsTrueCheckVerdict r sizes events found

-- the fault is the trace's
abbrev pub IsFaultFoundInBytes : CheckFault → Type 0
IsFaultFoundInBytes (Trace line fault) = ⊤
IsFaultFoundInBytes _ = ⊥

-- the fault came before anything was written
abbrev pub IsFaultFoundBeforeBytesWritten : CheckFault → Type 0
IsFaultFoundBeforeBytesWritten Output = ⊥
IsFaultFoundBeforeBytesWritten _ = ⊤
