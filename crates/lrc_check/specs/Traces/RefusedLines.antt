-- A line that is refused: it is the first of what is left, and the lines before it were read or passed over.
use Rattle.std.specs.Prelude.{◌≡◌, ℕ, false, List, ◌++◌, Option}
use Rattle.journal.specs.declared.event.Event.{Event}
use Rattle.lrc_script.specs.LineReading.{IsLineReadOff}
use Rattle.lrc_check.specs.declared.traces.trace.Trace.{Trace}
use Rattle.lrc_check.specs.Traces.Begun.{IsTraceBegun, trace_begun_text, trace_text_so_far}
use Rattle.lrc_check.specs.Traces.FedText.{FedText}
use Rattle.lrc_check.specs.Traces.Labels.{ArePassedOver, is_trace_line_passed_over, without_trace_labels}

-- what is left begins with a line that isn't passed over
pub record IsToldLineLeft (left : List ℕ) : Type 0 where
  pub line : List ℕ
  pub after : List ℕ
  pub cut : IsLineReadOff left line after
  pub told : is_trace_line_passed_over line ≡ false

-- so it does where these bytes were to come behind what was read, and where so many lines were passed over and now are
pub record IsLineRefused (gone : ℕ) (before now : Option Trace) (bytes : List ℕ) (was passed : ℕ) : Type 0 where
  pub left : List ℕ
  pub line : IsToldLineLeft left
  pub text : (front : List Event) → IsTraceBegun gone front before → (more : List ℕ)
      → trace_begun_text front now ++ without_trace_labels (left ++ more) ≡ trace_begun_text front before ++ without_trace_labels (bytes ++ more)
  pub over : ArePassedOver was bytes passed left

-- so it does where a text had these bytes
pub record IsFedLineRefused (bytes : List ℕ) (front : List Event) (x : FedText) : Type 0 where
  pub left : List ℕ
  pub line : IsToldLineLeft left
  pub text : (more : List ℕ)
      → trace_text_so_far x.sizes (front ++ x.events) ++ without_trace_labels (left ++ more) ≡ without_trace_labels (bytes ++ more)
  pub over : ArePassedOver 0 bytes x.passed left
