use Rattle.std.proofs.Common.{refl}
use Rattle.lrc_check.specs.Traces.TraceText.{trace_text}
use Rattle.lrc_check.proofs.traces.TextParts.{text_parts_of_no_other_trace}
use Rattle.lrc_check.proofs.traces.laws.one_trace_law.Goals as goal

pub returns : goal.returns
returns c = λ s es h. text_parts_of_no_other_trace s es (trace_text s es) h refl
