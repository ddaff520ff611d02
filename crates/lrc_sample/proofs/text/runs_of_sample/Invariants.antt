use Rattle.std.proofs.Common.{◌≡◌, take}
use Rattle.lrc_sample.specs.SampleText.{sample_text_runs}
use Rattle.lrc_sample.proofs.text.runs_of_sample.Given as goal

abbrev pub invariant-loop-line : goal.invariant-loop-line
invariant-loop-line l = l.runs ≡ sample_text_runs (take l.line-index l.lines)
