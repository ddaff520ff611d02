use Rattle.std.proofs.Common.{◌≡◌, take}
use Rattle.lrc_sample.specs.SampleText.{sample_runs_of_verdict}
use Rattle.lrc_sample.proofs.text.runs_of_sample_verdict.Given as goal

abbrev pub invariant-loop-line : goal.invariant-loop-line
invariant-loop-line l = l.runs ≡ sample_runs_of_verdict l.verdict (take l.line-index l.lines)
