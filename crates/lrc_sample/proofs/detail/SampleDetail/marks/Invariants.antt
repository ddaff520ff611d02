use Rattle.std.proofs.Common.{◌≡◌, take}
use Rattle.lrc_sample.specs.SampleReplies.{sample_marks_of}
use Rattle.lrc_sample.proofs.detail.SampleDetail.marks.Given as goal

abbrev pub invariant-loop-instruction : goal.invariant-loop-instruction
invariant-loop-instruction l = l.marks.items ≡ sample_marks_of l.self (take l.instruction-index l.section)
