use Rattle.std.proofs.Common.{◌≡◌, ◌<◌, length, vec_len}
use Rattle.explore.specs.TextWalks.{IsTextWalk}
use Rattle.explore.proofs.TextWalks.NextSteps.{next_steps_left}
use Rattle.explore.proofs.text.walk.TextWalk.finish.Given as goal

abbrev pub invariant-loop-processor : goal.invariant-loop-processor
invariant-loop-processor l = record {
  walks : IsTextWalk l.steps l.self;
  long : vec_len l.self.words ≡ vec_len l.fn.self.words;
  present : l.present < length l.steps;
}

abbrev pub decreases-loop-processor : goal.decreases-loop-processor
decreases-loop-processor l = next_steps_left l.steps l.self.rows.items
