use Rattle.std.proofs.Common.{◌≡◌, ◌≢◌, ◌<◌, ℕ, Some, slice_get}
use Rattle.explore.proofs.rules.answers.has_answer.Given as goal

abbrev pub invariant-loop-answer : goal.invariant-loop-answer
invariant-loop-answer l = (k a : ℕ) → k < l.answer-index → slice_get l.answers k ≡ Some a → a ≢ l.value
