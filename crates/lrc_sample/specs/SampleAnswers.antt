-- What contracts see of a run's answers.
use Rattle.std.specs.Prelude.{ℕ, Bool, List}
use Rattle.lrc_sample.specs.declared.outcome.Reply.{Reply}

-- the shown addresses with their words, what the loads answered, and whether two accesses raced
pub record SampleAnswers : Type 0 where
  pub words : List (ℕ × ℕ)
  pub replies : List Reply
  pub racy : Bool
