-- The words that contracts name, passed on from one place. Declares nothing.
pub use Rattle.judge.specs.Sources.Latest.{AreLatestRows, IsLatest, IsLatestRow}
pub use Rattle.judge.specs.Sources.LatestAnswers.{LatestAnswersLaw, LatestAnswersStayLaw}
