use Rattle.std.proofs.Common.{subst, sym}
use Rattle.std.specs.Prelude.{IfSome, is_some}
use Rattle.lrc_check.specs.RacingWords.{AreRacingWordsAsked, IsRacingWordsOf}
use Rattle.lrc_check.proofs.trace_judge.TraceJudge.racing.Goals as goal

pub returns-in-Some : goal.returns-in-Some
returns-in-Some c = λ j judged.
    subst (λ o. AreRacingWordsAsked (is_some o) j c.so_far.result.now) (sym c.in-Some.is)
    (c.so_far.ensures j (subst (λ o. IfSome o (IsRacingWordsOf j)) c.in-Some.is judged.racing))
