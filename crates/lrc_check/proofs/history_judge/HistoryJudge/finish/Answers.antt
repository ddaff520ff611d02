use Rattle.std.proofs.Common.{◌≡◌, refl, subst, sym}
use Rattle.judge.specs.JudgedSizes.{judged_sizes_of}
use Rattle.lrc_check.specs.CheckVerdicts.{IsCheckVerdictRace, unjudged_in_check_verdict}
use Rattle.lrc_check.proofs.CheckedHistories.{checked_history_by_rules, checked_history_whole}
use Rattle.lrc_check.proofs.history_judge.HistoryJudge.finish.Goals as goal

pub returns-clause-says : goal.returns-clause-says
returns-clause-says c = λ j judged.
    let x = c.args.self.now in
    let accepted = checked_history_by_rules x.rules x.judge.sizes j x.judge judged.model judged.lax refl judged.judged in
    let race = subst (IsCheckVerdictRace j) (sym c.race.ensures) judged.judged.race in
    let left = subst (λ o. x.unjudged ≡ unjudged_in_check_verdict x.rules.model o j) (sym c.race.ensures) judged.unjudged in (
      checked_history_whole x.rules (judged_sizes_of x.judge.sizes) j c.race.result x.count x.traffic x.unjudged judged.tallied.count
          judged.tallied.traffic left accepted race,
      judged.tallied.count,
    )
