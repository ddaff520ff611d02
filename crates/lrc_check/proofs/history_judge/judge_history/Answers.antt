use Rattle.std.proofs.Common.{subst, arith}
use Rattle.std.specs.Prelude.{IfOk}
use Rattle.judge.specs.declared.sizes.Sizes.{Sizes as JudgedSizes}
use Rattle.judge.specs.JudgedSizes.{judged_sizes_of}
use Rattle.lrc_check.specs.declared.checked.Rules.{Rules}
use Rattle.lrc_check.specs.CheckVerdicts.{IsTrueCheckVerdict}
use Rattle.lrc_check.specs.Unprotected.{AreUnprotectedTold, unprotected_looked_for}
use Rattle.lrc_check.proofs.history_judge.judge_history.Goals as goal

-- all events are the first part
pub read_whole-judged-requires : goal.read_whole-judged-requires
read_whole-judged-requires c = record { judged = c.in_ok-judge.ensures.judged; few = (let few = c.requires.few in omega arith) }

-- what is found by the judge's own rules and sizes
pub returns-clause-found : goal.returns-clause-found
returns-clause-found c =
    let x = c.in_ok-judge.judge in
    subst (λ (r : Rules). IfOk c.read_whole-judged.result (λ y. IsTrueCheckVerdict r (judged_sizes_of c.args.sizes) c.args.events.now y.0))
    c.in_ok-judge.ensures.rules
    (subst (λ (s : JudgedSizes). IfOk c.read_whole-judged.result (λ y. IsTrueCheckVerdict x.rules (judged_sizes_of s) c.args.events.now y.0))
    c.in_ok-judge.ensures.sizes c.read_whole-judged.ensures.found)

pub returns-clause-unprotected : goal.returns-clause-unprotected
returns-clause-unprotected c =
    let x = c.in_ok-judge.judge in
    subst (λ (r : Rules). IfOk c.read_whole-judged.result
    (λ y. AreUnprotectedTold (unprotected_looked_for r.locksets y.0) (judged_sizes_of c.args.sizes) c.args.events.now y.1.items)) c.in_ok-judge.ensures.rules
    (subst (λ (s : JudgedSizes). IfOk c.read_whole-judged.result
    (λ y. AreUnprotectedTold (unprotected_looked_for x.rules.locksets y.0) (judged_sizes_of s) c.args.events.now y.1.items)) c.in_ok-judge.ensures.sizes
    c.read_whole-judged.ensures.unprotected)
