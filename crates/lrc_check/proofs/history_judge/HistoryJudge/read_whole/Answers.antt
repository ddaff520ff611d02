use Rattle.std.proofs.Common.{◌≡◌, [], List, subst}
use Rattle.journal.specs.declared.event.Event.{Event}
use Rattle.judge.specs.declared.sizes.Sizes.{Sizes as JudgedSizes}
use Rattle.judge.specs.JudgedSizes.{judged_sizes_of}
use Rattle.lrc_check.specs.declared.checked.Checked.{Checked}
use Rattle.lrc_check.specs.declared.checked.Rules.{Rules}
use Rattle.lrc_check.specs.declared.history_judge.HistoryJudge.{HistoryJudge}
use Rattle.lrc_check.specs.CheckVerdicts.{IsTrueCheckVerdict}
use Rattle.lrc_check.specs.HistoryJudge.{HasJudgedToEnd, IsHistoryJudgeOf}
use Rattle.lrc_check.specs.Unprotected.{AreUnprotectedTold, unprotected_looked_for}
use Rattle.lrc_check.proofs.HistoryLocksets.{history_locksets_early, history_locksets_untold}
use Rattle.lrc_check.proofs.history_judge.HistoryJudge.read_whole.Goals as goal

-- what is found by the judge's own rules and sizes
by_rules : (r s : Rules) (t u : JudgedSizes) (j : List Event) (x : Checked) → s ≡ r → u ≡ t → IsTrueCheckVerdict s (judged_sizes_of u) j x
    → IsTrueCheckVerdict r (judged_sizes_of t) j x
by_rules r s t u j x rules sizes says =
    subst (λ y. IsTrueCheckVerdict y (judged_sizes_of t) j x) rules (subst (λ y. IsTrueCheckVerdict s (judged_sizes_of y) j x) sizes says)

-- the judge was told all
to_end : {events : List Event} {found : Checked} {y : HistoryJudge} → IsHistoryJudgeOf events y → found.race ≡ y.judge.race
    → HasJudgedToEnd events found y
to_end judged race = record { told = λ sought. judged; race = λ sought. race }

pub read_all-requires : goal.read_all-requires
read_all-requires c = ([], c.requires)

pub returns-in-Some-clause-found : goal.returns-in-Some-clause-found
returns-in-Some-clause-found c =
    let end = rw c.in-Some.is at c.in_ok-found.ensures.judged [] c.requires in
    end.says

pub returns-in-Some-clause-unprotected : goal.returns-in-Some-clause-unprotected
returns-in-Some-clause-unprotected c =
    let x = c.args.self.now in
    let end = rw c.in-Some.is at c.in_ok-found.ensures.judged [] c.requires in
    history_locksets_untold x.rules.locksets c.in-Some.found (judged_sizes_of x.judge.sizes) c.args.events.now _
    (history_locksets_early c.in-Some.found.verdict end.ended) c.new.ensures.items

pub finish-found-requires : goal.finish-found-requires
finish-found-requires c = (c.args.events.now, rw c.in-None.is at c.in_ok-found.ensures.judged [] c.requires)

pub unprotected-requires : goal.unprotected-requires
unprotected-requires c =
    (c.args.events.now, to_end (rw c.in-None.is at c.in_ok-found.ensures.judged [] c.requires) c.finish-found.ensures.race)

pub returns-in_ok-unprotected-in-None-clause-found : goal.returns-in_ok-unprotected-in-None-clause-found
returns-in_ok-unprotected-in-None-clause-found c =
    let x = c.args.self.now in
    let y = c.read_all.new.self in
    let judged = rw c.in-None.is at c.in_ok-found.ensures.judged [] c.requires in
    by_rules x.rules y.rules x.judge.sizes y.judge.sizes c.args.events.now c.finish-found.result c.read_all.ensures.rules c.read_all.ensures.sizes
    (c.finish-found.ensures.says c.args.events.now judged).0

pub returns-in_ok-unprotected-in-None-clause-unprotected : goal.returns-in_ok-unprotected-in-None-clause-unprotected
returns-in_ok-unprotected-in-None-clause-unprotected c =
    let x = c.args.self.now in
    let y = c.read_all.new.self in
    let events = c.args.events.now in
    let found = c.finish-found.result in
    let words = c.in_ok-unprotected-in-None.unprotected.items in
    let judged = rw c.in-None.is at c.in_ok-found.ensures.judged [] c.requires in
    let told = c.in_ok-unprotected-in-None.ensures events (to_end judged c.finish-found.ensures.race) in
    subst (λ (r : Rules). AreUnprotectedTold (unprotected_looked_for r.locksets found) (judged_sizes_of x.judge.sizes) events words)
    c.read_all.ensures.rules
    (subst (λ (s : JudgedSizes). AreUnprotectedTold (unprotected_looked_for y.rules.locksets found) (judged_sizes_of s) events words)
    c.read_all.ensures.sizes told)
