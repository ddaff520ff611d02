use Rattle.std.proofs.Common.{◌≡◌, ◌++◌, List, sym, ap, subst, ◌∙◌}
use Rattle.journal.specs.declared.event.Event.{Event}
use Rattle.lrc_script.specs.Plan.{Plan, plan_of}
use Rattle.lrc_report.specs.declared.report.Report.{Report}
use Rattle.conformance.specs.CutInstructions.{HasNoCutInstruction}
use Rattle.conformance.specs.Follows.{Follows}
use Rattle.conformance.specs.ScriptReports.{IsScriptReport, ScriptReportHasHistory}
use Rattle.explore.specs.declared.outcomes.answer.ScriptOutcome.{ScriptOutcome}
use Rattle.explore.specs.declared.outcomes.telling.Detail.{Detail}
use Rattle.explore.specs.declared.outcomes.telling.Detail.TheVariants.{Words}
use Rattle.explore.specs.Explored.{explored_outcome}
use Rattle.explore.specs.OutcomeTelling.{AreOutcomeTellingReplies, outcome_telling_of_script}
use Rattle.explore.proofs.Clones.{clone_if_ok}
use Rattle.explore.proofs.memory.reported_outcome.outcome_of_report.Goals as goal

-- the journal of a report from which nothing was cut off has its history
journal_is_whole : (s : Plan) (r : Report) (x : IsScriptReport s r) → HasNoCutInstruction s → x.history ≡ r.journal.events
journal_is_whole s r x uncut = x.holds.history ∙ ap (λ taken. taken ++ r.journal.events) (x.uncut uncut)

pub outcome_of_run-requires : goal.outcome_of_run-requires
outcome_of_run-requires c =
    let s = plan_of c.args.script.now in
    let x = c.requires.report in
    record {
      lawful = c.requires.lawful;
      follows =
          subst (Follows s) (journal_is_whole s c.args.report.now x (c.requires.uncut c.in_default.not-Words) ∙ sym c.events.ensures.value)
          x.tells.follows;
    }

pub returns-in-Words : goal.returns-in-Words
returns-in-Words c =
    let s = plan_of c.args.script.now in
    clone_if_ok c.outcome_of_words.result
    (λ (o : ScriptOutcome). (h : List Event) → ScriptReportHasHistory s c.args.report.now h
    → AreOutcomeTellingReplies s (outcome_telling_of_script s Words) h (explored_outcome o))
    (λ (o : ScriptOutcome). (x : IsScriptReport s c.args.report.now)
    → AreOutcomeTellingReplies s (outcome_telling_of_script s c.args.detail) x.history (explored_outcome o))
    (λ o told x. subst (λ (d : Detail). AreOutcomeTellingReplies s (outcome_telling_of_script s d) x.history (explored_outcome o)) (sym c.in-Words.is)
    (told x.history x.tells))
    c.outcome_of_words.ensures

pub returns-in_default : goal.returns-in_default
returns-in_default c =
    let s = plan_of c.args.script.now in
    clone_if_ok c.outcome_of_run.result
    (λ (o : ScriptOutcome). AreOutcomeTellingReplies s (outcome_telling_of_script s c.args.detail) c.events.result.now (explored_outcome o))
    (λ (o : ScriptOutcome). (x : IsScriptReport s c.args.report.now)
    → AreOutcomeTellingReplies s (outcome_telling_of_script s c.args.detail) x.history (explored_outcome o))
    (λ o told x. subst (λ h. AreOutcomeTellingReplies s (outcome_telling_of_script s c.args.detail) h (explored_outcome o))
    (c.events.ensures.value ∙ sym (journal_is_whole s c.args.report.now x (c.requires.uncut c.in_default.not-Words))) told)
    c.outcome_of_run.ensures
