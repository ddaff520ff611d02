-- What is promised of reports.
use Rattle.std.specs.Prelude.{◌≡◌, false, replicate}
use Rattle.journal.specs.ReplayMemory.{Replays}
use Rattle.lrc_script.specs.Lawful.{plan_addresses}
use Rattle.lrc_script.specs.Plan.{Plan}
use Rattle.conformance.specs.FlatRuns.{NeverRacesFlat}
use Rattle.lrc_report.specs.declared.report.Report.{Report}
use Rattle.conformance.specs.ScriptReports.{IsScriptReport}

-- the report of a script that never races on one flat memory tells of no race, and its history replays on one
abbrev pub RaceFreeReportLaw : Type 0
RaceFreeReportLaw = (s : Plan) (r : Report) (is : IsScriptReport s r) → NeverRacesFlat s
    → (r.racy ≡ false) × Replays (replicate (plan_addresses s) 0) is.history
