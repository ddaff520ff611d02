-- The end of a run.
use Rattle.std.specs.Prelude.{ℕ, suc, ◌≡◌, ◌==◌, All, cond, Some, List, [], ◌∷◌, ◌++◌, map, slice_get}
use Rattle.std.specs.List.{flat_map}
use Rattle.journal.specs.declared.event.Event.{Event}
use Rattle.journal.specs.declared.event.Kind.TheVariants.{Arrive, Depart}
use Rattle.journal.specs.declared.event.Kind.{Kind}
use Rattle.lrc_script.specs.declared.script.Instruction.{Instruction}
use Rattle.lrc_script.specs.Lawful.{IsLawful}
use Rattle.lrc_script.specs.Plan.{Plan}
use Rattle.lrc_report.specs.declared.report.Report.{Report}
use Rattle.conformance.specs.Follows.{calls_of, load_of, plan_sizes}
use Rattle.conformance.specs.InstructionEvents.{AreEventsOfInstructions}
use Rattle.cluster.specs.Copies.Local.{Local}
use Rattle.cluster.specs.NewClusters.{SharedCluster}
use Rattle.cluster.specs.Finishing.{AreAllToFinish, HasCallsToFinish, IsToFinish}
use Rattle.conformance.specs.CutInstructions.{HasCutInstruction}
use Rattle.conformance.specs.RunEnds.{IsRunJournalSoFar}
use Rattle.conformance.specs.ScriptReports.{IsScriptReport}
use Rattle.conformance.specs.OpenBlocks.{OpenBlockNotesAll, OpenBlock, open_block_handed_in, open_block}
use Rattle.conformance.specs.declared.ended.Ended.{Ended}
use Rattle.conformance.specs.declared.ended.Ended.TheVariants.{Halted, Whole}
use Rattle.conformance.specs.declared.progress.TurnProgress.{TurnProgress}
use Rattle.conformance.specs.declared.progress.TurnProgress.TheVariants.{Passed}
use Rattle.journal.specs.Log.{Log}
use Rattle.lrc_run.specs.RunCalls.{AreRunCallsWanted, AreRunCallsItsOwn, run_calls}
use Rattle.lrc_run.specs.RunTurns.{HasSeenAllRunTurns}

-- all that a processor made is its section, the closing barrier and these loads, and fetches that they want, and it cut
-- nothing off but by a cut of its section
pub record HasFollowedToEnd (section : List Instruction) (loads : List (ℕ × ℕ)) (m : Local) : Type 0 where
  pub own : List Kind
  pub are : AreEventsOfInstructions section own
  pub made_is : run_calls m ≡ own ++ Arrive ∷ Depart ∷ map load_of loads
  pub wanted : AreRunCallsWanted m
  pub uncut : ¬ HasCutInstruction section → m.own_cut ≡ 0

-- all processors of the script's cluster, and processor 0 has loaded what is shown
pub record HaveFollowedToEnd (s : Plan) (c : SharedCluster) (ms : List Local) (shown : List (ℕ × ℕ)) : Type 0 where
  pub lawful : IsLawful s
  pub sizes : c.sizes ≡ plan_sizes s
  pub all : AreAllToFinish c ms
  pub each : (p : ℕ) (section : List Instruction) (m : Local) → slice_get s.sections p ≡ Some section
      → slice_get ms p ≡ Some m → HasFollowedToEnd section (cond (p == 0) shown []) m
  pub addresses_are : map (λ (x : ℕ × ℕ). x.0) shown ≡ s.shown

-- the history goes on from what each of these processors has seen, without it; then processor 0 makes these calls, and
-- then come the open blocks by rising number
pub record FollowedEndHasBlocks (s : Plan) (ms : List Local) (kinds : List Kind) (h : List Event) : Type 0 where
  pub front : List Event
  pub goes_on : (p : ℕ) (m : Local) → slice_get ms p ≡ Some m → IsToFinish front m
  pub first : Local
  pub others : List Local
  pub all : ms ≡ first ∷ others
  pub last : OpenBlock
  pub noted : OpenBlockNotesAll (plan_sizes s) 0 kinds (open_block front (map (λ (e : Event). e.kind) first.block)) last
  pub is : h ≡ open_block_handed_in 0 last ++ flat_map (λ (m : Local). m.block) others
  pub own : (p : ℕ) (m : Local) → slice_get others p ≡ Some m → AreRunCallsItsOwn (suc p) m.block

-- the report is of the script, and its history has the calls of these processors
pub record IsFollowedEndReportWith (s : Plan) (r : Report) (ms : List Local) : Type 0 where
  pub is : IsScriptReport s r
  pub each : (p : ℕ) (m : Local) → slice_get ms p ≡ Some m → HasCallsToFinish is.history m
  pub ends : FollowedEndHasBlocks s ms [] is.history

-- the report is of the script, and its history has the calls that each of these processors has made, and then of
-- processor 0 the loads of what is shown; and it ends with their blocks, if processor 0 has seen all
pub record IsFollowedEndReportAfter (s : Plan) (r : Report) (ms : List Local) : Type 0 where
  pub is : IsScriptReport s r
  pub calls_are : (p : ℕ) (m : Local) → slice_get ms p ≡ Some m
      → calls_of is.history p ≡ run_calls m ++ cond (p == 0) (map load_of r.shown.items) []
  pub ends : HasSeenAllRunTurns ms 0 → FollowedEndHasBlocks s ms (map load_of r.shown.items) is.history

-- the journal so far is of the script, and its history has the calls of these processors
pub record IsFollowedEndHaltWith (s : Plan) (j : Log) (ms : List Local) : Type 0 where
  pub is : IsRunJournalSoFar s j
  pub each : (p : ℕ) (m : Local) → slice_get ms p ≡ Some m → HasCallsToFinish is.history m
  pub ends : FollowedEndHasBlocks s ms [] is.history

-- how the run ended of which these processors have come so far: all have passed the closing barrier, or it can't go on
abbrev pub IsFollowedEndAfter : Plan → List Local → List TurnProgress → Ended → Type 0
IsFollowedEndAfter s ms all (Whole report) = IsFollowedEndReportAfter s report ms × All (λ x. x ≡ Passed) all
IsFollowedEndAfter s ms all (Halted halt) = IsFollowedEndHaltWith s halt.journal ms × (halt.processor ≡ 0)
