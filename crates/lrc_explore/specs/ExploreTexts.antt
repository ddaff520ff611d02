-- What is promised of the text of what a search has found.
use Rattle.std.specs.Prelude.{ℕ, ◌≡◌, ◌-◌, ⊤, Bool, true, false, List, [], ◌++◌, Option, Some, None, codes, length, slice_get, vec_len}
use Rattle.std.specs.Fmt.{decimal}
use Rattle.std.specs.Io.KnownBytes.{Appends}
use Rattle.journal.specs.declared.event.Event.{Event}
use Rattle.lrc_report.specs.ReportText.{report_event_text, report_events_text}
use Rattle.conformance.specs.ScheduleTexts.{schedule_text}
use Rattle.explore.specs.declared.outcomes.answer.Explored.{Explored}
use Rattle.explore.specs.declared.outcomes.answer.Hang.{Hang}
use Rattle.explore.specs.declared.outcomes.answer.Hanging.{Hanging}
use Rattle.explore.specs.declared.outcomes.answer.Hanging.TheVariants as hanging
use Rattle.explore.specs.declared.outcomes.answer.RacyEvents.{RacyEvents}
use Rattle.explore.specs.declared.outcomes.answer.Verdict.{Verdict}
use Rattle.explore.specs.declared.outcomes.answer.Verdict.TheVariants as verdict
use Rattle.lrc_explore.specs.declared.fault.ExploreFault.{ExploreFault}
use Rattle.lrc_explore.specs.declared.fault.ExploreFault.TheVariants.{Output}

-- the line of an event, if there is one
abbrev pub explore_text_event : ℕ → Option Event → List ℕ
explore_text_event place (Some e) = report_event_text place e
explore_text_event place None = []

-- the line of the event at this place
abbrev pub explore_text_event_at : List Event → ℕ → List ℕ
explore_text_event_at events place = explore_text_event place (slice_get events place)

-- a schedule that races, and the lines of the two events: the one at this place and the last one
abbrev pub explore_text_racy : List Event → ℕ → List ℕ
explore_text_racy events first =
    report_events_text 0 events ++ codes "race\n" ++ explore_text_event_at events first ++ explore_text_event_at events (length events - 1)

-- the line of a schedule
abbrev pub explore_text_schedule : List ℕ → List ℕ
explore_text_schedule turns = codes "  schedule " ++ schedule_text turns ++ codes "\n"

-- of some schedule
abbrev pub IsExploreTextOfSchedule : List ℕ → Type 0
IsExploreTextOfSchedule text = (turns : List ℕ) × (text ≡ explore_text_schedule turns)

-- a schedule that hangs, some lines on who waits, and that of the schedule's turns
abbrev pub IsExploreTextOfHangEvents : Hang → List ℕ → Type 0
IsExploreTextOfHangEvents hang text =
    (waits schedule : List ℕ) × IsExploreTextOfSchedule schedule
    × (text ≡ codes "hangs\n" ++ report_events_text 0 hang.events.items ++ waits ++ schedule)

-- whether a schedule hangs
abbrev pub IsExploreTextOfHang : Hanging → List ℕ → Type 0
IsExploreTextOfHang hanging.Never text = text ≡ codes "hangs never\n"
IsExploreTextOfHang (hanging.Hangs hang) text = IsExploreTextOfHangEvents hang text
IsExploreTextOfHang hanging.Undecided text = text ≡ codes "hangs undecided\n"

-- a schedule that hangs, if one was met
abbrev pub IsExploreTextOfMetHang : Hanging → List ℕ → Type 0
IsExploreTextOfMetHang (hanging.Hangs hang) text = IsExploreTextOfHangEvents hang text
IsExploreTextOfMetHang _ text = text ≡ []

-- how many states were found
abbrev pub explore_text_states : ℕ → List ℕ
explore_text_states states = codes "states " ++ decimal states ++ codes "\n"

-- whether there are no other outcomes
abbrev pub explore_text_outcomes_end : Bool → List ℕ
explore_text_outcomes_end true = codes "\n"
explore_text_outcomes_end false = codes " so far\n"

-- how many were found
abbrev pub explore_text_outcomes : ℕ → Bool → List ℕ
explore_text_outcomes outcomes all = codes "outcomes " ++ decimal outcomes ++ explore_text_outcomes_end all

-- a script of which no race was found: the line of the verdict, the outcomes with some lines on them, and the hangs
abbrev pub IsExploreTextOfQuiet : List ℕ → Explored → List ℕ → Type 0
IsExploreTextOfQuiet verdict explored text =
    (outcomes hangs : List ℕ) × IsExploreTextOfHang explored.hanging hangs
    × (text ≡ verdict ++ explore_text_outcomes (vec_len explored.outcomes) explored.are_all ++ outcomes ++ hangs
    ++ explore_text_states explored.states)

-- a script that races: the schedule that does, with its turns, and one that hangs, if it was met
abbrev pub IsExploreTextOfRacy : RacyEvents → Explored → List ℕ → Type 0
IsExploreTextOfRacy racy explored text =
    (schedule hang : List ℕ) × IsExploreTextOfSchedule schedule × IsExploreTextOfMetHang explored.hanging hang
    × (text ≡ codes "verdict racy\n" ++ explore_text_racy racy.events.items racy.first ++ schedule ++ hang
    ++ explore_text_states explored.states)

-- the text by its verdict
abbrev pub IsExploreTextOfVerdict : Verdict → Explored → List ℕ → Type 0
IsExploreTextOfVerdict verdict.RaceFree explored text = IsExploreTextOfQuiet (codes "verdict race-free under every schedule\n") explored text
IsExploreTextOfVerdict (verdict.Racy racy) explored text = IsExploreTextOfRacy racy explored text
IsExploreTextOfVerdict verdict.Undecided explored text = IsExploreTextOfQuiet (codes "verdict undecided\n") explored text

abbrev pub IsExploreText : Explored → List ℕ → Type 0
IsExploreText explored text = IsExploreTextOfVerdict explored.verdict explored text

-- such a text was appended
abbrev pub ExploreTextWritten : Option (List ℕ) → Option (List ℕ) → Explored → Type 0
ExploreTextWritten old new explored = (text : List ℕ) × IsExploreText explored text × Appends old new text

-- unless the output failed, nothing was
abbrev pub ExploreTextUnwritten : Option (List ℕ) → Option (List ℕ) → ExploreFault → Type 0
ExploreTextUnwritten old new Output = ⊤
ExploreTextUnwritten old new _ = new ≡ old
