-- What is promised of the text of whether the rules of the memory allow a run of a racy script that ends with words that were asked for.
use Rattle.std.specs.Prelude.{ℕ, ◌≡◌, List, ◌++◌, Option, codes}
use Rattle.std.specs.Io.KnownBytes.{Appends}
use Rattle.journal.specs.declared.event.Event.{Event}
use Rattle.lrc_report.specs.ReportText.{report_events_text}
use Rattle.explore.specs.declared.rules.showing.AllowedShowing.{AllowedShowing}
use Rattle.explore.specs.declared.rules.showing.AllowedShowing.TheVariants.{Shown, Never, Undecided}
use Rattle.explore.specs.declared.rules.showing.AllowedUntil.{AllowedUntil}
use Rattle.explore.specs.declared.outcomes.showing.ExploredUntil.{ExploredUntil}
use Rattle.explore.specs.declared.memory.shown.MemoryUntil.{MemoryUntil}
use Rattle.explore.specs.declared.memory.shown.MemoryUntil.TheVariants as memory
use Rattle.lrc_explore.specs.AllowedTexts.{allowed_text_beginnings}
use Rattle.lrc_explore.specs.ExploreTexts.{IsExploreTextOfSchedule}
use Rattle.lrc_explore.specs.Showings.{IsShowingText}

-- a run that this memory shows: a line of what it shows, and one of a schedule
abbrev pub IsAllowedShowingOfSchedule : List ℕ → Type 0
IsAllowedShowingOfSchedule text =
    (outcome schedule : List ℕ) × IsExploreTextOfSchedule schedule × (text ≡ codes "until shown\n" ++ outcome ++ schedule)

-- a run that they allow: a line of what it shows, one for each event, and some on what its loads answer
abbrev pub IsAllowedShowingOfRun : List ℕ → List Event → List ℕ → Type 0
IsAllowedShowingOfRun first events text =
    (outcome answers : List ℕ) × (text ≡ first ++ outcome ++ report_events_text 0 events ++ answers)

-- the lines on a run that they allow, by whether this memory shows one that ends with the words
abbrev pub IsAllowedShowingOfMemory : MemoryUntil → List Event → List ℕ → Type 0
IsAllowedShowingOfMemory (memory.Shown outcome schedule) events text = IsAllowedShowingOfSchedule text
IsAllowedShowingOfMemory memory.Never events text = IsAllowedShowingOfRun (codes "until by the rules alone\n") events text
IsAllowedShowingOfMemory memory.Undecided events text = IsAllowedShowingOfRun (codes "until by the rules\n") events text

-- the lines by the answer
abbrev pub IsAllowedShowingAnswer : AllowedShowing → MemoryUntil → List ℕ → Type 0
IsAllowedShowingAnswer (Shown run) until text = IsAllowedShowingOfMemory until run.events.items text
IsAllowedShowingAnswer Never until text = text ≡ codes "until never by the rules\n"
IsAllowedShowingAnswer Undecided until text = text ≡ codes "until undecided by the rules\n"

-- behind the text of what all schedules come to, with how many beginnings of runs were looked at
abbrev pub IsAllowedShowingText : ExploredUntil → AllowedUntil → MemoryUntil → List ℕ → Type 0
IsAllowedShowingText explored allowed until text =
    (front answer : List ℕ) × IsShowingText explored.showing explored.states front × IsAllowedShowingAnswer allowed.showing until answer
    × (text ≡ front ++ answer ++ allowed_text_beginnings allowed.beginnings)

-- such a text was appended
abbrev pub AllowedShowingWritten : Option (List ℕ) → Option (List ℕ) → ExploredUntil → AllowedUntil → MemoryUntil → Type 0
AllowedShowingWritten old new explored allowed until = (text : List ℕ) × IsAllowedShowingText explored allowed until text × Appends old new text
