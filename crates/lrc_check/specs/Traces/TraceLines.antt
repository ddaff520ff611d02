-- What a line of a trace is.
use Rattle.std.specs.Prelude.{◌≡◌, ◌≢◌, ℕ, ◌+◌, ◌^◌, ◌<◌, List, [], ◌∷◌, ◌++◌, length, codes, Contains, Ok, Some}
use Rattle.std.specs.List.{AllByRecursion}
use Rattle.std.specs.Fmt.{decimal}
use Rattle.journal.specs.declared.event.Event.{Event}
use Rattle.journal.specs.declared.event.Kind.{Kind}
use Rattle.journal.specs.Sizes.{Sizes}
use Rattle.journal.specs.WellFormed.{WellFormedKindInRange}
use Rattle.lrc_script.specs.ScriptFaults.{IsLineSplit}
use Rattle.lrc_script.specs.LineReading.{line_read_numbers_after}
use Rattle.lrc_report.specs.ReportText.{report_cut_text, report_event_text}
use Rattle.lrc_check.specs.declared.traces.event_name.EventName.{EventName}
use Rattle.lrc_check.specs.Traces.LawfulTraces.{IsWithinLawfulTrace, most_traced_events}
use Rattle.lrc_check.specs.Traces.Names.{trace_name_operand_count, trace_name_meaning, trace_name_numbers, trace_name_word}

-- the line is the word `event` and others, with one space before each: a place, a processor, a name, and as many
-- words as the name has numbers
pub record IsTraceLineShaped (line place processor : List ℕ) (name : EventName) (numbers : List (List ℕ)) : Type 0 where
  pub split : IsLineSplit line (codes "event") (place ∷ processor ∷ trace_name_word name ∷ numbers)
  pub count : length numbers ≡ trace_name_operand_count name

-- the words are numbers, and with these an event of this name did what k says
pub record TraceLineGivesKind (name : EventName) (words : List (List ℕ)) (k : Kind) : Type 0 where
  pub numbers : List ℕ
  pub read : line_read_numbers_after [] words ≡ Ok numbers
  pub kind : trace_name_meaning name numbers ≡ Some k

-- no words make the line such a one
abbrev pub HasNoTraceLineShape : List ℕ → Type 0
HasNoTraceLineShape line = (place processor : List ℕ) (name : EventName) (numbers : List (List ℕ))
    → ¬ IsTraceLineShaped line place processor name numbers

-- the word isn't a number below 2 ^ 32 in decimal, with no leading zero
abbrev pub IsNoTraceLineNumber : List ℕ → Type 0
IsNoTraceLineNumber word = (n : ℕ) → n < 2 ^ 32 → word ≢ decimal n

-- the line has the shape of an event's, and a word in a number's place is none
pub record HasBadTraceLineNumber (line : List ℕ) : Type 0 where
  pub place : List ℕ
  pub processor : List ℕ
  pub name : EventName
  pub numbers : List (List ℕ)
  pub shape : IsTraceLineShaped line place processor name numbers
  pub bad : List ℕ
  pub within : Contains (place ∷ processor ∷ numbers) bad
  pub no_number : IsNoTraceLineNumber bad

-- the line, whose line feed isn't there, is this event's at this place, and its numbers are below 2 ^ 32
pub record IsTraceLineOfEvent (line : List ℕ) (place : ℕ) (e : Event) : Type 0 where
  pub line_is : line ++ 10 ∷ [] ≡ report_event_text place e
  pub small : AllByRecursion (λ n. n < 2 ^ 32) (place ∷ e.processor ∷ trace_name_numbers e.kind)

-- the line tells how many events were cut off
abbrev pub IsTraceLineOfCut : List ℕ → Type 0
IsTraceLineOfCut line = (n : ℕ) × (0 < n) × (n < 2 ^ 32) × (line ++ 10 ∷ [] ≡ report_cut_text n)

-- an event of this place may stand behind that many others
pub record IsTraceLineDue (s : Sizes) (count place : ℕ) (e : Event) : Type 0 where
  pub place_is : place ≡ count
  pub processor : e.processor < s.processors
  pub kind : WellFormedKindInRange s e.kind
  pub room : count < most_traced_events

-- the line is that of an event that may come behind so many and these, and adds it
pub record TraceLineRead (s : Sizes) (gone : ℕ) (before : List Event) (line : List ℕ) (after : List Event) : Type 0 where
  pub event : Event
  pub after_is : after ≡ before ++ event ∷ []
  pub line_is : IsTraceLineOfEvent line (gone + length before) event
  pub within : IsWithinLawfulTrace s event
  pub room : gone + length before < most_traced_events
