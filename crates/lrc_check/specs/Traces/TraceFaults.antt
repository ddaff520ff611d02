-- What each fault says of the bytes.
use Rattle.std.specs.Prelude.{◌≡◌, ◌≢◌, ℕ, ◌+◌, ◌<◌, ◌≤◌, ◌⊎◌, List, [], ◌∷◌, ◌++◌, length}
use Rattle.journal.specs.declared.event.Event.{Event}
use Rattle.journal.specs.declared.event.Kind.{Kind}
use Rattle.journal.specs.declared.event.Kind.TheVariants as kind
use Rattle.journal.specs.Sizes.{Sizes, addresses}
use Rattle.lrc_script.specs.declared.fault.ScriptFault.{ScriptFault}
use Rattle.lrc_script.specs.declared.fault.ScriptFault.TheVariants as script
use Rattle.lrc_script.specs.ScriptFront.{Nothing}
use Rattle.lrc_script.specs.ScriptFaults.{HasLine, HasNoLineFeed, ScriptFaultSays}
use Rattle.lrc_script.specs.LineReading.{IsLineReadOff}
use Rattle.lrc_check.specs.declared.traces.fault.TraceFault.{TraceFault}
use Rattle.lrc_check.specs.declared.traces.fault.TraceFault.TheVariants.{Truncated, Cut, BadLine, BadNumber, BadSize, BadPlace, BadProcessor, OutOfRange, BadLock, BadFlag, TooLong, NoMemory}
use Rattle.lrc_check.specs.Traces.Sizes.{AreTraceSizes}
use Rattle.lrc_check.specs.Traces.Heads.{AreNoTraceHeadNumbers, IsTraceHeadOfNumbers}
use Rattle.lrc_check.specs.Traces.TraceText.{trace_text_first_line, trace_text}
use Rattle.lrc_check.specs.Traces.LawfulTraces.{IsLawfulTrace, most_traced_events}
use Rattle.lrc_check.specs.Traces.TraceLines.{HasBadTraceLineNumber, HasNoTraceLineShape, IsTraceLineOfCut, IsTraceLineOfEvent}

-- a fault of the first line, by what a script's reader calls it
abbrev pub trace_fault_from_script : ScriptFault → TraceFault
trace_fault_from_script script.BadNumber = BadNumber
trace_fault_from_script script.BadSize = BadSize
trace_fault_from_script script.NoMemory = NoMemory
trace_fault_from_script _ = BadLine

-- what a fault says of the line of the sizes: the same as of a script's first line, but for the sizes themselves
abbrev pub TraceFaultSaysOfHead : TraceFault → List ℕ → Type 0
TraceFaultSaysOfHead BadLine line = ScriptFaultSays script.BadLine Nothing line
TraceFaultSaysOfHead BadNumber line = ScriptFaultSays script.BadNumber Nothing line
TraceFaultSaysOfHead BadSize line = (ns : List ℕ) × IsTraceHeadOfNumbers line ns × AreNoTraceHeadNumbers ns
TraceFaultSaysOfHead _ line = ⊥

-- the kind names an address, a page, a lock or a flag past the sizes, and this is its fault
abbrev pub IsTraceFaultPast : TraceFault → Sizes → Kind → Type 0
IsTraceFaultPast OutOfRange s (kind.Load a v) = addresses s ≤ a
IsTraceFaultPast OutOfRange s (kind.Store a v) = addresses s ≤ a
IsTraceFaultPast OutOfRange s (kind.Fetch w n r d) = s.pages ≤ n
IsTraceFaultPast BadLock s (kind.Ask l) = s.locks ≤ l
IsTraceFaultPast BadLock s (kind.Acquire l) = s.locks ≤ l
IsTraceFaultPast BadLock s (kind.Release l) = s.locks ≤ l
IsTraceFaultPast BadFlag s (kind.Set f) = s.flags ≤ f
IsTraceFaultPast BadFlag s (kind.Watch f) = s.flags ≤ f
IsTraceFaultPast BadFlag s (kind.Await f) = s.flags ≤ f
IsTraceFaultPast _ s k = ⊥

-- what a fault says of an event of this place behind that many others
abbrev pub TraceFaultSaysOfEvent : TraceFault → Sizes → ℕ → ℕ → Event → Type 0
TraceFaultSaysOfEvent BadPlace s count place e = place ≢ count
TraceFaultSaysOfEvent BadProcessor s count place e = s.processors ≤ e.processor
TraceFaultSaysOfEvent TooLong s count place e = most_traced_events ≤ count
TraceFaultSaysOfEvent fault s count place e = IsTraceFaultPast fault s e.kind

-- what a fault says of a line behind so many events
abbrev pub TraceFaultSaysOfLine : TraceFault → Sizes → ℕ → List ℕ → Type 0
TraceFaultSaysOfLine Cut s count line = (count ≡ 0) × IsTraceLineOfCut line
TraceFaultSaysOfLine BadLine s count line = HasNoTraceLineShape line × ((count ≡ 0) → ¬ IsTraceLineOfCut line)
TraceFaultSaysOfLine BadNumber s count line = HasBadTraceLineNumber line
TraceFaultSaysOfLine fault s count line =
    (place : ℕ) × (e : Event) × IsTraceLineOfEvent line place e × TraceFaultSaysOfEvent fault s count place e

-- why a line is no event's, unless memory ran out
abbrev pub IsTraceFaultOfNoEvent : TraceFault → List ℕ → Type 0
IsTraceFaultOfNoEvent NoMemory line = Unit {0}
IsTraceFaultOfNoEvent BadLine line = HasNoTraceLineShape line
IsTraceFaultOfNoEvent BadNumber line = HasBadTraceLineNumber line
IsTraceFaultOfNoEvent _ line = ⊥

-- why a line adds no event to so many, unless memory ran out
abbrev pub TraceFaultRefuses : TraceFault → Sizes → ℕ → List ℕ → Type 0
TraceFaultRefuses NoMemory s count line = Unit {0}
TraceFaultRefuses fault s count line = TraceFaultSaysOfLine fault s count line

-- the line has sizes that a trace may have
pub record TraceLineHasSizes (line : List ℕ) (s : Sizes) : Type 0 where
  pub sizes : AreTraceSizes s
  pub line_is : line ++ 10 ∷ [] ≡ trace_text_first_line s

-- why a line has no such sizes, unless memory ran out
abbrev pub TraceFaultSaysNoSizes : TraceFault → List ℕ → Type 0
TraceFaultSaysNoSizes NoMemory line = Unit {0}
TraceFaultSaysNoSizes fault line = TraceFaultSaysOfHead fault line × ((s : Sizes) → ¬ TraceLineHasSizes line s)

-- some trace has a text that begins so
abbrev pub BeginsTraceText : List ℕ → Type 0
BeginsTraceText bytes = (s : Sizes) × (es : List Event) × IsLawfulTrace s es × (more : List ℕ) × (trace_text s es ≡ bytes ++ more)

-- behind these bytes, which are whole lines, stands a line of which this holds, and no trace has it there
pub record IsFaultyTraceLine (before rest : List ℕ) (Holds : List ℕ → Type 0) : Type 0 where
  pub line : List ℕ
  pub more : List ℕ
  pub cut : IsLineReadOff rest line more
  pub holds : Holds line
  pub never : ¬ BeginsTraceText (before ++ (line ++ 10 ∷ []))

-- the fault of the first line
abbrev pub IsTraceFaultInHead : TraceFault → List ℕ → Type 0
IsTraceFaultInHead Truncated bytes = HasNoLineFeed bytes
IsTraceFaultInHead NoMemory bytes = HasLine bytes
IsTraceFaultInHead fault bytes = IsFaultyTraceLine [] bytes (TraceFaultSaysOfHead fault)

-- the fault of the line behind these events, where this is left
abbrev pub IsTraceFaultBehind : TraceFault → Sizes → List Event → List ℕ → Type 0
IsTraceFaultBehind Truncated s es rest = HasNoLineFeed rest × (0 < length rest)
IsTraceFaultBehind NoMemory s es rest = HasLine rest
IsTraceFaultBehind fault s es rest = IsFaultyTraceLine (trace_text s es) rest (TraceFaultSaysOfLine fault s (length es))

-- line n is the first that isn't due: the lines before it are the text of a trace, and the fault says what is wrong
pub record IsTraceFaultAt (s : Sizes) (bytes : List ℕ) (n : ℕ) (fault : TraceFault) : Type 0 where
  pub events : List Event
  pub rest : List ℕ
  pub begun : IsLawfulTrace s events
  pub whole : bytes ≡ trace_text s events ++ rest
  pub number : n ≡ length events + 2
  pub behind : IsTraceFaultBehind fault s events rest

-- line 1 has the fault, or a later line
abbrev pub IsTraceFault : List ℕ → ℕ → TraceFault → Type 0
IsTraceFault bytes n fault = ((n ≡ 1) × IsTraceFaultInHead fault bytes) ⊎ ((s : Sizes) × IsTraceFaultAt s bytes n fault)

-- however the bytes go on, line n has the fault
abbrev pub IsTraceFaultLasting : List ℕ → ℕ → TraceFault → Type 0
IsTraceFaultLasting bytes n fault = (more : List ℕ) → IsTraceFault (bytes ++ more) n fault
