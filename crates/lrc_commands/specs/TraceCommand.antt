-- What the program does with a trace.
use Rattle.std.specs.Prelude.{◌≡◌, ◌≢◌, ◌⊎◌, ℕ, Bool, true, false, List, [], ◌++◌, Option, Result, Ok, Err, IfSome, IsTrue, is_some}
use Rattle.std.specs.Io.KnownBytes.{Consumes}
use Rattle.journal.specs.declared.event.Event.{Event}
use Rattle.journal.specs.Sizes.{Sizes}
use Rattle.lrc_check.specs.declared.traces.fault.TraceFault.{TraceFault}
use Rattle.lrc_check.specs.declared.traces.fault.TraceFault.TheVariants.{NoMemory}
use Rattle.lrc_check.specs.Traces.FedText.{FedTextBeginsTrace, IsFedTextOf, FedText, IsNoUnfinishedTrace, IsUnfinishedTrace}
use Rattle.lrc_check.specs.Traces.Labels.{without_trace_labels}
use Rattle.lrc_check.specs.Traces.LawfulTraces.{IsNoLawfulTrace, IsLawfulTrace}
use Rattle.lrc_check.specs.Traces.TraceText.{trace_text}
use Rattle.journal.specs.Races.{Race}
use Rattle.judge.specs.declared.locksets.lockset_finder.LocksetWords.{LocksetWords}
use Rattle.judge.specs.declared.locksets.lockset_finder.LocksetWords.TheVariants as words
use Rattle.judge.specs.declared.models.MemoryModel.{MemoryModel}
use Rattle.judge.specs.declared.models.MemoryModel.TheVariants as model
use Rattle.lrc_check.specs.declared.checked.Checked.{Checked}
use Rattle.lrc_check.specs.declared.checked.Rules.{Rules}
use Rattle.lrc_check.specs.declared.checked.TraceVerdict.{TraceVerdict}
use Rattle.lrc_check.specs.declared.checked.TraceVerdict.TheVariants as verdict
use Rattle.lrc_check.specs.Faithful.{IsFaithfulAndCounted}
use Rattle.lrc_check.specs.FoundInBytes.{IsFoundInBytes, IsFoundInUnfinished}
use Rattle.lrc_check.specs.HeldTraces.{IsFewForHeldTrace}
use Rattle.lrc_options.specs.declared.options.TraceLocksets.{TraceLocksets}
use Rattle.lrc_options.specs.declared.options.TraceLocksets.TheVariants as asked_words
use Rattle.lrc_options.specs.declared.options.TraceModel.{TraceModel}
use Rattle.lrc_options.specs.declared.options.TraceModel.TheVariants as asked
use Rattle.lrc_commands.specs.declared.checking.Judgement.{Judgement}
use Rattle.lrc_commands.specs.declared.checking.Judgement.TheVariants as judgement

-- the model of this name
abbrev pub trace_command_model : TraceModel → MemoryModel
trace_command_model asked.RaceFree = model.RaceFree
trace_command_model asked.HappensBefore = model.HappensBefore
trace_command_model asked.LazyRelease = model.LazyRelease
trace_command_model asked.Sequential = model.Sequential

-- how judging ended that found this
abbrev pub trace_command_judgement : TraceVerdict → Judgement
trace_command_judgement (verdict.Faithful traffic unjudged) = judgement.Faithful
trace_command_judgement (verdict.Lie x) = judgement.Unfaithful
trace_command_judgement verdict.Racy = judgement.Racy

-- how a trace ends of which this was found: as it was judged, as racy if it has a race, or as one that hangs if it is faithful
abbrev pub IsTraceCommandEnding : Checked → Judgement → Type 0
IsTraceCommandEnding found x = (x ≡ trace_command_judgement found.verdict) ⊎ ((x ≡ judgement.Racy) × IsTrue (is_some found.race))
    ⊎ ((x ≡ judgement.Hung) × (trace_command_judgement found.verdict ≡ judgement.Faithful))

-- a faithful trace that hangs ends so, every other one as it was judged
abbrev pub trace_command_ending : Bool → Judgement → Judgement
trace_command_ending true judgement.Faithful = judgement.Hung
trace_command_ending _ x = x

-- the bytes are, without labels, the text of this trace; if it may end in the midst of a line, and behind that the beginning of a line
abbrev pub IsTraceCommandText : Bool → List ℕ → Sizes → List Event → Type 0
IsTraceCommandText true bytes s es = IsUnfinishedTrace bytes s es
IsTraceCommandText false bytes s es = without_trace_labels bytes ≡ trace_text s es

-- so is what the source had
abbrev pub HasTraceCommandText : Bool → Option (List ℕ) → Sizes → List Event → Type 0
HasTraceCommandText unfinished source s es = IfSome source (λ xs. IsTraceCommandText unfinished xs s es)

-- what is found of the bytes of a trace that may end in the midst of a line, or not
abbrev pub IsTraceCommandFound : Bool → Rules → List ℕ → Checked → Type 0
IsTraceCommandFound true = IsFoundInUnfinished
IsTraceCommandFound false = IsFoundInBytes

-- the words without a lock that are asked for
abbrev pub trace_command_locksets : TraceLocksets → LocksetWords
trace_command_locksets asked_words.Forgotten = words.Forgotten
trace_command_locksets asked_words.All = words.All

-- the source had the text of a trace, which may be unfinished or not, and whose history is faithful under the model, lax or not
pub record IsTraceCommandOnFaithful (m : MemoryModel) (lax unfinished : Bool) (source : Option (List ℕ)) : Type 0 where
  pub sizes : Sizes
  pub events : List Event
  pub trace : IsLawfulTrace sizes events
  pub text_is : HasTraceCommandText unfinished source sizes events
  pub faithful : IsFaithfulAndCounted m lax sizes events

-- the source had the text of a trace, whose history isn't
pub record IsTraceCommandOnUnfaithful (m : MemoryModel) (lax unfinished : Bool) (source : Option (List ℕ)) : Type 0 where
  pub sizes : Sizes
  pub events : List Event
  pub trace : IsLawfulTrace sizes events
  pub text_is : HasTraceCommandText unfinished source sizes events
  pub unfaithful : ¬ IsFaithfulAndCounted m lax sizes events

-- the one or the other, by whether it lies
abbrev pub IsTraceCommandToldAs : Bool → MemoryModel → Bool → Bool → Option (List ℕ) → Type 0
IsTraceCommandToldAs true m lax unfinished source = IsTraceCommandOnUnfaithful m lax unfinished source
IsTraceCommandToldAs false m lax unfinished source = IsTraceCommandOnFaithful m lax unfinished source

-- the source had the text of a trace that can be told, with all its events at hand
pub record IsTraceCommandOnHeld (unfinished : Bool) (source : Option (List ℕ)) : Type 0 where
  pub sizes : Sizes
  pub events : List Event
  pub trace : IsLawfulTrace sizes events
  pub text_is : HasTraceCommandText unfinished source sizes events
  pub few : IsFewForHeldTrace events

-- what the source had begins, without labels, with the text of this trace
abbrev pub BeginsWithTraceCommandText : Option (List ℕ) → Sizes → List Event → Type 0
BeginsWithTraceCommandText source s es = IfSome source (λ xs. (rest : List ℕ) × (without_trace_labels xs ≡ trace_text s es ++ rest))

-- the source begins with the text of a trace, and no history that begins with its events is faithful
pub record IsTraceCommandOnLie (m : MemoryModel) (lax : Bool) (source : Option (List ℕ)) : Type 0 where
  pub sizes : Sizes
  pub events : List Event
  pub trace : IsLawfulTrace sizes events
  pub begins : BeginsWithTraceCommandText source sizes events
  pub lies : (more : List Event) → ¬ IsFaithfulAndCounted m lax sizes (events ++ more)

-- the source begins with the text of a trace that races
pub record IsTraceCommandOnRacy (source : Option (List ℕ)) : Type 0 where
  pub sizes : Sizes
  pub events : List Event
  pub trace : IsLawfulTrace sizes events
  pub begins : BeginsWithTraceCommandText source sizes events
  pub first : ℕ
  pub second : ℕ
  pub race : Race events first second

-- which of these
abbrev pub IsTraceCommandJudgedAs : MemoryModel → Bool → Bool → Option (List ℕ) → Judgement → Type 0
IsTraceCommandJudgedAs m lax unfinished source judgement.Faithful = IsTraceCommandOnFaithful m lax unfinished source
IsTraceCommandJudgedAs m lax unfinished source judgement.Unfaithful = IsTraceCommandOnLie m lax source
IsTraceCommandJudgedAs m lax unfinished source judgement.Racy = IsTraceCommandOnRacy source
IsTraceCommandJudgedAs m lax unfinished source judgement.Hung = IsTraceCommandOnFaithful m lax unfinished source

-- the text of no trace begins with the first of the bytes
abbrev pub HasNoTraceCommandFront : List ℕ → Type 0
HasNoTraceCommandFront bytes = (front rest : List ℕ) × (bytes ≡ front ++ rest) × (¬ FedTextBeginsTrace front)

-- the bytes are, without labels, the text of no trace; if they may end in the midst of a line, a line that ends is refused, or
-- they aren't the text of a trace and the beginning of a line either
abbrev pub IsTraceCommandNoText : Bool → List ℕ → Type 0
IsTraceCommandNoText true bytes = HasNoTraceCommandFront bytes ⊎ IsNoUnfinishedTrace bytes
IsTraceCommandNoText false bytes = IsNoLawfulTrace (without_trace_labels bytes)

-- so is what the source had
abbrev pub IsTraceCommandOnNone : Bool → Option (List ℕ) → Type 0
IsTraceCommandOnNone unfinished source = IfSome source (IsTraceCommandNoText unfinished)

-- of a source that has this left: a reader has what came before it, or a fault, unless it is of memory, says that no trace
-- begins as the source does
abbrev pub IsTraceCommandReadSoFar : Option (List ℕ) → Option (List ℕ) → Result FedText (ℕ × TraceFault) → Type 0
IsTraceCommandReadSoFar source left (Ok x) = (fed : List ℕ) × Consumes source left fed × IsFedTextOf fed [] [] x
IsTraceCommandReadSoFar source left (Err e) = e.1 ≢ NoMemory → IfSome source HasNoTraceCommandFront
