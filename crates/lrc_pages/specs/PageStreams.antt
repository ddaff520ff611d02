-- A trace that is told on pages as it is read.
use Rattle.std.specs.Prelude.{ℕ, ◌≡◌, ⊤, Option, Some, None, MatchOption, List, [], ◌++◌}
use Rattle.std.specs.Global.{Vec}
use Rattle.journal.specs.declared.event.Event.{Event}
use Rattle.journal.specs.Sizes.{Sizes}
use Rattle.lrc_check.specs.declared.traces.trace.TraceSizes.{TraceSizes}
use Rattle.lrc_check.specs.Traces.Begun.{IsTraceSoFar}
use Rattle.lrc_check.specs.Traces.FedText.{IsFedTextOf}
use Rattle.lrc_check.specs.Traces.Labels.{without_trace_labels}
use Rattle.lrc_check.specs.Traces.LawfulTraces.{IsLawfulTrace}
use Rattle.lrc_check.specs.Traces.Sizes.{trace_sizes_of}
use Rattle.lrc_check.specs.Traces.TraceText.{trace_text}
use Rattle.lrc_pages.specs.declared.page_row.PageRow.{PageRow}
use Rattle.lrc_pages.specs.declared.page_stream.PageFault.{PageFault}
use Rattle.lrc_pages.specs.declared.page_stream.PageFault.TheVariants as fault
use Rattle.lrc_pages.specs.declared.page_stream.PageStream.{PageStream}
use Rattle.lrc_pages.specs.declared.paged_history.PagedHistory.{PagedHistory}
use Rattle.lrc_pages.specs.PagedTraces.{ArePageRows, ArePagedTraces, paged_words}

-- these were told the events of a trace of these sizes, on pages of so many words
pub record ArePagedByWords (words : List ℕ) (sizes : Option TraceSizes) (j : List Event) (xs : Vec PagedHistory) : Type 0 where
  pub known : TraceSizes
  pub sizes_are : sizes ≡ Some known
  pub words_are : paged_words xs.items ≡ words
  pub told : ArePagedTraces (trace_sizes_of known) j xs.items

-- there are none before the line of the sizes
abbrev pub ArePagedIfBegun : List ℕ → Option TraceSizes → List Event → Option (Vec PagedHistory) → Type 0
ArePagedIfBegun words sizes j xs = MatchOption xs ((sizes ≡ None) × (j ≡ [])) (ArePagedByWords words sizes j)

-- of these bytes this was read, where these events and labels were let go of, and all events were told
pub record IsPageStreamOf (bytes : List ℕ) (front : List Event) (told : List ℕ) (x : PageStream) : Type 0 where
  pub read : IsFedTextOf bytes front told x.reader
  pub paged : ArePagedIfBegun x.words.items x.reader.sizes (front ++ x.reader.events) x.histories

-- these bytes were read and told
abbrev pub IsPageStream : List ℕ → PageStream → Type 0
IsPageStream bytes x = (front : List Event) × (told : List ℕ) × IsPageStreamOf bytes front told x

-- the reader has read on: what was let go of is told, and the events at hand aren't yet
pub record HasPagesToRead (front : List Event) (x : PageStream) : Type 0 where
  pub trace : IsTraceSoFar x.reader.sizes x.reader.gone front x.reader.events
  pub told : MatchOption x.histories (front ≡ []) (ArePagedByWords x.words.items x.reader.sizes front)

-- the bytes are, without their labels, the text of a trace, and the rows are what that costs on pages of so many words, with so many
-- pages told at most
pub record IsFoundOnPages (most : ℕ) (words bytes : List ℕ) (rows : List PageRow) : Type 0 where
  pub sizes : Sizes
  pub events : List Event
  pub trace : IsLawfulTrace sizes events
  pub text_is : without_trace_labels bytes ≡ trace_text sizes events
  pub rows_are : ArePageRows most sizes events words rows

-- the fault is the trace's
abbrev pub IsPageFaultInBytes : PageFault → Type 0
IsPageFaultInBytes (fault.Trace line why) = ⊤
IsPageFaultInBytes _ = ⊥
