-- Traces that are told on pages as they are read.
use Rattle.std.proofs.Common.{◌≡◌, ℕ, ◌+◌, ◌-◌, ◌*◌, ◌/◌, ◌<◌, ◌≤◌, List, [], ◌++◌, Option, Some, false, length, subst, sym, ◌∙◌, arith}
use Rattle.std.proofs.Math.Nat.{lt-div-mul-add}
use Rattle.std.proofs.lemmas.Option.{get_or_from_slice_get, none-some, same_Some}
use Rattle.std.specs.Prelude.{None, MatchOption}
use Rattle.std.specs.Global.{Vec}
use Rattle.journal.specs.declared.event.Event.{Event}
use Rattle.journal.specs.declared.event.Kind.{Kind}
use Rattle.journal.specs.declared.event.Kind.TheVariants.{Load, Store, Fetch}
use Rattle.journal.specs.Sizes.{Sizes, addresses}
use Rattle.journal.specs.WellFormed.{WellFormedKindInRange}
use Rattle.journal.proofs.Order.EventPlacesAndCounts.{event_place_behind, event_place_inside}
use Rattle.judge.specs.JudgedSizes.{judged_sizes_of}
use Rattle.lrc_check.specs.declared.traces.trace.TraceSizes.{TraceSizes}
use Rattle.lrc_check.specs.Traces.Begun.{AreTraceSizesKept, IsTraceSoFar}
use Rattle.lrc_check.specs.Traces.LawfulTraces.{IsLawfulTrace, IsWithinLawfulTrace}
use Rattle.lrc_check.specs.Traces.Sizes.{trace_sizes_of}
use Rattle.lrc_pages.specs.declared.paged_history.PagedHistory.{PagedHistory}
use Rattle.lrc_pages.specs.Fetched.{is_a_fetch}
use Rattle.lrc_pages.specs.PagedHistory.{AreReadInSizes, IsReadInSizes}
use Rattle.lrc_pages.specs.PagedTraces.{AreTracedEvents, IsPagedOn, paged_sizes}
use Rattle.lrc_pages.specs.PageStreams.{ArePagedByWords, ArePagedIfBegun}

-- pages have each address
paged_addresses : (n w : ℕ) → 0 < w → n ≤ (n + (w - 1)) / w * w
paged_addresses n w some = let lt = lt-div-mul-add {a = n + (w - 1)} {b = w} some in omega arith

kind_in_range : (s : Sizes) (w : ℕ) (k : Kind) → 0 < w → is_a_fetch k ≡ false → WellFormedKindInRange s k → WellFormedKindInRange (paged_sizes s w) k
kind_in_range s w (Load a v) some none lt = let le = paged_addresses (addresses s) w some in omega arith
kind_in_range s w (Store a v) some none lt = let le = paged_addresses (addresses s) w some in omega arith
kind_in_range s w (Fetch a b c d) some none lt = absurd cc
kind_in_range s w _ some none lt = lt

-- an event of a trace may be read on pages
event_in_range : (s : Sizes) (w : ℕ) (e : Event) → 0 < w → IsWithinLawfulTrace s e → IsReadInSizes (paged_sizes s w) e
event_in_range s w e some within = λ none. record { processor = within.processor; kind = kind_in_range s w e.kind some none within.kind }

-- so may those of a trace
pub paged_readable : (s : Sizes) (es j : List Event) (x : PagedHistory) → AreTracedEvents s es → IsPagedOn s j x
    → AreReadInSizes (judged_sizes_of x.sizes) es
paged_readable s es j x traced paged = λ k e at.
    subst (λ t. IsReadInSizes t e) (sym paged.sizes) (event_in_range s x.sizes.words e paged.told.told.words (traced k e at))

-- those at hand are of a trace
pub paged_traced : (s : Sizes) (front es : List Event) → IsLawfulTrace s (front ++ es) → AreTracedEvents s es
paged_traced s front es trace = λ k e at.
    let there = event_place_behind front es k e at in
    let inside = event_place_inside (front ++ es) (length front + k) e there in
    let is = get_or_from_slice_get (front ++ es) (length front + k) e e there in
    subst (IsWithinLawfulTrace s) is (trace.events (length front + k) e inside)

-- a trace of these sizes
pub paged_trace : (known : TraceSizes) (sizes : Option TraceSizes) (gone : ℕ) (front es : List Event) → sizes ≡ Some known
    → IsTraceSoFar sizes gone front es → IsLawfulTrace (trace_sizes_of known) (front ++ es)
paged_trace known None gone front es is trace = absurd (none-some known is)
paged_trace known (Some s) gone front es is trace =
    subst (λ t. IsLawfulTrace (trace_sizes_of t) (front ++ es)) (same_Some s known is) trace.1

-- before the line of the sizes there is no event
pub paged_before : (sizes : Option TraceSizes) (gone : ℕ) (front es : List Event) → sizes ≡ None → IsTraceSoFar sizes gone front es → front ++ es ≡ []
paged_before None gone front es is trace = trace.1
paged_before (Some s) gone front es is trace = absurd (none-some s (sym is))

-- the sizes stay
sizes_kept : (before after : Option TraceSizes) (known : TraceSizes) → AreTraceSizesKept before after → before ≡ Some known → after ≡ Some known
sizes_kept None after known kept is = absurd (none-some known is)
sizes_kept (Some s) after known kept is = kept ∙ is

-- what was told of the events before is told of those that were let go of now
pub paged_kept : (words : List ℕ) (before after : Option TraceSizes) (j : List Event) (xs : Option (Vec PagedHistory)) → AreTraceSizesKept before after
    → ArePagedIfBegun words before j xs → MatchOption xs (j ≡ []) (ArePagedByWords words after j)
paged_kept words before after j None kept is = is.1
paged_kept words before after j (Some xs) kept is =
    record { known = is.known; sizes_are = sizes_kept before after is.known kept is.sizes_are; words_are = is.words_are; told = is.told }
