use Rattle.std.proofs.Common.{◌≡◌, ◌/◌, ◌<◌, List}
use Rattle.journal.specs.declared.event.Event.{Event}
use Rattle.journal.specs.Sizes.{Sizes}
use Rattle.causes.specs.FetchedOrigins.{IsFetchedOriginFetch, IsFetchedOriginLookup, FetchedOriginLastApplied}
use Rattle.causes.proofs.brought.last_brought.Given as goal

abbrev pub invariant-loop-by : goal.invariant-loop-by
invariant-loop-by l =
    (s : Sizes) (j : List Event) → IsFetchedOriginLookup j l.looked → IsFetchedOriginFetch s j l.fetch → l.address / s.words ≡ l.fetch.page
    → FetchedOriginLastApplied s j l.fetch.reader l.address l.fetch.place (λ q. q < l.by) l.last
