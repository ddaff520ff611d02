use Rattle.std.proofs.Common.{◌≡◌, ◌+◌, ◌*◌, List, length}
use Rattle.journal.specs.declared.event.Event.{Event}
use Rattle.journal.specs.Sizes.{Sizes}
use Rattle.causes.specs.FetchedOrigins.{AreOriginsBefore, AreOriginsPartFetched, IsFetchedOriginFetch, IsFetchedOriginLookup}
use Rattle.causes.proofs.origin.fetch_origins.Given as goal

abbrev pub invariant-loop-offset : goal.invariant-loop-offset
invariant-loop-offset l = record {
  long : length l.words ≡ length l.initial.words;
  fetched : (s : Sizes) (j : List Event) → IsFetchedOriginLookup j l.looked → IsFetchedOriginFetch s j l.fetch → l.size ≡ s.words
      → AreOriginsBefore s j l.fetch.place l.initial.words
      → AreOriginsPartFetched s j l.fetch.place l.fetch.reader (l.fetch.page * l.size) (l.fetch.page * l.size + l.offset) l.words;
}
