-- Fetches that are wanted: in lists put together, and before an access.
use Rattle.std.proofs.Common.{ℕ, ◌≡◌, List, [], ◌∷◌, ◌++◌, false, refl}
use Rattle.journal.specs.declared.event.Event.{Event}
use Rattle.journal.specs.declared.event.Kind.{Kind}
use Rattle.journal.specs.declared.event.Kind.TheVariants.{Load, Store, Fetch}
use Rattle.conformance.specs.Follows.{is_fetch}
use Rattle.conformance.specs.WantedAccess.{FetchesAreWanted, IsWantedAccess, IsWantedByAccess}

-- what is no fetch is wanted, whatever comes next
wanted_fetch_plain : (words : ℕ) (k : Kind) (next : List Event) → is_fetch k ≡ false → IsWantedByAccess words k next
wanted_fetch_plain words (Fetch writers page records sent) next is = absurd (cc)
wanted_fetch_plain words _ next is = tt

-- what a call is wanted by stays so, whatever comes later
wanted_fetch_longer : (words : ℕ) (k : Kind) (next later : List Event) → IsWantedByAccess words k next
    → IsWantedByAccess words k (next ++ later)
wanted_fetch_longer words (Fetch writers page records sent) [] later wanted = absurd wanted
wanted_fetch_longer words (Fetch writers page records sent) (e ∷ next) later wanted = wanted
wanted_fetch_longer words _ next later wanted = tt

pub wanted_fetches-append : (words : ℕ) (xs ys : List Event) → FetchesAreWanted words xs → FetchesAreWanted words ys
    → FetchesAreWanted words (xs ++ ys)
wanted_fetches-append words [] ys first last = last
wanted_fetches-append words (x ∷ xs) ys first last =
    (wanted_fetch_longer words x.kind xs ys first.0, wanted_fetches-append words xs ys first.1 last)

-- one call that is no fetch
pub wanted_fetch_one : (words : ℕ) (e : Event) → is_fetch e.kind ≡ false → FetchesAreWanted words (e ∷ [])
wanted_fetch_one words e is = (wanted_fetch_plain words e.kind [] is, tt)

-- an access is no fetch
wanted_fetch_access_plain : (words page : ℕ) (k : Kind) → IsWantedAccess words page k → is_fetch k ≡ false
wanted_fetch_access_plain words page (Load a v) access = refl
wanted_fetch_access_plain words page (Store a v) access = refl
wanted_fetch_access_plain words page _ access = absurd access

-- a fetch and the access that wants it
pub wanted_fetch_and_access : (words page writers records sent : ℕ) (fetch access : Event)
    → fetch.kind ≡ Fetch writers page records sent → IsWantedAccess words page access.kind
    → FetchesAreWanted words (fetch ∷ access ∷ [])
wanted_fetch_and_access words page writers records sent fetch access is wants = (
  rw is wants,
  wanted_fetch_one words access (wanted_fetch_access_plain words page access.kind wants),
)
