-- Fetches of a script's run: each is made right before an access that wants its page.
use Rattle.std.specs.Prelude.{ℕ, ◌≡◌, ◌/◌, List, [], ◌∷◌}
use Rattle.journal.specs.declared.event.Event.{Event}
use Rattle.journal.specs.declared.event.Kind.{Kind}
use Rattle.journal.specs.declared.event.Kind.TheVariants.{Load, Store, Fetch}

-- it loads or stores a word of this page, if a page has so many words
abbrev pub IsWantedAccess : ℕ → ℕ → Kind → Type 0
IsWantedAccess words page (Load a v) = a / words ≡ page
IsWantedAccess words page (Store a v) = a / words ≡ page
IsWantedAccess words page _ = ⊥

-- if it is a fetch, the next call is an access to its page
abbrev pub IsWantedByAccess : ℕ → Kind → List Event → Type 0
IsWantedByAccess words (Fetch writers page records sent) [] = ⊥
IsWantedByAccess words (Fetch writers page records sent) (next ∷ later) = IsWantedAccess words page next.kind
IsWantedByAccess words _ next = Unit {0}

-- each fetch among a processor's calls comes right before an access to its page
abbrev pub FetchesAreWanted : ℕ → List Event → Type 0
FetchesAreWanted words [] = Unit {0}
FetchesAreWanted words (call ∷ next) = IsWantedByAccess words call.kind next × FetchesAreWanted words next
