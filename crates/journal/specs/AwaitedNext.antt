-- What a processor waits for.
use Rattle.std.specs.Prelude.{ℕ, ◌≡◌, Option, Some, None, List}
use Rattle.journal.specs.declared.event.Event.{Event}
use Rattle.journal.specs.declared.event.Kind.{Kind}
use Rattle.journal.specs.declared.event.Kind.TheVariants.{Ask, Acquire, Arrive, Depart, Watch, Await}
use Rattle.journal.specs.WellFormed.{LastIs}

-- what comes next after a call that waits
abbrev pub awaited_next : Kind → Option Kind
awaited_next (Ask l) = Some (Acquire l)
awaited_next Arrive = Some Depart
awaited_next (Watch f) = Some (Await f)
awaited_next _ = None

-- p waits for nothing
abbrev pub AwaitsNothingNext : List Event → ℕ → Type 0
AwaitsNothingNext j p = (i : ℕ) (a : Kind) → LastIs j p i a → awaited_next a ≡ None
