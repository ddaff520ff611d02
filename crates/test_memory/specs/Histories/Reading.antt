-- Who holds a lock after one more event.
use Rattle.std.specs.Prelude.{ℕ, ◌≡◌, ◌≢◌, ◌⊎◌}
use Rattle.journal.specs.declared.event.Event.{Event}
use Rattle.journal.specs.declared.event.Kind.TheVariants.{Acquire, Release}
use Rattle.journal.specs.DidEvent.{event}

-- p acquires the lock, or held it and doesn't release it
abbrev pub IsHeldAfter : Type 0 → Event → ℕ → ℕ → Type 0
IsHeldAfter held e p l = (e ≡ event p (Acquire l)) ⊎ (held × (e ≢ event p (Release l)))
