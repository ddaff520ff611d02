-- One more event at the end of a history.
use Rattle.std.specs.Prelude.{ℕ, List, [], ◌∷◌, ◌++◌}
use Rattle.journal.specs.declared.event.Event.{Event}
use Rattle.journal.specs.declared.event.Kind.{Kind}

abbrev pub event : ℕ → Kind → Event
event p k = record { processor = p; kind = k }

-- the history after p does this
abbrev pub did : List Event → ℕ → Kind → List Event
did h p k = h ++ event p k ∷ []
