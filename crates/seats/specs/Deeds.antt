-- What a processor did, as its program sees it.
use Rattle.std.specs.Prelude.{Bool, true, false, List, filter, map}
use Rattle.journal.specs.declared.event.Event.{Event}
use Rattle.journal.specs.declared.event.Kind.{Kind}
use Rattle.journal.specs.declared.event.Kind.TheVariants.{Fetch}

-- no fetch, which a seat does by itself
abbrev pub is_deed : Kind → Bool
is_deed (Fetch writers page records words) = false
is_deed _ = true

-- what was done by these events, in order, fetches aside
abbrev pub deeds : List Event → List Kind
deeds es = filter is_deed (map (λ (e : Event). e.kind) es)
