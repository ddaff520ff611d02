-- What a flag is by the history.
use Rattle.std.specs.Prelude.{ℕ, Option, Some, None, List}
use Rattle.journal.specs.declared.event.Event.{Event}
use Rattle.journal.specs.declared.event.Kind.TheVariants.{Set}
use Rattle.journal.specs.Pasts.{InPastOfSome}
use Rattle.journal.specs.Brings.{BringsFromKind}
use Rattle.book.specs.BookStamps.{IsBookStamp}

-- a flag that was never set, or the time of its sets
abbrev pub IsBookFlag : ℕ → List Event → ℕ → Option (List ℕ) → Type 0
IsBookFlag n h f None = (i : ℕ) → ¬ BringsFromKind h (Set f) i
IsBookFlag n h f (Some t) = ((i : ℕ) × BringsFromKind h (Set f) i) × IsBookStamp n h (InPastOfSome h (BringsFromKind h (Set f))) t
