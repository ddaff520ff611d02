-- What messages on their way are by the history.
use Rattle.std.specs.Prelude.{ℕ, Option, Some, None, List}
use Rattle.journal.specs.declared.event.Event.{Event}
use Rattle.journal.specs.declared.event.Kind.{Kind}
use Rattle.journal.specs.declared.event.Kind.TheVariants.{Acquire, Depart}
use Rattle.journal.specs.Sizes.{Sizes}
use Rattle.journal.specs.WellFormed.{WellFormedAllows}
use Rattle.journal.specs.Brings.{Brings}
use Rattle.transit.specs.Letters.{Letter, LetterKind}
use Rattle.transit.specs.Letters.LetterKind.{grant, departure}
use Rattle.book.specs.BookStamps.{IsBookStamp}

-- a message lets its receiver do this: a grant an Acquire, and a departure a Depart
abbrev pub BookMailLets : LetterKind → Kind → Type 0
BookMailLets grant (Acquire l) = Unit {0}
BookMailLets departure Depart = Unit {0}
BookMailLets _ _ = ⊥

-- what is let by a message
abbrev pub ComesByBookMail : Kind → Type 0
ComesByBookMail (Acquire l) = Unit {0}
ComesByBookMail Depart = Unit {0}
ComesByBookMail _ = ⊥

-- the message lets p do what it is allowed to do, and has the time of what that brings
pub record BookMailCarries (s : Sizes) (h : List Event) (p : ℕ) (m : Letter) : Type 0 where
  pub kind : Kind
  pub lets : BookMailLets m.kind kind
  pub allowed : WellFormedAllows s h p kind
  pub time : IsBookStamp s.processors h (Brings h p kind) m.time

-- p's message, or none if p is allowed nothing that a message lets it do
abbrev pub IsBookMail : Sizes → List Event → ℕ → Option Letter → Type 0
IsBookMail s h p None = (k : Kind) → ComesByBookMail k → ¬ WellFormedAllows s h p k
IsBookMail s h p (Some m) = BookMailCarries s h p m
