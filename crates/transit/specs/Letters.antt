-- Messages as contracts see them.
use Rattle.std.specs.Prelude.{ℕ, List}
use Rattle.interval.specs.SentIntervals.{SentRecord}
use Rattle.transit.specs.declared.message.Message.{Message}
use Rattle.transit.specs.declared.message.Message.TheVariants.{Grant, Departure, Signal}

-- what a message brings: a lock, the end of a barrier episode, or a flag
pub data LetterKind : Type 0 where
  grant : LetterKind
  departure : LetterKind
  signal : LetterKind

-- a message's kind, its timestamp, and what is sent with it
pub record Letter : Type 0 where
  pub kind : LetterKind
  pub time : List ℕ
  pub notices : List SentRecord

abbrev pub letter : Message → Letter
letter (Grant time notices) = record { kind = grant; time = time; notices = notices.items }
letter (Departure time notices) = record { kind = departure; time = time; notices = notices.items }
letter (Signal time notices) = record { kind = signal; time = time; notices = notices.items }
