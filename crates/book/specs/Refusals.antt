-- How the book's calls are refused.
use Rattle.std.specs.Prelude.{ℕ, ◌≡◌, ◌<◌, ◌⊎◌, ◌↔◌, Result, Err}
use Rattle.base.specs.Limits.{most_events}
use Rattle.book.specs.declared.refused.Refused.{Refused}
use Rattle.book.specs.declared.refused.Refused.TheVariants.{JournalFull, NoMemory}

-- JournalFull exactly if the journal would have this many events, which are more than it may have
abbrev pub IsFullRefusal : {A : Type 0} → ℕ → Result A Refused → Type 0
IsFullRefusal n result = result ≡ Err JournalFull ↔ (most_events < n)

-- want of room in the journal, or of memory
abbrev pub IsRoomRefusal : Refused → Type 0
IsRoomRefusal e = (e ≡ JournalFull) ⊎ (e ≡ NoMemory)
