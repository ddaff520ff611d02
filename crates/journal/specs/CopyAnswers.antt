-- The words of a processor's copies, and the loads that answer them.
use Rattle.std.specs.Prelude.{ℕ, ◌≡◌, ◌≤◌, ◌⊎◌, ◌++◌, List, length}
use Rattle.journal.specs.declared.event.Event.{Event}
use Rattle.journal.specs.declared.event.Kind.TheVariants.{Load, Store}
use Rattle.journal.specs.Sizes.{Sizes}
use Rattle.journal.specs.WellFormed.{Does}
use Rattle.journal.specs.OriginWrites.{IsLatestOriginWrite, HasNoOriginWrite}

-- before place k, p's copy has the word at a from a store of v
pub record IsCopyAnswerOfStore (s : Sizes) (j : List Event) (p a k v : ℕ) : Type 0 where
  pub write : ℕ
  pub store : ℕ
  pub by : ℕ
  pub from : IsLatestOriginWrite s j p a k write store
  pub stores : Does j store by (Store a v)

-- before place k, the word at a of p's copy is v: what the store stores from which it comes, or 0 if it comes from none
abbrev pub IsCopyAnswer : Sizes → List Event → ℕ → ℕ → ℕ → ℕ → Type 0
IsCopyAnswer s j p a k v = ((v ≡ 0) × HasNoOriginWrite s j p a k) ⊎ IsCopyAnswerOfStore s j p a k v

-- each load answers the word of its processor's copy
abbrev pub AnswersCopies : Sizes → List Event → Type 0
AnswersCopies s j = (k p a v : ℕ) → Does j k p (Load a v) → IsCopyAnswer s j p a k v

-- a copy has one word at an address before a place, and has it in each history that goes on
pub record CopyAnswerLaw : Type 0 where
  pub once : (s : Sizes) (j : List Event) (p a k v w : ℕ) → IsCopyAnswer s j p a k v → IsCopyAnswer s j p a k w → v ≡ w
  pub stays : (s : Sizes) (j es : List Event) (p a k v : ℕ) → k ≤ length j → IsCopyAnswer s j p a k v
      → IsCopyAnswer s (j ++ es) p a k v
