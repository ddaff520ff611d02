-- A processor's open block: events of its own that no journal has yet.
use Rattle.std.specs.Prelude.{ℕ, ◌≡◌, ◌==◌, ◌/◌, ◌%◌, cond, Option, Some, None, List, slice_get, take}
use Rattle.journal.specs.declared.event.Event.{Event}
use Rattle.journal.specs.declared.event.Kind.{Kind}
use Rattle.journal.specs.declared.event.Kind.TheVariants.{Load, Store}
use Rattle.journal.specs.Sizes.{Sizes}
use Rattle.journal.specs.WellFormed.{Does}
use Rattle.base.specs.LastWrite.{written}
use Rattle.journal.specs.PageImages.{Lawful}

-- what an event stores in page n
abbrev pub block_write : Sizes → ℕ → Kind → Option (ℕ × ℕ)
block_write s n (Store a v) = cond (a / s.words == n) (Some (a % s.words, v)) None
block_write s n _ = None

-- page n after the block's stores
abbrev pub block_done : Sizes → ℕ → List ℕ → List Event → List ℕ
block_done s n page block = written (λ (e : Event). block_write s n e.kind) page block

-- each load of the block answers the word of its page, which is lawful, after the block's earlier stores
pub record BlockAnswers (s : Sizes) (j block : List Event) (p : ℕ) (base : ℕ → List ℕ) : Type 0 where
  pub lawful : (k a v : ℕ) → Does block k p (Load a v) → Lawful s j p (a / s.words) (base (a / s.words))
  pub answers : (k a v : ℕ) → Does block k p (Load a v)
      → slice_get (block_done s (a / s.words) (base (a / s.words)) (take k block)) (a % s.words) ≡ Some v
