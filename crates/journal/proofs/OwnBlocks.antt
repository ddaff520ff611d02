-- What proofs say of a processor's open block, beside what contracts do.
use Rattle.std.proofs.Common.{ℕ, ◌≡◌, ◌==◌, false, cond, List}
use Rattle.journal.specs.declared.event.Event.{Event}
use Rattle.journal.specs.Events.{EventAt, event_takes}

-- events of p that take nothing
abbrev pub IsBlock : ℕ → List Event → Type 0
IsBlock p block = (k : ℕ) (e : Event) → EventAt block k e → (e.processor ≡ p) × (event_takes e.kind ≡ false)

-- these pages, with another one at n
abbrev pub block_with_page : ℕ → List ℕ → (ℕ → List ℕ) → ℕ → List ℕ
block_with_page n page base m = cond (m == n) page (base m)
