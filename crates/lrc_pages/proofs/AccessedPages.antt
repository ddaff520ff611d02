-- Pages that events access.
use Rattle.std.proofs.Common.{◌≡◌, ℕ, ◌<◌, ◌*◌, ◌/◌, subst}
use Rattle.std.proofs.lemmas.Nat.{div_below}
use Rattle.journal.specs.declared.event.Kind.{Kind}
use Rattle.journal.specs.declared.event.Kind.TheVariants.{Load, Store}
use Rattle.journal.specs.Sizes.{Sizes}
use Rattle.journal.specs.WellFormed.{WellFormedKindInRange}
use Rattle.lrc_pages.specs.Fetched.{AccessesPage}

page_below : (s : Sizes) (a n : ℕ) → 0 < s.words → a < s.pages * s.words → a / s.words ≡ n → n < s.pages
page_below s a n some lt is = subst (λ m. m < s.pages) is (div_below a s.words s.pages some lt)

-- an event within the sizes accesses a page that there is
pub accessed_page_within : (s : Sizes) (k : Kind) (n : ℕ) → 0 < s.words → WellFormedKindInRange s k → AccessesPage s k n → n < s.pages
accessed_page_within s (Load a v) n some lt is = page_below s a n some lt is
accessed_page_within s (Store a v) n some lt is = page_below s a n some lt is
accessed_page_within s _ n some lt is = absurd is
