use Rattle.std.proofs.Common.{◌≡◌, ◌<◌, ◌↔◌, ℕ, Some, slice_get}
use Rattle.base.specs.InOrderOnce.{Has}
use Rattle.journal.specs.declared.event.Kind.TheVariants.{Load}
use Rattle.explore.proofs.rules.words.are_words_loaded.Given as goal

abbrev pub invariant-loop-address : goal.invariant-loop-address
invariant-loop-address l =
    (k : ℕ) (asked : ℕ × ℕ) → k < l.address-index → slice_get l.words k ≡ Some asked
    → (w : ℕ) → Has l.calls (Load asked.0 w) ↔ (w ≡ asked.1)
