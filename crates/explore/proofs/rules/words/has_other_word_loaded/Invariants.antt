use Rattle.std.proofs.Common.{◌≡◌, ◌<◌, ℕ, Some, slice_get}
use Rattle.journal.specs.declared.event.Kind.TheVariants.{Load}
use Rattle.explore.proofs.rules.words.has_other_word_loaded.Given as goal

abbrev pub invariant-loop-call : goal.invariant-loop-call
invariant-loop-call l =
    (k other : ℕ) → k < l.call-index → slice_get l.calls k ≡ Some (Load l.address other) → other ≡ l.word
