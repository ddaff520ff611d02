use Rattle.std.proofs.Common.{◌≡◌, ℕ, Option, Some, slice_get, vec_len}
use Rattle.std.specs.Prelude.{None}
use Rattle.causes.specs.declared.origin.WordOrigin.{WordOrigin}
use Rattle.causes.proofs.origin.no_origins.Given as goal

abbrev pub invariant-loop : goal.invariant-loop
invariant-loop l = record {
  long : vec_len l.words ≡ l.counter;
  none : (n : ℕ) (o : Option WordOrigin) → slice_get l.words.items n ≡ Some o → o ≡ None;
}
