use Rattle.std.proofs.Common.{◌≡◌, length}
use Rattle.explore.specs.TextWalks.{AreTextWalkWordsSized}
use Rattle.explore.proofs.text.walk.unused_walked_words.Given as goal

abbrev pub invariant-loop : goal.invariant-loop
invariant-loop l = record {
  long : length l.words.items ≡ l.counter;
  sized : AreTextWalkWordsSized l.processors l.words.items;
}
