use Rattle.std.proofs.Common.{◌≡◌, length}
use Rattle.explore.specs.Users.{AreUserRowsNoted, UsersAreAllSound}
use Rattle.explore.proofs.text.guards.guarded_word_uses.Given as goal

abbrev pub invariant-loop-processor : goal.invariant-loop-processor
invariant-loop-processor l = record {
  long : length l.words.items ≡ l.size;
  noted : AreUserRowsNoted l.words.items l.steps l.processor;
  sound : UsersAreAllSound l.words.items;
}
