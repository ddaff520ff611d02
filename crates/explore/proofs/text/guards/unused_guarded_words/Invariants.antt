use Rattle.std.proofs.Common.{◌≡◌, length}
use Rattle.explore.specs.Users.{UsersAreAllSound}
use Rattle.explore.proofs.text.guards.unused_guarded_words.Given as goal

abbrev pub invariant-loop : goal.invariant-loop
invariant-loop l = record {
  long : length l.words.items ≡ l.counter;
  sound : UsersAreAllSound l.words.items;
}
