-- So many processors have no message.
use Rattle.std.proofs.Common.{◌≡◌, None, map, replicate}
use Rattle.std.specs.Option.{option_map}
use Rattle.transit.specs.Letters.{letter}
use Rattle.transit.proofs.transit.Transit.new.Given as goal

abbrev pub invariant-loop : goal.invariant-loop
invariant-loop l = map (option_map letter) l.messages.items ≡ replicate l.counter None
