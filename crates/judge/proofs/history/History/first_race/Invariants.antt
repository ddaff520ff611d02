use Rattle.std.proofs.Common.{◌≡◌, take}
use Rattle.journal.specs.Sizes.{addresses}
use Rattle.judge.specs.JudgedSizes.{judged_sizes_of}
use Rattle.judge.specs.NearestRaces.{AreNearestRacesOf}
use Rattle.judge.proofs.FirstRaces.{IsRaceFreeBelow}
use Rattle.judge.proofs.history.History.first_race.Given as goal

abbrev pub invariant-loop-place : goal.invariant-loop-place
invariant-loop-place l = record {
  tells : AreNearestRacesOf (take l.place l.events) l.races;
  processors : l.races.processors ≡ l.self.sizes.processors;
  addresses : l.races.addresses ≡ addresses (judged_sizes_of l.self.sizes);
  free : IsRaceFreeBelow l.events l.place;
}
