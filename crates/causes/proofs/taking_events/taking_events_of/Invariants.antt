use Rattle.std.proofs.Common.{◌≡◌, take}
use Rattle.judge.specs.Cuts.{AreCuts}
use Rattle.causes.specs.TakingEvents.{AreAllTakingEvents}
use Rattle.causes.proofs.taking_events.taking_events_of.Given as goal

abbrev pub invariant-loop-place : goal.invariant-loop-place
invariant-loop-place l = record {
  cuts : AreCuts (take l.place l.events) l.cuts;
  present : l.cuts.present ≡ l.processors;
  takings : AreAllTakingEvents l.events l.place l.takings.items;
}
