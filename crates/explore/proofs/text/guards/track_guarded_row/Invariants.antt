use Rattle.std.proofs.Common.{ℕ, ◌≡◌, false, slice_index_or}
use Rattle.explore.specs.TextGuards.{text_guard_held_at, text_guard_departures_at}
use Rattle.explore.specs.Users.{AreStepUsersNoted, UsersAreKept}
use Rattle.explore.proofs.text.guards.track_guarded_row.Given as goal

abbrev pub invariant-loop-step : goal.invariant-loop-step
invariant-loop-step l = record {
  phase : l.phase ≡ text_guard_departures_at l.row l.step-index;
  held : (q : ℕ) → slice_index_or l.held q false ≡ text_guard_held_at l.row l.step-index q;
  keeps : UsersAreKept l.initial.words.items l.words.items;
  noted : AreStepUsersNoted l.words.items l.processor l.row l.step-index;
}
