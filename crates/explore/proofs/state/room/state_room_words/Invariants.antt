use Rattle.std.proofs.Common.{◌≡◌, ◌+◌, ◌*◌, ◌≤◌, length, take}
use Rattle.std.specs.Prelude.{sum_by}
use Rattle.lrc_script.specs.Plan.{plan_of}
use Rattle.lrc_script.specs.Lawful.{plan_addresses}
use Rattle.explore.specs.StateRoom.{state_room_replies_in}
use Rattle.explore.proofs.state.room.state_room_words.Given as goal

abbrev pub invariant-loop-section : goal.invariant-loop-section
invariant-loop-section l = record {
  is : l.words ≡ plan_addresses (plan_of l.script) + length l.script.shown.items
      + sum_by (state_room_replies_in l.detail) (take l.section-index (plan_of l.script).sections);
  few : l.words ≤ 4160 + l.section-index * 10001;
}
