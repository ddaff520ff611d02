use Rattle.std.proofs.Common.{◌≡◌, ◌+◌, ◌*◌, ◌≤◌, length, take}
use Rattle.std.specs.Prelude.{sum_by}
use Rattle.lrc_script.specs.Plan.{plan_of}
use Rattle.lrc_script.specs.Lawful.{plan_addresses}
use Rattle.explore.specs.AllowedRoom.{allowed_room_instructions_in}
use Rattle.explore.proofs.rules.room.allowed_room_work.Given as goal

abbrev pub invariant-loop-section : goal.invariant-loop-section
invariant-loop-section l = record {
  is : l.work ≡ plan_addresses (plan_of l.script) + length l.script.shown.items
      + sum_by allowed_room_instructions_in (take l.section-index (plan_of l.script).sections);
  few : l.work ≤ 4160 + l.section-index * 10000;
}
