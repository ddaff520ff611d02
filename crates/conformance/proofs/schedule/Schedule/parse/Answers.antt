use Rattle.std.proofs.Common.{List, ℕ, Option, Bor, ap, sym, ◌∙◌}
use Rattle.lrc_script.specs.LineReading.{parts_behind_in_read_line}
use Rattle.conformance.specs.ScheduleTexts.{schedule_text_turns_after}
use Rattle.conformance.proofs.SchedulesRead.{schedule_read_items_next}
use Rattle.conformance.proofs.schedule.Schedule.parse.Goals as goal

pub loop-rest-preserved : goal.loop-rest-preserved
loop-rest-preserved c =
    let turns = c.loop-rest.turns.items in
    let left = parts_behind_in_read_line 44 c.split_script_line_at.result.1 in
    let new = c.in_ok-add_schedule_item.ensures in
    ap (λ ts. schedule_text_turns_after ts left) new.2 ∙ sym (schedule_read_items_next turns new.0 c.split_script_line_at.result.0.now left new.1)
    ∙ ap (schedule_text_turns_after turns) (sym c.split_script_line_at.ensures.parts)
    ∙ ap (λ (r : Option (Bor (List ℕ))). schedule_text_turns_after turns (parts_behind_in_read_line 44 r)) (sym c.in-Some.is) ∙ c.loop-rest.invariant
