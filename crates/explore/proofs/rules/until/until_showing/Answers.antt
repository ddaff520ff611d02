use Rattle.std.proofs.Common.{subst}
use Rattle.lrc_script.specs.Plan.{plan_of}
use Rattle.explore.specs.AllowedRoom.{allowed_room_at_most}
use Rattle.explore.specs.AllowedUntil.{IsAllowedUntilRun}
use Rattle.explore.specs.AllowedSearchEnds.{IsAllowedEnd}
use Rattle.explore.proofs.rules.until.until_showing.Goals as goal

pub returns-in_ok-run-in-Ending : goal.returns-in_ok-run-in-Ending
returns-in_ok-run-in-Ending c = λ words most ended.
    let s = plan_of c.args.script.now in
    c.in_ok-run-in-Ending.ensures words (subst (IsAllowedEnd s (IsAllowedUntilRun s words) (allowed_room_at_most s most)) c.in-Ending.is ended).1
