use Rattle.explore.specs.AllowedBeginnings.{allowed_beginning_events}
use Rattle.explore.proofs.AllowedRuns.Lengthened.{lengthened_by_other_call}
use Rattle.explore.proofs.AllowedRuns.NextAllowed.{next_allowed_other_call}
use Rattle.explore.proofs.rules.beginning.AllowedBeginning.follow.Goals as goal

pub lengthened-requires : goal.lengthened-requires
lengthened-requires c =
    let s = c.requires.0 in
    let may = c.requires.1 in (
      s,
      record {
        lawful = may.lawful;
        tells = may.tells;
        next = next_allowed_other_call s (allowed_beginning_events c.args.self.now) c.args.processor c.args.call may.tells.beginning may.may c.in_default.not-Load;
      },
    )

pub returns-in_ok-push-in_default : goal.returns-in_ok-push-in_default
returns-in_ok-push-in_default c = λ s may.
    let g = allowed_beginning_events c.args.self.now in
    let next = next_allowed_other_call s g c.args.processor c.args.call may.tells.beginning may.may c.in_default.not-Load in
    lengthened_by_other_call s g c.args.processor c.args.call c.in_ok-lengthened-in_default.field-0 c.args.pending.now.items c.push.new.self.items
    c.in_default.not-Load may.plain next c.in_ok-push-in_default.ensures.items
    (c.in_ok-lengthened-in_default.ensures.told s (record { lawful = may.lawful; tells = may.tells; next = next }))
    c.in_ok-lengthened-in_default.ensures.events
