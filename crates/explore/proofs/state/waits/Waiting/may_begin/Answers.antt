use Rattle.std.proofs.Common.{sym, refl}
use Rattle.std.proofs.lemmas.Bool.{false≢true}
use Rattle.explore.proofs.Enabled.{enabled_quiet_call, enabled_taking_is_awaited}
use Rattle.explore.proofs.state.waits.Waiting.may_begin.Goals as goal

pub returns-then-is_waiting_ended_by : goal.returns-then-is_waiting_ended_by
returns-then-is_waiting_ended_by c = λ s j tells idle. (
  λ yes. absurd (false≢true yes),
  λ allowed. absurd (idle c.args.kind (enabled_taking_is_awaited s j c.args.processor c.args.kind (sym c.if-is_waiting_ended_by.ensures) allowed)),
)

pub returns-in_default : goal.returns-in_default
returns-in_default c = λ s j tells idle. (
  λ yes. enabled_quiet_call s j c.args.processor c.args.kind c.in_default.not-Ask c.in_default.not-Release
      (sym c.if-is_waiting_ended_by.ensures),
  λ allowed. refl,
)
