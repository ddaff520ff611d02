use Rattle.std.proofs.Common.{◌≡◌, ◌+◌, ◌-◌, ◌<◌, ◌≤◌, slice_index, ap, ◌∙◌, arith}
use Rattle.lrc_check.proofs.traces.Labelling.{labelling_double_space_within, labelling_there, labelling_absent}
use Rattle.lrc_check.proofs.traces.labels.spaces_before_trace_label.Goals as goal

pub loop-at-init : goal.loop-at-init
loop-at-init c = λ k some less. absurd (omega arith)

pub returns-then-line-at-eq32-2 : goal.returns-then-line-at-eq32-2
returns-then-line-at-eq32-2 c =
    let line = c.args.line.now in
    let at = c.loop-at.at in
    let two = c.loop-at.auto.at in
    let back : (at - 1) + 1 ≡ at = omega arith in
    let some : 1 ≤ at - 1 = omega arith in (
      labelling_there line (at - 1) some
          (λ k behind less. c.loop-at.invariant k behind (let before : k + 1 < at = omega arith in before))
          (c.if-line-at-eq32.true, ap (slice_index line) back ∙ c.if-line-at-eq32-2.true),
      omega (arith, c.loop-at-test.true),
    )

pub returns : goal.returns
returns c =
    let over = c.loop-at-test.false in
    labelling_absent c.args.line.now (λ k some h.
    c.loop-at.invariant k some
    (let within = labelling_double_space_within c.args.line.now k h in
    let before : k + 1 < c.loop-at.at = omega arith in before)
    h)
