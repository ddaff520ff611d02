use Rattle.std.proofs.Common.{◌≡◌, ap, length, subst, sym, arith}
use Rattle.judge.specs.declared.sizes.Sizes.{Sizes as Given}
use Rattle.causes.specs.FinalWaits.{AreFinalWaits}
use Rattle.causes.proofs.StandingWaits.{standing_wait_rows_next}
use Rattle.causes.proofs.waits_at_end.final_waits.Goals as goal

pub loop-by-preserved : goal.loop-by-preserved
loop-by-preserved c =
    let events = c.events-events.result.now in
    let by = c.loop-by.by in
    let old = c.loop-by.invariant in
    let waits = c.loop-by.waits in
    let long : length waits.items ≡ by = omega (arith, waits.ok.0, old.long) in
    record {
      long = (let len = c.in_ok-push.ensures.len in let was = old.long in omega arith);
      waits =
          subst (AreFinalWaits c.sizes-processors.result.processors events) (sym c.in_ok-push.ensures.items)
          (standing_wait_rows_next c.sizes-processors.result.processors events waits.items by c.in_ok-final_wait_of.field-0 long old.waits
          c.in_ok-final_wait_of.ensures);
    }

pub returns-clause-waits : goal.returns-clause-waits
returns-clause-waits c =
    subst (λ n. AreFinalWaits n c.args.history.now.events c.loop-by.waits.items) (ap (λ (s : Given). s.processors) c.sizes-processors.ensures.value)
    (subst (λ j. AreFinalWaits c.sizes-processors.result.processors j c.loop-by.waits.items) c.events-events.ensures.value c.loop-by.invariant.waits)
