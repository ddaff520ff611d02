use Rattle.std.proofs.Common.{◌++◌, ap, codes, ◌∙◌}
use Rattle.lrc_explore.proofs.allowed_showing_text.allowed_showing_schedule.Goals as goal

pub returns : goal.returns
returns c =
    let outcome = c.deref-2.result.now in
    let schedule = c.as_bytes.result.now in
    let told = codes "until shown\n" ++ outcome ++ schedule in (
      outcome,
      schedule,
      (c.args.schedule.now.turns.items, c.as_bytes.ensures.value ∙ c.in_ok-line.ensures),
      c.in_ok-put_allowed_showing_schedule.ensures ∙ ap (λ t. t ++ told) c.new-text.ensures.items,
    )
