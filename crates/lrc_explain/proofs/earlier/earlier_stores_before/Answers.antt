use Rattle.std.proofs.Common.{◌∙◌, ap, subst, sym}
use Rattle.journal.specs.EventsInRange.{EventProcessorsInRange}
use Rattle.judge.specs.declared.sizes.Sizes.{Sizes}
use Rattle.lrc_explain.proofs.earlier.earlier_stores_before.Goals as goal

pub collect_earlier_stores-collected-requires-clause-processors : goal.collect_earlier_stores-collected-requires-clause-processors
collect_earlier_stores-collected-requires-clause-processors c =
    subst (λ n. EventProcessorsInRange n c.events-events.result.now)
    (sym (c.in_ok-cuts.ensures.present ∙ ap (λ (s : Sizes). s.processors) c.sizes.ensures.value))
    c.events-events.ensures.processors
