use Rattle.std.proofs.Common.{◌∙◌, Option, None, refl, subst, codes}
use Rattle.std.specs.Prelude.{MatchOption}
use Rattle.clap.specs.Words.{Text, found_of}
use Rattle.clap.proofs.WalkLemmas.{first_value-rows}
use Rattle.lrc_options.specs.OptionRules.{AreEventsByOptionRule}
use Rattle.lrc_options.specs.declared.ranges.EventRange.{EventRange}
use Rattle.lrc_options.proofs.command_line.command_line_events.Goals as goal

pub returns-in-Some : goal.returns-in-Some
returns-in-Some c =
    subst (λ (o : Option Text). MatchOption c.option_range_of_events.result ((x : EventRange) → ¬ AreEventsByOptionRule o x) (AreEventsByOptionRule o))
    (c.in-Some.ensures ∙ first_value-rows (found_of c.args.matches.now) (codes "events")) c.option_range_of_events.ensures

pub returns-in-None : goal.returns-in-None
returns-in-None c =
    let all : EventRange = record { first = 0; end = None } in
    subst (λ (o : Option Text). AreEventsByOptionRule o all)
    (c.in-None.ensures ∙ first_value-rows (found_of c.args.matches.now) (codes "events")) (refl, refl)
