use Rattle.std.proofs.Common.{◌∙◌, ℕ, List, Option, subst, codes}
use Rattle.std.specs.Prelude.{IfOk, MatchOption}
use Rattle.std.specs.Global.{Vec}
use Rattle.clap.specs.Words.{Text, found_of}
use Rattle.clap.proofs.WalkLemmas.{first_value-rows}
use Rattle.lrc_options.specs.OptionRules.{ArePageWordsByOptionRule}
use Rattle.lrc_options.proofs.command_line.command_line_page_sizes.Goals as goal

pub returns-in-Some : goal.returns-in-Some
returns-in-Some c =
    subst (λ (o : Option Text). IfOk c.page_sizes.result (λ r. MatchOption r ((words : List ℕ) → ¬ ArePageWordsByOptionRule o words)
    (λ (v : Vec ℕ). ArePageWordsByOptionRule o v.items)))
    (c.in-Some.ensures ∙ first_value-rows (found_of c.args.matches.now) (codes "page-words")) c.page_sizes.ensures

pub returns-in_ok-default_page_sizes-in-None : goal.returns-in_ok-default_page_sizes-in-None
returns-in_ok-default_page_sizes-in-None c =
    subst (λ (o : Option Text). ArePageWordsByOptionRule o c.in_ok-default_page_sizes-in-None.field-0.items)
    (c.in-None.ensures ∙ first_value-rows (found_of c.args.matches.now) (codes "page-words")) c.in_ok-default_page_sizes-in-None.ensures
