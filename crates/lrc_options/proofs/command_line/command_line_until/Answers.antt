use Rattle.std.proofs.Common.{◌∙◌, ℕ, List, Option, subst, codes}
use Rattle.std.specs.Prelude.{IfOk, MatchOption}
use Rattle.std.specs.Global.{Vec}
use Rattle.clap.specs.Words.{Text, found_of}
use Rattle.clap.proofs.WalkLemmas.{first_value-rows}
use Rattle.lrc_options.specs.OptionRules.{AreUntilWordsByOptionRule}
use Rattle.lrc_options.proofs.command_line.command_line_until.Goals as goal

pub returns-in-Some : goal.returns-in-Some
returns-in-Some c =
    subst (λ (o : Option Text). IfOk c.final_words.result (λ r. MatchOption r ((words : List (ℕ × ℕ)) → ¬ AreUntilWordsByOptionRule o words)
    (λ (v : Vec (ℕ × ℕ)). AreUntilWordsByOptionRule o v.items)))
    (c.in-Some.ensures ∙ first_value-rows (found_of c.args.matches.now) (codes "until")) c.final_words.ensures

pub returns-in-None : goal.returns-in-None
returns-in-None c =
    subst (λ (o : Option Text). AreUntilWordsByOptionRule o c.new.result.items)
    (c.in-None.ensures ∙ first_value-rows (found_of c.args.matches.now) (codes "until")) c.new.ensures.items
