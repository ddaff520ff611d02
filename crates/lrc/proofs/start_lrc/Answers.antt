use Rattle.std.proofs.Common.{◌≡◌, ◌<◌, ℕ, List, subst, arith, rules}
use Rattle.lrc_options.specs.OptionRules.{AreOptionsAskedByRules, AreOptionsGivenByRules}
use Rattle.lrc_options.specs.declared.options.Asked.{Asked}
use Rattle.lrc_options.specs.declared.options.Asked.TheVariants.{Script}
use Rattle.lrc_options.specs.declared.options.Options.{Options}
use Rattle.lrc.proofs.start_lrc.Goals as goal

-- a run has some tries
tries_given : {words : List (List ℕ)} (asked : Asked) → AreOptionsGivenByRules words asked → (o : Options) → asked ≡ Script o → 0 < o.tries
tries_given asked given o is =
    let script = subst (AreOptionsAskedByRules given.name given.rows) is given.asked in
    omega (arith, script.7.tries.least_is)

pub study_file-requires : goal.study_file-requires
study_file-requires g c = (search rules, tries_given c.in-Ok.asked c.in-Ok.ensures.given)
