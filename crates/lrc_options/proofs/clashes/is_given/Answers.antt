use Rattle.std.proofs.Common.{◌∙◌, ap, sym}
use Rattle.std.specs.Prelude.{is_some}
use Rattle.clap.specs.Words.{found_of}
use Rattle.clap.proofs.WalkLemmas.{first_value-rows}
use Rattle.lrc_options.proofs.MatchedOptions.{matched_option_is_some_map}
use Rattle.lrc_options.proofs.clashes.is_given.Goals as goal

pub returns : goal.returns
returns c = c.is_some.ensures ∙ sym (matched_option_is_some_map (λ s. s.now) c.get_str.result)
    ∙ ap is_some (c.get_str.ensures ∙ first_value-rows (found_of c.args.matches.now) c.args.id.now)
