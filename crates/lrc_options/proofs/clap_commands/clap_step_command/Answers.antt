use Rattle.std.proofs.Common.{codes}
use Rattle.clap.specs.declared.builder.value_parser.ValueParser.TheVariants as vp
use Rattle.lrc_options.specs.OptionRules.{flagged_option_rules, journal_option_rule, seed_option_rule}
use Rattle.lrc_options.proofs.MatchedOptions.{matched_option_own_rule, matched_option_with_rule}
use Rattle.lrc_options.proofs.clap_commands.clap_step_command.Goals as goal

pub returns : goal.returns
returns c =
    let locks = vp.Names c.args.locks in
    let flagged = flagged_option_rules (codes "step") seed_option_rule locks journal_option_rule in
    matched_option_with_rule _ flagged _ _ c.clap_schedule_arg.ensures.rule (c.with_clap_arg.ensures flagged
    (matched_option_own_rule _ (codes "step") _ seed_option_rule locks journal_option_rule c.clap_seed_arg-own.ensures.rule
    c.clap_flagged_command-command.ensures))
