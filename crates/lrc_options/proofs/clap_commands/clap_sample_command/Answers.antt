use Rattle.std.proofs.Common.{subst, codes}
use Rattle.std.specs.Prelude.{IfOk}
use Rattle.clap.specs.Words.{Rule, with_rule}
use Rattle.clap.specs.declared.builder.value_parser.ValueParser.TheVariants as vp
use Rattle.lrc_options.specs.OptionRules.{IsCommandByOptionRules, jobs_option_rule, outcomes_option_rule, script_option_rules, seeds_option_rule}
use Rattle.lrc_options.proofs.MatchedOptions.{matched_option_with_rule}
use Rattle.lrc_options.proofs.clap_commands.clap_sample_command.Goals as goal

pub returns : goal.returns
returns c =
    let locks = vp.Names c.args.locks in
    let script = script_option_rules (codes "sample") seeds_option_rule locks in
    let outcomes = with_rule script (outcomes_option_rule (vp.Names c.args.details)) in
    let one = subst (λ (x : Rule). IfOk c.clap_script_command-command.result (IsCommandByOptionRules (script_option_rules (codes "sample") x locks)))
    c.clap_seeds_arg-own.ensures.rule c.clap_script_command-command.ensures in
    let two = matched_option_with_rule _ script _ _ c.clap_outcomes_arg.ensures.rule (c.with_clap_arg-command.ensures script one) in
    let jobs = with_rule outcomes jobs_option_rule in
    let three = matched_option_with_rule _ outcomes _ _ c.clap_number_arg.ensures.rule (c.with_clap_arg-command-2.ensures outcomes two) in
    matched_option_with_rule _ jobs _ _ c.clap_flag_arg.ensures.rule (c.with_clap_arg.ensures jobs three)
