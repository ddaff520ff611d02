use Rattle.std.proofs.Common.{ap}
use Rattle.clap.specs.Words.{App}
use Rattle.lrc_options.proofs.MatchedOptions.{matched_option_if_ok_map}
use Rattle.lrc_options.proofs.clap_commands.clap_lrc_command.Goals as goal

pub returns-clause-command : goal.returns-clause-command
returns-clause-command c =
    let run = c.with_clap_subcommand-lrc.ensures _ _ c.clap_bare_command.ensures c.clap_run_command.ensures in
    let step = c.with_clap_subcommand-lrc-2.ensures _ _ run c.clap_step_command.ensures in
    let explain = c.with_clap_subcommand-lrc-3.ensures _ _ step c.clap_explain_command.ensures in
    let sample = c.with_clap_subcommand-lrc-4.ensures _ _ explain c.clap_sample_command.ensures in
    let explore = c.with_clap_subcommand-lrc-5.ensures _ _ sample c.clap_explore_command.ensures in
    let check = c.with_clap_subcommand-lrc-6.ensures _ _ explore c.clap_check_command.ensures in
    let draw = c.with_clap_subcommand-lrc-7.ensures _ _ check c.clap_draw_command.ensures in
    let follows = c.with_clap_subcommand-lrc-8.ensures _ _ draw c.clap_follows_command.ensures in
    c.with_clap_subcommand.ensures _ _ follows c.clap_pages_command.ensures

pub returns-clause-wants : goal.returns-clause-wants
returns-clause-wants c =
    matched_option_if_ok_map c.with_clap_subcommand.result (λ made is. ap (λ (a : App). a.top.subcommand_required) is.shape)
    (returns-clause-command c)
