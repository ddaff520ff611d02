use Rattle.std.proofs.Common.{◌≡◌, ◌∙◌, inl, sym, ap, subst, map, rules, string_bytes}
use Rattle.clap.specs.Words.{App, HasKind, fault_of, found_of, is_simple, is_simple_and_free, rows_of, subcommand_of, subcommand_rows_of}
use Rattle.clap.specs.declared.builder.value_parser.ValueParser.TheVariants as vp
use Rattle.lrc_options.specs.OptionRules.{AreOptionParsers, lrc_option_rules, option_parsers}
use Rattle.std.proofs.lemmas.Result.{err_from_is_err_and}
use Rattle.lrc_options.proofs.MatchedOptions.{matched_options_given_by, matched_option_if_err_map, matched_option_is_fault, matched_option_named_rows, matched_option_no_fault, matched_options_out_of_memory, matched_options_refused_by, matched_option_fault_same_kind}
use Rattle.lrc_options.proofs.command_line.options.Goals as goal

-- what is read of the command that is given
pub returns-in-Some-clause-given : goal.returns-in-Some-clause-given
returns-in-Some-clause-given c =
    let app = c.in_ok-clap_lrc_command.ensures.command.shape in
    let words = map (λ w. string_bytes w) c.args.words.now in
    let are : AreOptionParsers (option_parsers (vp.Names c.as_slice.result) (vp.Names c.as_slice-2.result) (vp.Names c.as_slice-3.result) (vp.Names c.as_slice-4.result) (vp.Names c.as_slice-5.result)) =
    record { locks = search rules; models = search rules; words = search rules; details = search rules; patterns = search rules } in
    let entered : subcommand_rows_of c.in-Ok.matches ≡ subcommand_of (lrc_option_rules (option_parsers (vp.Names c.as_slice.result) (vp.Names c.as_slice-2.result) (vp.Names c.as_slice-3.result) (vp.Names c.as_slice-4.result) (vp.Names c.as_slice-5.result))) words =
    (c.in-Ok.ensures.matches (ap is_simple app)).1 ∙ ap (λ (a : App). subcommand_of a words) app in
    let faults = matched_option_no_fault _ _ _ c.in-Ok.is (c.try_get_matches_from.ensures.kinds (ap is_simple_and_free app)) in
    matched_options_given_by (option_parsers (vp.Names c.as_slice.result) (vp.Names c.as_slice-2.result) (vp.Names c.as_slice-3.result) (vp.Names c.as_slice-4.result) (vp.Names c.as_slice-5.result)) words c.in-Some.name.now (rows_of (found_of c.in-Some.given.now)) c.command_line_answer.result
    are (sym (ap (λ (a : App). fault_of a words) app) ∙ faults)
    (sym entered ∙ matched_option_named_rows _ _ _ _ _ c.in-Some.ensures.name c.in-Some.ensures.rows) c.command_line_answer.ensures.apart
    c.command_line_answer.ensures.asked

pub returns-in-Some-clause-refused : goal.returns-in-Some-clause-refused
returns-in-Some-clause-refused c =
    let app = c.in_ok-clap_lrc_command.ensures.command.shape in
    let words = map (λ w. string_bytes w) c.args.words.now in
    let are : AreOptionParsers (option_parsers (vp.Names c.as_slice.result) (vp.Names c.as_slice-2.result) (vp.Names c.as_slice-3.result) (vp.Names c.as_slice-4.result) (vp.Names c.as_slice-5.result)) =
    record { locks = search rules; models = search rules; words = search rules; details = search rules; patterns = search rules } in
    let entered : subcommand_rows_of c.in-Ok.matches ≡ subcommand_of (lrc_option_rules (option_parsers (vp.Names c.as_slice.result) (vp.Names c.as_slice-2.result) (vp.Names c.as_slice-3.result) (vp.Names c.as_slice-4.result) (vp.Names c.as_slice-5.result))) words =
    (c.in-Ok.ensures.matches (ap is_simple app)).1 ∙ ap (λ (a : App). subcommand_of a words) app in
    let command = sym entered ∙ matched_option_named_rows _ _ _ _ _ c.in-Some.ensures.name c.in-Some.ensures.rows in
    matched_option_if_err_map c.command_line_answer.result (λ e unanswered. matched_options_refused_by (option_parsers (vp.Names c.as_slice.result) (vp.Names c.as_slice-2.result) (vp.Names c.as_slice-3.result) (vp.Names c.as_slice-4.result) (vp.Names c.as_slice-5.result)) words c.in-Some.name.now
    (rows_of (found_of c.in-Some.given.now)) e are command unanswered) c.command_line_answer.ensures.unanswered

pub returns-in_err-clap_lrc_command-clause-refused : goal.returns-in_err-clap_lrc_command-clause-refused
returns-in_err-clap_lrc_command-clause-refused c =
    let answer = err_from_is_err_and c.from_residual.result c.from_residual.ensures.1 in
    rw answer.1 (matched_options_out_of_memory (option_parsers (vp.Names c.as_slice.result) (vp.Names c.as_slice-2.result) (vp.Names c.as_slice-3.result) (vp.Names c.as_slice-4.result) (vp.Names c.as_slice-5.result)) _ _
    (record { locks = search rules; models = search rules; words = search rules; details = search rules; patterns = search rules }) answer.2)

pub returns-in_ok-with_misuse_tip-in-Err-clause-refused : goal.returns-in_ok-with_misuse_tip-in-Err-clause-refused
returns-in_ok-with_misuse_tip-in-Err-clause-refused c =
    let words = map (λ w. string_bytes w) c.args.words.now in
    let app = c.in_ok-clap_lrc_command.ensures.command.shape in
    let fault = c.in-Err.fault in
    let fails = matched_option_is_fault _ _ fault c.in-Err.is (c.try_get_matches_from.ensures.kinds (ap is_simple_and_free app)) in
    record {
      parsers = option_parsers (vp.Names c.as_slice.result) (vp.Names c.as_slice-2.result) (vp.Names c.as_slice-3.result) (vp.Names c.as_slice-4.result) (vp.Names c.as_slice-5.result);
      parsers_are = record { locks = search rules; models = search rules; words = search rules; details = search rules; patterns = search rules };
      kind = inl (matched_option_fault_same_kind _ fault c.in_ok-with_misuse_tip-in-Err.field-0 c.in_ok-with_misuse_tip-in-Err.ensures
          (subst (λ (a : App). HasKind (fault_of a words) fault) app fails));
    }

pub returns-in_err-with_misuse_tip-in-Err-clause-refused : goal.returns-in_err-with_misuse_tip-in-Err-clause-refused
returns-in_err-with_misuse_tip-in-Err-clause-refused c =
    let answer =
    err_from_is_err_and c.from_residual-in_err-with_misuse_tip-in-Err.result
    c.from_residual-in_err-with_misuse_tip-in-Err.ensures.1 in
    rw answer.1 (matched_options_out_of_memory (option_parsers (vp.Names c.as_slice.result) (vp.Names c.as_slice-2.result) (vp.Names c.as_slice-3.result) (vp.Names c.as_slice-4.result) (vp.Names c.as_slice-5.result)) _ _
    (record { locks = search rules; models = search rules; words = search rules; details = search rules; patterns = search rules }) answer.2)
