use Rattle.std.proofs.Common.{◌≡◌, ◌∙◌, inl, sym, ap, subst, map, rules, string_bytes}
use Rattle.clap.specs.Words.{App, HasKind, fault_of, found_of, is_simple, is_simple_and_free, rows_of, subcommand_of, subcommand_rows_of}
use Rattle.clap.specs.declared.builder.value_parser.ValueParser.TheVariants as vp
use Rattle.lrc_options.specs.ScriptWords.{AreLockNames, script_word_rules}
use Rattle.std.proofs.lemmas.Result.{err_from_is_err_and}
use Rattle.lrc_options.proofs.AskedScripts.{script_options_given_by, script_options_out_of_memory, script_options_refused_by}
use Rattle.lrc_options.proofs.MatchedOptions.{matched_option_if_err_map, matched_option_is_fault, matched_option_named_rows, matched_option_no_fault, matched_option_fault_same_kind}
use Rattle.lrc_options.proofs.script_words.script_options.Goals as goal

-- what is read of the command that is given
pub returns-in-Some-clause-given : goal.returns-in-Some-clause-given
returns-in-Some-clause-given c =
    let app = c.in_ok-clap_scripts_command.ensures.command.shape in
    let words = map (λ w. string_bytes w) c.args.words.now in
    let are : AreLockNames (vp.Names c.as_slice.result) = search rules in
    let entered : subcommand_rows_of c.in-Ok.matches ≡ subcommand_of (script_word_rules (vp.Names c.as_slice.result)) words =
    (c.in-Ok.ensures.matches (ap is_simple app)).1 ∙ ap (λ (a : App). subcommand_of a words) app in
    let faults = matched_option_no_fault _ _ _ c.in-Ok.is (c.try_get_matches_from.ensures.kinds (ap is_simple_and_free app)) in
    script_options_given_by (vp.Names c.as_slice.result) words c.in-Some.name.now (rows_of (found_of c.in-Some.given.now)) c.script_words_answer.result
    are (sym (ap (λ (a : App). fault_of a words) app) ∙ faults)
    (sym entered ∙ matched_option_named_rows _ _ _ _ _ c.in-Some.ensures.name c.in-Some.ensures.rows) c.script_words_answer.ensures.apart
    c.script_words_answer.ensures.asked

pub returns-in-Some-clause-refused : goal.returns-in-Some-clause-refused
returns-in-Some-clause-refused c =
    let app = c.in_ok-clap_scripts_command.ensures.command.shape in
    let words = map (λ w. string_bytes w) c.args.words.now in
    let are : AreLockNames (vp.Names c.as_slice.result) = search rules in
    let entered : subcommand_rows_of c.in-Ok.matches ≡ subcommand_of (script_word_rules (vp.Names c.as_slice.result)) words =
    (c.in-Ok.ensures.matches (ap is_simple app)).1 ∙ ap (λ (a : App). subcommand_of a words) app in
    let command = sym entered ∙ matched_option_named_rows _ _ _ _ _ c.in-Some.ensures.name c.in-Some.ensures.rows in
    matched_option_if_err_map c.script_words_answer.result (λ e unanswered. script_options_refused_by (vp.Names c.as_slice.result) words c.in-Some.name.now
    (rows_of (found_of c.in-Some.given.now)) e are command unanswered) c.script_words_answer.ensures.unanswered

pub returns-in_err-clap_scripts_command-clause-refused : goal.returns-in_err-clap_scripts_command-clause-refused
returns-in_err-clap_scripts_command-clause-refused c =
    let answer = err_from_is_err_and c.from_residual.result c.from_residual.ensures.1 in
    rw answer.1 (script_options_out_of_memory (vp.Names c.as_slice.result) _ _ (search rules) answer.2)

pub returns-in_ok-with_misuse_tip-in-Err-clause-refused : goal.returns-in_ok-with_misuse_tip-in-Err-clause-refused
returns-in_ok-with_misuse_tip-in-Err-clause-refused c =
    let words = map (λ w. string_bytes w) c.args.words.now in
    let app = c.in_ok-clap_scripts_command.ensures.command.shape in
    let fault = c.in-Err.fault in
    let fails = matched_option_is_fault _ _ fault c.in-Err.is (c.try_get_matches_from.ensures.kinds (ap is_simple_and_free app)) in
    record {
      locks = vp.Names c.as_slice.result;
      locks_are = search rules;
      kind = inl (matched_option_fault_same_kind _ fault c.in_ok-with_misuse_tip-in-Err.field-0 c.in_ok-with_misuse_tip-in-Err.ensures
          (subst (λ (a : App). HasKind (fault_of a words) fault) app fails));
    }

pub returns-in_err-with_misuse_tip-in-Err-clause-refused : goal.returns-in_err-with_misuse_tip-in-Err-clause-refused
returns-in_err-with_misuse_tip-in-Err-clause-refused c =
    let answer =
    err_from_is_err_and c.from_residual-in_err-with_misuse_tip-in-Err.result
    c.from_residual-in_err-with_misuse_tip-in-Err.ensures.1 in
    rw answer.1 (script_options_out_of_memory (vp.Names c.as_slice.result) _ _ (search rules) answer.2)
