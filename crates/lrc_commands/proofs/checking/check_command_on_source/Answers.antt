use Rattle.std.proofs.Common.{ap, ◌∙◌}
use Rattle.lrc_check.specs.declared.checked.Rules.{Rules}
use Rattle.lrc_commands.proofs.JudgedSources.{judged_source_answered_by}
use Rattle.lrc_commands.proofs.checking.check_command_on_source.Goals as goal

pub returns-clause-judged : goal.returns-clause-judged
returns-clause-judged g c =
    judged_source_answered_by c.new-stream.result.rules _ _ _ _ _
    (ap (λ (r : Rules). r.model) c.new-stream.ensures.rules ∙ c.check_command_rules.ensures.model)
    (ap (λ (r : Rules). r.lax) c.new-stream.ensures.rules ∙ c.check_command_rules.ensures.lax)
    c.check_command_judges_and_tells-judged.ensures.judged
