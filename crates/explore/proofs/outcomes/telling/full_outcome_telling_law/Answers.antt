use Rattle.std.proofs.Common.{Some, refl, sym, ap, ◌∙◌}
use Rattle.conformance.specs.Follows.{calls_of}
use Rattle.explore.specs.declared.outcomes.telling.Detail.TheVariants as detail
use Rattle.explore.specs.OutcomeTelling.{outcome_telling_of_script, outcome_telling_steps}
use Rattle.explore.proofs.ToldReplies.{told_replies_full}
use Rattle.explore.proofs.outcomes.telling.full_outcome_telling_law.Goals as goal

pub returns : goal.returns
returns c = λ s g replies.
    let t = outcome_telling_of_script s detail.All in (
      λ told. record {
        long = told.long;
        each = λ p lt. told.each p lt ∙ ap Some (told_replies_full t p (outcome_telling_steps s p) 0 (calls_of g p) refl);
      },
      λ are. record {
        long = are.long;
        each = λ p lt. are.each p lt ∙ ap Some (sym (told_replies_full t p (outcome_telling_steps s p) 0 (calls_of g p) refl));
      },
    )
