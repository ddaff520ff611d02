use Rattle.std.proofs.Common.{ap, sym, Some, ◌∙◌}
use Rattle.std.proofs.lemmas.Bool.{eq-eqb, eqb-true, false≢true}
use Rattle.std.proofs.lemmas.Option.{none-some, same_Some}
use Rattle.explore.proofs.state.waits.Waiting.holds.Goals as goal

pub returns-in-Some : goal.returns-in-Some
returns-in-Some c = λ j tells.
    let p = c.args.processor in
    let is = sym c.processor.ensures ∙ c.in-Some.is in
    let q = c.in-Some.holder in
    let tell = tells.holders c.args.lock p in (
      λ same. tell.0 (is ∙ ap Some (eqb-true q p same)),
      λ holds. eq-eqb q p (same_Some q p (sym is ∙ tell.1 holds)),
    )

pub returns-in-None : goal.returns-in-None
returns-in-None c = λ j tells. (
  λ wrong. absurd (false≢true wrong),
  λ holds. absurd (none-some c.args.processor
      (sym (sym c.processor.ensures ∙ c.in-None.is) ∙ (tells.holders c.args.lock c.args.processor).1 holds)),
)
