use Rattle.std.proofs.Common.{Some, sym, ap, subst, ◌∙◌}
use Rattle.std.proofs.lemmas.Bool.{false≢true}
use Rattle.std.proofs.lemmas.Option.{none-some, same_Some}
use Rattle.journal.specs.DidEvent.{did}
use Rattle.explore.specs.Prefixes.FlatBeginnings.{IsFlatBeginning}
use Rattle.explore.proofs.state.flat_state.FlatState.next.Goals as goal

pub returns-in-Some : goal.returns-in-Some
returns-in-Some c = λ s g lawful knows k.
    let may = c.may_make.ensures s g lawful knows in
    let next = (c.in-Some.ensures s lawful).next g k knows in (
      λ is. subst (λ j. IsFlatBeginning s (did g c.args.processor j)) (same_Some c.in-Some.kind k is) (may.0 c.if-may_make.true),
      λ h. ap Some (next.0 h).1,
    )

pub returns-in_default : goal.returns-in_default
returns-in_default c = λ s g lawful knows k.
    let may = c.may_make.ensures s g lawful knows in
    let next = (c.in-Some.ensures s lawful).next g k knows in (
      λ none. absurd (none-some k none),
      λ h.
          let mine = subst (λ j. IsFlatBeginning s (did g c.args.processor j)) (sym (next.0 h).1) h in
          absurd (false≢true (sym c.if-may_make.false ∙ may.1 mine)),
    )

pub returns-in_default-2 : goal.returns-in_default-2
returns-in_default-2 c = λ s g lawful knows k. (λ none. absurd (none-some k none), λ h. absurd (c.in_default.ensures s lawful g k knows h))
