use Rattle.std.proofs.Common.{None, Some, subst, sym, ap, ◌∙◌}
use Rattle.std.proofs.lemmas.Bool.{eq-eqb, eqb-true}
use Rattle.std.proofs.lemmas.Option.{same_Some}
use Rattle.judge.specs.LastFlatStores.{KeepsLastFlatStore}
use Rattle.judge.proofs.Flattening.{flattened_word}
use Rattle.judge.proofs.flat_memory.FlatMemory.has.Goals as goal

pub returns-in-Some : goal.returns-in-Some
returns-in-Some c = λ j n is lt.
    let a = c.args.address in
    let v = c.args.value in
    let x = c.in-Some.store in
    let word = flattened_word n j a (Some x) lt (subst (KeepsLastFlatStore j a) c.in-Some.is (c.last.ensures j n is lt)) in (
      λ same. word ∙ ap Some (eqb-true x.value v same),
      λ found. eq-eqb x.value v (same_Some x.value v (sym word ∙ found)),
    )

pub returns-in-None : goal.returns-in-None
returns-in-None c = λ j n is lt.
    let a = c.args.address in
    let v = c.args.value in
    let word = flattened_word n j a None lt (subst (KeepsLastFlatStore j a) c.in-None.is (c.last.ensures j n is lt)) in (
      λ same. word ∙ ap Some (sym (eqb-true v 0 same)),
      λ found. eq-eqb v 0 (sym (same_Some 0 v (sym word ∙ found))),
    )
