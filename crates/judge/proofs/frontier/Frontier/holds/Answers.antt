use Rattle.std.proofs.Common.{Some, sym, ap, ◌∙◌, arith}
use Rattle.std.specs.Prelude.{None}
use Rattle.std.proofs.lemmas.Bool.{eq-eqb, eqb-true, false≢true}
use Rattle.std.proofs.lemmas.Option.{none-some, same_Some}
use Rattle.judge.proofs.VecItems.{vec_item_read}
use Rattle.judge.proofs.frontier.Frontier.holds.Goals as goal

pub returns-in-Some : goal.returns-in-Some
returns-in-Some c = λ j tells.
    let p = c.args.processor in
    let is = vec_item_read c.args.self.now.holders.items c.args.lock c.index.result.now None
    (let lt = c.requires in omega (arith, c.args.self.now.holders.ok.0)) c.index.ensures ∙ c.in-Some.is in
    let tell = tells.holders c.args.lock p in (
      λ same. tell.0 (is ∙ ap Some (eqb-true c.in-Some.holder p same)),
      λ holds. eq-eqb c.in-Some.holder p (same_Some c.in-Some.holder p (sym is ∙ tell.1 holds)),
    )

pub returns-in-None : goal.returns-in-None
returns-in-None c = λ j tells. (
  λ wrong. absurd (false≢true wrong),
  λ holds. absurd (none-some c.args.processor
      (sym (vec_item_read c.args.self.now.holders.items c.args.lock c.index.result.now None
      (let lt = c.requires in omega (arith, c.args.self.now.holders.ok.0)) c.index.ensures ∙ c.in-None.is)
      ∙ (tells.holders c.args.lock c.args.processor).1 holds)),
)
