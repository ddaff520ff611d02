use Rattle.std.proofs.Common.{inl, inr, subst, sym, arith}
use Rattle.std.proofs.lemmas.Bool.{cases_eq}
use Rattle.judge.specs.StoresInPasts.{IsHiddenInPast}
use Rattle.judge.proofs.kept_stores.KeptStores.hidden_in_all_pasts.Goals as goal

pub loop-processor-init : goal.loop-processor-init
loop-processor-init c = λ j tells i v p does lt present. absurd (omega arith)

pub loop-processor-preserved : goal.loop-processor-preserved
loop-processor-preserved c = λ j tells i v p does lt present. elim (cases_eq p c.loop-processor.processor) [
  | inl is ↦ subst (λ r. IsHiddenInPast j r c.args.address i) (sym is) (c.hidden_in_past.ensures j tells i v does (omega arith))
  | inr isnt ↦ c.loop-processor.invariant j tells i v p does (omega arith) (omega arith)
]

pub returns : goal.returns
returns c = λ j tells i v p does lt present.
    let over = c.loop-processor-test.false in
    c.loop-processor.invariant j tells i v p does lt (omega arith)
