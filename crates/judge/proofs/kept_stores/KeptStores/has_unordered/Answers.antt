use Rattle.std.proofs.Common.{inl, inr, sym, refl, ◌∙◌, arith}
use Rattle.std.proofs.lemmas.Bool.{cases_eq, false≢true}
use Rattle.journal.specs.declared.event.Kind.TheVariants.{Store}
use Rattle.journal.specs.DidEvent.{event}
use Rattle.judge.proofs.kept_stores.AnsweringKept.{answering_kept_has_value, answering_kept_of_value}
use Rattle.judge.proofs.sources.Answering.{answering_store_shorter}
use Rattle.judge.proofs.kept_stores.KeptStores.has_unordered.Goals as goal

pub loop-by-init : goal.loop-by-init
loop-by-init c = λ j tells x lt. absurd (omega arith)

pub returns-then-has_kept_store_of : goal.returns-then-has_kept_store_of
returns-then-has_kept_store_of c = λ j tells. (
  λ yes_is. answering_kept_of_value j c.args.processor c.args.address c.args.value c.loop-by.by c.unknown_by-from.result.1
      c.unknown_by-from.result.0.now (c.unknown_by-from.ensures j tells) (c.if-has_kept_store_of.ensures.0 refl),
  λ x. refl,
)

pub loop-by-preserved : goal.loop-by-preserved
loop-by-preserved c = λ j tells x lt. elim (cases_eq x.by c.loop-by.by) [
  | inl is ↦
      (let some = answering_kept_has_value j c.args.processor c.args.address c.args.value c.loop-by.by c.unknown_by-from.result.1
      c.unknown_by-from.result.0.now (c.unknown_by-from.ensures j tells) x is in
      false≢true (sym c.if-has_kept_store_of.false ∙ c.has_kept_store_of.ensures.1 some))
  | inr isnt ↦ c.loop-by.invariant j tells x (omega arith)
]

pub returns : goal.returns
returns c = λ j tells. (
  λ wrong. absurd (false≢true wrong),
  λ x. (let old = answering_store_shorter j c.args.processor c.args.address c.args.value x.place x.by c.args.address c.args.value
      x.stores in
      let lt = tells.processors x.place (event x.by (Store c.args.address c.args.value)) old in
      let over = c.loop-by-test.false in
      absurd (c.loop-by.invariant j tells x (omega arith))),
)
