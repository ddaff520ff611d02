use Rattle.std.proofs.Common.{◌≡◌, [], ◌∷◌, ◌↔◌, Some, slice_index_or, sym, subst, ◌∙◌, inl, inr, arith}
use Rattle.std.specs.Prelude.{None}
use Rattle.std.proofs.lemmas.Bool.{cases_eq, cases_lt}
use Rattle.std.proofs.lemmas.Option.{none-some}
use Rattle.std.proofs.lemmas.List.{get_or_append_left, get_or_past, get_or_push}
use Rattle.journal.specs.DidEvent.{event}
use Rattle.judge.specs.Why.{WhyWaitsFor}
use Rattle.explore.proofs.state.flat_state.FlatState.waits.Goals as goal

pub loop-processor-preserved : goal.loop-processor-preserved
loop-processor-preserved c =
    let n = c.loop-processor.processor in
    let old = c.loop-processor.invariant in
    let xs = c.loop-processor.waits.items in
    let o = c.of.result in
    let items = c.in_ok-push.ensures.items in
    let many = c.in_ok-push.ensures.len in
    record {
      long = (let was = old.long in omega arith);
      each = λ j tells p k lt.
          subst (λ ys. (slice_index_or ys p None ≡ Some k) ↔ WhyWaitsFor j p k) (sym items)
          (elim (cases_eq p n) [
            | inl is ↦
                subst (λ x. (x ≡ Some k) ↔ WhyWaitsFor j p k) (sym (get_or_push xs o None p (old.long ∙ sym is)))
                (subst (λ q. (o ≡ Some k) ↔ WhyWaitsFor j q k) (sym is) (c.of.ensures j tells k))
            | inr isnt ↦
                (let was = old.long in
                subst (λ x. (x ≡ Some k) ↔ WhyWaitsFor j p k) (sym (get_or_append_left xs (o ∷ []) None p (omega arith)))
                (old.each j tells p k (omega arith)))
          ]);
    }

pub returns-clause-waits : goal.returns-clause-waits
returns-clause-waits c = λ s g many knows p k.
    let xs = c.loop-processor.waits.items in
    let old = c.loop-processor.invariant in
    let long = old.long in
    let over = c.loop-processor-test.false in
    elim (cases_lt p c.loop-processor.processor) [
      | inl lt ↦ old.each g knows.waiting p k lt
      | inr past ↦ (
        λ is. absurd (none-some k (sym (get_or_past xs p None (omega arith)) ∙ is)),
        λ waits.
            let lt = (knows.beginning.well_formed waits.place (event p waits.kind) waits.last.does).processor in
            let end = c.loop-processor.auto.processor-end in
            absurd (omega arith),
      )
    ]
