use Rattle.std.proofs.Common.{inl, inr, sym, ap, ◌∙◌, slice_get, arith}
use Rattle.std.proofs.lemmas.Bool.{cases_eq}
use Rattle.std.proofs.lemmas.Option.{none-some}
use Rattle.journal.specs.declared.event.Kind.TheVariants.{Store}
use Rattle.journal.specs.DidEvent.{event}
use Rattle.judge.specs.declared.flat_memory.FlatStore.{FlatStore}
use Rattle.judge.proofs.kept_stores.AnsweringKept.{answering_kept_unknown, answering_kept_unordered}
use Rattle.judge.proofs.sources.Answering.{answering_store_shorter}
use Rattle.judge.proofs.kept_stores.KeptStores.unordered.Goals as goal

pub loop-by-init : goal.loop-by-init
loop-by-init c = λ j tells w x. (
  λ h. absurd (none-some x (sym (ap (λ xs. slice_get xs h.0) c.new-found.ensures.items) ∙ h.1)),
  λ u. (let lt = u.1 in absurd (omega arith)),
)

pub loop-by-preserved : goal.loop-by-preserved
loop-by-preserved c = λ j tells w x.
    let p = c.args.processor in
    let a = c.args.address in
    let n = c.loop-by.by in
    let old = c.loop-by.invariant j tells w x in
    let are = c.unknown_by-from.ensures j tells in
    let added = c.in_ok-add_kept_stores.ensures x in
    let stores = c.unknown_by-from.result.0.now in
    let from = c.unknown_by-from.result.1 in (
      λ h. elim (added.0 h) [
        | inl was ↦ (let u = old.0 was in (u.0, (let lt = u.1 in omega arith)))
        | inr new ↦
            (let by = ap (λ (y : FlatStore). y.by) new.is in
            (answering_kept_unknown j p a w n from stores x are new, omega arith))
      ],
      λ u. elim (cases_eq x.by n) [
        | inl is ↦ added.1 (inr (answering_kept_unordered j p a w n from stores x are u.0 is))
        | inr isnt ↦ added.1 (inl (old.1 (u.0, (let lt = u.1 in omega arith))))
      ],
    )

pub returns : goal.returns
returns c = λ j tells w x.
    let over = c.loop-by-test.false in
    let has = c.loop-by.invariant j tells w x in (
      λ h. (has.0 h).0,
      λ u. has.1 (
        u,
        (let old = answering_store_shorter j c.args.processor c.args.address w x.place x.by c.args.address x.value u.stores in
            let lt = tells.processors x.place (event x.by (Store c.args.address x.value)) old in
            omega arith),
      ),
    )
