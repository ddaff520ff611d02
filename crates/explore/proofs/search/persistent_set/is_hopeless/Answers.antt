use Rattle.std.proofs.Common.{inl, inr, ap, length, refl, sym, subst, ◌∙◌, arith}
use Rattle.std.specs.Prelude.{None, is_some, slice_index_or}
use Rattle.std.proofs.lemmas.Bool.{cases_eq, cases_lt, false≢true}
use Rattle.explore.specs.PersistentSets.{PersistentMember}
use Rattle.explore.specs.PersistentSets.PersistentMember.{absent}
use Rattle.explore.proofs.Persistence.{persistence_everybody, persistence_member}
use Rattle.explore.proofs.search.persistent_set.is_hopeless.Goals as goal

pub loop-processor-init : goal.loop-processor-init
loop-processor-init c = record {
  everybody = λ p lt. persistence_everybody 16 p lt;
  settled = λ s g given p lt. absurd (omega arith);
  none = λ s g given members p lock lt. absurd (omega arith);
}

pub loop-processor-preserved : goal.loop-processor-preserved
loop-processor-preserved c =
    let old = c.loop-processor.invariant in
    let n = c.loop-processor.processor in
    record {
      everybody = λ p lt. c.settle.ensures.keeps p (old.everybody p lt);
      settled = λ s g given p lt. elim (cases_eq p n) [
        | inl is ↦
            subst (λ q. PersistentMember c.args.steps.now g c.args.nexts.now c.settle.new.members q) (sym is)
            (c.settle.ensures.settled c.if-not-settle.false s g c.args.nexts.now refl given)
        | inr isnt ↦
            persistence_member c.args.steps.now g c.args.nexts.now c.loop-processor.members c.settle.new.members c.settle.ensures.keeps p
            (old.settled s g given p (omega arith))
      ];
      none = λ s g given members p lock lt ask. elim (cases_eq p n) [
        | inl is ↦
            (let next = ap (λ q. slice_index_or c.args.nexts.now q None) (sym is) ∙ ask.next in
            let found = (c.free_lock_asked.ensures g given.knows.waiting lock).1 (next, ask.free) in
            absurd (false≢true (sym c.if-is_some.false ∙ c.is_some.ensures ∙ ap is_some found)))
        | inr isnt ↦ old.none s g given members p lock (omega arith) ask
      ];
    }

pub returns : goal.returns
returns c = λ yes s g given.
    let old = c.loop-processor.invariant in
    let over = c.loop-processor-test.false in
    let few = c.requires.processors in
    record {
      members = c.loop-processor.members;
      everybody = λ p lt. old.everybody p (omega (arith, lt, few));
      set = λ p member. elim (cases_lt p (length c.args.steps.now)) [
        | inl lt ↦ old.settled s g given p (omega (arith, lt, over))
        | inr past ↦ absent past
      ];
      none = λ p lock lt ask. old.none s g given c.loop-processor.members p lock (omega (arith, lt, over)) ask;
    }
