use Rattle.std.proofs.Common.{◌≡◌, ◌↔◌, Some, slice_index_or, slice_set, get_or-set_same, get_or-set_other, sym, subst, ◌∙◌, inl, inr, arith}
use Rattle.std.specs.Prelude.{None}
use Rattle.std.proofs.Math.ListN.{length-set}
use Rattle.std.proofs.lemmas.Bool.{cases_eq, cases_lt}
use Rattle.std.proofs.lemmas.Option.{none-some}
use Rattle.journal.specs.DidEvent.{did}
use Rattle.explore.specs.Prefixes.FlatBeginnings.{IsFlatBeginning}
use Rattle.explore.proofs.MachineSteps.{machine_step_next_within, machine_step_rows_few, machine_step_rows_many}
use Rattle.explore.proofs.search.neighbours.neighbour_nexts_of.Goals as goal

pub loop-processor-preserved : goal.loop-processor-preserved
loop-processor-preserved c =
    let n = c.loop-processor.processor in
    let xs = c.loop-processor.nexts in
    let o = c.next.result in
    let old = c.loop-processor.invariant in
    let long = old.long in
    let few = machine_step_rows_few c.requires.plan c.args.steps.now c.requires.lawful in
    let lt = c.loop-processor-test.true in
    record {
      long = length-set xs n o ∙ old.long;
      each = λ s g p k lawful knows less. elim (cases_eq p n) [
        | inl is ↦
            subst (λ q. (slice_index_or (slice_set xs n o) q None ≡ Some k) ↔ IsFlatBeginning s (did g q k)) (sym is)
            (subst (λ x. (x ≡ Some k) ↔ IsFlatBeginning s (did g n k)) (sym (get_or-set_same xs n o None (omega arith)))
            (c.next.ensures s g lawful knows k))
        | inr isnt ↦
            subst (λ x. (x ≡ Some k) ↔ IsFlatBeginning s (did g p k)) (sym (get_or-set_other xs n p o None isnt))
            (old.each s g p k lawful knows (omega arith))
      ];
      others = λ p le. get_or-set_other xs n p o None (omega arith) ∙ old.others p (omega arith);
    }

pub returns-clause-long : goal.returns-clause-long
returns-clause-long c = c.loop-processor.invariant.long

pub returns-clause-nexts : goal.returns-clause-nexts
returns-clause-nexts c = λ s lawful g knows p k.
    let old = c.loop-processor.invariant in
    elim (cases_lt p c.loop-processor.processor) [
      | inl lt ↦ old.each s g p k lawful knows lt
      | inr past ↦ (
        λ is. absurd (none-some k (sym (old.others p past) ∙ is)),
        λ h.
            let within = machine_step_next_within s g p k h in
            let many = machine_step_rows_many s c.args.steps.now lawful in
            let over = c.loop-processor-test.false in
            absurd (omega arith),
      )
    ]
