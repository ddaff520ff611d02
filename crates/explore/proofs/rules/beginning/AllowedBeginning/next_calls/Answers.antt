use Rattle.std.proofs.Common.{◌≡◌, ◌↔◌, Some, slice_index_or, slice_set, get_or-set_same, get_or-set_other, sym, subst, ◌∙◌, inl, inr, arith}
use Rattle.std.specs.Prelude.{None}
use Rattle.std.proofs.Math.ListN.{length-set}
use Rattle.std.proofs.lemmas.Bool.{cases_eq, cases_lt}
use Rattle.std.proofs.lemmas.Option.{none-some}
use Rattle.explore.specs.AllowedBeginnings.{AllowedBeginningMayCall, allowed_beginning_events}
use Rattle.explore.specs.Prefixes.ScriptCalls.{replyless_script_call}
use Rattle.explore.proofs.MachineSteps.{machine_step_rows_few, machine_step_rows_many}
use Rattle.explore.proofs.rules.beginning.AllowedBeginning.next_calls.Goals as goal

pub loop-processor-preserved : goal.loop-processor-preserved
loop-processor-preserved c =
    let n = c.loop-processor.processor in
    let xs = c.loop-processor.calls in
    let o = c.next_call.result in
    let old = c.loop-processor.invariant in
    let long = old.long in
    let few = machine_step_rows_few c.requires.told.0 c.args.steps.now c.requires.told.1 in
    let lt = c.loop-processor-test.true in
    let g = allowed_beginning_events c.args.self.now in
    record {
      long = length-set xs n o ∙ old.long;
      each = λ s p k lawful tells less. elim (cases_eq p n) [
        | inl is ↦
            subst (λ q. (slice_index_or (slice_set xs n o) q None ≡ Some (replyless_script_call k)) ↔ AllowedBeginningMayCall s g q k) (sym is)
            (subst (λ x. (x ≡ Some (replyless_script_call k)) ↔ AllowedBeginningMayCall s g n k) (sym (get_or-set_same xs n o None (omega arith)))
            (c.next_call.ensures.call s lawful tells k))
        | inr isnt ↦
            subst (λ x. (x ≡ Some (replyless_script_call k)) ↔ AllowedBeginningMayCall s g p k) (sym (get_or-set_other xs n p o None isnt))
            (old.each s p k lawful tells (omega arith))
      ];
      plain = λ p call at. elim (cases_eq p n) [
        | inl is ↦
            c.next_call.ensures.plain call
            (sym (get_or-set_same xs n o None (omega arith))
            ∙ subst (λ q. slice_index_or (slice_set xs n o) q None ≡ Some call) is at)
        | inr isnt ↦ old.plain p call (sym (get_or-set_other xs n p o None isnt) ∙ at)
      ];
      others = λ p le. get_or-set_other xs n p o None (omega arith) ∙ old.others p (omega arith);
    }

pub returns-clause-calls : goal.returns-clause-calls
returns-clause-calls c = λ s lawful tells p k.
    let old = c.loop-processor.invariant in
    elim (cases_lt p c.loop-processor.processor) [
      | inl lt ↦ old.each s p k lawful tells lt
      | inr past ↦ (
        λ is. absurd (none-some (replyless_script_call k) (sym (old.others p past) ∙ is)),
        λ h.
            let within = h.may_follow.processor in
            let many = machine_step_rows_many s c.args.steps.now lawful in
            let over = c.loop-processor-test.false in
            absurd (omega arith),
      )
    ]
