use Rattle.std.proofs.Common.{ℕ, ◌++◌, ◌∷◌, [], List, map, sym, ap, ◌∙◌, arith}
use Rattle.std.proofs.lemmas.List.{map-append}
use Rattle.std.proofs.lemmas.Option.{same_Some}
use Rattle.journal.specs.declared.event.Event.{Event}
use Rattle.journal.specs.DidEvent.{event}
use Rattle.explore.specs.declared.state.wait_code.ProcessorNumber.{ProcessorNumber}
use Rattle.explore.proofs.MachineSteps.{machine_step_next_within, machine_step_rows_few, machine_step_rows_many}
use Rattle.explore.proofs.search.whole_run.RunSoFar.step.Goals as goal

pub of-requires : goal.of-requires
of-requires c =
    let may = c.requires in
    let few = machine_step_rows_few may.plan c.args.steps.now may.lawful in
    let many = machine_step_rows_many may.plan c.args.steps.now may.lawful in
    let within = machine_step_next_within may.plan may.events c.args.processor c.args.kind may.next in
    omega (arith, few, many, within)

pub returns-clause-through : goal.returns-clause-through
returns-clause-through c = λ s g lawful through next.
    let number = λ (n : ProcessorNumber). n.0 in
    let maker = λ (e : Event). e.processor in
    let old = c.args.self.now.makers.items in
    let p = c.args.processor in
    record {
      knows = c.in_ok-step.ensures.knows s g lawful through.knows next;
      events = c.in_ok-push-2.ensures.items ∙ ap (λ (xs : List Event). xs ++ event p c.args.kind ∷ []) through.events;
      makers =
          ap (map number) c.in_ok-push.ensures.items
          ∙ map-append number old (c.of.result ∷ [])
          ∙ ap (λ (xs : List ℕ). xs ++ c.of.result.0 ∷ []) through.makers
          ∙ ap (λ (q : ℕ). map maker g ++ q ∷ []) (same_Some c.of.result.0 p c.of.ensures)
          ∙ sym (map-append maker g (event p c.args.kind ∷ []));
    }
