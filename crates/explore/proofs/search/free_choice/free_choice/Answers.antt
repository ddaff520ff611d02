use Rattle.std.proofs.Common.{subst}
use Rattle.explore.specs.FreeChoice.{IsFreeForChoiceByWords}
use Rattle.explore.proofs.ChoosingFree.{choosing_free_one_among_nexts, choosing_free_one}
use Rattle.explore.proofs.search.free_choice.free_choice.Goals as goal

pub returns-then-is_free_choice-clause-choice : goal.returns-then-is_free_choice-clause-choice
returns-then-is_free_choice-clause-choice c = λ s g given.
    choosing_free_one c.args.steps.now c.args.facts.now.guarded.items g c.args.nexts.now c.free_choice_alone.result
    c.loop-processor.processor c.in-Some.kind given.told.guarded (subst (λ ws. IsFreeForChoiceByWords ws c.in-Some.kind) c.deref.ensures.value (c.is_free_choice.ensures c.if-is_free_choice.true)) c.in-Some.is
    c.free_choice_alone.ensures.own

pub returns-then-is_free_choice-clause-among : goal.returns-then-is_free_choice-clause-among
returns-then-is_free_choice-clause-among c =
    choosing_free_one_among_nexts c.args.nexts.now c.free_choice_alone.result c.loop-processor.processor c.in-Some.kind c.in-Some.is c.free_choice_alone.ensures.only
