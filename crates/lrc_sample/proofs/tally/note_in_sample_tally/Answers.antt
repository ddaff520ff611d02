use Rattle.std.proofs.Common.{◌++◌, ◌∷◌, [], subst, sym, arith}
use Rattle.lrc_sample.specs.TallyOrder.{IsTallyOrderStarted}
use Rattle.lrc_sample.specs.Tally.{IsTallyShown}
use Rattle.lrc_sample.proofs.TallyNoted.{tally_noted_again_at, tally_noted_few_at, tally_noted_new_at, tally_noted_shown_again, tally_noted_shown_new}
use Rattle.lrc_sample.proofs.tally.note_in_sample_tally.Goals as goal

pub overflow_add-index_mut : goal.overflow_add-index_mut
overflow_add-index_mut c =
    let found = rw c.deref.ensures.value at c.in-Some.ensures in
    let few = tally_noted_few_at c.args.lines.now.items c.args.outcome c.in-Some.place _ c.index_mut.result.now
    c.index_mut.ensures.value found in
    omega (arith, few, c.requires)

pub returns-in-Some-clause-shown : goal.returns-in-Some-clause-shown
returns-in-Some-clause-shown c = λ schedules shown place.
    let found = rw c.deref.ensures.value at c.in-Some.ensures in
    tally_noted_shown_again schedules c.args.schedule.turns.items c.args.lines.now.items c.args.outcome c.in-Some.place _ c.index_mut.result.now
    c.index_mut.ensures.value found shown

pub returns-in-Some-clause-tally : goal.returns-in-Some-clause-tally
returns-in-Some-clause-tally c = λ outcomes is place.
    let found = rw c.deref.ensures.value at c.in-Some.ensures in
    tally_noted_again_at outcomes c.args.lines.now.items c.args.outcome c.in-Some.place _ c.index_mut.result.now
    c.index_mut.ensures.value found is

pub returns-in_ok-push-in-None-clause-shown : goal.returns-in_ok-push-in-None-clause-shown
returns-in_ok-push-in-None-clause-shown c = λ schedules shown place.
    subst (IsTallyShown (schedules ++ c.args.schedule.turns.items ∷ [])) (sym c.in_ok-push-in-None.ensures.items)
    (tally_noted_shown_new schedules c.args.lines.now.items c.args.outcome c.args.seed c.args.schedule shown place)

pub returns-in_ok-push-in-None-clause-tally : goal.returns-in_ok-push-in-None-clause-tally
returns-in_ok-push-in-None-clause-tally c = λ outcomes is place.
    let none = rw c.deref.ensures.value at c.in-None.ensures in
    subst (IsTallyOrderStarted (outcomes ++ c.args.outcome ∷ [])) (sym c.in_ok-push-in-None.ensures.items)
    (tally_noted_new_at outcomes c.args.lines.now.items c.args.outcome c.args.seed c.args.schedule none place is)
