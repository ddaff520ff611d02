use Rattle.std.proofs.Common.{Bool, true, false, IsTrue, List, refl, sym, subst, ap, ◌∙◌, length}
use Rattle.std.specs.Prelude.{◌||◌}
use Rattle.std.specs.Global.{Vec}
use Rattle.std.proofs.lemmas.Bool.{false≢true}
use Rattle.std.proofs.lemmas.Result.{IfOk-weaker}
use Rattle.lrc_script.specs.Plan.{Plan, plan_of}
use Rattle.explore.specs.declared.prefixes.script_call.ScriptCall.{ScriptCall}
use Rattle.explore.specs.declared.search.Search.{Search}
use Rattle.explore.specs.TextGuards.{AreGuardedByText}
use Rattle.explore.specs.Machines.{AreLawfulMachineSteps}
use Rattle.explore.specs.Prefixes.FlatBeginnings.{AreFlatBeginningsRaceFree}
use Rattle.explore.proofs.PrefixRuns.Neighbours.NoNeighbours.{no_neighbours_law}
use Rattle.explore.specs.FlatSearch.{IsFlatSearched}
use Rattle.explore.proofs.SearchedStates.{searched_states_without_neighbours}
use Rattle.explore.proofs.search.Search.answer.Goals as goal

-- where the text or the search shows it, no beginning races
race_free : (s : Plan) (x : Search) (steps : List (Vec ScriptCall)) (through by_text : Bool) → AreLawfulMachineSteps s steps
    → IsFlatSearched s x steps through → (IsTrue by_text → AreFlatBeginningsRaceFree s) → IsTrue (through || by_text)
    → AreFlatBeginningsRaceFree s
race_free s x steps true by_text lawful looked free shown =
    no_neighbours_law s (searched_states_without_neighbours s x steps lawful (looked.all refl))
race_free s x steps false by_text lawful looked free shown = free shown

-- what the search shows, one of both shows
either : (through by_text : Bool) → IsTrue through → IsTrue (through || by_text)
either true by_text is = refl
either false by_text is = absurd (false≢true is)

pub is_race_free_by_text-requires-clause-long : goal.is_race_free_by_text-requires-clause-long
is_race_free_by_text-requires-clause-long c = ap length c.deref.ensures.value ∙ c.requires.long

pub is_race_free_by_text-requires-clause-guarded : goal.is_race_free_by_text-requires-clause-guarded
is_race_free_by_text-requires-clause-guarded c = subst (AreGuardedByText c.args.steps.now) (sym c.deref.ensures.value) c.requires.facts.guarded

pub answer_with-requires-clause-free : goal.answer_with-requires-clause-free
answer_with-requires-clause-free c =
    let s = plan_of c.args.script.now in
    race_free s c.args.self.now c.args.steps.now c.args.end.through c.in_ok-by_text.by_text c.requires.steps c.requires.ended.1.searched
    c.in_ok-by_text.ensures

pub answer_with-requires-clause-through : goal.answer_with-requires-clause-through
answer_with-requires-clause-through c = either c.args.end.through c.in_ok-by_text.by_text

pub answer_with-requires-clause-ended : goal.answer_with-requires-clause-ended
answer_with-requires-clause-ended c = c.requires.ended

pub answer_with-requires-clause-tried : goal.answer_with-requires-clause-tried
answer_with-requires-clause-tried c = (c.args.detail, c.in_ok-tried.ensures)

pub returns : goal.returns
returns c = IfOk-weaker c.answer_with.result _ _ (λ answer told most ended.
    told c.args.detail most ended c.requires.telling c.in_ok-tried.ensures) c.answer_with.ensures
