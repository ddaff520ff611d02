use Rattle.std.proofs.Common.{◌≡◌, Bool, true, false, IsTrue, refl, sym, ◌∙◌, arith}
use Rattle.std.proofs.lemmas.Bool.{false≢true}
use Rattle.lrc_script.specs.Plan.{plan_of}
use Rattle.explore.proofs.SearchedStates.{searched_states_all_outcomes, searched_states_open_only, searched_states_some_outcomes}
use Rattle.explore.proofs.search.Search.answer_with.Goals as goal

-- what shows more isn't there without it
unshown : (a b : Bool) → (IsTrue a → IsTrue b) → b ≡ false → a ≡ false
unshown true b shows is = absurd (false≢true (sym is ∙ shows refl))
unshown false b shows is = refl

pub findings-requires-clause-ended : goal.findings-requires-clause-ended
findings-requires-clause-ended c = c.requires.ended

pub findings-requires-clause-never : goal.findings-requires-clause-never
findings-requires-clause-never c = λ yes.
    c.never_gets_stuck_by_text-never.ensures yes (plan_of c.args.script.now) c.requires.steps c.requires.tried.1.ends

pub outcomes_and-requires : goal.outcomes_and-requires
outcomes_and-requires c =
    let some = c.requires.ended.1.searched.some in
    (plan_of c.args.script.now, c.requires.steps.lawful, some.1.found, some.1.noted.places)

pub returns : goal.returns
returns c = λ d most ended telling tried.
    let s = plan_of c.args.script.now in
    let x = c.args.self.now in
    let steps = c.args.steps.now in
    let some = ended.searched.some in
    record {
      states = ended.states d telling;
      few = (let few = ended.few in omega (arith, few));
      verdict = c.in_ok-findings.ensures.verdict;
      hanging = c.in_ok-findings.ensures.hanging;
      outcomes = c.in_ok-outcomes.ensures.outcomes s d (searched_states_some_outcomes s d x steps some.0 telling some.1) tried.outcomes;
      runs = c.in_ok-outcomes.ensures.runs s d some.1.found some.1.noted.places telling tried.outcomes;
      all = λ yes replies outcome.
          c.in_ok-outcomes.ensures.all replies
          (searched_states_all_outcomes s x steps c.requires.steps (ended.searched.all yes) d telling replies outcome);
      given_up = λ opens.
          let both = searched_states_open_only c.args.end.met c.args.race_free c.args.end.through
          c.in_ok-findings.findings.verdict c.in_ok-findings.findings.hanging c.in_ok-findings.ensures.verdict_opens
          c.in_ok-findings.ensures.hanging_opens (unshown c.args.end.through c.args.race_free c.requires.through) opens in
          ended.past both.0 both.1;
    }
