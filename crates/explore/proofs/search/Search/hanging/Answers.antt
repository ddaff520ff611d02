use Rattle.std.proofs.Common.{Bool, true, false, IsTrue, List, length, subst, refl}
use Rattle.std.specs.Prelude.{MatchOption, ◌||◌}
use Rattle.journal.specs.declared.event.Event.{Event}
use Rattle.lrc_script.specs.Plan.{plan_of}
use Rattle.explore.specs.FoundStates.{found_states}
use Rattle.explore.specs.FlatSearch.{FlatSearchHasHang, FlatSearchHasNoHang}
use Rattle.explore.specs.Prefixes.FlatBeginnings.{IsFlatBeginningHanging}
use Rattle.explore.proofs.SearchedStates.{searched_states_none_hangs}
use Rattle.explore.proofs.search.Search.hanging.Goals as goal

pub hang_at-requires-clause-found : goal.hang_at-requires-clause-found
hang_at-requires-clause-found c = c.requires.searched.some.1.found

pub hang_at-requires-clause-hangs : goal.hang_at-requires-clause-hangs
hang_at-requires-clause-hangs c =
    let s = plan_of c.args.script.now in
    let x = c.args.self.now in
    let some = c.requires.searched.some in
    subst (λ o. MatchOption o (FlatSearchHasNoHang s (found_states x.found) some.0) (FlatSearchHasHang s (found_states x.found))) c.in-Some.is
    some.1.noted.hang

-- where the search shows it, or something else, none hangs
never : (through other : Bool) (P : Type 0) → (IsTrue through → P) → (IsTrue other → P) → IsTrue (through || other) → P
never true other P looked known is = looked refl
never false other P looked known is = known is

pub returns-in-None-clause-hanging : goal.returns-in-None-clause-hanging
returns-in-None-clause-hanging c =
    let s = plan_of c.args.script.now in
    let x = c.args.self.now in
    let n = length (found_states x.found) in
    never c.args.through c.args.never ((g : List Event) → ¬ IsFlatBeginningHanging s g)
    (λ yes.
    let searched = c.requires.searched.all yes in
    searched_states_none_hangs s x c.args.steps.now c.requires.steps searched
    (subst (λ o. MatchOption o (FlatSearchHasNoHang s (found_states x.found) n) (FlatSearchHasHang s (found_states x.found))) c.in-None.is
    searched.noted.hang))
    c.requires.never c.if-through-never.true
