use Rattle.std.proofs.Common.{◌≡◌, ◌≤◌, ◌<◌, ◌↔◌, inl, inr, Bool, false, IsTrue, ℕ, List, Option, Some, length, sym, subst, ◌∙◌, arith}
use Rattle.std.specs.Prelude.{None, MatchOption, ⊤}
use Rattle.std.specs.Global.{Vec}
use Rattle.std.proofs.lemmas.Bool.{cases_lt, false≢true}
use Rattle.journal.specs.declared.event.Event.{Event}
use Rattle.lrc_script.specs.Plan.{Plan}
use Rattle.explore.specs.declared.prefixes.script_call.ScriptCall.{ScriptCall}
use Rattle.explore.specs.declared.search.Met.{Met}
use Rattle.explore.specs.declared.search.Search.{Search}
use Rattle.explore.specs.FoundStates.{found_states}
use Rattle.explore.specs.FlatSearchEnds.{FlatSearchedWithout, IsFlatSearchedThrough, IsMetByFlatSearch}
use Rattle.explore.specs.SearchGoals.{IsRunOfGoal}
use Rattle.explore.proofs.search.Search.look_to_the_end.Goals as goal

-- where a search came through, all was looked at, and nothing is what is looked for
through : (s : Plan) (x : Search) (steps : List (Vec ScriptCall)) (P : List Event → Type 0) (most states : ℕ) (o : Option Met)
    → IsFlatSearchedThrough s x steps P most o → states ≡ length (found_states x.found) → (o ≡ None) × (states ≤ most)
    → FlatSearchedWithout s x steps P (length (found_states x.found))
through s x steps P most states o looked count both =
    let few : length (found_states x.found) ≤ most = (let le = both.1 in omega arith) in
    subst (λ m. MatchOption m (length (found_states x.found) ≤ most → FlatSearchedWithout s x steps P (length (found_states x.found)))
    (IsMetByFlatSearch s x steps P)) both.0 looked.end few

met : (P : Type 0) (M : Met → Type 0) (o : Option Met) → MatchOption o P M → MatchOption o ⊤ M
met P M None h = tt
met P M (Some m) h = h

past : (most states : ℕ) (o : Option Met) (through : Bool) → IsTrue through ↔ ((o ≡ None) × (states ≤ most))
    → o ≡ None → through ≡ false → most < states
past most states o through tells none isnt = elim (cases_lt most states) [
  | inl lt ↦ lt
  | inr le ↦ absurd (false≢true (sym isnt ∙ tells.1 (none, omega arith)))
]

pub returns-clause-ended : goal.returns-clause-ended
returns-clause-ended g c = λ s lawful begun one.
    let x = c.look_at_all.new.self in
    let P = IsRunOfGoal s c.args.goal in
    let o = c.in_ok-met.met in
    let looked = c.in_ok-met.ensures.looked s lawful begun in
    let count = c.len-states.ensures.count in
    let tells = c.is_search_through-through.ensures in
    let all : IsTrue c.is_search_through-through.result → FlatSearchedWithout s x c.args.steps.now P (length (found_states x.found)) =
    λ yes. through s x c.args.steps.now P c.args.most c.len-states.result o looked count (tells.0 yes) in
    record {
      searched = record { some = looked.some; all = λ yes. (all yes).searched };
      unmet = λ yes. (all yes).unmet;
      met = met _ (IsMetByFlatSearch s x c.args.steps.now P) o looked.end;
      states = λ d telling. c.len-states.ensures.states s d looked.some.1.found telling;
      few = (
          let found = c.in_ok-met.ensures.few s lawful begun one in
          omega (arith, found, count));
      past = past c.args.most c.len-states.result o c.is_search_through-through.result tells;
    }
