use Rattle.std.proofs.Common.{ℕ, ◌≡◌, ◌<◌, ◌≤◌, ◌↔◌, inl, inr, Bool, false, IsTrue, length, refl, subst, sym, ◌∙◌, arith}
use Rattle.std.proofs.lemmas.Bool.{cases_lt, false≢true}
use Rattle.explore.specs.FoundStates.{found_states}
use Rattle.explore.specs.FlatSearch.{HasMoreToFlatSearch, IsFlatSearchedAt}
use Rattle.explore.specs.FlatSearchEnds.{FlatSearchedWithout}
use Rattle.explore.specs.SearchGoals.{IsRunOfGoal}
use Rattle.explore.proofs.LikeMachines.{like_machine_knows}
use Rattle.explore.proofs.MachineSteps.{machine_step_none_of, machine_step_some_at}
use Rattle.explore.proofs.SearchGoals.{goal_unmet_next}
use Rattle.explore.proofs.search.Search.look_at_all.Goals as goal

-- the states are no more than these
not_past : (most states : ℕ) (past : Bool) → IsTrue past ↔ (most < states) → past ≡ false → states ≤ most
not_past most states past tells isnt = elim (cases_lt most states) [
  | inl over ↦ absurd (false≢true (sym isnt ∙ tells.1 over))
  | inr le ↦ omega (arith, le)
]

pub loop-place-init : goal.loop-place-init
loop-place-init g c = record {
  searched = λ s lawful searched. record { searched = searched; unmet = λ place m g lt. absurd (omega arith) };
  few = λ s lawful searched one. omega (arith, one);
  telling = λ s lawful searched. refl;
}

pub returns-then-is_search_past-clause-looked : goal.returns-then-is_search_past-clause-looked
returns-then-is_search_past-clause-looked g c = λ s lawful searched. record {
  some = (c.loop-place.place, (c.loop-place.invariant.searched s lawful searched).searched);
  end = λ few. absurd (let over = c.is_search_past.ensures.0 c.if-is_search_past.true in let is = c.len-states.ensures.count in omega arith);
}

pub returns-then-is_search_past-clause-few : goal.returns-then-is_search_past-clause-few
returns-then-is_search_past-clause-few g c = c.loop-place.invariant.few

pub returns-then-place-states-clause-looked : goal.returns-then-place-states-clause-looked
returns-then-place-states-clause-looked g c = λ s lawful searched.
    let old = c.loop-place.invariant.searched s lawful searched in
    record {
      some = (c.loop-place.place, old.searched);
      end = λ few.
          subst (FlatSearchedWithout s c.loop-place.self c.args.steps.now (IsRunOfGoal s c.args.goal))
          (c.if-place-states.true ∙ c.len-states.ensures.count) old;
    }

pub returns-then-place-states-clause-few : goal.returns-then-place-states-clause-few
returns-then-place-states-clause-few g c = c.loop-place.invariant.few

pub is_met_by-requires : goal.is_met_by-requires
is_met_by-requires g c =
    let s = c.requires.searched.0 in
    let old = c.loop-place.invariant.searched s c.requires.searched.1 c.requires.searched.2 in
    let within = old.searched.within in
    let is = c.len-states.ensures.count in
    let isnt = c.if-place-states.false in
    let stored = machine_step_some_at (found_states c.loop-place.self.found) c.loop-place.place (omega (arith, within, is, isnt)) in
    let h = old.searched.found.known c.loop-place.place stored.0 stored.1 in
    record {
      plan = s;
      lawful = c.requires.searched.1;
      events = h.0;
      knows = like_machine_knows s h.0 stored.0 c.in_ok-state.state (c.in_ok-state.ensures stored.0 stored.1) h.1;
    }

pub returns-then-is_met_by-clause-looked : goal.returns-then-is_met_by-clause-looked
returns-then-is_met_by-clause-looked g c = λ s lawful searched.
    let old = c.loop-place.invariant.searched s lawful searched in
    let within = old.searched.within in
    let is = c.len-states.ensures.count in
    let isnt = c.if-place-states.false in
    record {
      some = (c.loop-place.place, old.searched);
      end = record {
        within = omega (arith, within, is, isnt);
        ends = λ m h at knows.
            let mine = like_machine_knows s h m c.in_ok-state.state (c.in_ok-state.ensures m at) knows in
            (c.is_met_by.ensures s h lawful mine).0 c.if-is_met_by.true;
      };
    }

pub returns-then-is_met_by-clause-few : goal.returns-then-is_met_by-clause-few
returns-then-is_met_by-clause-few g c = c.loop-place.invariant.few

pub look_at-requires-clause-unvisited : goal.look_at-requires-clause-unvisited
look_at-requires-clause-unvisited g c =
    let s = c.requires.searched.0 in
    let old = c.loop-place.invariant.searched s c.requires.searched.1 c.requires.searched.2 in
    let within = old.searched.within in
    let is = c.len-states.ensures.count in
    let isnt = c.if-place-states.false in
    let lt : c.loop-place.place < length (found_states c.loop-place.self.found) = omega (arith, within, is, isnt) in
    (s, record { lawful = c.requires.searched.1; searched = old.searched; more = lt })

pub loop-place-preserved : goal.loop-place-preserved
loop-place-preserved g c = record {
  searched = λ s lawful searched.
      let old = c.loop-place.invariant.searched s lawful searched in
      let within = old.searched.within in
      let is = c.len-states.ensures.count in
      let isnt = c.if-place-states.false in
      let lt : c.loop-place.place < length (found_states c.loop-place.self.found) = omega (arith, within, is, isnt) in
      let more : HasMoreToFlatSearch s c.loop-place.self c.args.steps.now c.loop-place.place = record { lawful = lawful; searched = old.searched; more = lt } in
      record {
        searched = subst (λ o. IsFlatSearchedAt s c.look_at.new.self c.args.steps.now c.loop-place.place o)
            (machine_step_none_of c.in_ok-neighbours.field-0 c.in_default.not-Some) (c.in_ok-neighbours.ensures.looked s more);
        unmet = goal_unmet_next s (IsRunOfGoal s c.args.goal) (found_states c.loop-place.self.found) (found_states c.look_at.new.self.found)
            c.loop-place.place (c.in_ok-neighbours.ensures.found s more).0 lt
            (λ m h at knows ends.
            let mine = like_machine_knows s h m c.in_ok-state.state (c.in_ok-state.ensures m at) knows in
            false≢true (sym c.if-is_met_by.false ∙ (c.is_met_by.ensures s h lawful mine).1 ends)) old.unmet;
      };
  few = λ s lawful searched one.
      let old = c.loop-place.invariant.searched s lawful searched in
      let within = old.searched.within in
      let is = c.len-states.ensures.count in
      let isnt = c.if-place-states.false in
      let lt : c.loop-place.place < length (found_states c.loop-place.self.found) = omega (arith, within, is, isnt) in
      let under = not_past c.args.most c.len-states.result c.is_search_past.result c.is_search_past.ensures c.if-is_search_past.false in
      let more = (c.in_ok-neighbours.ensures.found s (record { lawful = lawful; searched = old.searched; more = lt })).1 in
      omega (arith, more, under, is);
  telling = λ s lawful searched.
      let old = c.loop-place.invariant.searched s lawful searched in
      let within = old.searched.within in
      let is = c.len-states.ensures.count in
      let isnt = c.if-place-states.false in
      let lt : c.loop-place.place < length (found_states c.loop-place.self.found) = omega (arith, within, is, isnt) in
      (c.in_ok-neighbours.ensures.found s (record { lawful = lawful; searched = old.searched; more = lt })).2
      ∙ c.loop-place.invariant.telling s lawful searched;
}

pub returns-in-Some-clause-looked : goal.returns-in-Some-clause-looked
returns-in-Some-clause-looked g c = λ s lawful searched.
    let old = c.loop-place.invariant.searched s lawful searched in
    let within = old.searched.within in
    let is = c.len-states.ensures.count in
    let isnt = c.if-place-states.false in
    let lt : c.loop-place.place < length (found_states c.loop-place.self.found) = omega (arith, within, is, isnt) in
    let both =
    subst (λ o. IsFlatSearchedAt s c.look_at.new.self c.args.steps.now c.loop-place.place o) c.in-Some.is
    (c.in_ok-neighbours.ensures.looked s (record { lawful = lawful; searched = old.searched; more = lt })) in
    record { some = (c.loop-place.place, both.0); end = both.1 }

pub returns-in-Some-clause-few : goal.returns-in-Some-clause-few
returns-in-Some-clause-few g c = λ s lawful searched one.
    let old = c.loop-place.invariant.searched s lawful searched in
    let within = old.searched.within in
    let is = c.len-states.ensures.count in
    let isnt = c.if-place-states.false in
    let lt : c.loop-place.place < length (found_states c.loop-place.self.found) = omega (arith, within, is, isnt) in
    let under = not_past c.args.most c.len-states.result c.is_search_past.result c.is_search_past.ensures c.if-is_search_past.false in
    let more = (c.in_ok-neighbours.ensures.found s (record { lawful = lawful; searched = old.searched; more = lt })).1 in
    omega (arith, more, under, is)

pub returns-clause-looked : goal.returns-clause-looked
returns-clause-looked g c = λ s lawful searched.
    let old = c.loop-place.invariant.searched s lawful searched in
    record {
      some = (c.loop-place.place, old.searched);
      end = λ few.
          let within = old.searched.within in
          let over = c.loop-place-test.false in
          let end : c.loop-place.place ≡ length (found_states c.loop-place.self.found) = omega arith in
          subst (FlatSearchedWithout s c.loop-place.self c.args.steps.now (IsRunOfGoal s c.args.goal)) end old;
    }

pub returns-then-is_search_past-clause-telling : goal.returns-then-is_search_past-clause-telling
returns-then-is_search_past-clause-telling g c = c.loop-place.invariant.telling

pub returns-then-place-states-clause-telling : goal.returns-then-place-states-clause-telling
returns-then-place-states-clause-telling g c = c.loop-place.invariant.telling

pub returns-then-is_met_by-clause-telling : goal.returns-then-is_met_by-clause-telling
returns-then-is_met_by-clause-telling g c = c.loop-place.invariant.telling

pub returns-in-Some-clause-telling : goal.returns-in-Some-clause-telling
returns-in-Some-clause-telling g c = λ s lawful searched.
    let old = c.loop-place.invariant.searched s lawful searched in
    let within = old.searched.within in
    let is = c.len-states.ensures.count in
    let isnt = c.if-place-states.false in
    let lt : c.loop-place.place < length (found_states c.loop-place.self.found) = omega (arith, within, is, isnt) in
    (c.in_ok-neighbours.ensures.found s (record { lawful = lawful; searched = old.searched; more = lt })).2
    ∙ c.loop-place.invariant.telling s lawful searched

pub returns-clause-telling : goal.returns-clause-telling
returns-clause-telling g c = c.loop-place.invariant.telling

pub returns-clause-few : goal.returns-clause-few
returns-clause-few g c = c.loop-place.invariant.few

pub at-requires-clause-place : goal.at-requires-clause-place
at-requires-clause-place g c =
    let old = c.loop-place.invariant.searched c.requires.searched.0 c.requires.searched.1 c.requires.searched.2 in
    let within = old.searched.within in
    let is = c.len-states.ensures.count in
    let isnt = c.if-place-states.false in
    omega (arith, within, is, isnt)

pub at-requires-clause-kept : goal.at-requires-clause-kept
at-requires-clause-kept g c =
    (c.loop-place.invariant.searched c.requires.searched.0 c.requires.searched.1 c.requires.searched.2).searched.found.kept

pub look_at-requires-clause-room : goal.look_at-requires-clause-room
look_at-requires-clause-room g c =
    let is = c.len-states.ensures.count in
    let under = not_past c.args.most c.len-states.result c.is_search_past.result c.is_search_past.ensures c.if-is_search_past.false in
    let room = c.requires.room in
    omega (arith, is, under, room)
