use Rattle.std.proofs.Common.{ℕ, ◌≡◌, ◌+◌, ◌-◌, ◌<◌, ◌++◌, List, [], Some, length, map, reverse, slice_get, append_assoc, sym, ap, subst, ◌∙◌, arith}
use Rattle.std.proofs.lemmas.List.{map-append, reverse-append, reverse-reverse}
use Rattle.journal.specs.declared.event.Event.{Event}
use Rattle.lrc_script.specs.Plan.{Plan}
use Rattle.explore.specs.declared.state.found_states.FoundStates.{FoundStates}
use Rattle.explore.specs.declared.state.flat_state.FlatState.{FlatState}
use Rattle.explore.specs.declared.state.wait_code.ProcessorNumber.{ProcessorNumber}
use Rattle.explore.specs.FoundStates.{AreFoundStates, AreMakersBehind, IsFoundStateOrigin, found_states}
use Rattle.explore.specs.Machines.{MachineKnows}
use Rattle.explore.specs.Origins.{StateOrigin, state_origins}
use Rattle.explore.proofs.MachineSteps.{machine_step_some_at}
use Rattle.explore.proofs.state.found_states.FoundStates.makers_to.Goals as goal

-- where the state at a place comes from
record Comes (s : Plan) (x : FoundStates) (place : ℕ) : Type 0 where
  origin : StateOrigin
  at : slice_get (state_origins x.origins) (place - 1) ≡ Some origin
  from : (f : FlatState) → slice_get (found_states x) place ≡ Some f → IsFoundStateOrigin s (found_states x) place f origin

comes : (s : Plan) (x : FoundStates) (place : ℕ) → AreFoundStates s x → place < length (found_states x) → 0 < place → Comes s x place
comes s x place found lt some =
    let long = found.long in
    let o = machine_step_some_at (state_origins x.origins) (place - 1) (omega (arith, long, lt, some)) in
    let is : (place - 1) + 1 ≡ place = omega (arith, some) in
    record {
      origin = o.0;
      at = o.1;
      from = λ f at.
          subst (λ n. IsFoundStateOrigin s (found_states x) n f o.0) is
          (found.come (place - 1) f o.0 (ap (slice_get (found_states x)) is ∙ at) o.1);
    }

-- makers behind others
makers_behind_both : (s : Plan) (g : List Event) (m : FlatState) (front back : List ProcessorNumber) (es : List Event)
    → map (λ (n : ProcessorNumber). n.0) front ≡ map (λ (e : Event). e.processor) es → AreMakersBehind s (g ++ es) m back → AreMakersBehind s g m (front ++ back)
makers_behind_both s g m front back es are more = record {
  events = es ++ more.events;
  knows = subst (λ all. MachineKnows s all m) (append_assoc g es more.events) more.knows;
  are =
      map-append (λ (n : ProcessorNumber). n.0) front back ∙ ap (λ ns. ns ++ map (λ (n : ProcessorNumber). n.0) back) are
      ∙ ap (λ ns. map (λ (e : Event). e.processor) es ++ ns) more.are ∙ sym (map-append (λ (e : Event). e.processor) es more.events);
}

-- the makers of one state's events, last first, behind others
makers_pushed : (new old back more : List ProcessorNumber) → new ≡ old ++ reverse more → more ≡ back → reverse new ≡ back ++ reverse old
makers_pushed new old back more is same =
    ap (λ (ms : List ProcessorNumber). reverse ms) is ∙ reverse-append old (reverse more) ∙ ap (λ ms. ms ++ reverse old) (reverse-reverse more ∙ same)

pub makers-requires : goal.makers-requires
makers-requires c =
    let long = c.requires.found.1.long in
    let lt = c.loop-place.invariant.within in
    let some = c.loop-place-test.true in
    record { place = omega (arith, long, lt, some); in_order = c.requires.found.1.kept.in_order }

pub loop-place-smaller : goal.loop-place-smaller
loop-place-smaller c =
    let x = c.args.self.now in
    let place = c.loop-place.place in
    let within = c.loop-place.invariant.within in
    let o = comes c.requires.found.0 x place c.requires.found.1 within c.loop-place-test.true in
    let f = machine_step_some_at (found_states x) place within in
    subst (λ n. n < place) (sym (c.from-place.ensures o.origin o.at)) (o.from f.0 f.1).earlier

pub loop-place-preserved : goal.loop-place-preserved
loop-place-preserved c =
    let x = c.args.self.now in
    let place = c.loop-place.place in
    let within = c.loop-place.invariant.within in
    let some = c.loop-place-test.true in
    let f = machine_step_some_at (found_states x) place within in
    record {
      within = (
          let o = comes c.requires.found.0 x place c.requires.found.1 within some in
          let less = (o.from f.0 f.1).earlier in
          let is = c.from-place.ensures o.origin o.at in
          omega (arith, less, is, within));
      rest = λ s g m e found at_m at_e knows.
          let o = comes s x place found within some in
          let there = subst (λ n. slice_get (found_states x) n ≡ Some e) (c.from-place.ensures o.origin o.at) at_e in
          let behind = (o.from f.0 f.1).after e g there knows in
          let more = c.loop-place.invariant.rest s (g ++ behind.events) m f.0 found at_m f.1 behind.knows in
          subst (AreMakersBehind s g m)
          (sym (makers_pushed c.push_found_state_makers.new.makers.items c.loop-place.makers.items o.origin.makers c.makers.result.now
          c.in_ok-push_found_state_makers.ensures (c.makers.ensures o.origin o.at)))
          (makers_behind_both s g m o.origin.makers (reverse c.loop-place.makers.items) behind.events behind.are more);
    }

pub returns : goal.returns
returns c = λ s found m at.
    let x = c.args.self.now in
    let over = c.loop-place-test.false in
    let f = machine_step_some_at (found_states x) c.loop-place.place c.loop-place.invariant.within in
    let zeroth : c.loop-place.place ≡ 0 = omega (arith, over) in
    let knows = found.first f.0 (ap (slice_get (found_states x)) (sym zeroth) ∙ f.1) in
    subst (AreMakersBehind s [] m) (sym c.reverse.ensures.items)
    (c.loop-place.invariant.rest s [] m f.0 found at f.1 knows)
