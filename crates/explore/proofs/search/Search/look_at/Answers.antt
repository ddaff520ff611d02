use Rattle.std.proofs.Common.{◌≡◌, ◌+◌, Some, length, slice_get, refl, sym, ap, subst, ◌∙◌, arith}
use Rattle.std.proofs.lemmas.Bool.{false≢true}
use Rattle.std.proofs.lemmas.Option.{same_Some}
use Rattle.explore.specs.declared.state.flat_state.FlatState.{FlatState}
use Rattle.explore.specs.declared.search.Search.{Search}
use Rattle.explore.specs.FoundStates.{HasRoomForStates, IsFoundStateAt, found_states}
use Rattle.explore.specs.FollowedStates.{AreFollowedStates, MayBeFollowedStateByEach}
use Rattle.explore.specs.Machines.{MachineKnows}
use Rattle.explore.specs.Nexts.{AreNexts}
use Rattle.explore.specs.FlatSearch.{AreFlatSearchNotes}
use Rattle.explore.proofs.LikeMachines.{like_machine_knows}
use Rattle.explore.proofs.MachineSteps.{machine_step_rows_few, machine_step_some_at}
use Rattle.explore.proofs.SearchedStates.{searched_states_next, searched_states_noted_kept, searched_states_noted_skip}
use Rattle.explore.proofs.search.Search.look_at.Goals.{then-are_neighbours_over+in_ok-note_end, else-are_neighbours_over}
use Rattle.explore.proofs.search.Search.look_at.Goals as goal

pub neighbour_nexts_of-nexts-requires : goal.neighbour_nexts_of-nexts-requires
neighbour_nexts_of-nexts-requires c =
    let s = c.requires.unvisited.0 in
    let may = c.requires.unvisited.1 in
    let stored = machine_step_some_at (found_states c.args.self.now.found) c.args.place may.more in
    let g = may.searched.found.known c.args.place stored.0 stored.1 in
    record {
      plan = s;
      lawful = may.lawful;
      events = g.0;
      knows = like_machine_knows s g.0 stored.0 c.args.state (c.requires.state stored.0 stored.1) g.1;
    }

pub returns-in-Some-clause-looked : goal.returns-in-Some-clause-looked
returns-in-Some-clause-looked c = λ s may.
    let stored = machine_step_some_at (found_states c.args.self.now.found) c.args.place may.more in
    let f = stored.0 in
    let like = c.requires.state f stored.1 in
    let nexts_of : AreNexts s f c.neighbour_nexts_of-nexts.result = (λ g knows.
    c.neighbour_nexts_of-nexts.ensures.nexts s may.lawful g (like_machine_knows s g f c.args.state like knows)) in
    let nexts = nexts_of in
    let conflict = c.in-Some.ensures in (
      may.searched,
      record {
        lawful = may.lawful;
        found = may.searched.found;
        are = record {
          within = may.more;
          apart = conflict.apart;
          conflict = conflict.conflict;
          first = λ m at g knows.
              let mine = subst (λ x. MachineKnows s g x) (same_Some m f (sym at ∙ stored.1)) knows in
              (nexts g mine c.in-Some.first.processor c.in-Some.first.kind).0 conflict.first;
          second = λ m at g knows.
              let mine = subst (λ x. MachineKnows s g x) (same_Some m f (sym at ∙ stored.1)) knows in
              (nexts g mine c.in-Some.second.processor c.in-Some.second.kind).0 conflict.second;
        };
      },
    )

pub note_end-requires-clause-may : goal.note_end-requires-clause-may
note_end-requires-clause-may c =
    let s = c.requires.unvisited.0 in
    let may = c.requires.unvisited.1 in
    let stored = machine_step_some_at (found_states c.args.self.now.found) c.args.place may.more in
    let f = stored.0 in
    let like = c.requires.state f stored.1 in
    let nexts_of : AreNexts s f c.neighbour_nexts_of-nexts.result = (λ g knows.
    c.neighbour_nexts_of-nexts.ensures.nexts s may.lawful g (like_machine_knows s g f c.args.state like knows)) in
    let nexts = nexts_of in (
      s,
      record {
        lawful = may.lawful;
        found = may.searched.found;
        within = may.more;
        over = λ m at g p k knows next.
            let mine = subst (λ x. MachineKnows s g x) (same_Some m f (sym at ∙ stored.1)) knows in
            c.are_neighbours_over.ensures.0 c.if-are_neighbours_over.true p k ((nexts g mine p k).1 next);
        noted = may.searched.noted;
      },
    )

pub follow_all-requires-clause-may : goal.follow_all-requires-clause-may
follow_all-requires-clause-may c =
    let s = c.requires.unvisited.0 in
    let may = c.requires.unvisited.1 in
    let stored = machine_step_some_at (found_states c.args.self.now.found) c.args.place may.more in
    let f = stored.0 in
    let like = c.requires.state f stored.1 in
    let nexts_of : AreNexts s f c.neighbour_nexts_of-nexts.result = (λ g knows.
    c.neighbour_nexts_of-nexts.ensures.nexts s may.lawful g (like_machine_knows s g f c.args.state like knows)) in
    let same : c.if-are_neighbours_over.self.found ≡ c.args.self.now.found = elim c.if-are_neighbours_over.branch [
      | then-are_neighbours_over+in_ok-note_end w ↦ ap (λ (z : Search). z.found) w.self-is ∙ w.in_ok-note_end.ensures.found
      | else-are_neighbours_over w ↦ ap (λ (z : Search). z.found) w.self-is
    ] in (
      s,
      subst (λ x. MayBeFollowedStateByEach s c.args.steps.now x c.args.place c.free_choice-followed.result) (sym same)
          (record {
            lawful = may.lawful;
            found = may.searched.found;
            within = may.more;
            next = λ m at p k told g knows.
                (nexts_of g
                (subst (MachineKnows s g) (same_Some m f (sym at ∙ stored.1)) knows) p k).0 (c.free_choice-followed.ensures.among p k told);
          }),
    )

pub returns-in-Some-clause-found : goal.returns-in-Some-clause-found
returns-in-Some-clause-found c = λ s may. ((λ place m at. at), omega arith, refl)

pub returns-clause-found : goal.returns-clause-found
returns-clause-found c = λ s may.
    let x = c.args.self.now.found in
    let place = c.args.place in
    let stored = machine_step_some_at (found_states c.args.self.now.found) c.args.place may.more in
    let f = stored.0 in
    let like = c.requires.state f stored.1 in
    let nexts_of : AreNexts s f c.neighbour_nexts_of-nexts.result = (λ g knows.
    c.neighbour_nexts_of-nexts.ensures.nexts s may.lawful g (like_machine_knows s g f c.args.state like knows)) in
    let chosen = c.free_choice-followed.result in
    let new = c.follow_all.new.self in
    let same : c.if-are_neighbours_over.self.found ≡ x = elim c.if-are_neighbours_over.branch [
      | then-are_neighbours_over+in_ok-note_end w ↦ ap (λ (z : Search). z.found) w.self-is ∙ w.in_ok-note_end.ensures.found
      | else-are_neighbours_over w ↦ ap (λ (z : Search). z.found) w.self-is
    ] in
    let may_follow : MayBeFollowedStateByEach s c.args.steps.now x place chosen = record {
      lawful = may.lawful;
      found = may.searched.found;
      within = may.more;
      next = λ m at p k told g knows.
          (nexts_of g (subst (MachineKnows s g) (same_Some m f (sym at ∙ stored.1)) knows) p k).0
          (c.free_choice-followed.ensures.among p k told);
    } in
    let followed =
    subst (λ y. AreFollowedStates s c.args.steps.now y new place chosen (length chosen)) same
    (c.in_ok-follow_all.ensures s (subst (λ y. MayBeFollowedStateByEach s c.args.steps.now y place chosen) (sym same) may_follow)) in
    let few = followed.few in
    let long = c.free_choice-followed.ensures.long in
    (followed.keeps, omega (arith, few, long), followed.telling)

pub returns-clause-looked : goal.returns-clause-looked
returns-clause-looked c = λ s may.
    let x = c.args.self.now in
    let place = c.args.place in
    let stored = machine_step_some_at (found_states c.args.self.now.found) c.args.place may.more in
    let f = stored.0 in
    let like = c.requires.state f stored.1 in
    let nexts_of : AreNexts s f c.neighbour_nexts_of-nexts.result = (λ g knows.
    c.neighbour_nexts_of-nexts.ensures.nexts s may.lawful g (like_machine_knows s g f c.args.state like knows)) in
    let nexts = c.neighbour_nexts_of-nexts.result in
    let chosen = c.free_choice-followed.result in
    let are = nexts_of in
    let new = c.follow_all.new.self in
    let same : c.if-are_neighbours_over.self.found ≡ x.found = elim c.if-are_neighbours_over.branch [
      | then-are_neighbours_over+in_ok-note_end w ↦ ap (λ (z : Search). z.found) w.self-is ∙ w.in_ok-note_end.ensures.found
      | else-are_neighbours_over w ↦ ap (λ (z : Search). z.found) w.self-is
    ] in
    let each : (m : FlatState) → slice_get (found_states x.found) place ≡ Some m → AreNexts s m nexts =
    (λ m at. subst (λ y. AreNexts s y nexts) (same_Some f m (sym stored.1 ∙ at)) are) in
    let may_follow : MayBeFollowedStateByEach s c.args.steps.now x.found place chosen = record {
      lawful = may.lawful;
      found = may.searched.found;
      within = may.more;
      next = λ m at p k told g knows. (each m at g knows p k).0 (c.free_choice-followed.ensures.among p k told);
    } in
    let followed =
    subst (λ y. AreFollowedStates s c.args.steps.now y new place chosen (length chosen)) same
    (c.in_ok-follow_all.ensures s (subst (λ y. MayBeFollowedStateByEach s c.args.steps.now y place chosen) (sym same) may_follow)) in
    let noted : AreFlatSearchNotes s c.if-are_neighbours_over.self (place + 1) = elim c.if-are_neighbours_over.branch [
      | then-are_neighbours_over+in_ok-note_end w ↦
          subst (λ z. AreFlatSearchNotes s z (place + 1)) (sym w.self-is) (w.in_ok-note_end.ensures.noted s (record {
            lawful = may.lawful;
            found = may.searched.found;
            within = may.more;
            over = λ m at g p k knows next.
                let mine = subst (λ y. MachineKnows s g y) (same_Some m f (sym at ∙ stored.1)) knows in
                c.are_neighbours_over.ensures.0 w.if-are_neighbours_over.true p k ((are g mine p k).1 next);
            noted = may.searched.noted;
          }))
      | else-are_neighbours_over w ↦
          subst (λ z. AreFlatSearchNotes s z (place + 1)) (sym w.self-is)
          (searched_states_noted_skip s (found_states x.found) place f stored.1 may.lawful.lawful.but_uneven.one_each
          (λ g knows none.
          false≢true (sym w.if-are_neighbours_over.false ∙ c.are_neighbours_over.ensures.1 (λ p k is. none p k ((are g knows p k).0 is)))) x refl
          may.searched.noted)
    ] in
    let z : Search = record {
      found = new;
      outcomes = c.if-are_neighbours_over.self.outcomes;
      hang = c.if-are_neighbours_over.self.hang;
    } in
    let more = may.more in
    searched_states_next z nexts chosen may each c.in_default.ensures
    (λ m g at knows. c.free_choice-followed.ensures.choice s g (record {
      lawful = may.lawful;
      told = c.requires.facts;
      knows = like_machine_knows s g f c.args.state like (subst (MachineKnows s g) (same_Some m f (sym at ∙ stored.1)) knows);
    })) followed
    (searched_states_noted_kept s (found_states x.found) (found_states new) (place + 1) followed.keeps (omega arith) c.if-are_neighbours_over.self z
    (ap found_states same) refl refl refl noted)

pub free_choice-followed-requires : goal.free_choice-followed-requires
free_choice-followed-requires c = machine_step_rows_few c.requires.unvisited.0 c.args.steps.now c.requires.unvisited.1.lawful

pub follow_all-requires-clause-state : goal.follow_all-requires-clause-state
follow_all-requires-clause-state c =
    let same : c.if-are_neighbours_over.self.found ≡ c.args.self.now.found = elim c.if-are_neighbours_over.branch [
      | then-are_neighbours_over+in_ok-note_end w ↦ ap (λ (z : Search). z.found) w.self-is ∙ w.in_ok-note_end.ensures.found
      | else-are_neighbours_over w ↦ ap (λ (z : Search). z.found) w.self-is
    ] in
    subst (λ x. IsFoundStateAt x c.args.place c.args.state) (sym same) c.requires.state

pub follow_all-requires-clause-room : goal.follow_all-requires-clause-room
follow_all-requires-clause-room c =
    let same : c.if-are_neighbours_over.self.found ≡ c.args.self.now.found = elim c.if-are_neighbours_over.branch [
      | then-are_neighbours_over+in_ok-note_end w ↦ ap (λ (z : Search). z.found) w.self-is ∙ w.in_ok-note_end.ensures.found
      | else-are_neighbours_over w ↦ ap (λ (z : Search). z.found) w.self-is
    ] in
    let room = c.requires.room in
    let long = c.free_choice-followed.ensures.long in
    subst (λ x. HasRoomForStates x (length c.free_choice-followed.result)) (sym same) (omega (arith, room, long))
