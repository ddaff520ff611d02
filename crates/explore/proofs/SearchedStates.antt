-- What a search knows, state by state.
-- What was noted of the first states stays so as states are pushed on. One more state is either followed, where its next
-- events are found, or ends: then it is whole and shows an outcome, or it hangs.
use Rattle.std.proofs.Common.{ℕ, ◌≡◌, ◌≢◌, ◌+◌, ◌<◌, ◌≤◌, ◌↔◌, ◌⊎◌, inl, inr, Bool, false, List, [], ◌∷◌, Option, Some, length, slice_get, slice_index_or, refl, sym, ap, subst, ◌∙◌, arith}
use Rattle.std.specs.Prelude.{None, MatchOption, unwrap_or}
use Rattle.std.specs.Global.{Vec}
use Rattle.std.proofs.lemmas.Bool.{cases_eq, cases_lt, false≢true}
use Rattle.std.proofs.lemmas.List.{get_or_past}
use Rattle.std.proofs.lemmas.Option.{none-some, same_Some, slice_get-get_or, slice_get_within}
use Rattle.base.specs.InOrderOnce.{Has, IsOnce}
use Rattle.base.proofs.JoinedLists.{joined_list_has-append, joined_list_has-cons, joined_list_has-nil, joined_list_in_order-append, joined_list_in_order-nil, joined_list_in_order_single}
use Rattle.journal.specs.declared.event.Event.{Event}
use Rattle.journal.specs.declared.event.Kind.{Kind}
use Rattle.journal.specs.declared.event.Kind.TheVariants.{Ask}
use Rattle.journal.specs.DidEvent.{did}
use Rattle.lrc_script.specs.Plan.{Plan}
use Rattle.conformance.specs.Follows.{Follows, calls_of}
use Rattle.explore.specs.declared.prefixes.script_call.ScriptCall.{ScriptCall}
use Rattle.explore.specs.Prefixes.FlatBeginnings.{IsFlatBeginning, IsFlatBeginningHanging}
use Rattle.explore.specs.Prefixes.PrefixLaws.{PrefixHasNoNeighbours}
use Rattle.explore.proofs.PrefixRuns.Beginnings.{prefix_beginning_next, prefix_beginning_whole_done}
use Rattle.explore.specs.declared.state.flat_state.FlatState.{FlatState}
use Rattle.explore.specs.declared.state.found_states.FoundStates.{FoundStates}
use Rattle.explore.specs.declared.search.Met.{Met}
use Rattle.explore.specs.declared.search.Search.{Search}
use Rattle.explore.specs.declared.outcomes.answer.Hanging.{Hanging}
use Rattle.explore.specs.declared.outcomes.answer.ScriptOutcome.{ScriptOutcome}
use Rattle.explore.specs.declared.outcomes.answer.Hanging.TheVariants as hanging
use Rattle.explore.specs.declared.outcomes.answer.Verdict.{Verdict}
use Rattle.explore.specs.declared.outcomes.answer.Verdict.TheVariants as verdict
use Rattle.explore.specs.Explored.{AreAllOutcomesExplored, AreExploredOutcomes, explored_outcome, explored_settles}
use Rattle.explore.specs.FollowedStates.{AreFollowedStates}
use Rattle.explore.specs.FreeChoice.{IsFreeChoice}
use Rattle.explore.specs.FoundStates.{AreFoundStates, IsFoundState, KeepsFoundStates, found_states}
use Rattle.explore.specs.FreeRun.{IsFoundByFreeRun}
use Rattle.explore.specs.Machines.{AreLawfulMachineSteps, MachineKnows, machine_rows}
use Rattle.explore.specs.Nexts.{AreNexts, AreNextInConflict}
use Rattle.explore.specs.declared.outcomes.telling.Detail.{Detail}
use Rattle.explore.specs.OutcomeTelling.{AreOutcomeTellingReplies, outcome_telling_of_script, outcome_telling_kept, outcome_telling_replies, outcome_telling_steps}
use Rattle.explore.proofs.ToldReplies.{told_reply_kept_whole, told_replies_rows_like, told_replies_same_rows}
use Rattle.explore.specs.FlatSearch.{AreFlatSearchOutcomes, AreFlatSearchPlaces, FlatSearchFollows, FlatSearchHasHang, IsAskFollowed, IsFlatSearchReduced, AreFlatSearchNotes, IsFlatSearchHangingOpen, IsFlatSearchVerdictOpen, IsFlatSearchQuiet, FlatSearchedUpTo, IsShownAtFlatSearchPlace, IsShownByFlatSearch, HasMoreToFlatSearch, MayNoteInFlatSearch, FlatSearchHasNoHang}
use Rattle.explore.specs.NotedOutcomes.{IsNotedOutcome, noted_outcomes}
use Rattle.explore.proofs.AddedStates.{added_state_found_soon_kept}
use Rattle.explore.proofs.MachineSteps.{machine_step_some_at}
use Rattle.explore.proofs.NotedOutcomes.{IsAmongNotedOutcomes, noted_outcome_among, noted_outcome_each}
use Rattle.explore.proofs.Reduced.Ends.{ReducedEndsInConflict, ReducedEndsShowing, reduced_ends_conflict_lasts, reduced_ends_whole, reduced_ends_hang_lasts, reduced_ends_shows_last}
use Rattle.explore.proofs.Reduced.Chosen.{chosen_follows}
use Rattle.explore.proofs.Reduced.Reaching.{IsReached, IsReachingLasting, reached}
use Rattle.explore.proofs.Reduced.Soon.{soon_followed, soon_now, soon_reached}

-- the state that has done nothing was found
searched_states_first_found : (s : Plan) (x : FoundStates) → AreFoundStates s x → IsFoundState s (found_states x) []
searched_states_first_found s x found =
    let long = found.long in
    let m = machine_step_some_at (found_states x) 0 (omega (arith, long)) in
    record { place = 0; state = m.0; at = m.1; knows = found.first m.0 m.1 }

-- a state of the first ones was there before
pub searched_state_was_at : (old new : List FlatState) (place : ℕ) (m : FlatState) → KeepsFoundStates old new → place < length old
    → slice_get new place ≡ Some m → slice_get old place ≡ Some m
searched_state_was_at old new place m keeps lt at =
    let f = machine_step_some_at old place lt in
    subst (λ z. slice_get old place ≡ Some z) (same_Some f.0 m (sym (keeps place f.0 f.1) ∙ at)) f.1

-- what is followed is followed still where more is found
module _ (s : Plan) (rows : List (Vec ScriptCall)) (V W : List Event → Type 0) (g : List Event) (more : (h : List Event) → V h → W h) where
  searched_states_ask_more : (passed : Event → Bool) (p l : ℕ) → IsAskFollowed s V passed g p l → IsAskFollowed s W passed g p l
  searched_states_ask_more passed p l ask = record { next = ask.next; found = more (did g p (Ask l)) ask.found; rivals = ask.rivals }

  searched_states_follows_more : FlatSearchFollows s rows V g → FlatSearchFollows s rows W g
  searched_states_follows_more (inl whole) = inl (λ p k next. more (did g p k) (whole p k next))
  searched_states_follows_more (inr (inl one)) = inr (inl (record {
    processor = one.processor;
    kind = one.kind;
    free = one.free;
    next = one.next;
    found = more (did g one.processor one.kind) one.found;
  }))
  searched_states_follows_more (inr (inr asks)) = inr (inr (record {
    passed = asks.passed;
    processor = asks.processor;
    lock = asks.lock;
    some = searched_states_ask_more asks.passed asks.processor asks.lock asks.some;
    first = λ es p k over next opens.
        let ask = asks.first es p k over next opens in (ask.0, ask.1, searched_states_ask_more asks.passed p ask.0 ask.2);
  }))

module _ (s : Plan) (old new : List FlatState) (n : ℕ) (keeps : KeepsFoundStates old new) (within : n ≤ length old) where
  searched_states_shown_kept : (replies : List (List ℕ)) → IsShownByFlatSearch s old n replies ↔ IsShownByFlatSearch s new n replies
  searched_states_shown_kept replies = (
    λ x. record {
      place = x.place;
      within = x.within;
      state = x.state;
      at = keeps x.place x.state x.at;
      events = x.events;
      knows = x.knows;
      follows = x.follows;
      are = x.are;
    },
    λ x. record {
      place = x.place;
      within = x.within;
      state = x.state;
      at = (let lt = x.within in searched_state_was_at old new x.place x.state keeps (omega arith) x.at);
      events = x.events;
      knows = x.knows;
      follows = x.follows;
      are = x.are;
    },
  )

  searched_state_hangs_kept : (o : Option ℕ) → MatchOption o (FlatSearchHasNoHang s old n) (FlatSearchHasHang s old)
      → MatchOption o (FlatSearchHasNoHang s new n) (FlatSearchHasHang s new)
  searched_state_hangs_kept None h = λ place m g lt at knows. h place m g lt (searched_state_was_at old new place m keeps (omega arith) at) knows
  searched_state_hangs_kept (Some place) h = record {
    within = (
        let f = machine_step_some_at old place h.within in slice_get_within new place f.0 (keeps place f.0 f.1));
    hangs = λ m g at knows. h.hangs m g (searched_state_was_at old new place m keeps h.within at) knows;
  }

  searched_states_places_kept : (outcomes : List (ScriptOutcome × ℕ)) → AreFlatSearchPlaces s old outcomes → AreFlatSearchPlaces s new outcomes
  searched_states_places_kept outcomes of e has =
      let shown = of e has in
      record {
        within = (
            let f = machine_step_some_at old e.1 shown.within in slice_get_within new e.1 f.0 (keeps e.1 f.0 f.1));
        shows = λ m g at knows. shown.shows m g (searched_state_was_at old new e.1 m keeps shown.within at) knows;
      }

  pub searched_states_noted_kept : (x y : Search) → found_states x.found ≡ old → found_states y.found ≡ new
      → y.outcomes.entries ≡ x.outcomes.entries → y.hang ≡ x.hang → AreFlatSearchNotes s x n → AreFlatSearchNotes s y n
  searched_states_noted_kept x y is_old is_new outcomes hang noted =
      let shows = subst (λ ms. AreFlatSearchOutcomes s ms n (noted_outcomes x.outcomes.entries)) is_old noted.shown in
      let hung = subst (λ ms. MatchOption x.hang (FlatSearchHasNoHang s ms n) (FlatSearchHasHang s ms)) is_old noted.hang in
      record {
        shown =
            subst (λ ms. AreFlatSearchOutcomes s ms n (noted_outcomes y.outcomes.entries)) (sym is_new)
            (subst (λ (es : List (ScriptOutcome × ℕ)). AreFlatSearchOutcomes s new n (noted_outcomes es)) (sym outcomes) (record {
              each = λ replies. (
                λ has. (searched_states_shown_kept replies).0 ((shows.each replies).0 has),
                λ by. (shows.each replies).1 ((searched_states_shown_kept replies).1 by),
              );
              once = shows.once;
            }));
        places =
            subst (λ ms. AreFlatSearchPlaces s ms y.outcomes.entries) (sym is_new)
            (subst (AreFlatSearchPlaces s new) (sym outcomes)
            (searched_states_places_kept x.outcomes.entries (subst (λ ms. AreFlatSearchPlaces s ms x.outcomes.entries) is_old noted.places)));
        hang =
            subst (λ ms. MatchOption y.hang (FlatSearchHasNoHang s ms n) (FlatSearchHasHang s ms)) (sym is_new)
            (subst (λ o. MatchOption o (FlatSearchHasNoHang s new n) (FlatSearchHasHang s new)) (sym hang) (searched_state_hangs_kept x.hang hung));
      }

  searched_states_reduced_kept : (rows : List (Vec ScriptCall)) → IsFlatSearchReduced s rows old n → IsFlatSearchReduced s rows new n
  searched_states_reduced_kept rows reduced place m g lt at knows =
      searched_states_follows_more s rows (IsFoundByFreeRun s rows old) (IsFoundByFreeRun s rows new) g
      (λ h found. added_state_found_soon_kept s rows old new h keeps found)
      (reduced place m g lt (searched_state_was_at old new place m keeps (omega arith) at) knows)

  searched_states_quiet_kept : IsFlatSearchQuiet s old n → IsFlatSearchQuiet s new n
  searched_states_quiet_kept quiet place m g p q a b lt at knows = quiet place m g p q a b lt (searched_state_was_at old new place m keeps (omega arith) at) knows

-- before the first state is looked at
pub searched_states_start : (s : Plan) (x : Search) (rows : List (Vec ScriptCall)) → AreFoundStates s x.found → x.outcomes.entries ≡ []
    → x.hang ≡ None → FlatSearchedUpTo s x rows 0
searched_states_start s x rows found outcomes hang = record {
  found = found;
  within = omega arith;
  closed = λ place m g lt. absurd (omega arith);
  quiet = λ place m g p q a b lt. absurd (omega arith);
  noted = record {
    shown = subst (λ (es : List (ScriptOutcome × ℕ)). AreFlatSearchOutcomes s (found_states x.found) 0 (noted_outcomes es)) (sym outcomes) (record {
      each = λ replies. ((λ has. absurd (joined_list_has-nil replies has)), (λ by. absurd (let lt = by.within in omega arith)));
      once = joined_list_in_order-nil _;
    });
    places = subst (AreFlatSearchPlaces s (found_states x.found)) (sym outcomes) (λ e has. absurd (joined_list_has-nil e has));
    hang = subst (λ o. MatchOption o (FlatSearchHasNoHang s (found_states x.found) 0) (FlatSearchHasHang s (found_states x.found))) (sym hang)
        (λ place m g lt. absurd (omega arith));
  };
}

-- the state at this place is neither whole nor a hang
module _ (s : Plan) (states : List FlatState) (n : ℕ) (f : FlatState) (at : slice_get states n ≡ Some f)
    (unfinished : (g : List Event) → MachineKnows s g f → ¬ Follows s g) where
  searched_state_skipped_shown : (replies : List (List ℕ)) → IsShownByFlatSearch s states n replies ↔ IsShownByFlatSearch s states (n + 1) replies
  searched_state_skipped_shown replies = (
    λ x. record {
      place = x.place;
      within = (let lt = x.within in omega arith);
      state = x.state;
      at = x.at;
      events = x.events;
      knows = x.knows;
      follows = x.follows;
      are = x.are;
    },
    λ x. record {
      place = x.place;
      within = elim (cases_eq x.place n) [
        | inl is ↦
            (let same = same_Some x.state f (sym x.at ∙ ap (slice_get states) is ∙ at) in
            absurd (unfinished x.events (subst (MachineKnows s x.events) same x.knows) x.follows))
        | inr isnt ↦ (let lt = x.within in omega arith)
      ];
      state = x.state;
      at = x.at;
      events = x.events;
      knows = x.knows;
      follows = x.follows;
      are = x.are;
    },
  )

  pub searched_state_unfinished_shown : (x y : Search) → found_states x.found ≡ states → found_states y.found ≡ states
      → y.outcomes.entries ≡ x.outcomes.entries → AreFlatSearchOutcomes s (found_states x.found) n (noted_outcomes x.outcomes.entries)
      → AreFlatSearchOutcomes s (found_states y.found) (n + 1) (noted_outcomes y.outcomes.entries)
  searched_state_unfinished_shown x y is_x is_y outcomes old =
      subst (λ ms. AreFlatSearchOutcomes s ms (n + 1) (noted_outcomes y.outcomes.entries)) (sym is_y)
      (subst (λ (es : List (ScriptOutcome × ℕ)). AreFlatSearchOutcomes s states (n + 1) (noted_outcomes es)) (sym outcomes)
      (let shows = subst (λ ms. AreFlatSearchOutcomes s ms n (noted_outcomes x.outcomes.entries)) is_x old in
      record {
        each = λ replies. (
          λ has. (searched_state_skipped_shown replies).0 ((shows.each replies).0 has),
          λ by. (shows.each replies).1 ((searched_state_skipped_shown replies).1 by),
        );
        once = shows.once;
      }))

-- something may come next after it
module _ (s : Plan) (states : List FlatState) (n : ℕ) (f : FlatState) (at : slice_get states n ≡ Some f)
    (one : length s.sections ≡ s.processors)
    (goes : (g : List Event) → MachineKnows s g f → ((p : ℕ) (k : Kind) → ¬ IsFlatBeginning s (did g p k)) → ⊥) where
  searched_state_skipped_hang : (o : Option ℕ) → MatchOption o (FlatSearchHasNoHang s states n) (FlatSearchHasHang s states)
      → MatchOption o (FlatSearchHasNoHang s states (n + 1)) (FlatSearchHasHang s states)
  searched_state_skipped_hang None h = λ place m g lt here knows hang. elim (cases_eq place n) [
    | inl is ↦
        (let same = same_Some m f (sym here ∙ ap (slice_get states) is ∙ at) in
        goes g (subst (MachineKnows s g) same knows) hang.stuck)
    | inr isnt ↦ h place m g (omega arith) here knows hang
  ]
  searched_state_skipped_hang (Some place) h = h

  pub searched_states_noted_skip : (x : Search) → found_states x.found ≡ states → AreFlatSearchNotes s x n → AreFlatSearchNotes s x (n + 1)
  searched_states_noted_skip x is noted = record {
    shown =
        searched_state_unfinished_shown s states n f at (λ g knows follows. goes g knows (λ p k next. reduced_ends_whole s g p k one follows next))
        x x is is refl
        noted.shown;
    places = noted.places;
    hang = subst (λ ms. MatchOption x.hang (FlatSearchHasNoHang s ms (n + 1)) (FlatSearchHasHang s ms)) (sym is)
        (searched_state_skipped_hang x.hang (subst (λ ms. MatchOption x.hang (FlatSearchHasNoHang s ms n) (FlatSearchHasHang s ms)) is noted.hang));
  }

-- the state is a hang
searched_state_hung : (s : Plan) (states : List FlatState) (n : ℕ) (f : FlatState) → slice_get states n ≡ Some f
    → ((g : List Event) → MachineKnows s g f → IsFlatBeginningHanging s g) → (o : Option ℕ)
    → MatchOption o (FlatSearchHasNoHang s states n) (FlatSearchHasHang s states) → FlatSearchHasHang s states (unwrap_or o n)
searched_state_hung s states n f at hangs None h = record {
  within = slice_get_within states n f at;
  hangs = λ m g here knows. hangs g (subst (MachineKnows s g) (same_Some m f (sym here ∙ at)) knows);
}
searched_state_hung s states n f at hangs (Some place) h = h

pub searched_state_noted_hanging : (s : Plan) (x y : Search) (steps : List (Vec ScriptCall)) (n : ℕ) (f : FlatState) → MayNoteInFlatSearch s x steps n
    → slice_get (found_states x.found) n ≡ Some f → ((g : List Event) → MachineKnows s g f → ¬ Follows s g)
    → found_states y.found ≡ found_states x.found → y.outcomes.entries ≡ x.outcomes.entries
    → y.hang ≡ Some (unwrap_or x.hang n) → AreFlatSearchNotes s y (n + 1)
searched_state_noted_hanging s x y steps n f may at unfinished found outcomes hang =
    let is_hang : (g : List Event) → MachineKnows s g f → IsFlatBeginningHanging s g = λ g knows. record {
      beginning = knows.beginning;
      unfinished = unfinished g knows;
      stuck = λ p k next. may.over f at g p k knows next;
    } in
    record {
      shown = searched_state_unfinished_shown s (found_states x.found) n f at unfinished x y refl found outcomes may.noted.shown;
      places =
          subst (λ ms. AreFlatSearchPlaces s ms y.outcomes.entries) (sym found)
          (subst (AreFlatSearchPlaces s (found_states x.found)) (sym outcomes) may.noted.places);
      hang =
          subst (λ ms. MatchOption y.hang (FlatSearchHasNoHang s ms (n + 1)) (FlatSearchHasHang s ms)) (sym found)
          (subst (λ o. MatchOption o (FlatSearchHasNoHang s (found_states x.found) (n + 1)) (FlatSearchHasHang s (found_states x.found))) (sym hang)
          (searched_state_hung s (found_states x.found) n f at is_hang x.hang may.noted.hang));
    }

-- where a run is whole, what is kept is told
pub searched_state_kept_told : (s : Plan) (g : List Event) (m : FlatState) → length s.sections ≡ s.processors → Follows s g → MachineKnows s g m
    → AreOutcomeTellingReplies s m.telling g (machine_rows m.replies.items)
searched_state_kept_told s g m one follows knows =
    told_replies_rows_like s.processors (λ p. outcome_telling_kept m.telling p (outcome_telling_steps s p) (calls_of g p))
    (λ p. outcome_telling_replies m.telling p (outcome_telling_steps s p) 0 (calls_of g p)) (machine_rows m.replies.items)
    (λ p lt. told_reply_kept_whole m.telling p (outcome_telling_steps s p) (calls_of g p)
    ((prefix_beginning_whole_done s g knows.beginning).0 follows p (slice_index_or s.sections p []) (slice_get-get_or s.sections p [] (omega arith))))
    knows.replies

-- the state is whole
module _ (s : Plan) (x : Search) (steps : List (Vec ScriptCall)) (n : ℕ) (f : FlatState) (may : MayNoteInFlatSearch s x steps n)
    (at : slice_get (found_states x.found) n ≡ Some f) (whole : (g : List Event) → MachineKnows s g f → Follows s g) where
  searched_state_shows_own : IsShownByFlatSearch s (found_states x.found) (n + 1) (machine_rows f.replies.items)
  searched_state_shows_own =
      let g = may.found.known n f at in
      record {
        place = n;
        within = omega arith;
        state = f;
        at = at;
        events = g.0;
        knows = g.1;
        follows = whole g.0 g.1;
        are = searched_state_kept_told s g.0 f may.lawful.lawful.but_uneven.one_each (whole g.0 g.1) g.1;
      }

  searched_states_show_before : (replies : List (List ℕ)) → IsShownByFlatSearch s (found_states x.found) n replies
      → IsShownByFlatSearch s (found_states x.found) (n + 1) replies
  searched_states_show_before replies y = record {
    place = y.place;
    within = (let lt = y.within in omega arith);
    state = y.state;
    at = y.at;
    events = y.events;
    knows = y.knows;
    follows = y.follows;
    are = y.are;
  }

  searched_states_shown_cases : (replies : List (List ℕ)) → IsShownByFlatSearch s (found_states x.found) (n + 1) replies
      → IsShownByFlatSearch s (found_states x.found) n replies ⊎ (machine_rows f.replies.items ≡ replies)
  searched_states_shown_cases replies y = elim (cases_eq y.place n) [
    | inl is ↦
        (let same = same_Some y.state f (sym y.at ∙ ap (slice_get (found_states x.found)) is ∙ at) in
        let knows = subst (MachineKnows s y.events) same y.knows in
        inr (told_replies_same_rows s.processors (λ p. outcome_telling_replies f.telling p (outcome_telling_steps s p) 0 (calls_of y.events p)) (machine_rows f.replies.items)
        replies (searched_state_kept_told s y.events f may.lawful.lawful.but_uneven.one_each y.follows knows)
        (subst (λ m. AreOutcomeTellingReplies s m.telling y.events replies) same y.are)))
    | inr isnt ↦ inl (record {
      place = y.place;
      within = (let lt = y.within in omega arith);
      state = y.state;
      at = y.at;
      events = y.events;
      knows = y.knows;
      follows = y.follows;
      are = y.are;
    })
  ]

  searched_states_shown_next : (old new : List (List (List ℕ))) → AreFlatSearchOutcomes s (found_states x.found) n old
      → IsAmongNotedOutcomes old new (machine_rows f.replies.items) → AreFlatSearchOutcomes s (found_states x.found) (n + 1) new
  searched_states_shown_next old new shows (inl was) = record {
    each = λ replies. (
      λ has. searched_states_show_before replies ((shows.each replies).0 (subst (λ rs. Has rs replies) was.1 has)),
      λ by. subst (λ rs. Has rs replies) (sym was.1) (elim (searched_states_shown_cases replies by) [
        | inl before ↦ (shows.each replies).1 before
        | inr is ↦ subst (Has old) is was.0
      ]),
    );
    once = subst IsOnce (sym was.1) shows.once;
  }
  searched_states_shown_next old new shows (inr pushed) = record {
    each = λ replies. (
      λ has. elim ((joined_list_has-append old (machine_rows f.replies.items ∷ []) replies).0 (subst (λ rs. Has rs replies) pushed.1 has)) [
        | inl before ↦ searched_states_show_before replies ((shows.each replies).0 before)
        | inr now ↦ subst (IsShownByFlatSearch s (found_states x.found) (n + 1)) (one_of (machine_rows f.replies.items) replies now) searched_state_shows_own
      ],
      λ by. subst (λ rs. Has rs replies) (sym pushed.1)
          ((joined_list_has-append old (machine_rows f.replies.items ∷ []) replies).1 (elim (searched_states_shown_cases replies by) [
            | inl before ↦ inl ((shows.each replies).1 before)
            | inr is ↦ inr ((joined_list_has-cons (machine_rows f.replies.items) [] replies).1 (inl is))
          ])),
    );
    once =
        subst IsOnce (sym pushed.1)
        (joined_list_in_order-append (λ (a b : List (List ℕ)). a ≢ b) old (machine_rows f.replies.items ∷ []) shows.once
        (joined_list_in_order_single (λ (a b : List (List ℕ)). a ≢ b) (machine_rows f.replies.items))
        (λ a b has one same. pushed.0 (subst (Has old) (same ∙ sym (one_of (machine_rows f.replies.items) b one)) has)));
  }
    where
      one_of : (a b : List (List ℕ)) → Has (a ∷ []) b → a ≡ b
      one_of a b has = elim ((joined_list_has-cons a [] b).0 has) [ inl is ↦ is | inr none ↦ absurd (joined_list_has-nil b none) ]

  searched_state_whole_hang_kept : (o : Option ℕ) → MatchOption o (FlatSearchHasNoHang s (found_states x.found) n) (FlatSearchHasHang s (found_states x.found))
      → MatchOption o (FlatSearchHasNoHang s (found_states x.found) (n + 1)) (FlatSearchHasHang s (found_states x.found))
  searched_state_whole_hang_kept None h = λ place m g lt here knows hang. elim (cases_eq place n) [
    | inl is ↦
        (let same = same_Some m f (sym here ∙ ap (slice_get (found_states x.found)) is ∙ at) in
        hang.unfinished (whole g (subst (MachineKnows s g) same knows)))
    | inr isnt ↦ h place m g (omega arith) here knows hang
  ]
  searched_state_whole_hang_kept (Some place) h = h

  -- it shows what its replies tell
  searched_state_shows_at_place : IsShownAtFlatSearchPlace s (found_states x.found) (machine_rows f.replies.items) n
  searched_state_shows_at_place = record {
    within = slice_get_within (found_states x.found) n f at;
    shows = λ m g here knows.
        let same = same_Some f m (sym at ∙ here) in
        subst (λ z. Follows s g × AreOutcomeTellingReplies s z.telling g (machine_rows f.replies.items)) same
        (let of_f = subst (MachineKnows s g) (sym same) knows in
        let follows = whole g of_f in
        (follows, searched_state_kept_told s g f may.lawful.lawful.but_uneven.one_each follows of_f));
  }

  searched_state_places_next : (old new : List (ScriptOutcome × ℕ)) → AreFlatSearchPlaces s (found_states x.found) old
      → IsNotedOutcome old new (machine_rows f.replies.items) (λ place. place ≡ n) → AreFlatSearchPlaces s (found_states x.found) new
  searched_state_places_next old new of noted =
      noted_outcome_each (λ (e : ScriptOutcome × ℕ). IsShownAtFlatSearchPlace s (found_states x.found) (explored_outcome e.0) e.1) (λ place. place ≡ n) old new
      (machine_rows f.replies.items) noted
      (λ e shows is. subst (IsShownAtFlatSearchPlace s (found_states x.found) (explored_outcome e.0)) (sym is)
      (subst (λ rs. IsShownAtFlatSearchPlace s (found_states x.found) rs n) (sym shows) searched_state_shows_at_place)) of

  pub searched_state_noted_whole : (y : Search) → found_states y.found ≡ found_states x.found → y.hang ≡ x.hang
      → IsNotedOutcome x.outcomes.entries y.outcomes.entries (machine_rows f.replies.items) (λ place. place ≡ n) → AreFlatSearchNotes s y (n + 1)
  searched_state_noted_whole y found hang noted = record {
    shown =
        subst (λ ms. AreFlatSearchOutcomes s ms (n + 1) (noted_outcomes y.outcomes.entries)) (sym found)
        (searched_states_shown_next (noted_outcomes x.outcomes.entries) (noted_outcomes y.outcomes.entries) may.noted.shown
        (noted_outcome_among (λ place. place ≡ n) x.outcomes.entries y.outcomes.entries (machine_rows f.replies.items) noted));
    places =
        subst (λ ms. AreFlatSearchPlaces s ms y.outcomes.entries) (sym found)
        (searched_state_places_next x.outcomes.entries y.outcomes.entries may.noted.places noted);
    hang =
        subst (λ ms. MatchOption y.hang (FlatSearchHasNoHang s ms (n + 1)) (FlatSearchHasHang s ms)) (sym found)
        (subst (λ o. MatchOption o (FlatSearchHasNoHang s (found_states x.found) (n + 1)) (FlatSearchHasHang s (found_states x.found))) (sym hang)
        (searched_state_whole_hang_kept x.hang may.noted.hang));
  }

-- a state more was looked at
pub searched_states_next : {s : Plan} {x : Search} {steps : List (Vec ScriptCall)} {n : ℕ} (z : Search)
    (nexts chosen : List (Option Kind)) → HasMoreToFlatSearch s x steps n
    → ((m : FlatState) → slice_get (found_states x.found) n ≡ Some m → AreNexts s m nexts)
    → ((p q : ℕ) (a b : Kind) → ¬ AreNextInConflict nexts p q a b)
    → ((m : FlatState) (g : List Event) → slice_get (found_states x.found) n ≡ Some m → MachineKnows s g m → IsFreeChoice steps g nexts chosen)
    → AreFollowedStates s steps x.found z.found n chosen (length chosen) → AreFlatSearchNotes s z (n + 1) → FlatSearchedUpTo s z steps (n + 1)
searched_states_next {s} {x} {steps} {n} z nexts chosen may are none choice followed noted =
    let old = found_states x.found in
    let new = found_states z.found in
    let f = machine_step_some_at old n may.more in
    record {
      found = followed.found;
      within = (let lt = slice_get_within new n f.0 (followed.keeps n f.0 f.1) in omega arith);
      closed = λ place m g lt at knows. elim (cases_eq place n) [
        | inl is ↦
            now m g (searched_state_was_at old new n m followed.keeps may.more (subst (λ i. slice_get new i ≡ Some m) is at)) knows
        | inr isnt ↦
            searched_states_reduced_kept s old new n followed.keeps may.searched.within steps may.searched.closed place m g (omega arith) at knows
      ];
      quiet = λ place m g p q a b lt at knows first second apart conflict. elim (cases_eq place n) [
        | inl is ↦
            (let here = searched_state_was_at old new n m followed.keeps may.more (subst (λ i. slice_get new i ≡ Some m) is at) in
            let all = are m here g knows in
            none p q a b (record { apart = apart; first = (all p a).1 first; second = (all q b).1 second; conflict = conflict }))
        | inr isnt ↦
            searched_states_quiet_kept s old new n followed.keeps may.searched.within may.searched.quiet place m g p q a b (omega arith) at knows
            first second apart conflict
      ];
      noted = noted;
    }
  where
    -- an event that was chosen is followed
    known : (m : FlatState) (g : List Event) (p : ℕ) (k : Kind) → slice_get (found_states x.found) n ≡ Some m → MachineKnows s g m
        → slice_index_or chosen p None ≡ Some k → IsFoundByFreeRun s steps (found_states z.found) (did g p k)
    known m g p k here knows told = elim (cases_lt p (length chosen)) [
      | inl less ↦ followed.known m g p k less here knows told
      | inr over ↦ absurd (none-some k (sym (get_or_past chosen p None over) ∙ told))
    ]

    now : (m : FlatState) (g : List Event) → slice_get (found_states x.found) n ≡ Some m → MachineKnows s g m
        → FlatSearchFollows s steps (IsFoundByFreeRun s steps (found_states z.found)) g
    now m g here knows =
        chosen_follows s steps may.lawful g nexts chosen (IsFoundByFreeRun s steps (found_states z.found)) (are m here g knows)
        m.waiting knows.waiting (λ p k told. known m g p k here knows told) (choice m g here knows)

-- where all states are looked at, no kind of end is missed
module _ (s : Plan) (x : Search) (steps : List (Vec ScriptCall)) (lawful : AreLawfulMachineSteps s steps)
    (searched : FlatSearchedUpTo s x steps (length (found_states x.found))) where
  searched_state_followed : (h : List Event) → IsFoundState s (found_states x.found) h
      → FlatSearchFollows s steps (IsFoundByFreeRun s steps (found_states x.found)) h
  searched_state_followed h known =
      searched.closed known.place known.state h (slice_get_within (found_states x.found) known.place known.state known.at) known.at known.knows

  -- a state that was found has what lasts, if some prefix has it
  pub searched_states_reach_lasting : (T : List Event → Type 0) → IsReachingLasting s steps T → (g : List Event) → IsFlatBeginning s g → T g
      → IsReached (IsFoundState s (found_states x.found)) T
  searched_states_reach_lasting T lasting g begins has =
      soon_reached s steps (found_states x.found) T lasting
      (reached s steps lawful (IsFoundByFreeRun s steps (found_states x.found)) T lasting
      (soon_followed s steps (found_states x.found) searched_state_followed)
      (soon_now s steps (found_states x.found) [] (searched_states_first_found s x.found searched.found)) g begins has)

  pub searched_states_none_hangs : FlatSearchHasNoHang s (found_states x.found) (length (found_states x.found)) → (g : List Event) → ¬ IsFlatBeginningHanging s g
  searched_states_none_hangs none g hang =
      let r = searched_states_reach_lasting (IsFlatBeginningHanging s) (reduced_ends_hang_lasts s steps) g hang.beginning hang in
      let known = r.found in
      none known.place known.state r.events (slice_get_within (found_states x.found) known.place known.state known.at) known.at
      known.knows r.has

  pub searched_states_without_neighbours : PrefixHasNoNeighbours s
  searched_states_without_neighbours g p q a b first second apart conflict =
      let begins = ((prefix_beginning_next s g p a).0 first).0 in
      let r = searched_states_reach_lasting (ReducedEndsInConflict s) (reduced_ends_conflict_lasts s steps lawful) g begins
      (record { p = p; q = q; a = a; b = b; first = first; second = second; apart = apart; conflict = conflict }) in
      let known = r.found in
      let c = r.has in
      searched.quiet known.place known.state r.events c.p c.q c.a c.b
      (slice_get_within (found_states x.found) known.place known.state known.at) known.at known.knows c.first c.second c.apart
      c.conflict

  pub searched_states_all_outcomes : (d : Detail) → x.found.first.telling ≡ outcome_telling_of_script s d
      → AreAllOutcomesExplored s d (noted_outcomes x.outcomes.entries)
  searched_states_all_outcomes d tells replies outcome =
      let t = outcome_telling_of_script s d in
      let r = searched_states_reach_lasting (ReducedEndsShowing s t replies)
      (reduced_ends_shows_last s t steps replies lawful.lawful.but_uneven.one_each) outcome.0 outcome.1.beginning (record { follows = outcome.1.follows; are = outcome.2 }) in
      let known = r.found in
      (searched.noted.shown.each replies).1 (record {
        place = known.place;
        within = slice_get_within (found_states x.found) known.place known.state known.at;
        state = known.state;
        at = known.at;
        events = r.events;
        knows = known.knows;
        follows = r.has.follows;
        are = subst (λ u. AreOutcomeTellingReplies s u r.events replies) (sym (searched.found.told known.place known.state known.at ∙ tells)) r.has.are;
      })

pub searched_states_some_outcomes : (s : Plan) (d : Detail) (x : Search) (steps : List (Vec ScriptCall)) (n : ℕ)
    → x.found.first.telling ≡ outcome_telling_of_script s d → FlatSearchedUpTo s x steps n
    → AreExploredOutcomes s d (noted_outcomes x.outcomes.entries)
searched_states_some_outcomes s d x steps n tells searched = record {
  each = λ replies has.
      let by = (searched.noted.shown.each replies).0 has in (
        by.events,
        record { beginning = by.knows.beginning; follows = by.follows },
        subst (λ t. AreOutcomeTellingReplies s t by.events replies) (searched.found.told by.place by.state by.at ∙ tells) by.are,
      );
  once = searched.noted.shown.once;
}

-- what is open is so where no two events conflict and not all states were looked at
pub searched_states_open_only : (o : Option Met) (race_free through : Bool) (v : Verdict) (h : Hanging) → IsFlatSearchVerdictOpen o race_free v
    → IsFlatSearchHangingOpen through h → (race_free ≡ false → through ≡ false) → explored_settles v h through ≡ false
    → (o ≡ None) × (through ≡ false)
searched_states_open_only o race_free through verdict.RaceFree hanging.Never none opens both is = (none, is)
searched_states_open_only o race_free through verdict.RaceFree (hanging.Hangs hang) none opens both is = (none, is)
searched_states_open_only o race_free through verdict.RaceFree hanging.Undecided none opens both is = (none, opens)
searched_states_open_only o race_free through (verdict.Racy racy) h none opens both is = absurd (false≢true (sym is))
searched_states_open_only o race_free through verdict.Undecided h none opens both is = (none.0, both none.1)
