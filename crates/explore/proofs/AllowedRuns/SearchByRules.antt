-- A search by the rules, beginning by beginning: what is seen is there once, and what the rules allow isn't lost.
use Rattle.std.proofs.Common.{ℕ, zero, suc, ◌≡◌, ◌≢◌, ◌+◌, ◌<◌, ◌⊎◌, inl, inr, false, List, [], ◌∷◌, ◌++◌, Option, Some, length, map, slice_get, refl, sym, ap, subst, ◌∙◌, append_assoc, append-nil, length-append, arith, IsTrue}
use Rattle.std.specs.Prelude.{None, slice_index_or}
use Rattle.std.specs.Global.{Vec}
use Rattle.std.proofs.lemmas.List.{map-append}
use Rattle.std.proofs.lemmas.Option.{none-some, same_Some, slice_get_within}
use Rattle.base.specs.InOrderOnce.{Has, InOrder, IsOnce}
use Rattle.base.proofs.JoinedLists.{joined_list_has-append, joined_list_has-cons, joined_list_has-nil, joined_list_has-map, joined_list_in_order-append, joined_list_in_order-nil, joined_list_in_order_single}
use Rattle.base.proofs.SlicesAndCounts.{slice_get-append_left, slice_get-last}
use Rattle.journal.specs.declared.event.Event.{Event}
use Rattle.journal.specs.declared.event.Kind.{Kind}
use Rattle.lrc_script.specs.Lawful.{IsLawful}
use Rattle.lrc_script.specs.Plan.{Plan}
use Rattle.conformance.specs.Follows.{Follows, calls_of}
use Rattle.explore.specs.declared.rules.showing.AllowedOutcomes.{AllowedOutcomes}
use Rattle.explore.specs.declared.rules.beginning.AllowedBeginning.{AllowedBeginning}
use Rattle.explore.specs.declared.rules.search.AllowedSearch.{AllowedSearch}
use Rattle.explore.specs.declared.outcomes.telling.Detail.{Detail}
use Rattle.explore.specs.declared.outcomes.showing.ShownRun.{ShownRun}
use Rattle.explore.specs.declared.outcomes.telling.OutcomeTelling.{OutcomeTelling}
use Rattle.explore.specs.AllowedRuns.{IsAllowedRunShowing, shown_run_outcome, AreAllowedRunOutcomes, HasAllowedRunBeginnings, IsAllowedRunBeginning, IsAllowedRunOutcome, IsAllowedRun}
use Rattle.explore.specs.AllowedBeginnings.{AreAllowedBeginningCallsFollowed, AreAllowedBeginningCalls, AreAllowedBeginningCallsPlain, IsAllowedBeginningChoice, IsAllowedBeginningEventChosen, AllowedBeginningMayCall, TellsAllowedBeginning, allowed_beginning_events}
use Rattle.explore.specs.AllowedRoom.{allowed_room_at_most}
use Rattle.explore.specs.AllowedSearch.{AreAllowedSearchListsApart, AreAllowedSearchRuns, AllowedSearchCanShow, IsAllowedSearchFollowed, IsAllowedSearchFront, IsAllowedSearchStep, IsAllowedSearched, IsNotLostByAllowedSearch, allowed_search_found}
use Rattle.explore.specs.declared.outcomes.answer.ScriptOutcome.{ScriptOutcome}
use Rattle.explore.specs.Explored.{explored_outcome}
use Rattle.explore.specs.NotedOutcomes.{IsNotedOutcome, noted_outcomes}
use Rattle.explore.specs.OutcomeTelling.{AreOutcomeTellingReplies, outcome_telling_of_script, outcome_telling_replies, outcome_telling_steps}
use Rattle.explore.specs.Prefixes.ScriptCalls.{script_calls_of_section, script_calls_shown_by}
use Rattle.explore.proofs.MachineSteps.{machine_step_some_at}
use Rattle.explore.proofs.NotedOutcomes.{IsAmongNotedOutcomes, noted_outcome_among, noted_outcome_each}
use Rattle.explore.proofs.PrefixRuns.SectionCalls.{section_calls_follows_length}
use Rattle.explore.proofs.ToldReplies.{told_replies_same_rows}
use Rattle.explore.proofs.AllowedRuns.Commuting.{commuting_all_show, commuting_one_shows}
use Rattle.explore.proofs.AllowedRuns.NextAllowed.{next_allowed_of_front, next_allowed_exactly}

-- what the loads of a history answer is one
rules_search_same_replies : (s : Plan) (t : OutcomeTelling) (g : List Event) (a b : List (List ℕ)) → AreOutcomeTellingReplies s t g a → AreOutcomeTellingReplies s t g b → a ≡ b
rules_search_same_replies s t g a b first second =
    told_replies_same_rows s.processors (λ p. outcome_telling_replies t p (outcome_telling_steps s p) 0 (calls_of g p)) a b first second

-- g with one event more is longer
rules_search_longer_by_one : (g : List Event) (e : Event) → length (g ++ e ∷ []) ≡ length g + 1
rules_search_longer_by_one g e = length-append g (e ∷ [])

-- neither of two begins the other, if they are as long, and differ
rules_search_front_as_long : (g h : List Event) → length g ≡ length h → IsAllowedSearchFront g h → g ≡ h
rules_search_front_as_long g h long front = go front.0 front.1
  where
    go : (more : List Event) → h ≡ g ++ more → g ≡ h
    go [] is = sym (append-nil g) ∙ sym is
    go (e ∷ more) is =
        let one = ap (λ (es : List Event). length es) is in
        let two = length-append g (e ∷ more) in
        absurd (omega arith)

-- what g with an event more begins, g begins
rules_search_front_shorter : (g h : List Event) (e : Event) → IsAllowedSearchFront (g ++ e ∷ []) h → IsAllowedSearchFront g h
rules_search_front_shorter g h e front = (e ∷ front.0, front.1 ∙ append_assoc g (e ∷ []) front.0)

-- what begins g with an event more is that, or begins g
rules_search_front_of_longer : (g h : List Event) (e : Event) → IsAllowedSearchFront h (g ++ e ∷ []) → (h ≡ g ++ e ∷ []) ⊎ IsAllowedSearchFront h g
rules_search_front_of_longer g h e front = go g h front.0 front.1
  where
    go : (g h more : List Event) → g ++ e ∷ [] ≡ h ++ more → (h ≡ g ++ e ∷ []) ⊎ IsAllowedSearchFront h g
    go g [] more is = inr (g, refl)
    go [] (f ∷ h) more is = inl (last h more f is)
      where
        last : (h more : List Event) (f : Event) → e ∷ [] ≡ f ∷ (h ++ more) → f ∷ h ≡ e ∷ []
        last [] more f is = let own : e ≡ f = cc in ap (λ (x : Event). x ∷ []) (sym own)
        last (z ∷ h) more f is = absurd (let rest : [] ≡ z ∷ (h ++ more) = cc in cc)
    go (x ∷ g) (f ∷ h) more is =
        let first : x ≡ f = cc in
        let rest : g ++ e ∷ [] ≡ h ++ more = cc in
        elim (go g h more rest) [
          | inl all ↦ inl (ap (λ (es : List Event). f ∷ es) all ∙ ap (λ (y : Event). y ∷ (g ++ e ∷ [])) (sym first))
          | inr begins ↦ inr (begins.0, ap (λ (es : List Event). x ∷ es) begins.1 ∙ ap (λ (y : Event). y ∷ (h ++ begins.0)) first)
        ]

-- the first lists of a list in order, and the last one
rules_search_order_front : (R : List Event → List Event → Type 0) (xs ys : List (List Event)) → InOrder R (xs ++ ys) → InOrder R xs
rules_search_order_front R xs ys h i k a b lt at_a at_b =
    h i k a b lt (slice_get-append_left xs ys i (within xs i a at_a) ∙ at_a) (slice_get-append_left xs ys k (within xs k b at_b) ∙ at_b)
  where
    within : (zs : List (List Event)) (n : ℕ) (z : List Event) → slice_get zs n ≡ Some z → n < length zs
    within [] n z at = absurd (none-some z at)
    within (y ∷ zs) zero z at = omega arith
    within (y ∷ zs) (suc n) z at = let lt = within zs n z at in omega arith

rules_search_order_last : (R : List Event → List Event → Type 0) (xs : List (List Event)) (y x : List Event) → InOrder R (xs ++ y ∷ []) → Has xs x → R x y
rules_search_order_last R xs y x h has =
    h has.0 (length xs) x y (within xs has.0 x has.1) (slice_get-append_left xs (y ∷ []) has.0 (within xs has.0 x has.1) ∙ has.1) (slice_get-last xs y)
  where
    within : (zs : List (List Event)) (n : ℕ) (z : List Event) → slice_get zs n ≡ Some z → n < length zs
    within [] n z at = absurd (none-some z at)
    within (w ∷ zs) zero z at = omega arith
    within (w ∷ zs) (suc n) z at = let lt = within zs n z at in omega arith

-- g, the last open list, is seen, and g with each of these events is open in its place
module _ (seen rest : List (List Event)) (g : List Event) (events : List Event) (once : IsOnce events)
    (old : AreAllowedSearchListsApart seen (rest ++ g ∷ [])) where
  abbrev rules_search_children : List (List Event)
  rules_search_children = map (λ (e : Event). g ++ e ∷ []) events

  rules_search_last_pending : Has (rest ++ g ∷ []) g
  rules_search_last_pending = (joined_list_has-append rest (g ∷ []) g).1 (inr ((joined_list_has-cons g [] g).1 (inl refl)))

  rules_search_rest_pending : (h : List Event) → Has rest h → Has (rest ++ g ∷ []) h
  rules_search_rest_pending h has = (joined_list_has-append rest (g ∷ []) h).1 (inl has)

  rules_search_child : (h : List Event) → Has rules_search_children h → (e : Event) × (g ++ e ∷ [] ≡ h)
  rules_search_child h has = let one = (joined_list_has-map (λ (e : Event). g ++ e ∷ []) events h).0 has in (one.0, one.2)

  rules_search_no_front : (h x : List Event) → Has (rest ++ rules_search_children) h → Has (seen ++ g ∷ []) x → ¬ IsAllowedSearchFront h x
  rules_search_no_front h x has there front = elim ((joined_list_has-append rest rules_search_children h).0 has) [
    | inl was ↦ elim ((joined_list_has-append seen (g ∷ []) x).0 there) [
      | inl before ↦ old.no_front h x (rules_search_rest_pending h was) before front
      | inr now ↦ elim ((joined_list_has-cons g [] x).0 now) [
        | inl is ↦
            (rules_search_order_last (λ (c d : List Event). (¬ IsAllowedSearchFront c d) × (¬ IsAllowedSearchFront d c)) rest g h old.apart was).0
            (subst (IsAllowedSearchFront h) (sym is) front)
        | inr none ↦ joined_list_has-nil x none
      ]
    ]
    | inr child ↦
        (let one = rules_search_child h child in
        let begins = rules_search_front_shorter g x one.0 (subst (λ c. IsAllowedSearchFront c x) (sym one.1) front) in
        elim ((joined_list_has-append seen (g ∷ []) x).0 there) [
          | inl before ↦ old.no_front g x rules_search_last_pending before begins
          | inr now ↦ elim ((joined_list_has-cons g [] x).0 now) [
            | inl is ↦
                (let both = subst (λ c. IsAllowedSearchFront c x) (sym one.1) front in
                let long = ap (λ (es : List Event). length es) (subst (λ d. d ≡ (g ++ one.0 ∷ []) ++ both.0) (sym is) both.1) in
                let sum = length-append (g ++ one.0 ∷ []) both.0 in
                let more = rules_search_longer_by_one g one.0 in
                absurd (omega (arith, long, sum, more)))
            | inr none ↦ joined_list_has-nil x none
          ]
        ])
  ]

  rules_search_seen_once : IsOnce (seen ++ g ∷ [])
  rules_search_seen_once =
      joined_list_in_order-append (λ (c d : List Event). c ≢ d) seen (g ∷ []) old.once (joined_list_in_order_single (λ (c d : List Event). c ≢ d) g)
      (λ c d here there same. elim ((joined_list_has-cons g [] d).0 there) [
        | inl is ↦ old.no_front g c rules_search_last_pending here ([], same ∙ sym is ∙ sym (append-nil g))
        | inr none ↦ joined_list_has-nil d none
      ])

  rules_search_child_at : (es : List Event) (i : ℕ) (c : List Event) → slice_get (map (λ (e : Event). g ++ e ∷ []) es) i ≡ Some c
      → (e : Event) × (slice_get es i ≡ Some e) × (g ++ e ∷ [] ≡ c)
  rules_search_child_at [] i c at = absurd (none-some c at)
  rules_search_child_at (e ∷ es) zero c at = (e, refl, same_Some (g ++ e ∷ []) c at)
  rules_search_child_at (e ∷ es) (suc i) c at = rules_search_child_at es i c at

  rules_search_event_of_child : (h : List Event) (e f : Event) → h ++ e ∷ [] ≡ h ++ f ∷ [] → e ≡ f
  rules_search_event_of_child [] e f is = cc
  rules_search_event_of_child (x ∷ h) e f is = rules_search_event_of_child h e f (let rest_is : h ++ e ∷ [] ≡ h ++ f ∷ [] = cc in rest_is)

  rules_search_children_apart : InOrder (λ (c d : List Event). (¬ IsAllowedSearchFront c d) × (¬ IsAllowedSearchFront d c)) rules_search_children
  rules_search_children_apart i k c d lt at_c at_d =
      let one = rules_search_child_at events i c at_c in
      let two = rules_search_child_at events k d at_d in
      let differ = once i k one.0 two.0 lt one.1 two.1 in
      let first = ap (λ (es : List Event). length es) one.2 in
      let second = ap (λ (es : List Event). length es) two.2 in
      let three = rules_search_longer_by_one g one.0 in
      let four = rules_search_longer_by_one g two.0 in
      let long : length c ≡ length d = omega (arith, first, second, three, four) in (
        (λ front. differ (rules_search_event_of_child g one.0 two.0 (one.2 ∙ rules_search_front_as_long c d long front ∙ sym two.2))),
        (λ front. differ (rules_search_event_of_child g one.0 two.0 (one.2 ∙ sym (rules_search_front_as_long d c (sym long) front) ∙ sym two.2))),
      )

  pub rules_search_apart_next : AreAllowedSearchListsApart (seen ++ g ∷ []) (rest ++ rules_search_children)
  rules_search_apart_next = record {
    once = rules_search_seen_once;
    no_front = rules_search_no_front;
    apart =
        joined_list_in_order-append (λ (c d : List Event). (¬ IsAllowedSearchFront c d) × (¬ IsAllowedSearchFront d c)) rest rules_search_children
        (rules_search_order_front (λ (c d : List Event). (¬ IsAllowedSearchFront c d) × (¬ IsAllowedSearchFront d c)) rest (g ∷ []) old.apart) rules_search_children_apart
        (λ h x was child.
        let both = rules_search_order_last (λ (c d : List Event). (¬ IsAllowedSearchFront c d) × (¬ IsAllowedSearchFront d c)) rest g h old.apart was in
        let one = rules_search_child x child in (
          (λ front. elim (rules_search_front_of_longer g h one.0 (subst (IsAllowedSearchFront h) (sym one.1) front)) [
            | inl is ↦ both.1 (one.0 ∷ [], is)
            | inr begins ↦ both.0 begins
          ]),
          (λ front. both.1 (rules_search_front_shorter g h one.0 (subst (λ c. IsAllowedSearchFront c h) (sym one.1) front))),
        ));
  }

-- before the first event
pub rules_search_start : (s : Plan) (detail : Detail) (b : AllowedBeginning) (x : AllowedSearch) → x.pending.items ≡ b ∷ [] → x.outcomes.entries ≡ []
    → TellsAllowedBeginning s b → allowed_beginning_events b ≡ [] → IsAllowedSearched s detail 0 x
rules_search_start s detail b x is none known empty = record {
  seen = [];
  many = refl;
  seen_each = λ g has. absurd (joined_list_has-nil g has);
  apart = subst (λ (bs : List AllowedBeginning). AreAllowedSearchListsApart [] (map allowed_beginning_events bs)) (sym is) (record {
    once = joined_list_in_order-nil (λ (c d : List Event). c ≢ d);
    no_front = λ g h open_there seen_there. absurd (joined_list_has-nil h seen_there);
    apart = joined_list_in_order_single (λ (c d : List Event). (¬ IsAllowedSearchFront c d) × (¬ IsAllowedSearchFront d c)) (allowed_beginning_events b);
  });
  known = λ other has. elim ((joined_list_has-cons b [] other).0 (subst (λ (bs : List AllowedBeginning). Has bs other) is has)) [
    | inl own ↦ subst (TellsAllowedBeginning s) own known
    | inr nothing ↦ absurd (joined_list_has-nil other nothing)
  ];
  runs = subst (AreAllowedSearchRuns s detail) (sym none) (λ e has. absurd (joined_list_has-nil e has));
  once = subst (λ (es : List (ScriptOutcome × Vec Event)). IsOnce (noted_outcomes es)) (sym none) (joined_list_in_order-nil (λ (c d : List (List ℕ)). c ≢ d));
  none_lost = λ replies outcome. inr (
    b,
    subst (λ (bs : List AllowedBeginning). Has bs b) (sym is) (0, refl),
    record {
      more = outcome.0;
      run = subst (λ g. IsAllowedRun s (g ++ outcome.0)) (sym empty) outcome.1;
      are = subst (λ g. AreOutcomeTellingReplies s (outcome_telling_of_script s detail) (g ++ outcome.0) replies) (sym empty) outcome.2;
    },
  );
}

-- one more beginning is looked at
pub rules_search_next : (s : Plan) (detail : Detail) (n : ℕ) (b : AllowedBeginning) (rest : List AllowedBeginning) (x y z : AllowedSearch)
    → IsAllowedSearched s detail n x → x.pending.items ≡ rest ++ b ∷ [] → y.pending.items ≡ rest → y.outcomes ≡ x.outcomes
    → IsAllowedSearchStep s detail (allowed_beginning_events b) y z → IsAllowedSearched s detail (n + 1) z
rules_search_next s detail n b rest x y z old was now same looked = record {
  seen = old.seen ++ (allowed_beginning_events b) ∷ [];
  many = (let one = length-append old.seen ((allowed_beginning_events b) ∷ []) in let count = old.many in omega (arith, one, count));
  seen_each = λ h has. elim ((joined_list_has-append old.seen ((allowed_beginning_events b) ∷ []) h).0 has) [
    | inl before ↦ old.seen_each h before
    | inr last ↦ elim ((joined_list_has-cons (allowed_beginning_events b) [] h).0 last) [
      | inl own ↦ subst (IsAllowedRunBeginning s) own own_known.beginning
      | inr none ↦ absurd (joined_list_has-nil h none)
    ]
  ];
  apart = subst (AreAllowedSearchListsApart (old.seen ++ (allowed_beginning_events b) ∷ [])) (sym opened)
      (rules_search_apart_next old.seen (map allowed_beginning_events rest) (allowed_beginning_events b) looked.events looked.events_once
      (subst (AreAllowedSearchListsApart old.seen) (ap (λ (bs : List AllowedBeginning). map allowed_beginning_events bs) was ∙ map-append allowed_beginning_events rest (b ∷ [])) old.apart));
  known = λ other has. elim ((joined_list_has-append rest looked.lengthened.more other).0 (subst (λ (bs : List AllowedBeginning). Has bs other) behind has)) [
    | inl before ↦ old.known other (subst (λ (bs : List AllowedBeginning). Has bs other) (sym was) ((joined_list_has-append rest (b ∷ []) other).1 (inl before)))
    | inr more ↦ looked.lengthened.known other more
  ];
  runs = looked.runs (subst (λ o. AreAllowedSearchRuns s detail o.entries) (sym same) old.runs);
  once = looked.once (subst (λ o. IsOnce (noted_outcomes o.entries)) (sym same) old.once);
  none_lost = λ replies outcome. elim (old.none_lost replies outcome) [
    | inl found ↦ inl (looked.keeps replies (found_after replies found))
    | inr waits ↦ still replies waits.0 waits.1 waits.2
  ];
}
  where
    own_known : TellsAllowedBeginning s b
    own_known =
        old.known b (subst (λ (bs : List AllowedBeginning). Has bs b) (sym was)
        ((joined_list_has-append rest (b ∷ []) b).1 (inr ((joined_list_has-cons b [] b).1 (inl refl)))))

    behind : z.pending.items ≡ rest ++ looked.lengthened.more
    behind = looked.lengthened.behind ∙ ap (λ (bs : List AllowedBeginning). bs ++ looked.lengthened.more) now

    opened : map allowed_beginning_events z.pending.items ≡ map allowed_beginning_events rest ++ map (λ (e : Event). (allowed_beginning_events b) ++ e ∷ []) looked.events
    opened =
        ap (λ (bs : List AllowedBeginning). map allowed_beginning_events bs) behind ∙ map-append allowed_beginning_events rest looked.lengthened.more
        ∙ ap (λ (es : List (List Event)). map allowed_beginning_events rest ++ es) looked.lengthened.are

    found_after : (replies : List (List ℕ)) → Has (allowed_search_found x) replies → Has (allowed_search_found y) replies
    found_after replies has = subst (λ o. Has (noted_outcomes o.entries) replies) (sym same) has

    still : (replies : List (List ℕ)) (other : AllowedBeginning) → Has x.pending.items other → AllowedSearchCanShow s detail (allowed_beginning_events other) replies
        → IsNotLostByAllowedSearch s detail z replies
    still replies other has shows = elim ((joined_list_has-append rest (b ∷ []) other).0 (subst (λ (bs : List AllowedBeginning). Has bs other) was has)) [
      | inl before ↦ inr (
        other,
        subst (λ (bs : List AllowedBeginning). Has bs other) (sym behind) ((joined_list_has-append rest looked.lengthened.more other).1 (inl before)),
        shows,
      )
      | inr last ↦ elim ((joined_list_has-cons b [] other).0 last) [
        | inl own ↦ elim (looked.none_lost replies (subst (λ (c : AllowedBeginning). AllowedSearchCanShow s detail (allowed_beginning_events c) replies) (sym own) shows)) [
          | inl found ↦ inl found
          | inr on ↦
              (let there = (joined_list_has-map (λ (e : Event). (allowed_beginning_events b) ++ e ∷ []) looked.events ((allowed_beginning_events b) ++ on.0 ∷ [])).1 (on.0, on.1, refl) in
              let child = (joined_list_has-map allowed_beginning_events looked.lengthened.more ((allowed_beginning_events b) ++ on.0 ∷ [])).0
              (subst (λ (es : List (List Event)). Has es ((allowed_beginning_events b) ++ on.0 ∷ [])) (sym looked.lengthened.are) there) in
              inr (
                child.0,
                subst (λ (bs : List AllowedBeginning). Has bs child.0) (sym behind)
                    ((joined_list_has-append rest looked.lengthened.more child.0).1 (inr child.1)),
                subst (λ h. AllowedSearchCanShow s detail h replies) (sym child.2) on.2,
              ))
        ]
        | inr none ↦ absurd (joined_list_has-nil other none)
      ]
    ]

-- the same of a search that has the same
pub rules_search_same : (s : Plan) (detail : Detail) (n : ℕ) (x y : AllowedSearch) → y.pending.items ≡ x.pending.items → y.outcomes ≡ x.outcomes
    → IsAllowedSearched s detail n x → IsAllowedSearched s detail n y
rules_search_same s detail n x y pending outcomes old = record {
  seen = old.seen;
  many = old.many;
  seen_each = old.seen_each;
  apart = subst (λ (bs : List AllowedBeginning). AreAllowedSearchListsApart old.seen (map allowed_beginning_events bs)) (sym pending) old.apart;
  known = λ b has. old.known b (subst (λ (bs : List AllowedBeginning). Has bs b) pending has);
  runs = subst (λ o. AreAllowedSearchRuns s detail o.entries) (sym outcomes) old.runs;
  once = subst (λ o. IsOnce (noted_outcomes o.entries)) (sym outcomes) old.once;
  none_lost = λ r outcome. elim (old.none_lost r outcome) [
    | inl found ↦ inl (subst (λ o. Has (noted_outcomes o.entries) r) (sym outcomes) found)
    | inr waits ↦ inr (waits.0, subst (λ (bs : List AllowedBeginning). Has bs waits.0) (sym pending) waits.1, waits.2)
  ];
}

-- if nothing is open, what was found is all
pub rules_search_finds_all : (s : Plan) (detail : Detail) (n : ℕ) (x : AllowedSearch) → IsAllowedSearched s detail n x → x.pending.items ≡ []
    → (replies : List (List ℕ)) → IsAllowedRunOutcome s detail replies → Has (allowed_search_found x) replies
rules_search_finds_all s detail n x searched none replies outcome = elim (searched.none_lost replies outcome) [
  | inl found ↦ found
  | inr waits ↦ absurd (joined_list_has-nil waits.0 (subst (λ (bs : List AllowedBeginning). Has bs waits.0) none waits.1))
]

-- what has been seen are beginnings
pub rules_search_seen_many : (s : Plan) (detail : Detail) (n : ℕ) (x : AllowedSearch) → IsAllowedSearched s detail n x → HasAllowedRunBeginnings s n
rules_search_seen_many s detail n x searched = record {
  beginnings = searched.seen;
  many = searched.many;
  once = searched.apart.once;
  each = searched.seen_each;
}

-- and if something is open, there is one more
pub rules_search_one_more : (s : Plan) (detail : Detail) (n : ℕ) (x : AllowedSearch) (b : AllowedBeginning) → IsAllowedSearched s detail n x → Has x.pending.items b
    → HasAllowedRunBeginnings s (n + 1)
rules_search_one_more s detail n x b searched has = record {
  beginnings = searched.seen ++ allowed_beginning_events b ∷ [];
  many = (let one = length-append searched.seen (allowed_beginning_events b ∷ []) in let count = searched.many in omega (arith, one, count));
  once =
      joined_list_in_order-append (λ (c d : List Event). c ≢ d) searched.seen (allowed_beginning_events b ∷ []) searched.apart.once
      (joined_list_in_order_single (λ (c d : List Event). c ≢ d) (allowed_beginning_events b))
      (λ c d here there same. elim ((joined_list_has-cons (allowed_beginning_events b) [] d).0 there) [
        | inl is ↦
            searched.apart.no_front (allowed_beginning_events b) c ((joined_list_has-map allowed_beginning_events x.pending.items (allowed_beginning_events b)).1 (b, has, refl)) here
            ([], same ∙ sym is ∙ sym (append-nil (allowed_beginning_events b)))
        | inr none ↦ joined_list_has-nil d none
      ]);
  each = λ g there. elim ((joined_list_has-append searched.seen (allowed_beginning_events b ∷ []) g).0 there) [
    | inl before ↦ searched.seen_each g before
    | inr last ↦ elim ((joined_list_has-cons (allowed_beginning_events b) [] g).0 last) [
      | inl is ↦ subst (IsAllowedRunBeginning s) is (searched.known b has).beginning
      | inr none ↦ absurd (joined_list_has-nil g none)
    ]
  ];
}

-- nothing comes after a whole beginning
rules_search_whole_ends : (s : Plan) (g : List Event) (e : Event) → IsLawful s → Follows s g → IsAllowedRunBeginning s (g ++ e ∷ []) → ⊥
rules_search_whole_ends s g e lawful follows next =
    let may = ((next_allowed_exactly s g e.processor e.kind).0 next).1 in
    let begins = ((next_allowed_exactly s g e.processor e.kind).0 next).0.begins in
    let long = lawful.but_uneven.one_each in
    let inside = may.may_follow.processor in
    let section = machine_step_some_at s.sections e.processor (omega arith) in
    let shown = script_calls_shown_by s e.processor in
    let called = may.calls.next section.0 section.1 in
    let within = slice_get_within (script_calls_of_section section.0 shown) (length (calls_of g e.processor)) called.step called.at in
    let all = (section_calls_follows_length section.0 shown (calls_of g e.processor) (begins e.processor section.0 section.1)).0
    (follows e.processor section.0 section.1) in
    omega (arith, within, all)

-- so it shows one thing
rules_search_whole_shows : (s : Plan) (detail : Detail) (g : List Event) (replies r : List (List ℕ)) → IsLawful s → Follows s g → AreOutcomeTellingReplies s (outcome_telling_of_script s detail) g replies
    → AllowedSearchCanShow s detail g r → replies ≡ r
rules_search_whole_shows s detail g replies r lawful follows are shows = go shows.more shows.run shows.are
  where
    go : (w : List Event) → IsAllowedRun s (g ++ w) → AreOutcomeTellingReplies s (outcome_telling_of_script s detail) (g ++ w) r → replies ≡ r
    go [] run these = rules_search_same_replies s (outcome_telling_of_script s detail) g replies r are (subst (λ h. AreOutcomeTellingReplies s (outcome_telling_of_script s detail) h r) (append-nil g) these)
    go (e ∷ w) run these =
        absurd (rules_search_whole_ends s g e lawful follows
        (next_allowed_of_front s (g ++ e ∷ []) w (subst (IsAllowedRunBeginning s) (sym (append_assoc g (e ∷ []) w)) run.beginning)))

-- with one run more, or none
rules_search_runs_next : (s : Plan) (detail : Detail) (old new : List (ScriptOutcome × Vec Event)) (replies : List (List ℕ)) (g : List Event)
    → IsAllowedRunShowing s detail g replies → IsNotedOutcome old new replies (λ run. run.items ≡ g) → AreAllowedSearchRuns s detail old
    → AreAllowedSearchRuns s detail new
rules_search_runs_next s detail old new replies g own noted =
    noted_outcome_each (λ (e : ScriptOutcome × Vec Event). IsAllowedRunShowing s detail e.1.items (explored_outcome e.0)) (λ (run : Vec Event). run.items ≡ g)
    old new replies noted
    (λ e shows is. subst (λ h. IsAllowedRunShowing s detail h (explored_outcome e.0)) (sym is) (subst (IsAllowedRunShowing s detail g) (sym shows) own))

-- a whole beginning shows what it shows, and nothing comes next
pub rules_search_looked_at_whole : (s : Plan) (detail : Detail) (b : AllowedBeginning) (replies : List (List ℕ)) (x y : AllowedSearch) → IsLawful s → TellsAllowedBeginning s b
    → Follows s (allowed_beginning_events b) → AreOutcomeTellingReplies s (outcome_telling_of_script s detail) (allowed_beginning_events b) replies → y.pending ≡ x.pending
    → IsNotedOutcome x.outcomes.entries y.outcomes.entries replies (λ run. run.items ≡ allowed_beginning_events b)
    → IsAllowedSearchStep s detail (allowed_beginning_events b) x y
rules_search_looked_at_whole s detail b replies x y lawful tells follows are pending noted = record {
  events = [];
  events_once = joined_list_in_order-nil (λ (c d : Event). c ≢ d);
  lengthened = record {
    more = [];
    behind = ap (λ v. v.items) pending ∙ sym (append-nil x.pending.items);
    known = λ c has. absurd (joined_list_has-nil c has);
    are = refl;
  };
  keeps = λ r has. elim among [
    | inl was ↦ subst (λ rs. Has rs r) (sym was.1) has
    | inr new ↦ subst (λ rs. Has rs r) (sym new.1) ((joined_list_has-append (allowed_search_found x) (replies ∷ []) r).1 (inl has))
  ];
  each = λ r has. elim among [
    | inl was ↦ inl (subst (λ rs. Has rs r) was.1 has)
    | inr new ↦ elim ((joined_list_has-append (allowed_search_found x) (replies ∷ []) r).0 (subst (λ rs. Has rs r) new.1 has)) [
      | inl before ↦ inl before
      | inr last ↦ elim ((joined_list_has-cons replies [] r).0 last) [
        | inl own ↦ inr (
          record { beginning = tells.beginning; follows = follows },
          subst (AreOutcomeTellingReplies s (outcome_telling_of_script s detail) (allowed_beginning_events b)) own are,
        )
        | inr none ↦ absurd (joined_list_has-nil r none)
      ]
    ]
  ];
  runs = rules_search_runs_next s detail x.outcomes.entries y.outcomes.entries replies (allowed_beginning_events b)
      (record { run = record { beginning = tells.beginning; follows = follows }; told = are }) noted;
  once = λ once. elim among [
    | inl was ↦ subst IsOnce (sym was.1) once
    | inr new ↦ subst IsOnce (sym new.1)
        (joined_list_in_order-append (λ (c d : List (List ℕ)). c ≢ d) (allowed_search_found x) (replies ∷ []) once
        (joined_list_in_order_single (λ (c d : List (List ℕ)). c ≢ d) replies)
        (λ c d here there same. elim ((joined_list_has-cons replies [] d).0 there) [
          | inl own ↦ new.0 (subst (Has (allowed_search_found x)) (same ∙ sym own) here)
          | inr none ↦ joined_list_has-nil d none
        ]))
  ];
  none_lost = λ r shows. inl (subst (Has (allowed_search_found y)) (rules_search_whole_shows s detail (allowed_beginning_events b) replies r lawful follows are shows) found);
}
  where
    among : IsAmongNotedOutcomes (allowed_search_found x) (allowed_search_found y) replies
    among = noted_outcome_among (λ (run : Vec Event). run.items ≡ allowed_beginning_events b) x.outcomes.entries y.outcomes.entries replies noted

    found : Has (allowed_search_found y) replies
    found = elim among [
      | inl was ↦ subst (λ rs. Has rs replies) (sym was.1) was.0
      | inr new ↦ subst (λ rs. Has rs replies) (sym new.1)
          ((joined_list_has-append (allowed_search_found x) (replies ∷ []) replies).1 (inr ((joined_list_has-cons replies [] replies).1 (inl refl))))
    ]

-- and else what comes next has it
pub rules_search_looked_onward : (s : Plan) (detail : Detail) (g : List Event) (x y : AllowedSearch) → ¬ Follows s g → IsAllowedSearchFollowed s detail g x y → IsAllowedSearchStep s detail g x y
rules_search_looked_onward s detail g x y unfinished on = record {
  events = on.events;
  events_once = on.events_once;
  lengthened = on.lengthened;
  keeps = λ r has. subst (λ o. Has (noted_outcomes o.entries) r) (sym on.outcomes) has;
  each = λ r has. inl (subst (λ o. Has (noted_outcomes o.entries) r) on.outcomes has);
  runs = λ old. subst (λ o. AreAllowedSearchRuns s detail o.entries) (sym on.outcomes) old;
  once = λ once. subst (λ o. IsOnce (noted_outcomes o.entries)) (sym on.outcomes) once;
  none_lost = λ r shows. inr (on.none_lost r unfinished shows);
}

-- the calls that are chosen are among the next ones
pub rules_search_choice_plain : (nexts chosen : List (Option Kind)) → IsAllowedBeginningChoice nexts chosen → AreAllowedBeginningCallsPlain nexts → AreAllowedBeginningCallsPlain chosen
rules_search_choice_plain nexts chosen (inl same) plain p call at = subst AreAllowedBeginningCallsPlain (sym same) plain p call at
rules_search_choice_plain nexts chosen (inr one) plain p call at =
    let is = one.only p call at in
    plain p call (ap (λ q. slice_index_or nexts q None) is.0 ∙ one.at ∙ ap Some (sym is.1))

pub rules_search_choice_may : (s : Plan) (g : List Event) (nexts chosen : List (Option Kind)) → AreAllowedBeginningCalls s g nexts → AreAllowedBeginningCallsPlain nexts
    → IsAllowedBeginningChoice nexts chosen → (p : ℕ) (call : Kind) → slice_index_or chosen p None ≡ Some call → AllowedBeginningMayCall s g p call
rules_search_choice_may s g nexts chosen calls plain choice p call at =
    let there = among choice in
    (calls p call).0 (there ∙ ap Some (sym (plain p call there)))
  where
    among : IsAllowedBeginningChoice nexts chosen → slice_index_or nexts p None ≡ Some call
    among (inl same) = subst (λ cs. slice_index_or cs p None ≡ Some call) same at
    among (inr one) =
        let is = one.only p call at in
        ap (λ q. slice_index_or nexts q None) is.0 ∙ one.at ∙ ap Some (sym is.1)

-- and what a run shows is shown after one of them
pub rules_search_followed : (s : Plan) (detail : Detail) (g : List Event) (nexts chosen : List (Option Kind)) (x y : AllowedSearch) → IsLawful s
    → AreAllowedBeginningCalls s g nexts → AreAllowedBeginningCallsPlain nexts → IsAllowedBeginningChoice nexts chosen → y.outcomes ≡ x.outcomes
    → AreAllowedBeginningCallsFollowed s g chosen x.pending.items y.pending.items → IsAllowedSearchFollowed s detail g x y
rules_search_followed s detail g nexts chosen x y lawful calls plain choice outcomes followed = record {
  events = followed.events;
  events_once = followed.chosen.once;
  lengthened = followed.lengthened;
  outcomes = outcomes;
  none_lost = λ r unfinished shows.
      let one = after choice r unfinished shows in
      (one.0, (followed.chosen.each one.0).1 one.1, one.2);
}
  where
    after : IsAllowedBeginningChoice nexts chosen → (r : List (List ℕ)) → ¬ Follows s g → AllowedSearchCanShow s detail g r
        → (e : Event) × IsAllowedBeginningEventChosen s g chosen e × AllowedSearchCanShow s detail (g ++ e ∷ []) r
    after (inl same) r unfinished shows =
        let one = commuting_all_show s detail g nexts r calls unfinished shows in
        (one.0, subst (λ cs. IsAllowedBeginningEventChosen s g cs one.0) (sym same) one.1, one.2)
    after (inr one) r unfinished shows = commuting_one_shows s detail g nexts chosen r lawful calls plain one shows

-- what the search answers
pub rules_search_answered : (s : Plan) (detail : Detail) (most n : ℕ) (x : AllowedSearch) (answer : AllowedOutcomes) → IsAllowedSearched s detail n x
    → (IsTrue answer.are_all → x.pending.items ≡ []) → (answer.are_all ≡ false → HasAllowedRunBeginnings s (allowed_room_at_most s most + 1))
    → answer.beginnings ≡ n → map shown_run_outcome answer.outcomes.items ≡ allowed_search_found x
    → ((r : ShownRun) → Has answer.outcomes.items r → IsAllowedRunShowing s detail r.events.items (shown_run_outcome r))
    → AreAllowedRunOutcomes s detail most answer
rules_search_answered s detail most n x answer searched all given_up count outcomes runs = record {
  looked_at = subst (HasAllowedRunBeginnings s) (sym count) (rules_search_seen_many s detail n x searched);
  each = runs;
  once = subst IsOnce (sym outcomes) searched.once;
  all = λ yes r outcome. subst (λ os. Has os r) (sym outcomes) (rules_search_finds_all s detail n x searched (all yes) r outcome);
  given_up = given_up;
}
