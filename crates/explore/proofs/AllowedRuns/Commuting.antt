-- An event that commutes with all that others may do may as well come first: a run becomes one that shows the same.
use Rattle.std.proofs.Common.{ℕ, suc, ◌≡◌, ◌≢◌, ◌+◌, ◌⊎◌, inl, inr, true, List, [], ◌∷◌, ◌++◌, Option, Some, length, slice_get, slice_index_or, refl, sym, ap, subst, ◌∙◌, append_assoc, append-nil, arith}
use Rattle.std.specs.Prelude.{None}
use Rattle.std.proofs.lemmas.Bool.{false≢true}
use Rattle.std.proofs.lemmas.Option.{same_Some, slice_get_within}
use Rattle.std.proofs.Math.Seq.{take-append-add, take-append_seam}
use Rattle.journal.specs.declared.event.Event.{Event}
use Rattle.journal.specs.declared.event.Kind.{Kind}
use Rattle.journal.specs.declared.event.Kind.TheVariants as kind
use Rattle.journal.specs.DidEvent.{event}
use Rattle.journal.specs.Events.{EventAt, event_count, events_of, event_arrives, event_departs}
use Rattle.journal.specs.HappensBeforeEdges.{LetsThrough, Link}
use Rattle.journal.specs.HappensBeforeEdges.Link.{same, lets, meets}
use Rattle.journal.specs.Sizes.{Sizes}
use Rattle.journal.specs.WellFormed.{WellFormedAllows, Holds, WellFormedNext, WellFormed}
use Rattle.journal.proofs.Journals.WellFormedStays.{well_formed_stays_front, well_formed_stays_push}
use Rattle.journal.proofs.Order.EventPlacesAndCounts.{event_count-append}
use Rattle.journal.proofs.Times.TimesOfPlaces.{time_of_places_one_event}
use Rattle.lrc_script.specs.Lawful.{IsLawful}
use Rattle.lrc_script.specs.declared.script.Instruction.{Instruction}
use Rattle.lrc_script.specs.Plan.{Plan}
use Rattle.conformance.specs.ScriptBegins.{BeginsSection}
use Rattle.conformance.specs.Follows.{Follows, FollowsSection, calls_of, call_kinds, plan_sizes}
use Rattle.conformance.proofs.FollowedCalls.{followed_calls_of_others, followed_calls_part-append, followed_calls-append}
use Rattle.explore.specs.declared.prefixes.script_call.ScriptCall.{ScriptCall}
use Rattle.explore.specs.declared.prefixes.script_call.ScriptCall.TheVariants.{Call, Adds}
use Rattle.explore.specs.declared.outcomes.telling.Detail.{Detail}
use Rattle.explore.specs.declared.outcomes.telling.OutcomeTelling.{OutcomeTelling}
use Rattle.explore.specs.AllowedRuns.{IsAllowedRunBeginning, IsAllowedRun}
use Rattle.explore.specs.AllowedBeginnings.{AreAllowedBeginningCalls, AreAllowedBeginningCallsPlain, IsAllowedBeginningEventChosen, IsAllowedBeginningCallChosen, AllowedBeginningMayCall, allowed_beginning_call_commutes}
use Rattle.explore.specs.AllowedSearch.{AllowedSearchCanShow}
use Rattle.explore.specs.OutcomeTelling.{AreOutcomeTellingReplies, outcome_telling_of_script, outcome_telling_replies, outcome_telling_steps}
use Rattle.explore.specs.Prefixes.ScriptCalls.{IsScriptCallNext, FitsScriptCall, script_calls_of_section, script_calls_shown_by, last_reply_of_script_calls, replyless_script_call}
use Rattle.explore.proofs.MachineSteps.{machine_step_some_at}
use Rattle.explore.proofs.PrefixRuns.SectionCalls.{section_calls_follows_length}
use Rattle.explore.proofs.Reduced.Reaching.{reduced_reaching_first_of}
use Rattle.explore.proofs.Reduced.SameBeginnings.{IsSameBeginningOrder, same_beginning_may_follow, same_beginning_order_push}
use Rattle.explore.proofs.Reduced.Swapping.{reduced_swapped_asks_either, reduced_swapped_follows_after, reduced_swapped_parts_either}
use Rattle.explore.proofs.AllowedRuns.ExchangedPlaces.{exchanged_place, exchanged_place_has_event, exchanged_place_explained}
use Rattle.explore.proofs.AllowedRuns.NextAllowed.{next_allowed_replyless, next_allowed_of_front, next_allowed_exactly}

-- neither of two events that both may come next lets the other through
commuting_lets_nothing : (s : Sizes) (a : List Event) (p q : ℕ) (k c : Kind) → WellFormedAllows s a p k → WellFormedAllows s a q c
    → (allowed_beginning_call_commutes k ≡ true) ⊎ (allowed_beginning_call_commutes c ≡ true) → LetsThrough k c → ⊥
commuting_lets_nothing s a p q (kind.Release l) (kind.Acquire m) one two commutes is =
    two.2.free p (subst (λ n. Holds a p n) is one)
commuting_lets_nothing s a p q (kind.Set f) (kind.Await g) one two commutes is =
    elim commutes [ inl first ↦ false≢true first | inr second ↦ false≢true second ]
commuting_lets_nothing s a p q _ _ one two commutes is = is

-- nor does an arrival meet a departure
commuting_has_no_link : (s : Sizes) (a b : List Event) (x e : Event) → x.processor ≢ e.processor → WellFormedNext s a x → WellFormedNext s a e
    → (allowed_beginning_call_commutes x.kind ≡ true) ⊎ (allowed_beginning_call_commutes e.kind ≡ true)
    → Link (a ++ x ∷ e ∷ b) (length a) (length a + 1) x e → ⊥
commuting_has_no_link s a b x e apart one two commutes (same is) = apart is
commuting_has_no_link s a b x e apart one two commutes (lets is) =
    commuting_lets_nothing s a x.processor e.processor x.kind e.kind one.allowed two.allowed commutes is
commuting_has_no_link s a b x e apart one two commutes (meets m) =
    let may = subst (WellFormedAllows s a e.processor) m.departs two.allowed in
    let enough = may.2 x.processor one.processor in
    let first = ap (λ es. event_count event_arrives es x.processor) (take-append_seam a (x ∷ e ∷ b)) in
    let second = ap (λ es. event_count event_departs es e.processor) (take-append-add a (x ∷ e ∷ b) 1) in
    let sum = event_count-append event_departs a (x ∷ []) e.processor in
    let none : event_count event_departs (x ∷ []) e.processor ≡ 0 = elim (time_of_places_one_event event_departs x e.processor) [
      | inl zero_more ↦ zero_more
      | inr own ↦ absurd (apart own.0)
    ] in
    let episode = m.episode in
    omega (arith, enough, first, second, sum, none, episode)

-- an event that commutes doesn't ask
commuting_is_no_ask : (k c : Kind) → allowed_beginning_call_commutes c ≡ true → (l : ℕ) → kind.Ask l ≡ k → kind.Ask l ≢ c
commuting_is_no_ask k c commutes l asks is = false≢true (subst (λ (d : Kind). allowed_beginning_call_commutes d ≡ true) (sym is) commutes)

-- histories in one order go on alike
commuting_order_goes_on : (s : Plan) (w g h : List Event) → IsSameBeginningOrder g h → WellFormed (plan_sizes s) h → WellFormed (plan_sizes s) (g ++ w)
    → WellFormed (plan_sizes s) (h ++ w)
commuting_order_goes_on s [] g h order formed whole = subst (WellFormed (plan_sizes s)) (sym (append-nil h)) formed
commuting_order_goes_on s (e ∷ w) g h order formed whole =
    let longer = subst (WellFormed (plan_sizes s)) (sym (append_assoc g (e ∷ []) w)) whole in
    let now = (well_formed_stays_push (plan_sizes s) g e).0 (well_formed_stays_front (plan_sizes s) (g ++ e ∷ []) w longer) in
    let next = (well_formed_stays_push (plan_sizes s) h e).1 (formed, same_beginning_may_follow s g h order e now.1) in
    subst (WellFormed (plan_sizes s)) (append_assoc h (e ∷ []) w)
    (commuting_order_goes_on s w (g ++ e ∷ []) (h ++ e ∷ []) (same_beginning_order_push s g h e.processor e.kind order) next longer)

-- each processor has done the same
abbrev pub AreSameCommutingParts : List Event → List Event → Type 0
AreSameCommutingParts g h = (p : ℕ) → events_of g p ≡ events_of h p

-- the neighbours x and e come in the other order
record IsCommutingSwapped (s : Plan) (g h : List Event) : Type 0 where
  allowed : IsAllowedRunBeginning s h
  parts : AreSameCommutingParts g h

commuting_event_swapped : (s : Plan) (a b : List Event) (x e : Event) → x.processor ≢ e.processor → WellFormedNext (plan_sizes s) a e
    → allowed_beginning_call_commutes e.kind ≡ true → IsAllowedRunBeginning s (a ++ x ∷ e ∷ b)
    → IsCommutingSwapped s (a ++ x ∷ e ∷ b) (a ++ e ∷ x ∷ b)
commuting_event_swapped s a b x e apart may commutes is = record {
  allowed = record {
    well_formed = formed;
    begins = λ p section at.
        subst (BeginsSection section (script_calls_shown_by s p)) (ap call_kinds (parts p)) (is.begins p section at);
    explained =
        exchanged_place_explained a b x e apart
        (commuting_has_no_link (plan_sizes s) a b x e apart first may (inr commutes))
        (commuting_has_no_link (plan_sizes s) a b e x back may first (inl commutes)) is.explained;
    no_fetch = λ i f at. is.no_fetch (exchanged_place (length a) i) f (exchanged_place_has_event a b e x back i f at);
  };
  parts = parts;
}
  where
    back : e.processor ≢ x.processor
    back same_as = apart (sym same_as)

    begun : WellFormed (plan_sizes s) a
    begun = well_formed_stays_front (plan_sizes s) a (x ∷ e ∷ b) is.well_formed

    first_formed : WellFormed (plan_sizes s) (a ++ x ∷ [])
    first_formed =
        well_formed_stays_front (plan_sizes s) (a ++ x ∷ []) (e ∷ b)
        (subst (WellFormed (plan_sizes s)) (sym (append_assoc a (x ∷ []) (e ∷ b))) is.well_formed)

    first : WellFormedNext (plan_sizes s) a x
    first = ((well_formed_stays_push (plan_sizes s) a x).0 first_formed).1

    either : IsSameBeginningOrder ((a ++ x ∷ []) ++ e ∷ []) ((a ++ e ∷ []) ++ x ∷ [])
    either = record {
      parts = reduced_swapped_parts_either a x.processor e.processor x.kind e.kind apart;
      asks = λ l r t. reduced_swapped_asks_either a x.processor e.processor x.kind e.kind apart l r t (commuting_is_no_ask x.kind e.kind commutes l);
    }

    other_formed : WellFormed (plan_sizes s) ((a ++ e ∷ []) ++ x ∷ [])
    other_formed =
        (well_formed_stays_push (plan_sizes s) (a ++ e ∷ []) x).1 (
          (well_formed_stays_push (plan_sizes s) a e).1 (begun, may),
          reduced_swapped_follows_after (plan_sizes s) a e.processor x.processor e.kind back may x.kind first,
        )

    joined : (y z : Event) → ((a ++ y ∷ []) ++ z ∷ []) ++ b ≡ a ++ y ∷ z ∷ b
    joined y z = append_assoc (a ++ y ∷ []) (z ∷ []) b ∙ append_assoc a (y ∷ []) (z ∷ b)

    formed : WellFormed (plan_sizes s) (a ++ e ∷ x ∷ b)
    formed =
        subst (WellFormed (plan_sizes s)) (joined e x)
        (commuting_order_goes_on s b ((a ++ x ∷ []) ++ e ∷ []) ((a ++ e ∷ []) ++ x ∷ []) either other_formed
        (subst (WellFormed (plan_sizes s)) (sym (joined x e)) is.well_formed))

    parts : AreSameCommutingParts (a ++ x ∷ e ∷ b) (a ++ e ∷ x ∷ b)
    parts p =
        ap (λ j. events_of j p) (sym (joined x e)) ∙ followed_calls_part-append ((a ++ x ∷ []) ++ e ∷ []) b p
        ∙ ap (λ es. es ++ events_of b p) (either.parts p)
        ∙ sym (followed_calls_part-append ((a ++ e ∷ []) ++ x ∷ []) b p) ∙ ap (λ j. events_of j p) (joined e x)

-- it comes before all events of others
commuting_event_moved : (s : Plan) (w : List Event) (g more : List Event) (e : Event) → ((m : ℕ) (f : Event) → EventAt w m f → f.processor ≢ e.processor)
    → WellFormedNext (plan_sizes s) g e → allowed_beginning_call_commutes e.kind ≡ true → IsAllowedRunBeginning s (g ++ (w ++ e ∷ more))
    → IsCommutingSwapped s (g ++ (w ++ e ∷ more)) (g ++ e ∷ (w ++ more))
commuting_event_moved s [] g more e away may commutes is = record { allowed = is; parts = λ p. refl }
commuting_event_moved s (x ∷ w) g more e away may commutes is =
    let apart : x.processor ≢ e.processor = away 0 x refl in
    let longer = subst (IsAllowedRunBeginning s) (sym (append_assoc g (x ∷ []) (w ++ e ∷ more))) is in
    let first = ((next_allowed_exactly s g x.processor x.kind).0 (next_allowed_of_front s (g ++ x ∷ []) (w ++ e ∷ more) longer)).1.may_follow in
    let still = reduced_swapped_follows_after (plan_sizes s) g x.processor e.processor x.kind apart first e.kind may in
    let rest = commuting_event_moved s w (g ++ x ∷ []) more e (λ m. away (suc m)) still commutes longer in
    let near = subst (IsAllowedRunBeginning s) (append_assoc g (x ∷ []) (e ∷ (w ++ more))) rest.allowed in
    let last = commuting_event_swapped s g (w ++ more) x e apart may commutes near in
    record {
      allowed = last.allowed;
      parts = λ p.
          ap (λ j. events_of j p) (sym (append_assoc g (x ∷ []) (w ++ e ∷ more))) ∙ rest.parts p
          ∙ ap (λ j. events_of j p) (append_assoc g (x ∷ []) (e ∷ (w ++ more))) ∙ last.parts p;
    }

-- runs in which each processor has done the same show the same
commuting_run_same : (s : Plan) (g h : List Event) → AreSameCommutingParts g h → IsAllowedRunBeginning s h → Follows s g → IsAllowedRun s h
commuting_run_same s g h parts allowed follows = record {
  beginning = allowed;
  follows = λ p section at. subst (FollowsSection section (script_calls_shown_by s p)) (ap call_kinds (parts p)) (follows p section at);
}

commuting_replies_same : (s : Plan) (t : OutcomeTelling) (g h : List Event) (replies : List (List ℕ)) → AreSameCommutingParts g h → AreOutcomeTellingReplies s t g replies
    → AreOutcomeTellingReplies s t h replies
commuting_replies_same s t g h replies parts are = record {
  long = are.long;
  each = λ p lt. are.each p lt ∙ ap (λ es. Some (outcome_telling_replies t p (outcome_telling_steps s p) 0 (call_kinds es))) (parts p);
}

-- calls of one step are the same but for replies
commuting_step_same : (reply : ℕ) (step : ScriptCall) (j k : Kind) → FitsScriptCall reply step j → FitsScriptCall reply step k
    → replyless_script_call j ≡ replyless_script_call k
commuting_step_same reply (Call c) j k one two = one ∙ sym two
commuting_step_same reply (Adds a v) j k one two = ap replyless_script_call (one ∙ sym two)

commuting_replyless : (k : Kind) → allowed_beginning_call_commutes (replyless_script_call k) ≡ allowed_beginning_call_commutes k
commuting_replyless (kind.Load a v) = refl
commuting_replyless _ = refl

module _ (s : Plan) (detail : Detail) (g : List Event) (nexts chosen : List (Option Kind)) (replies : List (List ℕ)) (lawful : IsLawful s)
    (calls : AreAllowedBeginningCalls s g nexts) (plain : AreAllowedBeginningCallsPlain nexts) (one : IsAllowedBeginningCallChosen nexts chosen)
    (shown : AllowedSearchCanShow s detail g replies) where
  commuting_one_may : AllowedBeginningMayCall s g one.processor one.call
  commuting_one_may =
      (calls one.processor one.call).0
      (one.at ∙ ap Some (sym (plain one.processor one.call one.at)))

  -- the section of that processor, and what it says
  commuting_one_section : (section : List Instruction) × (slice_get s.sections one.processor ≡ Some section)
  commuting_one_section =
      let within = commuting_one_may.may_follow.processor in
      let long = lawful.but_uneven.one_each in
      machine_step_some_at s.sections one.processor (omega arith)

  commuting_one_called : (h : List Event) (k : Kind) → calls_of h one.processor ≡ calls_of g one.processor → AllowedBeginningMayCall s h one.processor k
      → replyless_script_call k ≡ one.call
  commuting_one_called h k same_calls may =
      let here = commuting_one_may.calls.next commuting_one_section.0 commuting_one_section.1 in
      let there = subst (λ ks. IsScriptCallNext (script_calls_of_section commuting_one_section.0 (script_calls_shown_by s one.processor)) ks k) same_calls
      (may.calls.next commuting_one_section.0 commuting_one_section.1) in
      let step = same_Some there.step here.step (sym there.at ∙ here.at) in
      let mine = subst (λ x. FitsScriptCall (last_reply_of_script_calls (calls_of g one.processor)) x k) step there.is in
      commuting_step_same (last_reply_of_script_calls (calls_of g one.processor)) here.step k one.call mine here.is
      ∙ plain one.processor one.call one.at

  -- some event of a whole run is its
  commuting_one_none : ((m : ℕ) (f : Event) → EventAt shown.more m f → f.processor ≢ one.processor) → ⊥
  commuting_one_none away =
      let here = commuting_one_may.calls.next commuting_one_section.0 commuting_one_section.1 in
      let steps = script_calls_of_section commuting_one_section.0 (script_calls_shown_by s one.processor) in
      let within = slice_get_within steps (length (calls_of g one.processor)) here.step here.at in
      let same_calls : calls_of (g ++ shown.more) one.processor ≡ calls_of g one.processor =
      followed_calls-append g shown.more one.processor
      ∙ ap (λ ks. calls_of g one.processor ++ ks) (followed_calls_of_others one.processor shown.more away)
      ∙ append-nil (calls_of g one.processor) in
      let begins = shown.run.beginning.begins one.processor commuting_one_section.0 commuting_one_section.1 in
      let follows = shown.run.follows one.processor commuting_one_section.0 commuting_one_section.1 in
      let long = (section_calls_follows_length commuting_one_section.0 (script_calls_shown_by s one.processor) (calls_of (g ++ shown.more) one.processor) begins).0 follows in
      let shorter = ap (λ (ks : List Kind). length ks) same_calls in
      omega (arith, within, long, shorter)

  commuting_one_moved : (before after : List Event) (own : Event) → shown.more ≡ before ++ own ∷ after → own.processor ≡ one.processor
      → ((m : ℕ) (f : Event) → EventAt before m f → f.processor ≢ one.processor)
      → (e : Event) × IsAllowedBeginningEventChosen s g chosen e × AllowedSearchCanShow s detail (g ++ e ∷ []) replies
  commuting_one_moved before after own are mine away =
      let whole = subst (λ w. IsAllowedRunBeginning s (g ++ w)) are shown.run.beginning in
      let split : g ++ (before ++ own ∷ after) ≡ ((g ++ before) ++ own ∷ []) ++ after =
      sym (append_assoc g before (own ∷ after)) ∙ sym (append_assoc (g ++ before) (own ∷ []) after) in
      let front = next_allowed_of_front s ((g ++ before) ++ own ∷ []) after (subst (IsAllowedRunBeginning s) split whole) in
      let there = (next_allowed_exactly s (g ++ before) own.processor own.kind).0 front in
      let others : calls_of (g ++ before) one.processor ≡ calls_of g one.processor =
      followed_calls-append g before one.processor
      ∙ ap (λ ks. calls_of g one.processor ++ ks) (followed_calls_of_others one.processor before away)
      ∙ append-nil (calls_of g one.processor) in
      let call : replyless_script_call own.kind ≡ one.call =
      commuting_one_called (g ++ before) own.kind others (subst (λ p. AllowedBeginningMayCall s (g ++ before) p own.kind) mine there.1) in
      let may_plain : WellFormedNext (plan_sizes s) g (event own.processor (replyless_script_call own.kind)) =
      subst (λ p. WellFormedNext (plan_sizes s) g (event p (replyless_script_call own.kind))) (sym mine)
      (subst (λ k. WellFormedNext (plan_sizes s) g (event one.processor k)) (sym call) commuting_one_may.may_follow) in
      let may = (next_allowed_replyless (plan_sizes s) g own.processor own.kind).1 may_plain in
      let commutes : allowed_beginning_call_commutes own.kind ≡ true =
      sym (commuting_replyless own.kind) ∙ ap allowed_beginning_call_commutes call ∙ one.commutes in
      let apart : (m : ℕ) (f : Event) → EventAt before m f → f.processor ≢ own.processor = λ m f at same_as. away m f at (same_as ∙ mine) in
      let moved = commuting_event_moved s before g after own apart may commutes whole in
      let again : g ++ own ∷ (before ++ after) ≡ (g ++ own ∷ []) ++ (before ++ after) = sym (append_assoc g (own ∷ []) (before ++ after)) in
      let parts : AreSameCommutingParts (g ++ shown.more) ((g ++ own ∷ []) ++ (before ++ after)) = λ p.
      ap (λ w. events_of (g ++ w) p) are ∙ moved.parts p ∙ ap (λ j. events_of j p) again in
      let allowed = subst (IsAllowedRunBeginning s) again moved.allowed in (
        own,
        record {
          chosen_at = ap (λ p. slice_index_or chosen p None) mine ∙ one.chosen_at ∙ ap Some (sym call);
          next = next_allowed_of_front s (g ++ own ∷ []) (before ++ after) allowed;
        },
        record {
          more = before ++ after;
          run = commuting_run_same s (g ++ shown.more) ((g ++ own ∷ []) ++ (before ++ after)) parts allowed shown.run.follows;
          are = commuting_replies_same s (outcome_telling_of_script s detail) (g ++ shown.more) ((g ++ own ∷ []) ++ (before ++ after)) replies parts shown.are;
        },
      )

  -- what a run shows is shown after the chosen call
  pub commuting_one_shows : (e : Event) × IsAllowedBeginningEventChosen s g chosen e × AllowedSearchCanShow s detail (g ++ e ∷ []) replies
  commuting_one_shows = elim (reduced_reaching_first_of shown.more one.processor) [
    | inl found ↦ commuting_one_moved found.before found.after found.own found.are found.mine found.away
    | inr none ↦ absurd (commuting_one_none none)
  ]

-- or, if all calls are followed, after one of them
pub commuting_all_show : (s : Plan) (detail : Detail) (g : List Event) (nexts : List (Option Kind)) (replies : List (List ℕ)) → AreAllowedBeginningCalls s g nexts
    → ¬ Follows s g → AllowedSearchCanShow s detail g replies
    → (e : Event) × IsAllowedBeginningEventChosen s g nexts e × AllowedSearchCanShow s detail (g ++ e ∷ []) replies
commuting_all_show s detail g nexts replies calls unfinished shown = go shown.more shown.run shown.are
  where
    go : (w : List Event) → IsAllowedRun s (g ++ w) → AreOutcomeTellingReplies s (outcome_telling_of_script s detail) (g ++ w) replies
        → (e : Event) × IsAllowedBeginningEventChosen s g nexts e × AllowedSearchCanShow s detail (g ++ e ∷ []) replies
    go [] run are = absurd (unfinished (subst (Follows s) (append-nil g) run.follows))
    go (e ∷ w) run are =
        let again = sym (append_assoc g (e ∷ []) w) in
        let longer = subst (IsAllowedRun s) again run in
        let next = next_allowed_of_front s (g ++ e ∷ []) w longer.beginning in (
          e,
          record {
            chosen_at = (calls e.processor e.kind).1 ((next_allowed_exactly s g e.processor e.kind).0 next).1;
            next = next;
          },
          record { more = w; run = longer; are = subst (λ j. AreOutcomeTellingReplies s (outcome_telling_of_script s detail) j replies) again are },
        )
