-- Which events may come next after a beginning that the rules allow, exactly.
use Rattle.std.proofs.Common.{ℕ, ◌≡◌, ◌≢◌, ◌<◌, ◌≤◌, ◌↔◌, inl, inr, false, List, [], ◌∷◌, ◌++◌, length, Some, slice_get, refl, sym, ap, subst, ◌∙◌, arith}
use Rattle.std.specs.Global.{Vec}
use Rattle.std.proofs.lemmas.Option.{none-some, same_Some, slice_get_within, slice_get-get_or}
use Rattle.std.proofs.lemmas.List.Elements.{All-get_or}
use Rattle.std.specs.Prelude.{slice_index_or}
use Rattle.base.specs.Limits.{most_held}
use Rattle.base.proofs.SlicesAndCounts.{slice_push_cases}
use Rattle.journal.specs.declared.event.Event.{Event}
use Rattle.journal.specs.declared.event.Kind.{Kind}
use Rattle.journal.specs.declared.event.Kind.TheVariants as kind
use Rattle.journal.specs.DidEvent.{did, event}
use Rattle.journal.specs.ExplainedAnswers.{Explained, IsAnswer}
use Rattle.journal.specs.EventsInRange.{EventAddressesInRange, EventProcessorsInRange}
use Rattle.journal.specs.Sizes.{Sizes}
use Rattle.journal.specs.WellFormed.{WellFormedAnswer, Does, WellFormedNext}
use Rattle.journal.proofs.Journals.WellFormedStays.{well_formed_stays_start, well_formed_stays_front, well_formed_stays_push}
use Rattle.journal.proofs.Order.EventPlacesAndCounts.{event_place_at_end, event_place_longer, event_place_inside}
use Rattle.judge.proofs.sources.Answering.{answering_longer_law}
use Rattle.lrc_script.specs.Lawful.{IsLawful, IsLawfulSection, plan_addresses}
use Rattle.lrc_script.specs.Plan.{Plan}
use Rattle.conformance.specs.Follows.{calls_of, is_fetch, plan_sizes}
use Rattle.explore.specs.declared.prefixes.script_call.ScriptCall.{ScriptCall}
use Rattle.explore.specs.declared.prefixes.script_call.ScriptCall.TheVariants.{Call, Adds}
use Rattle.explore.specs.AllowedRuns.{IsAllowedRunBeginning}
use Rattle.explore.specs.AllowedBeginnings.{AllowedBeginningMayCall}
use Rattle.explore.specs.Prefixes.ScriptCalls.{IsScriptCallNext, FitsScriptCall, script_calls_of_section, script_calls_shown_by, last_reply_of_script_calls, replyless_script_call}
use Rattle.explore.proofs.Lengths.{length_of_begun_section_few, length_total, lengths_total_few, section_length_few, shown_length_few}
use Rattle.explore.proofs.MachineSteps.{IsMachineStepRow, machine_step_kind_address, machine_step_row_proper, machine_step_no_fetch}
use Rattle.explore.proofs.PrefixRuns.Beginnings.{prefix_beginning_fetchless_push, prefix_beginning_push, prefix_beginning_calls_now, prefix_beginning_script_front}
use Rattle.explore.proofs.PrefixRuns.SectionCalls.{section_calls_start}

-- a load may follow with any reply
next_allowed_any_answer : (a v w : ℕ) (k : Kind) → WellFormedAnswer k (kind.Load a v) → WellFormedAnswer k (kind.Load a w)
next_allowed_any_answer a v w (kind.Ask l) is = absurd cc
next_allowed_any_answer a v w kind.Arrive is = absurd cc
next_allowed_any_answer a v w (kind.Watch f) is = absurd cc
next_allowed_any_answer a v w _ is = tt

next_allowed_any_load : (s : Sizes) (g : List Event) (p a v w : ℕ) → WellFormedNext s g (event p (kind.Load a v)) → WellFormedNext s g (event p (kind.Load a w))
next_allowed_any_load s g p a v w may = record {
  processor = may.processor;
  in_range = may.in_range;
  answers = λ i k last. next_allowed_any_answer a v w k (may.answers i k last);
  allowed = tt;
}

pub next_allowed_replyless : (s : Sizes) (g : List Event) (p : ℕ) (k : Kind)
    → WellFormedNext s g (event p k) ↔ WellFormedNext s g (event p (replyless_script_call k))
next_allowed_replyless s g p (kind.Load a v) = (next_allowed_any_load s g p a v 0, next_allowed_any_load s g p a 0 v)
next_allowed_replyless s g p _ = ((λ h. h), (λ h. h))

-- nothing is allowed, and a front of what is allowed
pub next_allowed_from_nothing : (s : Plan) → IsAllowedRunBeginning s []
next_allowed_from_nothing s = record {
  well_formed = well_formed_stays_start (plan_sizes s);
  begins = λ p section at. section_calls_start section (script_calls_shown_by s p);
  explained = λ k p a v does. absurd (none-some (event p (kind.Load a v)) does);
  no_fetch = λ i e at. absurd (none-some e at);
}

pub next_allowed_of_front : (s : Plan) (g more : List Event) → IsAllowedRunBeginning s (g ++ more) → IsAllowedRunBeginning s g
next_allowed_of_front s g more h = record {
  well_formed = well_formed_stays_front (plan_sizes s) g more h.well_formed;
  begins = prefix_beginning_script_front s g more h.begins;
  explained = λ k p a v does.
      (answering_longer_law g more k a v (event_place_inside g k (event p (kind.Load a v)) does)).0
      (h.explained k p a v (event_place_longer g more k (event p (kind.Load a v)) does));
  no_fetch = λ i e at. h.no_fetch i e (event_place_longer g more i e at);
}

-- a load answers what it may
abbrev pub AllowedBeginningAnswers : List Event → ℕ → Kind → Type 0
AllowedBeginningAnswers g p k = (a v : ℕ) → k ≡ kind.Load a v → IsAnswer (did g p k) (length g) a v

next_allowed_explained_push : (g : List Event) (p : ℕ) (k : Kind) → Explained g → AllowedBeginningAnswers g p k → Explained (did g p k)
next_allowed_explained_push g p k old answers i q a v does = elim (slice_push_cases g (event p k) i (event q (kind.Load a v)) does) [
  | inl before ↦ (answering_longer_law g (event p k ∷ []) i a v before.0).1 (old i q a v before.1)
  | inr now ↦
      subst (λ n. IsAnswer (did g p k) n a v) (sym now.0) (answers a v (ap (λ (e : Event). e.kind) now.1))
]

-- p may do this next exactly if its section says so, what it waits for has come, and a load answers what it may
pub next_allowed_exactly : (s : Plan) (g : List Event) (p : ℕ) (k : Kind)
    → IsAllowedRunBeginning s (did g p k) ↔ (IsAllowedRunBeginning s g × AllowedBeginningMayCall s g p k × AllowedBeginningAnswers g p k)
next_allowed_exactly s g p k = (there, back)
  where
    there : IsAllowedRunBeginning s (did g p k) → IsAllowedRunBeginning s g × AllowedBeginningMayCall s g p k × AllowedBeginningAnswers g p k
    there h =
        let call : is_fetch k ≡ false = h.no_fetch (length g) (event p k) (event_place_at_end g (event p k)) in (
          next_allowed_of_front s g (event p k ∷ []) h,
          record {
            may_follow = ((well_formed_stays_push (plan_sizes s) g (event p k)).0 h.well_formed).1;
            calls = record { call = call; next = prefix_beginning_calls_now s g p k call h.begins };
          },
          λ a v is.
              h.explained (length g) p a v (subst (λ x. Does (did g p k) (length g) p x) is (event_place_at_end g (event p k))),
        )

    back : IsAllowedRunBeginning s g × AllowedBeginningMayCall s g p k × AllowedBeginningAnswers g p k → IsAllowedRunBeginning s (did g p k)
    back h = record {
      well_formed = (well_formed_stays_push (plan_sizes s) g (event p k)).1 (h.0.well_formed, h.1.may_follow);
      begins = prefix_beginning_push s g p k h.0.begins h.1.calls;
      explained = next_allowed_explained_push g p k h.0.explained h.2;
      no_fetch = prefix_beginning_fetchless_push g p k h.0.no_fetch h.1.calls.call;
    }

-- how long beginnings are
pub next_allowed_calls_few : (s : Plan) (g : List Event) (p : ℕ) → IsLawful s → IsAllowedRunBeginning s g → p < s.processors
    → length (calls_of g p) ≤ 20066
next_allowed_calls_few s g p lawful allowed lt =
    let long = lawful.but_uneven.one_each in
    let within : p < length s.sections = omega arith in
    let section = slice_index_or s.sections p [] in
    let is = All-get_or (IsLawfulSection s) s.sections p [] within lawful.but_uneven.sections in
    let begun = length_of_begun_section_few section (script_calls_shown_by s p) (calls_of g p) (allowed.begins p section (slice_get-get_or s.sections p [] within)) in
    let few = section_length_few section (script_calls_shown_by s p) is.most (shown_length_few s p lawful) in
    omega arith

pub next_allowed_processors : (s : Plan) (g : List Event) → IsAllowedRunBeginning s g → EventProcessorsInRange s.processors g
next_allowed_processors s g allowed i e at = (allowed.well_formed i e at).processor

pub next_allowed_addresses : (s : Plan) (g : List Event) → IsAllowedRunBeginning s g → EventAddressesInRange (plan_addresses s) g
next_allowed_addresses s g allowed i e at = machine_step_kind_address s e.kind (plan_addresses s) refl (allowed.well_formed i e at).in_range

pub next_allowed_length_few : (s : Plan) (g : List Event) → IsLawful s → IsAllowedRunBeginning s g → length g < most_held
next_allowed_length_few s g lawful allowed =
    let is = length_total s.processors g allowed.no_fetch (next_allowed_processors s g allowed) in
    let few = lengths_total_few (λ p. length (calls_of g p)) s.processors 20066 (λ q lt. next_allowed_calls_few s g q lawful allowed lt) in
    let most = lawful.but_uneven.sizes.most_processors in
    omega arith

-- what p's next step says, after so many calls
module _ (s : Plan) (g : List Event) (p : ℕ) (row : Vec ScriptCall) (lawful : IsLawful s) (of : IsMachineStepRow s p row) where
  next_allowed_called : (k : Kind) → AllowedBeginningMayCall s g p k → IsScriptCallNext row.items (calls_of g p) k
  next_allowed_called k h = subst (λ xs. IsScriptCallNext xs (calls_of g p) k) (sym of.are) (h.calls.next of.section of.at)

  -- if all calls are made, there is no next one
  pub next_allowed_none_past_steps : length row.items ≤ length (calls_of g p) → (k : Kind) → ¬ AllowedBeginningMayCall s g p k
  next_allowed_none_past_steps past k h =
      let next = next_allowed_called k h in
      let within = slice_get_within row.items (length (calls_of g p)) next.step next.at in
      omega arith

  -- else the step says which it may be
  pub next_allowed_at_step : (reply : ℕ) → reply ≡ last_reply_of_script_calls (calls_of g p) → (x : ScriptCall)
      → slice_get row.items (length (calls_of g p)) ≡ Some x → (c : Kind)
      → ((k : Kind) → (c ≡ replyless_script_call k) ↔ FitsScriptCall reply x k) → (k : Kind)
      → AllowedBeginningMayCall s g p k ↔ (WellFormedNext (plan_sizes s) g (event p c) × (c ≡ replyless_script_call k))
  next_allowed_at_step reply told x at c says k = (there, back)
    where
      there : AllowedBeginningMayCall s g p k → WellFormedNext (plan_sizes s) g (event p c) × (c ≡ replyless_script_call k)
      there h =
          let next = next_allowed_called k h in
          let same = same_Some next.step x (sym next.at ∙ at) in
          let step = subst (λ y. FitsScriptCall (last_reply_of_script_calls (calls_of g p)) y k) same next.is in
          let mine = subst (λ r. FitsScriptCall r x k) (sym told) step in
          let is = (says k).1 mine in
          let plain = (next_allowed_replyless (plan_sizes s) g p k).0 h.may_follow in
          (subst (λ y. WellFormedNext (plan_sizes s) g (event p y)) (sym is) plain, is)

      back : WellFormedNext (plan_sizes s) g (event p c) × (c ≡ replyless_script_call k) → AllowedBeginningMayCall s g p k
      back h =
          let step = subst (λ r. FitsScriptCall r x k) told ((says k).0 h.1) in
          record {
            may_follow = (next_allowed_replyless (plan_sizes s) g p k).1
                (subst (λ y. WellFormedNext (plan_sizes s) g (event p y)) h.1 h.0);
            calls = record {
              call = machine_step_no_fetch s (last_reply_of_script_calls (calls_of g p)) x k
                  (machine_step_row_proper s p row (length (calls_of g p)) x lawful of at) step;
              next = λ section here.
                  subst (λ ys. IsScriptCallNext ys (calls_of g p) k)
                  (of.are ∙ ap (λ y. script_calls_of_section y (script_calls_shown_by s p)) (same_Some of.section section (sym of.at ∙ here)))
                  (record { step = x; at = at; is = step });
            };
          }

-- a load that may come next may come with any reply, if it may answer that
next_allowed_any_of_step : (reply a v w : ℕ) (step : ScriptCall) → FitsScriptCall reply step (kind.Load a v) → FitsScriptCall reply step (kind.Load a w)
next_allowed_any_of_step reply a v w (Call c) is = is
next_allowed_any_of_step reply a v w (Adds b u) is = absurd cc

next_allowed_any_reply : (s : Plan) (g : List Event) (p a v w : ℕ) → AllowedBeginningMayCall s g p (kind.Load a v) → AllowedBeginningMayCall s g p (kind.Load a w)
next_allowed_any_reply s g p a v w may = record {
  may_follow = next_allowed_any_load (plan_sizes s) g p a v w may.may_follow;
  calls = record {
    call = refl;
    next = λ section at.
        let next = may.calls.next section at in
        record {
          step = next.step;
          at = next.at;
          is = next_allowed_any_of_step (last_reply_of_script_calls (calls_of g p)) a v w next.step next.is;
        };
  };
}

next_allowed_answer_as : (j : List Event) (n a v b w : ℕ) → kind.Load a v ≡ kind.Load b w → IsAnswer j n a v → IsAnswer j n b w
next_allowed_answer_as j n a v b w is answer =
    let address : a ≡ b = cc in
    let value : v ≡ w = cc in
    subst (λ x. IsAnswer j n x w) address (subst (IsAnswer j n a) value answer)

pub next_allowed_load : (s : Plan) (g : List Event) (p a v : ℕ) → IsAllowedRunBeginning s g → AllowedBeginningMayCall s g p (kind.Load a 0)
    → IsAllowedRunBeginning s (did g p (kind.Load a v)) ↔ IsAnswer (did g p (kind.Load a v)) (length g) a v
next_allowed_load s g p a v allowed may = (
  λ next. ((next_allowed_exactly s g p (kind.Load a v)).0 next).2 a v refl,
  λ answer. (next_allowed_exactly s g p (kind.Load a v)).1 (
    allowed,
    next_allowed_any_reply s g p a 0 v may,
    λ b w is. next_allowed_answer_as (did g p (kind.Load a v)) (length g) a v b w is answer,
  ),
)

-- and another call may come next
pub next_allowed_other_call : (s : Plan) (g : List Event) (p : ℕ) (k : Kind) → IsAllowedRunBeginning s g → AllowedBeginningMayCall s g p k
    → ((a v : ℕ) → k ≢ kind.Load a v) → IsAllowedRunBeginning s (did g p k)
next_allowed_other_call s g p k allowed may other = (next_allowed_exactly s g p k).1 (allowed, may, λ a v is. absurd (other a v is))
