-- What begins a script on one flat memory, and what makes it longer.
use Rattle.std.proofs.Common.{ℕ, ◌≡◌, inl, inr, false, List, [], ◌∷◌, ◌++◌, take, length, replicate, Some, slice_get, sym, ap, subst, ◌∙◌, append-nil, arith}
use Rattle.std.proofs.lemmas.Bool.{cases_eq}
use Rattle.std.proofs.lemmas.Option.{none-some}
use Rattle.std.proofs.lemmas.List.{take-append-le}
use Rattle.std.proofs.Math.Seq.{take-append_seam}
use Rattle.journal.specs.declared.event.Event.{Event}
use Rattle.journal.specs.declared.event.Kind.{Kind}
use Rattle.journal.specs.declared.event.Kind.TheVariants.{Load}
use Rattle.journal.specs.DidEvent.{did, event}
use Rattle.journal.specs.ReplayMemory.{AnswersReplayMemory, Replays, memory_after}
use Rattle.journal.proofs.Order.EventPlacesAndCounts.{event_place_at_end, event_place_longer, event_place_inside}
use Rattle.journal.proofs.Journals.WellFormedStays.{well_formed_stays_push, well_formed_stays_start, well_formed_stays_front}
use Rattle.base.proofs.SlicesAndCounts.{slice_push_cases}
use Rattle.lrc_script.specs.declared.script.Instruction.{Instruction}
use Rattle.lrc_script.specs.Plan.{Plan}
use Rattle.lrc_script.specs.Lawful.{plan_addresses}
use Rattle.conformance.specs.ScriptBegins.{BeginsScript, BeginsSection}
use Rattle.conformance.specs.Follows.{plan_sizes, calls_of, is_fetch, Follows, FollowsSection}
use Rattle.conformance.specs.FlatRuns.{FlatRunHasNoFetch}
use Rattle.conformance.proofs.SectionBegins.{section_begins_front}
use Rattle.conformance.proofs.FollowedCalls.{followed_calls-append, followed_calls-own, followed_calls-others}
use Rattle.explore.specs.Prefixes.FlatBeginnings.{IsFlatBeginning}
use Rattle.explore.specs.Prefixes.ScriptCalls.{IsScriptCallNext, ScriptCallsNext, script_calls_of_section, script_calls_shown_by}
use Rattle.explore.specs.Prefixes.PrefixLaws.{PrefixEmptyLaw, PrefixFrontLaw, PrefixCanGoOn, PrefixNeverRacesLaw, PrefixNextLaw, PrefixDoneLaw}
use Rattle.explore.proofs.PrefixRuns.SectionCalls.{section_calls_start, section_calls_push, section_calls_follows_length}

-- what follows a script begins it
pub prefix_beginning_of_followed : (s : Plan) (g : List Event) → Follows s g → BeginsScript s g
prefix_beginning_of_followed s g follows p section at = record {
  rest = [];
  follows = subst (FollowsSection section (script_calls_shown_by s p)) (sym (append-nil (calls_of g p))) (follows p section at);
}

pub prefix_beginning_never_races : PrefixNeverRacesLaw
prefix_beginning_never_races s free g run none =
    free g
    (record {
      well_formed = run.well_formed;
      begins = prefix_beginning_of_followed s g run.follows;
      replays = run.replays;
      no_fetch = none;
    })

pub prefix_beginning_empty : PrefixEmptyLaw
prefix_beginning_empty s = record {
  well_formed = well_formed_stays_start (plan_sizes s);
  begins = λ p section at. section_calls_start section (script_calls_shown_by s p);
  replays = λ i p a v does. absurd (none-some (event p (Load a v)) does);
  no_fetch = λ i e at. absurd (none-some e at);
}

prefix_beginning_replays_front : (start : List ℕ) (g more : List Event) → Replays start (g ++ more) → Replays start g
prefix_beginning_replays_front start g more replays i p a v does =
    let lt = event_place_inside g i (event p (Load a v)) does in
    subst (λ es. slice_get (memory_after start es) a ≡ Some v) (take-append-le i g more (omega arith))
    (replays i p a v (event_place_longer g more i (event p (Load a v)) does))

-- a front of what begins a script does so
pub prefix_beginning_script_front : (s : Plan) (g more : List Event) → BeginsScript s (g ++ more) → BeginsScript s g
prefix_beginning_script_front s g more begins p section at =
    section_begins_front section (script_calls_shown_by s p) (calls_of g p) (calls_of more p)
    (subst (BeginsSection section (script_calls_shown_by s p)) (followed_calls-append g more p) (begins p section at))

pub prefix_beginning_front : PrefixFrontLaw
prefix_beginning_front s g more h = record {
  well_formed = well_formed_stays_front (plan_sizes s) g more h.well_formed;
  begins = prefix_beginning_script_front s g more h.begins;
  replays = prefix_beginning_replays_front (replicate (plan_addresses s) 0) g more h.replays;
  no_fetch = λ i e at. h.no_fetch i e (event_place_longer g more i e at);
}

-- a load that comes last answers its word
prefix_beginning_answers_last : (start : List ℕ) (g : List Event) (p : ℕ) (k : Kind) → Replays start (did g p k)
    → AnswersReplayMemory (memory_after start g) k
prefix_beginning_answers_last start g p (Load a v) replays =
    subst (λ es. slice_get (memory_after start es) a ≡ Some v) (take-append_seam g (event p (Load a v) ∷ []))
    (replays (length g) p a v (event_place_at_end g (event p (Load a v))))
prefix_beginning_answers_last start g p _ replays = tt

prefix_beginning_replays_push : (start : List ℕ) (g : List Event) (p : ℕ) (k : Kind) → Replays start g
    → AnswersReplayMemory (memory_after start g) k → Replays start (did g p k)
prefix_beginning_replays_push start g p k old answers i q a v does = elim (slice_push_cases g (event p k) i (event q (Load a v)) does) [
  | inl before ↦
      (let lt = before.0 in
      subst (λ es. slice_get (memory_after start es) a ≡ Some v) (sym (take-append-le i g (event p k ∷ []) (omega arith)))
      (old i q a v before.1))
  | inr now ↦
      (let word : slice_get (memory_after start g) a ≡ Some v =
      subst (AnswersReplayMemory (memory_after start g)) (ap (λ (e : Event). e.kind) now.1) answers in
      subst (λ es. slice_get (memory_after start es) a ≡ Some v)
      (sym (take-append_seam g (event p k ∷ [])) ∙ ap (λ n. take n (did g p k)) (sym now.0)) word)
]

pub prefix_beginning_calls_now : (s : Plan) (g : List Event) (p : ℕ) (k : Kind) → is_fetch k ≡ false → BeginsScript s (did g p k)
    → (section : List Instruction) → slice_get s.sections p ≡ Some section
    → IsScriptCallNext (script_calls_of_section section (script_calls_shown_by s p)) (calls_of g p) k
prefix_beginning_calls_now s g p k call begins section at =
    ((section_calls_push section (script_calls_shown_by s p) (calls_of g p) k).0
    (subst (BeginsSection section (script_calls_shown_by s p)) (followed_calls-own g p k call) (begins p section at))).1

pub prefix_beginning_push : (s : Plan) (g : List Event) (p : ℕ) (k : Kind) → BeginsScript s g → ScriptCallsNext s g p k
    → BeginsScript s (did g p k)
prefix_beginning_push s g p k begins may q section at = elim (cases_eq p q) [
  | inl is ↦
      (let here : slice_get s.sections p ≡ Some section =
      subst (λ r. slice_get s.sections r ≡ Some section) (sym is) at in
      subst (λ r. BeginsSection section (script_calls_shown_by s r) (calls_of (did g p k) r)) is
      (subst (BeginsSection section (script_calls_shown_by s p)) (sym (followed_calls-own g p k may.call))
      ((section_calls_push section (script_calls_shown_by s p) (calls_of g p) k).1 (begins p section here, may.next section here))))
  | inr isnt ↦
      subst (BeginsSection section (script_calls_shown_by s q)) (sym (followed_calls-others g p q k isnt)) (begins q section at)
]

pub prefix_beginning_fetchless_push : (g : List Event) (p : ℕ) (k : Kind) → FlatRunHasNoFetch g → is_fetch k ≡ false → FlatRunHasNoFetch (did g p k)
prefix_beginning_fetchless_push g p k none call i e at = elim (slice_push_cases g (event p k) i e at) [
  | inl before ↦ none i e before.1
  | inr now ↦ ap (λ (x : Event). is_fetch x.kind) (sym now.1) ∙ call
]

pub prefix_beginning_next : PrefixNextLaw
prefix_beginning_next s g p k = (there, back)
  where
    there : IsFlatBeginning s (did g p k) → IsFlatBeginning s g × PrefixCanGoOn s g p k
    there h =
        let call : is_fetch k ≡ false = h.no_fetch (length g) (event p k) (event_place_at_end g (event p k)) in (
          prefix_beginning_front s g (event p k ∷ []) h,
          record {
            may_follow = ((well_formed_stays_push (plan_sizes s) g (event p k)).0 h.well_formed).1;
            calls = record { call = call; next = prefix_beginning_calls_now s g p k call h.begins };
            answers = prefix_beginning_answers_last (replicate (plan_addresses s) 0) g p k h.replays;
          },
        )

    back : IsFlatBeginning s g × PrefixCanGoOn s g p k → IsFlatBeginning s (did g p k)
    back h = record {
      well_formed = (well_formed_stays_push (plan_sizes s) g (event p k)).1 (h.0.well_formed, h.1.may_follow);
      begins = prefix_beginning_push s g p k h.0.begins h.1.calls;
      replays = prefix_beginning_replays_push (replicate (plan_addresses s) 0) g p k h.0.replays h.1.answers;
      no_fetch = prefix_beginning_fetchless_push g p k h.0.no_fetch h.1.calls.call;
    }

pub prefix_beginning_whole_done : PrefixDoneLaw
prefix_beginning_whole_done s g h = (
  λ follows p section at.
      (section_calls_follows_length section (script_calls_shown_by s p) (calls_of g p) (h.begins p section at)).0 (follows p section at),
  λ done p section at.
      (section_calls_follows_length section (script_calls_shown_by s p) (calls_of g p) (h.begins p section at)).1 (done p section at),
)
