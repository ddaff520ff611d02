-- A flat run without its fetches is a flat run.
use Rattle.std.proofs.Common.{ℕ, zero, suc, ◌≡◌, ◌≢◌, List, ◌∷◌, inl, inr, true, false, replicate, refl, sym, ap, subst, ◌∙◌}
use Rattle.std.proofs.lemmas.Bool.{cases_eq}
use Rattle.std.proofs.lemmas.Option.{none-some, same_Some}
use Rattle.journal.specs.declared.event.Event.{Event}
use Rattle.journal.specs.declared.event.Kind.{Kind}
use Rattle.journal.specs.declared.event.Kind.TheVariants.{Store, Fetch}
use Rattle.journal.specs.ReplayMemory.{replay_memory_write, Replays}
use Rattle.base.specs.LastWrite.{wrote}
use Rattle.lrc_script.specs.Plan.{Plan}
use Rattle.lrc_script.specs.Lawful.{plan_addresses}
use Rattle.conformance.specs.Follows.{plan_sizes, is_fetch, calls_of}
use Rattle.conformance.specs.FlatRuns.{IsFlatRun, FlatRunHasNoFetch}
use Rattle.conformance.proofs.FollowedCalls.{followed_calls_first, followed_calls_first-fetch, followed_calls_first-other}
use Rattle.conformance.proofs.Recomputing.EventReplays.{event_replays_answers_first, event_replays_rest, event_replays_first}
use Rattle.conformance.proofs.WithoutFetches.HistoryWithoutFetches.{without_fetches, by_events_without_fetches, without_fetches_of}
use Rattle.conformance.proofs.WithoutFetches.WellFormed.{well_formed_without_fetches}

-- nothing is fetched in what is left
pub run_without_fetches_has_none : (h : List Event) → FlatRunHasNoFetch (without_fetches h)
run_without_fetches_has_none = by_events_without_fetches (λ g h. FlatRunHasNoFetch g) (λ i e at. absurd (none-some e at)) (λ e h is x. x) call
  where
    call : (e : Event) (h : List Event) → is_fetch e.kind ≡ false → FlatRunHasNoFetch (without_fetches h)
        → FlatRunHasNoFetch (e ∷ without_fetches h)
    call e h is x zero f at = subst (λ (y : Event). is_fetch y.kind ≡ false) (same_Some e f at) is
    call e h is x (suc i) f at = x i f at

-- each processor's calls are the same
pub run_calls_without_fetches : (p : ℕ) (h : List Event) → calls_of (without_fetches h) p ≡ calls_of h p
run_calls_without_fetches p = by_events_without_fetches (λ g h. calls_of g p ≡ calls_of h p) refl fetch call
  where
    fetch : (e : Event) (h : List Event) → is_fetch e.kind ≡ true → calls_of (without_fetches h) p ≡ calls_of h p
        → calls_of (without_fetches h) p ≡ calls_of (e ∷ h) p
    fetch e h is same = same ∙ sym (followed_calls_first-fetch e.processor p e.kind h is)

    own : (e : Event) (h : List Event) → is_fetch e.kind ≡ false
        → calls_of (without_fetches h) e.processor ≡ calls_of h e.processor
        → calls_of (e ∷ without_fetches h) e.processor ≡ calls_of (e ∷ h) e.processor
    own e h is same =
        followed_calls_first e.processor e.kind (without_fetches h) is ∙ ap (λ ks. e.kind ∷ ks) same
        ∙ sym (followed_calls_first e.processor e.kind h is)

    other : (e : Event) (h : List Event) → e.processor ≢ p → calls_of (without_fetches h) p ≡ calls_of h p
        → calls_of (e ∷ without_fetches h) p ≡ calls_of (e ∷ h) p
    other e h apart same =
        followed_calls_first-other e.processor p e.kind (without_fetches h) apart ∙ same
        ∙ sym (followed_calls_first-other e.processor p e.kind h apart)

    call : (e : Event) (h : List Event) → is_fetch e.kind ≡ false → calls_of (without_fetches h) p ≡ calls_of h p
        → calls_of (e ∷ without_fetches h) p ≡ calls_of (e ∷ h) p
    call e h is same = elim (cases_eq e.processor p) [
      | inl mine ↦ (let P : ℕ → Type 0 = λ q. calls_of (without_fetches h) q ≡ calls_of h q in
          let Q : ℕ → Type 0 = λ q. calls_of (e ∷ without_fetches h) q ≡ calls_of (e ∷ h) q in
          subst Q mine (own e h is (subst P (sym mine) same)))
      | inr apart ↦ other e h apart same
    ]

-- a fetch writes nothing
run_fetch_writes_nothing : (memory : List ℕ) (k : Kind) → is_fetch k ≡ true → wrote memory (replay_memory_write k) ≡ memory
run_fetch_writes_nothing memory (Fetch w n r d) is = refl
run_fetch_writes_nothing memory (Store a v) is = absurd (cc)
run_fetch_writes_nothing memory _ is = refl

-- what replays does so without its fetches
pub run_replays_without_fetches : (h : List Event) (memory : List ℕ) → Replays memory h → Replays memory (without_fetches h)
run_replays_without_fetches = by_events_without_fetches (λ g h. (memory : List ℕ) → Replays memory h → Replays memory g)
    (λ memory replays. replays) fetch call
  where
    fetch : (e : Event) (h : List Event) → is_fetch e.kind ≡ true
        → ((memory : List ℕ) → Replays memory h → Replays memory (without_fetches h)) → (memory : List ℕ)
        → Replays memory (e ∷ h) → Replays memory (without_fetches h)
    fetch e h is more memory replays =
        let rest = event_replays_rest memory e h replays in
        more memory (subst (λ (m : List ℕ). Replays m h) (run_fetch_writes_nothing memory e.kind is) rest)

    call : (e : Event) (h : List Event) → is_fetch e.kind ≡ false
        → ((memory : List ℕ) → Replays memory h → Replays memory (without_fetches h)) → (memory : List ℕ)
        → Replays memory (e ∷ h) → Replays memory (e ∷ without_fetches h)
    call e h is more memory replays =
        let first = event_replays_answers_first memory e.processor e.kind h replays in
        event_replays_first memory e (without_fetches h) first
        (more (wrote memory (replay_memory_write e.kind)) (event_replays_rest memory e h replays))

-- a flat run is one without its fetches
pub run_without_fetches : (s : Plan) (h : List Event) → IsFlatRun s h → IsFlatRun s (without_fetches h)
run_without_fetches s h run =
    record {
      well_formed = well_formed_without_fetches (plan_sizes s) (without_fetches h) h (without_fetches_of h) run.well_formed;
      follows = λ p section at. rw (run_calls_without_fetches p h) (run.follows p section at);
      replays = run_replays_without_fetches h (replicate (plan_addresses s) 0) run.replays;
    }
