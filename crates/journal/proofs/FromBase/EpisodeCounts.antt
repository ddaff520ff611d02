-- What stands at the end of an episode: every processor has arrived, and none departed.
use Rattle.std.proofs.Common.{◌≡◌, ◌≢◌, ℕ, ◌+◌, ◌<◌, ◌≤◌, ◌⊎◌, inl, inr, List, [], ◌∷◌, ◌++◌, IsTrue, refl, ap, subst, ◌∙◌, arith}
use Rattle.std.proofs.lemmas.Bool.{eq-eqb}
use Rattle.journal.specs.declared.event.Event.{Event}
use Rattle.journal.specs.declared.event.Kind.{Kind}
use Rattle.journal.specs.declared.event.Kind.TheVariants.{Arrive, Depart}
use Rattle.journal.specs.DidEvent.{event}
use Rattle.journal.specs.Sizes.{Sizes}
use Rattle.journal.specs.Events.{EventAt, event_count, event_arrives, event_departs}
use Rattle.journal.specs.WellFormed.{LastIs, WellFormedAllows, WellFormed}
use Rattle.journal.specs.EpisodeBases.{EndsBaseEpisode}
use Rattle.base.proofs.SlicesAndCounts.{slice_push_induction}
use Rattle.journal.proofs.Order.EventPlacesAndCounts.{event_count-append}
use Rattle.journal.proofs.Times.TimesOfPlaces.{time_of_places_one_event}
use Rattle.journal.proofs.Journals.WellFormedStays.{well_formed_stays_push, well_formed_stays_last_unique, well_formed_stays_last_or_none}
use Rattle.journal.proofs.Journals.ArrivalBalance.{arrivals_balanced}

-- a departure is told by its kind
episode_counts_kind_departs : (k : Kind) → IsTrue (event_departs k) → k ≡ Depart
episode_counts_kind_departs Depart h = refl
episode_counts_kind_departs _ h = absurd cc

-- a kind is an arrival or not
pub episode_counts_kind_arrives : (k : Kind) → (k ≡ Arrive) ⊎ (k ≢ Arrive)
episode_counts_kind_arrives Arrive = inl refl
episode_counts_kind_arrives _ = inr (λ h. cc)

-- nobody has departed more often than any processor has arrived
pub episode_counts_departs_few : (s : Sizes) (j : List Event) (p q : ℕ) → q < s.processors → WellFormed s j
    → event_count event_departs j p ≤ event_count event_arrives j q
episode_counts_departs_few s j p q within =
    slice_push_induction (λ xs. WellFormed s xs → event_count event_departs xs p ≤ event_count event_arrives xs q) (λ well. omega arith)
    step j
  where
    step : (xs : List Event) (e : Event) → (WellFormed s xs → event_count event_departs xs p ≤ event_count event_arrives xs q)
        → WellFormed s (xs ++ e ∷ []) → event_count event_departs (xs ++ e ∷ []) p ≤ event_count event_arrives (xs ++ e ∷ []) q
    step xs e ih well =
        let both = (well_formed_stays_push s xs e).0 well in
        let old = ih both.0 in
        let departs = event_count-append event_departs xs (e ∷ []) p in
        let arrives = event_count-append event_arrives xs (e ∷ []) q in
        elim (time_of_places_one_event event_departs e p) [
          | inl none ↦ omega (arith, none)
          | inr one ↦ (let all =
              (subst (λ k. WellFormedAllows s xs e.processor k) (episode_counts_kind_departs e.kind one.1) both.1.allowed).2 q within
              in
              let mine = ap (λ n. event_count event_departs xs n) one.0 in omega (arith, one.2))
        ]

-- a processor waits at the barrier, having arrived once more than departed; or it has arrived as often as departed
pub episode_counts_stand : (s : Sizes) (j : List Event) (p : ℕ) → WellFormed s j
    → ((i : ℕ) × LastIs j p i Arrive × (event_count event_arrives j p ≡ event_count event_departs j p + 1))
    ⊎ (event_count event_arrives j p ≡ event_count event_departs j p)
episode_counts_stand s j p well = go (well_formed_stays_last_or_none j p)
  where
    go : ((i : ℕ) × (a : Kind) × LastIs j p i a) ⊎ ((m : ℕ) (f : Event) → EventAt j m f → f.processor ≢ p)
        → ((i : ℕ) × LastIs j p i Arrive × (event_count event_arrives j p ≡ event_count event_departs j p + 1))
        ⊎ (event_count event_arrives j p ≡ event_count event_departs j p)
    go (inl x) = elim (episode_counts_kind_arrives x.1) [
      | inl is ↦
          (let last = subst (λ a. LastIs j p x.0 a) is x.2 in inl (x.0, last, (arrivals_balanced s j p well).waiting x.0 last))
      | inr isnt ↦ inr ((arrivals_balanced s j p well).going (λ i last. isnt (well_formed_stays_last_unique j p x.0 i x.1 Arrive x.2 last).1))
    ]
    go (inr none) = inr ((arrivals_balanced s j p well).going (λ i last. none i (event p Arrive) last.does refl))

-- who has arrived how often, where an episode ends, and where the last arrivals stand
pub record AreEpisodeCounts (processors : ℕ) (c : List Event) (n : ℕ) : Type 0 where
  pub arrivals : (q : ℕ) → q < processors → event_count event_arrives c q ≡ n
  pub departures : (q : ℕ) → q < processors → event_count event_departs c q + 1 ≡ n
  pub last : (q : ℕ) → q < processors → (i : ℕ) × LastIs c q i Arrive

episode_count_of_arrival : (p : ℕ) → event_count event_arrives (event p Arrive ∷ []) p ≡ 1
episode_count_of_arrival p = let own = eq-eqb p p refl in rw own refl

episode_count_of_no_departure : (p q : ℕ) → event_count event_departs (event p Arrive ∷ []) q ≡ 0
episode_count_of_no_departure p q = elim (time_of_places_one_event event_departs (event p Arrive) q) [ inl none ↦ none | inr one ↦ absurd (cc (one.1)) ]

-- where an episode ends, every processor has arrived so often, and departed once less
pub episode_counts_at_end : (s : Sizes) (c : List Event) → WellFormed s c → (x : EndsBaseEpisode s.processors c)
    → AreEpisodeCounts s.processors c (event_count event_arrives c x.by)
episode_counts_at_end s c well x =
    record { arrivals = λ q h. (each q h).0; departures = λ q h. (each q h).1; last = λ q h. (each q h).2 }
  where
    well_front : WellFormed s x.front
    well_front = ((well_formed_stays_push s x.front (event x.by Arrive)).0 (subst (WellFormed s) x.arrives well)).0

    by_within : x.by < s.processors
    by_within = ((well_formed_stays_push s x.front (event x.by Arrive)).0 (subst (WellFormed s) x.arrives well)).1.processor

    once_more : event_count event_arrives c x.by ≡ event_count event_arrives x.front x.by + 1
    once_more =
        ap (λ (xs : List Event). event_count event_arrives xs x.by) x.arrives
        ∙ event_count-append event_arrives x.front (event x.by Arrive ∷ []) x.by
        ∙ ap (λ n. event_count event_arrives x.front x.by + n) (episode_count_of_arrival x.by)

    no_more : (q : ℕ) → event_count event_departs c q ≡ event_count event_departs x.front q + 0
    no_more q =
        ap (λ (xs : List Event). event_count event_departs xs q) x.arrives
        ∙ event_count-append event_departs x.front (event x.by Arrive ∷ []) q
        ∙ ap (λ n. event_count event_departs x.front q + n) (episode_count_of_no_departure x.by q)

    each : (q : ℕ) → q < s.processors
        → (event_count event_arrives c q ≡ event_count event_arrives c x.by)
        × (event_count event_departs c q + 1 ≡ event_count event_arrives c x.by) × ((i : ℕ) × LastIs c q i Arrive)
    each q within =
        let few = episode_counts_departs_few s x.front q x.by by_within well_front in
        let all = x.all q within in
        let none = no_more q in
        elim (episode_counts_stand s c q well) [
          | inl waits ↦ (omega (arith, once_more, waits.2), omega (arith, once_more, waits.2), (waits.0, waits.1))
          | inr goes ↦ absurd (omega (arith, once_more, goes))
        ]
