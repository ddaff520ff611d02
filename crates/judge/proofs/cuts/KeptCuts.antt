-- What a lock, a flag and an episode keep: the cut of all up to their releases, sets and arrivals.
use Rattle.std.proofs.Common.{◌≡◌, ◌≢◌, ℕ, ◌<◌, ◌⊎◌, inl, inr, ◌↔◌, List, [], ◌∷◌, ◌++◌, length, subst, refl}
use Rattle.journal.specs.declared.event.Event.{Event}
use Rattle.journal.specs.declared.event.Kind.{Kind}
use Rattle.journal.specs.declared.event.Kind.TheVariants.{Arrive}
use Rattle.journal.specs.Events.{EventAt, event_count, event_arrives}
use Rattle.journal.specs.Pasts.{UpTo, InPastOfSome}
use Rattle.journal.specs.Brings.{BringsFromKind, BringsFromSomeArrival}
use Rattle.journal.proofs.Order.IntoPast.{into_past_up_to_longer, into_past_up_to_shorter, into_past_up_to_within}
use Rattle.journal.proofs.Times.KeptTimes.{kept_time_does_within, kept_time_arrives_within, kept_time_does, kept_time_does_now, kept_time_arrives, kept_time_arrives_others, kept_time_arrives_now}
use Rattle.judge.specs.Cuts.{IsCutIn}
use Rattle.judge.proofs.cuts.CutsOfPlaces.{IsRaisedCut, cut_of_places_longer, cut_of_places_joined, cut_of_places_same}

-- the same places keep their cut as the history goes on
pub kept_cut_others : (j es : List Event) (some others : ℕ → Type 0) (t : ℕ → ℕ) → ((i : ℕ) → some i → i < length j)
    → ((i : ℕ) → some i ↔ others i) → IsCutIn j (InPastOfSome j some) t → IsCutIn (j ++ es) (InPastOfSome (j ++ es) others) t
kept_cut_others j es some others t inside is a =
    cut_of_places_longer j es (InPastOfSome j some) (InPastOfSome (j ++ es) others) t (λ i. (there i, back i))
    (λ i h. into_past_up_to_within j h.0 i (inside h.0 h.1) h.2) a
  where
    there : (i : ℕ) → InPastOfSome j some i → InPastOfSome (j ++ es) others i
    there i h = (h.0, (is h.0).0 h.1, into_past_up_to_longer j es h.0 i h.2)

    back : (i : ℕ) → InPastOfSome (j ++ es) others i → InPastOfSome j some i
    back i h = let old = (is h.0).1 h.1 in (h.0, old, into_past_up_to_shorter j es h.0 i (inside h.0 old) h.2)

-- with the event that is pushed among them, their cut is raised to what this one hands on
pub kept_cut_now : {t u v : ℕ → ℕ} → (j : List Event) (e : Event) (some others : ℕ → Type 0) → ((i : ℕ)
    → some i → i < length j)
    → ((i : ℕ) → others i ↔ (some i ⊎ (i ≡ length j))) → IsRaisedCut t u v
    → IsCutIn j (InPastOfSome j some) t → IsCutIn (j ++ e ∷ []) (UpTo (j ++ e ∷ []) (length j)) u
    → IsCutIn (j ++ e ∷ []) (InPastOfSome (j ++ e ∷ []) others) v
kept_cut_now {t} {u} {v} j e some others inside is raised a b =
    cut_of_places_same (j ++ e ∷ []) (λ i. InPastOfSome (j ++ e ∷ []) some i ⊎ UpTo (j ++ e ∷ []) (length j) i)
    (InPastOfSome (j ++ e ∷ []) others) v (λ i. (there i, back i))
    (cut_of_places_joined raised (kept_cut_others j (e ∷ []) some some t inside (λ i. ((λ h. h), (λ h. h))) a) b)
  where
    there : (i : ℕ) → InPastOfSome (j ++ e ∷ []) some i ⊎ UpTo (j ++ e ∷ []) (length j) i
        → InPastOfSome (j ++ e ∷ []) others i
    there i (inl h) = (h.0, (is h.0).1 (inl h.1), h.2)
    there i (inr h) = (length j, (is (length j)).1 (inr refl), h)

    back : (i : ℕ) → InPastOfSome (j ++ e ∷ []) others i
        → InPastOfSome (j ++ e ∷ []) some i ⊎ UpTo (j ++ e ∷ []) (length j) i
    back i h =
        elim ((is h.0).0 h.1)
        [ inl old ↦ inl (h.0, old, h.2) | inr new ↦ inr (subst (λ m. UpTo (j ++ e ∷ []) m i) new h.2) ]

-- a lock or flag keeps its cut under events of other kinds
pub kept_cut_of_kind : (j es : List Event) (k : Kind) (t : ℕ → ℕ) → ((m : ℕ) (f : Event) → EventAt es m f → f.kind ≢ k)
    → IsCutIn j (InPastOfSome j (BringsFromKind j k)) t
    → IsCutIn (j ++ es) (InPastOfSome (j ++ es) (BringsFromKind (j ++ es) k)) t
kept_cut_of_kind j es k t away a =
    kept_cut_others j es (BringsFromKind j k) (BringsFromKind (j ++ es) k) t (kept_time_does_within j k)
    (λ i. kept_time_does j es k i away) a

-- a release or a set joins what it hands on
pub kept_cut_kind_joins : {t u v : ℕ → ℕ} → (j : List Event) (e : Event)
    → IsRaisedCut t u v → IsCutIn j (InPastOfSome j (BringsFromKind j e.kind)) t
    → IsCutIn (j ++ e ∷ []) (UpTo (j ++ e ∷ []) (length j)) u
    → IsCutIn (j ++ e ∷ []) (InPastOfSome (j ++ e ∷ []) (BringsFromKind (j ++ e ∷ []) e.kind)) v
kept_cut_kind_joins j e raised a b =
    kept_cut_now j e (BringsFromKind j e.kind) (BringsFromKind (j ++ e ∷ []) e.kind) (kept_time_does_within j e.kind)
    (λ i. kept_time_does_now j e i) raised a b

-- an episode keeps its cut under events that are no arrivals
pub kept_cut_of_arrivals : (j es : List Event) (n : ℕ) (t : ℕ → ℕ) → ((m : ℕ) (f : Event) → EventAt es m f → f.kind ≢ Arrive)
    → IsCutIn j (InPastOfSome j (BringsFromSomeArrival j n)) t
    → IsCutIn (j ++ es) (InPastOfSome (j ++ es) (BringsFromSomeArrival (j ++ es) n)) t
kept_cut_of_arrivals j es n t away a =
    kept_cut_others j es (BringsFromSomeArrival j n) (BringsFromSomeArrival (j ++ es) n) t (kept_time_arrives_within j n)
    (λ i. kept_time_arrives j es n i away) a

-- and under arrivals at other episodes
pub kept_cut_other_arrivals : (j : List Event) (e : Event) (n : ℕ) (t : ℕ → ℕ) → event_count event_arrives j e.processor ≢ n
    → IsCutIn j (InPastOfSome j (BringsFromSomeArrival j n)) t
    → IsCutIn (j ++ e ∷ []) (InPastOfSome (j ++ e ∷ []) (BringsFromSomeArrival (j ++ e ∷ []) n)) t
kept_cut_other_arrivals j e n t away a =
    kept_cut_others j (e ∷ []) (BringsFromSomeArrival j n) (BringsFromSomeArrival (j ++ e ∷ []) n) t
    (kept_time_arrives_within j n)
    (λ i. kept_time_arrives_others j e n i away) a

-- an arrival joins what it hands on
pub kept_cut_arrival_joins : {t u v : ℕ → ℕ} → (j : List Event) (e : Event)
    → IsRaisedCut t u v → e.kind ≡ Arrive
    → IsCutIn j (InPastOfSome j (BringsFromSomeArrival j (event_count event_arrives j e.processor))) t
    → IsCutIn (j ++ e ∷ []) (UpTo (j ++ e ∷ []) (length j)) u
    → IsCutIn (j ++ e ∷ [])
    (InPastOfSome (j ++ e ∷ []) (BringsFromSomeArrival (j ++ e ∷ []) (event_count event_arrives j e.processor))) v
kept_cut_arrival_joins j e raised arrive a b =
    kept_cut_now j e (BringsFromSomeArrival j (event_count event_arrives j e.processor))
    (BringsFromSomeArrival (j ++ e ∷ []) (event_count event_arrives j e.processor))
    (kept_time_arrives_within j (event_count event_arrives j e.processor)) (λ i. kept_time_arrives_now j e i arrive) raised
    a b
