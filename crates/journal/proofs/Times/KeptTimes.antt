-- What a lock, a flag and an episode keep: the time of all up to their releases, sets and arrivals.
use Rattle.std.proofs.Common.{◌≡◌, ◌≢◌, ℕ, ◌<◌, max, ◌⊎◌, inl, inr, ◌↔◌, List, [], ◌∷◌, ◌++◌, length, take, subst, sym, refl, ap, ◌∙◌, arith}
use Rattle.std.proofs.Math.Seq.{take-append_seam}
use Rattle.journal.specs.declared.event.Event.{Event}
use Rattle.journal.specs.declared.event.Kind.{Kind}
use Rattle.journal.specs.declared.event.Kind.TheVariants.{Arrive}
use Rattle.journal.specs.DidEvent.{event}
use Rattle.journal.specs.Events.{EventAt, event_count, event_arrives}
use Rattle.journal.specs.Pasts.{UpTo, InPastOfSome}
use Rattle.journal.specs.Times.{IsTimeIn, IsTimeOf}
use Rattle.journal.specs.Brings.{BringsFromKind, BringsFromArrival, BringsFromSomeArrival}
use Rattle.base.proofs.SlicesAndCounts.{slice_push_cases, slice_append_cases}
use Rattle.journal.proofs.Order.EventPlacesAndCounts.{event_place_inside, event_place_longer, event_place_at_end, event_count-front}
use Rattle.journal.proofs.Order.IntoPast.{into_past_up_to_longer, into_past_up_to_shorter, into_past_up_to_within}
use Rattle.journal.proofs.Times.TimesOfPlaces.{time_of_places_same, time_of_places_joined, time_of_places_longer}
use Rattle.journal.proofs.Times.PushedTimes.{pushed_time_at_last}

-- the same places keep their time as the journal goes on
pub kept_time_others : (j es : List Event) (some others : ℕ → Type 0) (t : ℕ → ℕ) → ((i : ℕ) → some i → i < length j)
    → ((i : ℕ) → some i ↔ others i) → IsTimeIn j (InPastOfSome j some) t
    → IsTimeIn (j ++ es) (InPastOfSome (j ++ es) others) t
kept_time_others j es some others t inside is a =
    time_of_places_longer j es (InPastOfSome j some) (InPastOfSome (j ++ es) others) t (λ i lt. (there i, back i))
    (λ i h. (let b = back i h in into_past_up_to_within j b.0 i (inside b.0 b.1) b.2)) a
  where
    there : (i : ℕ) → InPastOfSome j some i → InPastOfSome (j ++ es) others i
    there i h = (h.0, (is h.0).0 h.1, into_past_up_to_longer j es h.0 i h.2)

    back : (i : ℕ) → InPastOfSome (j ++ es) others i → InPastOfSome j some i
    back i h = let old = (is h.0).1 h.1 in (h.0, old, into_past_up_to_shorter j es h.0 i (inside h.0 old) h.2)

-- with the event that is pushed among them, they join its timestamp
pub kept_time_now : {j : List Event} {t u : ℕ → ℕ} → (e : Event) (some others : ℕ → Type 0)
    → ((i : ℕ) → some i → i < length j) → ((i : ℕ) → others i ↔ (some i ⊎ (i ≡ length j)))
    → IsTimeIn j (InPastOfSome j some) t → IsTimeOf (j ++ e ∷ []) e.processor u
    → IsTimeIn (j ++ e ∷ []) (InPastOfSome (j ++ e ∷ []) others) (λ q. max (t q) (u q))
kept_time_now {j} {t} {u} e some others inside is a b =
    time_of_places_same (j ++ e ∷ []) (λ i. InPastOfSome (j ++ e ∷ []) some i ⊎ UpTo (j ++ e ∷ []) (length j) i)
    (InPastOfSome (j ++ e ∷ []) others) (λ q. max (t q) (u q)) (λ i. (there i, back i))
    (time_of_places_joined (j ++ e ∷ []) (InPastOfSome (j ++ e ∷ []) some) (UpTo (j ++ e ∷ []) (length j)) t u
    (kept_time_others j (e ∷ []) some some t inside (λ i. ((λ h. h), (λ h. h))) a) (pushed_time_at_last j e u b))
  where
    there : (i : ℕ) → InPastOfSome (j ++ e ∷ []) some i ⊎ UpTo (j ++ e ∷ []) (length j) i
        → InPastOfSome (j ++ e ∷ []) others i
    there i (inl h) = (h.0, (is h.0).1 (inl h.1), h.2)
    there i (inr h) = (length j, (is (length j)).1 (inr refl), h)

    back : (i : ℕ) → InPastOfSome (j ++ e ∷ []) others i → InPastOfSome (j ++ e ∷ []) some i ⊎ UpTo (j ++ e ∷ []) (length j) i
    back i h =
        elim ((is h.0).0 h.1)
        [ inl old ↦ inl (h.0, old, h.2) | inr new ↦ inr (subst (λ m. UpTo (j ++ e ∷ []) m i) new h.2) ]

-- what someone does stands in the journal
pub kept_time_does_within : (j : List Event) (k : Kind) (i : ℕ) → BringsFromKind j k i → i < length j
kept_time_does_within j k i h = event_place_inside j i (event h.0 k) h.1

pub kept_time_arrives_within : (j : List Event) (n i : ℕ) → BringsFromSomeArrival j n i → i < length j
kept_time_arrives_within j n i h = event_place_inside j i (event h.0 Arrive) h.1.does

-- other events leave who does this
pub kept_time_does : (j es : List Event) (k : Kind) (i : ℕ) → ((m : ℕ) (f : Event) → EventAt es m f → f.kind ≢ k)
    → BringsFromKind j k i ↔ BringsFromKind (j ++ es) k i
kept_time_does j es k i away = (there, back)
  where
    there : BringsFromKind j k i → BringsFromKind (j ++ es) k i
    there h = (h.0, event_place_longer j es i (event h.0 k) h.1)

    back : BringsFromKind (j ++ es) k i → BringsFromKind j k i
    back h =
        elim (slice_append_cases j es i (event h.0 k) h.1)
        [ inl a ↦ (h.0, a.1) | inr b ↦ absurd (away b.0 (event h.0 k) b.2 refl) ]

-- an event of this kind is one more
pub kept_time_does_now : (j : List Event) (e : Event) (i : ℕ)
    → BringsFromKind (j ++ e ∷ []) e.kind i ↔ (BringsFromKind j e.kind i ⊎ (i ≡ length j))
kept_time_does_now j e i = (there, back)
  where
    there : BringsFromKind (j ++ e ∷ []) e.kind i → BringsFromKind j e.kind i ⊎ (i ≡ length j)
    there h = elim (slice_push_cases j e i (event h.0 e.kind) h.1) [ inl a ↦ inl (h.0, a.1) | inr b ↦ inr b.0 ]

    back : BringsFromKind j e.kind i ⊎ (i ≡ length j) → BringsFromKind (j ++ e ∷ []) e.kind i
    back (inl h) = (h.0, event_place_longer j (e ∷ []) i (event h.0 e.kind) h.1)
    back (inr is) = (e.processor, subst (λ m. EventAt (j ++ e ∷ []) m e) (sym is) (event_place_at_end j e))

-- a lock or flag keeps its time under events of other kinds
pub kept_time_of_kind : (j es : List Event) (k : Kind) (t : ℕ → ℕ) → ((m : ℕ) (f : Event) → EventAt es m f → f.kind ≢ k)
    → IsTimeIn j (InPastOfSome j (BringsFromKind j k)) t → IsTimeIn (j ++ es) (InPastOfSome (j ++ es) (BringsFromKind (j ++ es) k)) t
kept_time_of_kind j es k t away a =
    kept_time_others j es (BringsFromKind j k) (BringsFromKind (j ++ es) k) t (kept_time_does_within j k) (λ i. kept_time_does j es k i away) a

-- a release or a set joins its timestamp
pub kept_time_kind_joins : (j : List Event) (e : Event) (t u : ℕ → ℕ) → IsTimeIn j (InPastOfSome j (BringsFromKind j e.kind)) t
    → IsTimeOf (j ++ e ∷ []) e.processor u
    → IsTimeIn (j ++ e ∷ []) (InPastOfSome (j ++ e ∷ []) (BringsFromKind (j ++ e ∷ []) e.kind)) (λ q. max (t q) (u q))
kept_time_kind_joins j e t u a b =
    kept_time_now e (BringsFromKind j e.kind) (BringsFromKind (j ++ e ∷ []) e.kind) (kept_time_does_within j e.kind) (λ i. kept_time_does_now j e i) a b

kept_time_arrives_longer : (j es : List Event) (n i : ℕ) → BringsFromSomeArrival j n i → BringsFromSomeArrival (j ++ es) n i
kept_time_arrives_longer j es n i h =
    let lt = kept_time_arrives_within j n i h in (
      h.0,
      record {
        does = event_place_longer j es i (event h.0 Arrive) h.1.does;
        number = event_count-front event_arrives j es i h.0 (omega arith) ∙ h.1.number;
      },
    )

kept_time_arrives_shorter : (j es : List Event) (n q i : ℕ) → i < length j → EventAt j i (event q Arrive) → BringsFromArrival (j ++ es) n q i
    → BringsFromSomeArrival j n i
kept_time_arrives_shorter j es n q i lt does h =
    (q, record { does = does; number = sym (event_count-front event_arrives j es i q (omega arith)) ∙ h.number })

-- events that are no arrivals leave who arrives
pub kept_time_arrives : (j es : List Event) (n i : ℕ) → ((m : ℕ) (f : Event) → EventAt es m f → f.kind ≢ Arrive)
    → BringsFromSomeArrival j n i ↔ BringsFromSomeArrival (j ++ es) n i
kept_time_arrives j es n i away = (kept_time_arrives_longer j es n i, back)
  where
    back : BringsFromSomeArrival (j ++ es) n i → BringsFromSomeArrival j n i
    back h =
        elim (slice_append_cases j es i (event h.0 Arrive) h.1.does) [
          | inl a ↦ kept_time_arrives_shorter j es n h.0 i a.0 a.1 h.1
          | inr b ↦ absurd (away b.0 (event h.0 Arrive) b.2 refl)
        ]

kept_time_arrival_number : (j : List Event) (e : Event) (n q i : ℕ) → i ≡ length j → e.processor ≡ q
    → BringsFromArrival (j ++ e ∷ []) n q i → event_count event_arrives j e.processor ≡ n
kept_time_arrival_number j e n q i is mine h =
    let all = ap (λ (xs : List Event). event_count event_arrives xs e.processor) (take-append_seam j (e ∷ [])) in
    let P : ℕ → ℕ → Type 0 = λ m x. event_count event_arrives (take m (j ++ e ∷ [])) x ≡ n in
    sym all ∙ subst (λ m. P m e.processor) is (subst (λ x. P i x) (sym mine) h.number)

-- an arrival at another episode leaves who arrives at this one
pub kept_time_arrives_others : (j : List Event) (e : Event) (n i : ℕ) → event_count event_arrives j e.processor ≢ n
    → BringsFromSomeArrival j n i ↔ BringsFromSomeArrival (j ++ e ∷ []) n i
kept_time_arrives_others j e n i away = (kept_time_arrives_longer j (e ∷ []) n i, back)
  where
    back : BringsFromSomeArrival (j ++ e ∷ []) n i → BringsFromSomeArrival j n i
    back h = elim (slice_push_cases j e i (event h.0 Arrive) h.1.does) [
      | inl a ↦ kept_time_arrives_shorter j (e ∷ []) n h.0 i a.0 a.1 h.1
      | inr b ↦ absurd (away (kept_time_arrival_number j e n h.0 i b.0 (ap (λ x. x.processor) b.1) h.1))
    ]

-- an arrival at an episode is one more
pub kept_time_arrives_now : (j : List Event) (e : Event) (i : ℕ) → e.kind ≡ Arrive
    → BringsFromSomeArrival (j ++ e ∷ []) (event_count event_arrives j e.processor) i
    ↔ (BringsFromSomeArrival j (event_count event_arrives j e.processor) i ⊎ (i ≡ length j))
kept_time_arrives_now j e i arrive = (there, back)
  where
    there : BringsFromSomeArrival (j ++ e ∷ []) (event_count event_arrives j e.processor) i
        → BringsFromSomeArrival j (event_count event_arrives j e.processor) i ⊎ (i ≡ length j)
    there h =
        elim (slice_push_cases j e i (event h.0 Arrive) h.1.does) [
          | inl a ↦ inl
              (kept_time_arrives_shorter j (e ∷ []) (event_count event_arrives j e.processor) h.0 i a.0 a.1 h.1)
          | inr b ↦ inr b.0
        ]

    now : BringsFromArrival (j ++ e ∷ []) (event_count event_arrives j e.processor) e.processor (length j)
    now =
        record {
          does = subst (λ k. EventAt (j ++ e ∷ []) (length j) (event e.processor k)) arrive (event_place_at_end j e);
          number = ap (λ (xs : List Event). event_count event_arrives xs e.processor) (take-append_seam j (e ∷ []));
        }

    back : BringsFromSomeArrival j (event_count event_arrives j e.processor) i ⊎ (i ≡ length j)
        → BringsFromSomeArrival (j ++ e ∷ []) (event_count event_arrives j e.processor) i
    back (inl h) = kept_time_arrives_longer j (e ∷ []) (event_count event_arrives j e.processor) i h
    back (inr is) =
        subst (λ m. BringsFromSomeArrival (j ++ e ∷ []) (event_count event_arrives j e.processor) m) (sym is) (e.processor, now)

-- an episode keeps its time under events that are no arrivals
pub kept_time_of_arrivals : (j es : List Event) (n : ℕ) (t : ℕ → ℕ) → ((m : ℕ) (f : Event) → EventAt es m f → f.kind ≢ Arrive)
    → IsTimeIn j (InPastOfSome j (BringsFromSomeArrival j n)) t
    → IsTimeIn (j ++ es) (InPastOfSome (j ++ es) (BringsFromSomeArrival (j ++ es) n)) t
kept_time_of_arrivals j es n t away a =
    kept_time_others j es (BringsFromSomeArrival j n) (BringsFromSomeArrival (j ++ es) n) t (kept_time_arrives_within j n)
    (λ i. kept_time_arrives j es n i away) a

-- and under arrivals at other episodes
pub kept_time_other_arrivals : (j : List Event) (e : Event) (n : ℕ) (t : ℕ → ℕ) → event_count event_arrives j e.processor ≢ n
    → IsTimeIn j (InPastOfSome j (BringsFromSomeArrival j n)) t
    → IsTimeIn (j ++ e ∷ []) (InPastOfSome (j ++ e ∷ []) (BringsFromSomeArrival (j ++ e ∷ []) n)) t
kept_time_other_arrivals j e n t away a =
    kept_time_others j (e ∷ []) (BringsFromSomeArrival j n) (BringsFromSomeArrival (j ++ e ∷ []) n) t (kept_time_arrives_within j n)
    (λ i. kept_time_arrives_others j e n i away) a

-- an arrival joins its timestamp
pub kept_time_arrival_joins : (j : List Event) (e : Event) (t u : ℕ → ℕ) → e.kind ≡ Arrive
    → IsTimeIn j (InPastOfSome j (BringsFromSomeArrival j (event_count event_arrives j e.processor))) t
    → IsTimeOf (j ++ e ∷ []) e.processor u
    → IsTimeIn (j ++ e ∷ []) (InPastOfSome (j ++ e ∷ []) (BringsFromSomeArrival (j ++ e ∷ []) (event_count event_arrives j e.processor)))
    (λ q. max (t q) (u q))
kept_time_arrival_joins j e t u arrive a b =
    kept_time_now e (BringsFromSomeArrival j (event_count event_arrives j e.processor))
    (BringsFromSomeArrival (j ++ e ∷ []) (event_count event_arrives j e.processor))
    (kept_time_arrives_within j (event_count event_arrives j e.processor)) (λ i. kept_time_arrives_now j e i arrive) a b
