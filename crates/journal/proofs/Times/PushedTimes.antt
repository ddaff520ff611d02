-- What each event does to the timestamps of processors and events.
use Rattle.std.proofs.Common.{◌≡◌, ◌≢◌, ℕ, ◌+◌, ◌<◌, ◌≤◌, max, inl, inr, ◌↔◌, List, [], ◌∷◌, ◌++◌, length, false, IsTrue, subst, sym, refl, ap, ◌∙◌, arith}
use Rattle.std.proofs.lemmas.Bool.{cases_lt}
use Rattle.std.proofs.Math.Seq.{take-append_seam}
use Rattle.journal.specs.declared.event.Event.{Event}
use Rattle.journal.specs.declared.event.Kind.{Kind}
use Rattle.journal.specs.DidEvent.{event}
use Rattle.journal.specs.Events.{EventAt, event_count, event_interval_at, event_closes, event_takes}
use Rattle.journal.specs.HappensBeforeEdges.{HappensBefore}
use Rattle.journal.specs.WellFormed.{Does}
use Rattle.journal.specs.Pasts.{UpTo, InPast}
use Rattle.journal.specs.Times.{ClosesAt, IsTimeIn, IsTimeOf}
use Rattle.journal.specs.Brings.{Brings}
use Rattle.base.proofs.SlicesAndCounts.{slice_push_cases}
use Rattle.journal.proofs.Order.EventPlacesAndCounts.{event_place_at_end, event_place_does, event_count-append, event_count-front, event_count-mono, event_count-past, event_count-inside, event_place_numbered}
use Rattle.journal.proofs.Order.IntoPast.{into_past_back, into_past_push, into_past_reaches_push, into_past_own, into_past_within, into_past_others, into_past_brings_none}
use Rattle.journal.proofs.Times.LeavingCloses.{LeavesByClosing, leaving_closes_past, leaving_closes_back_own}
use Rattle.journal.proofs.Times.TimesOfPlaces.{time_of_places_longer, time_of_places_equal, time_of_places_none, time_of_places_one_event}

-- the timestamp of the event at place k, with the event itself
abbrev pub IsTimeAt : List Event → ℕ → (ℕ → ℕ) → Type 0
IsTimeAt j k t = IsTimeIn j (UpTo j k) t

-- a processor's own entry counts its closing events
pub pushed_time_own_entry : (j : List Event) (p : ℕ) (t : ℕ → ℕ) → IsTimeOf j p t → t p ≡ event_count event_closes j p
pushed_time_own_entry j p t a = elim (cases_lt (t p) (event_count event_closes j p)) [
  | inl lt ↦
      (let n = event_place_numbered event_closes j p (t p) lt in
      let closes : ClosesAt j p n.place = record { kind = n.kind; does = n.does; closes = n.counts } in
      let number = n.number in
      let below = (a.covers p n.place closes).0 (into_past_own j p n.place (event p n.kind) n.does refl) in
      absurd (omega arith))
  | inr le ↦ (let top = a.within p in omega arith)
]

-- others' events leave a processor's timestamp
pub pushed_time_others : (j es : List Event) (p : ℕ) (t : ℕ → ℕ) → ((m : ℕ) (e : Event) → EventAt es m e → e.processor ≢ p)
    → IsTimeOf j p t → IsTimeOf (j ++ es) p t
pushed_time_others j es p t away a =
    time_of_places_longer j es (InPast j p) (InPast (j ++ es) p) t
    (λ i lt. ((into_past_others j es p i away).1, (into_past_others j es p i away).0))
    (λ i h. into_past_within j p i ((into_past_others j es p i away).0 h)) a

-- what an event does to its processor's timestamp: it joins what the event brings, and counts the event where that
-- closes an interval
pub pushed_time : (j : List Event) (e : Event) (t u : ℕ → ℕ) → IsTimeOf j e.processor t
    → IsTimeIn j (Brings j e.processor e.kind) u
    → IsTimeOf (j ++ e ∷ []) e.processor (λ q. max (t q) (u q) + event_count event_closes (e ∷ []) q)
pushed_time j e t u a b = record { covers = covers; within = within }
  where
    back : (q i : ℕ) → ClosesAt j q i → event_interval_at j q i < max (t q) (u q) + event_count event_closes (e ∷ []) q
        → InPast (j ++ e ∷ []) e.processor i
    back q i c lt = elim (cases_lt (event_interval_at j q i) (t q)) [
      | inl x ↦ (into_past_push j e i).1 (inr (inl ((a.covers q i c).1 x)))
      | inr no_t ↦ elim (cases_lt (event_interval_at j q i) (u q)) [
        | inl x ↦ (into_past_push j e i).1 (inr (inr ((b.covers q i c).1 x)))
        | inr no_u ↦ elim (time_of_places_one_event event_closes e q) [
          | inl none ↦ absurd (omega arith)
          | inr one ↦ (into_past_push j e i).1
              (inr (inl (into_past_own j e.processor i (event q c.kind) c.does (sym one.0))))
        ]
      ]
    ]

    there : (q i : ℕ) → ClosesAt j q i → i < length j → InPast (j ++ e ∷ []) e.processor i
        → event_interval_at j q i < max (t q) (u q) + event_count event_closes (e ∷ []) q
    there q i c lt x = elim ((into_past_push j e i).0 x) [
      | inl is ↦ absurd (omega arith)
      | inr y ↦ elim y [
        | inl z ↦ (let below = (a.covers q i c).0 z in omega arith)
        | inr z ↦ (let below = (b.covers q i c).0 z in omega arith)
      ]
    ]

    last : (q i : ℕ) → ClosesAt (j ++ e ∷ []) q i → i ≡ length j → (e.processor ≡ q) × IsTrue (event_closes e.kind)
        → event_interval_at (j ++ e ∷ []) q i < max (t q) (u q) + event_count event_closes (e ∷ []) q
    last q i c is mine =
        let own = pushed_time_own_entry j e.processor t a in
        let entry = subst (λ x. t x ≡ event_count event_closes j x) mine.0 own in
        let all = ap (λ (xs : List Event). event_count event_closes xs q) (take-append_seam j (e ∷ [])) in
        let number : event_interval_at (j ++ e ∷ []) q i ≡ event_count event_closes j q =
        ap (λ x. event_interval_at (j ++ e ∷ []) q x) is ∙ all in
        let more = event_count-inside event_closes (e ∷ []) 0 q e.kind (event_place_does (e ∷ []) 0 q e refl mine.0) mine.1 in
        omega arith

    covers : (q i : ℕ) → ClosesAt (j ++ e ∷ []) q i
        → InPast (j ++ e ∷ []) e.processor i
        ↔ (event_interval_at (j ++ e ∷ []) q i < max (t q) (u q) + event_count event_closes (e ∷ []) q)
    covers q i c = elim (slice_push_cases j e i (event q c.kind) c.does) [
      | inl old ↦
          (let number = event_count-front event_closes j (e ∷ []) i q (let lt = old.0 in omega arith) in
          let closes : ClosesAt j q i = record { kind = c.kind; does = old.1; closes = c.closes } in
          (λ x. (let below = there q i closes old.0 x in omega arith), λ lt. back q i closes (omega arith)))
      | inr new ↦
          (let mine = ap (λ x. x.processor) new.1 in
          let kind = ap (λ x. event_closes x.kind) new.1 in
          (λ x. last q i c new.0 (mine, kind ∙ c.closes), λ lt. (into_past_push j e i).1 (inl new.0)))
    ]

    within : (q : ℕ) → max (t q) (u q) + event_count event_closes (e ∷ []) q ≤ event_count event_closes (j ++ e ∷ []) q
    within q =
        let x = a.within q in let y = b.within q in let sum = event_count-append event_closes j (e ∷ []) q in omega arith

-- an event that takes nothing brings the empty time
pub pushed_time_brings_none : (j : List Event) (p : ℕ) (k : Kind) → event_takes k ≡ false → IsTimeIn j (Brings j p k) (λ _. 0)
pushed_time_brings_none j p k quiet = time_of_places_none j (Brings j p k) (λ i h. into_past_brings_none j p i k quiet h)

-- an event that neither takes nor closes leaves its processor's timestamp
pub pushed_time_own_quiet : (j : List Event) (e : Event) (t : ℕ → ℕ) → event_takes e.kind ≡ false → event_closes e.kind ≡ false
    → IsTimeOf j e.processor t → IsTimeOf (j ++ e ∷ []) e.processor t
pushed_time_own_quiet j e t quiet inner a =
    time_of_places_equal (j ++ e ∷ []) (InPast (j ++ e ∷ []) e.processor) (λ q. max (t q) 0 + event_count event_closes (e ∷ []) q) t
    same (pushed_time j e t (λ _. 0) a (pushed_time_brings_none j e.processor e.kind quiet))
  where
    same : (q : ℕ) → max (t q) 0 + event_count event_closes (e ∷ []) q ≡ t q
    same q = elim (time_of_places_one_event event_closes e q) [ inl none ↦ omega arith | inr one ↦ cc (inner, one.1) ]

-- a closing event adds one to the own entry
pub pushed_time_own_closing : (j : List Event) (e : Event) (t : ℕ → ℕ) → event_takes e.kind ≡ false → IsTimeOf j e.processor t
    → IsTimeOf (j ++ e ∷ []) e.processor (λ q. t q + event_count event_closes (e ∷ []) q)
pushed_time_own_closing j e t quiet a =
    time_of_places_equal (j ++ e ∷ []) (InPast (j ++ e ∷ []) e.processor) (λ q. max (t q) 0 + event_count event_closes (e ∷ []) q)
    (λ q. t q + event_count event_closes (e ∷ []) q) (λ q. omega arith)
    (pushed_time j e t (λ _. 0) a (pushed_time_brings_none j e.processor e.kind quiet))

-- an event that closes nothing joins what it brings
pub pushed_time_own_taking : (j : List Event) (e : Event) (t u : ℕ → ℕ) → event_closes e.kind ≡ false → IsTimeOf j e.processor t
    → IsTimeIn j (Brings j e.processor e.kind) u → IsTimeOf (j ++ e ∷ []) e.processor (λ q. max (t q) (u q))
pushed_time_own_taking j e t u inner a b =
    time_of_places_equal (j ++ e ∷ []) (InPast (j ++ e ∷ []) e.processor)
    (λ q. max (t q) (u q) + event_count event_closes (e ∷ []) q) (λ q. max (t q) (u q)) same (pushed_time j e t u a b)
  where
    same : (q : ℕ) → max (t q) (u q) + event_count event_closes (e ∷ []) q ≡ max (t q) (u q)
    same q = elim (time_of_places_one_event event_closes e q) [ inl none ↦ omega arith | inr one ↦ cc (inner, one.1) ]

-- after its event, a processor's timestamp is that event's
pub pushed_time_at_last : (j : List Event) (e : Event) (t : ℕ → ℕ) → IsTimeOf (j ++ e ∷ []) e.processor t
    → IsTimeAt (j ++ e ∷ []) (length j) t
pushed_time_at_last j e t a = record { covers = covers; within = a.within }
  where
    there : (i : ℕ) → UpTo (j ++ e ∷ []) (length j) i → InPast (j ++ e ∷ []) e.processor i
    there i h = record { own = length j; event = e; at = event_place_at_end j e; mine = refl; reaches = h }

    back : (i : ℕ) → InPast (j ++ e ∷ []) e.processor i → UpTo (j ++ e ∷ []) (length j) i
    back i x = elim ((into_past_push j e i).0 x) [ inl is ↦ inl is | inr y ↦ inr ((into_past_reaches_push j e i).1 y) ]

    covers : (q i : ℕ) → ClosesAt (j ++ e ∷ []) q i
        → UpTo (j ++ e ∷ []) (length j) i ↔ (event_interval_at (j ++ e ∷ []) q i < t q)
    covers q i c = ((λ h. (a.covers q i c).0 (there i h)), (λ lt. back i ((a.covers q i c).1 lt)))

-- of any past that a processor's event leaves at closing events only, the time tells of each event of the processor
-- whether it is in it
pub pushed_time_covers_places : {j : List Event} {among : ℕ → Type 0} {t : ℕ → ℕ} {q i : ℕ} {a : Kind} → IsTimeIn j among t
    → ((m n : ℕ) → HappensBefore j m n → among n → among m) → Does j i q a → (among i → LeavesByClosing j q i among)
    → among i ↔ (event_interval_at j q i < t q)
pushed_time_covers_places {j} {among} {t} {q} {i} {a} time back does leaves = (there, here)
  where
    there : among i → event_interval_at j q i < t q
    there h =
        let l = leaves h in
        let below = (time.covers q l.close l.closes).0 l.inside in
        let up = event_count-mono event_closes j i l.close q l.from in
        omega arith

    here : event_interval_at j q i < t q → among i
    here lt =
        let top = time.within q in
        let n = event_place_numbered event_closes j q (event_interval_at j q i) (omega arith) in
        let closes : ClosesAt j q n.place = record { kind = n.kind; does = n.does; closes = n.counts } in
        let number = n.number in
        let inside = (time.covers q n.place closes).1 (omega arith) in
        let from : n.place < i → ⊥ =
        λ before. (let up = event_count-past event_closes j n.place i q n.kind n.does n.counts before in omega arith)
        in
        leaving_closes_back_own back does (record { close = n.place; from = omega arith; closes = closes; inside = inside })

-- another's event is in a processor's past exactly where the timestamp counts its interval
pub pushed_time_covers_past : (j : List Event) (p q i : ℕ) (a : Kind) (t : ℕ → ℕ) → IsTimeOf j p t → Does j i q a → q ≢ p
    → InPast j p i ↔ (event_interval_at j q i < t q)
pushed_time_covers_past j p q i a t time does apart =
    pushed_time_covers_places time (λ m n h x. into_past_back j p m n h x) does
    (λ x. leaving_closes_past j p q i a does apart x)
