-- What a processor's past is, as the journal goes on.
use Rattle.std.proofs.Common.{◌≡◌, ◌≢◌, ℕ, ◌<◌, ◌⊎◌, inl, inr, ◌↔◌, List, [], ◌∷◌, ◌++◌, length, false, subst, sym, refl, ap, ◌∙◌, arith}
use Rattle.std.proofs.Math.Seq.{take-append_seam}
use Rattle.journal.specs.declared.event.Event.{Event}
use Rattle.journal.specs.declared.event.Kind.{Kind}
use Rattle.journal.specs.declared.event.Kind.TheVariants.{Acquire, Release, Arrive, Depart, Set, Await}
use Rattle.journal.specs.DidEvent.{event}
use Rattle.journal.specs.Events.{EventAt, event_count, event_arrives, event_departs, event_takes}
use Rattle.journal.specs.HappensBeforeEdges.{LetsThrough, Link, Edge, HappensBefore}
use Rattle.journal.specs.HappensBeforeEdges.Link.{same, lets, meets}
use Rattle.journal.specs.HappensBeforeEdges.HappensBefore.{edge, on}
use Rattle.journal.specs.WellFormed.{Does}
use Rattle.journal.specs.Pasts.{UpTo, InPast}
use Rattle.journal.specs.Brings.{BringsFromArrival, BringsFrom, Brings}
use Rattle.base.proofs.SlicesAndCounts.{slice_push_cases, slice_append_cases}
use Rattle.journal.proofs.Order.EventPlacesAndCounts.{event_place_inside, event_place_same, event_place_longer, event_place_shorter, event_place_at_end, event_count-front}
use Rattle.journal.proofs.Order.HappensBefore.{happens_before_begins_within, happens_before_transitive, happens_before_longer, happens_before_shorter}

-- a past is closed backwards
pub into_past_up_to_back : (j : List Event) (i k m : ℕ) → HappensBefore j i k → UpTo j m k → UpTo j m i
into_past_up_to_back j i k m h (inl e) = inr (subst (λ x. HappensBefore j i x) e h)
into_past_up_to_back j i k m h (inr g) = inr (happens_before_transitive j h g)

pub into_past_back : (j : List Event) (p i k : ℕ) → HappensBefore j i k → InPast j p k → InPast j p i
into_past_back j p i k h x =
    record { own = x.own; event = x.event; at = x.at; mine = x.mine; reaches = into_past_up_to_back j i k x.own h x.reaches }

-- what is up to the start of an edge happens before its end
pub into_past_edge_on : (j : List Event) (i m k : ℕ) → UpTo j m i → Edge j m k → HappensBefore j i k
into_past_edge_on j i m k (inl e) d = edge (subst (λ x. Edge j x k) (sym e) d)
into_past_edge_on j i m k (inr h) d = on h d

-- a past stays as the journal goes on
pub into_past_up_to_longer : (j es : List Event) (k i : ℕ) → UpTo j k i → UpTo (j ++ es) k i
into_past_up_to_longer j es k i (inl e) = inl e
into_past_up_to_longer j es k i (inr h) = inr (happens_before_longer j es h)

pub into_past_up_to_shorter : (j es : List Event) (k i : ℕ) → k < length j → UpTo (j ++ es) k i → UpTo j k i
into_past_up_to_shorter j es k i lt (inl e) = inl e
into_past_up_to_shorter j es k i lt (inr h) = inr (happens_before_shorter j es lt h)

-- what is up to a place of the journal stands in it
pub into_past_up_to_within : (j : List Event) (k i : ℕ) → k < length j → UpTo j k i → i < length j
into_past_up_to_within j k i lt (inl e) = omega arith
into_past_up_to_within j k i lt (inr h) = happens_before_begins_within j h

pub into_past_within : (j : List Event) (p i : ℕ) → InPast j p i → i < length j
into_past_within j p i x = into_past_up_to_within j x.own i (event_place_inside j x.own x.event x.at) x.reaches

-- a processor's own events are in its past
pub into_past_own : (j : List Event) (p i : ℕ) (e : Event) → EventAt j i e → e.processor ≡ p → InPast j p i
into_past_own j p i e at mine = record { own = i; event = e; at = at; mine = mine; reaches = inl refl }

pub into_past_longer : (j es : List Event) (p i : ℕ) → InPast j p i → InPast (j ++ es) p i
into_past_longer j es p i x =
    record {
      own = x.own;
      event = x.event;
      at = event_place_longer j es x.own x.event x.at;
      mine = x.mine;
      reaches = into_past_up_to_longer j es x.own i x.reaches;
    }

-- a past is the same in every journal that goes on without the processor
pub into_past_others : (j es : List Event) (p i : ℕ) → ((m : ℕ) (e : Event) → EventAt es m e → e.processor ≢ p)
    → InPast (j ++ es) p i ↔ InPast j p i
into_past_others j es p i away = (back, into_past_longer j es p i)
  where
    back : InPast (j ++ es) p i → InPast j p i
    back x = elim (slice_append_cases j es x.own x.event x.at) [
      | inl a ↦ record {
        own = x.own;
        event = x.event;
        at = a.1;
        mine = x.mine;
        reaches = into_past_up_to_shorter j es x.own i a.0 x.reaches;
      }
      | inr b ↦ absurd (away b.0 x.event b.2 x.mine)
    ]

into_past_lets_source : (j : List Event) (m q p : ℕ) (a b : Kind) → Does j m q a → LetsThrough a b → BringsFrom j p b m
into_past_lets_source j m q p (Release l) (Acquire n) d h = let P : ℕ → Type 0 = λ x. Does j m q (Release x) in (q, subst P h d)
into_past_lets_source j m q p (Set f) (Await g) d h = let P : ℕ → Type 0 = λ x. Does j m q (Set x) in (q, subst P h d)
into_past_lets_source j m q p _ _ d h = absurd h

into_past_link_source : (j : List Event) (e f : Event) (m : ℕ) → EventAt j m f → m < length j → Link (j ++ e ∷ []) m (length j) f e
    → (f.processor ≡ e.processor) ⊎ BringsFrom j e.processor e.kind m
into_past_link_source j e f m at lt (same s) = inl s
into_past_link_source j e f m at lt (lets l) = inr (into_past_lets_source j m f.processor e.processor f.kind e.kind at l)
into_past_link_source j e f m at lt (meets x) =
    let P : Kind → Type 0 = λ k. Does j m f.processor k in
    let front = event_count-front event_arrives j (e ∷ []) m f.processor (omega arith) in
    let whole = ap (λ (xs : List Event). event_count event_departs xs e.processor) (take-append_seam j (e ∷ [])) in
    let now : BringsFromArrival j (event_count event_departs j e.processor) f.processor m =
    record { does = subst P x.arrives at; number = sym front ∙ x.episode ∙ whole } in
    inr (subst (λ k. BringsFrom j e.processor k m) (sym x.departs) (f.processor, now))

-- what an event brings reaches it
into_past_source_link : (j : List Event) (p m : ℕ) (b : Kind) → BringsFrom j p b m
    → (f : Event) × EventAt j m f × Link (j ++ event p b ∷ []) m (length j) f (event p b)
into_past_source_link j p m (Acquire l) h = (event h.0 (Release l), h.1, lets refl)
into_past_source_link j p m (Await f) h = (event h.0 (Set f), h.1, lets refl)
into_past_source_link j p m Depart h =
    let e : Event = event p Depart in
    let lt = event_place_inside j m (event h.0 Arrive) h.1.does in
    let front = event_count-front event_arrives j (e ∷ []) m h.0 (omega arith) in
    let whole = ap (λ (xs : List Event). event_count event_departs xs p) (take-append_seam j (e ∷ [])) in (
      event h.0 Arrive,
      h.1.does,
      meets
          (record { arrives = refl; departs = refl; episode = front ∙ h.1.number ∙ sym whole }),
    )
into_past_source_link j p m _ h = absurd h

into_past_last_edge : (j : List Event) (e f : Event) (m : ℕ) → EventAt j m f → Link (j ++ e ∷ []) m (length j) f e
    → Edge (j ++ e ∷ []) m (length j)
into_past_last_edge j e f m at l =
    record {
      before = event_place_inside j m f at;
      from = f;
      to = e;
      from_at = event_place_longer j (e ∷ []) m f at;
      to_at = event_place_at_end j e;
      link = l;
    }

into_past_by_edge : (j : List Event) (e : Event) (i m : ℕ) → UpTo (j ++ e ∷ []) m i → Edge (j ++ e ∷ []) m (length j)
    → InPast j e.processor i ⊎ Brings j e.processor e.kind i
into_past_by_edge j e i m up d =
    let lt = d.before in
    let at = event_place_shorter j (e ∷ []) m d.from lt d.from_at in
    let is = event_place_same (j ++ e ∷ []) (length j) d.to e d.to_at (event_place_at_end j e) in
    let old = into_past_up_to_shorter j (e ∷ []) m i lt up in
    elim (into_past_link_source j e d.from m at lt (subst (λ x. Link (j ++ e ∷ []) m (length j) d.from x) is d.link)) [
      | inl mine ↦ inl (record { own = m; event = d.from; at = at; mine = mine; reaches = old })
      | inr source ↦ inr (m, source, old)
    ]

into_past_last : (j : List Event) (e : Event) (i k : ℕ) → k ≡ length j → HappensBefore (j ++ e ∷ []) i k
    → InPast j e.processor i ⊎ Brings j e.processor e.kind i
into_past_last j e i k is (edge d) = into_past_by_edge j e i i (inl refl) (subst (λ x. Edge (j ++ e ∷ []) i x) is d)
into_past_last j e i k is (on {m = m} h d) = into_past_by_edge j e i m (inr h) (subst (λ x. Edge (j ++ e ∷ []) m x) is d)

-- what happens before the event that is pushed is its processor's past and what it brings
pub into_past_reaches_push : (j : List Event) (e : Event) (i : ℕ)
    → HappensBefore (j ++ e ∷ []) i (length j) ↔ (InPast j e.processor i ⊎ Brings j e.processor e.kind i)
into_past_reaches_push j e i = (into_past_last j e i (length j) refl, ⊎_back)
  where
    ⊎_back : InPast j e.processor i ⊎ Brings j e.processor e.kind i → HappensBefore (j ++ e ∷ []) i (length j)
    ⊎_back (inl x) =
        into_past_edge_on (j ++ e ∷ []) i x.own (length j) (into_past_up_to_longer j (e ∷ []) x.own i x.reaches)
        (into_past_last_edge j e x.event x.own x.at (same x.mine))
    ⊎_back (inr b) =
        let s = into_past_source_link j e.processor b.0 e.kind b.1 in
        into_past_edge_on (j ++ e ∷ []) i b.0 (length j) (into_past_up_to_longer j (e ∷ []) b.0 i b.2) (into_past_last_edge j e s.0 b.0 s.1 s.2)

-- the past after an event: the past before it, what it brings, and itself
pub into_past_push : (j : List Event) (e : Event) (i : ℕ)
    → InPast (j ++ e ∷ []) e.processor i ↔ ((i ≡ length j) ⊎ (InPast j e.processor i ⊎ Brings j e.processor e.kind i))
into_past_push j e i = (there, back)
  where
    last : UpTo (j ++ e ∷ []) (length j) i → (i ≡ length j) ⊎ (InPast j e.processor i ⊎ Brings j e.processor e.kind i)
    last (inl is) = inl is
    last (inr h) = inr ((into_past_reaches_push j e i).0 h)

    there : InPast (j ++ e ∷ []) e.processor i
        → (i ≡ length j) ⊎ (InPast j e.processor i ⊎ Brings j e.processor e.kind i)
    there x = elim (slice_push_cases j e x.own x.event x.at) [
      | inl a ↦ inr (inl (record {
        own = x.own;
        event = x.event;
        at = a.1;
        mine = x.mine;
        reaches = into_past_up_to_shorter j (e ∷ []) x.own i a.0 x.reaches;
      }))
      | inr b ↦ last (subst (λ m. UpTo (j ++ e ∷ []) m i) b.0 x.reaches)
    ]

    back : (i ≡ length j) ⊎ (InPast j e.processor i ⊎ Brings j e.processor e.kind i)
        → InPast (j ++ e ∷ []) e.processor i
    back (inl is) = record { own = length j; event = e; at = event_place_at_end j e; mine = refl; reaches = inl is }
    back (inr b) =
        record { own = length j; event = e; at = event_place_at_end j e; mine = refl; reaches = inr ((into_past_reaches_push j e i).1 b) }

-- an event that takes nothing brings nothing
pub into_past_brings_none : (j : List Event) (p i : ℕ) (k : Kind) → event_takes k ≡ false → Brings j p k i → ⊥
into_past_brings_none j p i (Acquire l) h b = cc
into_past_brings_none j p i Depart h b = cc
into_past_brings_none j p i (Await f) h b = cc
into_past_brings_none j p i _ h b = b.1

-- what happens before a new event that takes nothing is its processor's past
pub into_past_reaches_new : (j : List Event) (e : Event) (i : ℕ) → event_takes e.kind ≡ false
    → HappensBefore (j ++ e ∷ []) i (length j) ↔ InPast j e.processor i
into_past_reaches_new j e i quiet = (
  λ h. elim ((into_past_reaches_push j e i).0 h) [ inl x ↦ x | inr b ↦ absurd (into_past_brings_none j e.processor i e.kind quiet b) ],
  λ x. (into_past_reaches_push j e i).1 (inl x),
)

-- the past after an event that takes nothing has that event besides
pub into_past_own_push : (j : List Event) (e : Event) (i : ℕ) → event_takes e.kind ≡ false
    → InPast (j ++ e ∷ []) e.processor i ↔ (InPast j e.processor i ⊎ (i ≡ length j))
into_past_own_push j e i quiet = (there, back)
  where
    there : InPast (j ++ e ∷ []) e.processor i → InPast j e.processor i ⊎ (i ≡ length j)
    there x =
        elim ((into_past_push j e i).0 x) [
          | inl is ↦ inr is
          | inr y ↦ elim y [ inl z ↦ inl z | inr b ↦ absurd (into_past_brings_none j e.processor i e.kind quiet b) ]
        ]

    back : InPast j e.processor i ⊎ (i ≡ length j) → InPast (j ++ e ∷ []) e.processor i
    back (inl x) = (into_past_push j e i).1 (inr (inl x))
    back (inr is) = (into_past_push j e i).1 (inl is)

-- what happens before a place is up to the start of an edge into it
pub into_past_last_step : (j : List Event) (i k : ℕ) → HappensBefore j i k → (m : ℕ) × UpTo j m i × Edge j m k
into_past_last_step j i k (edge d) = (i, inl refl, d)
into_past_last_step j i k (on {m = m} h d) = (m, inr h, d)
