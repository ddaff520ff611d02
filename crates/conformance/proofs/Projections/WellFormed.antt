-- The projection of a well formed history is well formed, and what may follow it may follow the whole.
use Rattle.std.proofs.Common.{ℕ, zero, suc, ◌≡◌, ◌≢◌, ◌+◌, ◌<◌, List, Bool, true, false, take, refl, sym, ap, subst, arith, ◌∙◌}
use Rattle.std.specs.Prelude.{◌||◌}
use Rattle.std.proofs.lemmas.Bool.{false≢true}
use Rattle.journal.specs.declared.event.Event.{Event}
use Rattle.journal.specs.declared.event.Kind.{Kind}
use Rattle.journal.specs.declared.event.Kind.TheVariants.{Ask, Acquire, Release, Arrive, Depart, Set, Watch, Await}
use Rattle.journal.specs.DidEvent.{event}
use Rattle.journal.specs.Events.{EventAt, event_count, event_arrives, event_closes, event_departs, event_takes}
use Rattle.journal.specs.Sizes.{Sizes}
use Rattle.journal.specs.WellFormed.{Does, LastIs, Holds, WellFormedGrant, WellFormedAllArrived, WellFormedAnswer, WellFormedAllows, WellFormedNext, WellFormed}
use Rattle.journal.proofs.Journals.WellFormedStays.{well_formed_stays_take}
use Rattle.base.proofs.SlicesAndCounts.{slice_get-take, slice_get-take_within, slice_get-from_take}
use Rattle.conformance.proofs.Projections.Embeds.{AreEmbedded, Embeds, IsEmbeddedProjection, EmbedsCountsSame, embeds_take, embeds_rising}

-- any kind but loads, stores and fetches: it closes an interval, or takes what others' have closed
abbrev pub is_synchronization : Kind → Bool
is_synchronization k = event_closes k || event_takes k

-- only loads, stores and fetches are left out
abbrev pub KeepsSynchronization : (Kind → Bool) → Type 0
KeepsSynchronization keep = (k : Kind) → is_synchronization k ≡ true → keep k ≡ true

pub well_formed_projection_arrivals : (keep : Kind → Bool) → KeepsSynchronization keep → AreEmbedded keep event_arrives
well_formed_projection_arrivals keep keeps Arrive out = absurd (false≢true (sym out ∙ keeps Arrive refl))
well_formed_projection_arrivals keep keeps _ out = refl

pub well_formed_projection_departures : (keep : Kind → Bool) → KeepsSynchronization keep → AreEmbedded keep event_departs
well_formed_projection_departures keep keeps Depart out = absurd (false≢true (sym out ∙ keeps Depart refl))
well_formed_projection_departures keep keeps _ out = refl

-- a call that waits
abbrev pub kind_waits : Kind → Bool
kind_waits (Ask l) = true
kind_waits Arrive = true
kind_waits (Watch f) = true
kind_waits k = false

-- what answers it is kept
well_formed_projection_answer : (keep : Kind → Bool) → KeepsSynchronization keep → (k c : Kind) → kind_waits k ≡ true → WellFormedAnswer k c → keep c ≡ true
well_formed_projection_answer keep keeps (Ask l) c is answers = ap keep answers ∙ keeps (Acquire l) refl
well_formed_projection_answer keep keeps Arrive c is answers = ap keep answers ∙ keeps Depart refl
well_formed_projection_answer keep keeps (Watch f) c is answers = ap keep answers ∙ keeps (Await f) refl
well_formed_projection_answer keep keeps _ c is answers = absurd (false≢true is)

-- p does nothing of these kinds after place i
abbrev NoneAfterInWellFormedProjection : (Kind → Bool) → List Event → ℕ → ℕ → Type 0
NoneAfterInWellFormedProjection keep h p i = (m : ℕ) (f : Event) → i < m → EventAt h m f → keep f.kind ≡ true → f.processor ≢ p

-- p's event at place i of a well formed history is a call that waits
record WaitsInWellFormedProjection (s : Sizes) (keep : Kind → Bool) (h : List Event) (p i : ℕ) (k : Kind) : Type 0 where
  keeps : KeepsSynchronization keep
  well : WellFormed s h
  waiting : kind_waits k ≡ true
  does : Does h i p k

-- if that is its last one before place m, then what it does at m is kept
well_formed_projection_at : {s : Sizes} {keep : Kind → Bool} {h : List Event} {p i : ℕ} {k : Kind} {m : ℕ} {f : Event}
    → WaitsInWellFormedProjection s keep h p i k → i < m → EventAt h m f → f.processor ≡ p
    → ((n : ℕ) (e : Event) → n < m → i < n → EventAt h n e → e.processor ≢ p) → keep f.kind ≡ true
well_formed_projection_at {keep = keep} {h = h} {p = p} {i = i} {k = k} {m = m} {f = f} x after at mine none =
    well_formed_projection_answer keep x.keeps k f.kind x.waiting
    ((x.well m f at).answers i k (subst (λ q. LastIs (take m h) q i k) (sym mine) last))
  where
    last : LastIs (take m h) p i k
    last =
        record {
          does = slice_get-take h m i after ∙ x.does;
          last = λ n e next here. none n e (slice_get-take_within h m n e here) next (slice_get-from_take h m n e here);
        }

-- where p waits and nothing after it is kept, it does nothing else either
well_formed_projection_none_below : {s : Sizes} {keep : Kind → Bool} {h : List Event} {p i : ℕ} {k : Kind} → WaitsInWellFormedProjection s keep h p i k
    → NoneAfterInWellFormedProjection keep h p i → (bound : ℕ) {m : ℕ} {f : Event} → m < bound → i < m → EventAt h m f → f.processor ≢ p
well_formed_projection_none_below x none zero below after at mine = absurd (omega arith)
well_formed_projection_none_below {h = h} {p = p} {i = i} x none (suc bound) {m = m} {f = f} below after at mine =
    let earlier : (n : ℕ) (e : Event) → n < m → i < n → EventAt h n e → e.processor ≢ p =
    λ n e less next here. well_formed_projection_none_below x none bound (omega arith) next here in
    none m f after at (well_formed_projection_at x after at mine earlier) mine

pub well_formed_projection_holds_in_whole : {keep : Kind → Bool} (keeps : KeepsSynchronization keep) {g h : List Event} (x : Embeds keep g h) {p l : ℕ}
    → Holds g p l → Holds h p l
well_formed_projection_holds_in_whole keeps {g = g} {h = h} x {p = p} {l = l} held =
    record {
      place = x.place held.place;
      acquires = x.there held.place (event p (Acquire l)) held.acquires;
      keeps = λ k after does.
          let b = x.back k (event p (Release l)) does (keeps (Release l) refl) in
          let place : x.place b.0 ≡ k = b.1 in
          held.keeps b.0 (embeds_rising g h x held.place b.0 (omega arith)) b.2;
    }

pub well_formed_projection_holds : {keep : Kind → Bool} (keeps : KeepsSynchronization keep) {g h : List Event} (x : Embeds keep g h) {p l : ℕ}
    → Holds h p l → Holds g p l
well_formed_projection_holds keeps {g = g} {h = h} x {p = p} {l = l} held =
    let b = x.back held.place (event p (Acquire l)) held.acquires (keeps (Acquire l) refl) in
    let place : x.place b.0 ≡ held.place = b.1 in
    record {
      place = b.0;
      acquires = b.2;
      keeps = λ k after does.
          let more = x.rises b.0 k after in
          held.keeps (x.place k) (omega arith) (x.there k (event p (Release l)) does);
    }

-- p waits in the projection where it waits in the whole
pub well_formed_projection_last : {keep : Kind → Bool} {g h : List Event} (x : Embeds keep g h) {p n : ℕ} (k : Kind) → keep k ≡ true
    → LastIs h p n k → (i : ℕ) × (x.place i ≡ n) × LastIs g p i k
well_formed_projection_last {h = h} x {p = p} {n = n} k kept l =
    let b = x.back n (event p k) l.does kept in
    let place : x.place b.0 ≡ n = b.1 in (
      b.0,
      b.1,
      record {
        does = b.2;
        last = λ m f after at. let more = x.rises b.0 m after in l.last (x.place m) f (omega arith) (x.there m f at);
      },
    )

-- the projection g of a well formed history h that leaves out loads, stores and fetches alone
module _ (s : Sizes) (keep : Kind → Bool) (keeps : KeepsSynchronization keep) (g h : List Event) (well : WellFormed s h)
    (x : Embeds keep g h) where
  -- p waits in the whole where it does in the projection
  pub well_formed_projection_last_in_whole : {p i : ℕ} {k : Kind} → kind_waits k ≡ true → LastIs g p i k → LastIs h p (x.place i) k
  well_formed_projection_last_in_whole {p = p} {i = i} {k = k} waiting l =
      record {
        does = x.there i (event p k) l.does;
        last = λ m f after at.
            well_formed_projection_none_below (record { keeps = keeps; well = well; waiting = waiting; does = x.there i (event p k) l.does }) none
            (suc m) (omega arith) after at;
      }
    where
      none : NoneAfterInWellFormedProjection keep h p (x.place i)
      none m f after at kept =
          let b = x.back m f at kept in
          let place : x.place b.0 ≡ m = b.1 in
          l.last b.0 f (embeds_rising g h x i b.0 (omega arith)) b.2

  well_formed_projection_granted : (i l : ℕ) → WellFormedGrant h (x.place i) l → WellFormedGrant g i l
  well_formed_projection_granted i l m =
      record {
        free = λ q held. m.free q (well_formed_projection_holds_in_whole keeps x held);
        first = λ k q before last. m.first (x.place k) q (x.rises k i before) (well_formed_projection_last_in_whole refl last);
      }

  well_formed_projection_granted_in_whole : (i l : ℕ) → WellFormedGrant g i l → WellFormedGrant h (x.place i) l
  well_formed_projection_granted_in_whole i l m =
      record {
        free = λ q held. m.free q (well_formed_projection_holds keeps x held);
        first = λ k q before last.
            let b = well_formed_projection_last x (Ask l) (keeps (Ask l) refl) last in
            let place : x.place b.0 ≡ k = b.1 in
            m.first b.0 q (embeds_rising g h x b.0 i (omega (arith, place, before))) b.2;
      }

  -- what may be done in the whole may be done in the projection
  well_formed_projection_allowed : (p : ℕ) (k : Kind) → EmbedsCountsSame keep g h → WellFormedAllows s h p k → WellFormedAllows s g p k
  well_formed_projection_allowed p (Ask l) counts a = λ held. a (well_formed_projection_holds_in_whole keeps x held)
  well_formed_projection_allowed p (Acquire l) counts a =
      let b = well_formed_projection_last x (Ask l) (keeps (Ask l) refl) a.1 in
      let P : ℕ → Type 0 = λ n. WellFormedGrant h n l in
      (b.0, b.2, well_formed_projection_granted b.0 l (subst P (sym b.1) a.2))
  well_formed_projection_allowed p (Release l) counts a = well_formed_projection_holds keeps x a
  well_formed_projection_allowed p Depart counts a =
      let b = well_formed_projection_last x Arrive (keeps Arrive refl) a.1 in
      let all : WellFormedAllArrived s g (event_count event_departs g p + 1) =
      λ q inside. rw (counts event_departs (well_formed_projection_departures keep keeps) p, counts event_arrives (well_formed_projection_arrivals keep keeps) q)
      (a.2 q inside) in
      (b.0, b.2, all)
  well_formed_projection_allowed p (Await f) counts a =
      let b = well_formed_projection_last x (Watch f) (keeps (Watch f) refl) a.3 in
      let set = x.back a.1 (event a.2 (Set f)) a.4 (keeps (Set f) refl) in
      (b.0, set.0, a.2, b.2, set.2)
  well_formed_projection_allowed p _ counts a = tt

  -- and the other way
  pub well_formed_projection_allowed_in_whole : (p : ℕ) (k : Kind) → EmbedsCountsSame keep g h → WellFormedAllows s g p k → WellFormedAllows s h p k
  well_formed_projection_allowed_in_whole p (Ask l) counts a = λ held. a (well_formed_projection_holds keeps x held)
  well_formed_projection_allowed_in_whole p (Acquire l) counts a = (x.place a.0, well_formed_projection_last_in_whole refl a.1, well_formed_projection_granted_in_whole a.0 l a.2)
  well_formed_projection_allowed_in_whole p (Release l) counts a = well_formed_projection_holds_in_whole keeps x a
  well_formed_projection_allowed_in_whole p Depart counts a =
      let all : WellFormedAllArrived s h (event_count event_departs h p + 1) =
      λ q inside.
      (let arrivals = counts event_arrives (well_formed_projection_arrivals keep keeps) q in
      let departures = counts event_departs (well_formed_projection_departures keep keeps) p in
      let enough = a.2 q inside in
      omega (arith, arrivals, departures, enough)) in
      (x.place a.0, well_formed_projection_last_in_whole refl a.1, all)
  well_formed_projection_allowed_in_whole p (Await f) counts a =
      (x.place a.0, x.place a.1, a.2, well_formed_projection_last_in_whole refl a.3, x.there a.1 (event a.2 (Set f)) a.4)
  well_formed_projection_allowed_in_whole p _ counts a = tt

  well_formed_projection_answers : {p i : ℕ} (k c : Kind) → ((n : ℕ) (y : Kind) → LastIs h p n y → WellFormedAnswer y c) → LastIs g p i k
      → WellFormedAnswer k c
  well_formed_projection_answers {i = i} (Ask l) c answers last = answers (x.place i) (Ask l) (well_formed_projection_last_in_whole refl last)
  well_formed_projection_answers {i = i} Arrive c answers last = answers (x.place i) Arrive (well_formed_projection_last_in_whole refl last)
  well_formed_projection_answers {i = i} (Watch f) c answers last = answers (x.place i) (Watch f) (well_formed_projection_last_in_whole refl last)
  well_formed_projection_answers _ c answers last = tt

  well_formed_projection_answers_in_whole : {p n : ℕ} (c k : Kind) → ((i : ℕ) (b : Kind) → LastIs g p i b → WellFormedAnswer b k) → LastIs h p n c
      → WellFormedAnswer c k
  well_formed_projection_answers_in_whole (Ask l) k answers last =
      let b = well_formed_projection_last x (Ask l) (keeps (Ask l) refl) last in answers b.0 (Ask l) b.2
  well_formed_projection_answers_in_whole Arrive k answers last =
      let b = well_formed_projection_last x Arrive (keeps Arrive refl) last in answers b.0 Arrive b.2
  well_formed_projection_answers_in_whole (Watch f) k answers last =
      let b = well_formed_projection_last x (Watch f) (keeps (Watch f) refl) last in answers b.0 (Watch f) b.2
  well_formed_projection_answers_in_whole _ k answers last = tt

  well_formed_projection_follow : (e : Event) → EmbedsCountsSame keep g h → WellFormedNext s h e → WellFormedNext s g e
  well_formed_projection_follow e counts m =
      record {
        processor = m.processor;
        in_range = m.in_range;
        answers = λ i k last. well_formed_projection_answers k e.kind m.answers last;
        allowed = well_formed_projection_allowed e.processor e.kind counts m.allowed;
      }

  -- what may follow the projection may follow the whole
  pub well_formed_projection_follow_in_whole : (e : Event) → EmbedsCountsSame keep g h → WellFormedNext s g e → WellFormedNext s h e
  well_formed_projection_follow_in_whole e counts m =
      record {
        processor = m.processor;
        in_range = m.in_range;
        answers = λ n c last. well_formed_projection_answers_in_whole c e.kind m.answers last;
        allowed = well_formed_projection_allowed_in_whole e.processor e.kind counts m.allowed;
      }

-- the projection of a well formed history is well formed
pub well_formed_projection : (s : Sizes) (keep : Kind → Bool) → KeepsSynchronization keep → (g h : List Event)
    → IsEmbeddedProjection keep g h → WellFormed s h → WellFormed s g
well_formed_projection s keep keeps g h x well m e at =
    let n = x.embeds.place m in
    let front : WellFormed s (take n h) = well_formed_stays_take s h n well in
    well_formed_projection_follow s keep keeps (take m g) (take n h) front (embeds_take g h x.embeds m) e (x.fronts m)
    (well n e (x.embeds.there m e at))
