-- Accesses by two processors: what orders them.
use Rattle.std.proofs.Common.{ℕ, ◌≡◌, ◌≢◌, ◌+◌, ◌<◌, ◌≤◌, ◌⊎◌, inl, inr, Some, None, List, [], ◌∷◌, ◌++◌, ◌-◌, length, get_or, slice_get, take, suc, zero, take-take, refl, sym, ap, subst, ◌∙◌, arith}
use Rattle.std.specs.Prelude.{IsTrue}
use Rattle.std.proofs.lemmas.Bool.{cases_order}
use Rattle.std.proofs.lemmas.Option.{slice_get-get_or}
use Rattle.base.proofs.SlicesAndCounts.{slice_get-take, slice_get-take_within, slice_get-from_take, slice_take-suc_at}
use Rattle.journal.specs.declared.event.Event.{Event}
use Rattle.journal.specs.declared.event.Kind.{Kind}
use Rattle.journal.specs.declared.event.Kind.TheVariants.{Acquire, Release, Arrive, Depart}
use Rattle.journal.specs.DidEvent.{event}
use Rattle.journal.specs.Events.{event_address, event_count, event_arrives, event_departs}
use Rattle.journal.specs.HappensBeforeEdges.{HappensBefore}
use Rattle.journal.specs.HappensBeforeEdges.Link.{same, lets, meets}
use Rattle.journal.specs.HappensBeforeEdges.HappensBefore.{edge, on}
use Rattle.journal.specs.Sizes.{Sizes}
use Rattle.journal.specs.WellFormed.{Does, Holds, LastIs, WellFormed}
use Rattle.journal.proofs.Journals.ArrivalBalance.{arrivals_balanced}
use Rattle.journal.proofs.Journals.HoldingReleases.{holding_release_alone}
use Rattle.journal.proofs.Journals.WellFormedStays.{well_formed_stays_holds_longer, well_formed_stays_take}
use Rattle.journal.proofs.Order.EventPlacesAndCounts.{event_place_inside, event_count-past, event_place_does_same, event_place_numbered}
use Rattle.seats.proofs.DeedHistories.{deed_history_release_or}

-- processor p accesses address a at place i
pub record PhaseOrderAccess (h : List Event) (i p a : ℕ) : Type 0 where
  pub kind : Kind
  pub does : Does h i p kind
  pub address : event_address kind ≡ Some a

-- an access is none of these
phase_order_other_kind : (h : List Event) (i p q a : ℕ) (x : PhaseOrderAccess h i p a) (k : Kind) → event_address k ≡ None → Does h i q k → ⊥
phase_order_other_kind h i p q a x k none does =
    let same = (event_place_does_same h i p q x.kind k x.does does).1 in
    let e : Some a ≡ None = sym x.address ∙ ap event_address same ∙ none in
    absurd (cc)

-- who accesses a word has departed as often as it has arrived
pub phase_order_idle_at : (s : Sizes) (h : List Event) (i p a : ℕ) → WellFormed s h → PhaseOrderAccess h i p a
    → event_count event_arrives (take i h) p ≡ event_count event_departs (take i h) p
phase_order_idle_at s h i p a well x = (arrivals_balanced s (take i h) p (well_formed_stays_take s h i well)).going none
  where
    none : (m : ℕ) → ¬ LastIs (take i h) p m Arrive
    none m last =
        let answers : x.kind ≡ Depart = (well i (event p x.kind) x.does).answers m Arrive last in
        let e : Some a ≡ None = sym x.address ∙ ap event_address answers in
        absurd (cc)

phase_order_depart_is : (k : Kind) → IsTrue (event_departs k) → k ≡ Depart
phase_order_depart_is Depart t = refl
phase_order_depart_is _ t = absurd (cc)

phase_order_arrive_is : (k : Kind) → IsTrue (event_arrives k) → k ≡ Arrive
phase_order_arrive_is Arrive t = refl
phase_order_arrive_is _ t = absurd (cc)

-- one edge in a processor's own order
phase_order_own_edge : (h : List Event) (i k p : ℕ) (a b : Kind) → i < k → Does h i p a → Does h k p b → HappensBefore h i k
phase_order_own_edge h i k p a b lt first second = edge (record {
  before = lt;
  from = event p a;
  to = event p b;
  from_at = first;
  to_at = second;
  link = same refl;
})

-- p's departure of number n, and an arrival of q's of that number before it
record PhaseOrderMeets (h : List Event) (p q n k : ℕ) : Type 0 where
  departure : ℕ
  departs : Does h departure q Depart
  departed : event_count event_departs (take departure h) q ≡ n
  before : departure < k
  arrival : ℕ
  arrives : Does h arrival p Arrive
  arrived : event_count event_arrives (take arrival h) p ≡ n
  first : arrival < departure

-- whoever has departed more often than n has, at its departure of number n, an arrival of each other before it
phase_order_meets_at : (s : Sizes) (h : List Event) (p q n k : ℕ) → WellFormed s h → p < s.processors
    → n < event_count event_departs (take k h) q → PhaseOrderMeets h p q n k
phase_order_meets_at s h p q n k well member lt =
    let d = event_place_numbered event_departs (take k h) q n lt in
    let within = slice_get-take_within h k d.place (event q d.kind) d.does in
    let departs : Does h d.place q Depart =
    subst (λ x. Does h d.place q x) (phase_order_depart_is d.kind d.counts) (slice_get-from_take h k d.place (event q d.kind) d.does) in
    let number : event_count event_departs (take d.place h) q ≡ n =
    subst (λ (xs : List Event). event_count event_departs xs q ≡ n) (take-take d.place k h (omega (arith, within))) d.number in
    let all : event_count event_departs (take d.place h) q + 1 ≤ event_count event_arrives (take d.place h) p =
    (well d.place (event q Depart) departs).allowed.2 p member in
    let a = event_place_numbered event_arrives (take d.place h) p n (omega arith) in
    let arrives : Does h a.place p Arrive =
    subst (λ x. Does h a.place p x) (phase_order_arrive_is a.kind a.counts)
    (slice_get-from_take h d.place a.place (event p a.kind) a.does) in
    let first = slice_get-take_within h d.place a.place (event p a.kind) a.does in
    record {
      departure = d.place;
      departs = departs;
      departed = number;
      before = slice_get-take_within h k d.place (event q d.kind) d.does;
      arrival = a.place;
      arrives = arrives;
      arrived = subst (λ (xs : List Event). event_count event_arrives xs p ≡ n)
          (take-take a.place d.place h (omega (arith, first))) a.number;
      first = first;
    }

-- what was accessed in an earlier phase happens before
pub phase_order_earlier : {s : Sizes} {h : List Event} {i k p q a b : ℕ} → WellFormed s h → PhaseOrderAccess h i p a → PhaseOrderAccess h k q b
    → event_count event_departs (take i h) p < event_count event_departs (take k h) q → HappensBefore h i k
phase_order_earlier {s = s} {h = h} {i = i} {k = k} {p = p} {q = q} {a = a} well x y lt =
    let n = event_count event_departs (take i h) p in
    let m = phase_order_meets_at s h p q n k well (well i (event p x.kind) x.does).processor lt in
    on (on (phase_order_own_edge h i m.arrival p x.kind Arrive (behind m) x.does m.arrives) (record {
      before = m.first;
      from = event p Arrive;
      to = event q Depart;
      from_at = m.arrives;
      to_at = m.departs;
      link = meets (record { arrives = refl; departs = refl; episode = m.arrived ∙ sym m.departed });
    })) (record {
      before = m.before;
      from = event q Depart;
      to = event q y.kind;
      from_at = m.departs;
      to_at = y.does;
      link = same refl;
    })
  where
    behind : (m : PhaseOrderMeets h p q (event_count event_departs (take i h) p) k) → i < m.arrival
    behind m = elim (cases_order i m.arrival) [
      | inl is ↦ absurd (phase_order_other_kind h i p p a x Arrive refl (subst (λ r. Does h r p Arrive) (sym is) m.arrives))
      | inr apart ↦ elim apart [
        | inl lt ↦ lt
        | inr gt ↦ absurd (let past = event_count-past event_arrives h m.arrival i p Arrive m.arrives refl gt in
            let idle = phase_order_idle_at s h i p a well x in
            let number = m.arrived in
            omega arith)
      ]
    ]

-- p holds the lock still, or has released it from place i on
phase_order_holds_still : (h : List Event) (i p l : ℕ) → Holds (take i h) p l → (d : ℕ) → i + d ≤ length h
    → Holds (take (i + d) h) p l ⊎ ((r : ℕ) × (i ≤ r) × (r < i + d) × Does h r p (Release l))
phase_order_holds_still h i p l holds zero long = inl (let e : i + 0 ≡ i = omega arith in rw e holds)
phase_order_holds_still h i p l holds (suc d) long =
    let e = get_or h (i + d) (event p (Release l)) in
    let at : slice_get h (i + d) ≡ Some e = slice_get-get_or h (i + d) (event p (Release l)) (omega arith) in
    elim (phase_order_holds_still h i p l holds d (omega arith)) [
      | inr released ↦ inr (released.0, released.1, omega (arith, released.2), released.3)
      | inl still ↦ elim (deed_history_release_or e p l) [
        | inl released ↦ inr (i + d, omega arith, omega arith, at ∙ ap Some released)
        | inr kept ↦ inl (let f : take (i + suc d) h ≡ take (i + d) h ++ e ∷ [] =
            ap (λ n. take n h) (let g : i + suc d ≡ suc (i + d) = omega arith in g) ∙ slice_take-suc_at h (i + d) e at in
            rw f (well_formed_stays_holds_longer (take (i + d) h) e p l kept still))
      ]
    ]

-- what was accessed under the lock happens before what is accessed under it later by another
pub phase_order_under_lock : {s : Sizes} {h : List Event} {i k p q a b l : ℕ} → WellFormed s h → PhaseOrderAccess h i p a → PhaseOrderAccess h k q b
    → i < k → p ≢ q → Holds (take i h) p l → Holds (take k h) q l → HappensBefore h i k
phase_order_under_lock {s = s} {h = h} {i = i} {k = k} {p = p} {q = q} {a = a} {l = l} well x y lt apart mine theirs = elim (cases_order theirs.place i) [
  | inl is ↦ absurd (phase_order_other_kind h i p q a x (Acquire l) refl (subst (λ r. Does h r q (Acquire l)) is taken))
  | inr order ↦ elim order [
    | inl before ↦ absurd (apart (holding_release_alone s (take i h) (well_formed_stays_take s h i well) p q l mine (both before)))
    | inr after ↦ passed after (phase_order_holds_still h i p l mine (theirs.place - i)
        (let w = event_place_inside h theirs.place (event q (Acquire l)) taken in omega arith))
  ]
]
  where
    taken : Does h theirs.place q (Acquire l)
    taken = slice_get-from_take h k theirs.place (event q (Acquire l)) theirs.acquires

    within : theirs.place < k
    within = slice_get-take_within h k theirs.place (event q (Acquire l)) theirs.acquires

    -- who acquired before place i, and hasn't released by place k, holds at place i
    both : theirs.place < i → Holds (take i h) q l
    both before = record {
      place = theirs.place;
      acquires = slice_get-take h i theirs.place before ∙ taken;
      keeps = λ m after does.
          let in_i = slice_get-take_within h i m (event q (Release l)) does in
          theirs.keeps m after
          (slice_get-take h k m (omega arith) ∙ slice_get-from_take h i m (event q (Release l)) does);
    }

    passed : i < theirs.place
        → Holds (take (i + (theirs.place - i)) h) p l
        ⊎ ((r : ℕ) × (i ≤ r) × (r < i + (theirs.place - i)) × Does h r p (Release l))
        → HappensBefore h i k
    passed after (inl still) =
        let e : i + (theirs.place - i) ≡ theirs.place = omega arith in
        let held : Holds (take theirs.place h) p l = rw e at still in
        absurd ((well theirs.place (event q (Acquire l)) taken).allowed.2.free p held)
    passed after (inr released) =
        let r = released.0 in
        let from : i < r = behind released in
        on (on (phase_order_own_edge h i r p x.kind (Release l) from x.does released.3) (record {
          before = let w = released.2 in omega arith;
          from = event p (Release l);
          to = event q (Acquire l);
          from_at = released.3;
          to_at = taken;
          link = lets refl;
        })) (record {
          before = within;
          from = event q (Acquire l);
          to = event q y.kind;
          from_at = taken;
          to_at = y.does;
          link = same refl;
        })
      where
        behind : (z : (r : ℕ) × (i ≤ r) × (r < i + (theirs.place - i)) × Does h r p (Release l)) → i < z.0
        behind z = elim (cases_order i z.0) [
          | inl is ↦ absurd (phase_order_other_kind h i p p a x (Release l) refl (subst (λ r. Does h r p (Release l)) (sym is) z.3))
          | inr order ↦ elim order [ inl less ↦ less | inr more ↦ absurd (let w = z.1 in omega arith) ]
        ]
