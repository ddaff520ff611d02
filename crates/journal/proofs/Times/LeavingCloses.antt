-- A path from a processor's event to another processor leaves by an event that closes an interval.
use Rattle.std.proofs.Common.{◌≡◌, ◌≢◌, ℕ, ◌<◌, ◌≤◌, inl, inr, List, IsTrue, subst, sym, refl, ap, ◌∙◌, le_refl, arith}
use Rattle.std.proofs.lemmas.Bool.{cases_eq}
use Rattle.journal.specs.declared.event.Event.{Event}
use Rattle.journal.specs.declared.event.Kind.{Kind}
use Rattle.journal.specs.declared.event.Kind.TheVariants.{Acquire, Release, Set, Await}
use Rattle.journal.specs.DidEvent.{event}
use Rattle.journal.specs.Events.{EventAt, event_closes}
use Rattle.journal.specs.HappensBeforeEdges.{LetsThrough, Link, HappensBefore}
use Rattle.journal.specs.HappensBeforeEdges.Link.{same, lets, meets}
use Rattle.journal.specs.HappensBeforeEdges.HappensBefore.{edge, on}
use Rattle.journal.specs.WellFormed.{Does}
use Rattle.journal.specs.Pasts.{UpTo, InPast}
use Rattle.journal.specs.Times.{ClosesAt}
use Rattle.journal.proofs.Order.EventPlacesAndCounts.{event_place_same, event_place_does}
use Rattle.journal.proofs.Order.HappensBefore.{happens_before_goes_forward}

leaving_closes_lets : (a b : Kind) → LetsThrough a b → IsTrue (event_closes a)
leaving_closes_lets (Release l) (Acquire m) h = refl
leaving_closes_lets (Set f) (Await g) h = refl
leaving_closes_lets _ _ h = absurd h

-- an edge from a processor to another begins at a closing event
leaving_closes_link : (j : List Event) (i k : ℕ) (e f : Event) → Link j i k e f → (e.processor ≡ f.processor → ⊥)
    → IsTrue (event_closes e.kind)
leaving_closes_link j i k e f (same s) apart = absurd (apart s)
leaving_closes_link j i k e f (lets l) apart = leaving_closes_lets e.kind f.kind l
leaving_closes_link j i k e f (meets m) apart = rw m.arrives

-- q closes an interval at place c, from i on, and c is among these
pub record LeavesByClosing (j : List Event) (q i : ℕ) (among : ℕ → Type 0) : Type 0 where
  pub close : ℕ
  pub from : i ≤ close
  pub closes : ClosesAt j q close
  pub inside : among close

leaving_closes_from : (j : List Event) (q i : ℕ) (e : Event) → EventAt j i e → e.processor ≡ q → IsTrue (event_closes e.kind)
    → ClosesAt j q i
leaving_closes_from j q i e at mine h = record { kind = e.kind; does = event_place_does j i q e at mine; closes = h }

-- a path that leaves a processor passes a closing event of it
pub leaving_closes_path : (j : List Event) (q : ℕ) {i k : ℕ} → HappensBefore j i k → (e f : Event) → EventAt j i e → EventAt j k f
    → e.processor ≡ q → f.processor ≢ q → LeavesByClosing j q i (λ c. HappensBefore j c k)
leaving_closes_path j q {i} {k} (edge d) e f at to mine away =
    let from = event_place_same j i d.from e d.from_at at in
    let into = event_place_same j k d.to f d.to_at to in
    let apart : d.from.processor ≡ d.to.processor → ⊥ =
    λ s. away (ap (λ x. x.processor) (sym into) ∙ sym s ∙ ap (λ x. x.processor) from ∙ mine) in
    let closing = leaving_closes_link j i k d.from d.to d.link apart in
    record {
      close = i;
      from = le_refl i;
      closes = leaving_closes_from j q i d.from d.from_at (ap (λ x. x.processor) from ∙ mine) closing;
      inside = edge d;
    }
leaving_closes_path j q {i} {k} (on {m = m} h d) e f at to mine away = elim (cases_eq d.from.processor q) [
  | inl is ↦ (let into = event_place_same j k d.to f d.to_at to in
      let apart : d.from.processor ≡ d.to.processor → ⊥ = λ s. away (ap (λ x. x.processor) (sym into) ∙ sym s ∙ is) in
      let closing = leaving_closes_link j m k d.from d.to d.link apart in
      let lt = happens_before_goes_forward j h in
      record
      { close = m; from = omega arith; closes = leaving_closes_from j q m d.from d.from_at is closing; inside = edge d })
  | inr isnt ↦ (let ih = leaving_closes_path j q h e d.from at d.from_at mine isnt in
      record { close = ih.close; from = ih.from; closes = ih.closes; inside = on ih.inside d })
]

-- q's event in another processor's past has a closing event of q from it on in that past
pub leaving_closes_past : (j : List Event) (p q i : ℕ) (a : Kind) → Does j i q a → q ≢ p → InPast j p i
    → LeavesByClosing j q i (InPast j p)
leaving_closes_past j p q i a does apart x = go x.reaches
  where
    away : x.event.processor ≢ q
    away s = apart (sym s ∙ x.mine)

    go : UpTo j x.own i → LeavesByClosing j q i (InPast j p)
    go (inl is) =
        let here = event_place_same j x.own x.event (event q a) x.at (subst (λ m. EventAt j m (event q a)) is does) in
        absurd (away (ap (λ y. y.processor) here))
    go (inr h) =
        let c = leaving_closes_path j q h (event q a) x.event does x.at refl away in
        record {
          close = c.close;
          from = c.from;
          closes = c.closes;
          inside = record { own = x.own; event = x.event; at = x.at; mine = x.mine; reaches = inr c.inside };
        }

-- the same of an event's past
pub leaving_closes_at : {p q : ℕ} {a b : Kind} → (j : List Event) (k i : ℕ) → Does j i q a → Does j k p b → q ≢ p → UpTo j k i
    → LeavesByClosing j q i (UpTo j k)
leaving_closes_at {p} {q} {a} {b} j k i does at apart (inl is) =
    let here = event_place_same j k (event p b) (event q a) at (subst (λ m. EventAt j m (event q a)) is does) in
    absurd (apart (sym (ap (λ y. y.processor) here)))
leaving_closes_at {p} {q} {a} {b} j k i does at apart (inr h) =
    let c = leaving_closes_path j q h (event q a) (event p b) does at refl (λ s. apart (sym s)) in
    record { close = c.close; from = c.from; closes = c.closes; inside = inr c.inside }

-- of a processor's two events the first happens before the second
pub leaving_closes_own_order : (j : List Event) (q i c : ℕ) (a b : Kind) → Does j i q a → Does j c q b → i < c → HappensBefore j i c
leaving_closes_own_order j q i c a b does to lt =
    edge (record { before = lt; from = event q a; to = event q b; from_at = does; to_at = to; link = same refl })

-- a set of places that is closed backwards has, with a closing event of a processor, its events before
pub leaving_closes_back_own : {j : List Event} {among : ℕ → Type 0} {q i : ℕ} {a : Kind}
    → ((m n : ℕ) → HappensBefore j m n → among n → among m) → Does j i q a → LeavesByClosing j q i among → among i
leaving_closes_back_own {j} {among} {q} {i} {a} back does l = elim (cases_eq i l.close) [
  | inl is ↦ subst among (sym is) l.inside
  | inr isnt ↦
      let from = l.from in
      back i l.close (leaving_closes_own_order j q i l.close a l.closes.kind does l.closes.does (omega arith)) l.inside
]
