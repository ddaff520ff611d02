-- Whether one place happens before another is decided: it does, or it doesn't.
use Rattle.std.proofs.Common.{ℕ, zero, suc, ◌≡◌, ◌≢◌, ◌<◌, ◌≤◌, ◌⊎◌, inl, inr, List, Option, Some, slice_get, take, subst, refl, arith}
use Rattle.std.specs.Prelude.{None}
use Rattle.std.proofs.lemmas.Bool.{cases_eq, cases_lt}
use Rattle.journal.specs.declared.event.Event.{Event}
use Rattle.journal.specs.declared.event.Kind.{Kind}
use Rattle.journal.specs.declared.event.Kind.TheVariants.{Acquire, Release, Arrive, Depart, Set, Await}
use Rattle.journal.specs.Events.{EventAt, event_count, event_arrives, event_departs}
use Rattle.journal.specs.HappensBeforeEdges.{Edge, HappensBefore, HappensBeforeEdgesMeet, LetsThrough, Link}
use Rattle.journal.specs.HappensBeforeEdges.Link.{same, lets, meets}
use Rattle.journal.specs.HappensBeforeEdges.HappensBefore.{edge, on}
use Rattle.journal.proofs.Order.EventPlacesAndCounts.{event_place_same}

-- it holds, or it doesn't
abbrev pub IsDecidedOrder : Type 0 → Type 0
IsDecidedOrder P = P ⊎ ¬ P

-- a number below n of which it holds, or there is none
decided_order_below : (P : ℕ → Type 0) → ((m : ℕ) → IsDecidedOrder (P m)) → (n : ℕ)
    → ((m : ℕ) × (m < n) × P m) ⊎ ((m : ℕ) → m < n → ¬ P m)
decided_order_below P each zero = inr (λ m lt p. (let none : m < zero = lt in omega arith))
decided_order_below P each (suc n) = go (decided_order_below P each n) (each n)
  where
    none : ((m : ℕ) → m < n → ¬ P m) → ¬ P n → (m : ℕ) → m < suc n → ¬ P m
    none below last m lt p = elim (cases_eq m n) [
      | inl is ↦ last (subst P is p)
      | inr isnt ↦ below m (omega arith) p
    ]

    go : ((m : ℕ) × (m < n) × P m) ⊎ ((m : ℕ) → m < n → ¬ P m) → IsDecidedOrder (P n)
        → ((m : ℕ) × (m < suc n) × P m) ⊎ ((m : ℕ) → m < suc n → ¬ P m)
    go (inl (m, lt, p)) last = inl (m, (let less : m < n = lt in omega arith), p)
    go (inr below) (inl p) = inl (n, omega arith, p)
    go (inr below) (inr last) = inr (none below last)

decided_order_lets : (k l : Kind) → IsDecidedOrder (LetsThrough k l)
decided_order_lets (Release l) (Acquire m) = cases_eq l m
decided_order_lets (Set f) (Await g) = cases_eq f g
decided_order_lets _ _ = inr (λ never. never)

decided_order_arrives : (k : Kind) → IsDecidedOrder (k ≡ Arrive)
decided_order_arrives Arrive = inl refl
decided_order_arrives _ = inr (λ is. cc is)

decided_order_departs : (k : Kind) → IsDecidedOrder (k ≡ Depart)
decided_order_departs Depart = inl refl
decided_order_departs _ = inr (λ is. cc is)

decided_order_meets : (j : List Event) (i k : ℕ) (e f : Event) → IsDecidedOrder (HappensBeforeEdgesMeet j i k e f)
decided_order_meets j i k e f = go (decided_order_arrives e.kind) (decided_order_departs f.kind)
    (cases_eq (event_count event_arrives (take i j) e.processor) (event_count event_departs (take k j) f.processor))
  where
    go : IsDecidedOrder (e.kind ≡ Arrive) → IsDecidedOrder (f.kind ≡ Depart)
        → IsDecidedOrder (event_count event_arrives (take i j) e.processor ≡ event_count event_departs (take k j) f.processor)
        → IsDecidedOrder (HappensBeforeEdgesMeet j i k e f)
    go (inl arrives) (inl departs) (inl episode) = inl (record { arrives = arrives; departs = departs; episode = episode })
    go (inr none) _ _ = inr (λ x. none x.arrives)
    go (inl _) (inr none) _ = inr (λ x. none x.departs)
    go (inl _) (inl _) (inr none) = inr (λ x. none x.episode)

decided_order_link : (j : List Event) (i k : ℕ) (e f : Event) → IsDecidedOrder (Link j i k e f)
decided_order_link j i k e f =
    go (cases_eq e.processor f.processor) (decided_order_lets e.kind f.kind) (decided_order_meets j i k e f)
  where
    none : e.processor ≢ f.processor → ¬ LetsThrough e.kind f.kind → ¬ HappensBeforeEdgesMeet j i k e f → ¬ Link j i k e f
    none apart closed away (same is) = apart is
    none apart closed away (lets through) = closed through
    none apart closed away (meets met) = away met

    go : IsDecidedOrder (e.processor ≡ f.processor) → IsDecidedOrder (LetsThrough e.kind f.kind)
        → IsDecidedOrder (HappensBeforeEdgesMeet j i k e f) → IsDecidedOrder (Link j i k e f)
    go (inl is) _ _ = inl (same is)
    go (inr _) (inl through) _ = inl (lets through)
    go (inr _) (inr _) (inl met) = inl (meets met)
    go (inr apart) (inr closed) (inr away) = inr (none apart closed away)

-- an event stands there, or none does
decided_order_event : (j : List Event) (i : ℕ) → ((e : Event) × EventAt j i e) ⊎ ((e : Event) → ¬ EventAt j i e)
decided_order_event j i = go (slice_get j i) refl
  where
    go : (o : Option Event) → slice_get j i ≡ o → ((e : Event) × EventAt j i e) ⊎ ((e : Event) → ¬ EventAt j i e)
    go (Some e) is = inl (e, is)
    go None is = inr (λ e at. cc (is, at))

decided_order_edge : (j : List Event) (i k : ℕ) → IsDecidedOrder (Edge j i k)
decided_order_edge j i k = go (cases_lt i k) (decided_order_event j i) (decided_order_event j k)
  where
    linked : (e f : Event) → i < k → EventAt j i e → EventAt j k f → IsDecidedOrder (Link j i k e f) → IsDecidedOrder (Edge j i k)
    linked e f less at to (inl link) =
        inl (record { before = less; from = e; to = f; from_at = at; to_at = to; link = link })
    linked e f less at to (inr none) =
        inr (λ x. none (subst (λ y. Link j i k y f) (event_place_same j i x.from e x.from_at at)
        (subst (λ y. Link j i k x.from y) (event_place_same j k x.to f x.to_at to) x.link)))

    go : (i < k) ⊎ (k ≤ i) → ((e : Event) × EventAt j i e) ⊎ ((e : Event) → ¬ EventAt j i e)
        → ((e : Event) × EventAt j k e) ⊎ ((e : Event) → ¬ EventAt j k e) → IsDecidedOrder (Edge j i k)
    go (inr le) _ _ = inr (λ x. (let less = x.before in omega (arith, le)))
    go (inl _) (inr none) _ = inr (λ x. none x.from x.from_at)
    go (inl _) (inl _) (inr none) = inr (λ x. none x.to x.to_at)
    go (inl less) (inl (e, at)) (inl (f, to)) = linked e f less at to (decided_order_link j i k e f)

-- an edge leads from what happens after place i to place k
abbrev pub IsDecidedOrderStep : List Event → ℕ → ℕ → ℕ → Type 0
IsDecidedOrderStep j i k m = HappensBefore j i m × Edge j m k

decided_order_of_both : (P Q : Type 0) → IsDecidedOrder P → IsDecidedOrder Q → IsDecidedOrder (P × Q)
decided_order_of_both P Q (inl p) (inl q) = inl (p, q)
decided_order_of_both P Q (inr none) _ = inr (λ x. none x.0)
decided_order_of_both P Q (inl _) (inr none) = inr (λ x. none x.1)

-- it is decided of place k, if it is of the places before
decided_order_next : (j : List Event) (i k : ℕ) → ((m : ℕ) → m < k → IsDecidedOrder (HappensBefore j i m))
    → IsDecidedOrder (HappensBefore j i k)
decided_order_next j i k before = go (decided_order_edge j i k) (decided_order_below (IsDecidedOrderStep j i k) step k)
  where
    step : (m : ℕ) → IsDecidedOrder (IsDecidedOrderStep j i k m)
    step m = elim (cases_lt m k) [
      | inl less ↦ decided_order_of_both (HappensBefore j i m) (Edge j m k) (before m less) (decided_order_edge j m k)
      | inr le ↦ inr (λ x. (let less = x.1.before in omega arith))
    ]

    none : ¬ Edge j i k → ((m : ℕ) → m < k → ¬ IsDecidedOrderStep j i k m) → ¬ HappensBefore j i k
    none no_edge no_step (edge d) = no_edge d
    none no_edge no_step (on {m = m} h d) = no_step m d.before (h, d)

    go : IsDecidedOrder (Edge j i k) → ((m : ℕ) × (m < k) × IsDecidedOrderStep j i k m) ⊎ ((m : ℕ) → m < k → ¬ IsDecidedOrderStep j i k m)
        → IsDecidedOrder (HappensBefore j i k)
    go (inl d) _ = inl (edge d)
    go (inr _) (inl (m, less, both)) = inl (on both.0 both.1)
    go (inr no_edge) (inr no_step) = inr (none no_edge no_step)

-- below n it is decided
decided_order_up_to : (j : List Event) (i n k : ℕ) → k < n → IsDecidedOrder (HappensBefore j i k)
decided_order_up_to j i zero k lt = absurd (let none : k < zero = lt in omega arith)
decided_order_up_to j i (suc n) k lt =
    decided_order_next j i k (λ m less. decided_order_up_to j i n m (let up_to : k < suc n = lt in omega (arith, less)))

pub decided_order : (j : List Event) (i k : ℕ) → IsDecidedOrder (HappensBefore j i k)
decided_order j i k = decided_order_up_to j i (suc k) k (omega arith)
