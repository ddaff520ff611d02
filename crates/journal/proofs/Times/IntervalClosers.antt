-- Where intervals are closed: closing order extends happens-before, and a past has an interval where it has its
-- closing event.
use Rattle.std.proofs.Common.{ℕ, ◌≡◌, ◌≢◌, ◌<◌, ◌≤◌, ◌⊎◌, ◌↔◌, inl, inr, List, arith, refl, sym, ap, subst, ◌∙◌}
use Rattle.std.proofs.lemmas.Bool.{cases_eq, cases_lt, cases_order}
use Rattle.journal.specs.declared.event.Event.{Event}
use Rattle.journal.specs.declared.event.Kind.{Kind}
use Rattle.journal.specs.DidEvent.{event}
use Rattle.journal.specs.Events.{EventAt, event_closes}
use Rattle.journal.specs.WellFormed.{Does}
use Rattle.journal.specs.HappensBeforeEdges.{HappensBefore}
use Rattle.journal.specs.Pasts.{InPast}
use Rattle.journal.specs.ClosingPlace.{IsClosingPlace}
use Rattle.journal.specs.Times.{ClosesAt}
use Rattle.journal.proofs.Order.EventPlacesAndCounts.{event_place_same, event_place_does}
use Rattle.journal.proofs.Order.HappensBefore.{happens_before_goes_forward}
use Rattle.journal.proofs.Order.IntoPast.{into_past_back}
use Rattle.journal.proofs.Times.LeavingCloses.{LeavesByClosing, leaving_closes_path, leaving_closes_past, leaving_closes_own_order}

-- no earlier closing event of the processor closes the interval
pub interval_closer_least : (j : List Event) (i c m : ℕ) (x : IsClosingPlace j i c) → i ≤ m → ClosesAt j x.event.processor m → c ≤ m
interval_closer_least j i c m x from closes =
    elim (cases_lt m c) [ inl less ↦ absurd (go less (cases_order i m)) | inr le ↦ le ]
  where
    f : Event
    f = event x.event.processor closes.kind

    go : m < c → (i ≡ m) ⊎ ((i < m) ⊎ (m < i)) → ⊥
    go less (inl e) =
        let P : ℕ → Type 0 = λ k. EventAt j k x.event in
        x.open_at (ap (λ (g : Event). event_closes g.kind) (event_place_same j m x.event f (subst P e x.at) closes.does)
        ∙ closes.closes)
    go less (inr (inl after)) = x.none_between m f after less closes.does refl closes.closes
    go less (inr (inr before)) = omega arith

-- the closing event as one
pub interval_closer_closes : (j : List Event) (i c : ℕ) (x : IsClosingPlace j i c) → ClosesAt j x.event.processor c
interval_closer_closes j i c x =
    record
    { kind = x.closer.kind; does = event_place_does j c x.event.processor x.closer x.closer_at x.mine; closes = x.closes }

-- closing order extends happens-before
pub interval_closer_extends : (j : List Event) (i k c d : ℕ) → IsClosingPlace j i c → IsClosingPlace j k d → (c < d) ⊎ ((c ≡ d) × (i < k))
    → ¬ HappensBefore j k i
interval_closer_extends j i k c d x y order before = go (cases_eq y.event.processor x.event.processor)
  where
    forward : k < i
    forward = happens_before_goes_forward j before

    late : d ≤ c → ⊥
    late le = omega (arith, order, le, forward)

    go : (y.event.processor ≡ x.event.processor) ⊎ (y.event.processor ≢ x.event.processor) → ⊥
    go (inl mine) =
        let P : ℕ
        → Type 0 = λ q. ClosesAt j q c in late (interval_closer_least j k d c y
        (let less = x.before in omega (arith, forward, less))
        (subst P (sym mine) (interval_closer_closes j i c x)))
    go (inr apart) =
        let l = leaving_closes_path j y.event.processor before y.event x.event y.at x.at refl (λ s. apart (sym s)) in
        let least = interval_closer_least j k d l.close y l.from l.closes in
        let up = happens_before_goes_forward j l.inside in
        let less = x.before in
        late (omega (arith, least, up, less))

-- another processor's event is in a past exactly where the closing event of its interval is
pub interval_closer_past : (j : List Event) (p i c : ℕ) (x : IsClosingPlace j i c) → x.event.processor ≢ p
    → InPast j p i ↔ InPast j p c
interval_closer_past j p i c x apart = (
  there,
  λ h. into_past_back j p i c (leaving_closes_own_order j x.event.processor i c x.event.kind (interval_closer_closes j i c x).kind x.at
      (interval_closer_closes j i c x).does x.before)
      h,
)
  where
    there : InPast j p i → InPast j p c
    there h = go (cases_order c l.close)
      where
        l : LeavesByClosing j x.event.processor i (InPast j p)
        l = leaving_closes_past j p x.event.processor i x.event.kind x.at apart h

        go : (c ≡ l.close) ⊎ ((c < l.close) ⊎ (l.close < c)) → InPast j p c
        go (inl e) = subst (InPast j p) (sym e) l.inside
        go (inr (inl less)) =
            into_past_back j p c l.close (leaving_closes_own_order j x.event.processor c l.close (interval_closer_closes j i c x).kind
            l.closes.kind (interval_closer_closes j i c x).does l.closes.does less)
            l.inside
        go (inr (inr less)) = let least = interval_closer_least j i c l.close x l.from l.closes in absurd (omega arith)

-- whose interval is closed
pub interval_closer_of : (j : List Event) (q i c : ℕ) (a : Kind) (x : IsClosingPlace j i c) → Does j i q a → x.event.processor ≡ q
interval_closer_of j q i c a x does = ap (λ (e : Event). e.processor) (event_place_same j i x.event (event q a) x.at does)

-- the closing event is the processor's first from the event on
pub interval_closer_first : {j : List Event} {q i c m : ℕ} {a : Kind} → IsClosingPlace j i c → Does j i q a → i ≤ m → ClosesAt j q m
    → c ≤ m
interval_closer_first {j} {q} {i} {c} {m} {a} x does from closes =
    let P : ℕ
    → Type 0 = λ r. ClosesAt j r m in interval_closer_least j i c m x from
    (subst P (sym (interval_closer_of j q i c a x does)) closes)

-- q's event is in another's past exactly where the closing event of its interval is
pub interval_closer_in_past : (j : List Event) (p q i c : ℕ) (a : Kind) → IsClosingPlace j i c → Does j i q a → q ≢ p
    → InPast j p i ↔ InPast j p c
interval_closer_in_past j p q i c a x does apart = interval_closer_past j p i c x (λ e. apart (sym (interval_closer_of j q i c a x does) ∙ e))

-- an interval is closed at one place
pub interval_closer_once : (j : List Event) (i c d : ℕ) → IsClosingPlace j i c → IsClosingPlace j i d → c ≡ d
interval_closer_once j i c d x y =
    let same : x.event.processor ≡ y.event.processor = interval_closer_of j y.event.processor i c y.event.kind x y.at in
    let less = x.before in
    let later = y.before in
    let P : ℕ → ℕ → Type 0 = λ q m. ClosesAt j q m in
    let up = interval_closer_least j i c d x (omega arith) (subst (λ q. P q d) (sym same) (interval_closer_closes j i d y)) in
    let down = interval_closer_least j i d c y (omega arith) (subst (λ q. P q c) same (interval_closer_closes j i c x)) in
    omega arith
