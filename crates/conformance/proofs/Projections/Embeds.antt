-- A history's projection to the events of some kinds: where they stand in the whole, and how many there are of a kind.
use Rattle.std.proofs.Common.{ℕ, zero, suc, ◌≡◌, ◌+◌, ◌<◌, List, [], ◌∷◌, inl, inr, Bool, true, false, cond, filter, take, refl, sym, ap, subst, arith, ◌∙◌}
use Rattle.std.specs.Prelude.{◌==◌, ◌&&◌}
use Rattle.std.proofs.lemmas.Bool.{false≢true, cond-true, cond-false, cases_order}
use Rattle.std.proofs.lemmas.Option.{same_Some}
use Rattle.journal.specs.declared.event.Event.{Event}
use Rattle.journal.specs.declared.event.Kind.{Kind}
use Rattle.journal.specs.Events.{EventAt, event_count}
use Rattle.journal.proofs.Order.EventPlacesAndCounts.{event_count-append}
use Rattle.base.proofs.SlicesAndCounts.{slice_get-take, slice_get-take_within, slice_get-from_take}

-- the events of these kinds
abbrev pub embedded_projection : (Kind → Bool) → List Event → List Event
embedded_projection keep h = filter (λ (e : Event). keep e.kind) h

-- g's events stand in h in their order, and h has only events of other kinds besides
pub record Embeds (keep : Kind → Bool) (g h : List Event) : Type 0 where
  pub place : ℕ → ℕ
  pub rises : (m k : ℕ) → m < k → place m < place k
  pub there : (m : ℕ) (e : Event) → EventAt g m e → EventAt h (place m) e
  pub back : (n : ℕ) (e : Event) → EventAt h n e → keep e.kind ≡ true → (m : ℕ) × (place m ≡ n) × EventAt g m e

-- what isn't kept is of none of these kinds
abbrev pub AreEmbedded : (Kind → Bool) → (Kind → Bool) → Type 0
AreEmbedded keep is = (k : Kind) → keep k ≡ false → is k ≡ false

-- each processor has as many events of such kinds in both
abbrev pub EmbedsCountsSame : (Kind → Bool) → List Event → List Event → Type 0
EmbedsCountsSame keep g h = (is : Kind → Bool) → AreEmbedded keep is → (p : ℕ) → event_count is g p ≡ event_count is h p

-- and in each front
pub record IsEmbeddedProjection (keep : Kind → Bool) (g h : List Event) : Type 0 where
  pub embeds : Embeds keep g h
  pub fronts : (m : ℕ) → EmbedsCountsSame keep (take m g) (take (embeds.place m) h)
  pub whole : EmbedsCountsSame keep g h

-- the order of places in the whole is theirs
pub embeds_rising : {keep : Kind → Bool} (g h : List Event) (x : Embeds keep g h) (i m : ℕ) → x.place i < x.place m → i < m
embeds_rising g h x i m less = elim (cases_order i m) [
  | inl same ↦ (let e : x.place i ≡ x.place m = ap x.place same in absurd (omega arith))
  | inr apart ↦ elim apart [
    | inl before ↦ before
    | inr after ↦ (let more = x.rises m i after in absurd (omega arith))
  ]
]

-- a front stands in a front
pub embeds_take : {keep : Kind → Bool} (g h : List Event) (x : Embeds keep g h) (m : ℕ) → Embeds keep (take m g) (take (x.place m) h)
embeds_take {keep = keep} g h x m = record { place = x.place; rises = x.rises; there = there; back = back }
  where
    there : (i : ℕ) (e : Event) → EventAt (take m g) i e → EventAt (take (x.place m) h) (x.place i) e
    there i e at =
        let less = x.rises i m (slice_get-take_within g m i e at) in
        slice_get-take h (x.place m) (x.place i) less ∙ x.there i e (slice_get-from_take g m i e at)

    back : (n : ℕ) (e : Event) → EventAt (take (x.place m) h) n e → keep e.kind ≡ true
        → (i : ℕ) × (x.place i ≡ n) × EventAt (take m g) i e
    back n e at kept =
        let less = slice_get-take_within h (x.place m) n e at in
        let b = x.back n e (slice_get-from_take h (x.place m) n e at) kept in
        let place : x.place b.0 ≡ n = b.1 in
        let before = embeds_rising g h x b.0 m (omega arith) in
        (b.0, b.1, slice_get-take g m b.0 before ∙ b.2)

-- one event before others
embeds_count : (is : Kind → Bool) (e : Event) (es : List Event) (p : ℕ)
    → event_count is (e ∷ es) p ≡ event_count is (e ∷ []) p + event_count is es p
embeds_count is e es p = event_count-append is (e ∷ []) es p

embeds_count_left_out : (keep is : Kind → Bool) (e : Event) (p : ℕ) → AreEmbedded keep is → keep e.kind ≡ false
    → event_count is (e ∷ []) p ≡ 0
embeds_count_left_out keep is e p projected out = cases (e.processor == p)
  where
    none : is e.kind ≡ false
    none = projected e.kind out

    cases : (mine : Bool) → 0 + cond (mine && is e.kind) 1 0 ≡ 0
    cases true = ap (λ (b : Bool). 0 + cond b 1 0) none
    cases false = refl

-- nothing in nothing
embeds_none : (keep : Kind → Bool) → IsEmbeddedProjection keep [] []
embeds_none keep =
    record {
      embeds = record {
        place = λ m. m;
        rises = λ m k less. less;
        there = λ m e at. at;
        back = λ n e at kept. (n, refl, at);
      };
      fronts = λ m is projected p. refl;
      whole = λ is projected p. refl;
    }

-- the places behind one event more
abbrev embeds_shifted : (ℕ → ℕ) → ℕ → ℕ
embeds_shifted place zero = zero
embeds_shifted place (suc m) = suc (place m)

-- with an event before them that is kept
embeds_kept : (keep : Kind → Bool) (e : Event) (g h : List Event) → IsEmbeddedProjection keep g h → IsEmbeddedProjection keep (e ∷ g) (e ∷ h)
embeds_kept keep e g h x =
    record {
      embeds = record { place = embeds_shifted x.embeds.place; rises = rises; there = there; back = back };
      fronts = fronts;
      whole = λ is projected p. more is g h p (x.whole is projected p);
    }
  where
    rises : (m k : ℕ) → m < k → embeds_shifted x.embeds.place m < embeds_shifted x.embeds.place k
    rises zero zero less = absurd (omega arith)
    rises zero (suc k) less = omega arith
    rises (suc m) zero less = absurd (omega arith)
    rises (suc m) (suc k) less = let more = x.embeds.rises m k (omega arith) in omega arith

    there : (m : ℕ) (f : Event) → EventAt (e ∷ g) m f → EventAt (e ∷ h) (embeds_shifted x.embeds.place m) f
    there zero f at = at
    there (suc m) f at = x.embeds.there m f at

    back : (n : ℕ) (f : Event) → EventAt (e ∷ h) n f → keep f.kind ≡ true
        → (m : ℕ) × (embeds_shifted x.embeds.place m ≡ n) × EventAt (e ∷ g) m f
    back zero f at kept = (zero, refl, at)
    back (suc n) f at kept = let b = x.embeds.back n f at kept in (suc b.0, ap suc b.1, b.2)

    more : (is : Kind → Bool) (xs ys : List Event) (p : ℕ) → event_count is xs p ≡ event_count is ys p
        → event_count is (e ∷ xs) p ≡ event_count is (e ∷ ys) p
    more is xs ys p same =
        let one = embeds_count is e xs p in
        let other = embeds_count is e ys p in
        omega (arith, one, other, same)

    fronts : (m : ℕ) → EmbedsCountsSame keep (take m (e ∷ g)) (take (embeds_shifted x.embeds.place m) (e ∷ h))
    fronts zero is projected p = refl
    fronts (suc m) is projected p = more is (take m g) (take (x.embeds.place m) h) p (x.fronts m is projected p)

-- with one before the whole that isn't
embeds_left_out : (keep : Kind → Bool) (e : Event) (g h : List Event) → keep e.kind ≡ false → IsEmbeddedProjection keep g h
    → IsEmbeddedProjection keep g (e ∷ h)
embeds_left_out keep e g h out x =
    record {
      embeds = record { place = λ m. suc (x.embeds.place m); rises = rises; there = x.embeds.there; back = back };
      fronts = λ m is projected p. more is projected (take m g) (take (x.embeds.place m) h) p (x.fronts m is projected p);
      whole = λ is projected p. more is projected g h p (x.whole is projected p);
    }
  where
    rises : (m k : ℕ) → m < k → suc (x.embeds.place m) < suc (x.embeds.place k)
    rises m k less = let more = x.embeds.rises m k less in omega arith

    back : (n : ℕ) (f : Event) → EventAt (e ∷ h) n f → keep f.kind ≡ true
        → (m : ℕ) × (suc (x.embeds.place m) ≡ n) × EventAt g m f
    back zero f at kept =
        let same = ap (λ (y : Event). keep y.kind) (same_Some e f at) in
        absurd (false≢true (sym out ∙ same ∙ kept))
    back (suc n) f at kept = let b = x.embeds.back n f at kept in (b.0, ap suc b.1, b.2)

    more : (is : Kind → Bool) → AreEmbedded keep is → (xs ys : List Event) (p : ℕ) → event_count is xs p ≡ event_count is ys p
        → event_count is xs p ≡ event_count is (e ∷ ys) p
    more is projected xs ys p same =
        let other = embeds_count is e ys p in
        let none = embeds_count_left_out keep is e p projected out in
        omega (arith, other, none, same)

-- what holds of nothing, of a list with an event before it that is left out, and of one with an event that is kept, holds of
-- each projection
pub by_events_embedded : (keep : Kind → Bool) (P : List Event → List Event → Type 0) → P [] []
    → ((e : Event) (h : List Event) → keep e.kind ≡ false → P (embedded_projection keep h) h → P (embedded_projection keep h) (e ∷ h))
    → ((e : Event) (h : List Event) → keep e.kind ≡ true → P (embedded_projection keep h) h → P (e ∷ embedded_projection keep h) (e ∷ h))
    → (h : List Event) → P (embedded_projection keep h) h
by_events_embedded keep P none left_out kept [] = none
by_events_embedded keep P none left_out kept (e ∷ h) = cases (keep e.kind) refl (by_events_embedded keep P none left_out kept h)
  where
    cases : (b : Bool) → keep e.kind ≡ b → P (embedded_projection keep h) h → P (embedded_projection keep (e ∷ h)) (e ∷ h)
    cases false is x =
        let same = cond-false (keep e.kind) (e ∷ embedded_projection keep h) (embedded_projection keep h) is in
        subst (λ (g : List Event). P g (e ∷ h)) (sym same) (left_out e h is x)
    cases true is x =
        let same = cond-true (keep e.kind) (e ∷ embedded_projection keep h) (embedded_projection keep h) is in
        subst (λ (g : List Event). P g (e ∷ h)) (sym same) (kept e h is x)

-- each history's projection is one
pub embedded_projection_is : (keep : Kind → Bool) (h : List Event) → IsEmbeddedProjection keep (embedded_projection keep h) h
embedded_projection_is keep =
    by_events_embedded keep (IsEmbeddedProjection keep) (embeds_none keep) (λ e h is x. embeds_left_out keep e (embedded_projection keep h) h is x)
    (λ e h is x. embeds_kept keep e (embedded_projection keep h) h x)
