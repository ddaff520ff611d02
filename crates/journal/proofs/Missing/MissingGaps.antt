-- The gap is what lies between two timestamps, and has intervals whole.
use Rattle.std.proofs.Common.{ℕ, ◌≡◌, ◌≢◌, ◌<◌, ◌≤◌, ◌⊎◌, ◌↔◌, ◌/◌, inl, inr, List, [], ◌∷◌, ◌++◌, true, length, arith, refl, sym, ap, subst, ◌∙◌, true≢false, le_of_lt}
use Rattle.std.proofs.lemmas.Bool.{cases_eq, cases_lt}
use Rattle.journal.specs.declared.event.Event.{Event}
use Rattle.journal.specs.declared.event.Kind.{Kind}
use Rattle.journal.specs.declared.event.Kind.TheVariants.{Store, Fetch}
use Rattle.journal.specs.DidEvent.{event}
use Rattle.journal.specs.Sizes.{Sizes}
use Rattle.journal.specs.Events.{EventAt, event_closes, event_takes, event_interval_at}
use Rattle.journal.specs.HappensBeforeEdges.{HappensBefore}
use Rattle.journal.specs.WellFormed.{Does}
use Rattle.journal.specs.Pasts.{UpTo, InPast}
use Rattle.journal.specs.Times.{ClosesAt, IsTimeOf}
use Rattle.journal.specs.ClosingPlace.{IsClosingPlace}
use Rattle.journal.specs.PageImages.{StoresToPageImage, FetchesPageImage, IsOwnPlaceOfPageImage, InGap, StoredInGapOfPageImage}
use Rattle.journal.specs.IntervalContents.{IntervalContentHas}
use Rattle.journal.specs.BroughtCopy.{BroughtToCopy}
use Rattle.base.proofs.SlicesAndCounts.{slice_append_cases, slice_push_cases}
use Rattle.journal.proofs.Order.EventPlacesAndCounts.{event_place_inside, event_place_longer, event_place_shorter, event_place_same, event_place_does_same, event_count-front}
use Rattle.journal.proofs.Order.HappensBefore.{happens_before_shorter}
use Rattle.journal.proofs.Order.IntoPast.{into_past_up_to_back, into_past_within, into_past_longer, into_past_own, into_past_others}
use Rattle.journal.proofs.Times.LeavingCloses.{LeavesByClosing, leaving_closes_at, leaving_closes_own_order}
use Rattle.journal.proofs.Times.PushedTimes.{pushed_time_covers_past}
use Rattle.journal.proofs.CopyOfPage.PageStores.{page_stores_to, page_stores_within, page_stores_longer, page_stores_shorter}
use Rattle.journal.proofs.CopyOfPage.Brought.{brought_longer, brought_past, brought_push, brought_gap_is}
use Rattle.journal.proofs.Times.IntervalClosers.{interval_closer_first, interval_closer_in_past}
use Rattle.journal.proofs.Times.IntervalNumbers.{interval_number_closes, interval_number_closed}

-- another processor's event is not one's own
pub missing_gap_not_mine : (j : List Event) (p q i : ℕ) (a : Kind) → Does j i q a → q ≢ p → ¬ IsOwnPlaceOfPageImage j p i
missing_gap_not_mine j p q i a does apart m = apart (ap (λ (e : Event). e.processor) (event_place_same j i (event q a) m.0 does m.1) ∙ m.2)

-- a store in the gap is another processor's
pub missing_gaps_apart : {s : Sizes} {j : List Event} {p n q i a v : ℕ} → InGap s j p n i → Does j i q (Store a v) → q ≢ p
missing_gaps_apart {q = q} {a = a} {v = v} g does mine = g.others (event q (Store a v), does, mine)

-- others' events leave the gap
pub missing_gaps_of_others : (s : Sizes) (j es : List Event) (p n i : ℕ) → ((k : ℕ) (e : Event) → EventAt es k e → e.processor ≢ p)
    → InGap s (j ++ es) p n i ↔ InGap s j p n i
missing_gaps_of_others s j es p n i away = (there, back)
  where
    there : InGap s (j ++ es) p n i → InGap s j p n i
    there g =
        let past = (into_past_others j es p i away).0 g.past in
        (brought_gap_is s j p n i).1 (
          past,
          page_stores_shorter s j es n i (into_past_within j p i past) g.store,
          λ b.
              ((brought_gap_is s (j ++ es) p n i).0 g).2 (brought_longer j es p n i b),
        )

    old : InGap s j p n i → BroughtToCopy (j ++ es) p n i → ⊥
    old g (inl m) = g.others (m.0, event_place_shorter j es i m.0 (into_past_within j p i g.past) m.1, m.2)
    old g (inr m) =
        let f = m.1 in
        let e : Event = event p (Fetch f.0 n f.1 f.2) in
        elim (slice_append_cases j es m.0 e f.3) [
          | inl h ↦ g.new m.0 (f.0, f.1, f.2, h.1) (happens_before_shorter j es h.0 m.2)
          | inr h ↦ away h.0 e h.2 refl
        ]

    back : InGap s j p n i → InGap s (j ++ es) p n i
    back g = (brought_gap_is s (j ++ es) p n i).1 ((into_past_others j es p i away).1 g.past, page_stores_longer s j es n i g.store, old g)

-- an event by which p gets to know of others' adds what lies between p's timestamps before and after it
pub missing_gap_taken : (s : Sizes) {j : List Event} {p : ℕ} (n : ℕ) {q i a v : ℕ} (k : Kind) {t t' : ℕ → ℕ} → event_takes k ≡ true
    → IsTimeOf j p t → IsTimeOf (j ++ event p k ∷ []) p t' → Does j i q (Store a v) → a / s.words ≡ n → q ≢ p
    → InGap s (j ++ event p k ∷ []) p n i
    ↔ (InGap s j p n i ⊎ ((t q ≤ event_interval_at j q i) × (event_interval_at j q i < t' q)))
missing_gap_taken s {j = j} {p = p} n {q = q} {i = i} {a = a} {v = v} k {t = t} {t' = t'} takes time after does page apart = (there, back)
  where
    e : Event
    e = event p k

    within : i < length j
    within = event_place_inside j i (event q (Store a v)) does

    store : StoresToPageImage s (j ++ e ∷ []) n i
    store = page_stores_longer s j (e ∷ []) n i (page_stores_to s j n i q a v does page)

    old : InPast j p i ↔ (event_interval_at j q i < t q)
    old = pushed_time_covers_past j p q i (Store a v) t time does apart

    number : event_interval_at (j ++ e ∷ []) q i ≡ event_interval_at j q i
    number = event_count-front event_closes j (e ∷ []) i q (le_of_lt within)

    new : InPast (j ++ e ∷ []) p i ↔ (event_interval_at (j ++ e ∷ []) q i < t' q)
    new = pushed_time_covers_past (j ++ e ∷ []) p q i (Store a v) t' after (event_place_longer j (e ∷ []) i (event q (Store a v)) does) apart

    not_fetch : (w r d : ℕ) → e ≢ (event p (Fetch w n r d))
    not_fetch w r d is = true≢false (sym takes ∙ ap (λ (f : Event). event_takes f.kind) is)

    brought_old : BroughtToCopy (j ++ e ∷ []) p n i → BroughtToCopy j p n i
    brought_old b =
        elim (brought_push s j e p n i not_fetch store b)
        [ inl o ↦ o | inr m ↦ (let same = m.0 in absurd (omega (arith, within, same))) ]

    there : InGap s (j ++ e ∷ []) p n i → InGap s j p n i ⊎ ((t q ≤ event_interval_at j q i) × (event_interval_at j q i < t' q))
    there g =
        let less = new.0 g.past in
        elim (cases_lt (event_interval_at j q i) (t q)) [
          | inl known ↦ inl ((brought_gap_is s j p n i).1 (
            old.1 known,
            page_stores_to s j n i q a v does page,
            λ b.
                ((brought_gap_is s (j ++ e ∷ []) p n i).0 g).2 (brought_longer j (e ∷ []) p n i b),
          ))
          | inr from ↦ inr (from, omega (arith, less, number))
        ]

    back : InGap s j p n i ⊎ ((t q ≤ event_interval_at j q i) × (event_interval_at j q i < t' q)) → InGap s (j ++ e ∷ []) p n i
    back (inl g) =
        (brought_gap_is s (j ++ e ∷ []) p n i).1
        (into_past_longer j (e ∷ []) p i g.past, store, λ b. ((brought_gap_is s j p n i).0 g).2 (brought_old b))
    back (inr x) =
        (brought_gap_is s (j ++ e ∷ []) p n i).1 (
          new.1 (omega (arith, x.1, number)),
          store,
          λ b. let less = old.0
              (brought_past j p n i (brought_old b)) in let le = x.0 in omega arith,
        )

-- an event by which p gets to know of others', with p's timestamps before and after it
pub record LearnsMissingGap (j : List Event) (p : ℕ) (k : Kind) (t t' : ℕ → ℕ) : Type 0 where
  pub takes : event_takes k ≡ true
  pub time : IsTimeOf j p t
  pub after : IsTimeOf (j ++ event p k ∷ []) p t'

-- no store to the page between the timestamps: nothing comes to the past
pub missing_gap_nothing_taken : {j : List Event} {p : ℕ} {k : Kind} {t t' : ℕ → ℕ} → LearnsMissingGap j p k t t' → (s : Sizes) (n : ℕ)
    → ((q i a v : ℕ) → q ≢ p → Does j i q (Store a v) → a / s.words ≡ n → t q ≤ event_interval_at j q i
    → event_interval_at j q i < t' q → ⊥)
    → (i : ℕ) → StoresToPageImage s (j ++ event p k ∷ []) n i → InPast (j ++ event p k ∷ []) p i → InPast j p i
missing_gap_nothing_taken {j} {p} {k} {t} {t'} l s n none i x past =
    elim (cases_lt i (length j)) [ inl within ↦ old within (cases_eq x.by p) | inr from ↦ absurd (last from) ]
  where
    e : Event
    e = event p k

    f : Event
    f = event x.by (Store x.address x.value)

    last : length j ≤ i → ⊥
    last from =
        elim (slice_push_cases j e i f x.does) [
          | inl h ↦ (let less = h.0 in omega arith)
          | inr h ↦ true≢false (sym l.takes ∙ ap (λ (g : Event). event_takes g.kind) h.1)
        ]

    old : i < length j → (x.by ≡ p) ⊎ (x.by ≢ p) → InPast j p i
    old within (inl mine) = into_past_own j p i f (event_place_shorter j (e ∷ []) i f within x.does) mine
    old within (inr apart) =
        let does : Does j i x.by (Store x.address x.value) = event_place_shorter j (e ∷ []) i f within x.does in
        let number : event_interval_at (j ++ e ∷ []) x.by i ≡ event_interval_at j x.by i =
        event_count-front event_closes j (e ∷ []) i x.by (le_of_lt within) in
        let less = (pushed_time_covers_past (j ++ e ∷ []) p x.by i (Store x.address x.value) t' l.after x.does apart).0 past in
        elim (cases_lt (event_interval_at j x.by i) (t x.by)) [
          | inl known ↦ (pushed_time_covers_past j p x.by i (Store x.address x.value) t l.time does apart).1 known
          | inr le ↦ absurd (none x.by i x.address x.value apart does x.in_page le (omega (arith, less, number)))
        ]

-- with one store of an interval the gap has all of them
pub missing_gaps_whole : (s : Sizes) (j : List Event) (p n : ℕ) (z : ℕ × ℕ × ℕ) (m : ℕ) → StoredInGapOfPageImage s j p n z
    → IntervalContentHas s j z.0 z.1 n m → InGap s j p n m
missing_gaps_whole s j p n z m stored x = record {
  store = page_stores_to s j n m z.0 x.0 x.1 x.2 x.3;
  others = missing_gap_not_mine j p z.0 m (Store x.0 x.1) x.2 apart;
  past =
      (interval_closer_in_past j p z.0 m c.0 (Store x.0 x.1) second x.2 apart).1
      ((interval_closer_in_past j p z.0 i c.0 (Store z.2 stored.1) first does apart).0 g.past);
  new = λ f fetch h. g.new f fetch (before f fetch (leaving_closes_at j f m x.2 fetch.3 apart (inr h)));
}
  where
    i : ℕ
    i = stored.0

    does : Does j i z.0 (Store z.2 stored.1)
    does = stored.2

    g : InGap s j p n i
    g = stored.3

    apart : z.0 ≢ p
    apart = missing_gaps_apart g does

    c : (c : ℕ) × ClosesAt j z.0 c × (event_interval_at j z.0 c ≡ event_interval_at j z.0 i)
    c = interval_number_closed j p z.0 i (Store z.2 stored.1) does apart g.past

    first : IsClosingPlace j i c.0
    first = interval_number_closes j z.0 i c.0 (Store z.2 stored.1) does (λ h. true≢false (sym h)) c.1 (sym c.2)

    second : IsClosingPlace j m c.0
    second =
        interval_number_closes j z.0 m c.0 (Store x.0 x.1) x.2 (λ h. true≢false (sym h)) c.1
        (x.4 ∙ sym stored.4 ∙ sym c.2)

    before : (f : ℕ) → FetchesPageImage j f p n → LeavesByClosing j z.0 m (UpTo j f) → HappensBefore j i f
    before f fetch l =
        let least = interval_closer_first second x.2 l.from l.closes in
        let less = first.before in
        elim (into_past_up_to_back j i l.close f
        (leaving_closes_own_order j z.0 i l.close (Store z.2 stored.1) l.closes.kind does l.closes.does (omega arith)) l.inside) [
          | inl is ↦ (let P : ℕ
              → Type 0 = λ y. Does j y z.0 (Store z.2 stored.1) in absurd (apart (event_place_does_same j f z.0 p
              (Store z.2 stored.1) (Fetch fetch.0 n fetch.1 fetch.2) (subst P is does) fetch.3).0))
          | inr h ↦ h
        ]

-- where the gap is the same, so are the stores in it
pub missing_gap_stored_longer : (s : Sizes) (j es : List Event) (p n : ℕ) → ((i : ℕ) → InGap s (j ++ es) p n i ↔ InGap s j p n i)
    → (z : ℕ × ℕ × ℕ) → StoredInGapOfPageImage s (j ++ es) p n z ↔ StoredInGapOfPageImage s j p n z
missing_gap_stored_longer s j es p n same z = (there, back)
  where
    number : (i : ℕ) → i < length j → event_interval_at (j ++ es) z.0 i ≡ event_interval_at j z.0 i
    number i within = event_count-front event_closes j es i z.0 (le_of_lt within)

    there : StoredInGapOfPageImage s (j ++ es) p n z → StoredInGapOfPageImage s j p n z
    there g =
        let old = (same g.0).0 g.3 in
        let within = page_stores_within s j n g.0 old.store in
        (g.0, g.1, event_place_shorter j es g.0 (event z.0 (Store z.2 g.1)) within g.2, old, sym (number g.0 within) ∙ g.4)

    back : StoredInGapOfPageImage s j p n z → StoredInGapOfPageImage s (j ++ es) p n z
    back g =
        let within = page_stores_within s j n g.0 g.3.store in
        (g.0, g.1, event_place_longer j es g.0 (event z.0 (Store z.2 g.1)) g.2, (same g.0).1 g.3, number g.0 within ∙ g.4)
