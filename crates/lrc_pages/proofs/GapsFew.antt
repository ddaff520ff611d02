-- A gap counts no more than there are events.
use Rattle.std.proofs.Common.{ℕ, zero, suc, refl, ◌≡◌, ◌≤◌, ◌+◌, Some, List, [], ◌∷◌, length, map, slice_get, ap, subst, ◌∙◌, arith}
use Rattle.std.proofs.lemmas.List.{length-map}
use Rattle.std.proofs.lemmas.Option.{none-some, same_Some}
use Rattle.base.specs.InOrderOnce.{Has}
use Rattle.base.proofs.JoinedLists.{joined_list_has-map}
use Rattle.base.proofs.OnceWithout.{once_le}
use Rattle.journal.specs.declared.event.Event.{Event}
use Rattle.journal.specs.declared.event.Kind.{Kind}
use Rattle.journal.specs.declared.event.Kind.TheVariants.{Store}
use Rattle.journal.specs.DidEvent.{event}
use Rattle.journal.specs.Events.{event_interval_at}
use Rattle.journal.specs.PageImages.{GapCounts, HasPageImageCount, StoredInGapOfPageImage}
use Rattle.journal.specs.Sizes.{Sizes}

stored_address : Kind → ℕ
stored_address (Store a v) = a
stored_address _ = 0

-- who did each of these events, in which of its intervals, and where it stored
marks : List Event → ℕ → List Event → List (ℕ × ℕ × ℕ)
marks j start [] = []
marks j start (e ∷ es) = (e.processor, event_interval_at j e.processor start, stored_address e.kind) ∷ marks j (suc start) es

length-marks : (j : List Event) (start : ℕ) (es : List Event) → length (marks j start es) ≡ length es
unfolding marks
length-marks j start [] = refl
length-marks j start (e ∷ es) = ap suc (length-marks j (suc start) es)

mark_at : (j : List Event) (start : ℕ) (es : List Event) (i q a v : ℕ) → slice_get es i ≡ Some (event q (Store a v))
    → Has (marks j start es) (q, event_interval_at j q (start + i), a)
unfolding marks stored_address
mark_at j start [] i q a v at = absurd (none-some (event q (Store a v)) at)
mark_at j start (e ∷ es) zero q a v at =
    let is : e ≡ event q (Store a v) = same_Some e (event q (Store a v)) at in
    let same : start ≡ start + 0 = omega arith in
    (zero, rw (is, ← same) refl)
mark_at j start (e ∷ es) (suc i) q a v at =
    let rest = mark_at j (suc start) es i q a v at in
    let same : suc start + i ≡ start + suc i = omega arith in
    (suc rest.0, rw (← same) rest.1)

-- what is stored in the gap has its mark
stored_has_mark : (s : Sizes) (j : List Event) (p n : ℕ) (x : ℕ × ℕ × ℕ) → StoredInGapOfPageImage s j p n x → Has (marks j 0 j) x
stored_has_mark s j p n x stored =
    let here = mark_at j 0 j stored.0 x.0 x.2 stored.1 stored.2 in
    let from : 0 + stored.0 ≡ stored.0 = omega arith in
    let P : ℕ → Type 0 = λ k. Has (marks j 0 j) (x.0, k, x.2) in
    subst P (ap (λ (i : ℕ). event_interval_at j x.0 i) from ∙ stored.4) here

-- values of which each is one of a mark are no more than the events
few_of_marks : {A : Type 0} (j : List Event) (values : A → Type 0) (f : ℕ × ℕ × ℕ → A) (c : ℕ)
    → ((x : A) → values x → (m : ℕ × ℕ × ℕ) × Has (marks j 0 j) m × (f m ≡ x)) → HasPageImageCount values c → c ≤ length j
few_of_marks {A} j values f c from count =
    let le = once_le count.list (map f (marks j 0 j)) count.once (λ x h. (joined_list_has-map f (marks j 0 j) x).1 (from x ((count.each x).0 h))) in
    let all = length-map (marks j 0 j) f in
    let long = length-marks j 0 j in
    let counted = count.length_is in
    omega arith

pub record AreFewCounts (j : List Event) (w r d : ℕ) : Type 0 where
  pub writers : w ≤ length j
  pub records : r ≤ length j
  pub words : d ≤ length j

pub gap_counts_few : (s : Sizes) (j : List Event) (p n w r d : ℕ) → GapCounts s j p n w r d → AreFewCounts j w r d
gap_counts_few s j p n w r d counts = record {
  writers = few_of_marks j (λ (q : ℕ). (k : ℕ) × (a : ℕ) × StoredInGapOfPageImage s j p n (q, k, a)) (λ (m : ℕ × ℕ × ℕ). m.0) w
      (λ q x. ((q, x.0, x.1), stored_has_mark s j p n (q, x.0, x.1) x.2, refl)) counts.writers_are;
  records = few_of_marks j (λ (x : ℕ × ℕ). (a : ℕ) × StoredInGapOfPageImage s j p n (x.0, x.1, a)) (λ (m : ℕ × ℕ × ℕ). (m.0, m.1)) r
      (λ x y. ((x.0, x.1, y.0), stored_has_mark s j p n (x.0, x.1, y.0) y.1, refl)) counts.records_are;
  words = few_of_marks j (StoredInGapOfPageImage s j p n) (λ (m : ℕ × ℕ × ℕ). m) d
      (λ x y. (x, stored_has_mark s j p n x y, refl)) counts.words_are;
}
