-- The missing intervals as groups of places: they are the gap, in an order that extends happens-before.
use Rattle.std.proofs.Common.{ℕ, ◌≡◌, ◌≢◌, ◌<◌, ◌↔◌, inl, List, [], ◌∷◌, Some, zero, suc, map, slice_get, arith, refl, sym, subst, subst₂, ◌∙◌, true≢false}
use Rattle.std.specs.List.{concat}
use Rattle.std.proofs.lemmas.Option.{none-some, same_Some}
use Rattle.journal.specs.declared.event.Event.{Event}
use Rattle.journal.specs.declared.event.Kind.TheVariants.{Store}
use Rattle.journal.specs.Sizes.{Sizes}
use Rattle.journal.specs.Events.{event_interval_at}
use Rattle.journal.specs.HappensBeforeEdges.{HappensBefore}
use Rattle.journal.specs.Times.{ClosesAt}
use Rattle.journal.specs.ClosingPlace.{IsClosingPlace}
use Rattle.journal.specs.PageImages.{page_image_write, InGap}
use Rattle.journal.specs.IntervalContents.{IntervalContentHas, IsIntervalContent}
use Rattle.journal.specs.MissingIntervals.{IsMissingIntervalPlace, MissingInterval, MissingIntervalsInOrder, AreMissingIntervals}
use Rattle.base.specs.InOrderOnce.{Has, InOrder, IsOnce}
use Rattle.base.specs.AppliedRecords.{AreRecordsOf, none, more}
use Rattle.base.proofs.JoinedLists.{joined_lists_have, joined_lists_in_order}
use Rattle.journal.proofs.Order.HappensBefore.{happens_before_goes_forward}
use Rattle.journal.proofs.Times.IntervalClosers.{interval_closer_extends, interval_closer_once}
use Rattle.journal.proofs.Times.IntervalNumbers.{interval_number_closes}
use Rattle.journal.proofs.Missing.ClosingRanks.{closing_rank_before}
use Rattle.journal.proofs.Missing.MissingGaps.{missing_gaps_whole}

-- these are the places of each interval's stores
pub record AreGroups (s : Sizes) (j : List Event) (n : ℕ) (missing : List MissingInterval) (groups : List (List ℕ)) : Type 0
  where
    pub records_of : AreRecordsOf (λ (i : ℕ). page_image_write s (slice_get j i)) groups
        (map (λ (x : MissingInterval). x.words) missing)
    pub group_of : (m : ℕ) (x : MissingInterval) → slice_get missing m ≡ Some x → (g : List ℕ) × (slice_get groups m ≡ Some g)
    pub of : (m : ℕ) (g : List ℕ) → slice_get groups m ≡ Some g
        → (x : MissingInterval) × (slice_get missing m ≡ Some x) × ((i : ℕ) → Has g i ↔ IntervalContentHas s j x.owner x.number n i)
        × InOrder (λ i k. i < k) g

-- each list of contents has its groups
pub groups_of : (s : Sizes) (j : List Event) (n : ℕ) (missing : List MissingInterval)
    → ((x : MissingInterval) → Has missing x → IsIntervalContent s j x.owner x.number n x.words)
    → (groups : List (List ℕ)) × AreGroups s j n missing groups
groups_of s j n [] contents = (
  [],
  record
      { records_of = none; group_of = λ m x h. absurd (none-some x h); of = λ m g h. absurd (none-some g h) },
)
groups_of s j n (y ∷ missing) contents =
    go (contents y (0, refl)) (groups_of s j n missing (λ x h. contents x (suc h.0, h.1)))
  where
    go : IsIntervalContent s j y.owner y.number n y.words → ((groups : List (List ℕ)) × AreGroups s j n missing groups)
        → (groups : List (List ℕ)) × AreGroups s j n (y ∷ missing) groups
    go content rest = (
      content.places
          ∷ rest.0,
      record { records_of = more content.sums rest.1.records_of; group_of = group_of; of = of },
    )
      where
        group_of : (m : ℕ) (x : MissingInterval) → slice_get (y ∷ missing) m ≡ Some x
            → (g : List ℕ) × (slice_get (content.places ∷ rest.0) m ≡ Some g)
        group_of zero x h = (content.places, refl)
        group_of (suc m) x h = rest.1.group_of m x h

        of : (m : ℕ) (g : List ℕ) → slice_get (content.places ∷ rest.0) m ≡ Some g
            → (x : MissingInterval) × (slice_get (y ∷ missing) m ≡ Some x)
            × ((i : ℕ) → Has g i ↔ IntervalContentHas s j x.owner x.number n i) × InOrder (λ i k. i < k) g
        of zero g h =
            let P : List ℕ → Type 0 =
            λ f. ((i : ℕ) → Has f i ↔ IntervalContentHas s j y.owner y.number n i) × InOrder (λ i k. i < k) f in
            let r = subst P (same_Some content.places g h) (content.each, content.rising) in
            (y, refl, r.0, r.1)
        of (suc m) g h = rest.1.of m g h

-- the places of all groups are the gap
pub groups_gap : (s : Sizes) (j : List Event) (p n : ℕ) (missing : List MissingInterval) (groups : List (List ℕ))
    → AreMissingIntervals s j p n missing → AreGroups s j n missing groups → (i : ℕ) → Has (concat groups) i ↔ InGap s j p n i
groups_gap s j p n missing groups are of i = (λ h. there ((joined_lists_have groups i).0 h), back)
  where
    there : ((g : List ℕ) × Has groups g × Has g i) → InGap s j p n i
    there h =
        let r = of.of h.1.0 h.0 h.1.1 in
        let x = (r.2 i).0 h.2 in
        let stored = (are.each r.0.owner r.0.number).0 (r.0, (h.1.0, r.1), refl, refl) in
        missing_gaps_whole s j p n (r.0.owner, r.0.number, stored.0) i stored.1 x

    back : InGap s j p n i → Has (concat groups) i
    back g =
        let w = g.store in
        let m = (are.each w.by (event_interval_at j w.by i)).1 (w.address, (i, w.value, w.does, g, refl)) in
        let f = of.group_of m.1.0 m.0 m.1.1 in
        let r = of.of m.1.0 f.0 f.1 in
        let same : r.0 ≡ m.0 = same_Some r.0 m.0 (sym r.1 ∙ m.1.1) in
        let P : MissingInterval → Type 0 = λ x. IntervalContentHas s j x.owner x.number n i in
        let Q : ℕ → ℕ → Type 0 = λ q k. IntervalContentHas s j q k n i in
        let here : IntervalContentHas s j m.0.owner m.0.number n i =
        subst₂ Q (sym m.2) (sym m.3) (w.address, w.value, w.does, w.in_page, refl) in
        (joined_lists_have groups i).1 (f.0, (m.1.0, f.1), (r.2 i).1 (subst P (sym same) here))

-- a store of a closed interval, with its closing event
pub group_store_closed : (s : Sizes) {j : List Event} {q k n i c : ℕ} → IntervalContentHas s j q k n i → ClosesAt j q c
    → event_interval_at j q c ≡ k → IsClosingPlace j i c
group_store_closed s {j = j} {q = q} {i = i} {c = c} x closes number =
    interval_number_closes j q i c (Store x.0 x.1) x.2 (λ h. true≢false (sym h)) closes (x.4 ∙ sym number)

-- of two intervals in closing order, the stores of the second don't happen before those of the first
pub groups_extend : (s : Sizes) (j : List Event) (n : ℕ) (missing : List MissingInterval) (groups : List (List ℕ))
    → ((x : MissingInterval) → Has missing x → IsMissingIntervalPlace j x.owner x.number x.place) → MissingIntervalsInOrder missing
    → AreGroups s j n missing groups → IsOnce (concat groups) × InOrder (λ i k. ¬ HappensBefore j k i) (concat groups)
groups_extend s j n missing groups placed order of = (
  joined_lists_in_order (λ (i k : ℕ). i ≢ k) groups
      (λ g h x y a b less at to same. let r = of.of h.0 g h.1 in let up = r.3 x y a b less at to in omega arith)
      apart,
  joined_lists_in_order (λ i k. ¬ HappensBefore j k i) groups (λ g h x y a b less at to before. let r = of.of h.0 g h.1 in
      let up = r.3 x y a b less at to in let down = happens_before_goes_forward j before in omega arith)
      extends,
)
  where
    pair : (x y : ℕ) (g h : List ℕ) → x < y → slice_get groups x ≡ Some g → slice_get groups y ≡ Some h → (a b : ℕ)
        → Has g a → Has h b → (c : ℕ) × (d : ℕ) × IsClosingPlace j a c × IsClosingPlace j b d × (c < d)
    pair x y g h less at to a b in_g in_h =
        let r = of.of x g at in
        let t = of.of y h to in
        let c = placed r.0 (x, r.1) in
        let d = placed t.0 (y, t.1) in (
          c.at,
          d.at,
          group_store_closed s ((r.2 a).0 in_g) c.closes c.number,
          group_store_closed s ((t.2 b).0 in_h) d.closes d.number,
          closing_rank_before c d (order x y r.0 t.0 less r.1 t.1),
        )

    apart : InOrder (λ (g h : List ℕ). (a b : ℕ) → Has g a → Has h b → a ≢ b) groups
    apart x y g h less at to a b in_g in_h same =
        let z = pair x y g h less at to a b in_g in_h in
        let e = interval_closer_once j a z.0 z.1 z.2 (let P : ℕ → Type 0 = λ m. IsClosingPlace j m z.1 in subst P (sym same) z.3) in
        let before = z.4 in
        omega arith

    extends : InOrder (λ (g h : List ℕ). (a b : ℕ) → Has g a → Has h b → ¬ HappensBefore j b a) groups
    extends x y g h less at to a b in_g in_h =
        let z = pair x y g h less at to a b in_g in_h in interval_closer_extends j a b z.0 z.1 z.2 z.3 (inl z.4)
