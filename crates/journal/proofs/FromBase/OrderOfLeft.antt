-- Happens-before and pasts of what is left, read from the history or from the base.
use Rattle.std.proofs.Common.{◌≡◌, ℕ, ◌+◌, ◌-◌, ◌<◌, inl, inr, ◌↔◌, List, ◌++◌, length, take, Bool, sym, ap, subst, subst₂, ◌∙◌, refl, arith}
use Rattle.std.proofs.Math.Seq.{take-append-add}
use Rattle.journal.specs.declared.event.Event.{Event}
use Rattle.journal.specs.declared.event.Kind.{Kind}
use Rattle.journal.specs.Events.{EventAt, event_count, event_arrives, event_departs}
use Rattle.journal.specs.HappensBeforeEdges.{Link, Edge, HappensBefore}
use Rattle.journal.specs.HappensBeforeEdges.Link.{same, lets, meets}
use Rattle.journal.specs.HappensBeforeEdges.HappensBefore.{edge, on}
use Rattle.journal.specs.Pasts.{UpTo, InPast}
use Rattle.journal.specs.Base.{Base, base_arrivals_cut}
use Rattle.journal.specs.HappensBeforeFromBase.{HappensBeforeLinkFromBase, HappensBeforeEdgeFromBase, HappensBeforeFromBase, UpToFromBase, InPastFromBase}
use Rattle.journal.specs.HappensBeforeFromBase.HappensBeforeLinkFromBase.{same as same_from, lets as lets_from, meets as meets_from}
use Rattle.journal.specs.HappensBeforeFromBase.HappensBeforeFromBase.{edge as edge_base, on as on_base}
use Rattle.base.proofs.SlicesAndCounts.{slice_get-append_right, slice_append_cases}
use Rattle.journal.proofs.Order.EventPlacesAndCounts.{event_place_behind, event_count-append}
use Rattle.journal.proofs.Order.HappensBefore.{happens_before_goes_forward}

-- what stands behind what was cut off stands in what is left
pub order_of_left_at : (c j : List Event) (m : ℕ) (e : Event) → EventAt (c ++ j) (length c + m) e → EventAt j m e
order_of_left_at c j m e h = sym (slice_get-append_right c j m) ∙ h

-- a count up to a place of what is left
pub order_of_left_count : (is : Kind → Bool) (c j : List Event) (i q : ℕ)
    → event_count is (take (length c + i) (c ++ j)) q ≡ event_count is c q + event_count is (take i j) q
order_of_left_count is c j i q =
    ap (λ (xs : List Event). event_count is xs q) (take-append-add c j i) ∙ event_count-append is c (take i j) q

-- whoever did what is left has arrived so often in what was cut off, and departed as often but for the base's arrival
pub record IsEvenOrderOfLeft (b : Base) (c j : List Event) (n : ℕ) : Type 0 where
  pub arrivals : (m : ℕ) (e : Event) → EventAt j m e → event_count event_arrives c e.processor ≡ n
  pub departures : (m : ℕ) (e : Event) → EventAt j m e → event_count event_departs c e.processor + base_arrivals_cut b ≡ n

-- happens-before from a base goes forward
pub order_of_left_goes_forward : (b : Base) (j : List Event) {i k : ℕ} → HappensBeforeFromBase b j i k → i < k
order_of_left_goes_forward b j (edge_base e) = e.before
order_of_left_goes_forward b j (on_base h e) = let lt = order_of_left_goes_forward b j h in let more = e.before in omega arith

module _ (b : Base) (c j : List Event) (n : ℕ) (even : IsEvenOrderOfLeft b c j n) where
  order_of_left_link : (i k : ℕ) (e f : Event) → EventAt j i e → EventAt j k f → Link (c ++ j) (length c + i) (length c + k) e f
      → HappensBeforeLinkFromBase b j i k e f
  order_of_left_link i k e f at to (same s) = same_from s
  order_of_left_link i k e f at to (lets l) = lets_from l
  order_of_left_link i k e f at to (meets m) =
      let x = order_of_left_count event_arrives c j i e.processor in
      let y = order_of_left_count event_departs c j k f.processor in
      let z = even.arrivals i e at in
      let w = even.departures k f to in
      let is = m.episode in
      meets_from (record { arrives = m.arrives; departs = m.departs; episode = omega arith })

  order_of_left_link_back : (i k : ℕ) (e f : Event) → EventAt j i e → EventAt j k f → HappensBeforeLinkFromBase b j i k e f
      → Link (c ++ j) (length c + i) (length c + k) e f
  order_of_left_link_back i k e f at to (same_from s) = same s
  order_of_left_link_back i k e f at to (lets_from l) = lets l
  order_of_left_link_back i k e f at to (meets_from m) =
      let x = order_of_left_count event_arrives c j i e.processor in
      let y = order_of_left_count event_departs c j k f.processor in
      let z = even.arrivals i e at in
      let w = even.departures k f to in
      let is = m.episode in
      meets (record { arrives = m.arrives; departs = m.departs; episode = omega arith })

  order_of_left_edge : (i k : ℕ) → Edge (c ++ j) (length c + i) (length c + k) → HappensBeforeEdgeFromBase b j i k
  order_of_left_edge i k e =
      let at = order_of_left_at c j i e.from e.from_at in
      let to = order_of_left_at c j k e.to e.to_at in
      let before = e.before in
      record {
        before = omega arith;
        from = e.from;
        to = e.to;
        from_at = at;
        to_at = to;
        link = order_of_left_link i k e.from e.to at to e.link;
      }

  order_of_left_edge_back : (i k : ℕ) → HappensBeforeEdgeFromBase b j i k → Edge (c ++ j) (length c + i) (length c + k)
  order_of_left_edge_back i k e =
      let before = e.before in
      record {
        before = omega arith;
        from = e.from;
        to = e.to;
        from_at = event_place_behind c j i e.from e.from_at;
        to_at = event_place_behind c j k e.to e.to_at;
        link = order_of_left_link_back i k e.from e.to e.from_at e.to_at e.link;
      }

  order_of_left_before_at : {x y : ℕ} → HappensBefore (c ++ j) x y → (i k : ℕ) → x ≡ length c + i → y ≡ length c + k
      → HappensBeforeFromBase b j i k
  order_of_left_before_at (edge e) i k is to = edge_base (order_of_left_edge i k (subst₂ (Edge (c ++ j)) is to e))
  order_of_left_before_at (on {m = m} h e) i k is to =
      let lt = happens_before_goes_forward (c ++ j) h in
      let between : m ≡ length c + (m - length c) = omega arith in
      on_base (order_of_left_before_at h i (m - length c) is between)
      (order_of_left_edge (m - length c) k (subst₂ (Edge (c ++ j)) between to e))

  -- the order of what is left is the same, read from the history or from the base
  pub order_of_left_before : (i k : ℕ) → HappensBefore (c ++ j) (length c + i) (length c + k) → HappensBeforeFromBase b j i k
  order_of_left_before i k h = order_of_left_before_at h i k refl refl

  pub order_of_left_before_back : {i k : ℕ} → HappensBeforeFromBase b j i k → HappensBefore (c ++ j) (length c + i) (length c + k)
  order_of_left_before_back (edge_base e) = edge (order_of_left_edge_back _ _ e)
  order_of_left_before_back (on_base h e) = on (order_of_left_before_back h) (order_of_left_edge_back _ _ e)

  pub order_of_left_same : (i k : ℕ) → HappensBefore (c ++ j) (length c + i) (length c + k) ↔ HappensBeforeFromBase b j i k
  order_of_left_same i k = (order_of_left_before i k, order_of_left_before_back)

  order_of_left_up_to : (i k : ℕ) → UpTo (c ++ j) (length c + k) (length c + i) → UpToFromBase b j k i
  order_of_left_up_to i k (inl is) = inl (omega arith)
  order_of_left_up_to i k (inr h) = inr (order_of_left_before i k h)

  order_of_left_up_to_back : (i k : ℕ) → UpToFromBase b j k i → UpTo (c ++ j) (length c + k) (length c + i)
  order_of_left_up_to_back i k (inl is) = inl (omega arith)
  order_of_left_up_to_back i k (inr h) = inr (order_of_left_before_back h)

  -- and so are pasts
  pub order_of_left_past : (p i : ℕ) → InPast (c ++ j) p (length c + i) → InPastFromBase b j p i
  order_of_left_past p i x = elim (slice_append_cases c j x.own x.event x.at) [
    | inl cut ↦ absurd (too_early cut.0 x.reaches)
    | inr left ↦ record {
      own = left.0;
      event = x.event;
      at = left.2;
      mine = x.mine;
      reaches = order_of_left_up_to i left.0 (subst (λ m. UpTo (c ++ j) m (length c + i)) left.1 x.reaches);
    }
  ]
    where
      too_early : x.own < length c → UpTo (c ++ j) x.own (length c + i) → ⊥
      too_early lt (inl is) = omega arith
      too_early lt (inr h) = let before = happens_before_goes_forward (c ++ j) h in omega arith

  pub order_of_left_past_back : (p i : ℕ) → InPastFromBase b j p i → InPast (c ++ j) p (length c + i)
  order_of_left_past_back p i x =
      record {
        own = length c + x.own;
        event = x.event;
        at = event_place_behind c j x.own x.event x.at;
        mine = x.mine;
        reaches = order_of_left_up_to_back i x.own x.reaches;
      }
