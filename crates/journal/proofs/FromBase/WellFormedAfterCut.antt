-- A journal is well formed from a base exactly where the history is.
use Rattle.std.proofs.Common.{◌≡◌, ℕ, ◌+◌, ◌<◌, ◌⊎◌, inl, inr, List, ◌++◌, length, take, sym, ap, subst, arith}
use Rattle.std.proofs.Math.Seq.{take-append-add}
use Rattle.std.proofs.lemmas.List.{take-append-le}
use Rattle.journal.specs.declared.event.Event.{Event}
use Rattle.journal.specs.declared.event.Kind.{Kind}
use Rattle.journal.specs.declared.event.Kind.TheVariants.{Ask, Acquire, Release, Arrive, Depart, Set, Watch, Await}
use Rattle.journal.specs.DidEvent.{event}
use Rattle.journal.specs.Sizes.{Sizes, addresses}
use Rattle.journal.specs.Events.{event_count, event_arrives, event_departs}
use Rattle.journal.specs.WellFormed.{Does, LastIs, Holds, WellFormedGrant, WellFormedAllArrived, WellFormedAllows, WellFormedNext, WellFormed}
use Rattle.journal.specs.Base.{Base, no_base}
use Rattle.journal.specs.WellFormedFromBase.{IsAwayFromBase, HoldsFromBase, IsSetFromBase, LastFromBase, WellFormedGrantFromBase, WellFormedAllArrivedFromBase, WellFormedAllowsFromBase, WellFormedNextFromBase, WellFormedFromBase}
use Rattle.journal.specs.EpisodeBases.{IsEpisodeBaseOf}
use Rattle.base.proofs.SlicesAndCounts.{slice_append_cases}
use Rattle.journal.proofs.Order.EventPlacesAndCounts.{event_place_inside, event_place_longer, event_place_behind, event_count-append}
use Rattle.journal.proofs.Journals.WellFormedStays.{well_formed_stays_last_unique, well_formed_stays_last_longer}
use Rattle.journal.proofs.FromBase.BaseAppend.{base_append_holds_uncut, base_append_set_uncut, base_append_holds, base_append_both_holds, base_append_set, base_append_both_set}
use Rattle.journal.proofs.FromBase.CutBeforeLeft.{CutBeforeLeftCase, cut_before_left_counts}
use Rattle.journal.proofs.FromBase.CutBeforeLeft.CutBeforeLeftCase.{none, some}

-- p's last event of what is left is its last of all
pub well_formed_after_cut_last_behind : (c j : List Event) (p m : ℕ) (k : Kind) → LastIs j p m k → LastIs (c ++ j) p (length c + m) k
well_formed_after_cut_last_behind c j p m k x = record {
  does = event_place_behind c j m (event p k) x.does;
  last =
      λ n f lt at. elim (slice_append_cases c j n f at)
      [ inl cut ↦ absurd (omega (arith, cut.0)) | inr left ↦ x.last left.0 f (omega (arith, left.1)) left.2 ];
}

-- p's last event is one of what is left, or one of what was cut off and p has done nothing since
pub well_formed_after_cut_last_split : (c j : List Event) (p i : ℕ) (k : Kind) → LastIs (c ++ j) p i k
    → ((i < length c) × LastIs c p i k × IsAwayFromBase j p) ⊎ ((m : ℕ) × (i ≡ length c + m) × LastIs j p m k)
well_formed_after_cut_last_split c j p i k x = elim (slice_append_cases c j i (event p k) x.does) [
  | inl cut ↦ inl (
    cut.0,
    record { does = cut.1; last = λ m f lt at. x.last m f lt (event_place_longer c j m f at) },
    λ m f at.
        x.last (length c + m) f (omega (arith, cut.0)) (event_place_behind c j m f at),
  )
  | inr left ↦ inr (
    left.0,
    left.1,
    record {
      does = left.2;
      last = λ m f lt at. x.last (length c + m) f (omega (arith, left.1)) (event_place_behind c j m f at);
    },
  )
]

-- where an episode ends, every last event is an arrival
pub well_formed_after_cut_last_arrives : (s : Sizes) (c : List Event) (b : Base) → CutBeforeLeftCase s.processors b c → WellFormed s c
    → (p i : ℕ) (k : Kind) → LastIs c p i k → k ≡ Arrive
well_formed_after_cut_last_arrives s c b (none is arrived_is cut) well p i k x =
    absurd (let lt = event_place_inside c i (event p k) x.does in let long = ap (λ (xs : List Event). length xs) is in
    omega arith)
well_formed_after_cut_last_arrives s c b (some n arrived_is cut x) well p i k last =
    let ends = x.last p (well i (event p k) last.does).processor in (well_formed_stays_last_unique c p i ends.0 k Arrive last ends.1).1

-- what was cut off is well formed, ends an episode or is nothing, and the base is what it leaves
module _ (s : Sizes) (c : List Event) (b : Base) (well : WellFormed s c) (sort : CutBeforeLeftCase s.processors b c)
    (base : IsEpisodeBaseOf s.processors (addresses s) c b) where
  -- who holds a lock
  pub well_formed_after_cut_holds : (j : List Event) (p l : ℕ) → Holds (c ++ j) p l → HoldsFromBase b j p l
  well_formed_after_cut_holds j p l h = base_append_holds (no_base (addresses s)) b c j p l (base.after.holders p l) (inl h)

  pub well_formed_after_cut_holds_back : (j : List Event) (p l : ℕ) → HoldsFromBase b j p l → Holds (c ++ j) p l
  well_formed_after_cut_holds_back j p l h =
      (base_append_holds_uncut (addresses s) (c ++ j) p l).1
      (base_append_both_holds (no_base (addresses s)) b c j p l (base.after.holders p l) h)

  -- which flags are set
  pub well_formed_after_cut_set : (j : List Event) (f : ℕ) → (k q : ℕ) → Does (c ++ j) k q (Set f) → IsSetFromBase b j f
  well_formed_after_cut_set j f k q does = base_append_set (no_base (addresses s)) b c j f (base.after.flags f) (inr (k, q, does))

  pub well_formed_after_cut_set_back : (j : List Event) (f : ℕ) → IsSetFromBase b j f → (k q : ℕ) × Does (c ++ j) k q (Set f)
  well_formed_after_cut_set_back j f h =
      (base_append_set_uncut (addresses s) (c ++ j) f).1 (base_append_both_set (no_base (addresses s)) b c j f (base.after.flags f) h)

  -- what a processor did last
  pub well_formed_after_cut_last : (j : List Event) (p i : ℕ) (k : Kind) → LastIs (c ++ j) p i k → LastFromBase b j p k
  well_formed_after_cut_last j p i k x = elim (well_formed_after_cut_last_split c j p i k x) [ inl cut ↦ go sort cut | inr left ↦ inl (left.0, left.2) ]
    where
      go : CutBeforeLeftCase s.processors b c → (i < length c) × LastIs c p i k × IsAwayFromBase j p → LastFromBase b j p k
      go (none is arrived_is cut) y = absurd (let long = ap (λ (xs : List Event). length xs) is in omega (arith, y.0))
      go (some n arrived_is cut x) y = inr (well_formed_after_cut_last_arrives s c b sort well p i k y.1, cut, y.2)

  pub well_formed_after_cut_last_back : (j : List Event) (p : ℕ) (k : Kind) → p < s.processors → LastFromBase b j p k
      → (i : ℕ) × LastIs (c ++ j) p i k
  well_formed_after_cut_last_back j p k within (inl left) = (length c + left.0, well_formed_after_cut_last_behind c j p left.0 k left.1)
  well_formed_after_cut_last_back j p k within (inr away) = go sort
    where
      go : CutBeforeLeftCase s.processors b c → (i : ℕ) × LastIs (c ++ j) p i k
      go (none is arrived_is cut) = absurd (away.1 cut)
      go (some n arrived_is cut x) =
          let last = x.last p within in (
            last.0,
            subst (λ a. LastIs (c ++ j) p last.0 a) (sym away.0)
                (well_formed_stays_last_longer c j p last.0 Arrive away.2 last.1),
          )

  well_formed_after_cut_grant : (j : List Event) (i l : ℕ) → WellFormedGrant (c ++ j) (length c + i) l → WellFormedGrantFromBase b j i l
  well_formed_after_cut_grant j i l g =
      record {
        free = λ q h. g.free q (well_formed_after_cut_holds_back j q l h);
        first = λ k q lt last. g.first (length c + k) q (omega arith) (well_formed_after_cut_last_behind c j q k (Ask l) last);
      }

  well_formed_after_cut_grant_back : (j : List Event) (i l : ℕ) → WellFormedGrantFromBase b j i l → WellFormedGrant (c ++ j) (length c + i) l
  well_formed_after_cut_grant_back j i l g = record {
    free = λ q h. g.free q (well_formed_after_cut_holds j q l h);
    first =
        λ k q lt last. elim (well_formed_after_cut_last_split c j q k (Ask l) last) [
          | inl cut ↦ absurd
              (cc (well_formed_after_cut_last_arrives s c b sort well q k (Ask l) cut.1))
          | inr left ↦ g.first left.0 q (omega (arith, left.1)) left.2
        ];
  }

  well_formed_after_cut_arrived : (j : List Event) (p : ℕ) → p < s.processors → WellFormedAllArrived s (c ++ j) (event_count event_departs (c ++ j) p + 1)
      → WellFormedAllArrivedFromBase s b j (event_count event_departs j p + 1)
  well_formed_after_cut_arrived j p within all q in_q =
      let n = cut_before_left_counts s.processors b c sort in
      let x = all q in_q in
      let a = event_count-append event_arrives c j q in
      let d = event_count-append event_departs c j p in
      omega (arith, (n.1 q in_q).0, (n.1 p within).1)

  well_formed_after_cut_arrived_back : (j : List Event) (p : ℕ) → p < s.processors → WellFormedAllArrivedFromBase s b j (event_count event_departs j p + 1)
      → WellFormedAllArrived s (c ++ j) (event_count event_departs (c ++ j) p + 1)
  well_formed_after_cut_arrived_back j p within all q in_q =
      let n = cut_before_left_counts s.processors b c sort in
      let x = all q in_q in
      let a = event_count-append event_arrives c j q in
      let d = event_count-append event_departs c j p in
      omega (arith, (n.1 q in_q).0, (n.1 p within).1)

  -- what a processor is allowed to do
  pub well_formed_after_cut_allowed : (j : List Event) (p : ℕ) (k : Kind) → p < s.processors → WellFormedAllows s (c ++ j) p k
      → WellFormedAllowsFromBase s b j p k
  well_formed_after_cut_allowed j p (Ask l) within a = λ h. a (well_formed_after_cut_holds_back j p l h)
  well_formed_after_cut_allowed j p (Acquire l) within a = elim (well_formed_after_cut_last_split c j p a.0 (Ask l) a.1) [
    | inl cut ↦ absurd (cc (well_formed_after_cut_last_arrives s c b sort well p a.0 (Ask l) cut.1))
    | inr left ↦ (left.0, left.2, well_formed_after_cut_grant j left.0 l (subst (λ i. WellFormedGrant (c ++ j) i l) left.1 a.2))
  ]
  well_formed_after_cut_allowed j p (Release l) within a = well_formed_after_cut_holds j p l a
  well_formed_after_cut_allowed j p Depart within a = (well_formed_after_cut_last j p a.0 Arrive a.1, well_formed_after_cut_arrived j p within a.2)
  well_formed_after_cut_allowed j p (Await f) within a = elim (well_formed_after_cut_last_split c j p a.0 (Watch f) a.3) [
    | inl cut ↦ absurd (cc (well_formed_after_cut_last_arrives s c b sort well p a.0 (Watch f) cut.1))
    | inr left ↦ ((left.0, left.2), well_formed_after_cut_set j f a.1 a.2 a.4)
  ]
  well_formed_after_cut_allowed j p _ within a = tt

  pub well_formed_after_cut_allowed_back : (j : List Event) (p : ℕ) (k : Kind) → p < s.processors → WellFormedAllowsFromBase s b j p k
      → WellFormedAllows s (c ++ j) p k
  well_formed_after_cut_allowed_back j p (Ask l) within a = λ h. a (well_formed_after_cut_holds j p l h)
  well_formed_after_cut_allowed_back j p (Acquire l) within a =
      (length c + a.0, well_formed_after_cut_last_behind c j p a.0 (Ask l) a.1, well_formed_after_cut_grant_back j a.0 l a.2)
  well_formed_after_cut_allowed_back j p (Release l) within a = well_formed_after_cut_holds_back j p l a
  well_formed_after_cut_allowed_back j p Depart within a =
      let last = well_formed_after_cut_last_back j p Arrive within a.0 in (last.0, last.1, well_formed_after_cut_arrived_back j p within a.1)
  well_formed_after_cut_allowed_back j p (Await f) within a =
      let set = well_formed_after_cut_set_back j f a.1 in (length c + a.0.0, set.0, set.1, well_formed_after_cut_last_behind c j p a.0.0 (Watch f) a.0.1, set.2)
  well_formed_after_cut_allowed_back j p _ within a = tt

  -- and what may come next
  pub well_formed_after_cut_next : (j : List Event) (e : Event) → WellFormedNext s (c ++ j) e → WellFormedNextFromBase s b j e
  well_formed_after_cut_next j e may = record {
    processor = may.processor;
    in_range = may.in_range;
    answers = λ k last. (let x = well_formed_after_cut_last_back j e.processor k may.processor last in may.answers x.0 k x.1);
    allowed = well_formed_after_cut_allowed j e.processor e.kind may.processor may.allowed;
  }

  pub well_formed_after_cut_next_back : (j : List Event) (e : Event) → WellFormedNextFromBase s b j e → WellFormedNext s (c ++ j) e
  well_formed_after_cut_next_back j e may = record {
    processor = may.processor;
    in_range = may.in_range;
    answers = λ i k last. may.answers k (well_formed_after_cut_last j e.processor i k last);
    allowed = well_formed_after_cut_allowed_back j e.processor e.kind may.processor may.allowed;
  }

  -- so what is left is well formed from the base exactly where the history is
  pub well_formed_after_cut : (j : List Event) → WellFormed s (c ++ j) → WellFormedFromBase s b j
  well_formed_after_cut j all k e at =
      well_formed_after_cut_next (take k j) e
      (subst (λ xs. WellFormedNext s xs e) (take-append-add c j k) (all (length c + k) e (event_place_behind c j k e at)))

  pub well_formed_after_cut_back : (j : List Event) → WellFormedFromBase s b j → WellFormed s (c ++ j)
  well_formed_after_cut_back j left k e at = elim (slice_append_cases c j k e at) [
    | inl old ↦ subst (λ xs. WellFormedNext s xs e) (sym (take-append-le k c j (omega (arith, old.0)))) (well k e old.1)
    | inr new ↦ subst (λ n. WellFormedNext s (take n (c ++ j)) e) (sym new.1) (subst (λ xs. WellFormedNext s xs e)
        (sym (take-append-add c j new.0)) (well_formed_after_cut_next_back (take new.0 j) e (left new.0 e new.2)))
  ]
