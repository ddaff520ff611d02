-- What each event does to the cuts of processors.
use Rattle.std.proofs.Common.{◌≡◌, ◌≢◌, ℕ, ◌+◌, ◌<◌, ◌≤◌, inl, inr, ◌↔◌, List, [], ◌∷◌, ◌++◌, length, length-append, false, subst, sym, refl, ap, ◌∙◌, arith}
use Rattle.std.proofs.lemmas.Bool.{cases_eq, cases_lt}
use Rattle.std.proofs.lemmas.Option.{slice_get_within}
use Rattle.base.proofs.SlicesAndCounts.{slice_push_cases}
use Rattle.journal.specs.declared.event.Event.{Event}
use Rattle.journal.specs.Events.{EventAt, event_takes}
use Rattle.journal.specs.Pasts.{InPast, UpTo}
use Rattle.journal.specs.Brings.{Brings}
use Rattle.journal.proofs.Order.EventPlacesAndCounts.{event_place_inside, event_place_at_end}
use Rattle.journal.proofs.Order.IntoPast.{into_past_push, into_past_reaches_push, into_past_own, into_past_own_push, into_past_within, into_past_others}
use Rattle.judge.specs.Cuts.{IsCutIn, IsCutOf}
use Rattle.judge.proofs.cuts.CutsOfPlaces.{IsRaisedCut, raised_cut_within}

-- before the first event zeros are the cut of each processor
pub pushed_cut_start : (p : ℕ) (t : ℕ → ℕ) → ((q : ℕ) → t q ≡ 0) → IsCutOf [] p t
pushed_cut_start p t zeros = record {
  covers = λ i e at apart. (let lt = slice_get_within [] i e at in absurd (omega arith));
  within = λ q. (let zero = zeros q in omega arith);
}

-- the event at a history's end is the one that was pushed
pushed_cut_one : (e f : Event) (p m : ℕ) → EventAt (e ∷ []) m f → e.processor ≢ p → f.processor ≢ p
pushed_cut_one e f p m at isnt same =
    elim (slice_push_cases [] e m f at)
    [ inl old ↦ absurd (cc (old.1)) | inr new ↦ isnt (ap (λ x. x.processor) new.1 ∙ same) ]

-- others' events leave a processor's cut
pub pushed_cut_others : (j : List Event) (e : Event) (p : ℕ) (t u : ℕ → ℕ) → e.processor ≢ p → ((q : ℕ) → u q ≡ t q)
    → IsCutOf j p t
    → IsCutOf (j ++ e ∷ []) p u
pushed_cut_others j e p t u away same a = record { covers = covers; within = within }
  where
    past : (i : ℕ) → InPast (j ++ e ∷ []) p i ↔ InPast j p i
    past i = into_past_others j (e ∷ []) p i (λ m f at. pushed_cut_one e f p m at away)

    covers : (i : ℕ) (f : Event) → EventAt (j ++ e ∷ []) i f → f.processor ≢ p
        → InPast (j ++ e ∷ []) p i ↔ (i < u f.processor)
    covers i f at apart = let is = same f.processor in elim (slice_push_cases j e i f at) [
      | inl old ↦
          (let here = a.covers i f old.1 apart in
          (λ h. (let lt = here.0 ((past i).0 h) in omega arith), λ lt. (past i).1 (here.1 (omega arith))))
      | inr new ↦
          (let at_end = new.0 in
          let top = a.within f.processor in
          (λ h. (let lt = into_past_within j p i ((past i).0 h) in absurd (omega arith)), λ lt. absurd (omega arith)))
    ]

    within : (q : ℕ) → u q ≤ length (j ++ e ∷ [])
    within q = let is = same q in let top = a.within q in let sum = length-append j (e ∷ []) in omega arith

-- an event raises its processor's cut to that of what it brings
pub pushed_cut_taking : {t u v : ℕ → ℕ} → (j : List Event) (e : Event) → IsRaisedCut t u v
    → IsCutOf j e.processor t → IsCutIn j (Brings j e.processor e.kind) u → IsCutOf (j ++ e ∷ []) e.processor v
pushed_cut_taking {t} {u} {v} j e raised a b = record { covers = covers; within = within }
  where
    covers : (i : ℕ) (f : Event) → EventAt (j ++ e ∷ []) i f → f.processor ≢ e.processor
        → InPast (j ++ e ∷ []) e.processor i ↔ (i < v f.processor)
    covers i f at apart = elim (slice_push_cases j e i f at) [
      | inl old ↦
          (let is = raised f.processor in
          let inside = old.0 in
          let known = a.covers i f old.1 apart in
          let brought = b.covers i f old.1 in (
            λ h. elim ((into_past_push j e i).0 h) [
              | inl end ↦ absurd (omega arith)
              | inr y ↦ elim y [
                | inl z ↦ (let lt = known.0 z in omega arith)
                | inr z ↦ (let lt = brought.0 z in omega arith)
              ]
            ],
            λ lt. elim (cases_lt i (t f.processor)) [
              | inl below ↦ (into_past_push j e i).1 (inr (inl (known.1 below)))
              | inr above ↦ (into_past_push j e i).1 (inr (inr (brought.1 (omega arith))))
            ],
          ))
      | inr new ↦ absurd (apart (ap (λ x. x.processor) (sym new.1)))
    ]

    within : (q : ℕ) → v q ≤ length (j ++ e ∷ [])
    within q =
        let top = raised_cut_within (length j) t u v raised a.within b.within q in
        let sum = length-append j (e ∷ []) in
        omega arith

-- an event that takes nothing leaves its processor's cut, but for the own entry
pub pushed_cut_own : (j : List Event) (e : Event) (t v : ℕ → ℕ) → event_takes e.kind ≡ false → ((q : ℕ) → q ≢ e.processor
    → v q ≡ t q)
    → v e.processor ≤ length j + 1 → IsCutOf j e.processor t → IsCutOf (j ++ e ∷ []) e.processor v
pushed_cut_own j e t v quiet same own a = record { covers = covers; within = within }
  where
    covers : (i : ℕ) (f : Event) → EventAt (j ++ e ∷ []) i f → f.processor ≢ e.processor
        → InPast (j ++ e ∷ []) e.processor i ↔ (i < v f.processor)
    covers i f at apart = elim (slice_push_cases j e i f at) [
      | inl old ↦
          (let is = same f.processor apart in
          let inside = old.0 in
          let known = a.covers i f old.1 apart in (
            λ h. elim ((into_past_own_push j e i quiet).0 h) [
              | inl y ↦ (let lt = known.0 y in omega arith)
              | inr end ↦ absurd (omega arith)
            ],
            λ lt. (into_past_own_push j e i quiet).1 (inl (known.1 (omega arith))),
          ))
      | inr new ↦ absurd (apart (ap (λ x. x.processor) (sym new.1)))
    ]

    within : (q : ℕ) → v q ≤ length (j ++ e ∷ [])
    within q = let sum = length-append j (e ∷ []) in elim (cases_eq q e.processor) [
      | inl is ↦ subst (λ x. v x ≤ length (j ++ e ∷ [])) (sym is) (omega arith)
      | inr isnt ↦ (let is = same q isnt in let top = a.within q in omega arith)
    ]

-- with its own entry past its event, a processor's cut is that of all up to this event
pub pushed_cut_handed : (j : List Event) (e : Event) (t : ℕ → ℕ) → t e.processor ≡ length j + 1
    → IsCutOf (j ++ e ∷ []) e.processor t
    → IsCutIn (j ++ e ∷ []) (UpTo (j ++ e ∷ []) (length j)) t
pushed_cut_handed j e t own a = record { covers = covers; within = a.within }
  where
    there : (i : ℕ) → UpTo (j ++ e ∷ []) (length j) i → InPast (j ++ e ∷ []) e.processor i
    there i h = record { own = length j; event = e; at = event_place_at_end j e; mine = refl; reaches = h }

    back : (i : ℕ) → InPast (j ++ e ∷ []) e.processor i → UpTo (j ++ e ∷ []) (length j) i
    back i x = elim ((into_past_push j e i).0 x) [ inl is ↦ inl is | inr y ↦ inr ((into_past_reaches_push j e i).1 y) ]

    covers : (i : ℕ) (f : Event) → EventAt (j ++ e ∷ []) i f → UpTo (j ++ e ∷ []) (length j) i ↔ (i < t f.processor)
    covers i f at = elim (cases_eq f.processor e.processor) [
      | inl mine ↦
          (let lt = event_place_inside (j ++ e ∷ []) i f at in
          let sum = length-append j (e ∷ []) in
          let below : i < t f.processor = subst (λ x. i < t x) (sym mine) (omega arith) in
          (λ h. below, λ _. back i (into_past_own (j ++ e ∷ []) e.processor i f at mine)))
      | inr apart ↦
          (let known = a.covers i f at apart in
          (λ h. known.0 (there i h), λ lt. back i (known.1 lt)))
    ]
