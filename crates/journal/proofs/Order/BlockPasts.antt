-- What the events of a processor's open block have as their past.
use Rattle.std.proofs.Common.{◌≡◌, ℕ, ◌+◌, ◌<◌, ◌≤◌, ◌⊎◌, inl, inr, ◌↔◌, List, [], ◌∷◌, ◌++◌, length, false, subst, sym, refl, append_assoc, append-nil, length-append, arith}
use Rattle.std.proofs.lemmas.Bool.{cases_lt}
use Rattle.journal.specs.declared.event.Event.{Event}
use Rattle.journal.specs.Events.{event_takes}
use Rattle.journal.specs.HappensBeforeEdges.{HappensBefore}
use Rattle.journal.specs.Pasts.{InPast}
use Rattle.journal.proofs.OwnBlocks.{IsBlock}
use Rattle.base.proofs.SlicesAndCounts.{slice_push_induction}
use Rattle.journal.proofs.Order.EventPlacesAndCounts.{event_place_longer, event_place_at_end}
use Rattle.journal.proofs.Order.HappensBefore.{happens_before_extension}
use Rattle.journal.proofs.Order.IntoPast.{into_past_own_push, into_past_reaches_new}

-- a front of a block is one
pub block_pasts_front : (p : ℕ) (block es : List Event) → IsBlock p (block ++ es) → IsBlock p block
block_pasts_front p block es is k e at = is k e (event_place_longer block es k e at)

-- the last event of a block
pub block_pasts_last : (p : ℕ) (block : List Event) (e : Event) → IsBlock p (block ++ e ∷ [])
    → (e.processor ≡ p) × (event_takes e.kind ≡ false)
block_pasts_last p block e is = is (length block) e (event_place_at_end block e)

-- the past after a block is the past before it, and the block
pub block_past : (j block : List Event) (p i : ℕ) → IsBlock p block
    → InPast (j ++ block) p i ↔ (InPast j p i ⊎ ((length j ≤ i) × (i < length j + length block)))
block_past j block p i =
    slice_push_induction
    (λ es. IsBlock p es → InPast (j ++ es) p i ↔ (InPast j p i ⊎ ((length j ≤ i) × (i < length j + length es))))
    start step block
  where
    none : InPast j p i ⊎ ((length j ≤ i) × (i < length j + 0)) → InPast j p i
    none (inl x) = x
    none (inr b) = absurd (omega (arith, b.0, b.1))

    start : IsBlock p [] → InPast (j ++ []) p i ↔ (InPast j p i ⊎ ((length j ≤ i) × (i < length j + 0)))
    start is = rw append-nil ((λ x. inl x), none)

    more : (es : List Event) (e : Event)
        → (InPast (j ++ es) p i ↔ (InPast j p i ⊎ ((length j ≤ i) × (i < length j + length es))))
        → (InPast ((j ++ es) ++ e ∷ []) p i ↔ (InPast (j ++ es) p i ⊎ (i ≡ length (j ++ es))))
        → (InPast ((j ++ es) ++ e ∷ []) p i
        ↔ (InPast j p i ⊎ ((length j ≤ i) × (i < length j + length (es ++ e ∷ [])))))
    more es e ih own =
        let long = length-append j es in
        let longer = length-append es (e ∷ []) in (
          (λ x. elim (own.0 x) [
            | inl y ↦ elim (ih.0 y)
                [ inl z ↦ inl z | inr b ↦ inr (b.0, omega (arith, b.1, longer)) ]
            | inr is ↦ inr (omega (arith, is, long), omega (arith, is, long, longer))
          ]),
          (λ y. elim y [
            | inl z ↦ own.1 (inl (ih.1 (inl z)))
            | inr b ↦ elim (cases_lt i (length j + length es)) [
              | inl lt ↦ own.1 (inl (ih.1 (inr (b.0, lt))))
              | inr le ↦ own.1 (inr (omega (arith, b.1, le, long, longer)))
            ]
          ]),
        )

    step : (es : List Event) (e : Event)
        → (IsBlock p es → InPast (j ++ es) p i ↔ (InPast j p i ⊎ ((length j ≤ i) × (i < length j + length es))))
        → IsBlock p (es ++ e ∷ [])
        → InPast (j ++ (es ++ e ∷ [])) p i
        ↔ (InPast j p i ⊎ ((length j ≤ i) × (i < length j + length (es ++ e ∷ []))))
    step es e ih is =
        let l = block_pasts_last p es e is in
        let P : ℕ → Type 0 =
        λ q. InPast ((j ++ es) ++ e ∷ []) q i ↔ (InPast (j ++ es) q i ⊎ (i ≡ length (j ++ es))) in
        let own = subst P l.0 (into_past_own_push (j ++ es) e i l.1) in
        rw append_assoc at (more es e (ih (block_pasts_front p es (e ∷ []) is)) own)

-- what happens before an event of a block is the past before the block, and the block up to the event
pub block_pasts_reaches : (j block : List Event) (p i m : ℕ) → IsBlock p block → m < length block
    → HappensBefore (j ++ block) i (length j + m) ↔ (InPast j p i ⊎ ((length j ≤ i) × (i < length j + m)))
block_pasts_reaches j block p i m =
    slice_push_induction (λ es. IsBlock p es → m < length es
    → HappensBefore (j ++ es) i (length j + m) ↔ (InPast j p i ⊎ ((length j ≤ i) × (i < length j + m))))
    (λ is h. absurd (omega arith)) step block
  where
    now : (es : List Event) (e : Event) → IsBlock p (es ++ e ∷ []) → m ≡ length es
        → HappensBefore ((j ++ es) ++ e ∷ []) i (length j + m)
        ↔ (InPast j p i ⊎ ((length j ≤ i) × (i < length j + m)))
    now es e is at =
        let l = block_pasts_last p es e is in
        let P : ℕ → Type 0 = λ q. HappensBefore ((j ++ es) ++ e ∷ []) i (length (j ++ es)) ↔ InPast (j ++ es) q i in
        let new = subst P l.0 (into_past_reaches_new (j ++ es) e i l.1) in
        let past = block_past j es p i (block_pasts_front p es (e ∷ []) is) in
        let long = length-append j es in
        let here : length (j ++ es) ≡ length j + m = omega arith in
        let Q : ℕ → Type 0 = λ x. HappensBefore ((j ++ es) ++ e ∷ []) i x in
        let R : ℕ → Type 0 = λ x. InPast j p i ⊎ ((length j ≤ i) × (i < length j + x)) in (
          (λ h. subst R (sym at) (past.0 (new.0 (subst Q (sym here) h)))),
          (λ y. subst Q here (new.1 (past.1 (subst R at y)))),
        )

    step : (es : List Event) (e : Event)
        → (IsBlock p es → m < length es
        → HappensBefore (j ++ es) i (length j + m) ↔ (InPast j p i ⊎ ((length j ≤ i) × (i < length j + m))))
        → IsBlock p (es ++ e ∷ []) → m < length (es ++ e ∷ [])
        → HappensBefore (j ++ (es ++ e ∷ [])) i (length j + m)
        ↔ (InPast j p i ⊎ ((length j ≤ i) × (i < length j + m)))
    step es e ih is h =
        let long = length-append j es in
        let longer = length-append es (e ∷ []) in
        let one : length (e ∷ []) ≡ 1 = refl in
        let done : HappensBefore ((j ++ es) ++ e ∷ []) i (length j + m)
        ↔ (InPast j p i ⊎ ((length j ≤ i) × (i < length j + m))) = elim (cases_lt m (length es)) [
          | inl lt ↦ (let same = happens_before_extension (j ++ es) (e ∷ []) i (length j + m) (omega arith) in
              let old = ih (block_pasts_front p es (e ∷ []) is) lt in
              ((λ b. old.0 (same.0 b)), (λ y. same.1 (old.1 y))))
          | inr le ↦ now es e is (omega arith)
        ] in
        rw append_assoc at done
