-- Faults that are told, one outcome more.
use Rattle.std.proofs.Common.{ℕ, ◌≡◌, ◌≢◌, ◌⊎◌, Bool, true, false, cond, Option, Some, None, List, [], ◌∷◌, ◌++◌, Result, Ok, Err, inl, inr, length, refl, sym, ap, subst, ◌∙◌, arith}
use Rattle.std.proofs.lemmas.Option.{slice_get_within}
use Rattle.base.proofs.SlicesAndCounts.{slice_get-append_left, slice_get-last, slice_push_cases}
use Rattle.seats.specs.declared.fault.ProcessorFault.{ProcessorFault}
use Rattle.seats.specs.declared.fault.SeatFault.{SeatFault}
use Rattle.seats.specs.ToldFaults.{CameToFault, IsLeastToFault, IsToldFault, NoneFaulted, NoneFaultedSo, is_vain_wait, told_fault_then}

module _ {X : Type 0} (outcomes : List (Result X SeatFault)) (outcome : Result X SeatFault) where
  -- whoever faulted did before, or is the last
  came_to_fault_cases : (p : ℕ) (f : SeatFault) → CameToFault (outcomes ++ outcome ∷ []) p f
      → CameToFault outcomes p f ⊎ ((p ≡ length outcomes) × (outcome ≡ Err f))
  came_to_fault_cases p f came = elim (slice_push_cases outcomes outcome p (Err f) came) [
    | inl old ↦ inl old.1
    | inr new ↦ inr (new.0, new.1)
  ]

  came_to_fault_still : (p : ℕ) (f : SeatFault) → CameToFault outcomes p f → CameToFault (outcomes ++ outcome ∷ []) p f
  came_to_fault_still p f came = slice_get-append_left outcomes (outcome ∷ []) p (slice_get_within outcomes p (Err f) came) ∙ came

  -- the least is the least still, since the last is greater
  least_to_fault_still : (vain : Bool) (told : ProcessorFault) → IsLeastToFault outcomes vain told
      → IsLeastToFault (outcomes ++ outcome ∷ []) vain told
  least_to_fault_still vain told is = record {
    came = came_to_fault_still told.processor told.fault is.came;
    so = is.so;
    least = λ p f came so. elim (came_to_fault_cases p f came) [
      | inl old ↦ is.least p f old so
      | inr new ↦ (let within = slice_get_within outcomes told.processor (Err told.fault) is.came in omega (arith, new.0, within))
    ];
  }

  none_faulted_so_more : (vain : Bool) → NoneFaultedSo outcomes vain → ((f : SeatFault) → outcome ≡ Err f → is_vain_wait f ≢ vain)
      → NoneFaultedSo (outcomes ++ outcome ∷ []) vain
  none_faulted_so_more vain none last p f came = elim (came_to_fault_cases p f came) [
    | inl old ↦ none p f old
    | inr new ↦ last f new.1
  ]

  -- the last is the least, where none before faulted so
  last_to_fault : (f : SeatFault) (vain : Bool) → outcome ≡ Err f → is_vain_wait f ≡ vain → NoneFaultedSo outcomes vain
      → IsLeastToFault (outcomes ++ outcome ∷ []) vain (record { processor = length outcomes; fault = f })
  last_to_fault f vain is so none = record {
    came = slice_get-last outcomes outcome ∙ ap Some is;
    so = so;
    least = λ p g came same. elim (came_to_fault_cases p g came) [
      | inl old ↦ absurd (none p g old same)
      | inr new ↦ (let at = new.0 in omega (arith, at))
    ];
  }

-- one that came to its end changes nothing
pub told_fault_after_end : {X : Type 0} (outcomes : List (Result X SeatFault)) (x : X) (told : Option ProcessorFault) → IsToldFault outcomes told
    → IsToldFault (outcomes ++ Ok x ∷ []) told
told_fault_after_end outcomes x None none = λ p f came. elim (came_to_fault_cases outcomes (Ok x) p f came) [
  | inl old ↦ none p f old
  | inr new ↦ absurd (let no = new.1 in cc)
]
told_fault_after_end outcomes x (Some told) is = elim is [
  | inl first ↦ inl (least_to_fault_still outcomes (Ok x) false told first)
  | inr second ↦ inr (none_faulted_so_more outcomes (Ok x) false second.0 (λ f no. absurd (cc)), least_to_fault_still outcomes (Ok x) true told second.1)
]

-- the last one's fault, where it is the first of its kind
told_fault_last : {X : Type 0} (outcomes : List (Result X SeatFault)) (f : SeatFault) (vain : Bool) → is_vain_wait f ≡ vain
    → NoneFaultedSo outcomes false → (vain ≡ true → NoneFaultedSo outcomes true)
    → IsToldFault (outcomes ++ Err f ∷ []) (Some (record { processor = length outcomes; fault = f }))
told_fault_last outcomes f false is none late = inl (last_to_fault outcomes (Err f) f false refl is none)
told_fault_last outcomes f true is none late = inr (
  none_faulted_so_more outcomes (Err f) false none (λ g same no. let e : f ≡ g = cc in
      let other : true ≡ false = sym is ∙ ap is_vain_wait e ∙ no in cc),
  last_to_fault outcomes (Err f) f true refl is (late refl),
)

-- one that came to a fault
pub told_fault_after_fault : {X : Type 0} (outcomes : List (Result X SeatFault)) (f : SeatFault) (told : Option ProcessorFault)
    → IsToldFault outcomes told
    → IsToldFault (outcomes ++ Err f ∷ []) (Some (told_fault_then told (record { processor = length outcomes; fault = f })))
told_fault_after_fault outcomes f None none =
    told_fault_last outcomes f (is_vain_wait f) refl (λ p g came. absurd (none p g came)) (λ _ p g came. absurd (none p g came))
told_fault_after_fault {X} outcomes f (Some first) is = elim is [
  | inl other ↦ (let P : Bool → Type 0 = λ b. IsToldFault (outcomes ++ Err f ∷ [])
      (Some (cond b (cond (is_vain_wait f) first (record { processor = length outcomes; fault = f })) first)) in
      subst P (sym other.so) (inl (least_to_fault_still outcomes (Err f) false first other)))
  | inr vain ↦ (let P : Bool → Type 0 = λ b. IsToldFault (outcomes ++ Err f ∷ [])
      (Some (cond b (cond (is_vain_wait f) first (record { processor = length outcomes; fault = f })) first)) in
      subst P (sym vain.1.so) (by (is_vain_wait f) refl vain.0 vain.1))
]
  where
    by : (b : Bool) → is_vain_wait f ≡ b → NoneFaultedSo outcomes false → IsLeastToFault outcomes true first
        → IsToldFault (outcomes ++ Err f ∷ []) (Some (cond b first (record { processor = length outcomes; fault = f })))
    by true late none least = inr (
      none_faulted_so_more outcomes (Err f) false none (λ g same no. let e : f ≡ g = cc in
          let other : true ≡ false = sym late ∙ ap is_vain_wait e ∙ no in cc),
      least_to_fault_still outcomes (Err f) true first least,
    )
    by false late none least = inl (last_to_fault outcomes (Err f) f false refl late none)

-- where none faulted, none did before the last
pub none_faulted_before : {X : Type 0} (outcomes : List (Result X SeatFault)) (outcome : Result X SeatFault)
    → NoneFaulted (outcomes ++ outcome ∷ []) → NoneFaulted outcomes
none_faulted_before outcomes outcome none p f came = none p f (came_to_fault_still outcomes outcome p f came)

-- nor did the last
pub none_faulted_not_last : {X : Type 0} (outcomes : List (Result X SeatFault)) (f : SeatFault) → NoneFaulted (outcomes ++ Err f ∷ []) → ⊥
none_faulted_not_last outcomes f none = none (length outcomes) f (slice_get-last outcomes (Err f))
