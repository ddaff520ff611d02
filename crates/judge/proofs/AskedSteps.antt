-- Steps that tell of places of which it may still be asked.
use Rattle.std.proofs.Common.{ℕ, zero, suc, ◌≡◌, ◌+◌, ◌<◌, ◌≤◌, ◌&&◌, ◌||◌, ◌⊎◌, inl, inr, cond, Bool, true, false, List, [], ◌∷◌, length, take, refl, sym, ap, ◌∙◌, subst, arith}
use Rattle.std.specs.Prelude.{nat_le}
use Rattle.std.specs.List.{list_any}
use Rattle.std.proofs.lemmas.Bool.{cases_lt, le-leb}
use Rattle.std.proofs.lemmas.Option.{none-some, same_Some}
use Rattle.base.specs.InOrderOnce.{Has, InOrder}
use Rattle.base.proofs.JoinedLists.{joined_list_has-cons, joined_list_in_order-cons, joined_list_in_order_tail}
use Rattle.journal.specs.declared.event.Event.{Event}
use Rattle.journal.specs.declared.event.Kind.TheVariants.{Store}
use Rattle.journal.specs.DidEvent.{event}
use Rattle.journal.specs.Sizes.{Sizes}
use Rattle.judge.specs.declared.asked_places.AskedPlaces.{AskedPlaces}
use Rattle.judge.specs.declared.stored_steps.StoredAmounts.{StoredAmounts}
use Rattle.judge.specs.declared.stored_steps.StoredStep.{StoredStep}
use Rattle.judge.specs.declared.stored_steps.StoredTotal.{StoredTotal}
use Rattle.judge.specs.AskedPlaces.{AreAskedPlaces, asked_steps_from, is_asked_between}
use Rattle.judge.specs.StoredSteps.{AreStoredAmounts, AreStoredSteps, HasStoredStepFrom, IsStoredAsked, stored_before}
use Rattle.judge.proofs.StoredBefore.{stored_before_below, stored_before_here, stored_before_later}

-- ---- whether one of the places is between two

asked_steps_or_true : (b : Bool) → (b || true) ≡ true
asked_steps_or_true true = refl
asked_steps_or_true false = refl

asked_steps_any : (test : ℕ → Bool) (xs : List ℕ) (v : ℕ) → Has xs v → test v ≡ true → list_any test xs ≡ true
asked_steps_any test [] v h is = absurd (none-some v h.1)
asked_steps_any test (x ∷ xs) v (zero, at) is = ap (λ b. b || list_any test xs) (ap test (same_Some x v at) ∙ is)
asked_steps_any test (x ∷ xs) v (suc k, at) is =
    ap (λ b. test x || b) (asked_steps_any test xs v (k, at) is) ∙ asked_steps_or_true (test x)

asked_steps_between_all : (asked : AskedPlaces) (from to : ℕ) → asked.all_from ≤ to → is_asked_between asked from to ≡ true
asked_steps_between_all asked from to le =
    ap (λ b. b || list_any (λ v. nat_le from v && nat_le v to) asked.fetched.items) (le-leb asked.all_from to le)

asked_steps_between_fetched : (asked : AskedPlaces) (from to v : ℕ) → Has asked.fetched.items v → from ≤ v → v ≤ to
    → is_asked_between asked from to ≡ true
asked_steps_between_fetched asked from to v h low high =
    let is = ap (λ b. b && nat_le v to) (le-leb from v low) ∙ le-leb v to high in
    ap (λ b. nat_le asked.all_from to || b) (asked_steps_any (λ x. nat_le from x && nat_le x to) asked.fetched.items v h is)
    ∙ asked_steps_or_true (nat_le asked.all_from to)

-- ---- the steps that stay

-- past what some step of these has, or past nothing
abbrev pub IsAskedStart : List StoredStep → ℕ → Type 0
IsAskedStart steps from = (from ≡ 0) ⊎ ((y : StoredStep) × Has steps y × (from ≡ y.place + 1))

-- the first of these steps from v on stays
pub record StaysAsked (asked : AskedPlaces) (steps : List StoredStep) (v : ℕ) : Type 0 where
  pub stays : (from : ℕ) (x : StoredStep) → IsAskedStart steps from → Has steps x → from ≤ v → v ≤ x.place
      → is_asked_between asked from x.place ≡ true

asked_steps_may_stay : (b : Bool) (x : StoredStep) (rest : List StoredStep) (all : StoredAmounts) (v : ℕ) → x.place < v
    → stored_before (cond b (x ∷ rest) rest) all v ≡ stored_before rest all v
asked_steps_may_stay true x rest all v lt = stored_before_below x rest all v lt
asked_steps_may_stay false x rest all v lt = refl

-- they tell the same of it
pub asked_steps_before : {asked : AskedPlaces} {whole : List StoredStep} {v : ℕ} → StaysAsked asked whole v → (from : ℕ)
    (steps : List StoredStep) (all : StoredAmounts) → IsAskedStart whole from → from ≤ v
    → ((x : StoredStep) → Has steps x → Has whole x)
    → stored_before (asked_steps_from asked from steps) all v ≡ stored_before steps all v
asked_steps_before stay from [] all start le among = refl
asked_steps_before {asked = asked} {v = v} stay from (x ∷ steps) all start le among =
    let rest = asked_steps_from asked (x.place + 1) steps in
    elim (cases_lt x.place v) [
      | inl lt ↦
          asked_steps_may_stay (is_asked_between asked from x.place) x rest all v lt
          ∙ asked_steps_before stay (x.place + 1) steps all (inr (x, among x (0, refl), refl)) (omega arith)
          (λ y h. among y (suc h.0, h.1))
          ∙ sym (stored_before_below x steps all v lt)
      | inr ge ↦
          ap (λ b. stored_before (cond b (x ∷ rest) rest) all v) (stay.stays from x start (among x (0, refl)) le ge)
          ∙ stored_before_here x rest all v ge ∙ sym (stored_before_here x steps all v ge)
    ]

asked_steps_still_from : (b : Bool) (x : StoredStep) (rest : List StoredStep) (v : ℕ) → HasStoredStepFrom rest v
    → HasStoredStepFrom (cond b (x ∷ rest) rest) v
asked_steps_still_from true x rest v h = record { step = h.step; has = (suc h.has.0, h.has.1); from = h.from }
asked_steps_still_from false x rest v h = h

-- and one of them is from it on, if one was
pub asked_steps_last : {asked : AskedPlaces} {whole : List StoredStep} {v : ℕ} → StaysAsked asked whole v → (from : ℕ)
    (steps : List StoredStep) → IsAskedStart whole from → from ≤ v → ((x : StoredStep) → Has steps x → Has whole x)
    → HasStoredStepFrom steps v → HasStoredStepFrom (asked_steps_from asked from steps) v
asked_steps_last stay from [] start le among h = h
asked_steps_last {asked = asked} {v = v} stay from (x ∷ steps) start le among h =
    let rest = asked_steps_from asked (x.place + 1) steps in
    elim (cases_lt x.place v) [
      | inl lt ↦ asked_steps_still_from (is_asked_between asked from x.place) x rest v
          (asked_steps_last stay (x.place + 1) steps (inr (x, among x (0, refl), refl)) (omega arith)
          (λ y has. among y (suc has.0, has.1)) (stored_before_later x steps v h lt))
      | inr ge ↦
          subst (λ b. HasStoredStepFrom (cond b (x ∷ rest) rest) v) (sym (stay.stays from x start (among x (0, refl)) le ge))
          (record { step = x; has = (0, refl); from = ge })
    ]

asked_steps_were : (b : Bool) (y : StoredStep) (rest steps : List StoredStep) (x : StoredStep) → (Has rest x → Has steps x)
    → Has (cond b (y ∷ rest) rest) x → Has (y ∷ steps) x
asked_steps_were true y rest steps x old h = elim ((joined_list_has-cons y rest x).0 h) [
  | inl is ↦ (joined_list_has-cons y steps x).1 (inl is)
  | inr later ↦ (joined_list_has-cons y steps x).1 (inr (old later))
]
asked_steps_were false y rest steps x old h = (joined_list_has-cons y steps x).1 (inr (old h))

-- each was one of the steps
pub asked_steps_has : (asked : AskedPlaces) (from : ℕ) (steps : List StoredStep) (x : StoredStep)
    → Has (asked_steps_from asked from steps) x → Has steps x
asked_steps_has asked from [] x h = h
asked_steps_has asked from (y ∷ steps) x h =
    asked_steps_were (is_asked_between asked from y.place) y (asked_steps_from asked (y.place + 1) steps) steps x
    (asked_steps_has asked (y.place + 1) steps x) h

asked_steps_stay_in_order : (R : StoredStep → StoredStep → Type 0) (b : Bool) (x : StoredStep) (rest : List StoredStep)
    → ((y : StoredStep) → Has rest y → R x y) → InOrder R rest → InOrder R (cond b (x ∷ rest) rest)
asked_steps_stay_in_order R true x rest first order = joined_list_in_order-cons R x rest first order
asked_steps_stay_in_order R false x rest first order = order

-- in their order
pub asked_steps_in_order : (R : StoredStep → StoredStep → Type 0) (asked : AskedPlaces) (from : ℕ) (steps : List StoredStep)
    → InOrder R steps → InOrder R (asked_steps_from asked from steps)
asked_steps_in_order R asked from [] order = order
asked_steps_in_order R asked from (x ∷ steps) order =
    asked_steps_stay_in_order R (is_asked_between asked from x.place) x (asked_steps_from asked (x.place + 1) steps)
    (λ y h. let old = asked_steps_has asked (x.place + 1) steps y h in order 0 (suc old.0) x y (omega arith) refl old.1)
    (asked_steps_in_order R asked (x.place + 1) steps (joined_list_in_order_tail R x steps order))

asked_steps_one_fewer : (b : Bool) (x : StoredStep) (rest steps : List StoredStep) → length rest ≤ length steps
    → length (cond b (x ∷ rest) rest) ≤ length (x ∷ steps)
asked_steps_one_fewer true x rest steps le = omega arith
asked_steps_one_fewer false x rest steps le = omega arith

pub asked_steps_fewer : (asked : AskedPlaces) (from : ℕ) (steps : List StoredStep)
    → length (asked_steps_from asked from steps) ≤ length steps
asked_steps_fewer asked from [] = omega arith
asked_steps_fewer asked from (x ∷ steps) =
    asked_steps_one_fewer (is_asked_between asked from x.place) x (asked_steps_from asked (x.place + 1) steps) steps
    (asked_steps_fewer asked (x.place + 1) steps)

-- ---- of a history

-- the first step from a place on stays, if that may still be asked
pub asked_steps_stay : {s : Sizes} {j : List Event} {n q v : ℕ} {steps : List StoredStep} {total : StoredTotal} {asked : AskedPlaces}
    → AreStoredSteps s j n q steps total → AreAskedPlaces s j n q s.processors asked → IsStoredAsked s j n q v → StaysAsked asked steps v
asked_steps_stay {s = s} {j = j} {n = n} {q = q} {v = v} {steps = steps} {asked = asked} are places ask = record { stays = stays }
  where
    p : ℕ
    p = ask.by

    stays : (from : ℕ) (x : StoredStep) → IsAskedStart steps from → Has steps x → from ≤ v → v ≤ x.place
        → is_asked_between asked from x.place ≡ true
    stays from x start has low high =
        let at = are.stores x has in
        elim ask.may [
          | inl known ↦
              (let here = places.known p ask.present ask.other in
              let t = here.0 in
              let least = here.2 in
              elim (cases_lt x.place (t q)) [
                | inl lt ↦
                    (let past = (here.1.covers x.place (event q (Store at.address at.value)) at.does ask.other).1 lt in
                    let less = known x.place at past in
                    absurd (omega arith))
                | inr le ↦ asked_steps_between_all asked from x.place (omega arith)
              ])
          | inr had ↦
              (let here = places.fetched p ask.present ask.other in
              let t = here.0 in
              let brought = here.1.brought in
              let above : t q ≤ x.place = elim (cases_lt x.place (t q)) [
                | inl lt ↦
                    (let less = (had x.place at).0 ((brought q x.place at.address at.value ask.other at.does at.in_page).1 lt) in
                    absurd (omega arith))
                | inr le ↦ le
              ] in
              let below : from ≤ t q = elim start [
                | inl none ↦ omega arith
                | inr y ↦
                    (let z = are.stores y.0 y.1 in
                    let is = y.2 in
                    let lt = (brought q y.0.place z.address z.value ask.other z.does z.in_page).0 ((had y.0.place z).1 (omega arith)) in
                    omega arith)
              ] in
              asked_steps_between_fetched asked from x.place (t q) here.2 below above)
        ]

-- so they are enough
pub asked_steps_are : {s : Sizes} {j : List Event} {n q : ℕ} {steps : List StoredStep} {total : StoredTotal} {asked : AskedPlaces}
    → AreStoredSteps s j n q steps total → AreAskedPlaces s j n q s.processors asked
    → AreStoredSteps s j n q (asked_steps_from asked 0 steps) total
asked_steps_are {s = s} {j = j} {n = n} {q = q} {steps = steps} {total = total} {asked = asked} are places = record {
  until = are.until;
  all = are.all;
  few_records = are.few_records;
  few_words = are.few_words;
  before = λ v ask. subst (AreStoredAmounts s (take v j) n q)
      (sym (asked_steps_before (asked_steps_stay are places ask) 0 steps total.amounts (inl refl) (omega arith) (λ x h. h)))
      (are.before v ask);
  rising = asked_steps_in_order (λ (x y : StoredStep). x.place ≤ y.place) asked 0 steps are.rising;
  stores = λ x h. are.stores x (asked_steps_has asked 0 steps x h);
  last = λ stored v ask. asked_steps_last (asked_steps_stay are places ask) 0 steps (inl refl) (omega arith) (λ x h. h)
      (are.last stored v ask);
}
