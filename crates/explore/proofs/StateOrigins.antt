-- Where states come from: the makers of each stand between two ends.
use Rattle.std.proofs.Common.{ℕ, zero, suc, ◌≡◌, ◌+◌, ◌-◌, ◌*◌, ◌≤◌, List, [], ◌∷◌, ◌++◌, Some, drop, length, slice_get, slice_index_or, take, map, refl, sym, ap, ap₂, subst, ◌∙◌, length-append, arith}
use Rattle.std.proofs.lemmas.Option.{none-some, same_Some}
use Rattle.explore.specs.declared.state.origins.Origin.{Origin}
use Rattle.explore.specs.declared.state.wait_code.ProcessorNumber.{ProcessorNumber}
use Rattle.explore.specs.Origins.{AreOriginsInOrderFrom, StateOrigin, state_origins_from}

-- the ends are no more than the makers
pub state_origins_start_small : (start : ℕ) (os : List Origin) (many : ℕ) → AreOriginsInOrderFrom start os many → start ≤ many
state_origins_start_small start [] many is = omega (arith, is)
state_origins_start_small start (o ∷ os) many both =
    let rest = state_origins_start_small o.ends os many both.2 in
    let first = both.0 in
    omega (arith, rest, first)

-- there are no more makers than these origins have
pub state_origins_makers_few : (start : ℕ) (os : List Origin) (many : ℕ) → AreOriginsInOrderFrom start os many → many ≤ start + 16 * length os
state_origins_makers_few start [] many is = omega (arith, is)
state_origins_makers_few start (o ∷ os) many both =
    let rest = state_origins_makers_few o.ends os many both.2 in
    let first = both.1 in
    omega (arith, rest, first)

-- what is in front of a list is taken from it
state_origins_take_front : {A : Type 0} (xs ys : List A) (n : ℕ) → n ≤ length xs → take n (xs ++ ys) ≡ take n xs
state_origins_take_front xs ys zero le = refl
state_origins_take_front [] ys (suc n) le = absurd (omega arith)
state_origins_take_front (x ∷ xs) ys (suc n) le = ap (λ zs. x ∷ zs) (state_origins_take_front xs ys n (omega arith))

state_origins_take_whole : {A : Type 0} (xs : List A) (n : ℕ) → n ≡ length xs → take n xs ≡ xs
state_origins_take_whole [] zero is = refl
state_origins_take_whole [] (suc n) is = refl
state_origins_take_whole (x ∷ xs) zero is = absurd (omega (arith, is))
state_origins_take_whole (x ∷ xs) (suc n) is = ap (λ zs. x ∷ zs) (state_origins_take_whole xs n (omega (arith, is)))

state_origins_part_front : {A : Type 0} (xs ys : List A) (start n : ℕ) → start + n ≤ length xs
    → take n (drop start (xs ++ ys)) ≡ take n (drop start xs)
state_origins_part_front xs ys zero n le = state_origins_take_front xs ys n (omega (arith, le))
state_origins_part_front [] ys (suc start) n le = absurd (omega (arith, le))
state_origins_part_front (x ∷ xs) ys (suc start) n le = state_origins_part_front xs ys start n (omega (arith, le))

state_origins_drop_front : {A : Type 0} (xs ys : List A) → drop (length xs) (xs ++ ys) ≡ ys
state_origins_drop_front [] ys = refl
state_origins_drop_front (x ∷ xs) ys = state_origins_drop_front xs ys

abbrev state_origin : ℕ → List ProcessorNumber → StateOrigin
state_origin from makers = record { from = from; makers = makers }

-- an origin is put at the end
pub state_origins_push : (start : ℕ) (os : List Origin) (makers more : List ProcessorNumber) (from : ℕ) → AreOriginsInOrderFrom start os (length makers)
    → (o : Origin) → o.from ≡ from → o.ends ≡ length (makers ++ more)
    → state_origins_from start (os ++ o ∷ []) (makers ++ more) ≡ state_origins_from start os makers ++ record { from = from; makers = more } ∷ []
state_origins_push start [] makers more from is o from_is ends =
    ap₂ (λ f ms. state_origin f ms ∷ []) from_is
    (ap (λ n. take (o.ends - n) (drop n (makers ++ more))) is ∙ ap (take (o.ends - length makers)) (state_origins_drop_front makers more)
    ∙ state_origins_take_whole more (o.ends - length makers) (let long = length-append makers more in omega (arith, ends, long)))
state_origins_push start (p ∷ os) makers more from both o from_is ends =
    let small = state_origins_start_small p.ends os (length makers) both.2 in
    let le = both.0 in
    ap₂ (λ ms rest. state_origin p.from ms ∷ rest)
    (state_origins_part_front makers more start (p.ends - start) (omega (arith, small, le)))
    (state_origins_push p.ends os makers more from both.2 o from_is ends)

pub state_origins_push_in_order : (start : ℕ) (os : List Origin) (many more : ℕ) → AreOriginsInOrderFrom start os many → many ≤ more → more ≤ many + 16
    → (o : Origin) → o.ends ≡ more → AreOriginsInOrderFrom start (os ++ o ∷ []) more
state_origins_push_in_order start [] many more is le few o ends = (omega (arith, is, le, ends), omega (arith, is, few, ends), ends)
state_origins_push_in_order start (p ∷ os) many more both le few o ends =
    (both.0, both.1, state_origins_push_in_order p.ends os many more both.2 le few o ends)

-- there are as many
pub state_origins_long : (start : ℕ) (os : List Origin) (makers : List ProcessorNumber) → length (state_origins_from start os makers) ≡ length os
state_origins_long start [] makers = refl
state_origins_long start (o ∷ os) makers = ap suc (state_origins_long o.ends os makers)

-- the origin at a place, as it is kept
pub state_origins_at : (start : ℕ) (os : List Origin) (makers : List ProcessorNumber) (i : ℕ) (o : Origin) (x : StateOrigin)
    → slice_get os i ≡ Some o → slice_get (state_origins_from start os makers) i ≡ Some x
    → (o.from ≡ x.from) × (take (o.ends - slice_index_or (start ∷ map (λ (p : Origin). p.ends) os) i 0) (drop (slice_index_or (start ∷ map (λ (p : Origin). p.ends) os) i 0) makers)
    ≡ x.makers)
state_origins_at start [] makers i o x at here = absurd (none-some o at)
state_origins_at start (p ∷ os) makers zero o x at here =
    let is = same_Some p o at in
    let same = same_Some _ x here in (
      ap (λ (q : Origin). q.from) (sym is) ∙ ap (λ (z : StateOrigin). z.from) same,
      ap (λ (q : Origin). take (q.ends - start) (drop start makers)) (sym is) ∙ ap (λ (z : StateOrigin). z.makers) same,
    )
state_origins_at start (p ∷ os) makers (suc i) o x at here = state_origins_at p.ends os makers i o x at here

-- it starts no later than it ends, and ends among the makers
pub state_origins_within : (start : ℕ) (os : List Origin) (many : ℕ) (i : ℕ) (o : Origin) → AreOriginsInOrderFrom start os many
    → slice_get os i ≡ Some o → (slice_index_or (start ∷ map (λ (p : Origin). p.ends) os) i 0 ≤ o.ends) × (o.ends ≤ many)
state_origins_within start [] many i o is at = absurd (none-some o at)
state_origins_within start (p ∷ os) many zero o both at =
    let is = same_Some p o at in
    let small = state_origins_start_small p.ends os many both.2 in
    (subst (λ (q : Origin). start ≤ q.ends) is both.0, subst (λ (q : Origin). q.ends ≤ many) is small)
state_origins_within start (p ∷ os) many (suc i) o both at = state_origins_within p.ends os many i o both.2 at
