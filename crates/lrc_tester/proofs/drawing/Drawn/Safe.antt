-- Instructions that are lawful wherever no lock is held.
use Rattle.std.proofs.Common.{◌≡◌, ℕ, ◌+◌, ◌^◌, ◌<◌, ◌≤◌, Bool, true, false, cond, eqb, List, [], ◌∷◌, ◌++◌, length, refl, sym, ap, subst, ◌∙◌, append_assoc, arith, inl, inr, ◌⊎◌}
use Rattle.std.specs.Prelude.{fold}
use Rattle.std.specs.List.{AllByRecursion}
use Rattle.std.proofs.lemmas.Bool.Decides.{nat_tests}
use Rattle.std.proofs.lemmas.List.{append-nil, length-append}
use Rattle.std.proofs.lemmas.List.Sums.{fold-append}
use Rattle.lrc_script.specs.declared.script.Instruction.{Instruction}
use Rattle.lrc_script.specs.declared.script.Instruction.TheVariants.{Add, Acquire, Release, Barrier}
use Rattle.lrc_script.specs.Plan.{Plan}
use Rattle.lrc_script.specs.Lawful.{plan_addresses, holds, still_holds, is_barrier, barriers, IsInstructionInRange, IsLawfulAfter}

-- no lock is held
abbrev pub HoldsNone : List Instruction → Type 0
HoldsNone is = (l : ℕ) → holds is l ≡ false

-- instructions that are lawful wherever no lock is held, and leave none held
pub record IsSafe (s : Plan) (most count : ℕ) (is : List Instruction) : Type 0 where
  pub short : length is ≤ most
  pub in_range : AllByRecursion (IsInstructionInRange s) is
  pub may : (before : List Instruction) → HoldsNone before
      → (front : List Instruction) (i : Instruction) (back : List Instruction) → is ≡ front ++ i ∷ back
      → IsLawfulAfter (before ++ front) i
  pub frees : (before : List Instruction) → HoldsNone before → HoldsNone (before ++ is)
  pub barriers_are : barriers is ≡ count

All-append : (s : Plan) (xs ys : List Instruction) → AllByRecursion (IsInstructionInRange s) xs → AllByRecursion (IsInstructionInRange s) ys
    → AllByRecursion (IsInstructionInRange s) (xs ++ ys)
All-append s [] ys p q = q
All-append s (x ∷ xs) ys p q = (p.0, All-append s xs ys p.1 q)

-- where an element of two lists stands
split_append : (xs ys front : List Instruction) (i : Instruction) (back : List Instruction)
    → xs ++ ys ≡ front ++ i ∷ back
    → ((rest : List Instruction) × (xs ≡ front ++ i ∷ rest))
    ⊎ ((rest : List Instruction) × (front ≡ xs ++ rest) × (ys ≡ rest ++ i ∷ back))
split_append [] ys front i back e = inr (front, refl, e)
split_append (x ∷ xs) ys [] i back e = inl (xs, let head : x ≡ i = cc in ap (λ (y : Instruction). y ∷ xs) head)
split_append (x ∷ xs) ys (f ∷ front) i back e =
    let head : x ≡ f = cc in
    let tail : xs ++ ys ≡ front ++ i ∷ back = cc in
    elim (split_append xs ys front i back tail) [
      | inl p ↦ inl (p.0, ap (λ (y : Instruction). y ∷ xs) head ∙ ap (λ (zs : List Instruction). f ∷ zs) p.1)
      | inr p ↦ inr
          (p.0, ap (λ (y : Instruction). y ∷ front) (sym head) ∙ ap (λ (zs : List Instruction). x ∷ zs) p.1, p.2)
    ]

abbrev counted : ℕ → Instruction → ℕ
counted n i = n + cond (is_barrier i) 1 0

counted_from : (n : ℕ) (xs : List Instruction) → fold counted n xs ≡ n + fold counted 0 xs
counted_from n [] = omega arith
counted_from n (x ∷ xs) = omega (arith, counted_from (counted n x) xs, counted_from (counted 0 x) xs)

barriers-append : (xs ys : List Instruction) → barriers (xs ++ ys) ≡ barriers xs + barriers ys
barriers-append xs ys = fold-append counted 0 xs ys ∙ counted_from (barriers xs) ys

pub safe-append : (s : Plan) (m n a b : ℕ) (xs ys : List Instruction) → IsSafe s m a xs → IsSafe s n b ys
    → IsSafe s (m + n) (a + b) (xs ++ ys)
safe-append s m n a b xs ys p q = record {
  short = omega (arith, length-append xs ys, p.short, q.short);
  in_range = All-append s xs ys p.in_range q.in_range;
  may = λ before none front i back e. elim (split_append xs ys front i back e) [
    | inl t ↦ p.may before none front i t.0 t.1
    | inr t ↦ subst (λ (zs : List Instruction). IsLawfulAfter zs i)
        (append_assoc before xs t.0 ∙ ap (λ (zs : List Instruction). before ++ zs) (sym t.1))
        (q.may (before ++ xs) (p.frees before none) t.0 i back t.2)
  ];
  frees = λ before none. subst HoldsNone (append_assoc before xs ys) (q.frees (before ++ xs) (p.frees before none));
  barriers_are = omega (arith, barriers-append xs ys, p.barriers_are, q.barriers_are);
}

pub safe_none : (s : Plan) → IsSafe s 0 0 []
safe_none s = record {
  short = omega arith;
  in_range = tt;
  may =
      λ before none front i back e. absurd
      (omega (arith, ap (λ (is : List Instruction). length is) e, length-append front (i ∷ back)));
  frees = λ before none. subst HoldsNone (sym (append-nil before)) none;
  barriers_are = refl;
}

holds-append : (before is : List Instruction) (l : ℕ)
    → holds (before ++ is) l ≡ fold (still_holds l) (holds before l) is
holds-append before is l = fold-append (still_holds l) false before is

-- an instruction that has nothing to do with locks and barriers
pub safe_plain : (s : Plan) (i : Instruction) → IsInstructionInRange s i → ((before : List Instruction) → IsLawfulAfter before i)
    → ((l : ℕ) (held : Bool) → still_holds l held i ≡ held) → is_barrier i ≡ false → IsSafe s 1 0 (i ∷ [])
safe_plain s i range may keeps other = record {
  short = omega arith;
  in_range = (range, tt);
  may = λ before none front j back e. plain_may before front j back e;
  frees = λ before none l. holds-append before (i ∷ []) l ∙ keeps l (holds before l) ∙ none l;
  barriers_are = ap (λ (b : Bool). 0 + cond b 1 0) other ∙ (omega arith);
}
  where
    plain_may : (before front : List Instruction) (j : Instruction) (back : List Instruction)
        → i ∷ [] ≡ front ++ j ∷ back → IsLawfulAfter (before ++ front) j
    plain_may before [] j back e =
        let head : i ≡ j = cc in subst (λ (k : Instruction). IsLawfulAfter (before ++ []) k) head (may (before ++ []))
    plain_may before (f ∷ front) j back e =
        absurd (omega (arith, ap (λ (is : List Instruction). length is) e, length-append front (j ∷ back)))

taken : (l : ℕ) (held : Bool) → cond (eqb l l) true held ≡ true
taken l held = let same : eqb l l ≡ true = grind (arith, nat_tests) in rw same refl

given_back : (b held : Bool) → held ≡ false → cond b false (cond b true held) ≡ false
given_back true held h = refl
given_back false held h = h

group_may : (l a v : ℕ) (before : List Instruction) → HoldsNone before
    → (front : List Instruction) (i : Instruction) (back : List Instruction)
    → Acquire l ∷ Add a v ∷ Release l ∷ [] ≡ front ++ i ∷ back → IsLawfulAfter (before ++ front) i
group_may l a v before none [] i back e =
    let head : Acquire l ≡ i = cc in
    subst (λ (k : Instruction). IsLawfulAfter (before ++ []) k) head
    (ap (λ (is : List Instruction). holds is l) (append-nil before) ∙ none l)
group_may l a v before none (f ∷ []) i back e =
    let head : Add a v ≡ i = cc in subst (λ (k : Instruction). IsLawfulAfter (before ++ f ∷ []) k) head tt
group_may l a v before none (f ∷ g ∷ []) i back e =
    let first : Acquire l ≡ f = cc in
    let second : Add a v ≡ g = cc in
    let third : Release l ≡ i = cc in
    let held : holds (before ++ Acquire l ∷ Add a v ∷ []) l ≡ true =
    holds-append before (Acquire l ∷ Add a v ∷ []) l ∙ taken l (holds before l) in
    subst (λ (k : Instruction). IsLawfulAfter (before ++ f ∷ g ∷ []) k) third (subst
    (λ (k : Instruction). holds (before ++ k ∷ g ∷ []) l ≡ true) first
    (subst (λ (k : Instruction). holds (before ++ Acquire l ∷ k ∷ []) l ≡ true) second held))
group_may l a v before none (f ∷ g ∷ h ∷ front) i back e =
    absurd (omega (arith, ap (λ (is : List Instruction). length is) e, length-append front (i ∷ back)))

pub safe_group : (s : Plan) (l a v : ℕ) → l < s.locks → a < plan_addresses s → v < 2 ^ 32
    → IsSafe s 3 0 (Acquire l ∷ Add a v ∷ Release l ∷ [])
safe_group s l a v lock address value = record {
  short = omega arith;
  in_range = (lock, ((address, value), (lock, tt)));
  may = group_may l a v;
  frees =
      λ before none k. holds-append before (Acquire l ∷ Add a v ∷ Release l ∷ []) k
      ∙ given_back (eqb l k) (holds before k) (none k);
  barriers_are = refl;
}

pub longer : (s : Plan) (m n a : ℕ) (is : List Instruction) → m ≤ n → IsSafe s m a is → IsSafe s n a is
longer s m n a is le h =
    record {
      short = omega (arith, h.short, le);
      in_range = h.in_range;
      may = h.may;
      frees = h.frees;
      barriers_are = h.barriers_are;
    }

pub safe_barrier : (s : Plan) → IsSafe s 1 1 (Barrier ∷ [])
safe_barrier s = record {
  short = omega arith;
  in_range = (tt, tt);
  may = barrier_may;
  frees = λ before none l. holds-append before (Barrier ∷ []) l ∙ none l;
  barriers_are = refl;
}
  where
    barrier_may : (before : List Instruction) → HoldsNone before
        → (front : List Instruction) (i : Instruction) (back : List Instruction) → Barrier ∷ [] ≡ front ++ i ∷ back
        → IsLawfulAfter (before ++ front) i
    barrier_may before none [] i back e =
        let head : Barrier ≡ i = cc in subst (λ (k : Instruction). IsLawfulAfter (before ++ []) k) head tt
    barrier_may before none (f ∷ front) i back e =
        absurd (omega (arith, ap (λ (is : List Instruction). length is) e, length-append front (i ∷ back)))
