-- The cut of a high number, after another one has joined it.
use Rattle.std.proofs.Common.{◌≡◌, ◌≢◌, ℕ, ◌+◌, ◌<◌, ◌≤◌, inl, inr, List, Bool, true, false, Option, Some, length, max, nat_cmp, slice_index, take, subst, refl, ap, ◌∙◌, arith}
use Rattle.std.specs.Prelude.{nat_lt}
use Rattle.std.specs.BTreeMap.{BTreeMap, Updates, get, is_at}
use Rattle.std.specs.Global.{Vec}
use Rattle.std.proofs.lemmas.Bool.{cases_lt}
use Rattle.std.proofs.lemmas.List.{get_or_past, take_all}
use Rattle.judge.specs.declared.numbered_cuts.NumberedCuts.{NumberedCuts}
use Rattle.judge.specs.CutEntries.{CutEntriesJoinedAt}
use Rattle.judge.specs.NumberedCuts.{numbered_cut_at, numbered_cut_kept}

-- of two numbers, the one isn't the key of the other
apart_key : (n m : ℕ) → m ≢ n → is_at (nat_cmp n) m ≡ false
apart_key n m apart = go (nat_lt n m) refl
  where
    go : (b : Bool) → nat_lt n m ≡ b → is_at (nat_cmp n) m ≡ false
    go true lt = grind arith
    go false ge = grind arith

-- the entries of a cut that another one, no longer than it, has joined
pub high_cut_raised : (xs ys cut : List ℕ) → length cut ≤ length xs
    → ((q : ℕ) → q < length cut → slice_index ys (0 + q) ≡ max (slice_index xs (0 + q)) (slice_index cut q))
    → ((k : ℕ) → 0 + length cut ≤ k → slice_index ys k ≡ slice_index xs k)
    → (q : ℕ) → slice_index ys q ≡ max (slice_index cut q) (slice_index xs q)
high_cut_raised xs ys cut short joined behind q = elim (cases_lt q (length cut)) [
  | inl lt ↦
      (let zero : 0 + q ≡ q = omega arith in
      let is = subst (λ k. slice_index ys k ≡ max (slice_index xs k) (slice_index cut q)) zero (joined q lt) in
      omega arith)
  | inr le ↦
      (let none = get_or_past cut q 0 le in
      let same = behind q (omega arith) in
      omega arith)
]

-- the numbers' cuts, with that of a high number in the place of the one that was
pub high_cut_joined : (c : NumberedCuts) (high : BTreeMap ℕ (Vec ℕ)) (n : ℕ) (cut : List ℕ) (v : Vec ℕ) → 1024 ≤ n
    → length v.items ≡ c.low.width
    → ((q : ℕ) → slice_index v.items q
    ≡ max (slice_index (take c.low.width (numbered_cut_kept (get nat_cmp c.high n))) q) (slice_index cut q))
    → Updates nat_cmp c.high high n (Some v)
    → CutEntriesJoinedAt (numbered_cut_at c) (numbered_cut_at (record { low = c.low; high = high })) n (slice_index cut)
high_cut_joined c high n cut v above long raised updates = record { joined = joined; same = same }
  where
    d : NumberedCuts
    d = record { low = c.low; high = high }

    old : ℕ → ℕ → ℕ
    old m q = slice_index (take c.low.width (numbered_cut_kept (get nat_cmp c.high m))) q

    new : ℕ → ℕ → ℕ
    new m q = slice_index (take c.low.width (numbered_cut_kept (get nat_cmp high m))) q

    is : (q : ℕ) → new n q ≡ slice_index v.items q
    is q =
        ap (λ (o : Option (Vec ℕ)). slice_index (take c.low.width (numbered_cut_kept o)) q) updates.1
        ∙ ap (λ (xs : List ℕ). slice_index xs q) (take_all c.low.width v.items (omega arith))

    joined : (q : ℕ) → numbered_cut_at d n q ≡ max (numbered_cut_at c n q) (slice_index cut q)
    joined q =
        let now : new n q ≡ max (old n q) (slice_index cut q) = is q ∙ raised q in
        grind arith

    same : (m q : ℕ) → m ≢ n → numbered_cut_at d m q ≡ numbered_cut_at c m q
    same m q apart =
        let kept : new m q ≡ old m q =
        ap (λ (o : Option (Vec ℕ)). slice_index (take c.low.width (numbered_cut_kept o)) q) (updates.2 m (apart_key n m apart)) in
        grind arith
