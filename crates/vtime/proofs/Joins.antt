-- The join of two timestamps, entry by entry.
use Rattle.std.proofs.Common.{◌≡◌, ℕ, zero, suc, ◌<◌, List, [], ◌∷◌, length, max, get_or, set, take, refl, ap, sym, arith}
use Rattle.std.proofs.Math.Nat.{max-zero, zero-max}
use Rattle.vtime.specs.TicksAndJoins.{join}

-- nothing joined changes nothing
pub join-nil : (ts : List ℕ) → join ts [] ≡ ts
join-nil [] = refl
join-nil (t ∷ ts) = refl

pub length-join : (ts us : List ℕ) → length us ≡ length ts → length (join ts us) ≡ length ts
length-join [] us same = same
length-join (t ∷ ts) [] same = refl
length-join (t ∷ ts) (u ∷ us) same = ap suc (length-join ts us (omega arith))

-- entry q of the join is the greater of both entries q
pub get_or-join : (ts us : List ℕ) (q : ℕ) → get_or (join ts us) q 0 ≡ max (get_or ts q 0) (get_or us q 0)
get_or-join [] us q = sym (zero-max (get_or us q 0))
get_or-join (t ∷ ts) [] q = sym (max-zero (get_or (t ∷ ts) q 0))
get_or-join (t ∷ ts) (u ∷ us) zero = refl
get_or-join (t ∷ ts) (u ∷ us) (suc q) = get_or-join ts us q

-- one more entry taken over
pub join-take_suc : (ts us : List ℕ) (q : ℕ) → q < length ts → q < length us
    → join ts (take (suc q) us) ≡ set (join ts (take q us)) q (max (get_or (join ts (take q us)) q 0) (get_or us q 0))
join-take_suc [] us q here there = absurd (omega arith)
join-take_suc (t ∷ ts) [] q here there = absurd (omega arith)
join-take_suc (t ∷ ts) (u ∷ us) zero here there = ap (λ xs. max t u ∷ xs) (join-nil ts)
join-take_suc (t ∷ ts) (u ∷ us) (suc q) here there =
    ap (λ xs. max t u ∷ xs) (join-take_suc ts us q (omega arith) (omega arith))
