-- Who wait for each other in a circle.
use Rattle.std.specs.Prelude.{ℕ, ◌≡◌, ◌<◌, ◌≤◌, List, [], ◌∷◌, Option, Some, None, length, slice_get}
use Rattle.std.specs.Global.{Vec}
use Rattle.base.specs.InOrderOnce.{Has, InOrder}
use Rattle.causes.specs.declared.waits_at_end.Wait.{Wait}
use Rattle.causes.specs.declared.waits_at_end.Wait.TheVariants.{Lock, Barrier}

-- the only one of these
abbrev pub only_waited_for : List ℕ → Option ℕ
only_waited_for (p ∷ []) = Some p
only_waited_for _ = None

-- the one processor that is waited for: a lock's holder, or who alone hasn't arrived at the barrier
abbrev pub waited_for : Wait → Option ℕ
waited_for (Lock lock holder earlier) = holder
waited_for (Barrier absent) = only_waited_for absent.items
waited_for _ = None

-- the one processor that there is something to wait for
abbrev pub waited_for_if : Option Wait → Option ℕ
waited_for_if (Some wait) = waited_for wait
waited_for_if None = None

-- the one processor that p waits for, by what each waits for
abbrev pub waits_for : List Wait → ℕ → Option ℕ
waits_for waits p = waited_for_if (slice_get waits p)

-- each of these waits for the next one, which is above the least, and the last one waits for the least
abbrev pub AreWaitingRound : List Wait → ℕ → List ℕ → Type 0
AreWaitingRound waits least [] = ⊥
AreWaitingRound waits least (p ∷ []) = waits_for waits p ≡ Some least
AreWaitingRound waits least (p ∷ q ∷ ps) = (waits_for waits p ≡ Some q) × (least < q) × AreWaitingRound waits least (q ∷ ps)

-- a circle of waiting processors, from the least of them on, which is this one: no more than there are
pub record IsWaitingCircle (waits : List Wait) (least : ℕ) (circle : List ℕ) : Type 0 where
  pub begins : slice_get circle 0 ≡ Some least
  pub round : AreWaitingRound waits least circle
  pub few : length circle ≤ length waits

-- one of these is this list
pub record IsWaitCircleAmong (circles : List (Vec ℕ)) (circle : List ℕ) : Type 0 where
  pub found : Vec ℕ
  pub has : Has circles found
  pub same : found.items ≡ circle

-- the first of x is below the first of y
abbrev pub BeginsBelow : Vec ℕ → Vec ℕ → Type 0
BeginsBelow x y = (a b : ℕ) → slice_get x.items 0 ≡ Some a → slice_get y.items 0 ≡ Some b → a < b

-- these are the circles whose least processor is below n, all of them, by rising ones
pub record AreWaitCircles (waits : List Wait) (n : ℕ) (circles : List (Vec ℕ)) : Type 0 where
  pub each : (c : Vec ℕ) → Has circles c → (least : ℕ) × (least < n) × IsWaitingCircle waits least c.items
  pub all : (least : ℕ) (circle : List ℕ) → least < n → IsWaitingCircle waits least circle → IsWaitCircleAmong circles circle
  pub rising : InOrder BeginsBelow circles
