-- What a lock keeps of sums: words that come to as much as others.
use Rattle.std.specs.Prelude.{ℕ, ◌≡◌, ◌+◌, ◌%◌, ◌^◌, ◌==◌, ◌||◌, Bool, true, false, if◌then◌else◌, List, [], ◌∷◌, ◌++◌, length, slice_index, sum_by}
use Rattle.journal.specs.declared.event.Kind.{Kind}
use Rattle.cluster.specs.Copies.Local.{Local}
use Rattle.seats.specs.Acting.{HasActed, loads_at}
use Rattle.seats.specs.Sitting.{seat_deeds}
use Rattle.seats.specs.Tenures.{IsBetweenTenures, KeptFact, TenurePreserves, ReadsKept, tenure_of_lock}
use Rattle.seats.specs.WordTallies.{AddsUpTo}

-- whether this is one of these
abbrev pub is_balance_fact_word : List ℕ → ℕ → Bool
is_balance_fact_word [] a = false
is_balance_fact_word (b ∷ bs) a = (b == a) || is_balance_fact_word bs a

-- the words at these addresses, added up
abbrev pub sum_at : List ℕ → List ℕ → ℕ
sum_at memory addresses = sum_by (λ a. slice_index memory a) addresses

-- under a lock, the words at some addresses come to as much as those at others, modulo 2^32
abbrev pub balance_fact : ℕ → List ℕ → List ℕ → KeptFact
balance_fact l left right = record {
  lock = l;
  words = λ a. is_balance_fact_word left a || is_balance_fact_word right a;
  holds = λ memory ks. sum_at memory left % 2 ^ 32 ≡ sum_at memory right % 2 ^ 32;
}

-- what is added to a word if x is to that at a, and y to that at b
abbrev pub balance_fact_adds_two : (a x b y : ℕ) → ℕ → ℕ
balance_fact_adds_two a x b y c = (if a == c then x else 0) + (if b == c then y else 0)

-- both are among the words of the two sides, and this adds as much to the one side as to the other
pub record KeepsBalanceFact (left right : List ℕ) (a x b y : ℕ) : Type 0 where
  pub first : (is_balance_fact_word left a || is_balance_fact_word right a) ≡ true
  pub second : (is_balance_fact_word left b || is_balance_fact_word right b) ≡ true
  pub even : sum_by (balance_fact_adds_two a x b y) left % 2 ^ 32 ≡ sum_by (balance_fact_adds_two a x b y) right % 2 ^ 32

-- a tenure that adds as much to the one side as to the other preserves the balance
abbrev pub BalanceFactLaw : Type 0
BalanceFactLaw = (l : ℕ) (left right : List ℕ) (amounts : ℕ → ℕ) (ks : List Kind) → ((a : ℕ) → AddsUpTo l a (amounts a) ks)
    → sum_by amounts left % 2 ^ 32 ≡ sum_by amounts right % 2 ^ 32 → TenurePreserves (balance_fact l left right) ks

-- in one tenure it has loaded the words of both sides, and found whether they balance
pub record HasWeighed (l : ℕ) (left right : List ℕ) (old new : Local) (even : Bool) : Type 0 where
  pub lefts : List ℕ
  pub rights : List ℕ
  pub left_long : length lefts ≡ length left
  pub right_long : length rights ≡ length right
  pub acted : HasActed old new (tenure_of_lock l (loads_at left lefts ++ loads_at right rights))
  pub even_is : even ≡ (sum_by (λ v. v) lefts % 2 ^ 32 == sum_by (λ v. v) rights % 2 ^ 32)

-- it stands between tenures as before; and supposing that the others keep the balance, too, it has found that they balance
pub record HasFoundKept (f : KeptFact) (new : Local) (even : Bool) : Type 0 where
  pub between : IsBetweenTenures f (seat_deeds new)
  pub found : ReadsKept f (seat_deeds new) → even ≡ true
