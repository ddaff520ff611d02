-- What is trimmed: after a trim by everyone's timestamps nothing is left to trim, until a timestamp rises.
use Rattle.std.proofs.Common.{◌≡◌, ◌⊎◌, ℕ, zero, suc, ◌<◌, ◌≤◌, min, max, inl, inr, List, [], ◌∷◌, length, filter, not, true, Bool, Some, slice_get, slice_set, slice_index, slice_index_or, fold, subst, sym, refl, ap, ◌∙◌, arith}
use Rattle.std.proofs.lemmas.Bool.{cases_eq, cases_lt, cond-true}
use Rattle.std.proofs.lemmas.Option.{slice_get-get_or}
use Rattle.std.proofs.lemmas.List.{set-get_or}
use Rattle.base.specs.InOrderOnce.{Has}
use Rattle.base.proofs.SliceSets.{slice_get-set_found, slice_get-set_other}
use Rattle.interval.specs.declared.interval.KeptInterval.{KeptInterval}
use Rattle.interval.specs.KeptClosings.{KeptClosings, kept_closings_trimmed_below, is_trimmed_from_kept_closings}
use Rattle.book.specs.KeptIntervals.{AreKeptIntervalsFromFirst, AreKeptIntervalsTight}
use Rattle.book.specs.Transitions.{transition_lesser, transition_least, transition_trimmed_by}
use Rattle.book.proofs.Parts.BookIntervals.{book_interval_first_own, book_interval_first_others, book_interval_least_le, book_intervals_from_first_trimmed, book_intervals_stay_from, length-transition_trimmed_by}

-- where all pass, all are picked
tight_trim_filter_all : {A : Type 0} (p : A → Bool) (xs : List A) → ((x : A) → Has xs x → p x ≡ true) → filter p xs ≡ xs
tight_trim_filter_all p [] all = refl
tight_trim_filter_all p (x ∷ xs) all =
    cond-true (p x) (x ∷ filter p xs) (filter p xs) (all x (0, refl))
    ∙ ap (λ ys. x ∷ ys) (tight_trim_filter_all p xs (λ y h. all y (suc h.0, h.1)))

-- a trim to what is dropped already changes nothing
tight_trim_same : (c : KeptClosings) (owner to : ℕ) → to ≤ slice_index c.first owner → AreKeptIntervalsFromFirst c → kept_closings_trimmed_below c owner to ≡ c
tight_trim_same c owner to le from =
    let kept = tight_trim_filter_all (λ k. not (is_trimmed_from_kept_closings owner to k)) c.kept
    (λ k has. book_intervals_stay_from c owner to k le (from k has)) in
    let most : max (slice_index c.first owner) (min to (slice_index c.next owner)) ≡ slice_index c.first owner =
    omega arith in
    let first = ap (λ n. slice_set c.first owner n) most ∙ set-get_or c.first owner 0 in
    ap (λ (ks : List KeptInterval). record (kept_closings_trimmed_below c owner to) { kept = ks }) kept
    ∙ ap (λ (fs : List ℕ). record c { first = fs }) first

pub tight_trim_from_first : (c : KeptClosings) (times : List (List ℕ)) (n : ℕ) → n ≤ length c.first → AreKeptIntervalsFromFirst c
    → AreKeptIntervalsFromFirst (transition_trimmed_by c times n)
tight_trim_from_first c times zero le from = from
tight_trim_from_first c times (suc n) le from =
    let long = length-transition_trimmed_by c times n in
    book_intervals_from_first_trimmed (transition_trimmed_by c times n) n (transition_least times n) (omega arith) (tight_trim_from_first c times n (omega arith) from)

-- the first kept of an owner whose turn hasn't come
tight_trim_first_left : (c : KeptClosings) (times : List (List ℕ)) (n q : ℕ) → n ≤ q
    → slice_index (transition_trimmed_by c times n).first q ≡ slice_index c.first q
tight_trim_first_left c times zero q le = refl
tight_trim_first_left c times (suc n) q le =
    book_interval_first_others (transition_trimmed_by c times n) n (transition_least times n) q (omega arith) ∙ tight_trim_first_left c times n q (omega arith)

tight_trim_next_left : (c : KeptClosings) (times : List (List ℕ)) (n : ℕ) → (transition_trimmed_by c times n).next ≡ c.next
tight_trim_next_left c times zero = refl
tight_trim_next_left c times (suc n) = tight_trim_next_left c times n

-- and of one whose turn has
tight_trim_first_reached : (c : KeptClosings) (times : List (List ℕ)) (n q : ℕ) → q < n → n ≤ length c.first
    → transition_least times q ≤ slice_index c.next q → transition_least times q ≤ slice_index (transition_trimmed_by c times n).first q
tight_trim_first_reached c times zero q lt le few = absurd (omega arith)
tight_trim_first_reached c times (suc n) q lt le few =
    let old = transition_trimmed_by c times n in
    let long = length-transition_trimmed_by c times n in
    elim (cases_eq q n) [
      | inl is ↦ (
          let P : ℕ → Type 0 = λ x. transition_least times x ≤ slice_index (kept_closings_trimmed_below old n (transition_least times n)).first x in
          let Q : ℕ → Type 0 = λ x. transition_least times x ≤ slice_index c.next x in
          let here = book_interval_first_own old n (transition_least times n) (omega arith) in
          let next = ap (λ ns. slice_index ns n) (tight_trim_next_left c times n) in
          let few_here = subst Q is few in
          subst P (sym is) (omega arith))
      | inr isnt ↦ (
          let same = book_interval_first_others old n (transition_least times n) q isnt in
          let rest = tight_trim_first_reached c times n q (omega arith) (omega arith) few in
          omega arith)
    ]

-- the least entry is someone's
tight_trim_folded_at : (times : List (List ℕ)) (q n : ℕ)
    → (fold (transition_lesser q) n times ≡ n)
    ⊎ ((r : ℕ) × (t : List ℕ) × (slice_get times r ≡ Some t) × (slice_index t q ≡ fold (transition_lesser q) n times))
tight_trim_folded_at [] q n = inl refl
tight_trim_folded_at (t ∷ ts) q n = elim (tight_trim_folded_at ts q (transition_lesser q n t)) [
  | inr found ↦ inr (suc found.0, found.1, found.2, found.3)
  | inl is ↦ elim (cases_lt (slice_index t q) n) [
    | inl less ↦ inr (0, t, refl, let e = is in omega arith)
    | inr most ↦ inl (let e = is in omega arith)
  ]
]

tight_trim_least_at : (times : List (List ℕ)) (q : ℕ) → 0 < length times
    → (r : ℕ) × (t : List ℕ) × (slice_get times r ≡ Some t) × (slice_index t q ≡ transition_least times q)
tight_trim_least_at times q some = elim (tight_trim_folded_at times q (slice_index (slice_index_or times 0 []) q)) [
  | inl is ↦ (0, slice_index_or times 0 [], slice_get-get_or times 0 [] some, sym is)
  | inr found ↦ found
]

-- after a trim by everyone's timestamps nothing is left to trim
pub tight_after_trim : (c : KeptClosings) (times : List (List ℕ)) (n : ℕ) → 0 < length times → length c.first ≡ n
    → ((q : ℕ) → q < n → transition_least times q ≤ slice_index c.next q) → AreKeptIntervalsTight (transition_trimmed_by c times n).first times
tight_after_trim c times n some long few q lt =
    let same = length-transition_trimmed_by c times n in
    let found = tight_trim_least_at times q some in
    let less : q < n = omega arith in
    let first = tight_trim_first_reached c times n q less (omega arith) (few q less) in
    (found.0, found.1, found.2, let entry = found.3 in omega arith)

-- of the owner nothing rose when p's timestamp old became new, before which nothing was left to trim:
-- it is trimmed no further
pub record IsSparedByTightTrim (c : KeptClosings) (times : List (List ℕ)) (owner : ℕ) : Type 0 where
  pub p : ℕ
  pub old : List ℕ
  pub new : List ℕ
  pub at : slice_get times p ≡ Some new
  pub le : slice_index new owner ≤ slice_index old owner
  pub tight : AreKeptIntervalsTight c.first (slice_set times p old)

pub tight_trim_spared : {c : KeptClosings} {times : List (List ℕ)} {owner : ℕ} → IsSparedByTightTrim c times owner → owner < length c.first
    → AreKeptIntervalsFromFirst c → transition_trimmed_by c times (suc owner) ≡ transition_trimmed_by c times owner
tight_trim_spared {c} {times} {owner} spared lt from =
    let p = spared.p in
    let old = spared.old in
    let le = spared.le in
    let found = spared.tight owner lt in
    let first = tight_trim_first_left c times owner owner (omega arith) in
    let low : transition_least times owner ≤ slice_index c.first owner = elim (cases_eq found.0 p) [
      | inl is ↦ (
          let P : ℕ → Type 0 = λ x. slice_get (slice_set times p old) x ≡ Some found.1 in
          let same = slice_get-set_found times p old found.1 (subst P is found.2) in
          let entry = subst (λ (t : List ℕ). slice_index t owner ≤ slice_index c.first owner) (sym same) found.3 in
          let all = book_interval_least_le times owner p spared.new spared.at in
          omega arith)
      | inr isnt ↦ (
          let all = book_interval_least_le times owner found.0 found.1
          (sym (slice_get-set_other times p found.0 old isnt) ∙ found.2) in
          let entry = found.3 in
          omega arith)
    ] in
    tight_trim_same (transition_trimmed_by c times owner) owner (transition_least times owner) (omega arith)
    (tight_trim_from_first c times owner (omega arith) from)
