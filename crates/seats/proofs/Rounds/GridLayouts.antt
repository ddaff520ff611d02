-- Who may access which words of two grids.
use Rattle.std.proofs.Common.{ℕ, zero, suc, ◌≡◌, ◌≢◌, ◌⊎◌, ◌+◌, ◌*◌, ◌<◌, ◌≤◌, inl, inr, Bool, true, false, true≢false, Option, Some, None, [], ◌∷◌, length, replicate, refl, sym, ap, subst, ◌∙◌, arith}
use Rattle.std.specs.Prelude.{◌&&◌, if◌then◌else◌, nat_le, nat_lt}
use Rattle.std.proofs.lemmas.Bool.{cases_lt, eq-eqb, ne_eqb}
use Rattle.std.proofs.lemmas.Bool.Decides.{nat_tests}
use Rattle.std.proofs.lemmas.List.{length-replicate}
use Rattle.std.proofs.lemmas.Nat.{mul-le}
use Rattle.std.proofs.lemmas.Option.{slice_get_past}
use Rattle.base.proofs.SliceSets.{slice_get-replicate}
use Rattle.seats.specs.declared.guard.Guard.{Guard}
use Rattle.seats.specs.declared.guard.Guard.TheVariants.{Of, Shared}
use Rattle.seats.specs.GridPairs.{grid_pair_block_end, grid_pair_block_start, grid_pair_made, grid_pair_read, is_even}
use Rattle.seats.specs.GridPairLayouts.{IsGridPairLayout, IsGridPairRoundPut, grid_pair_block_has, grid_pair_read_has}
use Rattle.seats.specs.Tables.{GuardTables, IsPutInTable, table_guard, table_guard_put, table_range_has}

-- an address of a range
grid_layout_within : (from to a : ℕ) → table_range_has from to a ≡ true → (from ≤ a) × (a < to)
grid_layout_within from to a has = elim (cases_lt a from) [
  | inl before ↦ absurd (let no : nat_le from a ≡ false = grind (arith, nat_tests) in let two : false ≡ true = rw no at has in cc)
  | inr there ↦ elim (cases_lt a to) [
    | inl less ↦ (there, less)
    | inr past ↦ absurd (let yes : nat_le from a ≡ true = grind (arith, nat_tests) in let no : nat_lt a to ≡ false = grind (arith, nat_tests) in
        let two : false ≡ true = rw (yes, no) at has in cc)
  ]
]

-- or of none
grid_layout_outside : (from to a : ℕ) → (a < from) ⊎ (to ≤ a) → table_range_has from to a ≡ false
grid_layout_outside from to a (inl before) = let no : nat_le from a ≡ false = grind (arith, nat_tests) in rw no refl
grid_layout_outside from to a (inr past) = elim (cases_lt a from) [
  | inl before ↦ (let no : nat_le from a ≡ false = grind (arith, nat_tests) in rw no refl)
  | inr there ↦ (let yes : nat_le from a ≡ true = grind (arith, nat_tests) in let no : nat_lt a to ≡ false = grind (arith, nat_tests) in
      rw (yes, no) refl)
]

-- blocks of different processors have no address in common
grid_layout_apart : (cells share n p q a : ℕ) → p < q → grid_pair_block_has cells share n p a ≡ true → grid_pair_block_has cells share n q a ≡ false
grid_layout_apart cells share n p q a less has =
    let made = grid_pair_made cells n in
    let within = grid_layout_within (made + grid_pair_block_start cells share p) (made + grid_pair_block_end cells share p) a has in
    let next : (p + 1) * share ≤ q * share = mul-le (p + 1) share q share (omega arith) (omega arith) in
    let more : p * share + share ≡ (p + 1) * share = grind arith in
    let ends : grid_pair_block_end cells share p ≤ grid_pair_block_start cells share q = omega (arith, next, more) in
    grid_layout_outside (made + grid_pair_block_start cells share q) (made + grid_pair_block_end cells share q) a
    (inl (omega (arith, within.1, ends)))

grid_layout_apart_both : (cells share n p q a : ℕ) → p ≢ q → grid_pair_block_has cells share n p a ≡ true → grid_pair_block_has cells share n q a ≡ false
grid_layout_apart_both cells share n p q a other has = elim (cases_lt p q) [
  | inl less ↦ grid_layout_apart cells share n p q a less has
  | inr not ↦ by (grid_pair_block_has cells share n q a) refl not
]
  where
    by : (b : Bool) → grid_pair_block_has cells share n q a ≡ b → q ≤ p → grid_pair_block_has cells share n q a ≡ false
    by false is not = is
    by true is not = absurd (true≢false (sym has ∙ grid_layout_apart cells share n q p a (omega (arith, not, other)) is))

-- what is put over what was put
grid_layout_put_over : (b : Bool) (g h : Guard) (o : Option Guard) → table_guard_put true g (table_guard_put b h o) ≡ table_guard_put true g o
grid_layout_put_over true g h (Some old) = refl
grid_layout_put_over true g h None = refl
grid_layout_put_over false g h o = refl

-- before the first block
pub grid_layout_begins : (cells share n from to : ℕ) (old new : GuardTables) → from ≡ grid_pair_read cells n → to ≡ grid_pair_read cells n + cells
    → IsPutInTable old n from to Shared new → IsGridPairRoundPut cells share n 0 old new
grid_layout_begins cells share n from to old new from_is to_is put = record {
  round = put.round;
  tables = put.tables;
  others = λ t a other. put.each t a ∙ ap (λ b. table_guard_put (b && table_range_has from to a) Shared (table_guard old t a)) (ne_eqb t n other);
  own = λ p a less has. absurd (omega (arith, less));
  rest = λ a none. put.each n a
      ∙ ap (λ b. table_guard_put (b && table_range_has from to a) Shared (table_guard old n a)) (eq-eqb n n refl)
      ∙ ap (λ b. table_guard_put b Shared (table_guard old n a))
      (ap (λ k. table_range_has k to a) from_is ∙ ap (λ k. table_range_has (grid_pair_read cells n) k a) to_is);
}

-- one block more
pub grid_layout_next : (cells share n k from to : ℕ) (old mid new : GuardTables) → from ≡ grid_pair_made cells n + grid_pair_block_start cells share k
    → to ≡ grid_pair_made cells n + grid_pair_block_end cells share k
    → IsGridPairRoundPut cells share n k old mid → IsPutInTable mid n from to (Of k) new → IsGridPairRoundPut cells share n (k + 1) old new
grid_layout_next cells share n k from to old mid new from_is to_is was put = record {
  round = put.round ∙ was.round;
  tables = put.tables ∙ was.tables;
  others = λ t a other. put.each t a
      ∙ ap (λ b. table_guard_put (b && table_range_has from to a) (Of k) (table_guard mid t a)) (ne_eqb t n other) ∙ was.others t a other;
  own = own_more;
  rest = λ a none. here a (none k (omega arith)) ∙ was.rest a (λ p less. none p (omega (arith, less)));
}
  where
    at : (a : ℕ) → table_guard new n a ≡ table_guard_put (grid_pair_block_has cells share n k a) (Of k) (table_guard mid n a)
    at a = put.each n a
        ∙ ap (λ b. table_guard_put (b && table_range_has from to a) (Of k) (table_guard mid n a)) (eq-eqb n n refl)
        ∙ ap (λ b. table_guard_put b (Of k) (table_guard mid n a))
        (ap (λ i. table_range_has i to a) from_is
        ∙ ap (λ i. table_range_has (grid_pair_made cells n + grid_pair_block_start cells share k) i a) to_is)

    here : (a : ℕ) → grid_pair_block_has cells share n k a ≡ false → table_guard new n a ≡ table_guard mid n a
    here a not = at a ∙ ap (λ b. table_guard_put b (Of k) (table_guard mid n a)) not

    own_more : (p a : ℕ) → p < k + 1 → grid_pair_block_has cells share n p a ≡ true
        → table_guard new n a ≡ table_guard_put true (Of p) (table_guard old n a)
    own_more p a less has = elim (cases_lt p k) [
      | inl lower ↦ here a (grid_layout_apart cells share n p k a lower has) ∙ was.own p a lower has
      | inr not ↦ (let same : p ≡ k = omega (arith, less, not) in
          let mine : grid_pair_block_has cells share n k a ≡ true = subst (λ q. grid_pair_block_has cells share n q a ≡ true) same has in
          at a ∙ ap (λ b. table_guard_put b (Of k) (table_guard mid n a)) mine
          ∙ ap (λ o. table_guard_put true (Of k) o)
          (was.rest a (λ q lower. grid_layout_apart_both cells share n k q a (λ e. absurd (omega (arith, lower, e))) mine))
          ∙ grid_layout_put_over (grid_pair_read_has cells n a) (Of k) Shared (table_guard old n a)
          ∙ ap (λ q. table_guard_put true (Of q) (table_guard old n a)) (sym same))
    ]

-- a layout of two tables
abbrev pub grid_layout_new : ℕ → GuardTables
grid_layout_new words = record { tables = replicate words (Of 0) ∷ replicate words (Of 0) ∷ []; round = 0 }

grid_layout_new_within : (words n a : ℕ) → n < 2 → a < words → table_guard (grid_layout_new words) n a ≡ Some (Of 0)
grid_layout_new_within words zero a two less = slice_get-replicate words (Of 0) a less
grid_layout_new_within words (suc zero) a two less = slice_get-replicate words (Of 0) a less
grid_layout_new_within words (suc (suc n)) a two less = absurd (omega (arith, two))

grid_layout_new_past : (words n a : ℕ) → (2 ≤ n) ⊎ (words ≤ a) → table_guard (grid_layout_new words) n a ≡ None
grid_layout_new_past words zero a (inl two) = absurd (omega (arith, two))
grid_layout_new_past words zero a (inr past) = slice_get_past (replicate words (Of 0)) a (let long = length-replicate words (Of 0) in omega (arith, long, past))
grid_layout_new_past words (suc zero) a (inl two) = absurd (omega (arith, two))
grid_layout_new_past words (suc zero) a (inr past) = slice_get_past (replicate words (Of 0)) a (let long = length-replicate words (Of 0) in omega (arith, long, past))
grid_layout_new_past words (suc (suc n)) a two = refl

-- the ends of the blocks and of the grid that is read
grid_layout_block_ends : (cells share p : ℕ) → grid_pair_block_end cells share p ≤ cells
grid_layout_block_ends cells share p = omega arith

grid_layout_block_apart : (cells share n p a : ℕ) → n < 2 → grid_pair_read_has cells n a ≡ true → grid_pair_block_has cells share n p a ≡ false
grid_layout_block_apart cells share zero p a two has =
    let within = grid_layout_within cells (cells + cells) a has in
    let ends = grid_layout_block_ends cells share p in
    grid_layout_outside (0 + grid_pair_block_start cells share p) (0 + grid_pair_block_end cells share p) a (inr (omega (arith, within.0, ends)))
grid_layout_block_apart cells share (suc zero) p a two has =
    let within = grid_layout_within 0 (0 + cells) a has in
    grid_layout_outside (cells + grid_pair_block_start cells share p) (cells + grid_pair_block_end cells share p) a (inl (omega (arith, within.1)))
grid_layout_block_apart cells share (suc (suc n)) p a two has = absurd (omega (arith, two))

grid_layout_block_within : (cells share n p a : ℕ) → n < 2 → grid_pair_block_has cells share n p a ≡ true → a < cells + cells
grid_layout_block_within cells share zero p a two has =
    let within = grid_layout_within (0 + grid_pair_block_start cells share p) (0 + grid_pair_block_end cells share p) a has in
    let ends = grid_layout_block_ends cells share p in
    omega (arith, within.1, ends)
grid_layout_block_within cells share (suc zero) p a two has =
    let within = grid_layout_within (cells + grid_pair_block_start cells share p) (cells + grid_pair_block_end cells share p) a has in
    let ends = grid_layout_block_ends cells share p in
    omega (arith, within.1, ends)
grid_layout_block_within cells share (suc (suc n)) p a two has = absurd (omega (arith, two))

grid_layout_read_within : (cells n a : ℕ) → n < 2 → grid_pair_read_has cells n a ≡ true → a < cells + cells
grid_layout_read_within cells zero a two has = (grid_layout_within cells (cells + cells) a has).1
grid_layout_read_within cells (suc zero) a two has = let within = grid_layout_within 0 (0 + cells) a has in omega (arith, within.1)
grid_layout_read_within cells (suc (suc n)) a two has = absurd (omega (arith, two))

grid_layout_not : (b : Bool) → (b ≡ true → ⊥) → b ≡ false
grid_layout_not b never = elim b as (λ v. (v ≡ true → ⊥) → v ≡ false) [ true ↦ λ isnt. absurd (isnt refl) | false ↦ λ isnt. refl ] never

-- where the grids begin
pub grid_layout_read_begins : (cells n : ℕ) → grid_pair_read cells n ≤ cells
grid_layout_read_begins cells n = elim (is_even n) as (λ b. (if b then cells else 0) ≤ cells) [ true ↦ omega arith | false ↦ omega arith ]

pub grid_layout_made_begins : (cells n : ℕ) → grid_pair_made cells n ≤ cells
grid_layout_made_begins cells n = elim (is_even n) as (λ b. (if b then 0 else cells) ≤ cells) [ true ↦ omega arith | false ↦ omega arith ]

-- both rounds
pub grid_layout_made : (cells share processors words : ℕ) (start mid end : GuardTables) → words ≡ cells + cells → start ≡ grid_layout_new words
    → IsGridPairRoundPut cells share 0 processors start mid → IsGridPairRoundPut cells share 1 processors mid end
    → IsGridPairLayout cells share processors end
grid_layout_made cells share processors words start mid end words_are start_is first second = record {
  round = second.round ∙ first.round ∙ ap (λ (g : GuardTables). g.round) start_is;
  tables = second.tables ∙ first.tables ∙ ap (λ (g : GuardTables). length g.tables) start_is;
  read = λ n a two has.
      rests n a two (λ p less. grid_layout_block_apart cells share n p a two has)
      ∙ ap (λ b. table_guard_put b Shared (table_guard start n a)) has
      ∙ ap (λ o. table_guard_put true Shared o) (within n a two (grid_layout_read_within cells n a two has));
  own = λ n p a two less has.
      owns n p a two less has
      ∙ ap (λ o. table_guard_put true (Of p) o) (within n a two (grid_layout_block_within cells share n p a two has));
  rest = λ n a two less not none.
      rests n a two none ∙ ap (λ b. table_guard_put b Shared (table_guard start n a)) not ∙ within n a two less;
  past = pasts;
}
  where
    within : (n a : ℕ) → n < 2 → a < cells + cells → table_guard start n a ≡ Some (Of 0)
    within n a two less = ap (λ g. table_guard g n a) start_is ∙ grid_layout_new_within words n a two (omega (arith, less, words_are))

    beyond : (n a : ℕ) → (2 ≤ n) ⊎ ((cells + cells) ≤ a) → table_guard start n a ≡ None
    beyond n a (inl many) = ap (λ g. table_guard g n a) start_is ∙ grid_layout_new_past words n a (inl many)
    beyond n a (inr far) = ap (λ g. table_guard g n a) start_is ∙ grid_layout_new_past words n a (inr (omega (arith, far, words_are)))

    owns : (n p a : ℕ) → n < 2 → p < processors → grid_pair_block_has cells share n p a ≡ true
        → table_guard end n a ≡ table_guard_put true (Of p) (table_guard start n a)
    owns zero p a two less has = second.others 0 a (λ e. absurd (omega (arith, e))) ∙ first.own p a less has
    owns (suc zero) p a two less has =
        second.own p a less has ∙ ap (λ o. table_guard_put true (Of p) o) (first.others 1 a (λ e. absurd (omega (arith, e))))
    owns (suc (suc n)) p a two less has = absurd (omega (arith, two))

    rests : (n a : ℕ) → n < 2 → ((p : ℕ) → p < processors → grid_pair_block_has cells share n p a ≡ false)
        → table_guard end n a ≡ table_guard_put (grid_pair_read_has cells n a) Shared (table_guard start n a)
    rests zero a two none = second.others 0 a (λ e. absurd (omega (arith, e))) ∙ first.rest a none
    rests (suc zero) a two none =
        second.rest a none ∙ ap (λ o. table_guard_put (grid_pair_read_has cells 1 a) Shared o) (first.others 1 a (λ e. absurd (omega (arith, e))))
    rests (suc (suc n)) a two none = absurd (omega (arith, two))

    pasts_many : (n a : ℕ) → 2 ≤ n → table_guard end n a ≡ None
    pasts_many n a many = second.others n a (λ e. absurd (omega (arith, many, e)))
        ∙ first.others n a (λ e. absurd (omega (arith, many, e))) ∙ beyond n a (inl many)

    pasts : (n a : ℕ) → (2 ≤ n) ⊎ ((cells + cells) ≤ a) → table_guard end n a ≡ None
    pasts n a (inl many) = pasts_many n a many
    pasts n a (inr far) = elim (cases_lt n 2) [
      | inl two ↦ rests n a two (λ p less. grid_layout_not _ (λ has. (let near = grid_layout_block_within cells share n p a two has in
          let no : ⊥ = omega (arith, near, far) in no)))
          ∙ ap (λ b. table_guard_put b Shared (table_guard start n a)) (grid_layout_not _ (λ has.
          (let near = grid_layout_read_within cells n a two has in let no : ⊥ = omega (arith, near, far) in no)))
          ∙ beyond n a (inr far)
      | inr many ↦ pasts_many n a many
    ]
