-- Words on lists of any items.
use Rattle.std.specs.Prelude.{ℕ, ◌≡◌, ◌≢◌, ◌<◌, List, Some, slice_get}

-- x stands in the list
abbrev pub Has : {A : Type 0} → List A → A → Type 0
Has xs x = (k : ℕ) × (slice_get xs k ≡ Some x)

-- R holds of each item and each later one
abbrev pub InOrder : {A : Type 0} → (A → A → Type 0) → List A → Type 0
InOrder {A} R xs = (x y : ℕ) (a b : A) → x < y → slice_get xs x ≡ Some a → slice_get xs y ≡ Some b → R a b

-- no item stands twice in the list
abbrev pub IsOnce : {A : Type 0} → List A → Type 0
IsOnce {A} xs = InOrder (λ (a b : A). a ≢ b) xs
