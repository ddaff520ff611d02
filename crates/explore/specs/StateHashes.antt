-- What states are hashed to.
use Rattle.std.specs.Prelude.{ℕ, ◌+◌, ◌*◌, ◌%◌, ◌^◌, List, [], ◌∷◌}
use Rattle.explore.specs.declared.state.hasher.StateHasher.{StateHasher}

-- the number that bytes are, the lowest one first
abbrev pub state_hash_word : List ℕ → ℕ
state_hash_word [] = 0
state_hash_word (b ∷ bs) = ((state_hash_word bs * 256) % 2 ^ 64 + b) % 2 ^ 64

-- a hasher's state by its multiplier
abbrev pub state_hash_finish : StateHasher → ℕ
state_hash_finish h = (h.state * 0x9e37_79b9_7f4a_7c15) % 2 ^ 64

-- a hasher that has been fed the bytes
abbrev pub state_hash_write : StateHasher → List ℕ → StateHasher
state_hash_write h bs = record { state = (state_hash_finish h + state_hash_word bs) % 2 ^ 64 }
