-- The sizes that a history is judged by.
use Rattle.std.specs.Prelude.{ℕ, ◌*◌, ◌-◌, ◌^◌, ◌≤◌}
use Rattle.base.specs.Limits.{most_processors}
use Rattle.journal.specs.Sizes.{Sizes}
use Rattle.judge.specs.declared.sizes.Sizes.{Sizes as Given}

-- as the definitions of journals have them
abbrev pub judged_sizes_of : Given → Sizes
judged_sizes_of s = record { processors = s.processors; pages = s.pages; words = s.words; locks = s.locks; flags = s.flags }

-- sizes within the product's: up to 16 processors, 64 pages of 64 words, 32 locks and 32 flags
pub record AreJudgedSizesSmall (s : Sizes) : Type 0 where
  pub processors : s.processors ≤ most_processors
  pub pages : s.pages ≤ 64
  pub words : s.words ≤ 64
  pub locks : s.locks ≤ 32
  pub flags : s.flags ≤ 32

-- addresses of a history that is judged
abbrev pub judged_sizes_most_addresses : ℕ
judged_sizes_most_addresses = 2 ^ 20

-- locks of a history that is judged
abbrev pub judged_sizes_most_locks : ℕ
judged_sizes_most_locks = 2 ^ 16

-- flags of a history that is judged
abbrev pub judged_sizes_most_flags : ℕ
judged_sizes_most_flags = 2 ^ 16

-- processors of a history that is judged
abbrev pub most_judged_processors : ℕ
most_judged_processors = 256

-- events of a history that is judged as it comes
abbrev pub most_judged_events : ℕ
most_judged_events = 2 ^ 31 - 1

-- sizes of a history that is judged: up to 256 processors, 2^20 addresses, 2^16 locks and 2^16 flags
pub record AreStreamedSizes (s : Sizes) : Type 0 where
  pub processors : s.processors ≤ most_judged_processors
  pub pages : s.pages ≤ judged_sizes_most_addresses
  pub words : s.words ≤ judged_sizes_most_addresses
  pub addresses : s.pages * s.words ≤ judged_sizes_most_addresses
  pub locks : s.locks ≤ judged_sizes_most_locks
  pub flags : s.flags ≤ judged_sizes_most_flags

-- sizes of a history whose pages are told, too: these, with up to 16 processors
pub record AreJudgedSizes (s : Sizes) : Type 0 where
  pub processors : s.processors ≤ most_processors
  pub streamed : AreStreamedSizes s
