-- The limits of the memory, as contracts name them.
use Rattle.std.specs.Prelude.{ℕ, ◌^◌}

-- processors of a cluster
abbrev pub most_processors : ℕ
most_processors = 16

-- pages of a cluster
abbrev pub most_pages : ℕ
most_pages = 64

-- words of a page
abbrev pub most_words : ℕ
most_words = 64

-- locks of a cluster
abbrev pub most_locks : ℕ
most_locks = 32

-- flags of a cluster
abbrev pub most_flags : ℕ
most_flags = 32

-- events of a processor's open block
abbrev pub most_in_block : ℕ
most_in_block = 256

-- events of a journal, except what the cluster's end hands in
abbrev pub most_events : ℕ
most_events = 2 ^ 20

-- events that a journal can hold: those, what the cluster's end hands in, and room to spare
abbrev pub most_held : ℕ
most_held = 2 ^ 21

-- events that all cuts of a journal together can cut off
abbrev pub most_cut : ℕ
most_cut = 2 ^ 30
