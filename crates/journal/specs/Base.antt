-- What is kept of the events that were cut off.
use Rattle.std.specs.Prelude.{ℕ, min, List, [], replicate}
use Rattle.journal.specs.declared.traffic.Traffic.{Traffic}

-- how many they are, the memory after them, who holds which lock (a processor and a lock), which flags are set, and
-- what they cost
pub record Base : Type 0 where
  pub cut : ℕ
  pub memory : List ℕ
  pub holders : List (ℕ × ℕ)
  pub flags : List ℕ
  pub spent : Traffic

-- nothing was cut off
abbrev pub no_base : ℕ → Base
no_base addresses = record {
  cut = 0;
  memory = replicate addresses 0;
  holders = [];
  flags = [];
  spent = record { messages = 0; records = 0; words = 0 };
}

-- how many arrivals of each processor were cut off and not departed from: one, if anything was
abbrev pub base_arrivals_cut : Base → ℕ
base_arrivals_cut b = min b.cut 1
