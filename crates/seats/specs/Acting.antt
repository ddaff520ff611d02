-- What several calls of a seat come to together.
use Rattle.std.specs.Prelude.{ℕ, ◌≡◌, ◌+◌, ◌%◌, ◌^◌, List, [], ◌∷◌, ◌++◌, length, sum_by}
use Rattle.journal.specs.declared.event.Kind.{Kind}
use Rattle.journal.specs.declared.event.Kind.TheVariants.{Load}
use Rattle.cluster.specs.Copies.Local.{Local}
use Rattle.cluster.specs.ProcessorCalls.{IsSameProcessorOfCall}
use Rattle.seats.specs.SeatCalls.{seat_calls_held_through}
use Rattle.seats.specs.Sitting.{seat_deeds}

-- the same processor has done just this besides, fetches aside, and holds the locks that it then holds
pub record HasActed (old new : Local) (kinds : List Kind) : Type 0 where
  pub same : IsSameProcessorOfCall old new
  pub deeds_are : seat_deeds new ≡ seat_deeds old ++ kinds
  pub held_is : new.held ≡ seat_calls_held_through kinds old.held

-- it has done a beginning of this, and not all
pub record HasActedInPart (old new : Local) (kinds : List Kind) : Type 0 where
  pub done : List Kind
  pub next : Kind
  pub later : List Kind
  pub all : kinds ≡ done ++ next ∷ later
  pub acted : HasActed old new done

-- loads of words that lie one behind another, from this address on
abbrev pub acting_loads_from : ℕ → List ℕ → List Kind
acting_loads_from a [] = []
acting_loads_from a (v ∷ vs) = Load a v ∷ acting_loads_from (a + 1) vs

-- loads of the words at these addresses, one after another, as far as there are words
abbrev pub loads_at : List ℕ → List ℕ → List Kind
loads_at [] words = []
loads_at (a ∷ others) [] = []
loads_at (a ∷ others) (v ∷ vs) = Load a v ∷ loads_at others vs

-- it has loaded the words at these addresses, which come to n, modulo 2^32
pub record HasSummed (old new : Local) (addresses : List ℕ) (n : ℕ) : Type 0 where
  pub words : List ℕ
  pub long : length words ≡ length addresses
  pub acted : HasActed old new (loads_at addresses words)
  pub sum : n ≡ sum_by (λ v. v) words % 2 ^ 32
