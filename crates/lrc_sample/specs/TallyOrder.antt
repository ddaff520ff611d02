-- How lines stand.
use Rattle.std.specs.Prelude.{◌≡◌, ◌<◌, ◌≤◌, ◌⊎◌, List}
use Rattle.base.specs.InOrderOnce.{InOrder}
use Rattle.lrc_sample.specs.declared.outcome.SampleOutcome.{SampleOutcome}
use Rattle.lrc_sample.specs.declared.tally.TallyLine.{TallyLine}
use Rattle.lrc_sample.specs.Tally.{TallyCountsOutcomes, tally_place_of_seed}

-- each line's first run is before that of a later line
abbrev pub IsTallyOrderAsSeen : List TallyLine → Type 0
IsTallyOrderAsSeen lines = InOrder (λ (a b : TallyLine). tally_place_of_seed a.seed < tally_place_of_seed b.seed) lines

-- a tally as it is made
pub record IsTallyOrderStarted (outcomes : List SampleOutcome) (lines : List TallyLine) : Type 0 where
  pub tally : TallyCountsOutcomes outcomes lines
  pub seen : IsTallyOrderAsSeen lines

-- the line counts more runs, or as many of which the first came no later
abbrev pub TallyOrderRanksAbove : TallyLine → TallyLine → Type 0
TallyOrderRanksAbove a b = (b.times < a.times) ⊎ ((b.times ≡ a.times) × (tally_place_of_seed a.seed ≤ tally_place_of_seed b.seed))

-- the most frequent come first, and of as frequent ones those that were seen first
abbrev pub IsTallyOrderByFrequency : List TallyLine → Type 0
IsTallyOrderByFrequency lines = InOrder TallyOrderRanksAbove lines
