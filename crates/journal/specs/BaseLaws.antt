-- The laws of what is left after a cut: it has all its properties from the base, and what the history says of it is
-- what it says alone.
use Rattle.std.specs.Prelude.{ℕ, ◌+◌, ◌<◌, ◌↔◌, List, [], ◌++◌, length, take, replicate}
use Rattle.journal.specs.declared.event.Event.{Event}
use Rattle.journal.specs.Sizes.{Sizes, addresses}
use Rattle.journal.specs.HappensBeforeEdges.{HappensBefore}
use Rattle.journal.specs.WellFormed.{WellFormed}
use Rattle.journal.specs.Pasts.{InPast}
use Rattle.journal.specs.ExplainedAnswers.{Explained}
use Rattle.journal.specs.Races.{Race, IsFirstRace, RaceFree}
use Rattle.journal.specs.ReplayMemory.{Replays}
use Rattle.journal.specs.PageImages.{Lawful}
use Rattle.journal.specs.Base.{Base, no_base}
use Rattle.journal.specs.HappensBeforeFromBase.{HappensBeforeFromBase, InPastFromBase}
use Rattle.journal.specs.WellFormedFromBase.{IsAwayFromBase, WellFormedFromBase}
use Rattle.journal.specs.ExplainedAnswersFromBase.{ExplainedFromBase}
use Rattle.journal.specs.RacesFromBase.{RaceFromBase, IsFirstRaceFromBase, RaceFreeFromBase}
use Rattle.journal.specs.PageImagesFromBase.{LawfulPageImageFromBase}
use Rattle.journal.specs.EpisodeBases.{EndsBaseEpisode, IsEpisodeBaseAfter, IsEpisodeBaseOf}

-- all that was cut off, c, happens before all that is left, j; and j says the same of itself as the history does
pub record BaseLawSaysTheSame (s : Sizes) (b : Base) (c j : List Event) : Type 0 where
  pub cut_before : (i k : ℕ) → i < length c → k < length j → HappensBefore (c ++ j) i (length c + k)
  pub order : (i k : ℕ) → HappensBefore (c ++ j) (length c + i) (length c + k) ↔ HappensBeforeFromBase b j i k
  pub pasts : (p i : ℕ) → InPast (c ++ j) p (length c + i) ↔ InPastFromBase b j p i
  pub races : (i k : ℕ) → Race (c ++ j) (length c + i) (length c + k) ↔ RaceFromBase b j i k
  pub first_race : (i k : ℕ) → IsFirstRace (c ++ j) (length c + i) (length c + k) ↔ IsFirstRaceFromBase b j i k
  pub race_free : RaceFree (c ++ j) ↔ RaceFreeFromBase b j
  pub explained : Explained (c ++ j) ↔ (Explained c × ExplainedFromBase b j)
  pub replays : Replays (replicate (addresses s) 0) (c ++ j)
      ↔ (Replays (replicate (addresses s) 0) c × Replays b.memory j)

-- the same, for a history that is well formed
abbrev pub SameBaseLaw : Type 0
SameBaseLaw = (s : Sizes) (b : Base) (c j : List Event)
    → WellFormed s (c ++ j) → IsEpisodeBaseOf s.processors (addresses s) c b → BaseLawSaysTheSame s b c j

-- a history is well formed exactly if what was cut off is, and what is left from the base
abbrev pub WellFormedBaseLaw : Type 0
WellFormedBaseLaw = (s : Sizes) (b : Base) (c j : List Event)
    → IsEpisodeBaseOf s.processors (addresses s) c b → WellFormed s (c ++ j) ↔ (WellFormed s c × WellFormedFromBase s b j)

-- what was cut off of an explained history replays, and what is left replays from the base up to its first race, or
-- whole if it has none
pub record BaseLawReplays (s : Sizes) (b : Base) (c j : List Event) : Type 0 where
  pub cut : Replays (replicate (addresses s) 0) c
  pub left : RaceFreeFromBase b j → Replays b.memory j
  pub up_to : (i k : ℕ) → IsFirstRaceFromBase b j i k → Replays b.memory (take k j)

abbrev pub FlatBaseLaw : Type 0
FlatBaseLaw = (s : Sizes) (b : Base) (c j : List Event)
    → WellFormed s (c ++ j) → Explained (c ++ j) → IsEpisodeBaseOf s.processors (addresses s) c b → BaseLawReplays s b c j

-- a copy of a processor that has done something since is the base's page after the stores to it in the past within what
-- is left
abbrev pub CopyBaseLaw : Type 0
CopyBaseLaw = (s : Sizes) (b : Base) (c j : List Event) (p n : ℕ) (page : List ℕ)
    → WellFormed s (c ++ j) → IsEpisodeBaseOf s.processors (addresses s) c b → ¬ IsAwayFromBase j p → n < s.pages
    → Lawful s (c ++ j) p n page → LawfulPageImageFromBase s b j p n page

-- if d, which follows what was cut off, is cut off in turn, the base after it is that of both
abbrev pub CutTwiceBaseLaw : Type 0
CutTwiceBaseLaw = (s : Sizes) (b after : Base) (c d : List Event)
    → WellFormed s (c ++ d) → IsEpisodeBaseOf s.processors (addresses s) c b
    → EndsBaseEpisode s.processors d → RaceFreeFromBase b d → IsEpisodeBaseAfter b d after
    → IsEpisodeBaseOf s.processors (addresses s) (c ++ d) after

-- nothing cut off leaves no base, and from that a journal says what it says without one
pub record BaseLawSaysItself (s : Sizes) (b : Base) (j : List Event) : Type 0 where
  pub base : IsEpisodeBaseOf s.processors (addresses s) [] b
  pub order : (i k : ℕ) → HappensBefore j i k ↔ HappensBeforeFromBase b j i k
  pub pasts : (p i : ℕ) → InPast j p i ↔ InPastFromBase b j p i
  pub well_formed : WellFormed s j ↔ WellFormedFromBase s b j
  pub explained : Explained j ↔ ExplainedFromBase b j
  pub races : (i k : ℕ) → Race j i k ↔ RaceFromBase b j i k
  pub copies : (p n : ℕ) (page : List ℕ) → n < s.pages → Lawful s j p n page ↔ LawfulPageImageFromBase s b j p n page

abbrev pub NoBaseLaw : Type 0
NoBaseLaw = (s : Sizes) (j : List Event) → BaseLawSaysItself s (no_base (addresses s)) j
