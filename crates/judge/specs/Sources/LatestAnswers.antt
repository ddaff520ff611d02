-- What a load may answer, by its latest stores.
use Rattle.std.specs.Prelude.{ℕ, ◌≡◌, ◌<◌, ◌⊎◌, ◌↔◌, List, ◌++◌, length}
use Rattle.journal.specs.declared.event.Event.{Event}
use Rattle.journal.specs.declared.event.Kind.TheVariants.{Store}
use Rattle.journal.specs.WellFormed.{Does}
use Rattle.journal.specs.ExplainedAnswers.{IsAnswer}
use Rattle.judge.specs.Sources.Latest.{IsLatest}

-- v is 0 and there is no latest store, or v is the value of one
abbrev pub IsLatestAnswer : List Event → ℕ → ℕ → ℕ → Type 0
IsLatestAnswer j k a v =
    ((v ≡ 0) × ((q i : ℕ) → ¬ IsLatest j k a q i)) ⊎ ((q i : ℕ) × IsLatest j k a q i × Does j i q (Store a v))

-- these are what a load may answer
abbrev pub LatestAnswersLaw : Type 0
LatestAnswersLaw = (j : List Event) (k a v : ℕ) → IsAnswer j k a v ↔ IsLatestAnswer j k a v

-- what a load may answer stays as the history goes on
abbrev pub LatestAnswersStayLaw : Type 0
LatestAnswersStayLaw = (j es : List Event) (k a v : ℕ) → k < length j → IsAnswer (j ++ es) k a v ↔ IsAnswer j k a v
