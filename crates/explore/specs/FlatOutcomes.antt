-- What a run of a script on one flat memory shows.
use Rattle.std.specs.Prelude.{ℕ, ◌≡◌, ◌<◌, ◌↔◌, Some, List, [], ◌∷◌, length, slice_get}
use Rattle.journal.specs.declared.event.Event.{Event}
use Rattle.journal.specs.declared.event.Kind.{Kind}
use Rattle.journal.specs.declared.event.Kind.TheVariants.{Load}
use Rattle.lrc_script.specs.Plan.{Plan}
use Rattle.conformance.specs.Follows.{calls_of}
use Rattle.explore.specs.declared.outcomes.telling.Detail.{Detail}
use Rattle.explore.specs.declared.outcomes.telling.Detail.TheVariants as detail
use Rattle.explore.specs.Prefixes.FlatBeginnings.{IsFlatBeginningWhole}
use Rattle.explore.specs.OutcomeTelling.{AreOutcomeTellingReplies, outcome_telling_of_script}

-- what the loads among these calls answered, in order
abbrev pub flat_outcome_replies_in : List Kind → List ℕ
flat_outcome_replies_in [] = []
flat_outcome_replies_in (Load a v ∷ kinds) = v ∷ flat_outcome_replies_in kinds
flat_outcome_replies_in (_ ∷ kinds) = flat_outcome_replies_in kinds

-- of each processor, what its loads answered; the last ones of processor 0 show the words
pub record AreFlatOutcomeReplies (s : Plan) (g : List Event) (replies : List (List ℕ)) : Type 0 where
  pub long : length replies ≡ s.processors
  pub each : (p : ℕ) → p < s.processors → slice_get replies p ≡ Some (flat_outcome_replies_in (calls_of g p))

-- some whole run shows this, told by this detail
abbrev pub IsFlatOutcome : Plan → Detail → List (List ℕ) → Type 0
IsFlatOutcome s d replies = (g : List Event) × IsFlatBeginningWhole s g × AreOutcomeTellingReplies s (outcome_telling_of_script s d) g replies

-- in full detail each load is told
abbrev pub FullFlatOutcomesLaw : Type 0
FullFlatOutcomesLaw = (s : Plan) (g : List Event) (replies : List (List ℕ))
    → AreOutcomeTellingReplies s (outcome_telling_of_script s detail.All) g replies ↔ AreFlatOutcomeReplies s g replies
