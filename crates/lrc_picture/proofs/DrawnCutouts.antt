-- What is drawn of a run, one event after the other.
use Rattle.std.proofs.Common.{◌≡◌, ℕ, ◌<◌, ◌≤◌, inl, inr, List, [], ◌∷◌, ◌++◌, Some, length, slice_get, slice_index_or, subst, sym, ◌∙◌, arith}
use Rattle.std.specs.Prelude.{All, true}
use Rattle.std.specs.Global.{Vec}
use Rattle.std.proofs.lemmas.Option.{same_Some, slice_get-get_or, slice_get_within}
use Rattle.base.specs.InOrderOnce.{Has}
use Rattle.base.specs.Limits.{most_held}
use Rattle.base.proofs.SlicesAndCounts.{slice_push_cases}
use Rattle.causes.specs.declared.part.Part.{Part}
use Rattle.causes.specs.FinalWaits.{AreThoseInFinalWait}
use Rattle.journal.specs.declared.event.Event.{Event}
use Rattle.journal.specs.Events.{EventAt}
use Rattle.journal.specs.EventsInRange.{EventProcessorsInRange}
use Rattle.journal.proofs.Order.EventPlacesAndCounts.{event_place_same}
use Rattle.judge.specs.JudgedSizes.{most_judged_processors}
use Rattle.lrc_picture.specs.Arrows.{AreArrowPlaces}
use Rattle.lrc_picture.specs.Cutout.{AreCutoutEvents, AreCutoutLanes, AreCutoutPlaces, IsCutoutEventOnLane}
use Rattle.lrc_picture.specs.PictureLayout.{HasPictureLayout}

-- those lie below n
pub drawn_cutout_those_within : (P : ℕ → Type 0) (n : ℕ) (xs : List ℕ) → AreThoseInFinalWait P n xs → All (λ k. k < n) xs
drawn_cutout_those_within P n xs are = λ k d lt. ((are.has (slice_index_or xs k d)).0 (k, slice_get-get_or xs k d lt)).0

-- the processor of an event that is drawn has a lane
pub drawn_cutout_has_lane : {x : Part} {n : ℕ} (j : List Event) {lanes places : List ℕ} {k : ℕ} {e : Event} → EventProcessorsInRange n j
    → AreCutoutLanes x n lanes → AreCutoutPlaces x j places → Has places k → EventAt j k e → Has lanes e.processor
drawn_cutout_has_lane {x = x} j {k = k} {e = e} range are drawn has at =
    let is = ((drawn.has k).0 has).1 in
    let shown = subst (λ (f : Event). slice_get x.processors f.processor ≡ Some true) (event_place_same j k is.0 e is.1 at)
    is.2.shown in
    (are.has e.processor).1 (range k e at, shown)

-- what is drawn in the rows so far
abbrev pub AreCutoutsDrawnSoFar : List ℕ → List Event → List ℕ → List Event → Type 0
AreCutoutsDrawnSoFar lanes j places drawn =
    (r k : ℕ) (e : Event) → slice_get places r ≡ Some k → EventAt drawn r e → IsCutoutEventOnLane lanes j k e

-- a row more
pub drawn_cutout_next : {lanes : List ℕ} {j : List Event} (places : List ℕ) (drawn : List Event) (row : ℕ) {k : ℕ} {new : Event}
    → length drawn ≡ row → slice_get places row ≡ Some k → IsCutoutEventOnLane lanes j k new → AreCutoutsDrawnSoFar lanes j places drawn
    → AreCutoutsDrawnSoFar lanes j places (drawn ++ new ∷ [])
drawn_cutout_next {lanes = lanes} {j = j} places drawn row {k = k} {new = new} long there now are r m e place at = elim (slice_push_cases drawn new r e at) [
  | inl was ↦ are r m e place was.1
  | inr is ↦
      (let same : r ≡ row = omega (arith, is.0) in
      let here : slice_get places row ≡ Some m = subst (λ i. slice_get places i ≡ Some m) same place in
      subst (IsCutoutEventOnLane lanes j m) is.1
      (subst (λ i. IsCutoutEventOnLane lanes j i new) (same_Some k m (sym there ∙ here)) now))
]

-- so it can be drawn
pub drawn_cutout_has_layout : (n lanes_count : ℕ) {j : List Event} {lanes places : List ℕ} {drawn : List Event}
    → {incoming : List (Vec ℕ)} → lanes_count ≡ length lanes → lanes_count ≤ n → n ≤ most_judged_processors
    → length places ≤ length j → length j ≤ most_held → AreCutoutEvents lanes j places drawn
    → AreArrowPlaces (length places) incoming → HasPictureLayout lanes_count drawn incoming
drawn_cutout_has_layout n lanes_count {lanes = lanes} {places = places} {drawn = drawn} {incoming = incoming} lanes_long lanes_few few_processors short few are rows = record {
  few = (let long = are.long in omega arith);
  few_processors = omega arith;
  processors = processors;
  places = subst (λ m. AreArrowPlaces m incoming) (sym are.long) rows;
}
  where
    processors : EventProcessorsInRange lanes_count drawn
    processors r e at =
        let within = slice_get_within drawn r e at in
        let long = are.long in
        let k = slice_index_or places r 0 in
        let place : slice_get places r ≡ Some k = slice_get-get_or places r 0 (omega arith) in
        let is = are.each r k e place at in
        let low = slice_get_within lanes e.processor is.event.processor is.lane in
        omega arith
