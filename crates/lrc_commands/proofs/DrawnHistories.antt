-- What is drawn of a history: the events that are left, with the places of its hand-overs. Places are counted from the first of
-- these, so each lies below their number.
use Rattle.std.proofs.Common.{◌≡◌, ℕ, ◌-◌, ◌<◌, ◌≤◌, List, Some, drop, length, slice_get, slice_index_or, refl, ap, subst, sym, ◌∙◌, arith, length-drop}
use Rattle.std.specs.Prelude.{All}
use Rattle.std.specs.Global.{Vec}
use Rattle.std.proofs.lemmas.Option.{slice_get-get_or}
use Rattle.base.specs.Limits.{most_held}
use Rattle.base.specs.InOrderOnce.{Has}
use Rattle.journal.specs.declared.event.Event.{Event}
use Rattle.journal.specs.EventsInRange.{EventProcessorsInRange}
use Rattle.journal.proofs.Order.EventPlacesAndCounts.{event_place_inside}
use Rattle.judge.specs.JudgedSizes.{most_judged_processors}
use Rattle.judge.specs.SizedHistory.{SizedHistory}
use Rattle.lrc_picture.specs.Arrows.{AreArrowPlaces}
use Rattle.lrc_picture.specs.PictureLayout.{HasPictureLayout}
use Rattle.causes.specs.HandOvers.{AreAllHandOvers}

-- all items have it where each does
drawn_history_all_of : {A : Type 0} (P : A → Type 0) (xs : List A) → ((x : A) → Has xs x → P x) → All P xs
drawn_history_all_of P xs each = λ k d within. each (slice_index_or xs k d) (k, slice_get-get_or xs k d within)

-- the hand-overs to a history's events stand within it
pub drawn_history_hand_overs_within : (j : List Event) (rows : List (Vec ℕ)) → AreAllHandOvers j rows
    → AreArrowPlaces (length rows) rows
drawn_history_hand_overs_within j rows are = record {
  long = refl;
  within = λ k row at. drawn_history_all_of (λ i. i < length rows) row.items (λ i has.
      let edge = ((are.each k row at).each i has).leads.edge in
      let long = are.long in
      rw long (event_place_inside j i edge.from edge.from_at));
}

-- each place of the first rows lies below n
abbrev pub AreDrawnHistoryPlacesBelow : ℕ → List (Vec ℕ) → Type 0
AreDrawnHistoryPlacesBelow n rows = (k : ℕ) (places : Vec ℕ) → slice_get rows k ≡ Some places → All (λ i. i < n) places.items

-- the events that are left can be drawn
pub drawn_history_of_left : {n : ℕ} {left : List Event} {rows : List (Vec ℕ)} (h : SizedHistory) → left ≡ drop h.opening h.events
    → n ≡ h.sizes.processors → length left ≤ most_held → h.sizes.processors ≤ most_judged_processors
    → EventProcessorsInRange h.sizes.processors left → AreArrowPlaces (length h.events - h.opening) rows → HasPictureLayout n left rows
drawn_history_of_left {n} {left} {rows} h is same few few_processors processors places = record {
  few = few;
  few_processors = omega arith;
  processors = subst (λ k. EventProcessorsInRange k left) (sym same) processors;
  places = subst (λ k. AreArrowPlaces k rows) (sym (ap (λ (xs : List Event). length xs) is ∙ length-drop h.opening h.events))
      places;
}
