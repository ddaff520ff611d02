-- The order of a round, and the orders in which processors are tried for turns that are drawn.
use Rattle.std.specs.Prelude.{ℕ, ◌+◌, ◌<◌, List, [], ◌∷◌, Option, Some, None, All, slice_index_or, take}
use Rattle.conformance.specs.Draws.{Drawing}
use Rattle.lrc_run.specs.declared.steps.pace.Pace.{Pace}

-- all of these are numbers of processors, of which there are n
abbrev pub AreDrawnOrderProcessors : ℕ → List ℕ → Type 0
AreDrawnOrderProcessors n xs = All (λ p. p < n) xs

-- whoever stands at this place, if there is one
abbrev pub drawn_order_chosen : List ℕ → Option ℕ → List ℕ
drawn_order_chosen order None = []
drawn_order_chosen order (Some place) = slice_index_or order place 0 ∷ []

-- all that were tried for it: those up to this place, or the whole order
abbrev pub drawn_order_tried : List ℕ → Option ℕ → List ℕ
drawn_order_tried order None = order
drawn_order_tried order (Some place) = take (place + 1) order

-- the order of the next turn, and the generator
abbrev pub pace_drawing : Pace → Drawing
pace_drawing p = record { order = p.order.items; generator = p.generator }
