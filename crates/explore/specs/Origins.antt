-- Where the states of a search come from.
use Rattle.std.specs.Prelude.{ℕ, ◌≡◌, ◌+◌, ◌-◌, ◌^◌, ◌≤◌, List, [], ◌∷◌, drop, length, map, slice_index_or, take}
use Rattle.explore.specs.declared.state.origins.Origin.{Origin}
use Rattle.explore.specs.declared.state.origins.Origins.{Origins}
use Rattle.explore.specs.declared.state.wait_code.ProcessorNumber.{ProcessorNumber}

-- the most makers of one origin
abbrev pub most_origin_makers : ℕ
most_origin_makers = 16

-- so many origins have places, and makers up to their ends, of 32 bits
abbrev pub most_state_origins : ℕ
most_state_origins = 2 ^ 28

-- a state comes from the earlier one at this place, by events of these processors
pub record StateOrigin : Type 0 where
  pub from : ℕ
  pub makers : List ProcessorNumber

-- of so many makers on each origin has those up to where it ends
abbrev pub state_origins_from : ℕ → List Origin → List ProcessorNumber → List StateOrigin
state_origins_from start [] makers = []
state_origins_from start (o ∷ os) makers = record { from = o.from; makers = take (o.ends - start) (drop start makers) } ∷ state_origins_from o.ends os makers

-- where each state but the first one comes from
abbrev pub state_origins : Origins → List StateOrigin
state_origins x = state_origins_from 0 x.origins.items x.makers.items

-- an origin's makers begin where those before it end
abbrev pub origin_start : List Origin → ℕ → ℕ
origin_start os i = slice_index_or (0 ∷ map (λ (o : Origin). o.ends) os) i 0

-- each ends behind those before it, with no more makers than one has, and the last one where the makers do
abbrev pub AreOriginsInOrderFrom : ℕ → List Origin → ℕ → Type 0
AreOriginsInOrderFrom start [] many = start ≡ many
AreOriginsInOrderFrom start (o ∷ os) many = (start ≤ o.ends) × (o.ends ≤ start + most_origin_makers) × AreOriginsInOrderFrom o.ends os many

abbrev pub AreOriginsInOrder : Origins → Type 0
AreOriginsInOrder x = AreOriginsInOrderFrom 0 x.origins.items (length x.makers.items)
