-- Values that a processor works out from what it loads.
use Rattle.std.specs.Prelude.{ℕ, ◌≡◌, ◌<◌, ◌≤◌, List, [], ◌∷◌, ◌++◌}
use Rattle.journal.specs.declared.event.Kind.{Kind}
use Rattle.journal.specs.declared.event.Kind.TheVariants.{Load}
use Rattle.cluster.specs.Copies.Local.{Local}
use Rattle.seats.specs.Sitting.{seat_deeds}
use Rattle.seats.specs.Tenures.{TenureAnswersFrom}

-- each of these is a load of an address from one up to before another
abbrev pub LoadsWithin : ℕ → ℕ → List Kind → Type 0
LoadsWithin from to [] = Unit {0}
LoadsWithin from to (Load a v ∷ ks) = ((from ≤ a) × (a < to)) × LoadsWithin from to ks
LoadsWithin from to (k ∷ ks) = ⊥

-- it has only loaded such addresses, and of any memory that answers so this is the value
pub record LoadsValue {X : Type 0} (from to : ℕ) (value : List ℕ → X) (old new : Local) (x : X) : Type 0 where
  pub loads : List Kind
  pub within : LoadsWithin from to loads
  pub deeds_are : seat_deeds new ≡ seat_deeds old ++ loads
  pub value_is : (memory : List ℕ) → TenureAnswersFrom memory loads → value memory ≡ x
