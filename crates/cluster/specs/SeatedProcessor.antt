-- A processor on its chair.
use Rattle.std.specs.Prelude.{ℕ, ◌≡◌, Bool, Option, List}
use Rattle.journal.specs.declared.event.Event.{Event}
use Rattle.journal.specs.declared.event.Kind.{Kind}
use Rattle.journal.specs.Sizes.{Sizes}
use Rattle.turn.specs.Chairs.{lock, chair_place, chair_view, entries, IsChairOutside}
use Rattle.turn.specs.declared.chair.ChairToken.{ChairToken}
use Rattle.book.specs.BookState.{BookState}
use Rattle.cluster.specs.declared.keeper.View.{View}
use Rattle.cluster.specs.Copies.PageReplica.{PageReplica}
use Rattle.cluster.specs.Copies.Local.{Local}

-- the processor with these parts
abbrev pub seated_processor : ChairToken BookState View → ℕ → Sizes → List Event → List PageReplica → List Bool → List ℕ → List Bool
    → Option Kind → Local
seated_processor chair p s block copies stored time held awaits = record {
  lock = lock chair;
  entries = entries chair;
  number = p;
  sizes = s;
  seen = (chair_view chair).seen;
  cut = (chair_view chair).cut;
  own_cut = (chair_view chair).own_cut;
  block = block;
  copies = copies;
  stored = stored;
  time = time;
  held = held;
  awaits = awaits;
}

-- the chair of processor p of a cluster of these sizes, which is outside
pub record IsChairOfSeatedProcessor (chair : ChairToken BookState View) (p : ℕ) (s : Sizes) : Type 0 where
  pub place_is : chair_place chair ≡ p
  pub shape_is : (chair_view chair).shape ≡ s
  pub outside : IsChairOutside chair
