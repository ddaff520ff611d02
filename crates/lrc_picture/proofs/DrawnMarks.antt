-- Marks, one after the other.
use Rattle.std.proofs.Common.{◌≡◌, ℕ, inl, inr, List, [], ◌∷◌, ◌++◌, length, subst, arith}
use Rattle.base.proofs.SlicesAndCounts.{slice_push_cases}
use Rattle.journal.specs.declared.event.Event.{Event}
use Rattle.lrc_picture.specs.declared.picture_grid.PictureGrid.{PictureGrid}
use Rattle.lrc_picture.specs.declared.marks.Mark.{Mark}
use Rattle.lrc_picture.specs.Marks.{ArePictureMarksOf, IsPictureMarkOf}

pub drawn_marks_next : (g : PictureGrid) (j : List Event) (marks : List Mark) (k : ℕ) (m : Mark) → length marks ≡ k
    → ArePictureMarksOf g j marks → IsPictureMarkOf g j k m → ArePictureMarksOf g j (marks ++ m ∷ [])
drawn_marks_next g j marks k m long are now n other at = elim (slice_push_cases marks m n other at) [
  | inl old ↦ are n other old.1
  | inr new ↦
      (let is : k ≡ n = omega (arith, new.0) in
      subst (IsPictureMarkOf g j n) new.1 (subst (λ i. IsPictureMarkOf g j i m) is now))
]
