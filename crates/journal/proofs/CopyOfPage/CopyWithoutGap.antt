-- An own store and a fetch done to a copy, and when a copy is lawful.
use Rattle.std.proofs.Common.{ℕ, List}
use Rattle.journal.specs.declared.event.Event.{Event}
use Rattle.journal.specs.Sizes.{Sizes}
use Rattle.journal.specs.Pasts.{InPast}
use Rattle.journal.specs.PageImages.{Lawful}
use Rattle.journal.specs.BroughtCopy.{BroughtToCopy, IsBroughtCopy, BroughtCopyHasNoGap}
use Rattle.journal.proofs.CopyOfPage.LawfulImages.{lawful_image_among}
use Rattle.journal.proofs.CopyOfPage.Brought.{brought_past, brought_is_complete}

-- a copy that lacks nothing is lawful
pub copy_without_gap_lawful : (s : Sizes) (j : List Event) (p n : ℕ) (page : List ℕ) → BroughtCopyHasNoGap s j p n → IsBroughtCopy s j p n page
    → Lawful s j p n page
copy_without_gap_lawful s j p n page none copy =
    lawful_image_among s j (BroughtToCopy j p n) (InPast j p) n page
    (λ i x. (brought_past j p n i, brought_is_complete s j p n page none copy i x)) copy.image
