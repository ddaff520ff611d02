-- What a copy of a page has to be from a base.
use Rattle.std.specs.Prelude.{ℕ, ◌≡◌, ◌*◌, ◌↔◌, List, take, drop}
use Rattle.journal.specs.declared.event.Event.{Event}
use Rattle.base.specs.InOrderOnce.{Has, InOrder, IsOnce}
use Rattle.journal.specs.Sizes.{Sizes}
use Rattle.journal.specs.PageImages.{StoresToPageImage, page_image_after}
use Rattle.journal.specs.Base.{Base}
use Rattle.journal.specs.HappensBeforeFromBase.{HappensBeforeFromBase, InPastFromBase}

-- page n of the base
abbrev pub base_page_image : Sizes → Base → ℕ → List ℕ
base_page_image s b n = take s.words (drop (n * s.words) b.memory)

-- the base's page after exactly the stores to page n among these places, in an order that extends happens-before
pub record IsPageImageFromBase (s : Sizes) (b : Base) (j : List Event) (among : ℕ → Type 0) (n : ℕ) (page : List ℕ) : Type 0
  where
    pub order : List ℕ
    pub each : (i : ℕ) → Has order i ↔ (among i × StoresToPageImage s j n i)
    pub once : IsOnce order
    pub extends : InOrder (λ i k. ¬ HappensBeforeFromBase b j k i) order
    pub gives : page ≡ page_image_after s j (base_page_image s b n) order

-- the copy is what p's past within the journal makes of the base's page
abbrev pub LawfulPageImageFromBase : Sizes → Base → List Event → ℕ → ℕ → List ℕ → Type 0
LawfulPageImageFromBase s b j p n page = IsPageImageFromBase s b j (InPastFromBase b j p) n page
