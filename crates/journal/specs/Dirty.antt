-- A page's dirty bits: what its processor stored there since its last closing event.
use Rattle.std.specs.Prelude.{ℕ, ◌≡◌, Bool, false, List, length, replicate}
use Rattle.journal.specs.declared.event.Event.{Event}
use Rattle.base.specs.LastWrite.{written}
use Rattle.base.specs.AppliedRecords.{marked_writes}
use Rattle.journal.specs.Sizes.{Sizes}
use Rattle.journal.specs.Blocks.{block_write}
use Rattle.journal.specs.IntervalContents.{open_interval_contents}

-- p's stores to page n since its last closing event made `page` of `clean`, and set these marks
pub record IsDirty (s : Sizes) (j : List Event) (p n : ℕ) (page : List ℕ) (marks : List Bool) : Type 0 where
  pub clean : List ℕ
  pub long : length clean ≡ s.words
  pub page_is : page ≡ written (λ (e : Event). block_write s n e.kind) clean (open_interval_contents j p)
  pub marks_are : marks ≡ marked_writes (λ (e : Event). block_write s n e.kind) (replicate s.words false) (open_interval_contents j p)
