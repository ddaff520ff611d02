-- Where a processor's calls get: into its open block, and with that into the history, and where it fetches.
use Rattle.std.specs.Prelude.{ℕ, ◌≡◌, ◌⊎◌, ◌/◌, cond, nat_lt, Option, Some, None, List, [], ◌∷◌, ◌++◌, length, map}
use Rattle.base.specs.Limits.{most_in_block}
use Rattle.journal.specs.declared.event.Event.{Event}
use Rattle.journal.specs.declared.event.Kind.{Kind}
use Rattle.journal.specs.declared.event.Kind.TheVariants.{Fetch}
use Rattle.journal.specs.BroughtCopy.{BroughtCopyHasNoGap}
use Rattle.journal.specs.DidEvent.{event}
use Rattle.journal.specs.Events.{event_address}
use Rattle.journal.specs.PageImages.{GapCounts}
use Rattle.journal.specs.Sizes.{Sizes}

-- the history so far, and behind it a processor's open block: what it has done that isn't in the history yet
pub record OpenBlock : Type 0 where
  pub history : List Event
  pub pending : List Kind

abbrev pub open_block : List Event → List Kind → OpenBlock
open_block h kinds = record { history = h; pending = kinds }

-- the history, if p handed its block in
abbrev pub open_block_handed_in : ℕ → OpenBlock → List Event
open_block_handed_in p x = x.history ++ map (event p) x.pending

-- one more in p's block, which is handed in before if it is full
abbrev pub open_block_noted : ℕ → Kind → OpenBlock → OpenBlock
open_block_noted p k x = cond (nat_lt (length x.pending) most_in_block) (open_block x.history (x.pending ++ k ∷ []))
    (open_block (open_block_handed_in p x) (k ∷ []))

-- p's copy of page n lacks something, and this is the fetch that counts it
pub record IsFetchDueForOpenBlock (s : Sizes) (h : List Event) (p n : ℕ) (k : Kind) : Type 0 where
  pub gap : ¬ BroughtCopyHasNoGap s h p n
  pub writers : ℕ
  pub records : ℕ
  pub words : ℕ
  pub counts : GapCounts s h p n writers records words
  pub kind_is : k ≡ Fetch writers n records words

-- p's access to page n is noted, and before it a fetch of the page exactly if p's copy lacks something
abbrev pub OpenBlockNotesAccess : Sizes → ℕ → ℕ → Kind → OpenBlock → OpenBlock → Type 0
OpenBlockNotesAccess s p n k x y = (BroughtCopyHasNoGap s (open_block_handed_in p x) p n × (y ≡ open_block_noted p k x))
    ⊎ ((fetch : Kind) × IsFetchDueForOpenBlock s (open_block_handed_in p x) p n fetch × (y ≡ open_block_noted p k (open_block_noted p fetch x)))

-- p's call, by the address that it accesses; any other call hands p's block in, with itself at the end
abbrev pub OpenBlockNotesAt : Sizes → ℕ → Kind → Option ℕ → OpenBlock → OpenBlock → Type 0
OpenBlockNotesAt s p k (Some a) x y = OpenBlockNotesAccess s p (a / s.words) k x y
OpenBlockNotesAt s p k None x y = y ≡ open_block (open_block_handed_in p x ++ event p k ∷ []) []

-- p's calls, one after another
abbrev pub OpenBlockNotesAll : Sizes → ℕ → List Kind → OpenBlock → OpenBlock → Type 0
OpenBlockNotesAll s p [] x y = y ≡ x
OpenBlockNotesAll s p (k ∷ kinds) x y =
    (between : OpenBlock) × OpenBlockNotesAt s p k (event_address k) x between × OpenBlockNotesAll s p kinds between y
