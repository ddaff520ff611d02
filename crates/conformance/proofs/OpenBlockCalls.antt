-- Calls noted in an open block, one after another.
use Rattle.std.proofs.Common.{ℕ, ◌≡◌, Option, None, List, [], ◌∷◌, ◌++◌, refl, sym, subst}
use Rattle.journal.specs.declared.event.Kind.{Kind}
use Rattle.journal.specs.DidEvent.{event}
use Rattle.journal.specs.Events.{event_address}
use Rattle.journal.specs.Sizes.{Sizes}
use Rattle.conformance.specs.OpenBlocks.{OpenBlockNotesAll, OpenBlockNotesAt, OpenBlock, open_block_handed_in, open_block}

-- the first calls, and then the others
pub open_block_calls-append : (s : Sizes) (p : ℕ) (ks ls : List Kind) (x y z : OpenBlock) → OpenBlockNotesAll s p ks x y
    → OpenBlockNotesAll s p ls y z → OpenBlockNotesAll s p (ks ++ ls) x z
open_block_calls-append s p [] ls x y z first next = subst (λ w. OpenBlockNotesAll s p ls w z) first next
open_block_calls-append s p (k ∷ ks) ls x y z first next =
    (first.0, first.1, open_block_calls-append s p ks ls first.0 y z first.2 next)

-- one call that is no access
pub open_block_calls_plain : (s : Sizes) (p : ℕ) (k : Kind) (x y : OpenBlock) → event_address k ≡ None
    → y ≡ open_block (open_block_handed_in p x ++ event p k ∷ []) [] → OpenBlockNotesAll s p (k ∷ []) x y
open_block_calls_plain s p k x y plain is = (y, subst (λ (o : Option ℕ). OpenBlockNotesAt s p k o x y) (sym plain) is, refl)
