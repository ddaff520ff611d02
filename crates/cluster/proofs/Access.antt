-- Why a load or a store is refused, by the copy that is found at the address's page.
use Rattle.std.proofs.Common.{ℕ, ◌≡◌, ◌<◌, ◌≤◌, ◌*◌, ◌/◌, not, Option, Some, List, [], ◌∷◌, inl, inr, refl, sym, ap, ◌∙◌, length, slice_get, get_or, subst, arith}
use Rattle.std.proofs.lemmas.Nat.{le-div, div_below}
use Rattle.std.proofs.lemmas.Option.{slice_get-get_or, slice_get_within}
use Rattle.std.proofs.lemmas.Bool.{cases_lt, le-leb, lt-leb}
use Rattle.book.specs.declared.refused.Refused.{Refused}
use Rattle.book.specs.declared.refused.Refused.TheVariants.{OutOfRange, Waiting, BlockFull}
use Rattle.book.specs.declared.refused.Refused.TheVariants as refused
use Rattle.journal.specs.Sizes.{addresses}
use Rattle.cluster.specs.Copies.PageReplica.{PageReplica, may_use_page_replica}
use Rattle.cluster.specs.Copies.Local.{Local}
use Rattle.cluster.specs.Copies.Sound.{IsSound}
use Rattle.cluster.specs.ProcessorRefusals.{first_processor_refusal_due, processor_refusal_is_waiting, processor_refusal_block_full, processor_refusal_of_access}

-- where there is no such page, the address is past the last
access_over : (n w a : ℕ) → 0 < w → n ≤ a / w → n * w ≤ a
access_over n w a some past = elim (cases_lt a (n * w)) [
  | inl less ↦ (let t = div_below a w n some less in absurd (omega arith))
  | inr more ↦ more
]

-- and where there is one, it is not
access_under : (n w a : ℕ) → 0 < w → a / w < n → a < n * w
access_under n w a some within = elim (cases_lt a (n * w)) [
  | inl less ↦ less
  | inr more ↦ (let t = le-div n a w some more in absurd (omega arith))
]

-- the copy that is found at the address's page is the processor's
pub access_copy_found : (was m : Local) (a : ℕ) (xs : List PageReplica) (x : PageReplica) → was ≡ m
    → xs ≡ was.copies → a / was.sizes.words < length xs → x ≡ get_or xs (a / was.sizes.words) x
    → slice_get m.copies (a / m.sizes.words) ≡ Some x
access_copy_found was m a xs x same items within read =
    let i = a / was.sizes.words in
    let at : slice_get xs i ≡ Some x =
    slice_get-get_or xs i x within ∙ ap (λ (c : PageReplica). Some c) (sym read) in
    subst (λ (l : Local). slice_get l.copies (a / l.sizes.words) ≡ Some x) same
    (subst (λ (cs : List PageReplica). slice_get cs i ≡ Some x) items at)

-- past the last copy there is no address
pub access_past : (was m : Local) (a : ℕ) (xs : List PageReplica) → was ≡ m → IsSound m
    → xs ≡ was.copies → length xs ≤ a / was.sizes.words → Some OutOfRange ≡ processor_refusal_of_access m a
access_past was m a xs same sound items past =
    let none : length m.copies ≤ a / m.sizes.words =
    subst (λ (l : Local). length l.copies ≤ a / l.sizes.words) same
    (subst (λ (cs : List PageReplica). length cs ≤ a / was.sizes.words) items past) in
    let long = sound.copies.long in
    let some = sound.sizes.some_words in
    let beyond = access_over m.sizes.pages m.sizes.words a some (omega arith) in
    rw (le-leb (addresses m.sizes) a beyond) refl

-- where there is one, the copy says why, and after it the block
pub access_at : (was m : Local) (a : ℕ) (c : PageReplica) (r : Option Refused) → was ≡ m → IsSound m
    → slice_get m.copies (a / m.sizes.words) ≡ Some c
    → r ≡ first_processor_refusal_due (
    (not (may_use_page_replica c.page.access), refused.Invalid (a / was.sizes.words))
    ∷ (processor_refusal_is_waiting m, Waiting)
    ∷ (processor_refusal_block_full m, BlockFull) ∷ [])
    → r ≡ processor_refusal_of_access m a
access_at was m a c r same sound at why =
    let long = sound.copies.long in
    let below = slice_get_within m.copies (a / m.sizes.words) c at in
    let some = sound.sizes.some_words in
    let within = access_under m.sizes.pages m.sizes.words a some (omega arith) in
    rw (lt-leb (addresses m.sizes) a within, at)
    (subst (λ (l : Local). r ≡ first_processor_refusal_due (
    (not (may_use_page_replica c.page.access), refused.Invalid (a / l.sizes.words))
    ∷ (processor_refusal_is_waiting m, Waiting)
    ∷ (processor_refusal_block_full m, BlockFull) ∷ [])) same why)
