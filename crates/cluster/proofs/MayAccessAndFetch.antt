-- What it means that a call is not refused.
use Rattle.std.proofs.Common.{ℕ, ◌≡◌, ◌<◌, ◌/◌, Bool, true, false, not, nat_le, cond, Option, Some, None, List, refl, sym, ap, ◌∙◌, length, slice_get, get_or, subst, subst₂, is_some}
use Rattle.std.specs.Option.{option_map}
use Rattle.std.proofs.lemmas.Option.{none-some, get_or_from_slice_get, slice_get_within}
use Rattle.std.proofs.lemmas.Bool.{leb-false, not-false}
use Rattle.page.specs.declared.page.Access.{Access}
use Rattle.page.specs.declared.page.Access.TheVariants.{Valid, Invalid}
use Rattle.book.specs.declared.refused.Refused.{Refused}
use Rattle.journal.specs.Sizes.{addresses}
use Rattle.base.specs.Limits.{most_in_block}
use Rattle.cluster.specs.Copies.PageReplica.{PageReplica, may_use_page_replica}
use Rattle.cluster.specs.Copies.Local.{Local}
use Rattle.cluster.specs.ProcessorRefusals.{processor_refusal_copy_serves, processor_refusal_has_valid, processor_refusal_is_waiting, processor_refusal_block_full, processor_refusal_of_access, processor_refusal_of_fetch}

-- what becomes of what is there is there
pub may_access_mapped : {A B : Type 0} (f : A → B) (o : Option A) → is_some (option_map f o) ≡ is_some o
may_access_mapped f None = refl
may_access_mapped f (Some a) = refl

-- the first doesn't apply, nor do the others
pub may_access_due_none : (b : Bool) (r : Refused) (rest : Option Refused) → cond b (Some r) rest ≡ None
    → (b ≡ false) × (rest ≡ None)
may_access_due_none true r rest h = absurd (none-some r (sym h))
may_access_due_none false r rest h = (refl, h)

-- what is not there is nothing
pub may_access_unawaited : {A : Type 0} (o : Option A) → is_some o ≡ false → o ≡ None
may_access_unawaited None h = refl
may_access_unawaited (Some x) h = absurd (cc)

-- a copy that serves is there and valid
pub may_access_serving : (o : Option PageReplica) → processor_refusal_copy_serves o ≡ true → (c : PageReplica) × (o ≡ Some c) × (c.page.access ≡ Valid)
may_access_serving None h = absurd (cc)
may_access_serving (Some c) h = (c, refl, usable c.page.access h)
  where
    usable : (a : Access) → may_use_page_replica a ≡ true → a ≡ Valid
    usable Valid h = refl
    usable Invalid h = absurd (cc)

-- a load or a store at this address is not refused
pub record MayAccess (m : Local) (a : ℕ) : Type 0 where
  pub within : a < addresses m.sizes
  pub copy : PageReplica
  pub at : slice_get m.copies (a / m.sizes.words) ≡ Some copy
  pub valid : copy.page.access ≡ Valid
  pub idle : m.awaits ≡ None
  pub room : length m.block < most_in_block

pub may_access : (m : Local) (a : ℕ) → processor_refusal_of_access m a ≡ None → MayAccess m a
may_access m a none =
    let one = may_access_due_none (nat_le (addresses m.sizes) a) _ _ none in
    let two = may_access_due_none (not (processor_refusal_has_valid m (a / m.sizes.words))) _ _ one.1 in
    let three = may_access_due_none (processor_refusal_is_waiting m) _ _ two.1 in
    let four = may_access_due_none (processor_refusal_block_full m) _ _ three.1 in
    let found = may_access_serving (slice_get m.copies (a / m.sizes.words)) (not-false _ two.0) in
    record {
      within = leb-false (addresses m.sizes) a one.0;
      copy = found.0;
      at = found.1;
      valid = found.2;
      idle = may_access_unawaited m.awaits three.0;
      room = leb-false most_in_block (length m.block) four.0;
    }

-- the copy that is read at the address's page is the processor's
pub may_access_copy_read : (was m : Local) (a page : ℕ) (x : PageReplica) → was ≡ m → processor_refusal_of_access m a ≡ None
    → page ≡ a / m.sizes.words → x ≡ get_or was.copies page x
    → (slice_get m.copies (a / m.sizes.words) ≡ Some x) × (x.page.access ≡ Valid)
may_access_copy_read was m a page x same free place read =
    let may = may_access m a free in
    let P : List PageReplica → ℕ → Type 0 = λ xs k. x ≡ get_or xs k x in
    let is : x ≡ may.copy =
    subst₂ P (ap (λ (l : Local). l.copies) same) place read
    ∙ get_or_from_slice_get m.copies (a / m.sizes.words) may.copy x may.at in
    (may.at ∙ ap (λ (c : PageReplica). Some c) (sym is), ap (λ (c : PageReplica). c.page.access) is ∙ may.valid)

-- it has a place among the copies,
pub may_access_place_within : (was m : Local) (a page : ℕ) → was ≡ m → processor_refusal_of_access m a ≡ None → page ≡ a / m.sizes.words
    → page < length was.copies
may_access_place_within was m a page same free place =
    let may = may_access m a free in
    subst₂ (λ (l : Local) (k : ℕ). k < length l.copies) (sym same) (sym place)
    (slice_get_within m.copies (a / m.sizes.words) may.copy may.at)

-- and the open block has room for the event
pub may_access_room_within : (was m : Local) (a : ℕ) → was ≡ m → processor_refusal_of_access m a ≡ None → length was.block < most_in_block
may_access_room_within was m a same free =
    subst (λ (l : Local). length l.block < most_in_block) (sym same) (may_access m a free).room

-- a fetch of this page is not refused
pub record MayFetch (m : Local) (n : ℕ) : Type 0 where
  pub within : n < m.sizes.pages
  pub idle : m.awaits ≡ None
  pub room : length m.block < most_in_block
  pub invalid : processor_refusal_has_valid m n ≡ false

pub may_fetch : (m : Local) (n : ℕ) → processor_refusal_of_fetch m n ≡ None → MayFetch m n
may_fetch m n none =
    let one = may_access_due_none (nat_le m.sizes.pages n) _ _ none in
    let two = may_access_due_none (processor_refusal_is_waiting m) _ _ one.1 in
    let three = may_access_due_none (processor_refusal_block_full m) _ _ two.1 in
    let four = may_access_due_none (processor_refusal_has_valid m n) _ _ three.1 in
    record {
      within = leb-false m.sizes.pages n one.0;
      idle = may_access_unawaited m.awaits two.0;
      room = leb-false most_in_block (length m.block) three.0;
      invalid = four.0;
    }

-- so the copy is not valid
pub may_fetch_stale_copy : (m : Local) (n : ℕ) (c : PageReplica) → processor_refusal_of_fetch m n ≡ None → slice_get m.copies n ≡ Some c
    → c.page.access ≡ Invalid
may_fetch_stale_copy m n c free at = unusable c.page.access (ap processor_refusal_copy_serves (sym at) ∙ (may_fetch m n free).invalid)
  where
    unusable : (a : Access) → may_use_page_replica a ≡ false → a ≡ Invalid
    unusable Valid h = absurd (cc)
    unusable Invalid h = refl
