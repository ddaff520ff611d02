-- What makes an access ready.
use Rattle.std.proofs.Common.{ℕ, zero, suc, Bool, true, false, ◌≡◌, ◌≢◌, ◌<◌, ◌+◌, ◌*◌, ◌⊎◌, inl, inr, Some, None, Result, Ok, Err, OnOk, IfOk, [], ◌∷◌, length, refl, sym, ap, subst, ◌∙◌, arith}
use Rattle.std.specs.Prelude.{◌/◌, IsOk, is_some, not, nat_le}
use Rattle.std.specs.Result.{result_err}
use Rattle.std.proofs.lemmas.Bool.{le-leb, leb-false, lt-leb, not-false}
use Rattle.std.proofs.lemmas.Nat.{div_below}
use Rattle.std.proofs.lemmas.Option.{same_Some, slice_get_within}
use Rattle.base.specs.Limits.{most_in_block}
use Rattle.base.proofs.SliceSets.{slice_get-set_same}
use Rattle.journal.specs.Sizes.{Sizes, addresses}
use Rattle.book.specs.declared.refused.Refused.{Refused}
use Rattle.book.specs.declared.refused.Refused.TheVariants.{OutOfRange, Invalid, Waiting, BlockFull}
use Rattle.cluster.specs.Copies.Local.{Local}
use Rattle.cluster.specs.Copies.PageReplica.{page_replica_fetched}
use Rattle.cluster.specs.AccessDone.{FetchAccessDone}
use Rattle.cluster.specs.Covers.{HasCoverage}
use Rattle.cluster.specs.ProcessorCalls.{IsProcessorHandingCall}
use Rattle.cluster.specs.ProcessorRefusals.{first_processor_refusal_due, processor_refusal_at_once, processor_refusal_block_full, processor_refusal_copy_serves, processor_refusal_has_valid, processor_refusal_is_waiting, processor_refusal_of_access, processor_refusal_of_fetch}
use Rattle.cluster.specs.ReadyAccess.{HasAccessRoom, IsAccessBrought, IsAccessFetchDue, IsAccessFetched, IsAccessFetchedBy, IsAccessReady, IsAccessReadyBy, IsAccessRoomBy, IsAccessUnready, IsReadyAccess, IsReadyAccessRefused, IsWordAccessDone}
use Rattle.cluster.specs.declared.cluster.accessing.WordAccess.{WordAccess}
use Rattle.cluster.proofs.MayAccessAndFetch.{may_access_due_none}

-- a block that lacks no event any more, and one with room
pub ready_access_room_none : (m : Local) (room : ℕ) → room + length m.block ≡ most_in_block → room ≡ 0 → processor_refusal_block_full m ≡ true
ready_access_room_none m room is none = le-leb most_in_block (length m.block) (omega (arith, is, none))

pub ready_access_room_some : (m : Local) (room : ℕ) → room + length m.block ≡ most_in_block → room ≢ 0 → processor_refusal_block_full m ≡ false
ready_access_room_some m zero is some = absurd (some refl)
ready_access_room_some m (suc r) is some = lt-leb most_in_block (length m.block) (omega (arith, is))

-- a full block that was handed in, or couldn't be
pub ready_access_handed : {A : Type 0} (m n : Local) (r : Result A Refused) → processor_refusal_block_full m ≡ true
    → IsProcessorHandingCall m n (result_err r) → IsAccessRoomBy m n r
ready_access_handed m n (Ok x) full call = inr (full, call)
ready_access_handed m n (Err e) full call = (full, call)

-- with room it is the same processor, awaits the same, and has the same copies
record IsAccessRoomMade (old new : Local) : Type 0 where
  sizes : new.sizes ≡ old.sizes
  awaits : new.awaits ≡ old.awaits
  valid : (page : ℕ) → processor_refusal_has_valid new page ≡ processor_refusal_has_valid old page
  room : processor_refusal_block_full new ≡ false

ready_access_room_made : (m n : Local) → HasAccessRoom m n → IsAccessRoomMade m n
ready_access_room_made m n (inl had) = record {
  sizes = ap (λ (l : Local). l.sizes) had.1;
  awaits = ap (λ (l : Local). l.awaits) had.1;
  valid = λ page. ap (λ (l : Local). processor_refusal_has_valid l page) had.1;
  room = ap processor_refusal_block_full had.1 ∙ had.0;
}
ready_access_room_made m n (inr handed) = let done = (handed.1.ok refl).0 in record {
  sizes = handed.1.same.sizes;
  awaits = ap (λ (l : Local). l.awaits) done.after;
  valid = λ page. ap (λ (l : Local). processor_refusal_has_valid l page) done.after;
  room = ap processor_refusal_block_full done.after;
}

-- a fetch that is due isn't refused in a block with room
pub ready_access_fetched_by : {A : Type 0} (l m n : Local) (page : ℕ) (r : Result A Refused) → HasAccessRoom l m → IsAccessFetchDue l page
    → result_err r ≡ processor_refusal_of_fetch m page → OnOk r (FetchAccessDone m page n) → HasCoverage n → IsAccessFetchedBy l page n r
ready_access_fetched_by l m n page (Ok x) room due is done covers =
    record { due = due; roomy = m; room = room; done = done; covers = covers }
ready_access_fetched_by l m n page (Err e) room due is done covers = absurd (let some : Some e ≡ None = is ∙ free in cc)
  where
    made : IsAccessRoomMade l m
    made = ready_access_room_made l m room

    free : processor_refusal_of_fetch m page ≡ None
    free =
        rw (
          ap (λ (s : Sizes). nat_le s.pages page) made.sizes ∙ due.within,
          ap is_some made.awaits ∙ due.idle,
          made.room,
          made.valid page,
          due.stale,
        ) refl

-- a copy that was fetched is valid
ready_access_fetched_valid : (m n : Local) (page : ℕ) → FetchAccessDone m page n → processor_refusal_has_valid n page ≡ true
ready_access_fetched_valid m n page done =
    ap (λ (l : Local). processor_refusal_has_valid l page) done.after
    ∙ ap processor_refusal_copy_serves
    (slice_get-set_same m.copies page (page_replica_fetched done.copy) (slice_get_within m.copies page done.copy done.at))

-- with its page brought it is the same processor, and awaits the same
ready_access_brought_same : (l m : Local) (a : ℕ) → IsAccessBrought l a m → (m.sizes ≡ l.sizes) × (m.awaits ≡ l.awaits)
ready_access_brought_same l m a brings = elim brings.fetched [
  | inl same ↦ (ap (λ (x : Local). x.sizes) same, ap (λ (x : Local). x.awaits) same)
  | inr fetched ↦ (let made = ready_access_room_made l fetched.roomy fetched.room in (
    ap (λ (x : Local). x.sizes) fetched.done.after ∙ made.sizes,
    ap (λ (x : Local). x.awaits) fetched.done.after ∙ made.awaits,
  ))
]

-- what is before the last address is in a page
ready_access_page_within : (s : Sizes) (a : ℕ) → nat_le (addresses s) a ≡ false → nat_le s.pages (a / s.words) ≡ false
ready_access_page_within s a inside = lt-leb s.pages (a / s.words) (by s.words (leb-false (addresses s) a inside))
  where
    by : (words : ℕ) → a < s.pages * words → a / words < s.pages
    by zero less = absurd (omega arith)
    by (suc w) less = div_below a (suc w) s.pages (omega arith) less

-- nothing is against an access at once of whoever waits for nothing, if its address isn't past the last one
ready_access_not_at_once : (m : Local) (a : ℕ) → processor_refusal_is_waiting m ≡ false → nat_le (addresses m.sizes) a ≡ false
    → processor_refusal_at_once m a ≡ None
ready_access_not_at_once m a idle inside = rw (idle, inside) refl

-- nor when its copy is valid, and the block has room
ready_access_may : (n : Local) (a : ℕ) → nat_le (addresses n.sizes) a ≡ false → processor_refusal_has_valid n (a / n.sizes.words) ≡ true
    → processor_refusal_is_waiting n ≡ false → processor_refusal_block_full n ≡ false → processor_refusal_of_access n a ≡ None
ready_access_may n a inside valid idle room = rw (inside, valid, idle, room) refl

-- then all is ready
ready_access_ready : (l m n : Local) (a : ℕ) → IsAccessBrought l a m → processor_refusal_has_valid m (a / l.sizes.words) ≡ true
    → HasAccessRoom m n → IsAccessReady l a n
ready_access_ready l m n a brings valid room = record {
  brought = m;
  brings = brings;
  valid = valid;
  room = room;
  may = ready_access_may n a (ap (λ (s : Sizes). nat_le (addresses s) a) sizes ∙ late.0)
      (ap (λ (s : Sizes). processor_refusal_has_valid n (a / s.words)) sizes ∙ made.valid (a / l.sizes.words) ∙ valid)
      (ap is_some (made.awaits ∙ same.1) ∙ idle.0) made.room;
}
  where
    same : (m.sizes ≡ l.sizes) × (m.awaits ≡ l.awaits)
    same = ready_access_brought_same l m a brings

    made : IsAccessRoomMade m n
    made = ready_access_room_made m n room

    sizes : n.sizes ≡ l.sizes
    sizes = made.sizes ∙ same.0

    idle : (processor_refusal_is_waiting l ≡ false)
        × (first_processor_refusal_due ((nat_le (addresses l.sizes) a, OutOfRange) ∷ []) ≡ None)
    idle = may_access_due_none (processor_refusal_is_waiting l) _ _ brings.at_once

    late : (nat_le (addresses l.sizes) a ≡ false) × (first_processor_refusal_due [] ≡ None)
    late = may_access_due_none (nat_le (addresses l.sizes) a) _ _ idle.1

-- by what became of the room
ready_access_by_room : {A : Type 0} (l m n : Local) (a : ℕ) (r : Result A Refused) → IsAccessBrought l a m
    → processor_refusal_has_valid m (a / l.sizes.words) ≡ true → IsAccessRoomBy m n r → IsAccessReadyBy l a n r
ready_access_by_room l m n a (Ok x) brings valid room = ready_access_ready l m n a brings valid room
ready_access_by_room l m n a (Err e) brings valid full = inr (m, brings, full)

-- why an access is refused
abbrev IsReadyAccessRefusal : Local → ℕ → Refused → Type 0
IsReadyAccessRefusal m a e =
    ((e ≡ OutOfRange) × (processor_refusal_at_once m a ≡ Some OutOfRange))
    ⊎ ((nat_le (addresses m.sizes) a ≡ false)
    × (((e ≡ Invalid (a / m.sizes.words)) × (processor_refusal_has_valid m (a / m.sizes.words) ≡ false))
    ⊎ ((e ≡ BlockFull) × (processor_refusal_has_valid m (a / m.sizes.words) ≡ true))))

ready_access_why : (m : Local) (a : ℕ) (e : Refused) → IsAccessUnready m a e → IsReadyAccessRefusal m a e
ready_access_why m a e unready =
    by (nat_le (addresses m.sizes) a) (processor_refusal_has_valid m (a / m.sizes.words)) (processor_refusal_is_waiting m)
    (processor_refusal_block_full m) refl refl unready.idle unready.refused
  where
    by : (past valid waits full : Bool) → nat_le (addresses m.sizes) a ≡ past → processor_refusal_has_valid m (a / m.sizes.words) ≡ valid
        → waits ≡ false
        → first_processor_refusal_due ((past, OutOfRange) ∷ (not valid, Invalid (a / m.sizes.words)) ∷ (waits, Waiting) ∷ (full, BlockFull) ∷ [])
        ≡ Some e → IsReadyAccessRefusal m a e
    by true valid waits full p v w is = inl (sym (same_Some OutOfRange e is), rw (unready.idle, p) refl)
    by false false waits full p v w is = inr (p, inl (sym (same_Some (Invalid (a / m.sizes.words)) e is), v))
    by false true true full p v w is = absurd (cc)
    by false true false true p v w is = inr (p, inr (sym (same_Some BlockFull e is), v))
    by false true false false p v w is = absurd (cc)

-- no page is brought yet
ready_access_unbrought : (m : Local) (a : ℕ) (e : Refused) → IsAccessUnready m a e → nat_le (addresses m.sizes) a ≡ false → IsAccessBrought m a m
ready_access_unbrought m a e unready inside = record {
  at_once = ready_access_not_at_once m a unready.idle inside;
  covers = unready.covers;
  fetched = inl refl;
}

-- a fetch is due where an access was refused as Invalid
record IsAccessStale (m : Local) (a page : ℕ) : Type 0 where
  page_is : page ≡ a / m.sizes.words
  due : IsAccessFetchDue m page
  unbrought : IsAccessBrought m a m

ready_access_stale : (m : Local) (a page : ℕ) → IsAccessUnready m a (Invalid page) → IsAccessStale m a page
ready_access_stale m a page unready = elim (ready_access_why m a (Invalid page) unready) [
  | inl past ↦ absurd (let two : Invalid page ≡ OutOfRange = past.0 in cc)
  | inr inside ↦ elim inside.1 [
    | inl stale ↦ (let is : page ≡ a / m.sizes.words = (let two : Invalid page ≡ Invalid (a / m.sizes.words) = stale.0 in cc) in record {
      page_is = is;
      due = record {
        within = ap (nat_le m.sizes.pages) is ∙ ready_access_page_within m.sizes a inside.0;
        idle = unready.idle;
        stale = ap (processor_refusal_has_valid m) is ∙ stale.1;
      };
      unbrought = ready_access_unbrought m a (Invalid page) unready inside.0;
    })
    | inr full ↦ absurd (let two : Invalid page ≡ BlockFull = full.0 in cc)
  ]
]

-- after the fetch, by what became of the room
pub ready_access_after_fetch : {A B : Type 0} (l m n : Local) (page a : ℕ) {f : Result A Refused} {b : A} (r : Result B Refused) → f ≡ Ok b
    → (IsAccessFetchDue l page → IsAccessFetchedBy l page m f) → IsAccessRoomBy m n r → IsAccessUnready l a (Invalid page)
    → IsAccessReadyBy l a n r
ready_access_after_fetch {A} l m n page a {f} {b} r is fetches room unready =
    let stale = ready_access_stale l a page unready in
    let fetched = subst (λ (y : Result A Refused). IsAccessFetchedBy l page m y) is (fetches stale.due) in
    ready_access_by_room l m n a r
    (record {
      at_once = stale.unbrought.at_once;
      covers = unready.covers;
      fetched = inr (subst (λ p. IsAccessFetched l p m) stale.page_is fetched);
    })
    (subst (λ p. processor_refusal_has_valid m p ≡ true) stale.page_is (ready_access_fetched_valid fetched.roomy m page fetched.done)) room

-- a fetch whose block couldn't be handed in
pub ready_access_fetch_refused : {A : Type 0} (l m : Local) (page a : ℕ) {f : Result A Refused} {e : Refused} → f ≡ Err e
    → (IsAccessFetchDue l page → IsAccessFetchedBy l page m f) → IsAccessUnready l a (Invalid page) → IsReadyAccessRefused l a m e
ready_access_fetch_refused {A} l m page a {f} {e} is fetches unready =
    let stale = ready_access_stale l a page unready in
    inr (l, stale.unbrought, subst (λ (y : Result A Refused). IsAccessFetchedBy l page m y) is (fetches stale.due))

-- a full block, by what became of the room
pub ready_access_full : {A : Type 0} (l n : Local) (a : ℕ) (r : Result A Refused) → IsAccessRoomBy l n r → IsAccessUnready l a BlockFull
    → IsAccessReadyBy l a n r
ready_access_full l n a r room unready = elim (ready_access_why l a BlockFull unready) [
  | inl past ↦ absurd (let two : BlockFull ≡ OutOfRange = past.0 in cc)
  | inr inside ↦ elim inside.1 [
    | inl stale ↦ absurd (let two : BlockFull ≡ Invalid (a / l.sizes.words) = stale.0 in cc)
    | inr full ↦ ready_access_by_room l l n a r (ready_access_unbrought l a BlockFull unready inside.0) full.1 room
  ]
]

-- an access that found all ready
pub ready_access_found : (m n : Local) (a : ℕ) (x : WordAccess) (v : ℕ) → processor_refusal_of_access m a ≡ None → HasCoverage m
    → IsWordAccessDone m x a v n → HasCoverage n → IsReadyAccess m a x n (Ok v)
ready_access_found m n a x v free before done covers =
    let past = may_access_due_none (nat_le (addresses m.sizes) a) _ _ free in
    let stale = may_access_due_none (not (processor_refusal_has_valid m (a / m.sizes.words))) _ _ past.1 in
    let waits = may_access_due_none (processor_refusal_is_waiting m) _ _ stale.1 in
    let full = may_access_due_none (processor_refusal_block_full m) _ _ waits.1 in
    record {
      ready = m;
      is_ready =
          ready_access_ready m m m a
          (record { at_once = ready_access_not_at_once m a waits.0 past.0; covers = before; fetched = inl refl })
          (not-false _ stale.0) (inl (full.0, refl));
      done = done;
      covers = covers;
    }

-- what makes an access ready, by why the access was refused first
pub ready_access_readied : {A B : Type 0} (m stale mid : Local) (a : ℕ) (first : Result B Refused) {e : Refused} (r : Result A Refused)
    → stale ≡ m → HasCoverage stale → processor_refusal_is_waiting m ≡ false → result_err first ≡ processor_refusal_of_access m a
    → first ≡ Err e → ((x : ℕ) → IsAccessUnready stale x e → IsAccessReadyBy stale x mid r) → IsAccessReadyBy m a mid r
ready_access_readied m stale mid a first r same covers idle refused is readied =
    subst (λ l. IsAccessReadyBy l a mid r) same (
    readied a (record {
      idle = ap processor_refusal_is_waiting same ∙ idle;
      refused = ap (λ l. processor_refusal_of_access l a) same ∙ sym refused ∙ ap result_err is;
      covers = covers;
    })
    )

-- the access after it was made ready isn't refused
pub ready_access_made : {A : Type 0} (l m n : Local) (a : ℕ) (x : WordAccess) {f : Result A Refused} {b : A} (r : Result ℕ Refused)
    → f ≡ Ok b → IsAccessReadyBy l a m f → result_err r ≡ processor_refusal_of_access m a → IfOk r (λ v. IsWordAccessDone m x a v n)
    → HasCoverage n → IsReadyAccess l a x n r
ready_access_made {A} l m n a x {f} {b} r is readied refused done covers =
    by r (subst (λ (y : Result A Refused). IsAccessReadyBy l a m y) is readied) refused done
  where
    by : (r : Result ℕ Refused) → IsAccessReady l a m → result_err r ≡ processor_refusal_of_access m a
        → IfOk r (λ v. IsWordAccessDone m x a v n) → IsReadyAccess l a x n r
    by (Ok v) ready refused done = record { ready = m; is_ready = ready; done = done; covers = covers }
    by (Err e) ready refused done = absurd (let some : Some e ≡ None = refused ∙ ready.may in cc)

-- what can't be made ready is refused
pub ready_access_refused_by : {A : Type 0} (l m : Local) (a : ℕ) {f : Result A Refused} {e : Refused} → f ≡ Err e → IsAccessReadyBy l a m f
    → IsReadyAccessRefused l a m e
ready_access_refused_by {A} l m a is readied = subst (λ (y : Result A Refused). IsAccessReadyBy l a m y) is readied

-- a processor that waits is refused at once
pub ready_access_waits : (m : Local) (a : ℕ) → processor_refusal_is_waiting m ≡ true → IsReadyAccessRefused m a m Waiting
ready_access_waits m a waits = inl (rw waits refl, refl)

-- what is refused at once is refused so, with nothing done
pub ready_access_at_once : (m n : Local) (a : ℕ) (x : WordAccess) (r : Result ℕ Refused) (e : Refused) → processor_refusal_at_once m a ≡ Some e
    → IsReadyAccess m a x n r → (result_err r ≡ Some e) × (n ≡ m)
ready_access_at_once m n a x (Ok v) e due made = absurd (let two : Some e ≡ None = sym due ∙ made.is_ready.brings.at_once in cc)
ready_access_at_once m n a x (Err d) e due (inl once) = (sym once.0 ∙ due, once.1)
ready_access_at_once m n a x (Err d) e due (inr late) = absurd (let two : Some e ≡ None = sym due ∙ late.1.at_once in cc)

-- what nothing is against is done
pub ready_access_fits : (m n : Local) (a : ℕ) (x : WordAccess) (r : Result ℕ Refused) → processor_refusal_of_access m a ≡ None
    → IsReadyAccess m a x n r → IsOk r
ready_access_fits m n a x (Ok v) free made = refl
ready_access_fits m n a x (Err e) free refused =
    let past = may_access_due_none (nat_le (addresses m.sizes) a) _ _ free in
    let stale = may_access_due_none (not (processor_refusal_has_valid m (a / m.sizes.words))) _ _ past.1 in
    let waits = may_access_due_none (processor_refusal_is_waiting m) _ _ stale.1 in
    let full = may_access_due_none (processor_refusal_block_full m) _ _ waits.1 in
    absurd (elim refused [
      | inl once ↦ (let two : Some e ≡ None = sym once.0 ∙ ready_access_not_at_once m a waits.0 past.0 in cc)
      | inr late ↦ elim late.1.fetched [
        | inl same ↦ (let two : true ≡ false = sym late.2.0 ∙ ap processor_refusal_block_full same ∙ full.0 in cc)
        | inr fetched ↦ (let two : true ≡ false = sym (not-false _ stale.0) ∙ fetched.due.stale in cc)
      ]
    ])
