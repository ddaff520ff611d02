-- What is noted of the users of words: step by step, row by row; and that a word whose users are clean is guarded.
use Rattle.std.proofs.Common.{ℕ, ◌≡◌, ◌≢◌, ◌+◌, ◌<◌, ◌≤◌, ◌⊎◌, inl, inr, Bool, true, false, cond, IsTrue, List, [], ◌∷◌, add-one, count_by, fold, length, replicate, take, Some, slice_get, slice_set, slice_index_or, refl, sym, ap, subst, ◌∙◌, map, zero, suc, arith}
use Rattle.std.specs.Prelude.{◌^◌, nat_lt}
use Rattle.std.specs.Global.{Vec}
use Rattle.std.specs.BTreeMap.{get, is_at}
use Rattle.std.specs.Ordering.{nat_cmp}
use Rattle.std.proofs.lemmas.Bool.{cases_eq, false≢true, ne_eqb}
use Rattle.std.proofs.lemmas.List.Elements.{All-get_or}
use Rattle.std.proofs.lemmas.Option.{none-some, same_Some, slice_get-get_or, slice_get_within}
use Rattle.std.proofs.lemmas.List.{length-take-le}
use Rattle.std.proofs.lemmas.List.Sums.{count_by-le-length, fold-append}
use Rattle.base.proofs.SlicesAndCounts.{slice_count_by-append, slice_take-suc_at}
use Rattle.base.proofs.SliceSets.{slice_get-set_same, slice_get-set_other}
use Rattle.journal.specs.declared.event.Kind.{Kind}
use Rattle.journal.specs.declared.event.Kind.TheVariants as kind
use Rattle.journal.specs.Events.{event_address}
use Rattle.journal.specs.WellFormed.{WellFormedKindInRange}
use Rattle.lrc_script.specs.Plan.{Plan}
use Rattle.lrc_script.specs.Lawful.{plan_addresses, IsLawful, IsLawfulSection}
use Rattle.conformance.specs.Follows.{plan_sizes}
use Rattle.explore.specs.declared.prefixes.script_call.ScriptCall.{ScriptCall}
use Rattle.explore.specs.declared.prefixes.script_call.ScriptCall.TheVariants.{Call, Adds}
use Rattle.explore.specs.declared.text.guards.GuardedUsers.{GuardedUsers}
use Rattle.explore.specs.declared.text.guards.GuardedWordUse.{GuardedWordUse}
use Rattle.explore.specs.TextGuards.{IsGuardedByText, text_guard_step_departs, text_guard_held_after_step, text_guard_held_at, text_guard_departures_at, text_guarded_step_address, text_guarded_step_stores}
use Rattle.explore.specs.TextGuards.AreApartByText.{locked}
use Rattle.explore.specs.Machines.{AreLawfulMachineSteps, IsProperMachineStep}
use Rattle.explore.specs.Prefixes.ScriptCalls.{script_calls_shown_by}
use Rattle.explore.proofs.Lengths.{section_length_few, shown_length_few}
use Rattle.explore.proofs.MachineSteps.{IsMachineStepRow, machine_step_row_proper, machine_step_row}
use Rattle.explore.specs.Users.{AreStepUsersNoted, AreUserRowsFew, AreUserRowsNoted, AreUserRowsWithin, UsersAreAllSound, HasUsersNoted, UsersAreClean, IsUser, IsUserLockSmall, UsersAreSound, HasUser, HasUserAt, IsUserStepWithin, UsersAreKept}

-- another key than this
pub lockset_noted_apart_key : (k q : ℕ) → k ≢ q → is_at (nat_cmp k) q ≡ false
lockset_noted_apart_key k q isnt = go (nat_lt k q) refl
  where
    go : (b : Bool) → nat_lt k q ≡ b → is_at (nat_cmp k) q ≡ false
    go true is = rw is refl
    go false is = rw (is, ne_eqb k q isnt) refl

-- one word of several
module _ (words : List GuardedWordUse) (a : ℕ) (old new : GuardedWordUse) (phase : ℕ) (user : GuardedUsers) (at : slice_get words a ≡ Some old)
    (noted : HasUsersNoted old new phase user) where
  lockset_noted_new_at : slice_get (slice_set words a new) a ≡ Some new
  lockset_noted_new_at = slice_get-set_same words a new (slice_get_within words a old at)

  pub lockset_noted_set : (p : ℕ) (store : Bool) (held : ℕ → Bool) → IsUser user p store held
      → HasUserAt (slice_set words a new) a phase p store held
  lockset_noted_set p store held covered = record { word = new; at = lockset_noted_new_at; used = noted.notes p store held covered }

  lockset_noted_keeps_at : (w ph p : ℕ) (store : Bool) (held : ℕ → Bool) → HasUserAt words w ph p store held
      → HasUserAt (slice_set words a new) w ph p store held
  lockset_noted_keeps_at w ph p store held used = elim (cases_eq w a) [
    | inl is ↦
        (let same = same_Some used.word old (sym used.at ∙ ap (slice_get words) is ∙ at) in
        record {
          word = new;
          at = ap (slice_get (slice_set words a new)) is ∙ lockset_noted_new_at;
          used = noted.keeps ph p store held (subst (λ x. HasUser x ph p store held) same used.used);
        })
    | inr isnt ↦ record {
      word = used.word;
      at = slice_get-set_other words a w new isnt ∙ used.at;
      used = used.used;
    }
  ]

  lockset_noted_sound_at : UsersAreAllSound words → UsersAreAllSound (slice_set words a new)
  lockset_noted_sound_at sound w word here = elim (cases_eq w a) [
    | inl is ↦
        (let same = same_Some new word (sym lockset_noted_new_at ∙ ap (slice_get (slice_set words a new)) (sym is) ∙ here) in
        subst UsersAreSound same (noted.sound (sound a old at)))
    | inr isnt ↦ sound w word (sym (slice_get-set_other words a w new isnt) ∙ here)
  ]

  pub lockset_noted_keeps_set : length (slice_set words a new) ≡ length words → UsersAreKept words (slice_set words a new)
  lockset_noted_keeps_set long = record { long = long; keeps = lockset_noted_keeps_at; sound = lockset_noted_sound_at }

pub lockset_noted_keeps_same : (words : List GuardedWordUse) → UsersAreKept words words
lockset_noted_keeps_same words = record { long = refl; keeps = λ w ph p store held used. used; sound = λ sound. sound }

pub lockset_noted_keeps_on : (a b c : List GuardedWordUse) → UsersAreKept a b → UsersAreKept b c → UsersAreKept a c
lockset_noted_keeps_on a b c first second = record {
  long = second.long ∙ first.long;
  keeps = λ w ph p store held used. second.keeps w ph p store held (first.keeps w ph p store held used);
  sound = λ sound. second.sound (first.sound sound);
}

pub lockset_noted_keeps_steps : (a b : List GuardedWordUse) (p : ℕ) (row : List ScriptCall) (n : ℕ) → UsersAreKept a b → AreStepUsersNoted a p row n
    → AreStepUsersNoted b p row n
lockset_noted_keeps_steps a b p row n keeps noted i w step lt at address =
    keeps.keeps w (text_guard_departures_at row i) p (text_guarded_step_stores step) (text_guard_held_at row i) (noted i w step lt at address)

-- one step more
pub lockset_noted_next : (words : List GuardedWordUse) (p : ℕ) (row : List ScriptCall) (n : ℕ) (step : ScriptCall)
    → slice_get row n ≡ Some step → AreStepUsersNoted words p row n
    → ((w : ℕ) → text_guarded_step_address step ≡ Some w → HasUserAt words w (text_guard_departures_at row n) p (text_guarded_step_stores step) (text_guard_held_at row n))
    → AreStepUsersNoted words p row (n + 1)
lockset_noted_next words p row n step at noted now i w other lt there address = elim (cases_eq i n) [
  | inl is ↦
      (let same = same_Some other step (sym there ∙ ap (slice_get row) is ∙ at) in
      let here = now w (ap text_guarded_step_address (sym same) ∙ address) in
      subst (λ m. HasUserAt words w (text_guard_departures_at row m) p (text_guarded_step_stores other) (text_guard_held_at row m)) (sym is)
      (subst (λ x. HasUserAt words w (text_guard_departures_at row n) p (text_guarded_step_stores x) (text_guard_held_at row n)) (sym same) here))
  | inr isnt ↦ noted i w other (omega arith) there address
]

-- a single user
pub lockset_noted_covers_self : (u : GuardedUsers) (p : ℕ) (store : Bool) (held : ℕ → Bool) → u.processor ≡ p → u.stores ≡ store
    → ((l : ℕ) → slice_index_or u.locks l false ≡ held l) → IsUser u p store held
lockset_noted_covers_self u p store held is stores locks = record {
  alone = λ alone. is;
  stores = λ yes. stores ∙ yes;
  locks = λ l has. sym (locks l) ∙ has;
}

-- users that are clean have a lock in common, where they are two and one stores
pub lockset_noted_clean_common : (u : GuardedUsers) (p q : ℕ) (a b : Bool) (x y : ℕ → Bool) → UsersAreClean u → IsUser u p a x
    → IsUser u q b y → p ≢ q → IsTrue a ⊎ IsTrue b → (l : ℕ) × IsTrue (x l) × IsTrue (y l)
lockset_noted_clean_common u p q a b x y (inl alone) first second apart stores = absurd (apart (sym (first.alone alone) ∙ second.alone alone))
lockset_noted_clean_common u p q a b x y (inr (inl none)) first second apart (inl is) = absurd (false≢true (sym none ∙ first.stores is))
lockset_noted_clean_common u p q a b x y (inr (inl none)) first second apart (inr is) = absurd (false≢true (sym none ∙ second.stores is))
lockset_noted_clean_common u p q a b x y (inr (inr lock)) first second apart stores =
    (lock.0, first.locks lock.0 lock.1, second.locks lock.0 lock.1)

-- a word that is called guarded is
pub lockset_noted_guarded_word : (words : List GuardedWordUse) (rows : List (Vec ScriptCall)) (w : ℕ) (word : GuardedWordUse)
    → AreUserRowsNoted words rows (length rows) → UsersAreAllSound words → slice_get words w ≡ Some word
    → IsTrue word.is_guarded → IsGuardedByText rows w
lockset_noted_guarded_word words rows w word noted sound at guarded p q i k a b x y apart stores phases =
    let first = noted p x.row (slice_get_within rows p x.row x.row_at) x.row_at i w a
    (slice_get_within x.row.items i a x.at) x.at x.address in
    let second = noted q y.row (slice_get_within rows q y.row y.row_at) y.row_at k w b
    (slice_get_within y.row.items k b y.at) y.at y.address in
    let one = same_Some first.word word (sym first.at ∙ at) in
    let two = same_Some second.word word (sym second.at ∙ at) in
    let mine = subst (λ z. HasUser z (text_guard_departures_at x.row.items i) p (text_guarded_step_stores a) (text_guard_held_at x.row.items i)) one first.used in
    let theirs = subst (λ z. HasUser z (text_guard_departures_at y.row.items k) q (text_guarded_step_stores b) (text_guard_held_at y.row.items k)) two second.used in
    let there = subst (λ n. get nat_cmp word.phases n ≡ Some theirs.users) (sym phases) theirs.at in
    let same = same_Some theirs.users mine.users (sym there ∙ mine.at) in
    let covered = subst (λ u. IsUser u q (text_guarded_step_stores b) (text_guard_held_at y.row.items k)) same theirs.covered in
    let clean = sound w word at guarded (text_guard_departures_at x.row.items i) mine.users mine.at in
    let common = lockset_noted_clean_common mine.users p q (text_guarded_step_stores a) (text_guarded_step_stores b) (text_guard_held_at x.row.items i) (text_guard_held_at y.row.items k)
    clean mine.covered covered apart stores in
    locked (record { lock = common.0; first = common.1; second = common.2 })

-- a word that no step accesses is guarded
pub lockset_noted_unused_guarded : (rows : List (Vec ScriptCall)) (w : ℕ)
    → ((p : ℕ) (row : Vec ScriptCall) (i : ℕ) (step : ScriptCall) → slice_get rows p ≡ Some row
    → slice_get row.items i ≡ Some step → text_guarded_step_address step ≢ Some w) → IsGuardedByText rows w
lockset_noted_unused_guarded rows w none p q i k a b x y apart stores phases = absurd (none p x.row i a x.row_at x.at x.address)

-- what is read of words
pub lockset_noted_flags_of : (words : List GuardedWordUse) (w : ℕ) → IsTrue (slice_index_or (map (λ (x : GuardedWordUse). x.is_guarded) words) w false)
    → (word : GuardedWordUse) × (slice_get words w ≡ Some word) × IsTrue word.is_guarded
lockset_noted_flags_of [] w is = absurd (false≢true is)
lockset_noted_flags_of (x ∷ words) zero is = (x, refl, is)
lockset_noted_flags_of (x ∷ words) (suc w) is = lockset_noted_flags_of words w is

-- the numbers of a lawful script's steps are small
lockset_noted_small_address : (s : Plan) (k : Kind) → WellFormedKindInRange (plan_sizes s) k → (w : ℕ) → event_address k ≡ Some w → w < plan_addresses s
lockset_noted_small_address s (kind.Load a v) range w at = subst (λ n. n < plan_addresses s) (same_Some a w at) range
lockset_noted_small_address s (kind.Store a v) range w at = subst (λ n. n < plan_addresses s) (same_Some a w at) range
lockset_noted_small_address s _ range w at = absurd (none-some w at)

lockset_noted_small_lock : (s : Plan) (k : Kind) → s.locks ≤ 32 → s.flags ≤ 32 → WellFormedKindInRange (plan_sizes s) k → IsUserLockSmall k
lockset_noted_small_lock s (kind.Acquire l) most few range = omega (arith, range)
lockset_noted_small_lock s (kind.Release l) most few range = omega (arith, range)
lockset_noted_small_lock s (kind.Set f) most few range = omega (arith, range)
lockset_noted_small_lock s (kind.Await f) most few range = omega (arith, range)
lockset_noted_small_lock s _ most few range = tt

lockset_noted_within_proper : (s : Plan) (step : ScriptCall) → s.locks ≤ 32 → s.flags ≤ 32 → IsProperMachineStep s step
    → IsUserStepWithin (plan_addresses s) step
lockset_noted_within_proper s (Call k) most few proper =
    (lockset_noted_small_address s k proper.0, lockset_noted_small_lock s k most few proper.0)
lockset_noted_within_proper s (Adds a v) most few proper = proper

pub lockset_noted_rows_within : (s : Plan) (rows : List (Vec ScriptCall)) → AreLawfulMachineSteps s rows → AreUserRowsWithin (plan_addresses s) rows
lockset_noted_rows_within s rows steps p row at i step there =
    lockset_noted_within_proper s step steps.lawful.but_uneven.sizes.locks steps.lawful.but_uneven.sizes.flags
    (machine_step_row_proper s p row i step steps.lawful (machine_step_row s rows p row steps.are at) there)

pub lockset_noted_address_within : (size w : ℕ) (step : ScriptCall) → IsUserStepWithin size step → text_guarded_step_address step ≡ Some w → w < size
lockset_noted_address_within size w (Call k) within at = within.0 w at
lockset_noted_address_within size w (Adds a v) within at = subst (λ n. n < size) (same_Some a w at) within

-- a step more of a row
pub lockset_noted_phase_next : (row : List ScriptCall) (n : ℕ) (step : ScriptCall) → slice_get row n ≡ Some step
    → text_guard_departures_at row (n + 1) ≡ text_guard_departures_at row n + cond (text_guard_step_departs step) 1 0
lockset_noted_phase_next row n step at =
    let longer = ap (λ m. count_by text_guard_step_departs (take m row)) (add-one n) ∙ ap (count_by text_guard_step_departs) (slice_take-suc_at row n step at) in
    let sum = slice_count_by-append text_guard_step_departs (take n row) (step ∷ []) in
    omega arith

pub lockset_noted_holds_next : (row : List ScriptCall) (n : ℕ) (step : ScriptCall) (l : ℕ) → slice_get row n ≡ Some step
    → text_guard_held_at row (n + 1) l ≡ text_guard_held_after_step l (text_guard_held_at row n l) step
lockset_noted_holds_next row n step l at =
    ap (λ m. fold (text_guard_held_after_step l) false (take m row)) (add-one n)
    ∙ ap (fold (text_guard_held_after_step l) false) (slice_take-suc_at row n step at)
    ∙ fold-append (text_guard_held_after_step l) false (take n row) (step ∷ [])

pub lockset_noted_phase_small : (row : List ScriptCall) (n : ℕ) → n ≤ length row → text_guard_departures_at row n ≤ n
lockset_noted_phase_small row n le =
    let few = count_by-le-length text_guard_step_departs (take n row) in
    let long = length-take-le n row le in
    omega arith

-- at first no lock is held
pub lockset_noted_holds_none : (n q : ℕ) → slice_index_or (replicate n false) q false ≡ false
lockset_noted_holds_none zero q = refl
lockset_noted_holds_none (suc n) zero = refl
lockset_noted_holds_none (suc n) (suc q) = lockset_noted_holds_none n q

-- a row more
pub lockset_noted_rows_more : (a b : List GuardedWordUse) (rows : List (Vec ScriptCall)) (n : ℕ) (row : Vec ScriptCall)
    → slice_get rows n ≡ Some row → UsersAreKept a b → AreUserRowsNoted a rows n → AreStepUsersNoted b n row.items (length row.items)
    → AreUserRowsNoted b rows (n + 1)
lockset_noted_rows_more a b rows n row at keeps noted now p other lt there = elim (cases_eq p n) [
  | inl is ↦
      (let same = same_Some row other (sym at ∙ ap (slice_get rows) (sym is) ∙ there) in
      subst (λ q. AreStepUsersNoted b q other.items (length other.items)) (sym is)
      (subst (λ (v : Vec ScriptCall). AreStepUsersNoted b n v.items (length v.items)) same now))
  | inr isnt ↦ lockset_noted_keeps_steps a b p other.items (length other.items) keeps (noted p other (omega arith) there)
]

lockset_noted_row_few : (s : Plan) (p : ℕ) (row : Vec ScriptCall) → IsLawful s → IsMachineStepRow s p row → length row.items < 2 ^ 15
lockset_noted_row_few s p row lawful of =
    let within = slice_get_within s.sections p of.section of.at in
    let is = subst (IsLawfulSection s)
    (same_Some (slice_index_or s.sections p []) of.section (sym (slice_get-get_or s.sections p [] within) ∙ of.at))
    (All-get_or (IsLawfulSection s) s.sections p [] within lawful.but_uneven.sections) in
    let few = section_length_few of.section (script_calls_shown_by s p) is.most (shown_length_few s p lawful) in
    let same = ap (λ (xs : List ScriptCall). length xs) of.are in
    omega (arith, few, same)

pub lockset_noted_each_few : (s : Plan) (rows : List (Vec ScriptCall)) → AreLawfulMachineSteps s rows → AreUserRowsFew rows
lockset_noted_each_few s rows steps p row at = lockset_noted_row_few s p row steps.lawful (machine_step_row s rows p row steps.are at)

pub lockset_noted_used_phase : (words : List GuardedWordUse) (w m n p : ℕ) (store : Bool) (held : ℕ → Bool) → m ≡ n
    → HasUserAt words w m p store held → HasUserAt words w n p store held
lockset_noted_used_phase words w m n p store held same used = subst (λ k. HasUserAt words w k p store held) same used

pub lockset_noted_within_size : (m n : ℕ) (step : ScriptCall) → m ≡ n → IsUserStepWithin m step → IsUserStepWithin n step
lockset_noted_within_size m n step same within = subst (λ size. IsUserStepWithin size step) same within

pub lockset_noted_phase_step : (row : List ScriptCall) (n a b : ℕ) (step : ScriptCall) → b ≡ a + cond (text_guard_step_departs step) 1 0
    → a ≡ text_guard_departures_at row n → slice_get row n ≡ Some step → b ≡ text_guard_departures_at row (n + 1)
lockset_noted_phase_step row n a b step is was at = is ∙ ap (λ m. m + cond (text_guard_step_departs step) 1 0) was ∙ sym (lockset_noted_phase_next row n step at)

pub lockset_noted_holds_step : (row : List ScriptCall) (n q : ℕ) (h k : Bool) (step : ScriptCall) → k ≡ text_guard_held_after_step q h step
    → h ≡ text_guard_held_at row n q → slice_get row n ≡ Some step → k ≡ text_guard_held_at row (n + 1) q
lockset_noted_holds_step row n q h k step is was at =
    is ∙ ap (λ b. text_guard_held_after_step q b step) was ∙ sym (lockset_noted_holds_next row n step q at)

-- the user that was noted of one word
pub lockset_noted_user : (words : List GuardedWordUse) (a : ℕ) (old new : GuardedWordUse) (phase : ℕ) (user : GuardedUsers)
    → slice_get words a ≡ Some old → HasUsersNoted old new phase user → (p : ℕ) (store : Bool) (held : ℕ → Bool)
    → user.processor ≡ p → user.stores ≡ store → ((l : ℕ) → slice_index_or user.locks l false ≡ held l)
    → HasUserAt (slice_set words a new) a phase p store held
lockset_noted_user words a old new phase user at noted p store held is stores locks =
    lockset_noted_set words a old new phase user at noted p store held (lockset_noted_covers_self user p store held is stores locks)
