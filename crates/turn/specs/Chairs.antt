-- The words of the lock's contract.
use Rattle.std.specs.Prelude.{◌≡◌, ℕ, List, length, slice_get, slice_set, Some}
use Rattle.atomic_table.specs.Seated.{TableId}
use Rattle.turn.specs.declared.chair.ChairStage.{ChairStage}
use Rattle.turn.specs.declared.chair.ChairStage.TheVariants.{Outside, Inside}
use Rattle.turn.specs.declared.chair.ChairState.{ChairState}
use Rattle.turn.specs.declared.chair.ChairToken.{ChairToken}
use Rattle.turn.specs.declared.chair.Held.{Held}

-- which lock it is: its table, and how often a chair of it may enter
pub record ChairLockId : Type 0 where
  pub table : TableId
  pub limit : ℕ

abbrev pub chair_lock_id : TableId → ℕ → ChairLockId
chair_lock_id z n = record { table = z; limit = n }

module _ {B V : Type 0} where
  -- the lock that a chair is of
  abbrev pub lock : ChairToken B V → ChairLockId
  lock c = chair_lock_id c.seat.table_id c.limit

  -- a chair's place among the lock's chairs, from 0
  abbrev pub chair_place : ChairToken B V → ℕ
  chair_place c = c.seat.me.0.place

  -- the keeper's view of the chair
  abbrev pub chair_view : ChairToken B V → V
  chair_view c = c.seat.me.0.lead.view

  -- how often the chair has entered
  abbrev pub entries : ChairToken B V → ℕ
  entries c = c.seat.me.0.lead.entries

  -- what the lock's rule says of the chair
  abbrev pub chair_state_of : ChairToken B V → ChairState B V
  chair_state_of c = c.seat.me.0.lead

  abbrev pub chair_stage : ChairToken B V → ChairStage B
  chair_stage c = c.seat.me.0.lead.stage

  abbrev pub IsChairOutside : ChairToken B V → Type 0
  IsChairOutside c = chair_stage c ≡ Outside

  -- the chair is inside, with the right `h`, and took the book as `b`
  abbrev pub IsChairInside : ChairToken B V → Held → B → Type 0
  IsChairInside c h b = chair_stage c ≡ Inside h.number b

  abbrev pub IsSameChair : ChairToken B V → ChairToken B V → Type 0
  IsSameChair c d = (lock d ≡ lock c) × (chair_place d ≡ chair_place c)

  -- a chair of the lock, at this place and with this view, that never entered
  abbrev pub IsUnusedChair : ChairLockId → ℕ → V → ChairToken B V → Type 0
  IsUnusedChair l k v c = (lock c ≡ l) × (chair_place c ≡ k) × (chair_view c ≡ v) × (entries c ≡ 0) × IsChairOutside c

  -- chairs of the lock in the order of their places, with this view, that never entered
  abbrev pub AreUnusedChairs : ChairLockId → V → List (ChairToken B V) → Type 0
  AreUnusedChairs l v cs = (k : ℕ) (c : ChairToken B V) → slice_get cs k ≡ Some c → IsUnusedChair l k v c

  -- all n chairs of the lock, in the order of their places and none inside
  abbrev pub AreChairsInOrder : ChairLockId → ℕ → List (ChairToken B V) → Type 0
  AreChairsInOrder l n cs = (length cs ≡ n) × ((k : ℕ) (c : ChairToken B V) → slice_get cs k ≡ Some c
      → (lock c ≡ l) × (chair_place c ≡ k) × IsChairOutside c)

  -- the fact holds of the book and some list of views with v at the place p
  abbrev pub ChairStands : (B → List V → Type 0) → B → ℕ → V → Type 0
  ChairStands fact b p v = (views : List V) × (slice_get views p ≡ Some v) × fact b views

  -- whatever the book and the other views are: if the fact holds of them, with v at the place p and u at q, it holds
  -- with some new view at p that is told of
  abbrev pub ChairMayConfer : (B → List V → Type 0) → (ℕ → V → ℕ → V → V → Type 0) → ℕ → V → ℕ → V → Type 0
  ChairMayConfer fact then p v q u =
      (book : B) (views : List V) → slice_get views p ≡ Some v → slice_get views q ≡ Some u → fact book views
      → (w : V) × then p v q u w × fact book (slice_set views p w)

  -- whatever the other views are: if the fact held of the book as it was found, some new view is told of and
  -- keeps it with the book handed in
  abbrev pub ChairMayHandIn : (B → List V → Type 0) → (B → B → ℕ → V → V → Type 0) → B → B → ℕ → V → Type 0
  ChairMayHandIn fact then found book p v =
      (views : List V) → slice_get views p ≡ Some v → fact found views
      → (w : V) × then found book p v w × fact book (slice_set views p w)
