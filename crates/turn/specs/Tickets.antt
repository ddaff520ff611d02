-- The lock's rule, over the words, the one slot and the chairs in the order of their places. Word 0 is the next number.
-- Numbers are drawn in order, and the chair with the least number that was drawn and not yet left is served.
use Rattle.std.specs.Prelude.{◌≡◌, ℕ, ◌+◌, ◌*◌, ◌^◌, ◌<◌, ◌≤◌, List, [], ◌∷◌, map, length, slice_index, slice_get, Bool, true, false, Option, Some, None}
use mathlib.Core.Option as maybe
use mathlib.Core.Option.{some, none}
use Rattle.turn.specs.declared.chair.ChairStage.{ChairStage}
use Rattle.turn.specs.declared.chair.ChairStage.TheVariants.{Outside, Waiting, Inside}
use Rattle.turn.specs.declared.chair.ChairState.{ChairState}

module _ {B : Type 0} where
  -- the number that was drawn and not yet left
  abbrev pub ticket_number : ChairStage B → Option ℕ
  ticket_number Outside = None
  ticket_number (Waiting m) = Some m
  ticket_number (Inside m b) = Some m

  -- the slot: empty while the book is out
  abbrev pub ticket_shelf : Bool → B → List (maybe.Option (Option B))
  ticket_shelf true b = none ∷ []
  ticket_shelf false b = some (Some b) ∷ []

  -- a number is one that was drawn and not yet left; who is inside is served, and has the book, which is out
  abbrev pub FitsTickets : ℕ → ℕ → Bool → B → ChairStage B → Type 0
  FitsTickets serving next out book Outside = Unit {0}
  FitsTickets serving next out book (Waiting m) = (serving ≤ m) × (m < next)
  FitsTickets serving next out book (Inside m b) = (m ≡ serving) × (m < next) × (out ≡ true) × (b ≡ book)

module _ {B V : Type 0} where
  abbrev pub ticket_chair_state : ChairStage B → ℕ → V → ChairState B V
  ticket_chair_state g e v = record { stage = g; entries = e; view = v }

  abbrev pub ticket_view_of : ChairState B V → V
  ticket_view_of c = c.view

  -- how many numbers the chairs have drawn
  abbrev pub tickets_drawn : List (ChairState B V) → ℕ
  tickets_drawn [] = 0
  tickets_drawn (c ∷ cs) = c.entries + tickets_drawn cs

  -- the chair at this place has drawn this number and not yet left
  abbrev pub HasTicket : List (ChairState B V) → ℕ → ℕ → Type 0
  HasTicket chairs k m = (c : ChairState B V) × (slice_get chairs k ≡ Some c) × (ticket_number c.stage ≡ Some m)

-- `shows words k` says that the words let the number k in
pub record TicketTurns {B V : Type 0} (fact : B → List V → Type 0) (shows : List ℕ → ℕ → Type 0) (limit : ℕ)
    (words : List ℕ) (homes : List (maybe.Option (Option B))) (chairs : List (ChairState B V)) : Type 0 where
  -- the number of leaves; the book as it lies in the slot or was taken from it; whether it is out
  pub serving : ℕ
  pub book : B
  pub out : Bool
  -- no number wraps
  pub room : length chairs * limit < 2 ^ 64
  pub within : (k : ℕ) (c : ChairState B V) → slice_get chairs k ≡ Some c → c.entries ≤ limit
  pub next_is : slice_index words 0 ≡ tickets_drawn chairs
  pub shown : shows words serving
  pub behind : serving ≤ tickets_drawn chairs
  -- the numbers drawn and not yet left are those from `serving` up to the next, each one chair's
  pub fits : (k : ℕ) (c : ChairState B V) → slice_get chairs k ≡ Some c → FitsTickets serving (tickets_drawn chairs) out book c.stage
  pub apart : (k j m : ℕ) → HasTicket chairs k m → HasTicket chairs j m → k ≡ j
  pub queued : (m : ℕ) → serving ≤ m → m < tickets_drawn chairs → (k : ℕ) × HasTicket chairs k m
  -- the book is out only while a chair is inside
  pub lies : homes ≡ ticket_shelf out book
  pub taken : out ≡ true → (k m : ℕ) × (c : ChairState B V) × (slice_get chairs k ≡ Some c) × (c.stage ≡ Inside m book)
  -- the lock invariant holds of the book as it lies or was taken, and all views
  pub kept : fact book (map ticket_view_of chairs)
