-- Each step of the lock is one that the table allows.
use Rattle.std.proofs.Common.{◌≡◌, ◌≢◌, ℕ, ◌+◌, ◌%◌, ◌^◌, ◌<◌, List, [], ◌∷◌, map, set, get_or, Bool, true, false, eq-eqb, ne_eqb, Option, Some, slice_get, MatchBool, unwrap_or, refl, sym, ap, ap₂, ◌∙◌, subst, subst₂, arith}
use Rattle.std.specs.Bool.{OnTrue, OnFalse}
use Rattle.std.proofs.lemmas.List.{set-get_or, get_or-set_other}
use Rattle.std.proofs.lemmas.Option.{same_Some}
use mathlib.Core.Option as maybe
use mathlib.Core.Option.{some, none}
use native.Mathlib.Decide.{ℕ_discrete}
use mathlib.Core.Logic.{dite}
use lib.ListN.{get_elem?}
use Rattle.atomic_table.specs.Table.{State, Me, Act, keeps, takes, gives, Valid, stepped, carried_after, put_back, rest, Allows}
use Rattle.turn.specs.declared.chair.ChairStage.{ChairStage}
use Rattle.turn.specs.declared.chair.ChairStage.TheVariants.{Outside, Waiting, Inside}
use Rattle.turn.specs.declared.chair.ChairState.{ChairState}
use Rattle.turn.specs.declared.chair.ChairGuest.{ChairGuest}
use Rattle.turn.specs.declared.chair.ChairRun.{ChairRun}
use Rattle.turn.specs.Chairs.{ChairMayConfer, ChairMayHandIn}
use Rattle.turn.specs.ChairRuns.{chair_run_guest, one_chair_run, chair_run_hosting, DealtChairRuns}
use Rattle.turn.specs.Tickets.{ticket_shelf, ticket_chair_state, ticket_view_of, TicketTurns}
use Rattle.turn.specs.Boards.{IsBoard}
use Rattle.turn.specs.SeatSteps.{stepping_seat_with, stepping_seat_at_stage, stepping_seat_hosting, IsSteppingSeatAtStage, SeatDrawStep, SeatStepsIn, SeatLookStep, SeatTalkStep, SeatLeaveStep}
use Rattle.turn.proofs.ListItems.{list_item_got, list_item_of_map, list_item_set_again}
use Rattle.turn.proofs.ChairPlaces.{chair_at_place, chair_place_moved}
use Rattle.turn.proofs.Guests.{hosting_guest, guest_and_host_at_place, guest_at_place, guest_stays_as_host_moves}
use Rattle.turn.proofs.NumbersServed.{served_number_view_changes, draws_number_to_be_served, served_number_not_out, enters_with_served_number, leaves_served_number, number_is_served}

allowed_step_waiting_once : {B : Type 0} (g : ChairStage B) (m k : ℕ) → g ≡ Waiting m → g ≡ Waiting k → m ≡ k
allowed_step_waiting_once g m k d e = let both : Waiting m ≡ Waiting k = sym d ∙ e in cc

allowed_step_inside_once : {B : Type 0} (g : ChairStage B) (m k : ℕ) (a b : B) → g ≡ Inside m a → g ≡ Inside k b → a ≡ b
allowed_step_inside_once g m k a b d e = let both : Inside m a ≡ Inside k b = sym d ∙ e in cc

-- what holds in both cases, case by case
pub allowed_step_both_cases : (X Y : Type 0) (b : Bool) → MatchBool b X Y → OnTrue b X × OnFalse b Y
allowed_step_both_cases X Y true x = (x, tt)
allowed_step_both_cases X Y false y = (tt, y)

-- a slot taken alone is the one taken last
pub allowed_step_taken_last : {S : Type 0} (xs : List (ℕ × S)) (x : S) → xs ≡ (0, x) ∷ [] → xs ≡ (0, x) ∷ rest xs
allowed_step_taken_last {S = S} xs x e = e ∙ ap (λ (ys : List (ℕ × S)). (0, x) ∷ ys) (sym (ap rest e))

allowed_step_book_or : {B : Type 0} → B → List (ℕ × Option B) → B
allowed_step_book_or b [] = b
allowed_step_book_or b (x ∷ xs) = unwrap_or x.1 b

pub allowed_step_slot_once : {B : Type 0} (xs : List (ℕ × Option B)) (a b : B) → xs ≡ (0, Some a) ∷ [] → xs ≡ (0, Some b) ∷ []
    → a ≡ b
unfolding allowed_step_book_or
allowed_step_slot_once xs a b d e = sym (ap (allowed_step_book_or a) d) ∙ ap (allowed_step_book_or a) e

module _ (B V : Type 0) (fact : B → List V → Type 0) (width : ℕ) (shows : List ℕ → ℕ → Type 0) (at : ℕ → ℕ)
    (passed : ℕ → ℕ → ℕ) (board : IsBoard width shows at passed) (n limit slots id : ℕ) where
  abbrev Rule : State (Option B) (ChairRun (ChairState B V)) → Type 0
  Rule = DealtChairRuns n (TicketTurns fact shows limit)

  abbrev AllowedStepHold : Type 0
  AllowedStepHold = Me (Option B) (ChairRun (ChairState B V))

  pub allowed_step_draws : (me : AllowedStepHold) → IsSteppingSeatAtStage Outside me → me.0.lead.entries < limit
      → Allows Rule slots id me 0 (λ m. (m + 1) % 2 ^ 64) (SeatDrawStep me)
  allowed_step_draws me sits less table dealt long seen fit =
      let place = me.0.place in
      let view = me.0.lead.view in
      let next = get_or table.words 0 0 in
      let chair : ChairState B V = ticket_chair_state Outside me.0.lead.entries view in
      let now : ChairState B V = ticket_chair_state (Waiting next) (me.0.lead.entries + 1) view in
      let mine : slice_get table.views id ≡ Some (one_chair_run place chair) =
      list_item_got table.views id me.0 seen ∙ ap (λ (x : AllowedStepHold). Some x.0) sits in
      let drawn = draws_number_to_be_served board dealt.keeps place chair (chair_at_place dealt id place chair mine) refl less in
      let after : (one_chair_run place now, me.1) ≡ stepping_seat_with place (Waiting next) (me.0.lead.entries + 1) view =
      ap (λ (x : AllowedStepHold). (one_chair_run place now, x.1)) sits in (
        one_chair_run place now,
        keeps,
        tt,
        chair_place_moved dealt id place chair now (set table.words 0 ((next + 1) % 2 ^ 64)) table.homes mine drawn.1,
        (after, drawn.0),
      )

  -- a look that finds the chair's own number
  allowed_step_look_lets_in : (m : ℕ) (me : AllowedStepHold) → IsSteppingSeatAtStage (Waiting m) me
      → (table : State (Option B) (ChairRun (ChairState B V))) → Rule table → slice_get table.views id ≡ Some me.0
      → get_or table.words (at m) 0 ≡ m
      → (w : ChairRun (ChairState B V)) × (a : Act (Option B)) × Valid table.homes me.1 a
      × Rule (stepped table (at m) (get_or table.words (at m) 0) id me.1 w a)
      × SeatLookStep fact me (get_or table.words (at m) 0) (w, carried_after me.1 a)
  allowed_step_look_lets_in m me sits table dealt seen found =
      let place = me.0.place in
      let turns = dealt.keeps in
      let chair : ChairState B V = ticket_chair_state (Waiting m) me.0.lead.entries me.0.lead.view in
      let now : ChairState B V = ticket_chair_state (Inside m turns.book) me.0.lead.entries me.0.lead.view in
      let mine : slice_get table.views id ≡ Some (one_chair_run place chair) = seen ∙ ap (λ (x : AllowedStepHold). Some x.0) sits in
      let here = chair_at_place dealt id place chair mine in
      let low = (turns.fits place chair here).0 in
      let number_is_served = board.finds table.words turns.serving m turns.shown low found in
      let off = served_number_not_out board turns place chair here m refl number_is_served in
      let entered = enters_with_served_number board turns place chair here m refl number_is_served in
      let lies : table.homes ≡ some (Some turns.book) ∷ [] =
      turns.lies ∙ ap (λ (o : Bool). ticket_shelf o turns.book) off in
      let empty : set table.homes 0 none ≡ none ∷ [] =
      ap (λ (homes : List (maybe.Option (Option B))). set homes 0 none) lies in
      let none_yet : me.1 ≡ [] = ap (λ (x : AllowedStepHold). x.1) sits in
      let took : SeatStepsIn fact m me (one_chair_run place now, (0, Some turns.book) ∷ me.1) = (
        turns.book,
        (map ticket_view_of dealt.chairs, list_item_of_map ticket_view_of dealt.chairs place chair here, turns.kept),
        ap (λ (taken : List (ℕ × Option B)). (one_chair_run place now, (0, Some turns.book) ∷ taken)) none_yet,
      ) in (
        one_chair_run place now,
        takes 0 (Some turns.book),
        ap (λ (homes : List (maybe.Option (Option B))). get_elem? homes 0) lies,
        subst (λ (words : List ℕ). Rule (record {
          words = words;
          homes = set table.homes 0 none;
          views =
              set table.views id (one_chair_run place now);
        })) (sym (set-get_or table.words (at m) 0))
            (chair_place_moved dealt id place chair now table.words (set table.homes 0 none) mine
            (subst (λ (homes : List (maybe.Option (Option B))). TicketTurns fact shows limit table.words homes
            (set dealt.chairs place now)) (sym empty) entered)),
        λ k waits.
            let same : m ≡ k = allowed_step_waiting_once me.0.lead.stage m k (ap (λ (x : AllowedStepHold). x.0.lead.stage) sits) waits in
            subst (λ (b : Bool). MatchBool b (SeatStepsIn fact k me (one_chair_run place now, (0, Some turns.book) ∷ me.1))
            ((one_chair_run place now, (0, Some turns.book) ∷ me.1) ≡ me))
            (sym (eq-eqb (get_or table.words (at m) 0) k (found ∙ same)))
            (subst (λ (i : ℕ). SeatStepsIn fact i me (one_chair_run place now, (0, Some turns.book) ∷ me.1)) same took),
      )

  -- a look that finds another number
  allowed_step_look_finds_other : (m : ℕ) (me : AllowedStepHold) → IsSteppingSeatAtStage (Waiting m) me
      → (table : State (Option B) (ChairRun (ChairState B V))) → Rule table → slice_get table.views id ≡ Some me.0
      → get_or table.words (at m) 0 ≢ m
      → (w : ChairRun (ChairState B V)) × (a : Act (Option B)) × Valid table.homes me.1 a
      × Rule (stepped table (at m) (get_or table.words (at m) 0) id me.1 w a)
      × SeatLookStep fact me (get_or table.words (at m) 0) (w, carried_after me.1 a)
  allowed_step_look_finds_other m me sits table dealt seen found = (
    me.0,
    keeps,
    tt,
    subst (λ (words : List ℕ). Rule
        (record { words = words; homes = table.homes; views = set table.views id me.0 }))
        (sym (set-get_or table.words (at m) 0))
        (subst (λ (views : List (ChairRun (ChairState B V))). Rule
        (record { words = table.words; homes = table.homes; views = views }))
        (sym (list_item_set_again table.views id me.0 seen)) dealt),
    λ k waits.
        let same : m ≡ k = allowed_step_waiting_once me.0.lead.stage m k (ap (λ (x : AllowedStepHold). x.0.lead.stage) sits) waits in
        subst (λ (b : Bool). MatchBool b (SeatStepsIn fact k me me) (me ≡ me))
        (sym (ne_eqb (get_or table.words (at m) 0) k (λ e. found (e ∙ sym same)))) refl,
  )

  pub allowed_step_looks : (m : ℕ) (me : AllowedStepHold) → IsSteppingSeatAtStage (Waiting m) me
      → Allows Rule slots id me (at m) (λ k. k) (SeatLookStep fact me)
  allowed_step_looks m me sits table dealt long seen fit =
      let mine = list_item_got table.views id me.0 seen in
      dite (ℕ_discrete (get_or table.words (at m) 0) m)
      (allowed_step_look_lets_in m me sits table dealt mine) (allowed_step_look_finds_other m me sits table dealt mine)

  -- a talk with a guest
  pub allowed_step_talks : (then : ℕ → V → ℕ → V → V → Type 0) (me other : AllowedStepHold) → IsSteppingSeatAtStage Outside me
      → IsSteppingSeatAtStage Outside other → ChairMayConfer fact then me.0.place me.0.lead.view other.0.place other.0.lead.view
      → Allows Rule slots id (stepping_seat_hosting me other) 0 (λ k. k) (λ _ after. SeatTalkStep then (stepping_seat_hosting me other) after)
  allowed_step_talks then me other sits beside may table dealt long seen fit =
      let place = me.0.place in
      let there = other.0.place in
      let turns = dealt.keeps in
      let chair : ChairState B V = ticket_chair_state Outside me.0.lead.entries me.0.lead.view in
      let guest : ChairState B V = ticket_chair_state Outside other.0.lead.entries other.0.lead.view in
      let mine : slice_get table.views id ≡ Some (hosting_guest place chair there guest) =
      list_item_got table.views id (chair_run_hosting me.0 other.0) seen
      ∙ ap₂ (λ (x y : AllowedStepHold). Some (chair_run_hosting x.0 y.0)) sits beside in
      let here = guest_and_host_at_place dealt id place there chair guest mine in
      let yonder = guest_at_place dealt id place there chair guest mine in
      let told = may turns.book (map ticket_view_of dealt.chairs) (list_item_of_map ticket_view_of dealt.chairs place chair here)
      (list_item_of_map ticket_view_of dealt.chairs there guest yonder.0) turns.kept in
      let now : ChairState B V = ticket_chair_state Outside me.0.lead.entries told.0 in (
        hosting_guest place now there guest,
        keeps,
        tt,
        subst (λ (words : List ℕ). Rule (record {
          words = words;
          homes = table.homes;
          views = set table.views id (hosting_guest place now there guest);
        })) (sym (set-get_or table.words 0 0))
            (guest_stays_as_host_moves dealt id place there chair guest mine now table.words table.homes
            (served_number_view_changes board turns place chair here told.0 refl told.2)),
        λ (g : ChairGuest (ChairState B V)) (e : Some (chair_run_guest other.0.place other.0.lead) ≡ Some g). (
          told.0,
          subst (λ (x : ChairGuest (ChairState B V)). then place me.0.lead.view x.place x.chair.view told.0)
              (same_Some (chair_run_guest other.0.place other.0.lead) g e) told.1,
          sym (ap₂ (λ (x y : AllowedStepHold). (record (chair_run_hosting x.0 y.0) { lead = now }, me.1)) sits beside),
        ),
      )

  pub allowed_step_leaves : (then : B → B → ℕ → V → V → Type 0) (m : ℕ) (found book : B) (me : AllowedStepHold)
      → me ≡ ((stepping_seat_at_stage (Inside m found) me).0, (0, Some book) ∷ [])
      → ChairMayHandIn fact then found book me.0.place me.0.lead.view
      → Allows Rule slots id me (at (m + 1)) (passed m) (λ _ after. SeatLeaveStep then me after)
  allowed_step_leaves then m found book me sits may table dealt long seen fit =
      let place = me.0.place in
      let view = me.0.lead.view in
      let turns = dealt.keeps in
      let chair : ChairState B V = ticket_chair_state (Inside m found) me.0.lead.entries view in
      let mine : slice_get table.views id ≡ Some (one_chair_run place chair) =
      list_item_got table.views id me.0 seen ∙ ap (λ (x : AllowedStepHold). Some x.0) sits in
      let here = chair_at_place dealt id place chair mine in
      let is = number_is_served board turns place chair here m found refl in
      let shown : shows table.words m = subst (λ (k : ℕ). shows table.words k) (sym is.number) turns.shown in
      let words = set table.words (at (m + 1)) (passed m (get_or table.words (at (m + 1)) 0)) in
      let next : get_or words 0 0 ≡ get_or table.words 0 0 =
      get_or-set_other table.words (at (m + 1)) 0 (passed m (get_or table.words (at (m + 1)) 0)) 0
      (λ e. let beside = board.beside_next (m + 1) in omega arith) in
      let handed = may (map ticket_view_of dealt.chairs) (list_item_of_map ticket_view_of dealt.chairs place chair here)
      (subst (λ (b : B). fact b (map ticket_view_of dealt.chairs)) (sym is.book) turns.kept) in
      let new_view = handed.0 in
      let told = handed.1 in
      let now : ChairState B V = ticket_chair_state Outside me.0.lead.entries new_view in
      let has_slot : me.1 ≡ (0, Some book) ∷ [] = ap (λ (x : AllowedStepHold). x.1) sits in
      let left = leaves_served_number board turns place chair here m found book new_view words refl
      (board.passes table.words m shown is.fits) next handed.2 in
      let back : put_back table.homes me.1 ≡ some (Some book) ∷ [] =
      ap (λ (taken : List (ℕ × Option B)). put_back table.homes taken) has_slot
      ∙ ap (λ (homes : List (maybe.Option (Option B))). set homes 0 (some (Some book))) is.out in (
        one_chair_run place now,
        gives,
        tt,
        chair_place_moved dealt id place chair now words (put_back table.homes me.1) mine
            (subst (λ (homes : List (maybe.Option (Option B))). TicketTurns fact shows limit words homes
            (set dealt.chairs place now)) (sym back) left),
        (
          ap (λ (taken : List (ℕ × Option B)). (one_chair_run place now, rest taken)) has_slot,
          λ k a b stands e.
              let same : found ≡ a = allowed_step_inside_once me.0.lead.stage m k found a
              (ap (λ (x : AllowedStepHold). x.0.lead.stage) sits) stands in
              subst₂ (λ (x y : B). then x y place view new_view) same (allowed_step_slot_once me.1 book b has_slot e) told,
        ),
      )

  -- the same once the book was put back into the slot
  pub allowed_step_leaves_after : (then : B → B → ℕ → V → V → Type 0) (m : ℕ) (found book : B) (was me : AllowedStepHold)
      → IsSteppingSeatAtStage (Inside m found) was → me ≡ (was.0, (0, Some book) ∷ rest was.1)
      → ChairMayHandIn fact then found book was.0.place was.0.lead.view
      → Allows Rule slots id me (at (m + 1)) (passed m) (λ _ after. SeatLeaveStep then me after)
  allowed_step_leaves_after then m found book was me sits put may =
      let back : AllowedStepHold = (was.0, (0, Some book) ∷ rest was.1) in
      let inside : back ≡ ((stepping_seat_at_stage (Inside m found) back).0, (0, Some book) ∷ []) =
      ap (λ (x : AllowedStepHold). (x.0, (0, Some book) ∷ rest x.1)) sits in
      subst (λ (x : AllowedStepHold). Allows Rule slots id x (at (m + 1)) (passed m) (λ _ after. SeatLeaveStep then x after))
      (sym put) (allowed_step_leaves then m found book back inside may)
