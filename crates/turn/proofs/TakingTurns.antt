-- What the lock's rule means of each state.
use Rattle.std.proofs.Common.{◌≡◌, ℕ, ◌<◌, ◌≤◌, List, [], ◌∷◌, map, get_or, Bool, true, false, Option, Some, refl, sym, ap, ◌∙◌, subst, arith}
use mathlib.Core.Option as maybe
use mathlib.Core.Option.{some, none}
use Rattle.turn.specs.declared.chair.ChairStage.{ChairStage}
use Rattle.turn.specs.declared.chair.ChairState.{ChairState}
use Rattle.turn.specs.Tickets.{ticket_number, ticket_shelf, FitsTickets, ticket_view_of, tickets_drawn, HasTicket, TicketTurns}
use Rattle.turn.specs.Boards.{IsBoard}
use Rattle.turn.specs.LawOfTurns.{IsInsideOnTurnByLaw, HaveTurnsByLaw}
use Rattle.turn.proofs.NumbersServed.{between}

-- an empty slot is that of a book which is out
taking_turns_out_if_empty : {B : Type 0} (out : Bool) (book : B) → ticket_shelf out book ≡ none ∷ [] → out ≡ true
taking_turns_out_if_empty true book e = refl
taking_turns_out_if_empty false book e = cc

-- the book in the slot
taking_turns_book_if_full : {B : Type 0} (out : Bool) (book b : B) → ticket_shelf out book ≡ some (Some b) ∷ [] → book ≡ b
taking_turns_book_if_full true book b e = cc
taking_turns_book_if_full false book b e = cc

module _ {B V : Type 0} {fact : B → List V → Type 0} {width : ℕ} {shows : List ℕ → ℕ → Type 0} {at : ℕ → ℕ}
    {passed : ℕ → ℕ → ℕ} (board : IsBoard width shows at passed) {limit : ℕ} {words : List ℕ}
    {homes : List (maybe.Option (Option B))} {chairs : List (ChairState B V)}
    (turns : TicketTurns fact shows limit words homes chairs) where
  -- who is inside is served
  taking_turns_number : (k m : ℕ) (b : B) → IsInsideOnTurnByLaw chairs k m b → m ≡ turns.serving
  taking_turns_number k m b x = (subst (λ (g : ChairStage B). FitsTickets turns.serving (tickets_drawn chairs) turns.out turns.book g) x.2
      (turns.fits k x.0 x.1)).0

  taking_turns_has_number : (k m : ℕ) (b : B) → IsInsideOnTurnByLaw chairs k m b → HasTicket chairs k turns.serving
  taking_turns_has_number k m b x = (x.0, x.1, ap ticket_number x.2 ∙ ap Some (taking_turns_number k m b x))

  pub take_turns : HaveTurnsByLaw fact at words homes chairs
  take_turns = record {
    serving = turns.serving;
    drawn = λ m. (
      λ (h : (k : ℕ) × HasTicket chairs k m). let r = between turns h.0 m h.1 in let next = turns.next_is in
          (r.0, omega arith),
      λ (h : (turns.serving ≤ m) × (m < get_or words 0 0)). let next = turns.next_is in turns.queued m h.0
          (omega arith),
    );
    apart = turns.apart;
    shown = board.lets_in words turns.serving turns.shown;
    alone = λ k j m n a b x y. turns.apart k j turns.serving (taking_turns_has_number k m a x) (taking_turns_has_number j n b y);
    least = λ k j m n b x h. let served = taking_turns_number k m b x in let low = (between turns j n h).0 in omega arith;
    empty = λ e. let q = turns.taken (taking_turns_out_if_empty turns.out turns.book (sym turns.lies ∙ e)) in
        (q.0, q.1, turns.book, (q.2, q.3, q.4));
    kept = λ b e. subst (λ (x : B). fact x (map ticket_view_of chairs))
        (taking_turns_book_if_full turns.out turns.book b (sym turns.lies ∙ e)) turns.kept;
  }
