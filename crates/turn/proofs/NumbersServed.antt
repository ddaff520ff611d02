-- Each step of the lock keeps its rule, over the words, the slot and the chairs.
use Rattle.std.proofs.Common.{◌≡◌, ◌≢◌, ℕ, zero, suc, ◌+◌, ◌*◌, ◌%◌, ◌^◌, ◌<◌, ◌≤◌, ◌⊎◌, List, [], ◌∷◌, map, length, set, get_or, Bool, true, false, Option, Some, None, slice_get, refl, sym, ap, ◌∙◌, subst, inl, inr, ⊎_elim, zero-le, suc-mul, arith}
use Rattle.std.proofs.Math.ListN.{length-set}
use Rattle.std.proofs.Math.Nat.{mod-eq_of_lt}
use Rattle.std.proofs.lemmas.List.{get_or-set_same, map-set}
use mathlib.Core.Option as maybe
use mathlib.Core.Option.{some, none}
use Rattle.std.proofs.lemmas.Option.{same_Some, none-some, slice_get_within}
use native.Mathlib.Decide.{ℕ_discrete}
use mathlib.Core.Logic.{dite}
use Rattle.turn.specs.declared.chair.ChairStage.{ChairStage}
use Rattle.turn.specs.declared.chair.ChairStage.TheVariants.{Outside, Waiting, Inside}
use Rattle.turn.specs.declared.chair.ChairState.{ChairState}
use Rattle.turn.specs.Tickets.{ticket_number, ticket_shelf, FitsTickets, ticket_chair_state, ticket_view_of, tickets_drawn, HasTicket, TicketTurns}
use Rattle.turn.specs.Boards.{IsBoard}
use Rattle.turn.proofs.ListItems.{list_item_of_set, list_item_set_here, list_item_set_else, list_item_set_again, list_item_of_map, list_item_once}

pub served_number_not_true : (b : Bool) → (b ≡ true → ⊥) → b ≡ false
served_number_not_true true h = absurd (h refl)
served_number_not_true false h = refl

module _ {B : Type 0} where
  -- who is inside doesn't wait and isn't outside
  served_number_inside_not_waiting : (m k : ℕ) (b : B) → Inside m b ≡ Waiting k → ⊥
  served_number_inside_not_waiting m k b e = cc

  pub served_number_inside_not_outside : (m : ℕ) (b : B) → Inside m b ≡ Outside → ⊥
  served_number_inside_not_outside m b e = cc

  served_number_fits_more : (s n n' : ℕ) (out : Bool) (book : B) (g : ChairStage B) → n ≤ n' → FitsTickets s n out book g → FitsTickets s n' out book g
  served_number_fits_more s n n' out book Outside h f = tt
  served_number_fits_more s n n' out book (Waiting m) h f = (f.0, omega arith)
  served_number_fits_more s n n' out book (Inside m b) h f = (f.0, omega arith, f.2, f.3)

  served_number_fits_out : (s n : ℕ) (out : Bool) (book : B) (g : ChairStage B) → out ≡ false → FitsTickets s n out book g → FitsTickets s n true book
      g
  served_number_fits_out s n out book Outside h f = tt
  served_number_fits_out s n out book (Waiting m) h f = f
  served_number_fits_out s n out book (Inside m b) h f = (f.0, f.1, refl, f.3)

  served_number_fits_next : (m n : ℕ) (out : Bool) (book handed : B) (g : ChairStage B) → (ticket_number g ≡ Some m → ⊥)
      → FitsTickets m n out book g → FitsTickets (m + 1) n false handed g
  served_number_fits_next m n out book handed Outside h f = tt
  served_number_fits_next m n out book handed (Waiting k) h f = let ne : k ≢ m = λ e. h (ap Some e) in (omega arith, f.1)
  served_number_fits_next m n out book handed (Inside k b) h f = absurd (h (ap Some f.0))

  -- a number that was drawn and not yet left
  pub served_number_bounds_fitting : (s n m : ℕ) (out : Bool) (book : B) (g : ChairStage B) → ticket_number g ≡ Some m → FitsTickets s n out book g
      → (s ≤ m) × (m < n)
  served_number_bounds_fitting s n m out book Outside e f = absurd (none-some m e)
  served_number_bounds_fitting s n m out book (Waiting k) e f = let same : k ≡ m = same_Some k m e in (omega arith, omega arith)
  served_number_bounds_fitting s n m out book (Inside k b) e f = let same : k ≡ m = same_Some k m e in let here = f.0 in
      (omega arith, omega arith)

module _ {B V : Type 0} where
  tickets_drawn-set_number_served : (cs : List (ChairState B V)) (k : ℕ) (c d : ChairState B V) → slice_get cs k ≡ Some c
      → tickets_drawn (set cs k d) + c.entries ≡ tickets_drawn cs + d.entries
  tickets_drawn-set_number_served [] k c d e = absurd (none-some c e)
  tickets_drawn-set_number_served (x ∷ xs) zero c d e = let f : x.entries ≡ c.entries =
      ap (λ (y : ChairState B V). y.entries) (same_Some x c e) in omega arith
  tickets_drawn-set_number_served (x ∷ xs) (suc k) c d e = let h = tickets_drawn-set_number_served xs k c d e in omega arith

  tickets_drawn-le_number_served : (limit : ℕ) (cs : List (ChairState B V))
      → ((k : ℕ) (c : ChairState B V) → slice_get cs k ≡ Some c → c.entries ≤ limit) → tickets_drawn cs ≤ length cs * limit
  tickets_drawn-le_number_served limit [] h = zero-le
  tickets_drawn-le_number_served limit (x ∷ xs) h =
      let a = h zero x refl in
      let b = tickets_drawn-le_number_served limit xs (λ k. h (suc k)) in
      omega (arith, suc-mul (length xs) limit)

  -- each chair after one of them changed
  served_number_each_set : (P : ℕ → ChairState B V → Type 0) (cs : List (ChairState B V)) (k : ℕ) (d : ChairState B V) → P k d
      → ((j : ℕ) (x : ChairState B V) → j ≢ k → slice_get cs j ≡ Some x → P j x)
      → (j : ℕ) (x : ChairState B V) → slice_get (set cs k d) j ≡ Some x → P j x
  served_number_each_set P cs k d here else j x e = ⊎_elim
      (λ (t : (j ≡ k) × (d ≡ x)). subst (λ (y : ChairState B V). P j y) t.1 (subst (λ (i : ℕ). P i d) (sym t.0) here))
      (λ (t : (j ≢ k) × (slice_get cs j ≡ Some x)). else j x t.0 t.1)
      (list_item_of_set cs k j d x e)

  served_number_set : (cs : List (ChairState B V)) (k : ℕ) (d : ChairState B V) (j m : ℕ) → HasTicket (set cs k d) j m
      → ((j ≡ k) × (ticket_number d.stage ≡ Some m)) ⊎ ((j ≢ k) × HasTicket cs j m)
  served_number_set cs k d j m h = ⊎_elim
      (λ (t : (j ≡ k) × (d ≡ h.0)). inl (t.0, ap (λ (y : ChairState B V). ticket_number y.stage) t.1 ∙ h.2))
      (λ (t : (j ≢ k) × (slice_get cs j ≡ Some h.0)). inr (t.0, (h.0, t.1, h.2)))
      (list_item_of_set cs k j d h.0 h.1)

  served_number_set_here : (cs : List (ChairState B V)) (k : ℕ) (c d : ChairState B V) (m : ℕ) → slice_get cs k ≡ Some c
      → ticket_number d.stage ≡ Some m → HasTicket (set cs k d) k m
  served_number_set_here cs k c d m at e = (d, list_item_set_here cs k d (slice_get_within cs k c at), e)

  served_number_set_else : (cs : List (ChairState B V)) (k : ℕ) (d : ChairState B V) (j m : ℕ) → j ≢ k → HasTicket cs j m
      → HasTicket (set cs k d) j m
  served_number_set_else cs k d j m ne h = (h.0, list_item_set_else cs k j d ne ∙ h.1, h.2)

  -- the number of a chair that is known
  served_number_known : (cs : List (ChairState B V)) (k : ℕ) (c : ChairState B V) (j m : ℕ) → slice_get cs k ≡ Some c
      → HasTicket cs j m → j ≡ k → ticket_number c.stage ≡ Some m
  served_number_known cs k c j m at h e =
      ap (λ (y : ChairState B V). ticket_number y.stage)
      (list_item_once cs k c h.0 at (subst (λ (i : ℕ). slice_get cs i ≡ Some h.0) e h.1)) ∙ h.2

  served_number_views_same : (cs : List (ChairState B V)) (k : ℕ) (c d : ChairState B V) → slice_get cs k ≡ Some c
      → d.view ≡ c.view → map ticket_view_of (set cs k d) ≡ map ticket_view_of cs
  served_number_views_same cs k c d at e = map-set ticket_view_of cs k d ∙ ap (λ (v : V). set (map ticket_view_of cs) k v) e
      ∙ list_item_set_again (map ticket_view_of cs) k c.view (list_item_of_map ticket_view_of cs k c at)

-- a number that was drawn and not left
pub between : {B V : Type 0} {fact : B → List V → Type 0} {shows : List ℕ → ℕ → Type 0} {limit : ℕ}
    {words : List ℕ} {homes : List (maybe.Option (Option B))} {chairs : List (ChairState B V)}
    (turns : TicketTurns fact shows limit words homes chairs) (k m : ℕ) → HasTicket chairs k m
    → (turns.serving ≤ m) × (m < tickets_drawn chairs)
between {chairs = chairs} turns k m has =
    served_number_bounds_fitting turns.serving (tickets_drawn chairs) m turns.out turns.book has.0.stage has.2 (turns.fits k has.0 has.1)

-- who is inside: its number is served and fits a word, and the book is out
pub record IsNumberServed {B V : Type 0} {fact : B → List V → Type 0} {shows : List ℕ → ℕ → Type 0} {limit : ℕ}
    {words : List ℕ} {homes : List (maybe.Option (Option B))} {chairs : List (ChairState B V)}
    (turns : TicketTurns fact shows limit words homes chairs) (m : ℕ) (found : B) : Type 0 where
  pub number : m ≡ turns.serving
  pub fits : m + 1 < 2 ^ 64
  pub book : found ≡ turns.book
  pub out : homes ≡ none ∷ []

-- the chair at a place, in a state that meets the lock's rule
module _ {B V : Type 0} {fact : B → List V → Type 0} {width : ℕ} {shows : List ℕ → ℕ → Type 0} {at : ℕ → ℕ}
    {passed : ℕ → ℕ → ℕ} (board : IsBoard width shows at passed) {limit : ℕ} {words : List ℕ}
    {homes : List (maybe.Option (Option B))} {chairs : List (ChairState B V)}
    (turns : TicketTurns fact shows limit words homes chairs) (place : ℕ) (chair : ChairState B V)
    (here : slice_get chairs place ≡ Some chair) where
  -- the numbers are below 2 ^ 64
  served_numbers_few : tickets_drawn chairs < 2 ^ 64
  served_numbers_few = let a = tickets_drawn-le_number_served limit chairs turns.within in let b = turns.room in omega arith

  pub draws_number_to_be_served : chair.stage ≡ Outside → chair.entries < limit
      → (get_or words 0 0 + 1 < 2 ^ 64) × TicketTurns fact shows limit (set words 0 ((get_or words 0 0 + 1) % 2 ^ 64)) homes
      (set chairs place (ticket_chair_state (Waiting (get_or words 0 0)) (chair.entries + 1) chair.view))
  draws_number_to_be_served out less =
      let next = get_or words 0 0 in
      let now : ChairState B V = ticket_chair_state (Waiting next) (chair.entries + 1) chair.view in
      let next_is : next ≡ tickets_drawn chairs = turns.next_is in
      let behind = turns.behind in
      let sums = tickets_drawn-set_number_served chairs place chair now here in
      let one_more : tickets_drawn (set chairs place now) ≡ tickets_drawn chairs + 1 = omega arith in
      let within : ((j : ℕ) (x : ChairState B V) → slice_get (set chairs place now) j ≡ Some x → x.entries ≤ limit) =
      served_number_each_set (λ _ x. x.entries ≤ limit) chairs place now (omega arith) (λ j x _ e. turns.within j x e) in
      let long = length-set chairs place now in
      let room : length (set chairs place now) * limit < 2 ^ 64 = subst (λ (n : ℕ). n * limit < 2 ^ 64) (sym long)
      turns.room in
      let bound = tickets_drawn-le_number_served limit (set chairs place now) within in
      let small : next + 1 < 2 ^ 64 = omega arith in
      let none_yet : ticket_number chair.stage ≡ None = ap ticket_number out in (
        small,
        record {
          serving = turns.serving;
          book = turns.book;
          out = turns.out;
          room = room;
          within = within;
          next_is = get_or-set_same words 0 ((next + 1) % 2 ^ 64) 0 (board.has_next words turns.serving turns.shown)
              ∙ mod-eq_of_lt small ∙ ap (λ (n : ℕ). n + 1) next_is ∙ sym one_more;
          shown = board.draws words turns.serving ((next + 1) % 2 ^ 64) turns.shown;
          behind = omega arith;
          fits = served_number_each_set (λ _ x. FitsTickets turns.serving (tickets_drawn (set chairs place now)) turns.out turns.book x.stage)
              chairs place now
              (omega arith, omega arith)
              (λ j x _ e. served_number_fits_more turns.serving (tickets_drawn chairs) (tickets_drawn (set chairs place now)) turns.out turns.book
              x.stage (omega arith)
              (turns.fits j x e));
          apart = λ i j m f g. ⊎_elim
              (λ (one : (i ≡ place) × (Some next ≡ Some m)). ⊎_elim
              (λ (two : (j ≡ place) × (Some next ≡ Some m)). one.0 ∙ sym two.0)
              (λ (two : (j ≢ place) × HasTicket chairs j m). let low = between turns j m two.1 in
              let e : next ≡ m = same_Some next m one.1 in absurd (omega arith))
              (served_number_set chairs place now j m g))
              (λ (one : (i ≢ place) × HasTicket chairs i m). ⊎_elim
              (λ (two : (j ≡ place) × (Some next ≡ Some m)). let low = between turns i m one.1 in
              let e : next ≡ m = same_Some next m two.1 in absurd (omega arith))
              (λ (two : (j ≢ place) × HasTicket chairs j m). turns.apart i j m one.1 two.1)
              (served_number_set chairs place now j m g))
              (served_number_set chairs place now i m f);
          queued = λ m low high. dite (ℕ_discrete m next)
              (λ (e : m ≡ next). (place, served_number_set_here chairs place chair now m here (ap Some (sym e))))
              (λ (e : m ≢ next). let q = turns.queued m low (omega arith) in (
                q.0,
                served_number_set_else chairs place now q.0 m (λ z. none-some m
                    (sym none_yet ∙ served_number_known chairs place chair q.0 m here q.1 z)) q.1,
              ));
          lies = turns.lies;
          taken = λ o. let q = turns.taken o in (
            q.0,
            q.1,
            q.2,
            list_item_set_else chairs place q.0 now (λ z. served_number_inside_not_outside q.1 turns.book
                (sym q.4 ∙ ap (λ (y : ChairState B V). y.stage)
                (list_item_once chairs place q.2 chair (subst (λ (i : ℕ). slice_get chairs i ≡ Some q.2) z q.3) here) ∙ out))
                ∙ q.3,
            q.4,
          );
          kept = subst (λ (vs : List V). fact turns.book vs) (sym (served_number_views_same chairs place chair now here refl))
              turns.kept;
        },
      )

  pub served_number_not_out : (m : ℕ) → chair.stage ≡ Waiting m → m ≡ turns.serving → turns.out ≡ false
  served_number_not_out m waits number_is_served = served_number_not_true turns.out (λ o.
      let taker = turns.taken o in
      let fit = subst (λ (g : ChairStage B). FitsTickets turns.serving (tickets_drawn chairs) turns.out turns.book g) taker.4
      (turns.fits taker.0 taker.2 taker.3) in
      let mine : HasTicket chairs place m = (chair, here, ap ticket_number waits) in
      let same : taker.1 ≡ m = fit.0 ∙ sym number_is_served in
      let theirs : HasTicket chairs taker.0 m = (taker.2, taker.3, ap ticket_number taker.4 ∙ ap Some same) in
      let here_too = turns.apart taker.0 place m theirs mine in
      served_number_inside_not_waiting taker.1 m turns.book (sym taker.4 ∙ ap (λ (y : ChairState B V). y.stage)
      (list_item_once chairs place taker.2 chair
      (subst (λ (i : ℕ). slice_get chairs i ≡ Some taker.2) here_too taker.3) here) ∙ waits))

  pub enters_with_served_number : (m : ℕ) → chair.stage ≡ Waiting m → m ≡ turns.serving
      → TicketTurns fact shows limit words (none ∷ []) (set chairs place
      (ticket_chair_state (Inside m turns.book) chair.entries chair.view))
  enters_with_served_number m waits number_is_served =
      let now : ChairState B V = ticket_chair_state (Inside m turns.book) chair.entries chair.view in
      let sums = tickets_drawn-set_number_served chairs place chair now here in
      let as_many : tickets_drawn (set chairs place now) ≡ tickets_drawn chairs = omega arith in
      let more : tickets_drawn chairs ≤ tickets_drawn (set chairs place now) = omega arith in
      let mine = subst (λ (g : ChairStage B). FitsTickets turns.serving (tickets_drawn chairs) turns.out turns.book g) waits
      (turns.fits place chair here) in
      let off = served_number_not_out m waits number_is_served in
      let number_is : ticket_number chair.stage ≡ Some m = ap ticket_number waits in
      record {
        serving = turns.serving;
        book = turns.book;
        out = true;
        room = subst (λ (n : ℕ). n * limit < 2 ^ 64) (sym (length-set chairs place now)) turns.room;
        within = served_number_each_set (λ _ x. x.entries ≤ limit) chairs place now (turns.within place chair here)
            (λ j x _ e. turns.within j x e);
        next_is = turns.next_is ∙ sym as_many;
        shown = turns.shown;
        behind = let b = turns.behind in omega arith;
        fits = served_number_each_set (λ _ x. FitsTickets turns.serving (tickets_drawn (set chairs place now)) true turns.book x.stage) chairs
            place now
            (number_is_served, omega arith, refl, refl)
            (λ j x _ e. served_number_fits_out turns.serving (tickets_drawn (set chairs place now)) turns.out turns.book x.stage off
            (served_number_fits_more turns.serving (tickets_drawn chairs) (tickets_drawn (set chairs place now)) turns.out turns.book x.stage more
            (turns.fits j x e)));
        apart = λ i j n f g.
            let back : ((l : ℕ) → HasTicket (set chairs place now) l n → HasTicket chairs l n) = λ l h. ⊎_elim
            (λ (p : (l ≡ place) × (Some m ≡ Some n)). let e : HasTicket chairs place n =
            (chair, here, number_is ∙ p.1) in
            subst (λ (z : ℕ). HasTicket chairs z n) (sym p.0) e)
            (λ (p : (l ≢ place) × HasTicket chairs l n). p.1)
            (served_number_set chairs place now l n h) in
            turns.apart i j n (back i f) (back j g);
        queued = λ n low high. let q = turns.queued n low (omega arith) in dite (ℕ_discrete q.0 place)
            (λ (e : q.0 ≡ place). (
              place,
              served_number_set_here chairs place chair now n here
                  (sym number_is ∙ served_number_known chairs place chair q.0 n here q.1 e),
            ))
            (λ (e : q.0 ≢ place). (q.0, served_number_set_else chairs place now q.0 n e q.1));
        lies = refl;
        taken = λ _. (place, m, now, list_item_set_here chairs place now (slice_get_within chairs place chair here), refl);
        kept = subst (λ (vs : List V). fact turns.book vs) (sym (served_number_views_same chairs place chair now here refl))
            turns.kept;
      }

  -- a chair outside changes its view
  pub served_number_view_changes : (w : V) → chair.stage ≡ Outside → fact turns.book (set (map ticket_view_of chairs) place w)
      → TicketTurns fact shows limit words homes (set chairs place (ticket_chair_state Outside chair.entries w))
  served_number_view_changes w out keeps =
      let now : ChairState B V = ticket_chair_state Outside chair.entries w in
      let sums = tickets_drawn-set_number_served chairs place chair now here in
      let as_many : tickets_drawn (set chairs place now) ≡ tickets_drawn chairs = omega arith in
      let more : tickets_drawn chairs ≤ tickets_drawn (set chairs place now) = omega arith in
      let none_yet : ticket_number chair.stage ≡ None = ap ticket_number out in
      record {
        serving = turns.serving;
        book = turns.book;
        out = turns.out;
        room = subst (λ (n : ℕ). n * limit < 2 ^ 64) (sym (length-set chairs place now)) turns.room;
        within = served_number_each_set (λ _ x. x.entries ≤ limit) chairs place now (turns.within place chair here)
            (λ j x _ e. turns.within j x e);
        next_is = turns.next_is ∙ sym as_many;
        shown = turns.shown;
        behind = let b = turns.behind in omega arith;
        fits = served_number_each_set (λ _ x. FitsTickets turns.serving (tickets_drawn (set chairs place now)) turns.out turns.book x.stage)
            chairs place now tt
            (λ j x _ e. served_number_fits_more turns.serving (tickets_drawn chairs) (tickets_drawn (set chairs place now)) turns.out turns.book
            x.stage more (turns.fits j x e));
        apart = λ i j n f g.
            let back : ((l : ℕ) → HasTicket (set chairs place now) l n → HasTicket chairs l n) = λ l h. ⊎_elim
            (λ (p : (l ≡ place) × (None ≡ Some n)). absurd (none-some n p.1))
            (λ (p : (l ≢ place) × HasTicket chairs l n). p.1)
            (served_number_set chairs place now l n h) in
            turns.apart i j n (back i f) (back j g);
        queued = λ n low high. let q = turns.queued n low (omega arith) in (
          q.0,
          served_number_set_else chairs place now q.0 n (λ z. none-some n
              (sym none_yet ∙ served_number_known chairs place chair q.0 n here q.1 z)) q.1,
        );
        lies = turns.lies;
        taken = λ o. let q = turns.taken o in (
          q.0,
          q.1,
          q.2,
          list_item_set_else chairs place q.0 now (λ z. served_number_inside_not_outside q.1 turns.book
              (sym q.4 ∙ ap (λ (y : ChairState B V). y.stage)
              (list_item_once chairs place q.2 chair (subst (λ (i : ℕ). slice_get chairs i ≡ Some q.2) z q.3) here) ∙ out))
              ∙ q.3,
          q.4,
        );
        kept = subst (λ (vs : List V). fact turns.book vs) (sym (map-set ticket_view_of chairs place now)) keeps;
      }

  pub leaves_served_number : (m : ℕ) (found handed : B) (w : V) (words' : List ℕ) → chair.stage ≡ Inside m found → shows words'
      (m + 1)
      → get_or words' 0 0 ≡ get_or words 0 0 → fact handed (set (map ticket_view_of chairs) place w)
      → TicketTurns fact shows limit words' (some (Some handed) ∷ [])
      (set chairs place (ticket_chair_state Outside chair.entries w))
  leaves_served_number m found handed w words' inside shown same keeps =
      let now : ChairState B V = ticket_chair_state Outside chair.entries w in
      let sums = tickets_drawn-set_number_served chairs place chair now here in
      let as_many : tickets_drawn (set chairs place now) ≡ tickets_drawn chairs = omega arith in
      let mine = subst (λ (g : ChairStage B). FitsTickets turns.serving (tickets_drawn chairs) turns.out turns.book g) inside
      (turns.fits place chair here) in
      let number_is : ticket_number chair.stage ≡ Some m = ap ticket_number inside in
      record {
        serving = m + 1;
        book = handed;
        out = false;
        room = subst (λ (n : ℕ). n * limit < 2 ^ 64) (sym (length-set chairs place now)) turns.room;
        within = served_number_each_set (λ _ x. x.entries ≤ limit) chairs place now (turns.within place chair here)
            (λ j x _ e. turns.within j x e);
        next_is = same ∙ turns.next_is ∙ sym as_many;
        shown = shown;
        behind = let low = mine.1 in omega arith;
        fits = served_number_each_set (λ _ x. FitsTickets (m + 1) (tickets_drawn (set chairs place now)) false handed x.stage) chairs place now tt
            (λ j x ne e.
            let other : ticket_number x.stage ≡ Some m → ⊥ = λ f. ne
            (turns.apart j place m (x, e, f) (chair, here, number_is)) in
            let f = subst (λ (s : ℕ). FitsTickets s (tickets_drawn chairs) turns.out turns.book x.stage) (sym mine.0)
            (turns.fits j x e) in
            served_number_fits_next m (tickets_drawn (set chairs place now)) turns.out turns.book handed x.stage other
            (served_number_fits_more m (tickets_drawn chairs) (tickets_drawn (set chairs place now)) turns.out turns.book x.stage (omega arith) f));
        apart = λ i j n f g.
            let back : ((l : ℕ) → HasTicket (set chairs place now) l n → HasTicket chairs l n) = λ l h. ⊎_elim
            (λ (p : (l ≡ place) × (None ≡ Some n)). absurd (none-some n p.1))
            (λ (p : (l ≢ place) × HasTicket chairs l n). p.1)
            (served_number_set chairs place now l n h) in
            turns.apart i j n (back i f) (back j g);
        queued = λ n low high.
            let number_is_served = mine.0 in
            let q = turns.queued n (omega arith) (omega arith) in (
              q.0,
              served_number_set_else chairs place now q.0 n (λ z. let e : m ≡ n =
                  same_Some m n (sym number_is ∙ served_number_known chairs place chair q.0 n here q.1 z) in omega arith) q.1,
            );
        lies = refl;
        taken = λ o. absurd (let no : false ≡ true = o in cc);
        kept = subst (λ (vs : List V). fact handed vs) (sym (map-set ticket_view_of chairs place now)) keeps;
      }

  -- who is inside has the number that is served, and the book is out
  pub number_is_served : (m : ℕ) (found : B) → chair.stage ≡ Inside m found → IsNumberServed turns m found
  number_is_served m found inside =
      let fit = subst (λ (g : ChairStage B). FitsTickets turns.serving (tickets_drawn chairs) turns.out turns.book g) inside
      (turns.fits place chair here) in
      let below = fit.1 in
      let top = served_numbers_few in
      record {
        number = fit.0;
        fits = omega arith;
        book = fit.3;
        out = turns.lies ∙ ap (λ (o : Bool). ticket_shelf o turns.book) fit.2;
      }
