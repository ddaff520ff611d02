-- The lock at its start and at its end: its rule holds of the first table, each chair gets its place, and all
-- places come together again.
use Rattle.std.proofs.Common.{◌≡◌, ℕ, zero, suc, ◌+◌, ◌-◌, ◌*◌, ◌^◌, ◌<◌, ◌≤◌, List, [], ◌∷◌, ◌++◌, map, replicate, length, get_or, Bool, true, false, Option, Some, slice_get, refl, sym, ap, ◌∙◌, subst, ⊎_elim, zero-le, append_assoc, length-append, arith}
use Rattle.std.proofs.lemmas.List.{length-replicate, length-map, map-append}
use mathlib.Core.Option as maybe
use mathlib.Core.Option.{some, none, some-injective}
use Rattle.std.proofs.lemmas.Option.{none-some}
use lib.ListN.{get_elem?}
use Rattle.atomic_table.specs.Table.{Me, opening, Final, Seen}
use Rattle.atomic_table.specs.Seated.{TableId}
use Rattle.atomic_table.specs.declared.shared.Seat.{Seat}
use Rattle.turn.specs.declared.chair.ChairStage.TheVariants.{Outside}
use Rattle.turn.specs.declared.chair.ChairState.{ChairState}
use Rattle.turn.specs.declared.chair.ChairRun.{ChairRun}
use Rattle.turn.specs.declared.chair.ChairToken.{ChairToken}
use Rattle.turn.specs.Stages.{stage_carries}
use Rattle.turn.specs.Chairs.{chair_lock_id, lock, chair_place, chair_view, IsChairOutside, IsUnusedChair, AreUnusedChairs, chair_state_of}
use Rattle.turn.specs.ChairRuns.{chairs_of_run, rest_of_chair_run, chair_run_of_first, both_chair_runs, DealtChairRuns}
use Rattle.turn.specs.Tickets.{ticket_number, ticket_shelf, ticket_view_of, tickets_drawn, TicketTurns, FitsTickets}
use Rattle.turn.specs.SeatSteps.{fresh_stepping_seat, fresh_stepping_seat_run, IsSteppingSeatAtStage}
use Rattle.turn.proofs.ListItems.{list_item_got, list_item_at_end, list_item_of_longer, list_item_last, list_item_of_unmap, list_item_of_replicate, list_item_map_replicate, list_item_map_twice}
use Rattle.turn.proofs.ChairPlaces.{opened_chair_places, all_chair_places_known}
use Rattle.turn.proofs.NumbersServed.{served_number_not_true, served_number_inside_not_outside}

module _ (B V : Type 0) (fact : B → List V → Type 0) (shows : List ℕ → ℕ → Type 0) (limit : ℕ) where
  dealing_chairs_drawn_fresh : (n : ℕ) (v : V) → tickets_drawn (replicate n (fresh_stepping_seat {B = B} v)) ≡ 0
  dealing_chairs_drawn_fresh zero v = refl
  dealing_chairs_drawn_fresh (suc n) v = let h = dealing_chairs_drawn_fresh n v in omega arith

  dealing_chairs_first_turns : (n : ℕ) (words : List ℕ) (book : B) (v : V) → n * limit < 2 ^ 64 → get_or words 0 0 ≡ 0
      → shows words 0 → fact book (replicate n v)
      → TicketTurns fact shows limit words (some (Some book) ∷ []) (replicate n (fresh_stepping_seat v))
  dealing_chairs_first_turns n words book v room next shown keeps =
      let none_drawn = dealing_chairs_drawn_fresh n v in
      let idle : (k : ℕ) (c : ChairState B V) → slice_get (replicate n (fresh_stepping_seat v)) k ≡ Some c → fresh_stepping_seat v ≡ c =
      λ k c e. list_item_of_replicate n (fresh_stepping_seat v) c k e in
      record {
        serving = 0;
        book = book;
        out = false;
        room = subst (λ (m : ℕ). m * limit < 2 ^ 64) (sym (length-replicate n (fresh_stepping_seat {B = B} v))) room;
        within = λ k c e. subst (λ (x : ChairState B V). x.entries ≤ limit) (idle k c e) zero-le;
        next_is = next ∙ sym none_drawn;
        shown = shown;
        behind = zero-le;
        fits = λ k c e. subst (λ (x : ChairState B V). FitsTickets 0 (tickets_drawn (replicate n (fresh_stepping_seat {B = B} v))) false book
            x.stage) (idle k c e) tt;
        apart = λ k j m f g. absurd (none-some m (ap (λ (x : ChairState B V). ticket_number x.stage) (idle k f.0 f.1)
            ∙ f.2));
        queued = λ m low high. absurd (omega arith);
        lies = refl;
        taken = λ o. absurd (let no : false ≡ true = o in cc);
        kept = subst (λ (vs : List V). fact book vs) (sym (list_item_map_replicate ticket_view_of n (fresh_stepping_seat v))) keeps;
      }

  -- the rule holds of the first table
  pub dealing_chairs_begins : (n : ℕ) (words : List ℕ) (book : B) (v : V) → 0 < n → n * limit < 2 ^ 64 → get_or words 0 0 ≡ 0
      → shows words 0 → fact book (replicate n v)
      → DealtChairRuns n (TicketTurns fact shows limit) (opening words (Some book ∷ []) (fresh_stepping_seat_run v 0 n))
  dealing_chairs_begins zero words book v any room next shown keeps = absurd (omega arith)
  dealing_chairs_begins (suc n) words book v any room next shown keeps =
      opened_chair_places (Option B) (ChairState B V) (suc n) (TicketTurns fact shows limit) words (Some book ∷ [])
      (fresh_stepping_seat_run v 0 (suc n)) refl refl refl (length-replicate (suc n) (fresh_stepping_seat {B = B} v))
      (dealing_chairs_first_turns (suc n) words book v room next shown keeps)

  -- the slot of the last table has the book, and the fact holds of it and the chairs' views
  pub gathering_chairs_ends : (n id : ℕ) (run : ChairRun (ChairState B V)) (tokens : List (ChairToken B V)) (words : List ℕ)
      (slots : List (Option B)) (slot : Option B)
      → (run.live ≡ true) × (run.place ≡ 0) × (chairs_of_run run ≡ map chair_state_of tokens) → length tokens ≡ n
      → ((k : ℕ) (c : ChairToken B V) → slice_get tokens k ≡ Some c → IsChairOutside c)
      → Final (Seen (DealtChairRuns n (TicketTurns fact shows limit)) id run) words slots
      → get_elem? slots 0 ≡ some slot → (book : B) × (slot ≡ Some book) × fact book (map chair_view tokens)
  gathering_chairs_ends n id run tokens words slots slot (live, first, all) long outside last found =
      let table = last.0 in
      let dealt = last.1.0 in
      let turns = dealt.keeps in
      let count : length (chairs_of_run run) ≡ n = ap length all ∙ length-map tokens chair_state_of ∙ long in
      let chairs : dealt.chairs ≡ map chair_state_of tokens =
      all_chair_places_known (Option B) (ChairState B V) n (TicketTurns fact shows limit) table dealt id run
      (list_item_got table.views id run last.1.1) live first count ∙ all in
      let off : turns.out ≡ false = served_number_not_true turns.out (λ o.
      let taker = turns.taken o in
      let token = list_item_of_unmap chair_state_of tokens taker.0 taker.2
      (subst (λ (l : List (ChairState B V)). slice_get l taker.0 ≡ Some taker.2) chairs taker.3) in
      served_number_inside_not_outside taker.1 turns.book (sym taker.4 ∙ ap (λ (x : ChairState B V). x.stage) (sym token.2)
      ∙ outside taker.0 token.0 token.1)) in
      let lies : table.homes ≡ some (Some turns.book) ∷ [] =
      turns.lies ∙ ap (λ (o : Bool). ticket_shelf o turns.book) off in
      let views : map ticket_view_of dealt.chairs ≡ map chair_view tokens =
      ap (map ticket_view_of) chairs ∙ list_item_map_twice ticket_view_of chair_state_of tokens in
      let full : get_elem? slots 0 ≡ some (Some turns.book) =
      last.4 0 (Some turns.book) (ap (λ (homes : List (maybe.Option (Option B))). get_elem? homes 0) lies) in (
        turns.book,
        some-injective slot (Some turns.book) (sym found ∙ full),
        subst (λ (vs : List V). fact turns.book vs) views turns.kept,
      )

module _ {B V : Type 0} where
  -- the chairs that were dealt, and the seat with the places that are left
  pub record DealingChairs (first : V) (table : TableId) (limit n count : ℕ)
      (rest : Seat (Option B) (ChairRun (ChairState B V))) (chairs : List (ChairToken B V)) : Type 0 where
    pub own : rest.table_id ≡ table
    pub whole : rest.me ≡ (fresh_stepping_seat_run first count (n - count), [])
    pub long : length chairs ≡ count
    pub fresh : AreUnusedChairs (chair_lock_id table limit) first chairs

  dealing_chairs_rest_fresh : (v : V) (p n : ℕ) → rest_of_chair_run (fresh_stepping_seat_run {B = B} v p (suc n)) ≡ fresh_stepping_seat_run v (p + 1) n
  dealing_chairs_rest_fresh v p zero = refl
  dealing_chairs_rest_fresh v p (suc n) = refl

  dealing_chairs_one_left : (v : V) (p n : ℕ) → p < n → fresh_stepping_seat_run {B = B} v p (n - p) ≡ fresh_stepping_seat_run v p (suc (n - (p + 1)))
  dealing_chairs_one_left v p n less = let e : n - p ≡ suc (n - (p + 1)) = omega arith in ap (fresh_stepping_seat_run v p) e

  module _ (first : V) (table : TableId) (limit n count : ℕ) (rest : Seat (Option B) (ChairRun (ChairState B V)))
      (chairs : List (ChairToken B V)) (d : DealingChairs first table limit n count rest chairs) (less : count < n) where
    dealing_chairs_has_more : rest.me ≡ (fresh_stepping_seat_run first count (suc (n - (count + 1))), [])
    dealing_chairs_has_more = d.whole ∙ ap (λ (h : ChairRun (ChairState B V)). (h, [])) (dealing_chairs_one_left first count n less)

    pub dealing_chairs_is_live : rest.me.0.live ≡ true
    dealing_chairs_is_live = ap (λ (m : Me (Option B) (ChairRun (ChairState B V))). m.0.live) dealing_chairs_has_more

    pub dealing_chairs_first_sits : (seat : Seat (Option B) (ChairRun (ChairState B V))) → seat.me ≡ (chair_run_of_first rest.me.0, [])
        → IsSteppingSeatAtStage Outside seat.me × (seat.me.0.lead.entries ≡ 0) × (seat.me.0.place ≡ count)
        × (seat.me.0.lead.view ≡ first)
    dealing_chairs_first_sits seat e =
        let f : seat.me ≡ (chair_run_of_first (fresh_stepping_seat_run first count (suc (n - (count + 1)))), []) =
        e ∙ ap (λ (m : Me (Option B) (ChairRun (ChairState B V))). (chair_run_of_first m.0, [])) dealing_chairs_has_more in
        let P : Me (Option B) (ChairRun (ChairState B V)) → Type 0 =
        λ m. IsSteppingSeatAtStage Outside m × (m.0.lead.entries ≡ 0) × (m.0.place ≡ count) × (m.0.lead.view ≡ first) in
        subst P (sym f) (refl, refl, refl, refl)

    pub dealing_chairs_deals_one : (rest' seat : Seat (Option B) (ChairRun (ChairState B V))) (chair : ChairToken B V)
        → rest'.table_id ≡ rest.table_id → rest'.me ≡ (rest_of_chair_run rest.me.0, rest.me.1)
        → seat.table_id ≡ rest.table_id → seat.me ≡ (chair_run_of_first rest.me.0, [])
        → IsUnusedChair (chair_lock_id seat.table_id limit) seat.me.0.place seat.me.0.lead.view chair
        → DealingChairs first table limit n (count + 1) rest' (chairs ++ chair ∷ [])
    dealing_chairs_deals_one rest' seat chair same left same' right new =
        let at = dealing_chairs_first_sits seat right in
        record {
          own = same ∙ d.own;
          whole = left ∙ ap (λ (m : Me (Option B) (ChairRun (ChairState B V))). (rest_of_chair_run m.0, m.1)) dealing_chairs_has_more
              ∙ ap (λ (h : ChairRun (ChairState B V)). (h, [])) (dealing_chairs_rest_fresh first count (n - (count + 1)));
          long = let l = d.long in omega (arith, length-append chairs (chair ∷ []));
          fresh = λ k c e. ⊎_elim
              (λ (f : slice_get chairs k ≡ Some c). d.fresh k c f)
              (λ (f : (k ≡ length chairs) × (chair ≡ c)). subst
              (λ (x : ChairToken B V). IsUnusedChair (chair_lock_id table limit) k first x) f.1 (
                new.0 ∙ ap (λ (z : TableId). chair_lock_id z limit) (same' ∙ d.own),
                new.1 ∙ at.2 ∙ sym (f.0 ∙ d.long),
                new.2 ∙ at.3,
                new.3,
                new.4,
              ))
              (list_item_at_end chairs chair c k e);
        }

  -- the chairs that are left, and the seat with the places of the others
  pub record GatheringChairs (table : TableId) (limit : ℕ) (all : List (ChairToken B V))
      (whole : Seat (Option B) (ChairRun (ChairState B V))) (rest : List (ChairToken B V)) : Type 0 where
    pub own : whole.table_id ≡ table
    pub free : whole.me.1 ≡ []
    pub live : whole.me.0.live ≡ true
    pub next : whole.me.0.place ≡ length rest
    pub taken : map chair_state_of all ≡ map chair_state_of rest ++ chairs_of_run whole.me.0
    pub left : (k : ℕ) (c : ChairToken B V) → slice_get rest k ≡ Some c
        → (lock c ≡ chair_lock_id table limit) × (chair_place c ≡ k) × IsChairOutside c

  gathering_chair_carries_none : (c : ChairToken B V) → IsChairOutside c → c.seat.me.1 ≡ []
  gathering_chair_carries_none c outside = c.carries ∙ ap stage_carries outside

  module _ (table : TableId) (limit : ℕ) where
    pub gathering_last_chair : (all rest : List (ChairToken B V)) (c : ChairToken B V) → all ≡ rest ++ c ∷ []
        → ((k : ℕ) (x : ChairToken B V) → slice_get all k ≡ Some x
        → (lock x ≡ chair_lock_id table limit) × (chair_place x ≡ k) × IsChairOutside x)
        → GatheringChairs table limit all c.seat rest
    gathering_last_chair all rest c e each =
        let each' = subst (λ (l : List (ChairToken B V)). (k : ℕ) (x : ChairToken B V) → slice_get l k ≡ Some x
        → (lock x ≡ chair_lock_id table limit) × (chair_place x ≡ k) × IsChairOutside x) e each in
        let last = each' (length rest) c (list_item_last rest c (length rest) refl) in
        record {
          own = ap (λ z. z.table) last.0;
          free = gathering_chair_carries_none c last.2;
          live = c.single.0;
          next = last.1;
          taken = ap (map chair_state_of) e ∙ map-append chair_state_of rest (c ∷ [])
              ∙ ap (λ (xs : List (ChairState B V)). map chair_state_of rest ++ chair_state_of c ∷ xs) (sym c.single.1);
          left = λ k x f. each' k x (list_item_of_longer rest (c ∷ []) k x f);
        }

    module _ (all rest rest' : List (ChairToken B V)) (whole : Seat (Option B) (ChairRun (ChairState B V)))
        (c : ChairToken B V) (seat : Seat (Option B) (ChairRun (ChairState B V)))
        (g : GatheringChairs table limit all whole rest) (e : rest ≡ rest' ++ c ∷ []) (is : seat ≡ c.seat) where
      gathering_chairs_each_left : (k : ℕ) (x : ChairToken B V) → slice_get (rest' ++ c ∷ []) k ≡ Some x
          → (lock x ≡ chair_lock_id table limit) × (chair_place x ≡ k) × IsChairOutside x
      gathering_chairs_each_left = subst (λ (l : List (ChairToken B V)). (k : ℕ) (x : ChairToken B V) → slice_get l k ≡ Some x
          → (lock x ≡ chair_lock_id table limit) × (chair_place x ≡ k) × IsChairOutside x) e g.left

      -- the chair that is taken in is of this lock, free, and has the place before
      pub gathering_chair_before : (seat.table_id ≡ table) × (seat.me.1 ≡ []) × (whole.me.0.place ≡ seat.me.0.place + 1)
          × (seat.me.0.live ≡ true)
      gathering_chair_before =
          let last = gathering_chairs_each_left (length rest') c (list_item_last rest' c (length rest') refl) in
          let P : Seat (Option B) (ChairRun (ChairState B V)) → Type 0 =
          λ s. (s.table_id ≡ table) × (s.me.1 ≡ []) × (whole.me.0.place ≡ s.me.0.place + 1)
          × (s.me.0.live ≡ true) in
          subst P (sym is) (
            ap (λ z. z.table) last.0,
            gathering_chair_carries_none c last.2,
            g.next ∙ ap length e ∙ length-append rest' (c ∷ []) ∙ ap (λ (k : ℕ). k + 1) (sym last.1),
            c.single.0,
          )

      pub gathering_one_chair : (whole' : Seat (Option B) (ChairRun (ChairState B V))) → whole'.table_id ≡ whole.table_id
          → whole'.me ≡ (both_chair_runs whole.me.0 seat.me.0, whole.me.1) → GatheringChairs table limit all whole' rest'
      gathering_one_chair whole' same merged =
          let joined : whole'.me ≡ (both_chair_runs whole.me.0 c.seat.me.0, whole.me.1) =
          merged ∙ ap (λ (s : Seat (Option B) (ChairRun (ChairState B V))). (
            both_chair_runs whole.me.0 s.me.0,
            whole.me.1,
          )) is in
          let last = gathering_chairs_each_left (length rest') c (list_item_last rest' c (length rest') refl) in
          record {
            own = same ∙ g.own;
            free = ap (λ (m : Me (Option B) (ChairRun (ChairState B V))). m.1) joined ∙ g.free;
            live = ap (λ (m : Me (Option B) (ChairRun (ChairState B V))). m.0.live) joined;
            next = ap (λ (m : Me (Option B) (ChairRun (ChairState B V))). m.0.place) joined ∙ last.1;
            taken = g.taken ∙ ap (λ (l : List (ChairToken B V)). map chair_state_of l ++ chairs_of_run whole.me.0) e
                ∙ ap (λ (l : List (ChairState B V)). l ++ chairs_of_run whole.me.0) (map-append chair_state_of rest' (c ∷ []))
                ∙ append_assoc (map chair_state_of rest') (chair_state_of c ∷ []) (chairs_of_run whole.me.0)
                ∙ ap (λ (m : Me (Option B) (ChairRun (ChairState B V))). map chair_state_of rest' ++ chairs_of_run m.0)
                (sym joined);
            left = λ k x f. gathering_chairs_each_left k x (list_item_of_longer rest' (c ∷ []) k x f);
          }
