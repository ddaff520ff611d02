-- What a seat does to the chairs at its places: it changes one, gives one away, takes one in, and knows them all
-- once it has all.
use Rattle.std.proofs.Common.{◌≡◌, ◌≢◌, ℕ, zero, suc, ◌+◌, List, [], ◌∷◌, map, length, set, slice_get, Some, None, Bool, true, false, cond, eqb, eq-eqb, ne_eqb, refl, sym, ap, ◌∙◌, subst, ⊎_elim, add-zero, arith}
use Rattle.std.proofs.Math.ListN.{length-set}
use mathlib.Core.Option.{Option, some}
use Rattle.std.proofs.lemmas.Option.{same_Some, none-some, slice_get_within}
use Rattle.atomic_table.specs.Table.{State, opening, Splits, Joins}
use Rattle.turn.specs.declared.chair.ChairGuest.{ChairGuest}
use Rattle.turn.specs.declared.chair.ChairRun.{ChairRun}
use Rattle.turn.specs.ChairRuns.{one_chair_run, chairs_of_run, chair_run_after_first, rest_of_chair_run, chair_run_of_first, both_chair_runs, KnowsChairRun, KnowsGuestOfChairRun, DealtChairRuns}
use Rattle.turn.proofs.ListItems.{list_item_got, list_item_of_set, list_item_set_here, list_item_set_else, list_item_at_end, same_list_items}

-- f with one place given to another seat
pub chair_place_given : (ℕ → ℕ) → ℕ → ℕ → ℕ → ℕ
chair_place_given f p id k = cond (eqb k p) id (f k)

pub chair_place_given_here : (f : ℕ → ℕ) (p id k : ℕ) → k ≡ p → chair_place_given f p id k ≡ id
unfolding chair_place_given
chair_place_given_here f p id k e = ap (λ (b : Bool). cond b id (f k)) (eq-eqb k p e)

pub chair_place_given_else : (f : ℕ → ℕ) (p id k : ℕ) → k ≢ p → chair_place_given f p id k ≡ f k
unfolding chair_place_given
chair_place_given_else f p id k n = ap (λ (b : Bool). cond b id (f k)) (ne_eqb k p n)

module _ (C : Type 0) where
  -- a run without a guest
  pub chair_place_no_guest : (chairs : List C) (owner : ℕ → ℕ) (id : ℕ) (h : ChairRun C) → h.guest ≡ None → KnowsGuestOfChairRun chairs owner id h
  chair_place_no_guest chairs owner id h none g e = absurd (none-some g (sym none ∙ e))

  rest_of_chair_places_no_guest : (p : ℕ) (c : C) (cs : List C) → (chair_run_after_first p c cs).guest ≡ None
  rest_of_chair_places_no_guest p c [] = refl
  rest_of_chair_places_no_guest p c (y ∷ ys) = refl

  -- one more place: the chairs of a run of one
  pub chair_place_only_one : (P : ℕ → C → Type 0) (c : C) → P 0 c → (j : ℕ) (d : C) → slice_get (c ∷ []) j ≡ Some d → P j d
  chair_place_only_one P c here zero d e = subst (λ (x : C). P 0 x) (same_Some c d e) here
  chair_place_only_one P c here (suc j) d e = absurd (none-some d e)

  chair_place_and_more : (P : ℕ → C → Type 0) (c : C) (cs : List C) → P 0 c
      → ((j : ℕ) (d : C) → slice_get cs j ≡ Some d → P (suc j) d) → (j : ℕ) (d : C) → slice_get (c ∷ cs) j ≡ Some d
      → P j d
  chair_place_and_more P c cs here rest zero d e = subst (λ (x : C). P 0 x) (same_Some c d e) here
  chair_place_and_more P c cs here rest (suc j) d e = rest j d e

module _ {S C : Type 0} {n : ℕ} {core : List ℕ → List (Option S) → List C → Type 0} {s : State S (ChairRun C)}
    (dealt : DealtChairRuns n core s) (id place : ℕ) (chair : C) where
  -- the chair of a seat with one place
  pub chair_at_place : slice_get s.views id ≡ Some (one_chair_run place chair) → slice_get dealt.chairs place ≡ Some chair
  chair_at_place at = subst (λ (k : ℕ). slice_get dealt.chairs k ≡ Some chair) (add-zero place)
      (dealt.known id (one_chair_run place chair) at refl zero chair refl).0

  moved_chair_place_known : (now : C) → slice_get s.views id ≡ Some (one_chair_run place chair) → (j : ℕ) (h : ChairRun C)
      → slice_get (set s.views id (one_chair_run place now)) j ≡ Some h → h.live ≡ true
      → KnowsChairRun (set dealt.chairs place now) dealt.owner j h
  moved_chair_place_known now at j h e live =
      let mine = dealt.known id (one_chair_run place chair) at refl zero chair refl in
      ⊎_elim
      (λ (own : (j ≡ id) × (one_chair_run place now ≡ h)). subst
      (λ (g : ChairRun C). KnowsChairRun (set dealt.chairs place now) dealt.owner j g) own.1
      (chair_place_only_one C (λ i x. (slice_get (set dealt.chairs place now) (place + i) ≡ Some x) × (dealt.owner (place + i) ≡ j))
      now (
        subst (λ (k : ℕ). slice_get (set dealt.chairs place now) k ≡ Some now) (sym (add-zero place))
            (list_item_set_here dealt.chairs place now (slice_get_within dealt.chairs place chair (chair_at_place at))),
        mine.1 ∙ sym own.0,
      )))
      (λ (other : (j ≢ id) × (slice_get s.views j ≡ Some h)). λ (i : ℕ) (x : C)
      (f : slice_get (chairs_of_run h) i ≡ Some x).
      let theirs = dealt.known j h other.1 live i x f in
      let apart : h.place + i ≢ place = λ same. other.0
      (sym theirs.1 ∙ ap dealt.owner (same ∙ sym (add-zero place)) ∙ mine.1) in
      (list_item_set_else dealt.chairs place (h.place + i) now apart ∙ theirs.0, theirs.1))
      (list_item_of_set s.views id j (one_chair_run place now) h e)

  moved_chair_place_guests : (now : C) → slice_get s.views id ≡ Some (one_chair_run place chair) → (j : ℕ) (h : ChairRun C)
      → slice_get (set s.views id (one_chair_run place now)) j ≡ Some h → h.live ≡ true
      → KnowsGuestOfChairRun (set dealt.chairs place now) dealt.owner j h
  moved_chair_place_guests now at j h e live =
      let mine = dealt.known id (one_chair_run place chair) at refl zero chair refl in
      ⊎_elim
      (λ (own : (j ≡ id) × (one_chair_run place now ≡ h)).
      subst (λ (g : ChairRun C). KnowsGuestOfChairRun (set dealt.chairs place now) dealt.owner j g) own.1
      (chair_place_no_guest C (set dealt.chairs place now) dealt.owner j (one_chair_run place now) refl))
      (λ (other : (j ≢ id) × (slice_get s.views j ≡ Some h)). λ (g : ChairGuest C) (f : h.guest ≡ Some g).
      let theirs = dealt.guests j h other.1 live g f in
      let apart : g.place ≢ place = λ same. other.0
      (sym theirs.1 ∙ ap dealt.owner (same ∙ sym (add-zero place)) ∙ mine.1) in
      (list_item_set_else dealt.chairs place g.place now apart ∙ theirs.0, theirs.1, theirs.2))
      (list_item_of_set s.views id j (one_chair_run place now) h e)

  -- a seat with one place changes its chair
  pub chair_place_moved : (now : C) (words : List ℕ) (homes : List (Option S)) → slice_get s.views id ≡ Some (one_chair_run place chair)
      → core words homes (set dealt.chairs place now)
      → DealtChairRuns n core (record { words = words; homes = homes; views = set s.views id (one_chair_run place now) })
  chair_place_moved now words homes at keeps = record {
    chairs = set dealt.chairs place now;
    owner = dealt.owner;
    all = length-set dealt.chairs place now ∙ dealt.all;
    known = moved_chair_place_known now at;
    guests = moved_chair_place_guests now at;
    keeps = keeps;
  }

module _ (S C : Type 0) (n : ℕ) (core : List ℕ → List (Option S) → List C → Type 0) where
  first_chair_place_known : (table : State S (ChairRun C)) (dealt : DealtChairRuns n core table) (id : ℕ) (run : ChairRun C) → run.live
      ≡ true
      → slice_get table.views id ≡ Some run → (new : ℕ) → KnowsChairRun dealt.chairs (chair_place_given dealt.owner run.place new) new
      (chair_run_of_first run)
  first_chair_place_known table dealt id run live at new = chair_place_only_one C
      (λ i x. (slice_get dealt.chairs (run.place + i) ≡ Some x) ×
      (chair_place_given dealt.owner run.place new (run.place + i) ≡ new)) run.lead (
        (dealt.known id run at live zero run.lead refl).0,
        chair_place_given_here dealt.owner run.place new (run.place + zero)
            (add-zero run.place),
      )

  rest_of_chair_places_known : (table : State S (ChairRun C)) (dealt : DealtChairRuns n core table) (id new p : ℕ) (c : C) (cs : List C)
      → ((j : ℕ) (x : C) → slice_get (c ∷ cs) j ≡ Some x
      → (slice_get dealt.chairs (p + j) ≡ Some x) × (dealt.owner (p + j) ≡ id))
      → (chair_run_after_first (p + 1) c cs).live ≡ true → KnowsChairRun dealt.chairs (chair_place_given dealt.owner p new) id
      (chair_run_after_first (p + 1) c cs)
  rest_of_chair_places_known table dealt id new p c [] known live = cc
  rest_of_chair_places_known table dealt id new p c (y ∷ ys) known live = λ (j : ℕ) (x : C) (e : slice_get (y ∷ ys) j ≡ Some x).
      let k = known (suc j) x e in
      let same : p + suc j ≡ p + 1 + j = omega arith in (
        subst (λ (i : ℕ). slice_get dealt.chairs i ≡ Some x) same k.0,
        chair_place_given_else dealt.owner p new (p + 1 + j) (λ z. omega arith) ∙ ap dealt.owner (sym same) ∙ k.1,
      )

  -- a seat gives its first chair to a new seat
  pub chair_places_split : (id : ℕ) (run : ChairRun C) → run.live ≡ true
      → Splits (DealtChairRuns n core) id run (rest_of_chair_run run) (chair_run_of_first run)
  chair_places_split id run live table dealt found =
      let at = list_item_got table.views id run found in
      let new = length table.views in
      let kept = set table.views id (rest_of_chair_run run) in
      let long : length kept ≡ new = length-set table.views id (rest_of_chair_run run) in
      let owner = chair_place_given dealt.owner run.place new in
      record {
        chairs = dealt.chairs;
        owner = owner;
        all = dealt.all;
        known = λ j h e alive. ⊎_elim
            (λ (old : slice_get kept j ≡ Some h). ⊎_elim
            (λ (own : (j ≡ id) × (rest_of_chair_run run ≡ h)).
            let rest = rest_of_chair_places_known table dealt id new run.place run.lead run.others (dealt.known id run at live) in
            let left = subst (λ (g : ChairRun C). g.live ≡ true → KnowsChairRun dealt.chairs owner id g) own.1 rest in
            subst (λ (i : ℕ). KnowsChairRun dealt.chairs owner i h) (sym own.0) (left alive))
            (λ (other : (j ≢ id) × (slice_get table.views j ≡ Some h)). λ (i : ℕ) (x : C)
            (there : slice_get (chairs_of_run h) i ≡ Some x).
            let theirs = dealt.known j h other.1 alive i x there in
            let mine = dealt.known id run at live zero run.lead refl in
            let apart : h.place + i ≢ run.place = λ same. other.0
            (sym theirs.1 ∙ ap dealt.owner (same ∙ sym (add-zero run.place)) ∙ mine.1) in
            (theirs.0, chair_place_given_else dealt.owner run.place new (h.place + i) apart ∙ theirs.1))
            (list_item_of_set table.views id j (rest_of_chair_run run) h old))
            (λ (last : (j ≡ length kept) × (chair_run_of_first run ≡ h)).
            subst (λ (g : ChairRun C). KnowsChairRun dealt.chairs owner j g) last.1
            (subst (λ (i : ℕ). KnowsChairRun dealt.chairs owner i (chair_run_of_first run)) (sym (last.0 ∙ long))
            (first_chair_place_known table dealt id run live at new)))
            (list_item_at_end kept (chair_run_of_first run) h j e);
        guests = λ j h e alive. ⊎_elim
            (λ (old : slice_get kept j ≡ Some h). ⊎_elim
            (λ (own : (j ≡ id) × (rest_of_chair_run run ≡ h)).
            subst (λ (g : ChairRun C). KnowsGuestOfChairRun dealt.chairs owner j g) own.1
            (chair_place_no_guest C dealt.chairs owner j (rest_of_chair_run run)
            (rest_of_chair_places_no_guest C (run.place + 1) run.lead run.others)))
            (λ (other : (j ≢ id) × (slice_get table.views j ≡ Some h)). λ (g : ChairGuest C) (f : h.guest ≡ Some g).
            let theirs = dealt.guests j h other.1 alive g f in
            let mine = dealt.known id run at live zero run.lead refl in
            let apart : g.place ≢ run.place = λ same. other.0
            (sym theirs.1 ∙ ap dealt.owner (same ∙ sym (add-zero run.place)) ∙ mine.1) in
            (theirs.0, chair_place_given_else dealt.owner run.place new g.place apart ∙ theirs.1, theirs.2))
            (list_item_of_set table.views id j (rest_of_chair_run run) h old))
            (λ (last : (j ≡ length kept) × (chair_run_of_first run ≡ h)).
            subst (λ (g : ChairRun C). KnowsGuestOfChairRun dealt.chairs owner j g) last.1
            (chair_place_no_guest C dealt.chairs owner j (chair_run_of_first run) refl))
            (list_item_at_end kept (chair_run_of_first run) h j e);
        keeps = dealt.keeps;
      }

  -- a seat takes in the chair at the place before its own
  pub chair_places_joined : (id other : ℕ) (run lower spent : ChairRun C) → run.live ≡ true → lower.live ≡ true
      → spent.live ≡ false → run.place ≡ lower.place + 1
      → Joins (DealtChairRuns n core) id run other lower (both_chair_runs run lower) spent
  chair_places_joined id other run lower spent live alive dead next table dealt found apart_ids met =
      let at = list_item_got table.views id run found in
      let both = both_chair_runs run lower in
      let there : slice_get table.views other ≡ Some lower =
      sym (list_item_set_else table.views id other both apart_ids) ∙ list_item_got (set table.views id both) other lower met in
      let owner = chair_place_given dealt.owner lower.place id in
      let first = dealt.known other lower there alive zero lower.lead refl in
      record {
        chairs = dealt.chairs;
        owner = owner;
        all = dealt.all;
        known = λ j h e up. ⊎_elim
            (λ (gone : (j ≡ other) × (spent ≡ h)). let off : h.live ≡ false =
            ap (λ (g : ChairRun C). g.live) (sym gone.1) ∙ dead in cc)
            (λ (left : (j ≢ other) × (slice_get (set table.views id both) j ≡ Some h)). ⊎_elim
            (λ (own : (j ≡ id) × (both ≡ h)). subst (λ (g : ChairRun C). KnowsChairRun dealt.chairs owner j g) own.1
            (chair_place_and_more C (λ i x. (slice_get dealt.chairs (lower.place + i) ≡ Some x) × (owner (lower.place + i) ≡ j))
            lower.lead (chairs_of_run run)
            (first.0, chair_place_given_here dealt.owner lower.place id (lower.place + zero) (add-zero lower.place) ∙ sym own.0)
            (λ i x f.
            let mine = dealt.known id run at live i x f in
            let same : run.place + i ≡ lower.place + suc i = omega arith in (
              subst (λ (p : ℕ). slice_get dealt.chairs p ≡ Some x) same mine.0,
              chair_place_given_else dealt.owner lower.place id (lower.place + suc i) (λ z. omega arith)
                  ∙ ap dealt.owner (sym same) ∙ mine.1 ∙ sym own.0,
            ))))
            (λ (third : (j ≢ id) × (slice_get table.views j ≡ Some h)). λ (i : ℕ) (x : C)
            (f : slice_get (chairs_of_run h) i ≡ Some x).
            let theirs = dealt.known j h third.1 up i x f in
            let apart : h.place + i ≢ lower.place = λ same. left.0
            (sym theirs.1 ∙ ap dealt.owner (same ∙ sym (add-zero lower.place)) ∙ first.1) in
            (theirs.0, chair_place_given_else dealt.owner lower.place id (h.place + i) apart ∙ theirs.1))
            (list_item_of_set table.views id j both h left.1))
            (list_item_of_set (set table.views id both) other j spent h e);
        guests = λ j h e up. ⊎_elim
            (λ (gone : (j ≡ other) × (spent ≡ h)). let off : h.live ≡ false =
            ap (λ (g : ChairRun C). g.live) (sym gone.1) ∙ dead in cc)
            (λ (left : (j ≢ other) × (slice_get (set table.views id both) j ≡ Some h)). ⊎_elim
            (λ (own : (j ≡ id) × (both ≡ h)). subst (λ (g : ChairRun C). KnowsGuestOfChairRun dealt.chairs owner j g) own.1
            (chair_place_no_guest C dealt.chairs owner j both refl))
            (λ (third : (j ≢ id) × (slice_get table.views j ≡ Some h)). λ (g : ChairGuest C) (f : h.guest ≡ Some g).
            let theirs = dealt.guests j h third.1 up g f in
            let apart : g.place ≢ lower.place = λ same. left.0
            (sym theirs.1 ∙ ap dealt.owner (same ∙ sym (add-zero lower.place)) ∙ first.1) in
            (theirs.0, chair_place_given_else dealt.owner lower.place id g.place apart ∙ theirs.1, theirs.2))
            (list_item_of_set table.views id j both h left.1))
            (list_item_of_set (set table.views id both) other j spent h e);
        keeps = dealt.keeps;
      }

  -- the table at the start: one seat has all places
  pub opened_chair_places : (words : List ℕ) (slots : List S) (run : ChairRun C) → run.live ≡ true → run.place ≡ 0
      → run.guest ≡ None → length (chairs_of_run run) ≡ n → core words (map some slots) (chairs_of_run run)
      → DealtChairRuns n core (opening words slots run)
  opened_chair_places words slots run live first alone all keeps = record {
    chairs = chairs_of_run run;
    owner = λ _. 0;
    all = all;
    known = λ j h e up. chair_place_only_one (ChairRun C) (λ i g. KnowsChairRun (chairs_of_run run) (λ _. 0) i g) run
        (λ i x f. (
          subst (λ (k : ℕ). slice_get (chairs_of_run run) k ≡ Some x)
              (let z : i ≡ run.place + i = omega arith in z) f,
          refl,
        )) j h e;
    guests = λ j h e up. chair_place_only_one (ChairRun C) (λ i g. KnowsGuestOfChairRun (chairs_of_run run) (λ _. 0) i g) run
        (chair_place_no_guest C (chairs_of_run run) (λ _. 0) 0 run alone) j h e;
    keeps = keeps;
  }

  -- who has all places knows all chairs
  pub all_chair_places_known : (table : State S (ChairRun C)) (dealt : DealtChairRuns n core table) (id : ℕ) (run : ChairRun C)
      → slice_get table.views id ≡ Some run → run.live ≡ true → run.place ≡ 0 → length (chairs_of_run run) ≡ n
      → dealt.chairs ≡ chairs_of_run
      run
  all_chair_places_known table dealt id run at live first all = same_list_items dealt.chairs (chairs_of_run run) (dealt.all ∙ sym all)
      (λ j x e. subst (λ (k : ℕ). slice_get dealt.chairs k ≡ Some x) (let z : run.place + j ≡ j = omega arith in z)
      (dealt.known id run at live j x e).0)
