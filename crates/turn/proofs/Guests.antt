-- A seat takes in another's one chair as its guest, talks with it, and lets it go.
use Rattle.std.proofs.Common.{◌≡◌, ◌≢◌, ℕ, zero, ◌+◌, List, length, set, slice_get, Some, false, refl, sym, ap, ◌∙◌, subst, subst₂, ⊎_elim, add-zero}
use Rattle.std.proofs.Math.ListN.{length-set}
use mathlib.Core.Option.{Option}
use Rattle.std.proofs.lemmas.Option.{same_Some, slice_get_within}
use Rattle.atomic_table.specs.Table.{State, Splits, Joins}
use Rattle.turn.specs.declared.chair.ChairGuest.{ChairGuest}
use Rattle.turn.specs.declared.chair.ChairRun.{ChairRun}
use Rattle.turn.specs.ChairRuns.{chair_run_guest, one_chair_run, chairs_of_run, chair_run_of_first, run_of_chair_guest, chair_run_hosting, KnowsChairRun, KnowsGuestOfChairRun, DealtChairRuns}
use Rattle.turn.proofs.ListItems.{list_item_got, list_item_of_set, list_item_set_here, list_item_set_else, list_item_at_end}
use Rattle.turn.proofs.ChairPlaces.{chair_place_no_guest, chair_place_only_one, chair_place_given, chair_place_given_here, chair_place_given_else}

module _ {C : Type 0} where
  -- the run of one chair with another one as its guest
  abbrev pub hosting_guest : ℕ → C → ℕ → C → ChairRun C
  hosting_guest p c q d = chair_run_hosting (one_chair_run p c) (one_chair_run q d)

module _ (S C : Type 0) (n : ℕ) (core : List ℕ → List (Option S) → List C → Type 0) where
  -- a seat of one chair takes in another's
  hosts_guest_at : (id other : ℕ) (p q : ℕ) (c d : C) (spent : ChairRun C) → spent.live ≡ false
      → Joins (DealtChairRuns n core) id (one_chair_run p c) other (one_chair_run q d) (hosting_guest p c q d) spent
  hosts_guest_at id other p q c d spent dead table dealt found apart_ids met =
      let at = list_item_got table.views id (one_chair_run p c) found in
      let both = hosting_guest p c q d in
      let there : slice_get table.views other ≡ Some (one_chair_run q d) =
      sym (list_item_set_else table.views id other both apart_ids) ∙ list_item_got (set table.views id both) other (one_chair_run q d) met in
      let owner = chair_place_given dealt.owner q id in
      let mine = dealt.known id (one_chair_run p c) at refl zero c refl in
      let theirs = dealt.known other (one_chair_run q d) there refl zero d refl in
      let apart : p ≢ q = λ same. apart_ids (sym theirs.1 ∙ ap dealt.owner (ap (λ (k : ℕ). k + zero) (sym same)) ∙ mine.1) in
      record {
        chairs = dealt.chairs;
        owner = owner;
        all = dealt.all;
        known = λ j h e up. ⊎_elim
            (λ (gone : (j ≡ other) × (spent ≡ h)). let off : h.live ≡ false =
            ap (λ (g : ChairRun C). g.live) (sym gone.1) ∙ dead in cc)
            (λ (left : (j ≢ other) × (slice_get (set table.views id both) j ≡ Some h)). ⊎_elim
            (λ (own : (j ≡ id) × (both ≡ h)). subst (λ (g : ChairRun C). KnowsChairRun dealt.chairs owner j g) own.1
            (chair_place_only_one C (λ i x. (slice_get dealt.chairs (p + i) ≡ Some x) × (owner (p + i) ≡ j)) c (
              mine.0,
              chair_place_given_else dealt.owner q id (p + zero) (λ z. apart (sym (add-zero p) ∙ z)) ∙ mine.1 ∙ sym own.0,
            )))
            (λ (third : (j ≢ id) × (slice_get table.views j ≡ Some h)). λ (i : ℕ) (x : C)
            (f : slice_get (chairs_of_run h) i ≡ Some x).
            let known = dealt.known j h third.1 up i x f in
            let away : h.place + i ≢ q = λ same. left.0
            (sym known.1 ∙ ap dealt.owner (same ∙ sym (add-zero q)) ∙ theirs.1) in
            (known.0, chair_place_given_else dealt.owner q id (h.place + i) away ∙ known.1))
            (list_item_of_set table.views id j both h left.1))
            (list_item_of_set (set table.views id both) other j spent h e);
        guests = λ j h e up. ⊎_elim
            (λ (gone : (j ≡ other) × (spent ≡ h)). let off : h.live ≡ false =
            ap (λ (g : ChairRun C). g.live) (sym gone.1) ∙ dead in cc)
            (λ (left : (j ≢ other) × (slice_get (set table.views id both) j ≡ Some h)). ⊎_elim
            (λ (own : (j ≡ id) × (both ≡ h)). subst (λ (r : ChairRun C). KnowsGuestOfChairRun dealt.chairs owner j r) own.1
            (λ (g : ChairGuest C) (f : Some (chair_run_guest q d) ≡ Some g).
            subst (λ (x : ChairGuest C). (slice_get dealt.chairs x.place ≡ Some x.chair) × (owner x.place ≡ j) × (x.place ≢ p))
            (same_Some (chair_run_guest q d) g f) (
              subst (λ (k : ℕ). slice_get dealt.chairs k ≡ Some d) (add-zero q) theirs.0,
              chair_place_given_here dealt.owner q id q refl ∙ sym own.0,
              λ z. apart (sym z),
            )))
            (λ (third : (j ≢ id) × (slice_get table.views j ≡ Some h)). λ (g : ChairGuest C) (f : h.guest ≡ Some g).
            let known = dealt.guests j h third.1 up g f in
            let away : g.place ≢ q = λ same. left.0
            (sym known.1 ∙ ap dealt.owner (same ∙ sym (add-zero q)) ∙ theirs.1) in
            (known.0, chair_place_given_else dealt.owner q id g.place away ∙ known.1, known.2))
            (list_item_of_set table.views id j both h left.1))
            (list_item_of_set (set table.views id both) other j spent h e);
        keeps = dealt.keeps;
      }

  pub hosts_guest : (id other : ℕ) (h g spent : ChairRun C) → h ≡ one_chair_run h.place h.lead → g ≡ one_chair_run g.place g.lead
      → spent.live ≡ false → Joins (DealtChairRuns n core) id h other g (chair_run_hosting h g) spent
  hosts_guest id other h g spent one two dead =
      subst₂ (λ (x y : ChairRun C). Joins (DealtChairRuns n core) id x other y (chair_run_hosting x y) spent) (sym one) (sym two)
      (hosts_guest_at id other h.place g.place h.lead g.lead spent dead)

  -- and lets it go to a new seat
  dismisses_guest_at : (id p q : ℕ) (c d : C)
      → Splits (DealtChairRuns n core) id (hosting_guest p c q d) (one_chair_run p c) (one_chair_run q d)
  dismisses_guest_at id p q c d table dealt found =
      let run = hosting_guest p c q d in
      let at = list_item_got table.views id run found in
      let new = length table.views in
      let kept = set table.views id (one_chair_run p c) in
      let long : length kept ≡ new = length-set table.views id (one_chair_run p c) in
      let owner = chair_place_given dealt.owner q new in
      let mine = dealt.known id run at refl zero c refl in
      let guest = dealt.guests id run at refl (chair_run_guest q d) refl in
      record {
        chairs = dealt.chairs;
        owner = owner;
        all = dealt.all;
        known = λ j h e alive. ⊎_elim
            (λ (old : slice_get kept j ≡ Some h). ⊎_elim
            (λ (own : (j ≡ id) × (one_chair_run p c ≡ h)). subst (λ (g : ChairRun C). KnowsChairRun dealt.chairs owner j g) own.1
            (chair_place_only_one C (λ i x. (slice_get dealt.chairs (p + i) ≡ Some x) × (owner (p + i) ≡ j)) c (
              mine.0,
              chair_place_given_else dealt.owner q new (p + zero) (λ z. guest.2 (sym (sym (add-zero p) ∙ z))) ∙ mine.1 ∙ sym own.0,
            )))
            (λ (other : (j ≢ id) × (slice_get table.views j ≡ Some h)). λ (i : ℕ) (x : C)
            (there : slice_get (chairs_of_run h) i ≡ Some x).
            let theirs = dealt.known j h other.1 alive i x there in
            let apart : h.place + i ≢ q = λ same. other.0 (sym theirs.1 ∙ ap dealt.owner same ∙ guest.1) in
            (theirs.0, chair_place_given_else dealt.owner q new (h.place + i) apart ∙ theirs.1))
            (list_item_of_set table.views id j (one_chair_run p c) h old))
            (λ (last : (j ≡ length kept) × (one_chair_run q d ≡ h)).
            subst (λ (g : ChairRun C). KnowsChairRun dealt.chairs owner j g) last.1
            (chair_place_only_one C (λ i x. (slice_get dealt.chairs (q + i) ≡ Some x) × (owner (q + i) ≡ j)) d (
              subst (λ (k : ℕ). slice_get dealt.chairs k ≡ Some d) (sym (add-zero q)) guest.0,
              chair_place_given_here dealt.owner q new (q + zero) (add-zero q) ∙ sym (last.0 ∙ long),
            )))
            (list_item_at_end kept (one_chair_run q d) h j e);
        guests = λ j h e alive. ⊎_elim
            (λ (old : slice_get kept j ≡ Some h). ⊎_elim
            (λ (own : (j ≡ id) × (one_chair_run p c ≡ h)). subst (λ (g : ChairRun C). KnowsGuestOfChairRun dealt.chairs owner j g) own.1
            (chair_place_no_guest C dealt.chairs owner j (one_chair_run p c) refl))
            (λ (other : (j ≢ id) × (slice_get table.views j ≡ Some h)). λ (g : ChairGuest C) (f : h.guest ≡ Some g).
            let theirs = dealt.guests j h other.1 alive g f in
            let apart : g.place ≢ q = λ same. other.0 (sym theirs.1 ∙ ap dealt.owner same ∙ guest.1) in
            (theirs.0, chair_place_given_else dealt.owner q new g.place apart ∙ theirs.1, theirs.2))
            (list_item_of_set table.views id j (one_chair_run p c) h old))
            (λ (last : (j ≡ length kept) × (one_chair_run q d ≡ h)).
            subst (λ (g : ChairRun C). KnowsGuestOfChairRun dealt.chairs owner j g) last.1
            (chair_place_no_guest C dealt.chairs owner j (one_chair_run q d) refl))
            (list_item_at_end kept (one_chair_run q d) h j e);
        keeps = dealt.keeps;
      }

  pub dismisses_guest : (id p q : ℕ) (c d : C) (h : ChairRun C) → h ≡ hosting_guest p c q d
      → Splits (DealtChairRuns n core) id h (chair_run_of_first h) (run_of_chair_guest h)
  dismisses_guest id p q c d h is =
      subst (λ (x : ChairRun C). Splits (DealtChairRuns n core) id x (chair_run_of_first x) (run_of_chair_guest x)) (sym is)
      (dismisses_guest_at id p q c d)

module _ {S C : Type 0} {n : ℕ} {core : List ℕ → List (Option S) → List C → Type 0} {s : State S (ChairRun C)}
    (dealt : DealtChairRuns n core s) (id p q : ℕ) (c d : C) (at : slice_get s.views id ≡ Some (hosting_guest p c q d)) where
  -- the chair and its guest stand where they say, at two places
  pub guest_and_host_at_place : slice_get dealt.chairs p ≡ Some c
  guest_and_host_at_place = subst (λ (k : ℕ). slice_get dealt.chairs k ≡ Some c) (add-zero p)
      (dealt.known id (hosting_guest p c q d) at refl zero c refl).0

  pub guest_at_place : (slice_get dealt.chairs q ≡ Some d) × (dealt.owner q ≡ id) × (q ≢ p)
  guest_at_place = dealt.guests id (hosting_guest p c q d) at refl (chair_run_guest q d) refl

  -- a seat with a guest changes its own chair
  pub guest_stays_as_host_moves : (now : C) (words : List ℕ) (homes : List (Option S)) → core words homes (set dealt.chairs p now)
      → DealtChairRuns n core (record { words = words; homes = homes; views = set s.views id (hosting_guest p now q d) })
  guest_stays_as_host_moves now words homes keeps =
      let run = hosting_guest p now q d in
      let mine = dealt.known id (hosting_guest p c q d) at refl zero c refl in
      let guest = guest_at_place in
      record {
        chairs = set dealt.chairs p now;
        owner = dealt.owner;
        all = length-set dealt.chairs p now ∙ dealt.all;
        known = λ j h e live. ⊎_elim
            (λ (own : (j ≡ id) × (run ≡ h)).
            subst (λ (g : ChairRun C). KnowsChairRun (set dealt.chairs p now) dealt.owner j g) own.1
            (chair_place_only_one C (λ i x. (slice_get (set dealt.chairs p now) (p + i) ≡ Some x) × (dealt.owner (p + i) ≡ j)) now (
              subst (λ (k : ℕ). slice_get (set dealt.chairs p now) k ≡ Some now) (sym (add-zero p))
                  (list_item_set_here dealt.chairs p now (slice_get_within dealt.chairs p c guest_and_host_at_place)),
              mine.1 ∙ sym own.0,
            )))
            (λ (other : (j ≢ id) × (slice_get s.views j ≡ Some h)). λ (i : ℕ) (x : C)
            (f : slice_get (chairs_of_run h) i ≡ Some x).
            let theirs = dealt.known j h other.1 live i x f in
            let apart : h.place + i ≢ p = λ same. other.0
            (sym theirs.1 ∙ ap dealt.owner (same ∙ sym (add-zero p)) ∙ mine.1) in
            (list_item_set_else dealt.chairs p (h.place + i) now apart ∙ theirs.0, theirs.1))
            (list_item_of_set s.views id j run h e);
        guests = λ j h e live. ⊎_elim
            (λ (own : (j ≡ id) × (run ≡ h)).
            subst (λ (r : ChairRun C). KnowsGuestOfChairRun (set dealt.chairs p now) dealt.owner j r) own.1
            (λ (g : ChairGuest C) (f : Some (chair_run_guest q d) ≡ Some g).
            subst (λ (x : ChairGuest C). (slice_get (set dealt.chairs p now) x.place ≡ Some x.chair) × (dealt.owner x.place ≡ j)
            × (x.place ≢ p)) (same_Some (chair_run_guest q d) g f) (
              list_item_set_else dealt.chairs p q now guest.2 ∙ guest.0,
              guest.1 ∙ sym own.0,
              guest.2,
            )))
            (λ (other : (j ≢ id) × (slice_get s.views j ≡ Some h)). λ (g : ChairGuest C) (f : h.guest ≡ Some g).
            let theirs = dealt.guests j h other.1 live g f in
            let apart : g.place ≢ p = λ same. other.0
            (sym theirs.1 ∙ ap dealt.owner (same ∙ sym (add-zero p)) ∙ mine.1) in
            (list_item_set_else dealt.chairs p g.place now apart ∙ theirs.0, theirs.1, theirs.2))
            (list_item_of_set s.views id j run h e);
        keeps = keeps;
      }
