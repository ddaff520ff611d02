-- Processors in two parts of a list, of which the one sees what the other has seen.
use Rattle.std.proofs.Common.{ℕ, ◌≡◌, ◌+◌, ◌-◌, ◌<◌, Some, List, [], ◌∷◌, ◌++◌, length, take, drop, get_or, slice_get, slice_set, refl, sym, ap, ap₂, subst, subst₂, ◌∙◌, add-zero, arith}
use Rattle.std.proofs.Math.Seq.{take-append_seam}
use Rattle.std.proofs.lemmas.List.{length-append, length-set, set-append_left, set-append_right}
use Rattle.std.proofs.lemmas.Option.{same_Some, slice_get_read, slice_get_within}
use Rattle.base.proofs.SlicesAndCounts.{slice_get-append_left, slice_get-append_right}
use Rattle.cluster.specs.Copies.Local.{Local}
use Rattle.cluster.specs.CatchingUp.{CatchesUp}
use Rattle.lrc_run.specs.RunTurns.{SeesRunTurnsOf, HasOnlySeenRunTurns}
use Rattle.lrc_run.proofs.TurnWays.{turn_way_sees_more, turn_way_set_same}
use Rattle.lrc_run.proofs.MoreCalls.{sees_more_calls_same}

-- whoever caught up saw on
caught_up_sees : (m o n : Local) → CatchesUp m o n → HasOnlySeenRunTurns m n
caught_up_sees m o n up = record {
  same = record {
    lock = ap (λ (x : Local). x.lock) up.after;
    number = ap (λ (x : Local). x.number) up.after;
    sizes = ap (λ (x : Local). x.sizes) up.after;
  };
  sees = (up.rest, ap (λ (x : Local). x.seen) up.after);
  calls_are = up.calls_are;
  block_is = ap (λ (x : Local). x.block) up.after;
  awaits_is = ap (λ (x : Local). x.awaits) up.after;
  uncut = ap (λ (x : Local). x.own_cut) up.after;
}

-- the first of them, if there is one
caught_up_first : (ms : List Local) → 0 < length ms → (m : Local) × (slice_get ms 0 ≡ Some m)
caught_up_first [] some = absurd (omega arith)
caught_up_first (m ∷ ms) some = (m, refl)

-- processor 0 has seen what it has seen
pub caught_up_alone : (ms : List Local) (p : ℕ) → p < length ms → p ≡ 0 → SeesRunTurnsOf ms p 0 ms × SeesRunTurnsOf ms 0 p ms
caught_up_alone ms p within none =
    let m = caught_up_first ms (omega arith) in
    let is : SeesRunTurnsOf ms 0 0 ms = record {
      before = m.0;
      after = m.0;
      before_is = m.1;
      on = turn_way_sees_more m.0 m.0 refl;
      beyond = λ x here. sees_more_calls_same x m.0 (ap (λ (y : Local). y.seen) (same_Some m.0 x (sym m.1 ∙ here)));
      new_is = sym (turn_way_set_same ms 0 m.0 m.0 m.1 refl);
    } in (
      subst (λ k. SeesRunTurnsOf ms k 0 ms) (sym none) is,
      subst (λ k. SeesRunTurnsOf ms 0 k ms) (sym none) is,
    )

-- the list of which these are the parts, once it is whole again
caught_up_whole : (ms zs : List Local) (len : ℕ) → len ≡ length zs → take len (zs ++ drop (length zs) ms) ≡ zs
caught_up_whole ms zs len long = ap (λ k. take k (zs ++ drop (length zs) ms)) long ∙ take-append_seam zs (drop (length zs) ms)

module _ (ms xs ys : List Local) (p len : ℕ) (x y v w : Local) (parts : ms ≡ xs ++ ys) (front : length xs ≡ p) (some : 0 < p)
    (within : p < length ms) (long : len ≡ length ms) (first : x ≡ get_or xs 0 x) (second : y ≡ get_or ys 0 y) where
  caught_up_more : length ms ≡ length xs + length ys
  caught_up_more = ap length parts ∙ length-append xs ys

  caught_up_front : slice_get xs 0 ≡ Some x
  caught_up_front = slice_get_read xs (length xs) 0 x refl (omega arith) first

  caught_up_back : slice_get ys 0 ≡ Some y
  caught_up_back = slice_get_read ys (length ys) 0 y refl (let more = caught_up_more in omega arith) second

  caught_up_at_first : slice_get ms 0 ≡ Some x
  caught_up_at_first =
      ap (λ zs. slice_get zs 0) parts ∙ slice_get-append_left xs ys 0 (slice_get_within xs 0 x caught_up_front)
      ∙ caught_up_front

  caught_up_at : slice_get ms p ≡ Some y
  caught_up_at =
      ap₂ slice_get parts (sym front ∙ sym (add-zero (length xs))) ∙ slice_get-append_right xs ys 0 ∙ caught_up_back

  -- the second part's first one saw what the first part's has seen
  pub caught_up_with_first : CatchesUp (get_or ys 0 y) (get_or xs 0 x) w → v ≡ get_or xs 0 x
      → SeesRunTurnsOf ms p 0 (take len ((slice_set xs 0 v ++ slice_set ys 0 w) ++ drop (length (slice_set xs 0 v ++ slice_set ys 0 w)) ms))
  caught_up_with_first up same =
      let zs = slice_set xs 0 v ++ slice_set ys 0 w in
      let P : Local → Local → Type 0 = λ a b. CatchesUp a b w in
      let caught = subst₂ P (sym second) (sym first) up in
      let none : p - p ≡ 0 = omega arith in
      let set_is : slice_set ms p w ≡ xs ++ slice_set ys 0 w =
      ap (λ ls. slice_set ls p w) parts ∙ set-append_right xs ys p p w front (omega arith)
      ∙ ap (λ k. xs ++ slice_set ys k w) none in
      let is : zs ≡ slice_set ms p w =
      ap (λ ls. ls ++ slice_set ys 0 w) (turn_way_set_same xs 0 x v caught_up_front (same ∙ sym first)) ∙ sym set_is in
      let fits : len ≡ length zs = long ∙ sym (length-set ms p w) ∙ ap length (sym is) in
      record {
        before = y;
        after = w;
        before_is = caught_up_at;
        on = caught_up_sees y x w caught;
        beyond = λ z here.
            (let Q : Local → Type 0 = λ a. CatchesUp y a w in
            (subst Q (same_Some x z (sym caught_up_at_first ∙ here)) caught).beyond);
        new_is = caught_up_whole ms zs len fits ∙ is;
      }

  -- and the other way round
  pub caught_up_to_first : CatchesUp (get_or xs 0 x) (get_or ys 0 y) v → w ≡ get_or ys 0 y
      → SeesRunTurnsOf ms 0 p (take len ((slice_set xs 0 v ++ slice_set ys 0 w) ++ drop (length (slice_set xs 0 v ++ slice_set ys 0 w)) ms))
  caught_up_to_first up same =
      let zs = slice_set xs 0 v ++ slice_set ys 0 w in
      let P : Local → Local → Type 0 = λ a b. CatchesUp a b v in
      let caught = subst₂ P (sym first) (sym second) up in
      let set_is : slice_set ms 0 v ≡ slice_set xs 0 v ++ ys =
      ap (λ ls. slice_set ls 0 v) parts ∙ set-append_left xs ys 0 v (omega arith) in
      let is : zs ≡ slice_set ms 0 v =
      ap (λ ls. slice_set xs 0 v ++ ls) (turn_way_set_same ys 0 y w caught_up_back (same ∙ sym second)) ∙ sym set_is in
      let fits : len ≡ length zs = long ∙ sym (length-set ms 0 v) ∙ ap length (sym is) in
      record {
        before = x;
        after = v;
        before_is = caught_up_at_first;
        on = caught_up_sees x y v caught;
        beyond = λ z here.
            (let Q : Local → Type 0 = λ a. CatchesUp x a v in
            (subst Q (same_Some y z (sym caught_up_at ∙ here)) caught).beyond);
        new_is = caught_up_whole ms zs len fits ∙ is;
      }
