-- The two boards meet their laws.
use Rattle.std.proofs.Common.{◌≡◌, ◌≢◌, ℕ, ◌+◌, ◌*◌, ◌%◌, ◌^◌, ◌<◌, ◌≤◌, length, set, get_or, sym, ap, ◌∙◌, subst, arith}
use Rattle.std.proofs.Math.ListN.{length-set}
use Rattle.std.proofs.Math.Nat.{mod-eq_of_lt, mod-lt}
use Rattle.std.proofs.lemmas.List.{get_or-set_same, get_or-set_other}
use native.Mathlib.Decide.{ℕ_discrete}
use mathlib.Core.Logic.{dite}
use Rattle.turn.specs.Boards.{IsBoard, CountingBoardLetsIn, PointingBoardLetsIn, board_line_words, board_own_word}

pub lawful_board_counts : IsBoard (board_line_words + 1) CountingBoardLetsIn (λ _. board_line_words) (λ _ found. (found + 1) % 2 ^ 64)
lawful_board_counts = record {
  within = λ m. omega arith;
  beside_next = λ m. omega arith;
  has_next = λ words k shown. let n = shown.0 in omega arith;
  draws = λ words k x shown. (
    length-set words 0 x ∙ shown.0,
    get_or-set_other words 0 board_line_words x 0 (λ e. omega arith) ∙ shown.1,
  );
  lets_in = λ words k shown. shown.1;
  finds = λ words k m shown low found. sym found ∙ shown.1;
  passes = λ words m shown small.
      let long = shown.0 in
      let y = (get_or words board_line_words 0 + 1) % 2 ^ 64 in
      let below : board_line_words < length words = omega arith in (
        length-set words board_line_words y ∙ shown.0,
        get_or-set_same words board_line_words y 0 below ∙ ap (λ (n : ℕ). (n + 1) % 2 ^ 64) shown.1
            ∙ mod-eq_of_lt small,
      );
}

pub lawful_board_points : (n : ℕ) → 0 < n → IsBoard ((n + 1) * board_line_words) (PointingBoardLetsIn n) (board_own_word n) (λ m _. m + 1)
lawful_board_points n some = record {
  within = λ m. let h = mod-lt m some in omega arith;
  beside_next = λ m. omega arith;
  has_next = λ words k shown. let l = shown.0 in omega arith;
  draws = λ words k x shown. (
    length-set words 0 x ∙ shown.0,
    get_or-set_other words 0 (board_own_word n k) x 0 (λ e. omega arith) ∙ shown.1,
    λ j low. let e = get_or-set_other words 0 ((j + 1) * board_line_words) x 0 (λ e. omega arith) in let h = shown.2 j low in omega arith,
  );
  lets_in = λ words k shown. shown.1;
  finds = λ words k m shown low found. let h = shown.2 (m % n) (mod-lt m some) in omega arith;
  passes = λ words m shown small.
      let i = (m + 1) % n in
      let here : i < n = mod-lt (m + 1) some in
      let long = shown.0 in
      let w = (i + 1) * board_line_words in
      let below : w < length words = omega arith in
      let new : get_or (set words w (m + 1)) w 0 ≡ m + 1 = get_or-set_same words w (m + 1) 0 below in (
        length-set words w (m + 1) ∙ shown.0,
        new,
        λ j low. dite (ℕ_discrete j i)
            (λ (e : j ≡ i). subst (λ (a : ℕ). get_or (set words w (m + 1)) ((a + 1) * board_line_words) 0 ≤ m + 1) (sym e)
            (let z = new in omega arith))
            (λ (e : j ≢ i). let o = get_or-set_other words w ((j + 1) * board_line_words) (m + 1) 0 (λ q. e (omega arith)) in
            let h = shown.2 j low in omega arith),
      );
}
