-- The line of a text that has a number.
use Rattle.std.proofs.Common.{◌≡◌, ◌∙◌, ◌+◌, ◌-◌, ◌<◌, ℕ, suc, List, [], ◌∷◌, slice_index_or, ap, sym, arith}
use Rattle.lrc_script.specs.LineReading.{parts_of_read_line}
use Rattle.lrc_program.specs.Hints.Excerpts.{excerpt_line_at}

-- what is left of a text behind so many line feeds
pub record AreLinesLeft (text rest : List ℕ) (n : ℕ) : Type 0 where
  pub lines : (k : ℕ) → slice_index_or (parts_of_read_line 10 rest) k [] ≡ slice_index_or (parts_of_read_line 10 text) (k + n) []

-- behind none
pub lines_left_none : (text : List ℕ) → AreLinesLeft text text 0
lines_left_none text = record {
  lines = λ k. ap (λ m. slice_index_or (parts_of_read_line 10 text) m []) (omega arith);
}

-- behind one more
pub lines_left_next : (text rest line after : List ℕ) (n : ℕ) → AreLinesLeft text rest n
    → parts_of_read_line 10 rest ≡ line ∷ parts_of_read_line 10 after → AreLinesLeft text after (n + 1)
lines_left_next text rest line after n left cut = record {
  lines = λ k.
      ap (λ xs. slice_index_or xs (suc k) []) (sym cut) ∙ left.lines (suc k)
      ∙ ap (λ m. slice_index_or (parts_of_read_line 10 text) m []) (omega arith);
}

-- the first line that is left
pub lines_left_first : (text rest line : List ℕ) (lines : List (List ℕ)) (n number : ℕ) → AreLinesLeft text rest n
    → parts_of_read_line 10 rest ≡ line ∷ lines → n ≡ number - 1 → line ≡ excerpt_line_at text number
lines_left_first text rest line lines n number left cut is =
    ap (λ xs. slice_index_or xs 0 []) (sym cut) ∙ left.lines 0
    ∙ ap (λ m. slice_index_or (parts_of_read_line 10 text) m []) (omega (arith, is))

-- there is none behind the last
pub lines_left_over : (text rest line : List ℕ) (n number : ℕ) → AreLinesLeft text rest n
    → parts_of_read_line 10 rest ≡ line ∷ [] → n < number - 1 → [] ≡ excerpt_line_at text number
lines_left_over text rest line n number left cut less =
    let j = number - 1 - n - 1 in
    ap (λ xs. slice_index_or xs (suc j) []) (sym cut) ∙ left.lines (suc j)
    ∙ ap (λ m. slice_index_or (parts_of_read_line 10 text) m []) (omega (arith, less))
