-- A line of a word and numbers.
use Rattle.std.proofs.Common.{◌≡◌, ℕ, ◌<◌, true, List, [], ◌∷◌, length, Option, Some, None, Ok, refl, sym, ap, subst, ◌∙◌, arith}
use Rattle.std.specs.List.{list_all, AllByRecursion}
use Rattle.std.specs.Fmt.{decimal}
use Rattle.std.proofs.lemmas.Bool.{lt-ltb}
use Rattle.std.proofs.lemmas.List.{length-map}
use Rattle.lrc_script.specs.declared.line.LineKeyword.{LineKeyword}
use Rattle.lrc_script.specs.ScriptFront.{ScriptFront}
use Rattle.lrc_script.specs.ScriptFaults.{IsWordOfLine}
use Rattle.lrc_script.specs.LineReading.{LineReadBeginsWithNumber, LineReadBeginsWithNoNumber, parts_of_read_line, line_read_word_has_bytes, line_read_keyword, line_read_numbers_after, line_read_after, line_read_after_words, line_read_after_keyword, line_read_after_numbers}
use Rattle.lrc_script.proofs.Reading.DecimalNumbers.{decimal_numbers_taken}
use Rattle.lrc_script.proofs.Reading.Separators.{separator_words_have_bytes, separator_parts_some}
use Rattle.lrc_script.proofs.Reading.KeywordLines.{keyword_line_numbers_are_words}

-- words that are numbers have bytes, and are as many
command_numbers_have_bytes : (ws : List (List ℕ)) (ns : List ℕ) → line_read_numbers_after [] ws ≡ Ok ns
    → (list_all line_read_word_has_bytes ws ≡ true) × (length ws ≡ length ns)
command_numbers_have_bytes ws ns e =
    let t = decimal_numbers_taken [] ws ns e in
    let words : AllByRecursion IsWordOfLine ws =
    subst (λ (vs : List (List ℕ)). AllByRecursion IsWordOfLine vs) (sym t.words_are) (keyword_line_numbers_are_words t.numbers t.small)
    in
    (separator_words_have_bytes ws words, ap length t.words_are ∙ length-map t.numbers decimal ∙ ap length (sym t.all_is))

command_numbers_after_keyword : (f : ScriptFront) (ws : List (List ℕ)) (ns : List ℕ) (o : Option LineKeyword) → line_read_numbers_after [] ws ≡ Ok ns
    → length ws ≡ length ns → line_read_after_keyword f o ws ≡ line_read_after_numbers f o ns
unfolding line_read_after_keyword line_read_after_numbers
command_numbers_after_keyword f ws ns None e l = refl
command_numbers_after_keyword f ws ns (Some k) e l = rw (e, l) refl

command_numbers_first_word : (f : ScriptFront) (w : List ℕ) (ws : List (List ℕ)) (ns : List ℕ) → line_read_numbers_after [] ws ≡ Ok ns
    → line_read_after_words f (w ∷ ws) ≡ line_read_after_numbers f (line_read_keyword w) ns
unfolding line_read_after_numbers
command_numbers_first_word f [] ws ns e = refl
command_numbers_first_word f (b ∷ w) ws ns e =
    let have = command_numbers_have_bytes ws ns e in
    let some = lt-ltb 0 (length (b ∷ w)) (omega arith) in
    rw (some, have.0) (command_numbers_after_keyword f ws ns (line_read_keyword (b ∷ w)) e have.1)

-- a line whose other words are numbers
pub command_numbers_read_after : (f : ScriptFront) (line w : List ℕ) (ws : List (List ℕ)) (ns : List ℕ) → parts_of_read_line 32 line ≡ w ∷ ws
    → line_read_numbers_after [] ws ≡ Ok ns → line_read_after f line ≡ line_read_after_numbers f (line_read_keyword w) ns
command_numbers_read_after f line w ws ns parts e = ap (line_read_after_words f) parts ∙ command_numbers_first_word f w ws ns e

-- two words and what stands behind a space are more than two
pub command_numbers_two : (w v rest ns : List ℕ) → line_read_numbers_after [] (w ∷ v ∷ parts_of_read_line 32 rest) ≡ Ok ns → 2 < length ns
command_numbers_two w v rest ns e = omega (arith, (command_numbers_have_bytes (w ∷ v ∷ parts_of_read_line 32 rest) ns e).1, separator_parts_some 32 rest)

-- a line that begins with no number has no numbers
pub command_numbers_none : (line ns : List ℕ) → LineReadBeginsWithNoNumber line → line_read_numbers_after [] (parts_of_read_line 32 line) ≡ Ok ns
    → 2 < length ns
command_numbers_none line ns none e = by_parts (parts_of_read_line 32 line) (separator_parts_some 32 line) refl e
  where
    by_parts : (parts : List (List ℕ)) → 0 < length parts → parts_of_read_line 32 line ≡ parts
        → line_read_numbers_after [] parts ≡ Ok ns → 2 < length ns
    by_parts [] some is e = absurd (omega (arith, some))
    by_parts (w ∷ words) some is e = absurd (let no = none w words is in let read = rw no at e in cc)

-- neither has one whose second word is none
pub command_numbers_no_second : (line rest ns : List ℕ) (n : ℕ) → LineReadBeginsWithNumber line n (parts_of_read_line 32 rest)
    → LineReadBeginsWithNoNumber rest → line_read_numbers_after [] (parts_of_read_line 32 line) ≡ Ok ns → 2 < length ns
command_numbers_no_second line rest ns n (w, parts, first) none e =
    by_parts (parts_of_read_line 32 rest) (separator_parts_some 32 rest) refl (rw parts at e)
  where
    by_parts : (words : List (List ℕ)) → 0 < length words → parts_of_read_line 32 rest ≡ words
        → line_read_numbers_after [] (w ∷ words) ≡ Ok ns → 2 < length ns
    by_parts [] some is e = absurd (omega (arith, some))
    by_parts (v ∷ words) some is e =
        absurd (let no = none v words is in let read = rw (first, no) at e in cc)

-- more than two stand where words stand behind two
pub command_numbers_third_word : (line rest last ns : List ℕ) (n m : ℕ) → LineReadBeginsWithNumber line n (parts_of_read_line 32 rest)
    → LineReadBeginsWithNumber rest m (parts_of_read_line 32 last) → line_read_numbers_after [] (parts_of_read_line 32 line) ≡ Ok ns → 2 < length ns
command_numbers_third_word line rest last ns n m (w, parts, first) (v, others, second) e =
    command_numbers_two w v last ns (rw (parts, others) at e)
