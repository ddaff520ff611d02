-- The line that tells how many events were cut off.
use Rattle.std.proofs.Common.{◌≡◌, ◌≢◌, ℕ, ◌^◌, ◌<◌, Bool, false, ltb, IsTrue, List, [], ◌∷◌, ◌++◌, Some, None, refl, sym, ap, ◌∙◌, append-nil, arith}
use Rattle.std.specs.Prelude.{codes}
use Rattle.std.specs.Fmt.{decimal}
use Rattle.std.proofs.lemmas.Bool.{lt-ltb, ltb-true}
use Rattle.std.proofs.lemmas.List.{append_cancel_right}
use Rattle.lrc_script.specs.LineReading.{line_read_number, parts_of_read_line}
use Rattle.lrc_script.proofs.Reading.DecimalNumbers.{decimal_number_again, decimal_number_taken}
use Rattle.lrc_script.proofs.Reading.Separators.{separator_joined, separator_parts_of_joined, separator_absent_one_word, separator_parts_whole}
use Rattle.lrc_script.proofs.Reading.KeywordLines.{keyword_line_decimal_has_no}
use Rattle.lrc_report.specs.ReportText.{report_cut_text}
use Rattle.lrc_check.specs.Traces.TraceLines.{IsTraceLineOfCut}
use Rattle.lrc_check.proofs.traces.EventWords.{event_words_plain_word}

-- such a line, without its line feed
pub cut_line_bytes : (n : ℕ) → 0 < n → report_cut_text n ≡ (codes "cut " ++ decimal n) ++ 10 ∷ []
cut_line_bytes n some = let test = lt-ltb 0 n some in rw test refl

-- its words
pub cut_line_parts : (line : List ℕ) (n : ℕ) → 0 < n → n < 2 ^ 32 → line ++ 10 ∷ [] ≡ report_cut_text n
    → parts_of_read_line 32 line ≡ codes "cut" ∷ decimal n ∷ []
cut_line_parts line n some small same =
    let bytes : line ≡ separator_joined 32 (codes "cut") (decimal n ∷ []) =
    append_cancel_right line (codes "cut " ++ decimal n) (10 ∷ []) (same ∙ cut_line_bytes n some)
    ∙ ap (λ (t : List ℕ). codes "cut " ++ t) (sym (append-nil (decimal n))) in
    ap (parts_of_read_line 32) bytes
    ∙ separator_parts_of_joined 32 (codes "cut") (decimal n ∷ []) (event_words_plain_word (codes "cut") refl).0.no_space
    (keyword_line_decimal_has_no 32 n (omega arith) small, tt)

-- a line of these words
pub cut_line_from_words : (line w rest : List ℕ) (n : ℕ) → parts_of_read_line 32 line ≡ w ∷ parts_of_read_line 32 rest → w ≡ codes "cut"
    → line_read_number rest ≡ Some n → 0 < n → IsTraceLineOfCut line
cut_line_from_words line w rest n parts first number some =
    let t = decimal_number_taken rest n number in
    let alone : parts_of_read_line 32 rest ≡ decimal n ∷ [] =
    ap (parts_of_read_line 32) t.0 ∙ separator_absent_one_word 32 (decimal n) (keyword_line_decimal_has_no 32 n (omega arith) t.1) in
    let whole : line ≡ separator_joined 32 (codes "cut") (decimal n ∷ []) =
    separator_parts_whole 32 line (codes "cut") (decimal n ∷ [])
    (parts ∙ ap (λ (x : List ℕ). x ∷ parts_of_read_line 32 rest) first
    ∙ ap (λ (x : List (List ℕ)). codes "cut" ∷ x) alone) in (
      n,
      some,
      t.1,
      ap (λ (x : List ℕ). x ++ 10 ∷ [])
          (whole ∙ ap (λ (x : List ℕ). codes "cut " ++ x) (append-nil (decimal n)))
          ∙ sym (cut_line_bytes n some),
    )

-- other first words
pub cut_line_other_first : (line w : List ℕ) (ws : List (List ℕ)) → parts_of_read_line 32 line ≡ w ∷ ws → w ≢ codes "cut"
    → ¬ IsTraceLineOfCut line
cut_line_other_first line w ws parts ne h =
    ne (let same : (w ∷ ws) ≡ (codes "cut" ∷ decimal h.0 ∷ []) = sym parts ∙ cut_line_parts line h.0 h.1 h.2 h.3 in cc)

-- no more words
pub cut_line_alone : (line w : List ℕ) → parts_of_read_line 32 line ≡ w ∷ [] → ¬ IsTraceLineOfCut line
cut_line_alone line w parts h =
    let same : (w ∷ []) ≡ (codes "cut" ∷ decimal h.0 ∷ []) = sym parts ∙ cut_line_parts line h.0 h.1 h.2 h.3 in absurd cc

-- the number behind the first word
pub cut_line_number : (line w rest : List ℕ) → parts_of_read_line 32 line ≡ w ∷ parts_of_read_line 32 rest → (h : IsTraceLineOfCut line)
    → line_read_number rest ≡ Some h.0
cut_line_number line w rest parts h =
    let same : (w ∷ parts_of_read_line 32 rest) ≡ (codes "cut" ∷ decimal h.0 ∷ []) =
    sym parts ∙ cut_line_parts line h.0 h.1 h.2 h.3 in
    let alone : parts_of_read_line 32 rest ≡ decimal h.0 ∷ [] = cc in
    let bytes : rest ≡ decimal h.0 =
    separator_parts_whole 32 rest (decimal h.0) [] alone ∙ append-nil (decimal h.0) in
    ap line_read_number bytes ∙ decimal_number_again h.0 h.2

-- what the reader says of such a line, and of another
abbrev pub CutLineTells : Bool → List ℕ → Type 0
CutLineTells answer line = (IsTrue answer → IsTraceLineOfCut line) × (IsTraceLineOfCut line → IsTrue answer)

pub cut_line_told_uncut : (line : List ℕ) → ¬ IsTraceLineOfCut line → CutLineTells false line
cut_line_told_uncut line none = (λ h. absurd cc, λ h. absurd (none h))

pub cut_line_count_told : (line w rest : List ℕ) (n : ℕ) → parts_of_read_line 32 line ≡ w ∷ parts_of_read_line 32 rest → w ≡ codes "cut"
    → line_read_number rest ≡ Some n → CutLineTells (ltb 0 n) line
cut_line_count_told line w rest n parts first number = (
  λ h. cut_line_from_words line w rest n parts first number (ltb-true 0 n h),
  λ h.
      let same : Some n ≡ Some h.0 = sym number ∙ cut_line_number line w rest parts h in
      let count : n ≡ h.0 = cc in
      lt-ltb 0 n (omega (arith, count, h.1)),
)

pub cut_line_uncounted_told : (line w rest : List ℕ) → parts_of_read_line 32 line ≡ w ∷ parts_of_read_line 32 rest → line_read_number rest ≡ None
    → CutLineTells false line
cut_line_uncounted_told line w rest parts number =
    cut_line_told_uncut line (λ h. let same : None ≡ Some h.0 = sym number ∙ cut_line_number line w rest parts h in absurd cc)
