-- Lines and their labels. A text is changed line by line, so what was read of its first lines stays as more comes.
use Rattle.std.proofs.Common.{◌≡◌, ℕ, zero, suc, ◌+◌, ◌<◌, ◌≤◌, Bool, true, false, ◌&&◌, cond, eqb, List, [], ◌∷◌, ◌++◌, length, map, take, slice_index, slice_index_or, refl, sym, ap, ◌∙◌, append_assoc, eqb-true, arith}
use Rattle.std.specs.List.{join_with_byte}
use Rattle.std.proofs.lemmas.Bool.{eq-eqb}
use Rattle.lrc_script.specs.LineReading.{IsLineReadOff, parts_of_read_line}
use Rattle.lrc_script.proofs.Reading.Separators.{HasNoSeparator, separator_behind_first_word, separator_absent_one_word}
use Rattle.lrc_check.specs.Traces.Labels.{is_trace_line_passed_over, line_without_trace_label, told_trace_lines, trace_label_space_at, trace_label_by_lines, trace_label_at}
use Rattle.lrc_check.proofs.traces.TextParts.{text_parts_some}

-- ---- where a label stands

-- two spaces stand at index k
abbrev pub IsLabellingDoubleSpace : List ℕ → ℕ → Type 0
IsLabellingDoubleSpace bytes k = (slice_index bytes k ≡ 32) × (slice_index bytes (k + 1) ≡ 32)

labelling_both_false : (x y : Bool) → ¬ ((x ≡ true) × (y ≡ true)) → (x && y) ≡ false
labelling_both_false true true h = absurd (h (refl, refl))
labelling_both_false true false h = refl
labelling_both_false false y h = refl

labelling_both_true : (x y : Bool) → x ≡ true → y ≡ true → (x && y) ≡ true
labelling_both_true x y h k = rw (h, k) refl

labelling_start_next : (b : ℕ) (bytes : List ℕ) → ¬ ((b ≡ 32) × (slice_index bytes 0 ≡ 32))
    → trace_label_space_at (b ∷ bytes) ≡ suc (trace_label_space_at bytes)
labelling_start_next b bytes none =
    let test =
    labelling_both_false (eqb b 32) (eqb (slice_index bytes 0) 32) (λ h. none (eqb-true b 32 h.0, eqb-true (slice_index bytes 0) 32 h.1)) in
    ap (λ (x : Bool). cond x 0 (suc (trace_label_space_at bytes))) test

labelling_start_here : (b : ℕ) (bytes : List ℕ) → b ≡ 32 → slice_index bytes 0 ≡ 32 → trace_label_space_at (b ∷ bytes) ≡ 0
labelling_start_here b bytes first second =
    let test =
    labelling_both_true (eqb b 32) (eqb (slice_index bytes 0) 32) (eq-eqb b 32 first) (eq-eqb (slice_index bytes 0) 32 second) in
    ap (λ (x : Bool). cond x 0 (suc (trace_label_space_at bytes))) test

-- the index behind the first byte
labelling_index_behind : (b : ℕ) (bytes : List ℕ) (k n : ℕ) → n ≡ suc k → slice_index (b ∷ bytes) n ≡ slice_index bytes k
labelling_index_behind b bytes k n same = ap (slice_index (b ∷ bytes)) same

labelling_double_space_behind : (b : ℕ) (bytes : List ℕ) (k n : ℕ) → n ≡ suc k → IsLabellingDoubleSpace bytes k → IsLabellingDoubleSpace (b ∷ bytes) n
labelling_double_space_behind b bytes k n same h = (
  labelling_index_behind b bytes k n same ∙ h.0,
  (let more : n + 1 ≡ suc (k + 1) = omega arith in labelling_index_behind b bytes (k + 1) (n + 1) more) ∙ h.1,
)

pub labelling_double_space_before : (b : ℕ) (bytes : List ℕ) (k n : ℕ) → n ≡ suc k → IsLabellingDoubleSpace (b ∷ bytes) n → IsLabellingDoubleSpace bytes k
labelling_double_space_before b bytes k n same h = (
  sym (labelling_index_behind b bytes k n same) ∙ h.0,
  sym (let more : n + 1 ≡ suc (k + 1) = omega arith in labelling_index_behind b bytes (k + 1) (n + 1) more) ∙ h.1,
)

labelling_start_none : (bytes : List ℕ) → ((k : ℕ) → ¬ IsLabellingDoubleSpace bytes k) → trace_label_space_at bytes ≡ length bytes
labelling_start_none [] none = refl
labelling_start_none (b ∷ bytes) none =
    labelling_start_next b bytes (λ h. none 0 h)
    ∙ ap suc (labelling_start_none bytes (λ k h. none (suc k) (labelling_double_space_behind b bytes k (suc k) refl h)))

labelling_start_first : (bytes : List ℕ) (n : ℕ) → ((k : ℕ) → k < n → ¬ IsLabellingDoubleSpace bytes k) → IsLabellingDoubleSpace bytes n
    → trace_label_space_at bytes ≡ n
labelling_start_first [] n none here = absurd (omega (arith, here.0))
labelling_start_first (b ∷ bytes) zero none here = labelling_start_here b bytes here.0 here.1
labelling_start_first (b ∷ bytes) (suc n) none here =
    let first : 0 < suc n = omega arith in
    labelling_start_next b bytes (λ h. none 0 first h)
    ∙ ap suc (labelling_start_first bytes n
    (λ k less h. none (suc k) (let lt : suc k < suc n = omega arith in lt) (labelling_double_space_behind b bytes k (suc k) refl h))
    (labelling_double_space_before b bytes n (suc n) refl here))

-- a line with no two spaces in a row behind its first byte
pub labelling_absent : (line : List ℕ) → ((k : ℕ) → 1 ≤ k → ¬ IsLabellingDoubleSpace line k) → trace_label_at line ≡ length line
labelling_absent [] none = refl
labelling_absent (b ∷ bytes) none =
    ap suc (labelling_start_none bytes (λ k h.
    none (suc k) (let le : 1 ≤ suc k = omega arith in le) (labelling_double_space_behind b bytes k (suc k) refl h)))

-- the first two spaces in a row behind it
pub labelling_there : (line : List ℕ) (n : ℕ) → 1 ≤ n → ((k : ℕ) → 1 ≤ k → k < n → ¬ IsLabellingDoubleSpace line k) → IsLabellingDoubleSpace line n
    → trace_label_at line ≡ n
labelling_there [] n some none here = absurd (omega (arith, here.0))
labelling_there (b ∷ bytes) zero some none here = absurd (omega arith)
labelling_there (b ∷ bytes) (suc n) some none here =
    ap suc (labelling_start_first bytes n
    (λ k less h.
    none (suc k) (let le : 1 ≤ suc k = omega arith in le) (let lt : suc k < suc n = omega arith in lt)
    (labelling_double_space_behind b bytes k (suc k) refl h))
    (labelling_double_space_before b bytes n (suc n) refl here))

-- the second one stands there, too
pub labelling_double_space_within : (line : List ℕ) (k : ℕ) → IsLabellingDoubleSpace line k → k + 1 < length line
labelling_double_space_within [] k h = absurd (omega (arith, h.0))
labelling_double_space_within (b ∷ []) zero h = absurd (omega (arith, h.1))
labelling_double_space_within (b ∷ c ∷ line) zero h = omega arith
labelling_double_space_within (b ∷ line) (suc k) h = omega (arith, labelling_double_space_within line k (labelling_double_space_before b line k (suc k) refl h))

-- ---- a line without its label

pub HasNoSeparator-take : (c n : ℕ) (bytes : List ℕ) → HasNoSeparator c bytes → HasNoSeparator c (take n bytes)
HasNoSeparator-take c zero bytes h = tt
HasNoSeparator-take c (suc n) [] h = tt
HasNoSeparator-take c (suc n) (b ∷ bytes) h = (h.0, HasNoSeparator-take c n bytes h.1)

pub labelling_dropped_clean : (line : List ℕ) → HasNoSeparator 10 line → HasNoSeparator 10 (line_without_trace_label line)
labelling_dropped_clean line h = HasNoSeparator-take 10 (trace_label_at line) line h

-- it has no byte only if the line has none
pub labelling_dropped_none : (line : List ℕ) → line_without_trace_label line ≡ [] → line ≡ []
labelling_dropped_none [] e = refl
labelling_dropped_none (b ∷ bytes) e = absurd cc

-- ---- a text, line by line

-- a line that isn't passed over, and what stands behind it
labelling_told_kept : (l : List ℕ) (ps : List (List ℕ)) → 0 < length ps → is_trace_line_passed_over l ≡ false
    → told_trace_lines (l ∷ ps) ≡ l ∷ told_trace_lines ps
labelling_told_kept l [] some kept = absurd (omega arith)
labelling_told_kept l (p ∷ ps) some kept = ap (λ (b : Bool). cond b (told_trace_lines (p ∷ ps)) (l ∷ told_trace_lines (p ∷ ps))) kept

-- one that is
labelling_told_passed : (l : List ℕ) (ps : List (List ℕ)) → 0 < length ps → is_trace_line_passed_over l ≡ true
    → told_trace_lines (l ∷ ps) ≡ told_trace_lines ps
labelling_told_passed l [] some passed = absurd (omega arith)
labelling_told_passed l (p ∷ ps) some passed = ap (λ (b : Bool). cond b (told_trace_lines (p ∷ ps)) (l ∷ told_trace_lines (p ∷ ps))) passed

-- what stands behind the last line feed is never passed over
labelling_told_some : (ps : List (List ℕ)) → 0 < length ps → 0 < length (told_trace_lines ps)
labelling_told_some [] some = absurd (omega arith)
labelling_told_some (p ∷ []) some = omega arith
labelling_told_some (p ∷ q ∷ ps) some =
    elim (is_trace_line_passed_over p) as (λ b. 0 < length (cond b (told_trace_lines (q ∷ ps)) (p ∷ told_trace_lines (q ∷ ps)))) [
      | true ↦ labelling_told_some (q ∷ ps) (omega arith)
      | false ↦ omega arith
    ]

labelling_joined_next : (change : List ℕ → List ℕ) (x : List ℕ) (ps : List (List ℕ)) → 0 < length ps
    → join_with_byte 10 (x ∷ map change ps) ≡ x ++ 10 ∷ join_with_byte 10 (map change ps)
labelling_joined_next change x [] some = absurd (omega arith)
labelling_joined_next change x (p ∷ ps) some = refl

-- a line, and what stands behind it
pub labelling_lines_next : (change : List ℕ → List ℕ) (line more : List ℕ) → HasNoSeparator 10 line
    → is_trace_line_passed_over line ≡ false
    → trace_label_by_lines change (line ++ 10 ∷ more) ≡ change line ++ 10 ∷ trace_label_by_lines change more
labelling_lines_next change line more clean kept =
    let ps = parts_of_read_line 10 more in
    ap (λ (qs : List (List ℕ)). join_with_byte 10 (map change (told_trace_lines qs))) (separator_behind_first_word 10 line more clean)
    ∙ ap (λ (qs : List (List ℕ)). join_with_byte 10 (map change qs)) (labelling_told_kept line ps (text_parts_some more) kept)
    ∙ labelling_joined_next change (change line) (told_trace_lines ps) (labelling_told_some ps (text_parts_some more))

-- a line that is passed over
pub labelling_lines_passed : (change : List ℕ → List ℕ) (line more : List ℕ) → HasNoSeparator 10 line
    → is_trace_line_passed_over line ≡ true
    → trace_label_by_lines change (line ++ 10 ∷ more) ≡ trace_label_by_lines change more
labelling_lines_passed change line more clean passed =
    ap (λ (qs : List (List ℕ)). join_with_byte 10 (map change (told_trace_lines qs))) (separator_behind_first_word 10 line more clean)
    ∙ ap (λ (qs : List (List ℕ)). join_with_byte 10 (map change qs))
    (labelling_told_passed line (parts_of_read_line 10 more) (text_parts_some more) passed)

-- a line without its line feed
pub labelling_lines_last : (change : List ℕ → List ℕ) (line : List ℕ) → HasNoSeparator 10 line → trace_label_by_lines change line ≡ change line
labelling_lines_last change line clean =
    ap (λ (ps : List (List ℕ)). join_with_byte 10 (map change (told_trace_lines ps))) (separator_absent_one_word 10 line clean)

-- the lines that were read, and those of the bytes that come next, of which the first is read
pub labelling_lines_read_on : (change : List ℕ → List ℕ) (before now bytes line after more : List ℕ) → IsLineReadOff bytes line after
    → is_trace_line_passed_over line ≡ false → now ≡ before ++ (change line ++ 10 ∷ []) → now ++ trace_label_by_lines change (after ++ more) ≡ before ++ trace_label_by_lines change (bytes ++ more)
labelling_lines_read_on change before now bytes line after more cut kept same =
    let whole : bytes ++ more ≡ line ++ 10 ∷ (after ++ more) =
    ap (λ (x : List ℕ). x ++ more) cut.bytes_are ∙ append_assoc line (10 ∷ after) more in
    ap (λ (x : List ℕ). x ++ trace_label_by_lines change (after ++ more)) same
    ∙ append_assoc before (change line ++ 10 ∷ []) (trace_label_by_lines change (after ++ more))
    ∙ ap (λ (x : List ℕ). before ++ x) (append_assoc (change line) (10 ∷ []) (trace_label_by_lines change (after ++ more))
    ∙ sym (labelling_lines_next change line (after ++ more) cut.one_line kept) ∙ ap (trace_label_by_lines change) (sym whole))

-- the first of the bytes that come next is passed over
pub labelling_lines_passed_on : (change : List ℕ → List ℕ) (before bytes line after more : List ℕ) → IsLineReadOff bytes line after
    → is_trace_line_passed_over line ≡ true
    → before ++ trace_label_by_lines change (after ++ more) ≡ before ++ trace_label_by_lines change (bytes ++ more)
labelling_lines_passed_on change before bytes line after more cut passed =
    let whole : bytes ++ more ≡ line ++ 10 ∷ (after ++ more) =
    ap (λ (x : List ℕ). x ++ more) cut.bytes_are ∙ append_assoc line (10 ∷ after) more in
    ap (λ (x : List ℕ). before ++ x) (sym (labelling_lines_passed change line (after ++ more) cut.one_line passed)
    ∙ ap (trace_label_by_lines change) (sym whole))

-- the parts of a text whose first line this is
pub labelling_parts_next : (bytes line rest : List ℕ) → IsLineReadOff bytes line rest
    → parts_of_read_line 10 bytes ≡ line ∷ parts_of_read_line 10 rest
labelling_parts_next bytes line rest cut =
    ap (parts_of_read_line 10) cut.bytes_are ∙ separator_behind_first_word 10 line rest cut.one_line

-- the part behind the first
pub labelling_part_behind : (ps qs : List (List ℕ)) (l : List ℕ) → ps ≡ l ∷ qs
    → (n : ℕ) → slice_index_or qs n [] ≡ slice_index_or ps (n + 1) []
labelling_part_behind ps qs l same n =
    let next : n + 1 ≡ suc n = omega arith in
    sym (ap (λ (x : List (List ℕ)). slice_index_or x (n + 1) []) same
    ∙ ap (λ (m : ℕ). slice_index_or (l ∷ qs) m []) next)

abbrev labelling_no_parts : List (List ℕ)
labelling_no_parts = []

labelling_only_nothing : (n : ℕ) → slice_index_or ([] ∷ []) n [] ≡ slice_index_or labelling_no_parts n []
labelling_only_nothing zero = refl
labelling_only_nothing (suc n) = refl

-- behind a line alone there is none
pub labelling_part_alone : (line : List ℕ) → HasNoSeparator 10 line
    → (n : ℕ) → slice_index_or (parts_of_read_line 10 []) n [] ≡ slice_index_or (parts_of_read_line 10 line) (n + 1) []
labelling_part_alone line clean n = labelling_only_nothing n ∙ labelling_part_behind (parts_of_read_line 10 line) [] line (separator_absent_one_word 10 line clean) n
