-- How many lines are passed over, one after another and piece by piece, and what a line that is refused leaves.
use Rattle.std.proofs.Common.{◌≡◌, ℕ, ◌+◌, ◌-◌, ◌<◌, ◌^◌, Bool, true, false, List, [], ◌∷◌, ◌++◌, Option, refl, sym, ap, subst, ◌∙◌, append_assoc, length, arith, min}
use Rattle.std.specs.Prelude.{if◌then◌else◌}
use Rattle.journal.specs.declared.event.Event.{Event}
use Rattle.lrc_script.specs.LineReading.{IsLineReadOff, parts_of_read_line}
use Rattle.lrc_script.proofs.Reading.Separators.{separator_behind_first_word}
use Rattle.lrc_check.specs.declared.traces.trace.Trace.{Trace}
use Rattle.lrc_check.specs.Traces.Begun.{IsTraceBegun, trace_begun_text}
use Rattle.lrc_check.specs.Traces.Labels.{ArePassedOver, is_trace_line_passed_over, passed_over_lines, trace_lines_passed_over, without_trace_labels}
use Rattle.lrc_check.specs.Traces.RefusedLines.{IsLineRefused, IsToldLineLeft}
use Rattle.lrc_check.proofs.traces.TextParts.{text_parts_some}

-- ---- a line

passed_over_first : (l : List ℕ) (ps : List (List ℕ)) → 0 < length ps
    → passed_over_lines (l ∷ ps) ≡ (if is_trace_line_passed_over l then 1 else 0) + passed_over_lines ps
passed_over_first l [] some = absurd (omega arith)
passed_over_first l (p ∷ ps) some = refl

-- the first line, and what comes behind it
pub passed_over_cut : (bytes line after more : List ℕ) → IsLineReadOff bytes line after
    → trace_lines_passed_over (bytes ++ more) ≡ (if is_trace_line_passed_over line then 1 else 0) + trace_lines_passed_over (after ++ more)
passed_over_cut bytes line after more cut =
    let whole : bytes ++ more ≡ line ++ 10 ∷ (after ++ more) =
    ap (λ (x : List ℕ). x ++ more) cut.bytes_are ∙ append_assoc line (10 ∷ after) more in
    ap trace_lines_passed_over whole ∙ ap passed_over_lines (separator_behind_first_word 10 line (after ++ more) cut.one_line)
    ∙ passed_over_first line (parts_of_read_line 10 (after ++ more)) (text_parts_some (after ++ more))

-- it was read
pub passed_over_told : (was now : ℕ) (whole bytes line after : List ℕ) → IsLineReadOff bytes line after
    → is_trace_line_passed_over line ≡ false → ArePassedOver was whole now bytes → ArePassedOver was whole now after
passed_over_told was now whole bytes line after cut told h more few =
    omega (arith, h more few, passed_over_cut bytes line after more cut, ap {B = ℕ} (λ (b : Bool). if b then 1 else 0) told)

-- it was passed over
pub passed_over_one : (was now next : ℕ) (whole bytes line after : List ℕ) → IsLineReadOff bytes line after
    → is_trace_line_passed_over line ≡ true → next ≡ min (now + 1) (2 ^ 64 - 1) → ArePassedOver was whole now bytes → ArePassedOver was whole next after
passed_over_one was now next whole bytes line after cut passed up h more few =
    omega (arith, h more few, few, passed_over_cut bytes line after more cut, ap {B = ℕ} (λ (b : Bool). if b then 1 else 0) passed, up)

-- ---- a piece

-- what was left of some bytes, and then came with a piece
pub passed_over_further : (a b c : ℕ) (xs ls piece rs : List ℕ) → ArePassedOver a xs b ls → ArePassedOver b (ls ++ piece) c rs
    → ArePassedOver a (xs ++ piece) c rs
passed_over_further a b c xs ls piece rs first second more few =
    let whole = ap trace_lines_passed_over (append_assoc xs piece more) in
    let left = ap trace_lines_passed_over (append_assoc ls piece more) in
    let one = first (piece ++ more) (omega (arith, few, whole)) in
    omega (arith, one, whole, left, second more (omega (arith, few, one, whole, left)))

-- the same bytes are still left behind
pub passed_over_behind : (a b : ℕ) (xs ls behind : List ℕ) → ArePassedOver a xs b ls → ArePassedOver a (xs ++ behind) b (ls ++ behind)
passed_over_behind a b xs ls behind first = passed_over_further a b b xs ls behind (ls ++ behind) first (λ more few. refl)

-- ---- a line that is refused

told_line_behind : (left behind : List ℕ) → IsToldLineLeft left → IsToldLineLeft (left ++ behind)
told_line_behind left behind h = record {
  line = h.line;
  after = h.after ++ behind;
  cut = record {
    bytes_are = ap (λ (x : List ℕ). x ++ behind) h.cut.bytes_are ∙ append_assoc h.line (10 ∷ h.after) behind;
    one_line = h.cut.one_line;
  };
  told = h.told;
}

-- what came behind is left, too
pub line_refused_behind : (gone : ℕ) (before now : Option Trace) (bytes behind : List ℕ) (was passed : ℕ) → IsLineRefused gone before now bytes was passed
    → IsLineRefused gone before now (bytes ++ behind) was passed
line_refused_behind gone before now bytes behind was passed h = record {
  left = h.left ++ behind;
  line = told_line_behind h.left behind h.line;
  text = λ front begun more.
      ap (λ (x : List ℕ). trace_begun_text front now ++ without_trace_labels x) (append_assoc h.left behind more)
      ∙ h.text front begun (behind ++ more)
      ∙ ap (λ (x : List ℕ). trace_begun_text front before ++ without_trace_labels x) (sym (append_assoc bytes behind more));
  over = passed_over_behind was passed bytes h.left behind h.over;
}

-- the bytes before were read as a whole
pub line_refused_further : (gone : ℕ) (before mid now : Option Trace) (bytes left behind : List ℕ) (was half passed : ℕ) → left ≡ []
    → ((front : List Event) → IsTraceBegun gone front before → IsTraceBegun gone front mid)
    → ((front : List Event) → IsTraceBegun gone front before → (more : List ℕ)
    → trace_begun_text front mid ++ without_trace_labels (left ++ more) ≡ trace_begun_text front before ++ without_trace_labels (bytes ++ more))
    → ArePassedOver was bytes half left → IsLineRefused gone mid now behind half passed
    → IsLineRefused gone before now (bytes ++ behind) was passed
line_refused_further gone before mid now bytes left behind was half passed none on text over h = record {
  left = h.left;
  line = h.line;
  text = λ front begun more.
      h.text front (on front begun) more
      ∙ ap (λ (x : List ℕ). trace_begun_text front mid ++ without_trace_labels (x ++ (behind ++ more))) (sym none)
      ∙ text front begun (behind ++ more)
      ∙ ap (λ (x : List ℕ). trace_begun_text front before ++ without_trace_labels x) (sym (append_assoc bytes behind more));
  over = passed_over_further was half passed bytes left behind h.left over
      (subst (λ (x : List ℕ). ArePassedOver half (x ++ behind) passed h.left) (sym none) h.over);
}

-- the line that a piece ends, and what stands behind it
pub passed_over_piece : (kept end behind piece : List ℕ) → IsLineReadOff piece end behind → ((kept ++ end) ++ 10 ∷ []) ++ behind ≡ kept ++ piece
passed_over_piece kept end behind piece cut =
    append_assoc (kept ++ end) (10 ∷ []) behind ∙ append_assoc kept end (10 ∷ behind) ∙ ap (λ (x : List ℕ). kept ++ x) (sym cut.bytes_are)
