-- Labels, each on a line of its own: how many there are, and which stands where.
use Rattle.std.proofs.Common.{◌≡◌, ℕ, zero, suc, ◌+◌, ◌<◌, Bool, true, false, cond, List, [], ◌∷◌, ◌++◌, length, drop, slice_index_or, refl, sym, ap, subst, ◌∙◌, append_assoc, append-nil, arith}
use Rattle.std.specs.List.{AllByRecursion}
use Rattle.std.proofs.lemmas.List.{length-append}
use Rattle.lrc_script.specs.ScriptFaults.{HasNoLineFeed}
use Rattle.lrc_script.specs.LineReading.{parts_of_read_line}
use Rattle.lrc_script.proofs.Reading.Separators.{HasNoSeparator, separator_behind_first_word}
use Rattle.lrc_check.specs.Traces.LabelLines.{AreTraceLabelLines, AreTraceLabelsBehind, AreTraceLabelsLeft, trace_label_lines}
use Rattle.lrc_check.specs.Traces.Labels.{trace_label_at, trace_line_label}

-- ---- a label is one line

HasNoSeparator-drop : (c n : ℕ) (bytes : List ℕ) → HasNoSeparator c bytes → HasNoSeparator c (drop n bytes)
HasNoSeparator-drop c zero bytes h = h
HasNoSeparator-drop c (suc n) [] h = tt
HasNoSeparator-drop c (suc n) (b ∷ bytes) h = HasNoSeparator-drop c n bytes h.1

pub label_lines_clean : (line : List ℕ) → HasNoSeparator 10 line → HasNoSeparator 10 (trace_line_label line)
label_lines_clean line h = HasNoSeparator-drop 10 (trace_label_at line + 2) line h

-- ---- lines behind lines

label_lines_text_append : (ls ms : List (List ℕ)) → trace_label_lines (ls ++ ms) ≡ trace_label_lines ls ++ trace_label_lines ms
label_lines_text_append [] ms = refl
label_lines_text_append (l ∷ ls) ms =
    ap (λ (x : List ℕ). (l ++ 10 ∷ []) ++ x) (label_lines_text_append ls ms)
    ∙ sym (append_assoc (l ++ 10 ∷ []) (trace_label_lines ls) (trace_label_lines ms))

label_lines_each_append : (ls ms : List (List ℕ)) → AllByRecursion HasNoLineFeed ls → AllByRecursion HasNoLineFeed ms
    → AllByRecursion HasNoLineFeed (ls ++ ms)
label_lines_each_append [] ms first second = second
label_lines_each_append (l ∷ ls) ms first second = (first.0, label_lines_each_append ls ms first.1 second)

label_lines_append : (m n k : ℕ) (a b : List ℕ) → AreTraceLabelLines m a → AreTraceLabelLines n b → k ≡ m + n → AreTraceLabelLines k (a ++ b)
label_lines_append m n k a b first second sum = record {
  lines = first.lines ++ second.lines;
  count = length-append first.lines second.lines ∙ omega (arith, first.count, second.count, sum);
  each = label_lines_each_append first.lines second.lines first.each second.each;
  text_is = ap (λ (x : List ℕ). x ++ b) first.text_is ∙ ap (λ (x : List ℕ). trace_label_lines first.lines ++ x) second.text_is
      ∙ sym (label_lines_text_append first.lines second.lines);
}

label_lines_one : (l : List ℕ) → HasNoLineFeed l → AreTraceLabelLines 1 (l ++ 10 ∷ [])
label_lines_one l clean = record { lines = l ∷ []; count = refl; each = (clean, tt); text_is = sym (append-nil (l ++ 10 ∷ [])) }

-- one label more
pub label_lines_push : (gone count more : ℕ) (text now l : List ℕ) → AreTraceLabelsBehind gone count text → HasNoLineFeed l
    → now ≡ text ++ (l ++ 10 ∷ []) → more ≡ count + 1 → AreTraceLabelsBehind gone more now
label_lines_push gone count more text now l h clean same next =
    let lines : AreTraceLabelLines (h.0 + 1) (text ++ (l ++ 10 ∷ [])) =
    label_lines_append h.0 1 (h.0 + 1) text (l ++ 10 ∷ []) h.2 (label_lines_one l clean) refl in
    (h.0 + 1, omega (arith, h.1, next), subst (AreTraceLabelLines (h.0 + 1)) (sym same) lines)

-- ---- which line stands where

label_lines_first : (l : List ℕ) (ls : List (List ℕ)) (more : List ℕ) → HasNoLineFeed l
    → parts_of_read_line 10 (trace_label_lines (l ∷ ls) ++ more) ≡ l ∷ parts_of_read_line 10 (trace_label_lines ls ++ more)
label_lines_first l ls more clean =
    let rest = trace_label_lines ls ++ more in
    let text : ((l ++ 10 ∷ []) ++ trace_label_lines ls) ++ more ≡ l ++ 10 ∷ rest =
    append_assoc (l ++ 10 ∷ []) (trace_label_lines ls) more ∙ append_assoc l (10 ∷ []) rest in
    ap (parts_of_read_line 10) text ∙ separator_behind_first_word 10 l rest clean

label_lines_after : (ls : List (List ℕ)) (more : List ℕ) (k : ℕ) → AllByRecursion HasNoLineFeed ls
    → slice_index_or (parts_of_read_line 10 (trace_label_lines ls ++ more)) (length ls + k) [] ≡ slice_index_or (parts_of_read_line 10 more) k []
label_lines_after [] more k each =
    let none : 0 + k ≡ k = omega arith in ap (λ (n : ℕ). slice_index_or (parts_of_read_line 10 more) n []) none
label_lines_after (l ∷ ls) more k each =
    let next : suc (length ls) + k ≡ suc (length ls + k) = omega arith in
    ap (λ (ps : List (List ℕ)). slice_index_or ps (suc (length ls) + k) []) (label_lines_first l ls more each.0)
    ∙ ap (λ (n : ℕ). slice_index_or (l ∷ parts_of_read_line 10 (trace_label_lines ls ++ more)) n []) next
    ∙ label_lines_after ls more k each.1

label_lines_among : (ls : List (List ℕ)) (more : List ℕ) (k : ℕ) → AllByRecursion HasNoLineFeed ls → k < length ls
    → slice_index_or (parts_of_read_line 10 (trace_label_lines ls ++ more)) k [] ≡ slice_index_or ls k []
label_lines_among [] more k each less = absurd (omega arith)
label_lines_among (l ∷ ls) more zero each less = ap (λ (ps : List (List ℕ)). slice_index_or ps 0 []) (label_lines_first l ls more each.0)
label_lines_among (l ∷ ls) more (suc k) each less =
    let fewer : k < length ls = omega (arith, less) in
    ap (λ (ps : List (List ℕ)). slice_index_or ps (suc k) []) (label_lines_first l ls more each.0)
    ∙ label_lines_among ls more k each.1 fewer

-- a line of these stands where it stands without what comes behind
label_lines_within : (n k : ℕ) (text more : List ℕ) → AreTraceLabelLines n text → k < n
    → slice_index_or (parts_of_read_line 10 (text ++ more)) k [] ≡ slice_index_or (parts_of_read_line 10 text) k []
label_lines_within n k text more h less =
    let within : k < length h.lines = omega (arith, h.count, less) in
    ap (λ (x : List ℕ). slice_index_or (parts_of_read_line 10 (x ++ more)) k []) h.text_is ∙ label_lines_among h.lines more k h.each within
    ∙ sym (ap (λ (x : List ℕ). slice_index_or (parts_of_read_line 10 x) k []) (h.text_is ∙ sym (append-nil (trace_label_lines h.lines)))
    ∙ label_lines_among h.lines [] k h.each within)

-- lines behind these
label_lines_behind : (n k : ℕ) (text more : List ℕ) → AreTraceLabelLines n text
    → slice_index_or (parts_of_read_line 10 (text ++ more)) (n + k) [] ≡ slice_index_or (parts_of_read_line 10 more) k []
label_lines_behind n k text more h =
    let at : n + k ≡ length h.lines + k = omega (arith, h.count) in
    ap (λ (m : ℕ). slice_index_or (parts_of_read_line 10 (text ++ more)) m []) at
    ∙ ap (λ (x : List ℕ). slice_index_or (parts_of_read_line 10 (x ++ more)) (length h.lines + k) []) h.text_is
    ∙ label_lines_after h.lines more k h.each

-- ---- the labels that are left

-- the label of an event of those that are left, among all
pub label_lines_of_event : (headed : Bool) (gone events index : ℕ) (told left more all : List ℕ)
    → AreTraceLabelsLeft headed gone (events + 1) told left → index < events → told ++ (left ++ more) ≡ all
    → slice_index_or (parts_of_read_line 10 left) (cond headed (index + 1) index) []
    ≡ slice_index_or (parts_of_read_line 10 all) (gone + index + 1) []
label_lines_of_event true gone events index told left more all h less same =
    let within : index + 1 < h.2.0 = omega (arith, h.2.1, less) in
    let place : index + 1 ≡ gone + index + 1 = omega (arith, h.0) in
    let whole : left ++ more ≡ all = ap (λ (x : List ℕ). x ++ (left ++ more)) (sym h.1) ∙ same in
    sym (label_lines_within h.2.0 (index + 1) left more h.2.2 within)
    ∙ ap (λ (x : List ℕ). slice_index_or (parts_of_read_line 10 x) (index + 1) []) whole
    ∙ ap (λ (m : ℕ). slice_index_or (parts_of_read_line 10 all) m []) place
label_lines_of_event false gone events index told left more all h less same =
    let within : index < h.1.0 = omega (arith, h.1.1, less) in
    let place : (gone + 1) + index ≡ gone + index + 1 = omega arith in
    sym (label_lines_within h.1.0 index left more h.1.2 within)
    ∙ sym (label_lines_behind (gone + 1) index told (left ++ more) h.0)
    ∙ ap (λ (x : List ℕ). slice_index_or (parts_of_read_line 10 x) ((gone + 1) + index) []) same
    ∙ ap (λ (m : ℕ). slice_index_or (parts_of_read_line 10 all) m []) place

-- more were read
pub label_lines_left : (headed : Bool) (gone before after : ℕ) (told left now : List ℕ)
    → ((n : ℕ) → AreTraceLabelsBehind n before left → AreTraceLabelsBehind n after now)
    → AreTraceLabelsLeft headed gone before told left → AreTraceLabelsLeft headed gone after told now
label_lines_left true gone before after told left now more h = (h.0, h.1, more 0 h.2)
label_lines_left false gone before after told left now more h = (h.0, more 1 h.1)

label_lines_of_none : (ls : List (List ℕ)) → length ls ≡ 0 → trace_label_lines ls ≡ []
label_lines_of_none [] none = refl
label_lines_of_none (l ∷ ls) none = absurd (omega (arith, none))

label_lines_none : AreTraceLabelLines 0 []
label_lines_none = record { lines = []; count = refl; each = tt; text_is = refl }

-- nothing was read
label_lines_nothing : (text : List ℕ) → AreTraceLabelsBehind 0 0 text → text ≡ []
label_lines_nothing text h = h.2.text_is ∙ label_lines_of_none h.2.lines (omega (arith, h.1, h.2.count))

-- all that were read are let go of, before the line of the sizes
pub label_lines_unread : (headed : Bool) (gone : ℕ) (told left : List ℕ) → gone ≡ 0 → AreTraceLabelsLeft headed gone 0 told left
    → AreTraceLabelsLeft headed gone 0 (told ++ left) []
label_lines_unread true gone told left none h = (
  h.0,
  ap (λ (x : List ℕ). x ++ left) h.1 ∙ label_lines_nothing left h.2,
  (0, refl, label_lines_none),
)
label_lines_unread false gone told left none h = absurd (omega (arith, h.1.1))

-- and behind it
pub label_lines_let_go : (headed : Bool) (gone events : ℕ) (told left : List ℕ) → AreTraceLabelsLeft headed gone (events + 1) told left
    → AreTraceLabelsLeft false (gone + events) 1 (told ++ left) []
label_lines_let_go true gone events told left h =
    let count : h.2.0 ≡ gone + events + 1 = omega (arith, h.0, h.2.1) in (
      subst (AreTraceLabelLines (gone + events + 1)) (ap (λ (x : List ℕ). x ++ left) (sym h.1)) (subst (λ (n : ℕ). AreTraceLabelLines n left) count h.2.2),
      (0, refl, label_lines_none),
    )
label_lines_let_go false gone events told left h = (
  label_lines_append (gone + 1) h.1.0 (gone + events + 1) told left h.0 h.1.2 (omega (arith, h.1.1)),
  (0, refl, label_lines_none),
)
