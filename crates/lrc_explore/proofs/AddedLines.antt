-- The lines of the events so far, and of one more.
-- The lines of two lists are those of the first one and then those of the second one, numbered on (`report_lines_append` of
-- lrc_report). Here the second one has one event.
use Rattle.std.proofs.Common.{◌≡◌, ◌∙◌, ◌+◌, ℕ, List, [], ◌∷◌, ◌++◌, add-one, length, take, sym, ap, append-nil, append_assoc, arith}
use Rattle.std.specs.Prelude.{Some, slice_get}
use Rattle.std.proofs.lemmas.List.{length-take-le}
use Rattle.std.proofs.lemmas.Option.{slice_get_within}
use Rattle.base.proofs.SlicesAndCounts.{slice_take-suc_at}
use Rattle.journal.specs.declared.event.Event.{Event}
use Rattle.lrc_report.specs.ReportText.{report_event_text, report_events_text}
use Rattle.lrc_report.proofs.ReportLines.{report_lines_append}

-- one more
pub added_lines_one_more : (xs : List Event) (i : ℕ) (x : Event) → slice_get xs i ≡ Some x
    → report_events_text 0 (take i xs) ++ report_event_text i x ≡ report_events_text 0 (take (i + 1) xs)
added_lines_one_more xs i x at =
    let within = slice_get_within xs i x at in
    let place : 0 + length (take i xs) ≡ i = omega (arith, length-take-le i xs (omega arith)) in
    sym
    (ap (report_events_text 0) (ap (λ n. take n xs) (add-one i) ∙ slice_take-suc_at xs i x at)
    ∙ report_lines_append 0 (take i xs) (x ∷ [])
    ∙ ap (λ l. report_events_text 0 (take i xs) ++ l)
    (append-nil (report_event_text (0 + length (take i xs)) x) ∙ ap (λ n. report_event_text n x) place))

-- one more text
added_lines_text_more : (old a b x new : List ℕ) → x ≡ old ++ a → new ≡ x ++ b → new ≡ old ++ (a ++ b)
added_lines_text_more old a b x new ex en = en ∙ ap (λ t. t ++ b) ex ∙ append_assoc old a b

-- three texts, added one after the other
pub added_lines_of_three : {x y new : List ℕ} (old a b c : List ℕ) → x ≡ old ++ a → y ≡ x ++ b → new ≡ y ++ c → new ≡ old ++ ((a ++ b) ++ c)
added_lines_of_three {x} {y} {new} old a b c ex ey en =
    added_lines_text_more old (a ++ b) c y new (added_lines_text_more old a b x y ex ey) en

-- four
pub added_lines_of_four : {x y z new : List ℕ} (old a b c d : List ℕ) → x ≡ old ++ a → y ≡ x ++ b → z ≡ y ++ c → new ≡ z ++ d
    → new ≡ old ++ (((a ++ b) ++ c) ++ d)
added_lines_of_four {z = z} {new = new} old a b c d ex ey ez en =
    added_lines_text_more old ((a ++ b) ++ c) d z new (added_lines_of_three old a b c ex ey ez) en

-- and five
pub added_lines_of_five : {x y z w new : List ℕ} (old a b c d e : List ℕ) → x ≡ old ++ a → y ≡ x ++ b → z ≡ y ++ c → w ≡ z ++ d → new ≡ w ++ e
    → new ≡ old ++ ((((a ++ b) ++ c) ++ d) ++ e)
added_lines_of_five {w = w} {new = new} old a b c d e ex ey ez ew en =
    added_lines_text_more old (((a ++ b) ++ c) ++ d) e w new (added_lines_of_four old a b c d ex ey ez ew) en
