-- The lines of a journal's events, one after another.
use Rattle.std.proofs.Common.{◌≡◌, ◌∙◌, ◌+◌, ℕ, zero, suc, List, [], ◌∷◌, ◌++◌, add-one, length, take, drop, refl, sym, ap, append_assoc, append-nil, take-append-drop, arith}
use Rattle.std.specs.Prelude.{Option, Some, slice_get}
use Rattle.base.proofs.SlicesAndCounts.{slice_take-suc_at}
use Rattle.journal.specs.declared.event.Event.{Event}
use Rattle.lrc_report.specs.ReportText.{report_event_text, report_events_text}
use Rattle.lrc_report.specs.WritesThrough.{WritesThroughFront, PassesThrough}
use Rattle.lrc_report.proofs.AppendsThrough.{appends_through_then, appends_through_front, appends_through_pending_longer}

-- the lines of two lists
pub report_lines_append : (j : ℕ) (xs ys : List Event)
    → report_events_text j (xs ++ ys) ≡ report_events_text j xs ++ report_events_text (j + length xs) ys
report_lines_append j [] ys = ap (λ n. report_events_text n ys) (omega arith)
report_lines_append j (x ∷ xs) ys =
    let next : (j + 1) + length xs ≡ j + suc (length xs) = omega arith in
    ap (λ l. report_event_text j x ++ l) (report_lines_append (j + 1) xs ys)
    ∙ sym (append_assoc (report_event_text j x) (report_events_text (j + 1) xs) _)
    ∙ ap (λ n. (report_event_text j x ++ report_events_text (j + 1) xs) ++ report_events_text n ys) next

-- the place of the item after the first i
report_lines_taken : (xs : List Event) (i : ℕ) (x : Event) → slice_get xs i ≡ Some x → length (take i xs) ≡ i
report_lines_taken [] i x at = absurd (cc)
report_lines_taken (y ∷ ys) zero x at = refl
report_lines_taken (y ∷ ys) (suc i) x at = ap suc (report_lines_taken ys i x at)

-- one more
report_lines_one_more : (j : ℕ) (xs : List Event) (i : ℕ) (x : Event) → slice_get xs i ≡ Some x
    → report_events_text j (take (i + 1) xs) ≡ report_events_text j (take i xs) ++ report_event_text (j + i) x
report_lines_one_more j xs i x at =
    let place : j + length (take i xs) ≡ j + i = omega (arith, report_lines_taken xs i x at) in
    ap (report_events_text j) (ap (λ n. take n xs) (add-one i) ∙ slice_take-suc_at xs i x at) ∙ report_lines_append j (take i xs) (x ∷ [])
    ∙ ap (λ l. report_events_text j (take i xs) ++ l)
    (append-nil (report_event_text (j + length (take i xs)) x) ∙ ap (λ n. report_event_text n x) place)

-- the lines of the events so far, and of one more
pub report_lines_through_next : (j : ℕ) (xs : List Event) (i : ℕ) {x : Event} {a b c : Option (List ℕ)} {k l m : List ℕ}
    → slice_get xs i ≡ Some x
    → PassesThrough a b k l (report_events_text j (take i xs)) → PassesThrough b c l m (report_event_text (j + i) x)
    → PassesThrough a c k m (report_events_text j (take (i + 1) xs))
report_lines_through_next j xs i {x = x} {a = a} {b = b} {c = c} {k = k} {l = l} {m = m} at before this = rw (report_lines_one_more j xs i x at) (appends_through_then before this)

-- a beginning of one more is one of the whole
pub report_lines_through_front : (j : ℕ) (xs : List Event) (i : ℕ) {x : Event} {a b : Option (List ℕ)} (c : Option (List ℕ)) {k l : List ℕ}
    → slice_get xs i ≡ Some x
    → PassesThrough a b k l (report_events_text j (take i xs)) → WritesThroughFront b c (l ++ report_event_text (j + i) x)
    → WritesThroughFront a c (k ++ report_events_text j xs)
report_lines_through_front j xs i {x = x} {a = a} {b = b} c {k = k} {l = l} at before this =
    let rest = report_events_text (j + length (take (i + 1) xs)) (drop (i + 1) xs) in
    let whole : report_events_text j xs ≡ report_events_text j (take i xs) ++ (report_event_text (j + i) x ++ rest) =
    ap (report_events_text j) (sym (take-append-drop (i + 1) xs)) ∙ report_lines_append j (take (i + 1) xs) (drop (i + 1) xs)
    ∙ ap (λ t. t ++ rest) (report_lines_one_more j xs i x at)
    ∙ append_assoc (report_events_text j (take i xs)) (report_event_text (j + i) x) rest in
    rw whole (appends_through_front a b c k l (report_events_text j (take i xs)) _ before
    (appends_through_pending_longer b c l (report_event_text (j + i) x) rest this))
