-- Two reports by turns in the same orders say the same.
use Rattle.std.proofs.Common.{ℕ, ◌≡◌, Bool, true, false, IsTrue, List, [], ◌∷◌, ◌++◌, length, map, drop, refl, sym, ap, ap₂, subst, ◌∙◌, arith}
use Rattle.std.proofs.lemmas.Bool.{false≢true}
use Rattle.std.proofs.lemmas.List.{drop_at, length-append, length-map}
use Rattle.journal.specs.declared.event.Event.{Event}
use Rattle.journal.specs.Traffic.{messages, records, words}
use Rattle.lrc_script.specs.Plan.{Plan}
use Rattle.lrc_report.specs.declared.report.Report.{Report}
use Rattle.conformance.specs.Follows.{calls_of, load_of}
use Rattle.conformance.specs.ScriptReports.{ScriptReportHasRace, ScriptReportHasHistory}
use Rattle.conformance.specs.SameTurns.{AreSameReports, SameReportsLaw}
use Rattle.conformance.specs.declared.ended.Ended.TheVariants.{Whole}
use Rattle.conformance.proofs.SameTurns.TurnEnds.{turn_ends_same_law}

-- lists that are the same, and of which the ends are as long, have the same ends
turn_report_list_ends : {A : Type 0} (xs ys us vs : List A) → xs ++ us ≡ ys ++ vs → length us ≡ length vs → us ≡ vs
turn_report_list_ends xs ys us vs same long =
    let one = length-append xs us in
    let other = length-append ys vs in
    let both = ap length same in
    let front : length xs ≡ length ys = omega (arith, one, other, both, long) in
    sym (drop_at xs us (length xs) refl) ∙ ap (drop (length xs)) same ∙ drop_at ys vs (length xs) (sym front)

-- loads that are the same are of the same words
turn_report_same_words : (xs ys : List (ℕ × ℕ)) → map load_of xs ≡ map load_of ys → xs ≡ ys
turn_report_same_words [] [] same = refl
turn_report_same_words [] (y ∷ ys) same = absurd (cc)
turn_report_same_words (x ∷ xs) [] same = absurd (cc)
turn_report_same_words (x ∷ xs) (y ∷ ys) same =
    let address : x.0 ≡ y.0 = cc in
    let value : x.1 ≡ y.1 = cc in
    let rest : map load_of xs ≡ map load_of ys = cc in
    ap₂ (λ z zs. z ∷ zs) (ap₂ (λ (a v : ℕ). (a, v)) address value) (turn_report_same_words xs ys rest)

-- what is shown
turn_report_same_shown : (s : Plan) (q r : Report) (g h : List Event) → ScriptReportHasHistory s q g → ScriptReportHasHistory s r h
    → calls_of g 0 ≡ calls_of h 0 → q.shown.items ≡ r.shown.items
turn_report_same_shown s q r g h x y same =
    let first = x.replies in
    let second = y.replies in
    let one = length-map q.shown.items (λ (z : ℕ × ℕ). z.0) in
    let other = length-map r.shown.items (λ (z : ℕ × ℕ). z.0) in
    let loads = length-map q.shown.items load_of in
    let shows = length-map r.shown.items load_of in
    let addresses = ap length (x.shown_addresses ∙ sym y.shown_addresses) in
    turn_report_same_words q.shown.items r.shown.items
    (turn_report_list_ends first.front second.front (map load_of q.shown.items) (map load_of r.shown.items)
    (sym first.ends ∙ same ∙ second.ends) (omega (arith, one, other, loads, shows, addresses)))

-- the verdict
turn_report_same_verdict : (a b : Bool) → (IsTrue a → IsTrue b) → (IsTrue b → IsTrue a) → a ≡ b
turn_report_same_verdict true true forth back = refl
turn_report_same_verdict false false forth back = refl
turn_report_same_verdict true false forth back = absurd (false≢true (forth refl))
turn_report_same_verdict false true forth back = absurd (false≢true (back refl))

-- two reports of one history
turn_report_same_history : (s : Plan) (q r : Report) (g h : List Event) → ScriptReportHasHistory s q g → ScriptReportHasHistory s r h → g ≡ h
    → AreSameReports q r
turn_report_same_history s q r g h x y same = record {
  racy = turn_report_same_verdict q.racy r.racy (λ is. y.racy.1 (subst ScriptReportHasRace same (x.racy.0 is)))
      (λ is. x.racy.1 (subst ScriptReportHasRace (sym same) (y.racy.0 is)));
  shown = turn_report_same_shown s q r g h x y (ap (λ (es : List Event). calls_of es 0) same);
  messages_are = x.messages_are ∙ ap messages same ∙ sym y.messages_are;
  records_are = x.records_are ∙ ap records same ∙ sym y.records_are;
  words_are = x.words_are ∙ ap words same ∙ sym y.words_are;
}

pub turn_reports_same_law : SameReportsLaw
turn_reports_same_law s orders q r x y lawful =
    turn_report_same_history s q r x.report.history y.report.history x.report.tells y.report.tells
    (turn_ends_same_law s orders (Whole q) (Whole r) x y lawful).same
