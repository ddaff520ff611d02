-- What is told of a whole run by the words alone: those at its end.
use Rattle.std.proofs.Common.{ℕ, ◌≡◌, ◌+◌, ◌<◌, ◌≤◌, ◌==◌, cond, false, inl, inr, List, [], ◌∷◌, ◌++◌, Some, length, map, slice_get, sym, refl, ap, ap₂, subst, ◌∙◌, arith}
use Rattle.std.proofs.lemmas.Bool.{cases_eq, lt-leb, ne_eqb}
use Rattle.std.proofs.lemmas.List.{length-append, length-map}
use Rattle.std.proofs.lemmas.Option.{get_or_from_slice_get}
use Rattle.std.specs.Global.{Vec}
use Rattle.base.proofs.SlicesAndCounts.{slice_get-append_left, slice_get-last}
use Rattle.journal.specs.declared.event.Event.{Event}
use Rattle.journal.specs.declared.event.Kind.{Kind}
use Rattle.lrc_script.specs.declared.script.Instruction.{Instruction}
use Rattle.lrc_script.specs.Plan.{Plan}
use Rattle.lrc_report.specs.declared.report.Report.{Report}
use Rattle.conformance.specs.Follows.{Follows, calls_of, load_of}
use Rattle.conformance.specs.ScriptReports.{ScriptReportHasHistory}
use Rattle.explore.specs.declared.outcomes.telling.Detail.TheVariants as detail
use Rattle.explore.specs.declared.outcomes.telling.OutcomeTelling.{OutcomeTelling}
use Rattle.explore.specs.declared.prefixes.script_call.ScriptCall.{ScriptCall}
use Rattle.explore.specs.OutcomeTelling.{is_told_by_outcome_telling, outcome_telling_of_script, outcome_telling_replies, outcome_telling_reply, outcome_telling_steps, outcome_telling_words}
use Rattle.explore.specs.Machines.{machine_rows}
use Rattle.explore.specs.Prefixes.ScriptCalls.{script_calls_of_section, script_calls_shown_by}
use Rattle.explore.proofs.MachineReplies.{machine_reply_row_push}
use Rattle.explore.proofs.ToldReplies.{told_replies_end_shown}
use Rattle.explore.proofs.PrefixRuns.Beginnings.{prefix_beginning_of_followed}
use Rattle.explore.proofs.PrefixRuns.SectionCalls.{section_calls_follows_length}

reported_words_untold : (k : Kind) → outcome_telling_reply false k ++ [] ≡ []
reported_words_untold k = refl

-- of calls that stand before the last ones nothing is told
reported_words_none : (t : OutcomeTelling) (p : ℕ) (steps : List ScriptCall) (n : ℕ) (calls : List Kind) → t.detail ≡ detail.Words
    → n + length calls + outcome_telling_words t p ≤ length steps → outcome_telling_replies t p steps n calls ≡ []
reported_words_none t p steps n [] words few = refl
reported_words_none t p steps n (k ∷ calls) words few =
    ap₂ (λ b rest. outcome_telling_reply b k ++ rest)
    (ap (λ d. is_told_by_outcome_telling d (outcome_telling_words t p) steps n) words
    ∙ lt-leb (length steps) (n + outcome_telling_words t p) (omega arith))
    (reported_words_none t p steps (n + 1) calls words (omega arith))
    ∙ reported_words_untold k

-- a whole run makes all calls that its section says
reported_words_all_called : (s : Plan) (h : List Event) (p : ℕ) (section : List Instruction) → Follows s h
    → slice_get s.sections p ≡ Some section → length (calls_of h p) ≡ length (outcome_telling_steps s p)
reported_words_all_called s h p section follows at =
    (section_calls_follows_length section (script_calls_shown_by s p) (calls_of h p) (prefix_beginning_of_followed s h follows p section at)).0
    (follows p section at)
    ∙ ap (λ xs. length (script_calls_of_section xs (script_calls_shown_by s p)))
    (sym (get_or_from_slice_get s.sections p section [] at))

-- what is told of processor 0 are the words at the end
reported_words_of_first : (s : Plan) (r : Report) (h : List Event) (section : List Instruction) → ScriptReportHasHistory s r h
    → slice_get s.sections 0 ≡ Some section
    → outcome_telling_replies (outcome_telling_of_script s detail.Words) 0 (outcome_telling_steps s 0) 0 (calls_of h 0)
    ≡ map (λ (x : ℕ × ℕ). x.1) r.shown.items
reported_words_of_first s r h section tells at =
    let t = outcome_telling_of_script s detail.Words in
    let steps = outcome_telling_steps s 0 in
    let calls = calls_of h 0 in
    let front = tells.replies.front in
    let loads = r.shown.items in
    let whole = reported_words_all_called s h 0 section tells.follows at in
    let many : length loads ≡ length s.shown =
    sym (length-map loads (λ (x : ℕ × ℕ). x.0)) ∙ ap (λ (xs : List ℕ). length xs) tells.shown_addresses in
    let parts = ap (λ (ks : List Kind). length ks) tells.replies.ends ∙ length-append front (map load_of loads) in
    let mapped = length-map loads load_of in
    told_replies_end_shown s detail.Words front loads calls tells.replies.ends whole many
    ∙ ap (λ xs. xs ++ map (λ (x : ℕ × ℕ). x.1) loads)
    (reported_words_none t 0 steps 0 front refl (omega (arith, whole, many, parts, mapped)))

-- so it is told of each processor
pub reported_words_of : (s : Plan) (r : Report) (h : List Event) (p : ℕ) (section : List Instruction) → ScriptReportHasHistory s r h
    → slice_get s.sections p ≡ Some section
    → outcome_telling_replies (outcome_telling_of_script s detail.Words) p (outcome_telling_steps s p) 0 (calls_of h p)
    ≡ cond (p == 0) (map (λ (x : ℕ × ℕ). x.1) r.shown.items) []
reported_words_of s r h p section tells at = elim (cases_eq p 0) [
  | inl is ↦
      subst
      (λ q. outcome_telling_replies (outcome_telling_of_script s detail.Words) q (outcome_telling_steps s q) 0 (calls_of h q)
      ≡ cond (q == 0) (map (λ (x : ℕ × ℕ). x.1) r.shown.items) [])
      (sym is) (reported_words_of_first s r h section tells (subst (λ q. slice_get s.sections q ≡ Some section) is at))
  | inr isnt ↦
      (let other : (p == 0) ≡ false = ne_eqb p 0 isnt in
      let whole = reported_words_all_called s h p section tells.follows at in
      let none : outcome_telling_words (outcome_telling_of_script s detail.Words) p ≡ 0 = ap (λ b. cond b (length s.shown) 0) other in
      reported_words_none (outcome_telling_of_script s detail.Words) p (outcome_telling_steps s p) 0 (calls_of h p) refl (omega (arith, whole, none))
      ∙ sym (ap (λ b. cond b (map (λ (x : ℕ × ℕ). x.1) r.shown.items) []) other))
]

-- rows of one function, and the next one
pub reported_words_pushed : (row : ℕ → List ℕ) (vs : List (Vec ℕ)) (v : Vec ℕ) (n : ℕ) → length (machine_rows vs) ≡ n
    → ((p : ℕ) → p < n → slice_get (machine_rows vs) p ≡ Some (row p)) → v.items ≡ row n
    → (p : ℕ) → p < n + 1 → slice_get (machine_rows (vs ++ v ∷ [])) p ≡ Some (row p)
reported_words_pushed row vs v n long are is p lt =
    ap (λ rows. slice_get rows p) (machine_reply_row_push vs v)
    ∙ elim (cases_eq p n) [
      | inl last ↦
          ap (slice_get (machine_rows vs ++ v.items ∷ [])) (last ∙ sym long) ∙ slice_get-last (machine_rows vs) v.items
          ∙ ap (λ (r : List ℕ). Some r) (is ∙ ap row (sym last))
      | inr isnt ↦ slice_get-append_left (machine_rows vs) (v.items ∷ []) p (omega (arith, lt, isnt, long)) ∙ are p (omega (arith, lt, isnt))
    ]
