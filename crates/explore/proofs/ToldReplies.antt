-- Which replies are told and kept, with a call more.
-- A step that adds stands behind a load, so the reply that it adds to is that of the call before it.
use Rattle.std.proofs.Common.{ℕ, add-one, take, zero, suc, ◌≡◌, ◌+◌, ◌<◌, ◌≤◌, map, slice_index_or, inl, inr, Bool, true, false, cond, List, [], ◌∷◌, ◌++◌, length, Some, IsTrue, slice_get, refl, sym, ap, ap₂, subst, ◌∙◌, length-append, append_assoc, append-nil, arith}
use Rattle.std.specs.Prelude.{None, Option, ⊤, not}
use Rattle.std.proofs.lemmas.Bool.{le-leb, cases_lt, false≢true}
use Rattle.std.proofs.lemmas.List.{length-map, length-take-le}
use Rattle.std.proofs.lemmas.List.Sums.{fold-append}
use Rattle.std.proofs.lemmas.Option.{none-some, same_Some, slice_get_within}
use Rattle.base.proofs.SlicesAndCounts.{slice_take-suc_at}
use Rattle.base.proofs.SliceSets.{slice_sets_same}
use Rattle.journal.specs.declared.event.Kind.{Kind}
use Rattle.journal.specs.declared.event.Kind.TheVariants as kind
use Rattle.lrc_script.specs.Plan.{Plan}
use Rattle.lrc_script.specs.declared.script.Instruction.{Instruction}
use Rattle.lrc_script.specs.declared.script.Instruction.TheVariants.{Load, Store, Add, Acquire, Release, Barrier, Set, Await, Cut}
use Rattle.conformance.specs.Follows.{load_of}
use Rattle.conformance.proofs.Script.SectionSteps.{section_step_load_told}
use Rattle.explore.proofs.Lengths.{length_of_load_steps}
use Rattle.explore.specs.declared.prefixes.script_call.ScriptCall.{ScriptCall}
use Rattle.explore.specs.declared.prefixes.script_call.ScriptCall.TheVariants.{Call, Adds}
use Rattle.explore.specs.declared.outcomes.telling.Detail.{Detail}
use Rattle.explore.specs.declared.outcomes.telling.Detail.TheVariants as detail
use Rattle.explore.specs.declared.outcomes.telling.OutcomeTelling.{OutcomeTelling}
use Rattle.explore.specs.FlatOutcomes.{flat_outcome_replies_in}
use Rattle.explore.specs.Prefixes.ScriptCalls.{FitsScriptCall, script_call_loads, script_calls_of_section, script_calls_of_all, last_reply_of_script_calls, script_call_reply_after}
use Rattle.explore.specs.OutcomeTelling.{AreOutcomeTellingRows, is_told_by_outcome_telling, is_sum_for_outcome_telling, outcome_telling_of_script, outcome_telling_kept, outcome_telling_pending, outcome_telling_replies, outcome_telling_reply, outcome_telling_steps, outcome_telling_words}

-- rows of one function are the same
told_reply_past_none : {A : Type 0} (xs : List A) (k : ℕ) → length xs < suc k → slice_get xs k ≡ None
told_reply_past_none [] k le = refl
told_reply_past_none (x ∷ xs) zero le = absurd (omega arith)
told_reply_past_none (x ∷ xs) (suc k) le = told_reply_past_none xs k (omega arith)

pub told_replies_same_rows : (n : ℕ) (row : ℕ → List ℕ) (a b : List (List ℕ)) → AreOutcomeTellingRows n row a → AreOutcomeTellingRows n row b → a ≡ b
told_replies_same_rows n row a b first second = slice_sets_same a b (λ k. elim (cases_lt k n) [
  | inl lt ↦ first.each k lt ∙ sym (second.each k lt)
  | inr past ↦
      (let one = first.long in
      let two = second.long in
      told_reply_past_none a k (omega arith) ∙ sym (told_reply_past_none b k (omega arith)))
])

pub told_replies_rows_like : (n : ℕ) (row other : ℕ → List ℕ) (rows : List (List ℕ)) → ((p : ℕ) → p < n → row p ≡ other p)
    → AreOutcomeTellingRows n row rows → AreOutcomeTellingRows n other rows
told_replies_rows_like n row other rows same are = record {
  long = are.long;
  each = λ p lt. are.each p lt ∙ ap Some (same p lt);
}

-- and there are such
abbrev told_reply_rows : (ℕ → List ℕ) → ℕ → List (List ℕ)
told_reply_rows row zero = []
told_reply_rows row (suc n) = row 0 ∷ told_reply_rows (λ p. row (suc p)) n

told_reply_rows_long : (row : ℕ → List ℕ) (n : ℕ) → length (told_reply_rows row n) ≡ n
told_reply_rows_long row zero = refl
told_reply_rows_long row (suc n) = ap suc (told_reply_rows_long (λ p. row (suc p)) n)

told_reply_row_at : (row : ℕ → List ℕ) (n p : ℕ) → p < n → slice_get (told_reply_rows row n) p ≡ Some (row p)
told_reply_row_at row zero p less = absurd (omega (arith, less))
told_reply_row_at row (suc n) zero less = refl
told_reply_row_at row (suc n) (suc p) less = told_reply_row_at (λ q. row (suc q)) n p (omega (arith, less))

pub told_replies_some_rows : (n : ℕ) (row : ℕ → List ℕ) → (rows : List (List ℕ)) × AreOutcomeTellingRows n row rows
told_replies_some_rows n row = (told_reply_rows row n, record { long = told_reply_rows_long row n; each = told_reply_row_at row n })

-- in full detail all replies are told
told_reply_full : (k : Kind) (calls : List Kind) → outcome_telling_reply true k ++ flat_outcome_replies_in calls ≡ flat_outcome_replies_in (k ∷ calls)
told_reply_full (kind.Load a v) calls = refl
told_reply_full _ calls = refl

pub told_replies_full : (t : OutcomeTelling) (p : ℕ) (steps : List ScriptCall) (n : ℕ) (calls : List Kind) → t.detail ≡ detail.All
    → outcome_telling_replies t p steps n calls ≡ flat_outcome_replies_in calls
told_replies_full t p steps n [] all = refl
told_replies_full t p steps n (k ∷ calls) all =
    ap₂ (λ b rest. outcome_telling_reply b k ++ rest) (ap (λ d. is_told_by_outcome_telling d (outcome_telling_words t p) steps n) all)
    (told_replies_full t p steps (n + 1) calls all)
    ∙ told_reply_full k calls

-- calls that are put together
pub told_replies_append : (t : OutcomeTelling) (p : ℕ) (steps : List ScriptCall) (n : ℕ) (calls more : List Kind)
    → outcome_telling_replies t p steps n (calls ++ more) ≡ outcome_telling_replies t p steps n calls ++ outcome_telling_replies t p steps (n + length calls) more
told_replies_append t p steps n [] more = ap (λ m. outcome_telling_replies t p steps m more) (omega arith)
told_replies_append t p steps n (c ∷ calls) more =
    let e : n + 1 + length calls ≡ n + suc (length calls) = omega arith in
    let first = outcome_telling_reply (is_told_by_outcome_telling t.detail (outcome_telling_words t p) steps n) c in
    ap (λ rest. first ++ rest) (told_replies_append t p steps (n + 1) calls more
    ∙ ap (λ m. outcome_telling_replies t p steps (n + 1) calls ++ outcome_telling_replies t p steps m more) e)
    ∙ sym (append_assoc first (outcome_telling_replies t p steps (n + 1) calls) (outcome_telling_replies t p steps (n + suc (length calls)) more))

-- and one call more
told_replies_next : (t : OutcomeTelling) (p : ℕ) (steps : List ScriptCall) (n : ℕ) (calls : List Kind) (k : Kind)
    → outcome_telling_replies t p steps n (calls ++ k ∷ [])
    ≡ outcome_telling_replies t p steps n calls ++ outcome_telling_reply (is_told_by_outcome_telling t.detail (outcome_telling_words t p) steps (n + length calls)) k
told_replies_next t p steps n calls k =
    told_replies_append t p steps n calls (k ∷ [])
    ∙ ap (λ rest. outcome_telling_replies t p steps n calls ++ rest)
    (append-nil (outcome_telling_reply (is_told_by_outcome_telling t.detail (outcome_telling_words t p) steps (n + length calls)) k))

-- of the first calls, and one more
pub told_replies_take_next : (t : OutcomeTelling) (p : ℕ) (steps : List ScriptCall) (calls : List Kind) (n : ℕ) (k : Kind) → slice_get calls n ≡ Some k
    → outcome_telling_replies t p steps 0 (take (n + 1) calls)
    ≡ outcome_telling_replies t p steps 0 (take n calls) ++ outcome_telling_reply (is_told_by_outcome_telling t.detail (outcome_telling_words t p) steps n) k
told_replies_take_next t p steps calls n k at =
    let within = slice_get_within calls n k at in
    let long : 0 + length (take n calls) ≡ n = omega (arith, length-take-le n calls (omega arith)) in
    rw (add-one, slice_take-suc_at calls n k at)
    (told_replies_next t p steps 0 (take n calls) k
    ∙ ap (λ m. outcome_telling_replies t p steps 0 (take n calls) ++ outcome_telling_reply (is_told_by_outcome_telling t.detail (outcome_telling_words t p) steps m) k) long)

-- the reply that the next step adds to is that of the call before it
told_reply_pending_next : (step : Option ScriptCall) (calls : List Kind) (k : Kind)
    → (IsTrue (is_sum_for_outcome_telling step) → (a : ℕ) × (v : ℕ) × (k ≡ kind.Load a v))
    → outcome_telling_pending step (last_reply_of_script_calls (calls ++ k ∷ [])) ≡ outcome_telling_reply (is_sum_for_outcome_telling step) k
told_reply_pending_next step calls k loads = go (is_sum_for_outcome_telling step) loads
  where
    last : last_reply_of_script_calls (calls ++ k ∷ []) ≡ script_call_reply_after (last_reply_of_script_calls calls) k
    last = fold-append script_call_reply_after 0 calls (k ∷ [])

    load : (a v : ℕ) → k ≡ kind.Load a v → last_reply_of_script_calls (calls ++ k ∷ []) ∷ [] ≡ outcome_telling_reply true k
    load a v is =
        ap (λ reply. reply ∷ []) (last ∙ ap (script_call_reply_after (last_reply_of_script_calls calls)) is) ∙ sym (ap (outcome_telling_reply true) is)

    go : (b : Bool) → (IsTrue b → (a : ℕ) × (v : ℕ) × (k ≡ kind.Load a v))
        → cond b (last_reply_of_script_calls (calls ++ k ∷ []) ∷ []) [] ≡ outcome_telling_reply b k
    go true some = let it = some refl in load it.0 it.1 it.2
    go false some = refl

pub told_reply_kept_next : (t : OutcomeTelling) (p : ℕ) (steps : List ScriptCall) (calls : List Kind) (k : Kind)
    → (IsTrue (is_sum_for_outcome_telling (slice_get steps (length calls + 1))) → (a : ℕ) × (v : ℕ) × (k ≡ kind.Load a v))
    → (outcome_telling_replies t p steps 0 calls ++ outcome_telling_reply (is_told_by_outcome_telling t.detail (outcome_telling_words t p) steps (length calls)) k)
    ++ outcome_telling_reply (is_sum_for_outcome_telling (slice_get steps (length calls + 1))) k ≡ outcome_telling_kept t p steps (calls ++ k ∷ [])
told_reply_kept_next t p steps calls k loads =
    let e : length calls ≡ 0 + length calls = omega arith in
    let long : length calls + 1 ≡ length (calls ++ k ∷ []) = (let is = length-append calls (k ∷ []) in omega arith) in
    ap₂ (λ xs ys. xs ++ ys)
    (ap (λ m. outcome_telling_replies t p steps 0 calls ++ outcome_telling_reply (is_told_by_outcome_telling t.detail (outcome_telling_words t p) steps m) k) e
    ∙ sym (told_replies_next t p steps 0 calls k))
    (sym (told_reply_pending_next (slice_get steps (length calls + 1)) calls k loads)
    ∙ ap (λ m. outcome_telling_pending (slice_get steps m) (last_reply_of_script_calls (calls ++ k ∷ []))) long)

-- steps that add stand behind loads; before the first one there is a load or isn't
abbrev told_reply_sums_fit : Bool → List ScriptCall → Type 0
told_reply_sums_fit b [] = ⊤
told_reply_sums_fit b (Adds a v ∷ steps) = IsTrue b × told_reply_sums_fit false steps
told_reply_sums_fit b (Call (kind.Load a v) ∷ steps) = told_reply_sums_fit true steps
told_reply_sums_fit b (Call k ∷ steps) = told_reply_sums_fit false steps

told_reply_sums_fit_loads : (shown : List ℕ) (b : Bool) → told_reply_sums_fit b (script_call_loads shown)
told_reply_sums_fit_loads [] b = tt
told_reply_sums_fit_loads (a ∷ shown) b = told_reply_sums_fit_loads shown true

told_reply_sums_fit_section : (section : List Instruction) (shown : List ℕ) (b : Bool) → told_reply_sums_fit b (script_calls_of_section section shown)
told_reply_sums_fit_section [] shown b = told_reply_sums_fit_loads shown false
told_reply_sums_fit_section (Load a ∷ is) shown b = told_reply_sums_fit_section is shown true
told_reply_sums_fit_section (Store a v ∷ is) shown b = told_reply_sums_fit_section is shown false
told_reply_sums_fit_section (Add a v ∷ is) shown b = (refl, told_reply_sums_fit_section is shown false)
told_reply_sums_fit_section (Acquire l ∷ is) shown b = told_reply_sums_fit_section is shown false
told_reply_sums_fit_section (Release l ∷ is) shown b = told_reply_sums_fit_section is shown false
told_reply_sums_fit_section (Barrier ∷ is) shown b = told_reply_sums_fit_section is shown false
told_reply_sums_fit_section (Set f ∷ is) shown b = told_reply_sums_fit_section is shown false
told_reply_sums_fit_section (Await f ∷ is) shown b = told_reply_sums_fit_section is shown false
told_reply_sums_fit_section (Cut ∷ is) shown b = told_reply_sums_fit_section is shown b

told_reply_no_sum : (step : ScriptCall) (steps : List ScriptCall) → told_reply_sums_fit false (step ∷ steps) → IsTrue (is_sum_for_outcome_telling (Some step)) → ⊥
told_reply_no_sum (Adds a v) steps fit is = false≢true fit.0
told_reply_no_sum (Call k) steps fit is = false≢true is

told_reply_sums_fit_rest : (b : Bool) (step : ScriptCall) (steps : List ScriptCall) → told_reply_sums_fit b (step ∷ steps)
    → (c : Bool) × told_reply_sums_fit c steps
told_reply_sums_fit_rest b (Adds a v) steps fit = (false, fit.1)
told_reply_sums_fit_rest b (Call (kind.Load a v)) steps fit = (true, fit)
told_reply_sums_fit_rest b (Call k) steps fit = (false, fit)

told_reply_sum_behind : (b : Bool) (step : ScriptCall) (steps : List ScriptCall) → told_reply_sums_fit b (step ∷ steps)
    → IsTrue (is_sum_for_outcome_telling (slice_get steps 0)) → (a : ℕ) × (v : ℕ) × (step ≡ Call (kind.Load a v))
told_reply_sum_behind b step [] fit is = absurd (false≢true is)
told_reply_sum_behind b (Adds a v) (next ∷ steps) fit is = absurd (told_reply_no_sum next steps fit.1 is)
told_reply_sum_behind b (Call (kind.Load a v)) (next ∷ steps) fit is = (a, v, refl)
told_reply_sum_behind b (Call k) (next ∷ steps) fit is = absurd (told_reply_no_sum next steps fit is)

told_reply_sum_after : (b : Bool) (steps : List ScriptCall) (n : ℕ) (step : ScriptCall) → told_reply_sums_fit b steps → slice_get steps n ≡ Some step
    → IsTrue (is_sum_for_outcome_telling (slice_get steps (suc n))) → (a : ℕ) × (v : ℕ) × (step ≡ Call (kind.Load a v))
told_reply_sum_after b [] n step fit at is = absurd (none-some step at)
told_reply_sum_after b (x ∷ steps) zero step fit at is =
    let it = told_reply_sum_behind b x steps fit is in (it.0, it.1, sym (same_Some x step at) ∙ it.2)
told_reply_sum_after b (x ∷ steps) (suc n) step fit at is =
    let rest = told_reply_sums_fit_rest b x steps fit in told_reply_sum_after rest.0 steps n step rest.1 at is

-- the call of a step before one that adds is a load
pub told_reply_load_before_sum : (section : List Instruction) (shown : List ℕ) (n reply : ℕ) (step : ScriptCall) (k : Kind)
    → slice_get (script_calls_of_section section shown) n ≡ Some step → FitsScriptCall reply step k
    → IsTrue (is_sum_for_outcome_telling (slice_get (script_calls_of_section section shown) (n + 1))) → (a : ℕ) × (v : ℕ) × (k ≡ kind.Load a v)
told_reply_load_before_sum section shown n reply step k at call is =
    let e : n + 1 ≡ suc n = omega arith in
    let it = told_reply_sum_after false (script_calls_of_section section shown) n step (told_reply_sums_fit_section section shown false) at
    (subst (λ m. IsTrue (is_sum_for_outcome_telling (slice_get (script_calls_of_section section shown) m))) e is) in
    let load = section_step_load_told k it.0 (subst (λ x. FitsScriptCall reply x k) it.2 call) in
    (it.0, load.0, load.1)

-- before the first call nothing is kept
pub told_reply_kept_first : (t : OutcomeTelling) (p : ℕ) (section : List Instruction) (shown : List ℕ)
    → outcome_telling_kept t p (script_calls_of_section section shown) [] ≡ []
told_reply_kept_first t p section shown = go (script_calls_of_section section shown) (told_reply_sums_fit_section section shown false)
  where
    none : (step : ScriptCall) (steps : List ScriptCall) → told_reply_sums_fit false (step ∷ steps) → outcome_telling_pending (Some step) 0 ≡ []
    none (Adds a v) steps fit = absurd (false≢true fit.0)
    none (Call k) steps fit = refl

    go : (steps : List ScriptCall) → told_reply_sums_fit false steps → outcome_telling_kept t p steps [] ≡ []
    go [] fit = refl
    go (step ∷ steps) fit = none step steps fit

-- where all calls are made, what is kept is told
told_reply_past_last : (steps : List ScriptCall) (n : ℕ) → n ≡ length steps → slice_get steps n ≡ None
told_reply_past_last steps n is = told_reply_past_none steps n (omega arith)

pub told_reply_kept_whole : (t : OutcomeTelling) (p : ℕ) (steps : List ScriptCall) (calls : List Kind) → length calls ≡ length steps
    → outcome_telling_kept t p steps calls ≡ outcome_telling_replies t p steps 0 calls
told_reply_kept_whole t p steps calls is =
    ap (λ step. outcome_telling_replies t p steps 0 calls ++ outcome_telling_pending step (last_reply_of_script_calls calls)) (told_reply_past_last steps (length calls) is)
    ∙ append-nil (outcome_telling_replies t p steps 0 calls)

-- what is kept ends with the reply that the next step adds to
pub told_reply_kept_pending : (t : OutcomeTelling) (p : ℕ) (steps : List ScriptCall) (calls : List Kind)
    → IsTrue (is_sum_for_outcome_telling (slice_get steps (length calls)))
    → outcome_telling_kept t p steps calls ≡ outcome_telling_replies t p steps 0 calls ++ last_reply_of_script_calls calls ∷ []
told_reply_kept_pending t p steps calls is =
    ap (λ b. outcome_telling_replies t p steps 0 calls ++ cond b (last_reply_of_script_calls calls ∷ []) []) is

-- the loads of the shown words are told by each detail: no step behind them adds
told_reply_no_sum_in_loads : (shown : List ℕ) (n : ℕ) → is_sum_for_outcome_telling (slice_get (script_call_loads shown) n) ≡ false
told_reply_no_sum_in_loads [] n = refl
told_reply_no_sum_in_loads (a ∷ shown) zero = refl
told_reply_no_sum_in_loads (a ∷ shown) (suc n) = told_reply_no_sum_in_loads shown n

told_reply_no_sum_behind : (front : List ScriptCall) (shown : List ℕ) (n : ℕ) → length front ≤ n
    → is_sum_for_outcome_telling (slice_get (front ++ script_call_loads shown) n) ≡ false
told_reply_no_sum_behind [] shown n le = told_reply_no_sum_in_loads shown n
told_reply_no_sum_behind (x ∷ front) shown zero le = absurd (omega arith)
told_reply_no_sum_behind (x ∷ front) shown (suc n) le = told_reply_no_sum_behind front shown n (omega arith)

told_reply_at_end : (d : Detail) (section : List Instruction) (shown : List ℕ) (n : ℕ)
    → length (script_calls_of_section section shown) ≤ n + length shown
    → is_told_by_outcome_telling d (length shown) (script_calls_of_section section shown) n ≡ true
told_reply_at_end detail.Words section shown n le = le-leb (length (script_calls_of_section section shown)) (n + length shown) le
told_reply_at_end detail.Loads section shown n le =
    let closing = Call kind.Arrive ∷ Call kind.Depart ∷ [] in
    let front = script_calls_of_all section ++ closing in
    let all : front ++ script_call_loads shown ≡ script_calls_of_section section shown =
    append_assoc (script_calls_of_all section) closing (script_call_loads shown) in
    let parts = length-append front (script_call_loads shown) in
    let whole = ap (λ (xs : List ScriptCall). length xs) all in
    let loads = length_of_load_steps shown in
    ap not (ap (λ xs. is_sum_for_outcome_telling (slice_get xs (n + 1))) (sym all)
    ∙ told_reply_no_sum_behind front shown (n + 1) (omega (arith, parts, whole, loads, le)))
told_reply_at_end detail.All section shown n le = refl

told_replies_of_loads : (t : OutcomeTelling) (p : ℕ) (steps : List ScriptCall) (n : ℕ) (loads : List (ℕ × ℕ))
    → ((i : ℕ) → n ≤ i → is_told_by_outcome_telling t.detail (outcome_telling_words t p) steps i ≡ true)
    → outcome_telling_replies t p steps n (map load_of loads) ≡ map (λ (x : ℕ × ℕ). x.1) loads
told_replies_of_loads t p steps n [] are = refl
told_replies_of_loads t p steps n (x ∷ loads) are =
    ap₂ (λ b rest. outcome_telling_reply b (load_of x) ++ rest) (are n (omega arith))
    (told_replies_of_loads t p steps (n + 1) loads (λ i le. are i (omega arith)))

-- so what is told of processor 0 ends with them
pub told_replies_end_shown : (s : Plan) (d : Detail) (front : List Kind) (loads : List (ℕ × ℕ)) (calls : List Kind)
    → calls ≡ front ++ map load_of loads → length calls ≡ length (outcome_telling_steps s 0) → length loads ≡ length s.shown
    → outcome_telling_replies (outcome_telling_of_script s d) 0 (outcome_telling_steps s 0) 0 calls
    ≡ outcome_telling_replies (outcome_telling_of_script s d) 0 (outcome_telling_steps s 0) 0 front ++ map (λ (x : ℕ × ℕ). x.1) loads
told_replies_end_shown s d front loads calls is whole many =
    let t = outcome_telling_of_script s d in
    let steps = outcome_telling_steps s 0 in
    let parts = ap (λ (ks : List Kind). length ks) is ∙ length-append front (map load_of loads) in
    let mapped = length-map loads load_of in
    ap (outcome_telling_replies t 0 steps 0) is ∙ told_replies_append t 0 steps 0 front (map load_of loads)
    ∙ ap (λ rest. outcome_telling_replies t 0 steps 0 front ++ rest)
    (told_replies_of_loads t 0 steps (0 + length front) loads
    (λ i le. told_reply_at_end d (slice_index_or s.sections 0 []) s.shown i (omega (arith, parts, mapped, whole, many, le))))
