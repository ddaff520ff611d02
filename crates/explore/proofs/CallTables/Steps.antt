-- What steps tell, by their locks, flags and counts, is what the calls of a beginning are.
use Rattle.std.proofs.Common.{ℕ, zero, suc, ◌≡◌, ◌+◌, ◌<◌, ◌↔◌, ◌==◌, ◌||◌, ◌&&◌, ◌⊎◌, inl, inr, Bool, true, false, cond, not, IsTrue, All, List, [], ◌∷◌, ◌++◌, Option, Some, count_by, fold, map, slice_get, take, refl, sym, ap, ap₂, subst, ◌∙◌, arith}
use Rattle.std.specs.Prelude.{if◌then◌else◌}
use Rattle.std.specs.List.{list_any}
use Rattle.std.proofs.lemmas.Bool.{cases_eq, eq-eqb, eqb-true, false≢true, ne_eqb}
use Rattle.std.proofs.lemmas.List.Elements.{All-filter, All-push}
use Rattle.std.proofs.lemmas.List.Folds.{list_any-append}
use Rattle.std.proofs.lemmas.Map.Views.{any-filter_same}
use Rattle.base.proofs.SlicesAndCounts.{slice_count_by-append}
use Rattle.journal.specs.declared.event.Event.{Event}
use Rattle.journal.specs.declared.event.Kind.{Kind}
use Rattle.journal.specs.declared.event.Kind.TheVariants as kind
use Rattle.journal.specs.Events.{event_arrives, event_count}
use Rattle.journal.specs.WellFormed.{Does}
use Rattle.journal.proofs.Order.EventPlacesAndCounts.{event_count-inside, event_place_numbered}
use Rattle.lrc_script.specs.Plan.{Plan}
use Rattle.lrc_script.specs.Lawful.{IsLawful}
use Rattle.explore.specs.declared.prefixes.script_call.ScriptCall.{ScriptCall}
use Rattle.explore.specs.declared.prefixes.script_call.ScriptCall.TheVariants.{Call, Adds}
use Rattle.explore.specs.CallTables.{call_arrives, call_awaited_after, call_flags_after, call_list_once, call_locks_after}
use Rattle.explore.specs.KeptWaiting.{kept_waiting_without}
use Rattle.explore.specs.Machines.{IsProperMachineStep}
use Rattle.explore.specs.TextGuards.{text_guard_held_after_step}
use Rattle.explore.proofs.RankedLocks.OwnCalls.{own_awaited_after, wordless_call, wordless_step}

-- whether a number is among these
abbrev pub call_step_among : List ℕ → ℕ → Bool
call_step_among numbers n = list_any (λ m. m == n) numbers

call_step_among_push : (numbers : List ℕ) (k n : ℕ) → call_step_among (numbers ++ k ∷ []) n ≡ (call_step_among numbers n || (k == n || false))
call_step_among_push numbers k n = list_any-append (λ m. m == n) numbers (k ∷ [])

call_step_or : (a b : Bool) → b ≡ true → (a || b) ≡ true
call_step_or true b is = refl
call_step_or false b is = is

call_step_or_left : (a b : Bool) → b ≡ false → (a || (b || false)) ≡ a
call_step_or_left true b is = refl
call_step_or_left false b is = ap (λ c. c || false) is

call_step_without : (numbers : List ℕ) (k n : ℕ) → call_step_among (kept_waiting_without numbers k) n ≡ (not (n == k) && call_step_among numbers n)
call_step_without numbers k n =
    any-filter_same (λ m. m == n) (λ m. not (m == k)) (not (n == k)) (λ m is. ap (λ j. not (j == k)) (eqb-true m n is)) numbers

-- a lock is held after a step if it is among those that are
call_step_locks : (locks : List ℕ) (l : ℕ) (step : ScriptCall)
    → call_step_among (call_locks_after locks step) l ≡ text_guard_held_after_step l (call_step_among locks l) step
call_step_locks locks l (Call (kind.Acquire m)) = elim (cases_eq m l) [
  | inl is ↦
      call_step_among_push locks m l ∙ call_step_or (call_step_among locks l) (m == l || false) (ap (λ b. b || false) (eq-eqb m l is))
      ∙ sym (ap (λ b. if b then true else call_step_among locks l) (eq-eqb m l is))
  | inr isnt ↦
      call_step_among_push locks m l ∙ call_step_or_left (call_step_among locks l) (m == l) (ne_eqb m l isnt)
      ∙ sym (ap (λ b. if b then true else call_step_among locks l) (ne_eqb m l isnt))
]
call_step_locks locks l (Call (kind.Release m)) = elim (cases_eq m l) [
  | inl is ↦
      call_step_without locks m l ∙ ap (λ b. not b && call_step_among locks l) (eq-eqb l m (sym is))
      ∙ sym (ap (λ b. if b then false else call_step_among locks l) (eq-eqb m l is))
  | inr isnt ↦
      call_step_without locks m l ∙ ap (λ b. not b && call_step_among locks l) (ne_eqb l m (λ is. isnt (sym is)))
      ∙ sym (ap (λ b. if b then false else call_step_among locks l) (ne_eqb m l isnt))
]
call_step_locks locks l (Call _) = refl
call_step_locks locks l (Adds a v) = refl

pub call_steps_hold : (steps : List ScriptCall) (locks : List ℕ) (l : ℕ)
    → call_step_among (fold call_locks_after locks steps) l ≡ fold (text_guard_held_after_step l) (call_step_among locks l) steps
call_steps_hold [] locks l = refl
call_steps_hold (s ∷ steps) locks l =
    call_steps_hold steps (call_locks_after locks s) l ∙ ap (λ b. fold (text_guard_held_after_step l) b steps) (call_step_locks locks l s)

-- whether a step sets a flag
abbrev pub call_step_sets : ℕ → ScriptCall → Bool
call_step_sets f (Call (kind.Set g)) = g == f
call_step_sets f _ = false

abbrev pub call_kind_sets : ℕ → Kind → Bool
call_kind_sets f (kind.Set g) = g == f
call_kind_sets f _ = false

pub call_step_sets_wordless : (f : ℕ) (step : ScriptCall) → call_step_sets f step ≡ call_kind_sets f (wordless_step step)
call_step_sets_wordless f (Call (kind.Load a v)) = refl
call_step_sets_wordless f (Call (kind.Store a v)) = refl
call_step_sets_wordless f (Call _) = refl
call_step_sets_wordless f (Adds a v) = refl

pub call_kind_sets_wordless : (f : ℕ) (k : Kind) → call_kind_sets f (wordless_call k) ≡ call_kind_sets f k
call_kind_sets_wordless f (kind.Load a v) = refl
call_kind_sets_wordless f (kind.Store a v) = refl
call_kind_sets_wordless f _ = refl

call_kind_sets_it : (f : ℕ) (k : Kind) → IsTrue (call_kind_sets f k) → k ≡ kind.Set f
call_kind_sets_it f (kind.Set g) is = ap kind.Set (eqb-true g f is)
call_kind_sets_it f _ is = absurd (false≢true is)

-- a flag that is set once is among the flags
call_step_once : (flags : List ℕ) (g f : ℕ) → call_step_among (call_list_once flags g) f ≡ (g == f || call_step_among flags f)
call_step_once flags g f = go (call_step_among flags g) refl (g == f) refl
  where
    go : (b : Bool) → call_step_among flags g ≡ b → (c : Bool) → (g == f) ≡ c
        → call_step_among (call_list_once flags g) f ≡ (g == f || call_step_among flags f)
    go true there true is =
        let same = eqb-true g f is in
        ap (λ d. call_step_among (if d then flags else flags ++ g ∷ []) f) there
        ∙ (ap (call_step_among flags) (sym same) ∙ there) ∙ sym (ap (λ d. d || call_step_among flags f) is)
    go true there false isnt =
        ap (λ d. call_step_among (if d then flags else flags ++ g ∷ []) f) there ∙ sym (ap (λ d. d || call_step_among flags f) isnt)
    go false there true is =
        ap (λ d. call_step_among (if d then flags else flags ++ g ∷ []) f) there ∙ call_step_among_push flags g f
        ∙ call_step_or (call_step_among flags f) (g == f || false) (ap (λ d. d || false) is) ∙ sym (ap (λ d. d || call_step_among flags f) is)
    go false there false isnt =
        ap (λ d. call_step_among (if d then flags else flags ++ g ∷ []) f) there ∙ call_step_among_push flags g f
        ∙ call_step_or_left (call_step_among flags f) (g == f) isnt ∙ sym (ap (λ d. d || call_step_among flags f) isnt)

call_step_flags : (flags : List ℕ) (f : ℕ) (step : ScriptCall) → call_step_among (call_flags_after flags step) f ≡ (call_step_sets f step || call_step_among flags f)
call_step_flags flags f (Call (kind.Set g)) = call_step_once flags g f
call_step_flags flags f (Call _) = refl
call_step_flags flags f (Adds a v) = refl

call_step_counted : (is : ScriptCall → Bool) (s : ScriptCall) (steps : List ScriptCall) → count_by is (s ∷ steps) ≡ cond (is s) 1 0 + count_by is steps
call_step_counted is s steps = let sum = slice_count_by-append is (s ∷ []) steps in omega arith

pub call_steps_set : (steps : List ScriptCall) (flags : List ℕ) (f : ℕ)
    → IsTrue (call_step_among (fold call_flags_after flags steps) f) ↔ (IsTrue (call_step_among flags f) ⊎ (0 < count_by (call_step_sets f) steps))
call_steps_set [] flags f = (λ is. inl is, λ either. elim either [ inl is ↦ is | inr lt ↦ absurd (omega (arith, lt)) ])
call_steps_set (s ∷ steps) flags f = go (call_steps_set steps (call_flags_after flags s) f) (call_step_sets f s) refl
  where
    go : IsTrue (call_step_among (fold call_flags_after (call_flags_after flags s) steps) f)
        ↔ (IsTrue (call_step_among (call_flags_after flags s) f) ⊎ (0 < count_by (call_step_sets f) steps))
        → (b : Bool) → call_step_sets f s ≡ b → IsTrue (call_step_among (fold call_flags_after flags (s ∷ steps)) f)
        ↔ (IsTrue (call_step_among flags f) ⊎ (0 < count_by (call_step_sets f) (s ∷ steps)))
    go rest true is = (
      λ h. inr (let sum = call_step_counted (call_step_sets f) s steps ∙ ap (λ b. cond b 1 0 + count_by (call_step_sets f) steps) is in omega (arith, sum)),
      λ h. rest.1 (inl (call_step_flags flags f s ∙ ap (λ b. b || call_step_among flags f) is)),
    )
    go rest false is =
        let sum = call_step_counted (call_step_sets f) s steps ∙ ap (λ b. cond b 1 0 + count_by (call_step_sets f) steps) is in
        let same = call_step_flags flags f s ∙ ap (λ b. b || call_step_among flags f) is in (
          λ h. elim (rest.0 h) [ inl was ↦ inl (sym same ∙ was) | inr lt ↦ inr (omega (arith, sum, lt)) ],
          λ h. elim h [ inl was ↦ rest.1 (inl (same ∙ was)) | inr lt ↦ rest.1 (inr (omega (arith, sum, lt))) ],
        )

-- what is counted of steps and of their calls, and what is awaited after them
pub call_steps_counted : (f : ScriptCall → Bool) (is : Kind → Bool) → ((s : ScriptCall) → f s ≡ is (wordless_step s)) → (n : ℕ) (row : List ScriptCall)
    → count_by f (take n row) ≡ count_by is (take n (map wordless_step row))
call_steps_counted f is same zero row = refl
call_steps_counted f is same (suc n) [] = refl
call_steps_counted f is same (suc n) (s ∷ row) =
    slice_count_by-append f (s ∷ []) (take n row)
    ∙ ap₂ (λ (a b : ℕ). a + b) (ap (λ b. 0 + cond b 1 0) (same s)) (call_steps_counted f is same n row)
    ∙ sym (slice_count_by-append is (wordless_step s ∷ []) (take n (map wordless_step row)))

call_step_awaited : (o : Option Kind) (s : ScriptCall) → call_awaited_after o s ≡ own_awaited_after o (wordless_step s)
call_step_awaited o (Call (kind.Load a v)) = refl
call_step_awaited o (Call (kind.Store a v)) = refl
call_step_awaited o (Call _) = refl
call_step_awaited o (Adds a v) = refl

pub call_steps_awaited : (o : Option Kind) (n : ℕ) (row : List ScriptCall)
    → fold call_awaited_after o (take n row) ≡ fold own_awaited_after o (take n (map wordless_step row))
call_steps_awaited o zero row = refl
call_steps_awaited o (suc n) [] = refl
call_steps_awaited o (suc n) (s ∷ row) =
    call_steps_awaited (call_awaited_after o s) n row
    ∙ ap (λ p. fold own_awaited_after p (take n (map wordless_step row))) (call_step_awaited o s)

pub call_step_arrives_wordless : (step : ScriptCall) → call_arrives step ≡ event_arrives (wordless_step step)
call_step_arrives_wordless (Call (kind.Load a v)) = refl
call_step_arrives_wordless (Call (kind.Store a v)) = refl
call_step_arrives_wordless (Call _) = refl
call_step_arrives_wordless (Adds a v) = refl

pub call_kind_arrives_wordless : (k : Kind) → event_arrives (wordless_call k) ≡ event_arrives k
call_kind_arrives_wordless (kind.Load a v) = refl
call_kind_arrives_wordless (kind.Store a v) = refl
call_kind_arrives_wordless _ = refl

-- a processor sets a flag if one of its events is counted as that
pub call_kind_set_by : (g : List Event) (p f : ℕ) → (0 < event_count (call_kind_sets f) g p) ↔ ((i : ℕ) × Does g i p (kind.Set f))
call_kind_set_by g p f = (
  λ lt.
      let at = event_place_numbered (call_kind_sets f) g p 0 lt in
      (at.place, subst (Does g at.place p) (call_kind_sets_it f at.kind at.counts) at.does),
  λ does. let lt = event_count-inside (call_kind_sets f) g does.0 p (kind.Set f) does.1 (eq-eqb f f refl) in omega (arith, lt),
)

-- locks and flags of a lawful script are few
call_step_locks_small : (s : Plan) (locks : List ℕ) (step : ScriptCall) → IsLawful s → IsProperMachineStep s step → All (λ n. n < 32) locks
    → All (λ n. n < 32) (call_locks_after locks step)
call_step_locks_small s locks (Call (kind.Acquire l)) lawful proper small =
    let most = lawful.but_uneven.sizes.locks in
    let range = proper.0 in
    All-push (λ n. n < 32) locks l small (omega (arith, most, range))
call_step_locks_small s locks (Call (kind.Release l)) lawful proper small = All-filter (λ q. not (q == l)) (λ n. n < 32) locks small
call_step_locks_small s locks (Call _) lawful proper small = small
call_step_locks_small s locks (Adds a v) lawful proper small = small

call_step_flags_small : (s : Plan) (flags : List ℕ) (step : ScriptCall) → IsLawful s → IsProperMachineStep s step → All (λ n. n < 32) flags
    → All (λ n. n < 32) (call_flags_after flags step)
call_step_flags_small s flags (Call (kind.Set f)) lawful proper small = go (call_step_among flags f)
  where
    go : (b : Bool) → All (λ n. n < 32) (if b then flags else flags ++ f ∷ [])
    go true = small
    go false =
        let most = lawful.but_uneven.sizes.flags in
        let range = proper.0 in
        All-push (λ n. n < 32) flags f small (omega (arith, most, range))
call_step_flags_small s flags (Call _) lawful proper small = small
call_step_flags_small s flags (Adds a v) lawful proper small = small

pub call_steps_locks_small : (s : Plan) (steps : List ScriptCall) (locks : List ℕ) → IsLawful s
    → ((i : ℕ) (step : ScriptCall) → slice_get steps i ≡ Some step → IsProperMachineStep s step) → All (λ n. n < 32) locks
    → All (λ n. n < 32) (fold call_locks_after locks steps)
call_steps_locks_small s [] locks lawful proper small = small
call_steps_locks_small s (x ∷ steps) locks lawful proper small =
    call_steps_locks_small s steps (call_locks_after locks x) lawful (λ i step at. proper (suc i) step at)
    (call_step_locks_small s locks x lawful (proper 0 x refl) small)

pub call_steps_flags_small : (s : Plan) (steps : List ScriptCall) (flags : List ℕ) → IsLawful s
    → ((i : ℕ) (step : ScriptCall) → slice_get steps i ≡ Some step → IsProperMachineStep s step) → All (λ n. n < 32) flags
    → All (λ n. n < 32) (fold call_flags_after flags steps)
call_steps_flags_small s [] flags lawful proper small = small
call_steps_flags_small s (x ∷ steps) flags lawful proper small =
    call_steps_flags_small s steps (call_flags_after flags x) lawful (λ i step at. proper (suc i) step at)
    (call_step_flags_small s flags x lawful (proper 0 x refl) small)
