-- How often a processor has departed, and which locks it holds: read off its calls, and off the steps of its section.
use Rattle.std.proofs.Common.{ℕ, ◌≡◌, ◌≢◌, ◌+◌, ◌↔◌, inl, inr, Bool, true, false, cond, IsTrue, List, [], ◌∷◌, count_by, fold, length, take, refl, sym, ap, ap₂, subst, ◌∙◌, arith}
use Rattle.std.specs.Prelude.{◌==◌}
use Rattle.std.proofs.lemmas.Bool.{cases_eq, cond-true, cond-false, eq-eqb, ne_eqb, false≢true}
use Rattle.std.proofs.lemmas.List.Sums.{fold-append}
use Rattle.journal.specs.declared.event.Event.{Event}
use Rattle.journal.specs.declared.event.Kind.{Kind}
use Rattle.journal.specs.declared.event.Kind.TheVariants as kind
use Rattle.journal.specs.DidEvent.{did, event}
use Rattle.journal.specs.Events.{event_address, event_count, event_departs, event_stores}
use Rattle.journal.specs.WellFormed.{Holds}
use Rattle.journal.proofs.Order.EventPlacesAndCounts.{event_count-append}
use Rattle.journal.proofs.Times.TimesOfPlaces.{time_of_places_one_event}
use Rattle.journal.proofs.Journals.WellFormedStays.{well_formed_stays_holds_cases, well_formed_stays_holds_longer, well_formed_stays_holds_now}
use Rattle.base.proofs.SlicesAndCounts.{slice_count_by-append, slice_push_induction}
use Rattle.lrc_script.specs.Plan.{Plan}
use Rattle.conformance.specs.Follows.{calls_of, is_fetch}
use Rattle.conformance.proofs.FollowedCalls.{followed_calls-own, followed_calls-others}
use Rattle.explore.specs.declared.prefixes.script_call.ScriptCall.{ScriptCall}
use Rattle.explore.specs.declared.prefixes.script_call.ScriptCall.TheVariants.{Call, Adds}
use Rattle.explore.specs.Prefixes.FlatBeginnings.{IsFlatBeginning}
use Rattle.explore.specs.Prefixes.ScriptCalls.{FitsScriptCall, replyless_script_call, script_call_reply_after}
use Rattle.explore.specs.Prefixes.PrefixLaws.{PrefixCanGoOn}
use Rattle.explore.specs.TextGuards.{text_guard_step_departs, text_guard_held_after, text_guard_held_after_step, text_guard_departures_at, text_guarded_step_address, text_guarded_step_stores}
use Rattle.explore.proofs.PrefixRuns.Beginnings.{prefix_beginning_next}
use Rattle.explore.proofs.PrefixRuns.SectionCalls.{AreFirstSectionCalls}

-- what holds of no events, and of one more, holds of each beginning
pub lockset_calls_induction : (s : Plan) (P : List Event → Type 0) → P []
    → ((g : List Event) (p : ℕ) (k : Kind) → IsFlatBeginning s g → PrefixCanGoOn s g p k → P g → P (did g p k))
    → (g : List Event) → IsFlatBeginning s g → P g
lockset_calls_induction s P start step =
    slice_push_induction (λ g. IsFlatBeginning s g → P g) (λ h. start)
    (λ g e ih h.
    let both = (prefix_beginning_next s g e.processor e.kind).0 h in
    step g e.processor e.kind both.0 both.1 (ih both.0))

-- the departures among some calls
abbrev pub lockset_calls_departures : List Kind → ℕ
lockset_calls_departures kinds = count_by event_departs kinds

-- whether a lock is held after them
abbrev pub lockset_calls_hold : ℕ → List Kind → Bool
lockset_calls_hold l kinds = fold (text_guard_held_after l) false kinds

lockset_calls_one_counted : (is : Kind → Bool) (k : Kind) (p : ℕ) → event_count is (event p k ∷ []) p ≡ count_by is (k ∷ [])
lockset_calls_one_counted is k p = let own = eq-eqb p p refl in rw own refl

-- so many of a processor's events are such ones as of its calls
pub lockset_calls_counted : (is : Kind → Bool) (s : Plan) (g : List Event) → IsFlatBeginning s g → (p : ℕ)
    → event_count is g p ≡ count_by is (calls_of g p)
lockset_calls_counted is s = lockset_calls_induction s (λ g. (p : ℕ) → event_count is g p ≡ count_by is (calls_of g p)) (λ p. refl)
    (λ g q k begins next ih p. elim (cases_eq q p) [
      | inl same ↦ subst (λ r. event_count is (did g q k) r ≡ count_by is (calls_of (did g q k) r)) same (own g q k next.calls.call (ih q))
      | inr isnt ↦ other g q k p isnt (ih p)
    ])
  where
    own : (g : List Event) (q : ℕ) (k : Kind) → is_fetch k ≡ false → event_count is g q ≡ count_by is (calls_of g q)
        → event_count is (did g q k) q ≡ count_by is (calls_of (did g q k) q)
    own g q k call ih =
        event_count-append is g (event q k ∷ []) q
        ∙ ap₂ (λ (m n : ℕ). m + n) ih (lockset_calls_one_counted is k q)
        ∙ sym (slice_count_by-append is (calls_of g q) (k ∷ []))
        ∙ ap (count_by is) (sym (followed_calls-own g q k call))

    other : (g : List Event) (q : ℕ) (k : Kind) (p : ℕ) → q ≢ p → event_count is g p ≡ count_by is (calls_of g p)
        → event_count is (did g q k) p ≡ count_by is (calls_of (did g q k) p)
    other g q k p isnt ih =
        let sum = event_count-append is g (event q k ∷ []) p in
        let none : event_count is (event q k ∷ []) p ≡ 0 =
        elim (time_of_places_one_event is (event q k) p) [ inl zero_more ↦ zero_more | inr one ↦ absurd (isnt one.0) ] in
        let same : event_count is (did g q k) p ≡ event_count is g p = omega arith in
        same ∙ ih ∙ ap (count_by is) (sym (followed_calls-others g q p k isnt))

pub lockset_calls_departed : (s : Plan) (g : List Event) → IsFlatBeginning s g → (p : ℕ)
    → event_count event_departs g p ≡ lockset_calls_departures (calls_of g p)
lockset_calls_departed = lockset_calls_counted event_departs

-- a call that takes or gives up no lock
lockset_calls_own_holds : (g : List Event) (q l : ℕ) (k : Kind) (held : Bool) → Holds g q l ↔ IsTrue held
    → Holds (did g q k) q l ↔ IsTrue (text_guard_held_after l held k)
lockset_calls_own_holds g q l (kind.Acquire m) held ih = elim (cases_eq m l) [
  | inl is ↦ (
    λ h. cond-true (m == l) true held (eq-eqb m l is),
    λ h. subst (λ n. Holds (did g q (kind.Acquire n)) q l) (sym is) (well_formed_stays_holds_now g q l),
  )
  | inr isnt ↦ (
    λ h. elim (well_formed_stays_holds_cases g (event q (kind.Acquire m)) q l h) [
      | inl old ↦ cond-false (m == l) true held (ne_eqb m l isnt) ∙ ih.0 old.0
      | inr now ↦ (let kinds = ap (λ (e : Event). e.kind) now in absurd (isnt cc))
    ],
    λ h. well_formed_stays_holds_longer g (event q (kind.Acquire m)) q l (λ is. let kinds = ap (λ (e : Event). e.kind) is in absurd cc)
        (ih.1 (sym (cond-false (m == l) true held (ne_eqb m l isnt)) ∙ h)),
  )
]
lockset_calls_own_holds g q l (kind.Release m) held ih = elim (cases_eq m l) [
  | inl is ↦ (
    λ h. elim (well_formed_stays_holds_cases g (event q (kind.Release m)) q l h) [
      | inl old ↦ absurd (old.1 (ap (λ n. event q (kind.Release n)) is))
      | inr now ↦ (let kinds = ap (λ (e : Event). e.kind) now in absurd cc)
    ],
    λ h. absurd (false≢true (sym (cond-true (m == l) false held (eq-eqb m l is)) ∙ h)),
  )
  | inr isnt ↦ (
    λ h. elim (well_formed_stays_holds_cases g (event q (kind.Release m)) q l h) [
      | inl old ↦ cond-false (m == l) false held (ne_eqb m l isnt) ∙ ih.0 old.0
      | inr now ↦ (let kinds = ap (λ (e : Event). e.kind) now in absurd cc)
    ],
    λ h. well_formed_stays_holds_longer g (event q (kind.Release m)) q l (λ is. let kinds = ap (λ (e : Event). e.kind) is in isnt cc)
        (ih.1 (sym (cond-false (m == l) false held (ne_eqb m l isnt)) ∙ h)),
  )
]
lockset_calls_own_holds g q l k held ih = (
  λ h. elim (well_formed_stays_holds_cases g (event q k) q l h) [ inl old ↦ ih.0 old.0 | inr now ↦ (let kinds = ap (λ (e : Event). e.kind) now in absurd cc) ],
  λ h. well_formed_stays_holds_longer g (event q k) q l (λ is. let kinds = ap (λ (e : Event). e.kind) is in absurd cc) (ih.1 h),
)

pub lockset_calls_holding : (s : Plan) (g : List Event) → IsFlatBeginning s g → (p l : ℕ) → Holds g p l ↔ IsTrue (lockset_calls_hold l (calls_of g p))
lockset_calls_holding s = lockset_calls_induction s (λ g. (p l : ℕ) → Holds g p l ↔ IsTrue (lockset_calls_hold l (calls_of g p)))
    (λ p l. ((λ h. absurd (none h)), (λ h. absurd (false≢true h))))
    (λ g q k begins next ih p l. elim (cases_eq q p) [
      | inl is ↦ subst (λ r. Holds (did g q k) r l ↔ IsTrue (lockset_calls_hold l (calls_of (did g q k) r))) is (own g q k l next.calls.call (ih q l))
      | inr isnt ↦ other g q k p l isnt (ih p l)
    ])
  where
    none : {p l : ℕ} → Holds [] p l → ⊥
    none h = let at = h.acquires in absurd cc

    own : (g : List Event) (q : ℕ) (k : Kind) (l : ℕ) → is_fetch k ≡ false → Holds g q l ↔ IsTrue (lockset_calls_hold l (calls_of g q))
        → Holds (did g q k) q l ↔ IsTrue (lockset_calls_hold l (calls_of (did g q k) q))
    own g q k l call ih =
        subst (λ b. Holds (did g q k) q l ↔ IsTrue b)
        (sym (ap (lockset_calls_hold l) (followed_calls-own g q k call) ∙ fold-append (text_guard_held_after l) false (calls_of g q) (k ∷ [])))
        (lockset_calls_own_holds g q l k (lockset_calls_hold l (calls_of g q)) ih)

    other : (g : List Event) (q : ℕ) (k : Kind) (p l : ℕ) → q ≢ p → Holds g p l ↔ IsTrue (lockset_calls_hold l (calls_of g p))
        → Holds (did g q k) p l ↔ IsTrue (lockset_calls_hold l (calls_of (did g q k) p))
    other g q k p l isnt ih =
        subst (λ ks. Holds (did g q k) p l ↔ IsTrue (lockset_calls_hold l ks)) (sym (followed_calls-others g q p k isnt)) (
          λ h. elim (well_formed_stays_holds_cases g (event q k) p l h) [
            | inl old ↦ ih.0 old.0
            | inr now ↦ absurd (isnt (ap (λ (e : Event). e.processor) now))
          ],
          λ h. well_formed_stays_holds_longer g (event q k) p l (λ is. isnt (ap (λ (e : Event). e.processor) is)) (ih.1 h),
        )

-- what a call without its reply does
lockset_calls_replyless_depart : (k : Kind) → event_departs (replyless_script_call k) ≡ event_departs k
lockset_calls_replyless_depart (kind.Load a v) = refl
lockset_calls_replyless_depart _ = refl

lockset_calls_replyless_holds : (l : ℕ) (held : Bool) (k : Kind) → text_guard_held_after l held (replyless_script_call k) ≡ text_guard_held_after l held k
lockset_calls_replyless_holds l held (kind.Load a v) = refl
lockset_calls_replyless_holds l held _ = refl

lockset_calls_address : (k : Kind) → event_address (replyless_script_call k) ≡ event_address k
lockset_calls_address (kind.Load a v) = refl
lockset_calls_address _ = refl

lockset_calls_store : (k : Kind) → event_stores (replyless_script_call k) ≡ event_stores k
lockset_calls_store (kind.Load a v) = refl
lockset_calls_store _ = refl

-- a call does what its step says
lockset_calls_step_departs : (reply : ℕ) (step : ScriptCall) (k : Kind) → FitsScriptCall reply step k → event_departs k ≡ text_guard_step_departs step
lockset_calls_step_departs reply (Call c) k is = sym (lockset_calls_replyless_depart k) ∙ ap event_departs is ∙ lockset_calls_replyless_depart c
lockset_calls_step_departs reply (Adds a v) k is = ap event_departs is

lockset_calls_step_holds : (l reply : ℕ) (held : Bool) (step : ScriptCall) (k : Kind) → FitsScriptCall reply step k
    → text_guard_held_after l held k ≡ text_guard_held_after_step l held step
lockset_calls_step_holds l reply held (Call c) k is = sym (lockset_calls_replyless_holds l held k) ∙ ap (text_guard_held_after l held) is ∙ lockset_calls_replyless_holds l held c
lockset_calls_step_holds l reply held (Adds a v) k is = ap (text_guard_held_after l held) is

pub lockset_calls_step_address : (reply : ℕ) (step : ScriptCall) (k : Kind) → FitsScriptCall reply step k → text_guarded_step_address step ≡ event_address k
lockset_calls_step_address reply (Call c) k is = sym (lockset_calls_address c) ∙ ap event_address (sym is) ∙ lockset_calls_address k
lockset_calls_step_address reply (Adds a v) k is = ap event_address (sym is)

pub lockset_calls_step_store : (reply : ℕ) (step : ScriptCall) (k : Kind) → FitsScriptCall reply step k → text_guarded_step_stores step ≡ event_stores k
lockset_calls_step_store reply (Call c) k is = sym (lockset_calls_store c) ∙ ap event_stores (sym is) ∙ lockset_calls_store k
lockset_calls_step_store reply (Adds a v) k is = ap event_stores (sym is)

-- so the first calls depart as often as the first steps, and hold the same locks
pub lockset_calls_first_depart : (reply : ℕ) (steps : List ScriptCall) (kinds : List Kind) → AreFirstSectionCalls reply steps kinds
    → lockset_calls_departures kinds ≡ text_guard_departures_at steps (length kinds)
lockset_calls_first_depart reply steps [] h = refl
lockset_calls_first_depart reply [] (k ∷ kinds) h = absurd h
lockset_calls_first_depart reply (s ∷ steps) (k ∷ kinds) h =
    let one = lockset_calls_step_departs reply s k h.0 in
    let more = lockset_calls_first_depart (script_call_reply_after reply k) steps kinds h.1 in
    slice_count_by-append event_departs (k ∷ []) kinds
    ∙ ap₂ (λ (m n : ℕ). m + n) (ap (λ b. 0 + cond b 1 0) one) more
    ∙ sym (slice_count_by-append text_guard_step_departs (s ∷ []) (take (length kinds) steps))

pub lockset_calls_first_hold : (l reply : ℕ) (held : Bool) (steps : List ScriptCall) (kinds : List Kind) → AreFirstSectionCalls reply steps kinds
    → fold (text_guard_held_after l) held kinds ≡ fold (text_guard_held_after_step l) held (take (length kinds) steps)
lockset_calls_first_hold l reply held steps [] h = refl
lockset_calls_first_hold l reply held [] (k ∷ kinds) h = absurd h
lockset_calls_first_hold l reply held (s ∷ steps) (k ∷ kinds) h =
    ap (λ b. fold (text_guard_held_after l) b kinds) (lockset_calls_step_holds l reply held s k h.0)
    ∙ lockset_calls_first_hold l (script_call_reply_after reply k) (text_guard_held_after_step l held s) steps kinds h.1
