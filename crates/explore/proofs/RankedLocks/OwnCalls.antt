-- What the calls of a processor tell of it, read off its steps: two beginnings in which it has made as many calls tell the same.
use Rattle.std.proofs.Common.{ℕ, ◌≡◌, ◌+◌, ◌↔◌, inl, inr, Bool, false, cond, IsTrue, List, [], ◌∷◌, Option, Some, count_by, fold, length, map, take, slice_get, refl, sym, ap, ap₂, subst, ◌∙◌}
use Rattle.std.specs.Prelude.{None}
use Rattle.std.specs.Global.{Vec}
use Rattle.std.proofs.lemmas.Bool.{cases_eq}
use Rattle.std.proofs.lemmas.Option.{none-some}
use Rattle.std.proofs.lemmas.List.Sums.{fold-append}
use Rattle.base.proofs.SlicesAndCounts.{slice_count_by-append}
use Rattle.journal.specs.declared.event.Event.{Event}
use Rattle.journal.specs.declared.event.Kind.{Kind}
use Rattle.journal.specs.declared.event.Kind.TheVariants as kind
use Rattle.journal.specs.AwaitedNext.{awaited_next}
use Rattle.journal.specs.DidEvent.{did}
use Rattle.journal.specs.Events.{event_count}
use Rattle.journal.specs.WellFormed.{Holds}
use Rattle.judge.specs.Why.{WhyWaitsFor}
use Rattle.lrc_script.specs.Plan.{Plan}
use Rattle.conformance.specs.Follows.{calls_of}
use Rattle.conformance.proofs.FollowedCalls.{followed_calls-own, followed_calls-others}
use Rattle.explore.specs.declared.prefixes.script_call.ScriptCall.{ScriptCall}
use Rattle.explore.specs.declared.prefixes.script_call.ScriptCall.TheVariants.{Call, Adds}
use Rattle.explore.specs.Machines.{AreLawfulMachineSteps}
use Rattle.explore.specs.Prefixes.FlatBeginnings.{IsFlatBeginning}
use Rattle.explore.specs.Prefixes.ScriptCalls.{FitsScriptCall, replyless_script_call, script_call_reply_after, script_calls_shown_by}
use Rattle.explore.specs.TextGuards.{text_guard_held_at}
use Rattle.explore.proofs.Asked.{asked_waits_own, asked_waits_others}
use Rattle.explore.proofs.MachineSteps.{machine_step_row}
use Rattle.explore.proofs.Locksets.Calls.{lockset_calls_counted, lockset_calls_first_hold, lockset_calls_holding, lockset_calls_induction}
use Rattle.explore.proofs.PrefixRuns.SectionCalls.{AreFirstSectionCalls, section_calls_are_first}

-- a call without the word that it loads or stores
abbrev pub wordless_call : Kind → Kind
wordless_call (kind.Load a v) = kind.Load a 0
wordless_call (kind.Store a v) = kind.Store a 0
wordless_call k = k

-- and the call of a step
abbrev pub wordless_step : ScriptCall → Kind
wordless_step (Call k) = wordless_call k
wordless_step (Adds a v) = kind.Store a 0

wordless_of_replyless : (k : Kind) → wordless_call (replyless_script_call k) ≡ wordless_call k
wordless_of_replyless (kind.Load a v) = refl
wordless_of_replyless _ = refl

-- a call is its step's, but for the word
pub own_call_fits : (reply : ℕ) (step : ScriptCall) (k : Kind) → FitsScriptCall reply step k → wordless_call k ≡ wordless_step step
own_call_fits reply (Call c) k is = sym (wordless_of_replyless k) ∙ ap wordless_call is ∙ wordless_of_replyless c
own_call_fits reply (Adds a v) k is = ap wordless_call is

-- so are all of them
own_calls_first : (reply : ℕ) (steps : List ScriptCall) (kinds : List Kind) → AreFirstSectionCalls reply steps kinds
    → map wordless_call kinds ≡ take (length kinds) (map wordless_step steps)
own_calls_first reply steps [] h = refl
own_calls_first reply [] (k ∷ kinds) h = absurd h
own_calls_first reply (s ∷ steps) (k ∷ kinds) h =
    ap₂ (λ x xs. x ∷ xs) (own_call_fits reply s k h.0) (own_calls_first (script_call_reply_after reply k) steps kinds h.1)

-- what takes no notice of words is the same without them
own_calls_fold : {A : Type 0} (f : A → Kind → A) → ((x : A) (k : Kind) → f x (wordless_call k) ≡ f x k) → (a : A) (kinds : List Kind)
    → fold f a kinds ≡ fold f a (map wordless_call kinds)
own_calls_fold f same a [] = refl
own_calls_fold f same a (k ∷ kinds) =
    own_calls_fold f same (f a k) kinds ∙ ap (λ x. fold f x (map wordless_call kinds)) (sym (same a k))

own_calls_count : (is : Kind → Bool) → ((k : Kind) → is (wordless_call k) ≡ is k) → (kinds : List Kind)
    → count_by is kinds ≡ count_by is (map wordless_call kinds)
own_calls_count is same [] = refl
own_calls_count is same (k ∷ kinds) =
    slice_count_by-append is (k ∷ []) kinds
    ∙ ap₂ (λ (m n : ℕ). m + n) (ap (λ b. 0 + cond b 1 0) (sym (same k))) (own_calls_count is same kinds)
    ∙ sym (slice_count_by-append is (wordless_call k ∷ []) (map wordless_call kinds))

-- what is awaited after a call
abbrev pub own_awaited_after : Option Kind → Kind → Option Kind
own_awaited_after o k = awaited_next k

-- after the first n of a row of steps
abbrev pub own_awaited_at : List ScriptCall → ℕ → Option Kind
own_awaited_at row n = fold own_awaited_after None (take n (map wordless_step row))

own_awaited_wordless : (o : Option Kind) (k : Kind) → own_awaited_after o (wordless_call k) ≡ own_awaited_after o k
own_awaited_wordless o (kind.Load a v) = refl
own_awaited_wordless o (kind.Store a v) = refl
own_awaited_wordless o _ = refl

-- what a processor waits for is what its last call says
own_calls_await : (s : Plan) (g : List Event) → IsFlatBeginning s g → (p : ℕ) (b : Kind)
    → (fold own_awaited_after None (calls_of g p) ≡ Some b) ↔ WhyWaitsFor g p b
own_calls_await s =
    lockset_calls_induction s (λ g. (p : ℕ) (b : Kind) → (fold own_awaited_after None (calls_of g p) ≡ Some b) ↔ WhyWaitsFor g p b)
    (λ p b. ((λ is. absurd (none-some b is)), (λ w. absurd (none-some _ w.last.does))))
    (λ g q k begins next ih p b. elim (cases_eq q p) [
      | inl is ↦ subst (λ r. (fold own_awaited_after None (calls_of (did g q k) r) ≡ Some b) ↔ WhyWaitsFor (did g q k) r b) is
          (subst (λ o. (o ≡ Some b) ↔ WhyWaitsFor (did g q k) q b)
          (sym (ap (fold own_awaited_after None) (followed_calls-own g q k next.calls.call) ∙ fold-append own_awaited_after None (calls_of g q) (k ∷ [])))
          (asked_waits_own g q k b))
      | inr isnt ↦
          (let others = asked_waits_others g q p k b isnt in
          subst (λ ks. (fold own_awaited_after None ks ≡ Some b) ↔ WhyWaitsFor (did g q k) p b) (sym (followed_calls-others g q p k isnt))
          ((λ is. others.0 ((ih p b).0 is)), (λ w. (ih p b).1 (others.1 w))))
    ])

module _ (s : Plan) (rows : List (Vec ScriptCall)) (steps : AreLawfulMachineSteps s rows) (g : List Event) (begins : IsFlatBeginning s g)
    (p : ℕ) (row : Vec ScriptCall) (at : slice_get rows p ≡ Some row) where
  -- the calls so far are the row's first
  pub own_calls_begin : AreFirstSectionCalls 0 row.items (calls_of g p)
  own_calls_begin =
      let of = machine_step_row s rows p row steps.are at in
      subst (λ x. AreFirstSectionCalls 0 x (calls_of g p)) (sym of.are)
      ((section_calls_are_first of.section (script_calls_shown_by s p) (calls_of g p)).0 (begins.begins p of.section of.at))

  own_calls_wordless : map wordless_call (calls_of g p) ≡ take (length (calls_of g p)) (map wordless_step row.items)
  own_calls_wordless = own_calls_first 0 row.items (calls_of g p) own_calls_begin

  -- so the row tells which locks its processor holds
  pub own_calls_hold : (l : ℕ) → Holds g p l ↔ IsTrue (text_guard_held_at row.items (length (calls_of g p)) l)
  own_calls_hold l =
      let holds = lockset_calls_holding s g begins p l in
      let same = lockset_calls_first_hold l 0 false row.items (calls_of g p) own_calls_begin in
      subst (λ b. Holds g p l ↔ IsTrue b) same holds

  -- what it waits for
  pub own_calls_wait : (b : Kind) → (own_awaited_at row.items (length (calls_of g p)) ≡ Some b) ↔ WhyWaitsFor g p b
  own_calls_wait b =
      let same = own_calls_fold own_awaited_after own_awaited_wordless None (calls_of g p) ∙ ap (fold own_awaited_after None) own_calls_wordless in
      subst (λ o. (o ≡ Some b) ↔ WhyWaitsFor g p b) same (own_calls_await s g begins p b)

  -- and how many of its calls are such ones
  pub own_calls_such : (is : Kind → Bool) → ((k : Kind) → is (wordless_call k) ≡ is k)
      → event_count is g p ≡ count_by is (take (length (calls_of g p)) (map wordless_step row.items))
  own_calls_such is same =
      lockset_calls_counted is s g begins p ∙ own_calls_count is same (calls_of g p) ∙ ap (count_by is) own_calls_wordless
