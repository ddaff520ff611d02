-- Whoever has found a flag set comes after one of its sets. So what stands before all sets of a flag, in the text, was made
-- before what stands behind an await of it.
use Rattle.std.proofs.Common.{ℕ, zero, suc, ◌≡◌, ◌<◌, ◌≤◌, inl, inr, false, List, [], ◌∷◌, ◌++◌, length, Some, slice_get, sym, ap, subst, ◌∙◌, arith}
use Rattle.std.specs.Global.{Vec}
use Rattle.std.proofs.lemmas.Bool.{cases_eq}
use Rattle.std.proofs.lemmas.Option.{none-some, same_Some, slice_get_within}
use Rattle.base.proofs.SlicesAndCounts.{slice_get-append_left, slice_get-last, slice_push_cases}
use Rattle.journal.specs.declared.event.Event.{Event}
use Rattle.journal.specs.declared.event.Kind.{Kind}
use Rattle.journal.specs.declared.event.Kind.TheVariants as kind
use Rattle.journal.specs.DidEvent.{did, event}
use Rattle.journal.specs.WellFormed.{Does}
use Rattle.lrc_script.specs.Plan.{Plan}
use Rattle.conformance.specs.Follows.{calls_of, is_fetch}
use Rattle.conformance.proofs.FollowedCalls.{followed_calls-own, followed_calls-others}
use Rattle.explore.specs.declared.prefixes.script_call.ScriptCall.{ScriptCall}
use Rattle.explore.specs.declared.prefixes.script_call.ScriptCall.TheVariants.{Call, Adds}
use Rattle.explore.specs.Machines.{AreLawfulMachineSteps}
use Rattle.explore.specs.TextGuards.{ComesBeforeByText, IsTextCallAt}
use Rattle.explore.specs.TextGuards.ComesBeforeByText.{own, awaited}
use Rattle.explore.specs.Prefixes.FlatBeginnings.{IsFlatBeginning}
use Rattle.explore.specs.Prefixes.ScriptCalls.{FitsScriptCall, script_call_reply_after}
use Rattle.explore.specs.Prefixes.PrefixLaws.{PrefixCanGoOn}
use Rattle.explore.proofs.MachineSteps.{machine_step_some_at}
use Rattle.explore.proofs.Locksets.Calls.{lockset_calls_induction}
use Rattle.explore.proofs.PrefixRuns.SectionCalls.{AreFirstSectionCalls}
use Rattle.explore.proofs.RankedLocks.OwnCalls.{own_calls_begin}

-- a processor of the script has made this call
record HasMadeCall (s : Plan) (g : List Event) (c : Kind) : Type 0 where
  processor : ℕ
  within : processor < s.processors
  place : ℕ
  at : slice_get (calls_of g processor) place ≡ Some c

-- a call that was made stays
flags_first_call_stays : (g : List Event) (p : ℕ) (k : Kind) → is_fetch k ≡ false → (r m : ℕ) (c : Kind) → slice_get (calls_of g r) m ≡ Some c
    → slice_get (calls_of (did g p k) r) m ≡ Some c
flags_first_call_stays g p k call r m c at = elim (cases_eq p r) [
  | inl is ↦
      (let within = slice_get_within (calls_of g r) m c at in
      let mine = subst (λ q. calls_of (did g p k) q ≡ calls_of g q ++ k ∷ []) is (followed_calls-own g p k call) in
      ap (λ ks. slice_get ks m) mine ∙ slice_get-append_left (calls_of g r) (k ∷ []) m within ∙ at)
  | inr isnt ↦ ap (λ ks. slice_get ks m) (followed_calls-others g p r k isnt) ∙ at
]

flags_first_made_stays : (s : Plan) (g : List Event) (p : ℕ) (k : Kind) → is_fetch k ≡ false → (c : Kind) → HasMadeCall s g c → HasMadeCall s (did g p k) c
flags_first_made_stays s g p k call c made = record {
  processor = made.processor;
  within = made.within;
  place = made.place;
  at = flags_first_call_stays g p k call made.processor made.place c made.at;
}

-- an event that is no fetch is a call of its processor
flags_first_events_are_calls : (s : Plan) (g : List Event) → IsFlatBeginning s g → (i r : ℕ) (c : Kind) → Does g i r c → HasMadeCall s g c
flags_first_events_are_calls s = lockset_calls_induction s (λ g. (i r : ℕ) (c : Kind) → Does g i r c → HasMadeCall s g c)
    (λ i r c at. absurd (none-some (event r c) at)) step
  where
    step : (g : List Event) (p : ℕ) (k : Kind) → IsFlatBeginning s g → PrefixCanGoOn s g p k
        → ((i r : ℕ) (c : Kind) → Does g i r c → HasMadeCall s g c) → (i r : ℕ) (c : Kind) → Does (did g p k) i r c → HasMadeCall s (did g p k) c
    step g p k begins next ih i r c at = elim (slice_push_cases g (event p k) i (event r c) at) [
      | inl old ↦ flags_first_made_stays s g p k next.calls.call c (ih i r c old.1)
      | inr now ↦
          (let same = ap (λ (e : Event). e.kind) now.1 in
          let made : HasMadeCall s (did g p k) k = record {
            processor = p;
            within = next.may_follow.processor;
            place = length (calls_of g p);
            at = ap (λ ks. slice_get ks (length (calls_of g p))) (followed_calls-own g p k next.calls.call) ∙ slice_get-last (calls_of g p) k;
          } in
          subst (HasMadeCall s (did g p k)) same made)
    ]

-- a flag that was found set had been set
flags_first_set : (s : Plan) (g : List Event) → IsFlatBeginning s g → (q j f : ℕ) → slice_get (calls_of g q) j ≡ Some (kind.Await f) → HasMadeCall s g (kind.Set f)
flags_first_set s = lockset_calls_induction s (λ g. (q j f : ℕ) → slice_get (calls_of g q) j ≡ Some (kind.Await f) → HasMadeCall s g (kind.Set f))
    (λ q j f at. absurd (none-some (kind.Await f) at)) step
  where
    now : (g : List Event) (p : ℕ) (k : Kind) → IsFlatBeginning s g → PrefixCanGoOn s g p k → (f : ℕ) → k ≡ kind.Await f → HasMadeCall s g (kind.Set f)
    now g p k begins next f is =
        let allowed = (subst (λ c. PrefixCanGoOn s g p c) is next).may_follow.allowed in
        flags_first_events_are_calls s g begins allowed.1 allowed.2 (kind.Set f) allowed.4

    step : (g : List Event) (p : ℕ) (k : Kind) → IsFlatBeginning s g → PrefixCanGoOn s g p k
        → ((q j f : ℕ) → slice_get (calls_of g q) j ≡ Some (kind.Await f) → HasMadeCall s g (kind.Set f))
        → (q j f : ℕ) → slice_get (calls_of (did g p k) q) j ≡ Some (kind.Await f) → HasMadeCall s (did g p k) (kind.Set f)
    step g p k begins next ih q j f at = elim (cases_eq p q) [
      | inl is ↦
          (let mine = subst (λ r. calls_of (did g p k) r ≡ calls_of g r ++ k ∷ []) is (followed_calls-own g p k next.calls.call) in
          elim (slice_push_cases (calls_of g q) k j (kind.Await f) (sym (ap (λ ks. slice_get ks j) mine) ∙ at)) [
            | inl old ↦ flags_first_made_stays s g p k next.calls.call (kind.Set f) (ih q j f old.1)
            | inr new ↦ flags_first_made_stays s g p k next.calls.call (kind.Set f) (now g p k begins next f new.1)
          ])
      | inr isnt ↦
          flags_first_made_stays s g p k next.calls.call (kind.Set f)
          (ih q j f (sym (ap (λ ks. slice_get ks j) (followed_calls-others g p q k isnt)) ∙ at))
    ]

-- a call and its step say the same of flags
flags_first_await_fits : (reply f : ℕ) (k : Kind) → FitsScriptCall reply (Call (kind.Await f)) k → k ≡ kind.Await f
flags_first_await_fits reply f (kind.Load a v) is = absurd cc
flags_first_await_fits reply f _ is = is

flags_first_set_fits : (reply f : ℕ) (step : ScriptCall) → FitsScriptCall reply step (kind.Set f) → step ≡ Call (kind.Set f)
flags_first_set_fits reply f (Call (kind.Load a v)) is = absurd cc
flags_first_set_fits reply f (Call _) is = ap Call (sym is)
flags_first_set_fits reply f (Adds a v) is = absurd cc

-- the call of an await that was made
flags_first_await_called : (reply : ℕ) (steps : List ScriptCall) (kinds : List Kind) (j f : ℕ) → AreFirstSectionCalls reply steps kinds
    → j < length kinds → slice_get steps j ≡ Some (Call (kind.Await f)) → slice_get kinds j ≡ Some (kind.Await f)
flags_first_await_called reply steps [] j f first lt at = absurd (omega arith)
flags_first_await_called reply [] (k ∷ kinds) j f first lt at = absurd first
flags_first_await_called reply (s ∷ steps) (k ∷ kinds) zero f first lt at =
    ap Some (flags_first_await_fits reply f k (subst (λ x. FitsScriptCall reply x k) (same_Some s (Call (kind.Await f)) at) first.0))
flags_first_await_called reply (s ∷ steps) (k ∷ kinds) (suc j) f first lt at =
    flags_first_await_called (script_call_reply_after reply k) steps kinds j f first.1 (omega arith) at

-- the step of a set that was made
flags_first_set_step : (reply : ℕ) (steps : List ScriptCall) (kinds : List Kind) (m f : ℕ) → AreFirstSectionCalls reply steps kinds
    → slice_get kinds m ≡ Some (kind.Set f) → slice_get steps m ≡ Some (Call (kind.Set f))
flags_first_set_step reply steps [] m f first at = absurd (none-some (kind.Set f) at)
flags_first_set_step reply [] (k ∷ kinds) m f first at = absurd first
flags_first_set_step reply (s ∷ steps) (k ∷ kinds) zero f first at =
    ap Some (flags_first_set_fits reply f s (subst (FitsScriptCall reply s) (same_Some k (kind.Set f) at) first.0))
flags_first_set_step reply (s ∷ steps) (k ∷ kinds) (suc m) f first at =
    flags_first_set_step (script_call_reply_after reply k) steps kinds m f first.1 at

module _ (s : Plan) (rows : List (Vec ScriptCall)) (steps : AreLawfulMachineSteps s rows) (g : List Event) (begins : IsFlatBeginning s g) where
  -- some set of a flag that was awaited, in the text
  flags_first_set_in_text : (q j f : ℕ) → IsTextCallAt rows q j (kind.Await f) → j < length (calls_of g q)
      → (r : ℕ) × (m : ℕ) × IsTextCallAt rows r m (kind.Set f) × (m < length (calls_of g r))
  flags_first_set_in_text q j f await lt =
      let called = flags_first_await_called 0 await.row.items (calls_of g q) j f (own_calls_begin s rows steps g begins q await.row await.row_at) lt await.at in
      let made = flags_first_set s g begins q j f called in
      let one = steps.lawful.but_uneven.one_each in
      let long = steps.are.long in
      let within = made.within in
      let row = machine_step_some_at rows made.processor (omega arith) in
      let step = flags_first_set_step 0 row.0.items (calls_of g made.processor) made.place f
      (own_calls_begin s rows steps g begins made.processor row.0 row.1) made.at in
      (made.processor, made.place, record { row = row.0; row_at = row.1; at = step }, slice_get_within (calls_of g made.processor) made.place (kind.Set f) made.at)

  -- what comes before by the text was made before
  pub flags_first_made : (p i : ℕ) {q k : ℕ} → ComesBeforeByText rows p i q k → k ≤ length (calls_of g q) → i < length (calls_of g p)
  flags_first_made p i (own lt) done = omega arith
  flags_first_made p i (awaited {q} {k} j f lt await sets) done =
      let set = flags_first_set_in_text q j f await (omega arith) in
      let made = set.3 in
      flags_first_made p i (sets set.0 set.1 set.2) (omega arith)
