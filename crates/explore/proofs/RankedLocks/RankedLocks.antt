-- If locks are ranked, a run gets stuck only where the barrier or a flag alone would stop it. By the barrier and flags no run
-- gets further than another one: so if one comes to its end, each does.
use Rattle.std.proofs.Common.{ℕ, zero, suc, ◌≡◌, ◌≢◌, ◌+◌, ◌<◌, ◌≤◌, ◌↔◌, inl, inr, Bool, false, IsTrue, List, [], ◌∷◌, Option, Some, count_by, fold, length, map, take, replicate, get_or, slice_get, refl, sym, ap, subst, ◌∙◌, le_refl, length-append, arith}
use Rattle.std.specs.Prelude.{None, ◌%◌, ◌^◌, ◌==◌}
use Rattle.std.specs.Global.{Vec}
use Rattle.std.proofs.lemmas.Bool.{cases_eq, cases_lt, eq-eqb, eqb-true, false≢true}
use Rattle.std.proofs.lemmas.Option.{none-some, same_Some, slice_get-get_or, slice_get_within}
use Rattle.std.proofs.lemmas.List.{length-map, length-replicate, map-append, take_all}
use Rattle.std.proofs.lemmas.List.Sums.{fold-append}
use Rattle.base.proofs.LastWritten.{length-written}
use Rattle.base.proofs.SlicesAndCounts.{slice_count_by-mono}
use Rattle.journal.specs.declared.event.Event.{Event}
use Rattle.journal.specs.declared.event.Kind.{Kind}
use Rattle.journal.specs.declared.event.Kind.TheVariants as kind
use Rattle.journal.specs.AwaitedNext.{awaited_next}
use Rattle.journal.specs.DidEvent.{did, event}
use Rattle.journal.specs.Events.{event_arrives, event_count, event_departs, event_takes}
use Rattle.journal.specs.ReplayMemory.{AnswersReplayMemory, replay_memory_write, memory_after}
use Rattle.journal.specs.Sizes.{Sizes}
use Rattle.journal.specs.WellFormed.{Does, Holds, LastIs, WellFormedAllows, WellFormedAnswer, WellFormedGrant, WellFormedKindInRange}
use Rattle.journal.proofs.Journals.MayGoOn.{may_go_on_awaited_answers, may_go_on_idle_answers}
use Rattle.journal.proofs.Order.EventPlacesAndCounts.{event_count-inside, event_place_numbered}
use Rattle.judge.specs.Why.{WhyWaitsFor}
use Rattle.judge.proofs.Verdicts.{verdict_waits_takes}
use Rattle.lrc_script.specs.declared.script.Instruction.{Instruction}
use Rattle.lrc_script.specs.Plan.{Plan}
use Rattle.lrc_script.specs.Lawful.{plan_addresses}
use Rattle.conformance.specs.Follows.{Follows, calls_of, plan_sizes}
use Rattle.conformance.proofs.FollowedCalls.{followed_calls-own, followed_calls-others}
use Rattle.explore.specs.declared.prefixes.script_call.ScriptCall.{ScriptCall}
use Rattle.explore.specs.declared.prefixes.script_call.ScriptCall.TheVariants.{Call, Adds}
use Rattle.explore.specs.LockRanks.{AreRowsLockRanked, RankedLocksLaw}
use Rattle.explore.specs.Machines.{AreLawfulMachineSteps, MachineReadsWithin}
use Rattle.explore.specs.Prefixes.FlatBeginnings.{IsFlatBeginning, IsFlatBeginningWhole}
use Rattle.explore.specs.Prefixes.PrefixLaws.{PrefixCanGoOn}
use Rattle.explore.specs.Prefixes.ScriptCalls.{FitsScriptCall, IsScriptCallNext, last_reply_of_script_calls, script_call_loads, script_call_reply_after, script_calls_of_all, script_calls_of_section, script_calls_shown_by}
use Rattle.explore.specs.TextGuards.{text_guard_held_at}
use Rattle.explore.proofs.Asked.{waits_asks}
use Rattle.explore.proofs.Enabled.{enabled_depart_awaited, enabled_await_awaited, enabled_only_awaited, enabled_taking_is_awaited}
use Rattle.explore.proofs.MachineSteps.{machine_step_no_fetch, machine_step_range, machine_step_row, machine_step_row_proper, machine_step_rows_many, machine_step_some_at, machine_step_word}
use Rattle.explore.proofs.RankedLocks.OwnCalls.{own_awaited_after, own_awaited_at, own_call_fits, own_calls_begin, own_calls_hold, own_calls_such, own_calls_wait, wordless_call, wordless_step}
use Rattle.explore.proofs.Locksets.Calls.{lockset_calls_induction}
use Rattle.explore.proofs.PrefixRuns.Beginnings.{prefix_beginning_next, prefix_beginning_whole_done}
use Rattle.explore.proofs.PrefixRuns.SectionCalls.{AreFirstSectionCalls}

-- q, after as many calls as in g, does this next in some beginning
record HasNextCall (s : Plan) (g : List Event) (q : ℕ) : Type 0 where
  shorter : List Event
  call : Kind
  begins : IsFlatBeginning s shorter
  next : PrefixCanGoOn s shorter q call
  same : length (calls_of shorter q) ≡ length (calls_of g q)

-- one that has more calls of q has a beginning with just as many
ranked_next_call : (s : Plan) (q n : ℕ) (w : List Event) → IsFlatBeginning s w → n < length (calls_of w q)
    → (x : List Event) × (k : Kind) × IsFlatBeginning s x × PrefixCanGoOn s x q k × (length (calls_of x q) ≡ n)
ranked_next_call s q n =
    lockset_calls_induction s
    (λ w. n < length (calls_of w q)
    → (x : List Event) × (k : Kind) × IsFlatBeginning s x × PrefixCanGoOn s x q k × (length (calls_of x q) ≡ n))
    (λ lt. absurd (omega (arith, lt)))
    (λ w r k begins next ih lt. elim (cases_eq r q) [
      | inl is ↦
          (let mine = ap (λ (ks : List Kind). length ks) (followed_calls-own w q k next.calls.call) in
          let one = length-append (calls_of w q) (k ∷ []) in
          let more : n < length (calls_of (did w q k) q) = subst (λ z. n < length (calls_of (did w z k) q)) is lt in
          elim (cases_lt n (length (calls_of w q))) [
            | inl before ↦ ih before
            | inr after ↦ (w, k, begins, subst (λ z. PrefixCanGoOn s w z k) is next, omega arith)
          ])
      | inr isnt ↦ ih (subst (λ (ks : List Kind). n < length ks) (followed_calls-others w r q k isnt) lt)
    ])

-- what takes no notice of words
ranked_range_wordless : (s : Sizes) (k : Kind) → WellFormedKindInRange s k ↔ WellFormedKindInRange s (wordless_call k)
ranked_range_wordless s (kind.Load a v) = ((λ h. h), (λ h. h))
ranked_range_wordless s (kind.Store a v) = ((λ h. h), (λ h. h))
ranked_range_wordless s _ = ((λ h. h), (λ h. h))

ranked_allows_wordless : (s : Sizes) (j : List Event) (p : ℕ) (k : Kind) → WellFormedAllows s j p k ↔ WellFormedAllows s j p (wordless_call k)
ranked_allows_wordless s j p (kind.Load a v) = ((λ h. h), (λ h. h))
ranked_allows_wordless s j p (kind.Store a v) = ((λ h. h), (λ h. h))
ranked_allows_wordless s j p _ = ((λ h. h), (λ h. h))

ranked_arrives_wordless : (k : Kind) → event_arrives (wordless_call k) ≡ event_arrives k
ranked_arrives_wordless (kind.Load a v) = refl
ranked_arrives_wordless (kind.Store a v) = refl
ranked_arrives_wordless _ = refl

ranked_departs_wordless : (k : Kind) → event_departs (wordless_call k) ≡ event_departs k
ranked_departs_wordless (kind.Load a v) = refl
ranked_departs_wordless (kind.Store a v) = refl
ranked_departs_wordless _ = refl

-- whether the call sets f
abbrev ranked_sets : ℕ → Kind → Bool
ranked_sets f (kind.Set g) = g == f
ranked_sets f _ = false

ranked_sets_wordless : (f : ℕ) (k : Kind) → ranked_sets f (wordless_call k) ≡ ranked_sets f k
ranked_sets_wordless f (kind.Load a v) = refl
ranked_sets_wordless f (kind.Store a v) = refl
ranked_sets_wordless f _ = refl

ranked_sets_is : (f : ℕ) (k : Kind) → IsTrue (ranked_sets f k) → k ≡ kind.Set f
ranked_sets_is f (kind.Set g) h = ap kind.Set (eqb-true g f h)
ranked_sets_is f _ h = absurd (false≢true h)

ranked_takes_wordless : (k : Kind) → event_takes (wordless_call k) ≡ event_takes k
ranked_takes_wordless (kind.Load a v) = refl
ranked_takes_wordless (kind.Store a v) = refl
ranked_takes_wordless _ = refl

-- what takes has no word
ranked_taking_exact : (k : Kind) → IsTrue (event_takes k) → wordless_call k ≡ k
ranked_taking_exact (kind.Load a v) takes = absurd (false≢true takes)
ranked_taking_exact (kind.Store a v) takes = absurd (false≢true takes)
ranked_taking_exact _ takes = refl

ranked_takes_same : (b c : Kind) → IsTrue (event_takes b) → wordless_call c ≡ wordless_call b → c ≡ b
ranked_takes_same b c takes same =
    let also = sym (ranked_takes_wordless c) ∙ ap event_takes same ∙ ranked_takes_wordless b ∙ takes in
    sym (ranked_taking_exact c also) ∙ same ∙ ranked_taking_exact b takes

-- a step says a call, and with the memory's word it may answer
ranked_call_of_step : (reply : ℕ) (memory : List ℕ) (x : ScriptCall) → MachineReadsWithin (length memory) x
    → (c : Kind) × FitsScriptCall reply x c × AnswersReplayMemory memory c
ranked_call_of_step reply memory (Call (kind.Load a v)) within =
    (kind.Load a (get_or memory a 0), refl, slice_get-get_or memory a 0 within)
ranked_call_of_step reply memory (Call k) within = (k, refl, tt)
ranked_call_of_step reply memory (Adds a v) within = (kind.Store a ((reply + v) % 2 ^ 32), refl, tt)

-- an answer to what is awaited, or to nothing
ranked_answers : (o : Option Kind) (a c : Kind) → awaited_next a ≡ o → ((b : Kind) → o ≡ Some b → c ≡ b) → WellFormedAnswer a c
ranked_answers None a c is same = may_go_on_idle_answers a c is
ranked_answers (Some b) a c is same = may_go_on_awaited_answers a c (is ∙ ap Some (sym (same b refl)))

-- after the loads of shown words nothing is awaited, if nothing was before
ranked_loads_await : (shown : List ℕ) → fold own_awaited_after None (map wordless_step (script_call_loads shown)) ≡ None
ranked_loads_await [] = refl
ranked_loads_await (a ∷ shown) = ranked_loads_await shown

ranked_row_awaits_nothing : (section : List Instruction) (shown : List ℕ) (n : ℕ) (row : List ScriptCall)
    → row ≡ script_calls_of_section section shown → n ≡ length row → own_awaited_at row n ≡ None
ranked_row_awaits_nothing section shown n row are all =
    ap (fold own_awaited_after None) (ap (λ m. take m (map wordless_step row)) (all ∙ sym (length-map row wordless_step)) ∙ take_all (length (map wordless_step row)) (map wordless_step row) (le_refl (length (map wordless_step row))))
    ∙ ap (λ xs. fold own_awaited_after None (map wordless_step xs)) are
    ∙ ap (fold own_awaited_after None) (map-append wordless_step (script_calls_of_all section) (Call kind.Arrive ∷ Call kind.Depart ∷ script_call_loads shown))
    ∙ fold-append own_awaited_after None (map wordless_step (script_calls_of_all section)) (kind.Arrive ∷ kind.Depart ∷ map wordless_step (script_call_loads shown))
    ∙ ranked_loads_await shown

ranked_step_exact : (reply : ℕ) (x : ScriptCall) (k : Kind) → IsTrue (event_takes k) → FitsScriptCall reply x k → x ≡ Call k
ranked_step_exact reply (Call c) k takes is =
    let same = own_call_fits reply (Call c) k is in
    ap Call (ranked_takes_same k c takes (sym same))
ranked_step_exact reply (Adds a v) k takes is = absurd (false≢true (sym (ap event_takes is) ∙ takes))

-- first calls are no more than the steps
ranked_first_within : (reply : ℕ) (steps : List ScriptCall) (kinds : List Kind) → AreFirstSectionCalls reply steps kinds
    → length kinds ≤ length steps
ranked_first_within reply steps [] h = omega arith
ranked_first_within reply [] (k ∷ kinds) h = absurd h
ranked_first_within reply (x ∷ steps) (k ∷ kinds) h =
    let rest = ranked_first_within (script_call_reply_after reply k) steps kinds h.1 in omega (arith, rest)

module _ (s : Plan) (rows : List (Vec ScriptCall)) (rank : ℕ → ℕ) (w : List Event) (steps : AreLawfulMachineSteps s rows)
    (ranked : AreRowsLockRanked rank rows) (whole : IsFlatBeginningWhole s w) (g : List Event) (begins : IsFlatBeginning s g)
    (stuck : (p : ℕ) (k : Kind) → ¬ IsFlatBeginning s (did g p k)) where
  ranked_row_of : (q : ℕ) → q < s.processors → (row : Vec ScriptCall) × (slice_get rows q ≡ Some row)
  ranked_row_of q within = let many = machine_step_rows_many s rows steps in machine_step_some_at rows q (omega arith)

  -- in the whole run all steps are done
  ranked_all_called : (q : ℕ) (row : Vec ScriptCall) → slice_get rows q ≡ Some row → length (calls_of w q) ≡ length row.items
  ranked_all_called q row at =
      let of = machine_step_row s rows q row steps.are at in
      let done = (prefix_beginning_whole_done s w whole.beginning).0 whole.follows q of.section of.at in
      done ∙ ap (λ (xs : List ScriptCall). length xs) (sym of.are)

  -- g has no more of them
  ranked_within_row : (q : ℕ) (row : Vec ScriptCall) → slice_get rows q ≡ Some row → length (calls_of g q) ≤ length row.items
  ranked_within_row q row at = ranked_first_within 0 row.items (calls_of g q) (own_calls_begin s rows steps g begins q row at)

  -- so who isn't done has a next call
  ranked_next : (q : ℕ) (row : Vec ScriptCall) → slice_get rows q ≡ Some row → length (calls_of g q) ≢ length row.items → HasNextCall s g q
  ranked_next q row at isnt =
      let within = ranked_within_row q row at in
      let all = ranked_all_called q row at in
      let found = ranked_next_call s q (length (calls_of g q)) w whole.beginning (omega arith) in
      record { shorter = found.0; call = found.1; begins = found.2; next = found.3; same = found.4 }

  -- q's next call waits in g for what it waits for there
  module _ (q : ℕ) (row : Vec ScriptCall) (at : slice_get rows q ≡ Some row) (n : HasNextCall s g q) where
    ranked_waits : (b : Kind) → WhyWaitsFor n.shorter q b ↔ WhyWaitsFor g q b
    ranked_waits b =
        let there = own_calls_wait s rows steps n.shorter n.begins q row at b in
        let here = own_calls_wait s rows steps g begins q row at b in
        let same = ap (own_awaited_at row.items) n.same in (
          λ x. here.0 (sym same ∙ there.1 x),
          λ x. there.0 (same ∙ here.1 x),
        )

    ranked_holds : (l : ℕ) → Holds n.shorter q l ↔ Holds g q l
    ranked_holds l =
        let there = own_calls_hold s rows steps n.shorter n.begins q row at l in
        let here = own_calls_hold s rows steps g begins q row at l in
        let same = ap (λ m. text_guard_held_at row.items m l) n.same in (
          λ x. here.1 (sym same ∙ there.0 x),
          λ x. there.1 (same ∙ here.0 x),
        )

    ranked_such : (is : Kind → Bool) → ((k : Kind) → is (wordless_call k) ≡ is k) → event_count is n.shorter q ≡ event_count is g q
    ranked_such is wordless =
        own_calls_such s rows steps n.shorter n.begins q row at is wordless
        ∙ ap (λ m. count_by is (take m (map wordless_step row.items))) n.same
        ∙ sym (own_calls_such s rows steps g begins q row at is wordless)

    -- the step that says it
    ranked_says : IsScriptCallNext row.items (calls_of n.shorter q) n.call
    ranked_says =
        let of = machine_step_row s rows q row steps.are at in
        subst (λ xs. IsScriptCallNext xs (calls_of n.shorter q) n.call) (sym of.are) (n.next.calls.next of.section of.at)

    ranked_step_at : slice_get row.items (length (calls_of g q)) ≡ Some ranked_says.step
    ranked_step_at = subst (λ m. slice_get row.items m ≡ Some ranked_says.step) n.same ranked_says.at

    -- and it isn't allowed in g, where nothing may come next
    ranked_blocked : ¬ WellFormedAllows (plan_sizes s) g q n.call
    ranked_blocked allowed =
        let of = machine_step_row s rows q row steps.are at in
        let memory = memory_after (replicate (plan_addresses s) 0) g in
        let long = length-written (λ (e : Event). replay_memory_write e.kind) (replicate (plan_addresses s) 0) g
        ∙ length-replicate (plan_addresses s) 0 in
        let proper = machine_step_row_proper s q row (length (calls_of g q)) ranked_says.step steps.lawful of ranked_step_at in
        let reply = last_reply_of_script_calls (calls_of g q) in
        let call = ranked_call_of_step reply memory ranked_says.step (machine_step_word s ranked_says.step (length memory) long proper) in
        let alike = own_call_fits reply ranked_says.step call.0 call.1
        ∙ sym (own_call_fits (last_reply_of_script_calls (calls_of n.shorter q)) ranked_says.step n.call ranked_says.is) in
        stuck q call.0 ((prefix_beginning_next s g q call.0).1 (
          begins,
          record {
            may_follow = record {
              processor = n.next.may_follow.processor;
              in_range = machine_step_range s reply ranked_says.step call.0 proper call.1;
              answers = λ i a last. ranked_answers (awaited_next a) a call.0 refl (λ b awaits.
                  let waits = (ranked_waits b).1 (record { place = i; kind = a; last = last; awaits = awaits }) in
                  let is = enabled_only_awaited (plan_sizes s) n.shorter q b n.call waits n.next.may_follow in
                  ranked_takes_same b call.0 (verdict_waits_takes n.shorter q b waits) (alike ∙ ap wordless_call (sym is)));
              allowed = (ranked_allows_wordless (plan_sizes s) g q call.0).1
                  (subst (WellFormedAllows (plan_sizes s) g q) (sym alike) ((ranked_allows_wordless (plan_sizes s) g q n.call).0 allowed));
            };
            calls = record {
              call = machine_step_no_fetch s reply ranked_says.step call.0 proper call.1;
              next = λ section here.
                  subst (λ xs. IsScriptCallNext xs (calls_of g q) call.0)
                  (of.are ∙ ap (λ x. script_calls_of_section x (script_calls_shown_by s q)) (same_Some of.section section (sym of.at ∙ here)))
                  (record { step = ranked_says.step; at = ranked_step_at; is = call.1 });
            };
            answers = call.2;
          },
        ))

    -- a step that says a taking says it exactly
    ranked_exact : (k : Kind) → n.call ≡ k → IsTrue (event_takes k) → ranked_says.step ≡ Call k
    ranked_exact k is takes =
        ranked_step_exact (last_reply_of_script_calls (calls_of n.shorter q)) ranked_says.step k takes
        (subst (FitsScriptCall (last_reply_of_script_calls (calls_of n.shorter q)) ranked_says.step) is ranked_says.is)

  -- who has done all steps waits for nothing
  ranked_done_waits_not : (q : ℕ) (row : Vec ScriptCall) (at : slice_get rows q ≡ Some row) → length (calls_of g q) ≡ length row.items
      → (b : Kind) → ¬ WhyWaitsFor g q b
  ranked_done_waits_not q row at all b waits =
      let of = machine_step_row s rows q row steps.are at in
      none-some b
      (sym (ranked_row_awaits_nothing of.section (script_calls_shown_by s q) (length (calls_of g q)) row.items of.are all)
      ∙ (own_calls_wait s rows steps g begins q row at b).1 waits)

  -- who waits is one of the script's processors
  ranked_waits_within : (q : ℕ) (b : Kind) → WhyWaitsFor g q b → q < s.processors
  ranked_waits_within q b waits = (begins.well_formed waits.place (event q waits.kind) waits.last.does).processor

  ranked_holds_within : (q l : ℕ) → Holds g q l → q < s.processors
  ranked_holds_within q l holds = (begins.well_formed holds.place (event q (kind.Acquire l)) holds.acquires).processor

  -- who waits for a lock isn't granted it
  ranked_not_granted : (p i l : ℕ) → LastIs g p i (kind.Ask l) → ¬ WellFormedGrant g i l
  ranked_not_granted p i l last grant =
      let waits : WhyWaitsFor g p (kind.Acquire l) = record { place = i; kind = kind.Ask l; last = last; awaits = refl } in
      let row = ranked_row_of p (ranked_waits_within p (kind.Acquire l) waits) in
      let n = ranked_next p row.0 row.1 (λ all. ranked_done_waits_not p row.0 row.1 all (kind.Acquire l) waits) in
      let there = (ranked_waits p row.0 row.1 n (kind.Acquire l)).1 waits in
      let is = enabled_only_awaited (plan_sizes s) n.shorter p (kind.Acquire l) n.call there n.next.may_follow in
      ranked_blocked p row.0 row.1 n (subst (WellFormedAllows (plan_sizes s) g p) is (i, last, grant))

  -- a holder of l waits for a lock of a lower rank
  ranked_holder : (q l : ℕ) → Holds g q l → (m i : ℕ) × (rank m < rank l) × LastIs g q i (kind.Ask m)
  ranked_holder q l holds =
      let row = ranked_row_of q (ranked_holds_within q l holds) in
      let held = (own_calls_hold s rows steps g begins q row.0 row.1 l).0 holds in
      let n = ranked_next q row.0 row.1
      (λ all. (ranked q row.0 row.1).free l (subst (λ m. IsTrue (text_guard_held_at row.0.items m l)) all held)) in
      go row.0 row.1 held n n.call refl
    where
      go : (row : Vec ScriptCall) (at : slice_get rows q ≡ Some row) → IsTrue (text_guard_held_at row.items (length (calls_of g q)) l)
          → (n : HasNextCall s g q) (k : Kind) → n.call ≡ k → (m i : ℕ) × (rank m < rank l) × LastIs g q i (kind.Ask m)
      go row at held n (kind.Acquire m) is =
          let allowed = subst (WellFormedAllows (plan_sizes s) n.shorter q) is n.next.may_follow.allowed in
          let waits = (ranked_waits q row at n (kind.Acquire m)).0 (enabled_taking_is_awaited (plan_sizes s) n.shorter q (kind.Acquire m) refl allowed) in
          let asks = waits_asks g q m waits in
          let step = ranked_exact q row at n (kind.Acquire m) is refl in (
            m,
            asks.0,
            (ranked q row at).falls (length (calls_of g q)) m l (ranked_step_at q row at n ∙ ap Some step) held,
            asks.1,
          )
      go row at held n kind.Depart is =
          absurd ((ranked q row at).unlocked (length (calls_of g q)) l (Call kind.Depart)
          (ranked_step_at q row at n ∙ ap Some (ranked_exact q row at n kind.Depart is refl)) refl held)
      go row at held n (kind.Await f) is =
          absurd ((ranked q row at).unlocked (length (calls_of g q)) l (Call (kind.Await f))
          (ranked_step_at q row at n ∙ ap Some (ranked_exact q row at n (kind.Await f) is refl)) refl held)
      go row at held n (kind.Ask m) is =
          absurd (ranked_blocked q row at n (subst (WellFormedAllows (plan_sizes s) g q) (sym is)
          (λ mine. subst (WellFormedAllows (plan_sizes s) n.shorter q) is n.next.may_follow.allowed ((ranked_holds q row at n m).1 mine))))
      go row at held n (kind.Release m) is =
          absurd (ranked_blocked q row at n (subst (WellFormedAllows (plan_sizes s) g q) (sym is)
          ((ranked_holds q row at n m).0 (subst (WellFormedAllows (plan_sizes s) n.shorter q) is n.next.may_follow.allowed))))
      go row at held n k is = absurd (ranked_blocked q row at n (subst (WellFormedAllows (plan_sizes s) g q) (sym is) tt))

  -- so nobody waits for a lock: of those that do, take one whose lock has the lowest rank, and of these the first to ask
  ranked_none_asks : (r m : ℕ) (p i l : ℕ) → rank l < r → i < m → ¬ LastIs g p i (kind.Ask l)
  ranked_none_asks zero m p i l low before last = absurd (omega arith)
  ranked_none_asks (suc r) zero p i l low before last = absurd (omega arith)
  ranked_none_asks (suc r) (suc m) p i l low before last =
      ranked_not_granted p i l last (record {
        free = λ q holds.
            let waits = ranked_holder q l holds in
            ranked_none_asks r (suc waits.1) q waits.1 waits.0 (let lower = waits.2 in omega (arith, lower)) (omega arith) waits.3;
        first = λ k q earlier asks. ranked_none_asks (suc r) m q k l low (omega arith) asks;
      })

  -- no beginning has more calls of a processor than g
  ranked_furthest : (x : List Event) → IsFlatBeginning s x → (q : ℕ) → length (calls_of x q) ≤ length (calls_of g q)
  ranked_furthest = lockset_calls_induction s (λ x. (q : ℕ) → length (calls_of x q) ≤ length (calls_of g q)) (λ q. omega arith) step
    where
      further : (x : List Event) (r : ℕ) (k : Kind) → IsFlatBeginning s x → PrefixCanGoOn s x r k
          → ((q : ℕ) → length (calls_of x q) ≤ length (calls_of g q)) → length (calls_of x r) ≢ length (calls_of g r)
      further x r k began next ih same = go n.call refl
        where
          row : (row : Vec ScriptCall) × (slice_get rows r ≡ Some row)
          row = ranked_row_of r next.may_follow.processor

          n : HasNextCall s g r
          n = record { shorter = x; call = k; begins = began; next = next; same = same }

          waiting : (b : Kind) → IsTrue (event_takes b) → k ≡ b → WhyWaitsFor g r b
          waiting b takes is =
              (ranked_waits r row.0 row.1 n b).0
              (enabled_taking_is_awaited (plan_sizes s) x r b takes (subst (WellFormedAllows (plan_sizes s) x r) is next.may_follow.allowed))

          blocked : (b : Kind) → k ≡ b → ¬ WellFormedAllows (plan_sizes s) g r b
          blocked b is allowed = ranked_blocked r row.0 row.1 n (subst (WellFormedAllows (plan_sizes s) g r) (sym is) allowed)

          -- x has no more such calls than g
          such : (is : Kind → Bool) → ((c : Kind) → is (wordless_call c) ≡ is c) → (q : ℕ) → q < s.processors
              → event_count is x q ≤ event_count is g q
          such is wordless q within =
              let of = ranked_row_of q within in
              let less = ih q in
              let there = own_calls_such s rows steps x began q of.0 of.1 is wordless in
              let here = own_calls_such s rows steps g begins q of.0 of.1 is wordless in
              let more = slice_count_by-mono is (map wordless_step of.0.items) (length (calls_of x q)) (length (calls_of g q)) less in
              omega arith

          go : (b : Kind) → k ≡ b → ⊥
          go (kind.Acquire l) is =
              let asks = waits_asks g r l (waiting (kind.Acquire l) refl is) in
              ranked_none_asks (suc (rank l)) (suc asks.0) r asks.0 l (omega arith) (omega arith) asks.1
          go kind.Depart is =
              let allowed = subst (WellFormedAllows (plan_sizes s) x r) is next.may_follow.allowed in
              let mine = waiting kind.Depart refl is in
              let departed = ranked_such r row.0 row.1 n event_departs ranked_departs_wordless in
              blocked kind.Depart is (
                mine.place,
                subst (LastIs g r mine.place) (enabled_depart_awaited mine.kind mine.awaits) mine.last,
                λ q within.
                    let arrived = allowed.2 q within in
                    let more = such event_arrives ranked_arrives_wordless q within in
                    omega (arith, arrived, more, departed),
              )
          go (kind.Await f) is =
              let allowed = subst (WellFormedAllows (plan_sizes s) x r) is next.may_follow.allowed in
              let mine = waiting (kind.Await f) refl is in
              let setter = allowed.2 in
              let within = (began.well_formed allowed.1 (event setter (kind.Set f)) allowed.4).processor in
              let one = event_count-inside (ranked_sets f) x allowed.1 setter (kind.Set f) allowed.4 (eq-eqb f f refl) in
              let more = such (ranked_sets f) (ranked_sets_wordless f) setter within in
              let found = event_place_numbered (ranked_sets f) g setter 0 (omega (arith, one, more)) in
              blocked (kind.Await f) is (
                mine.place,
                found.place,
                setter,
                subst (LastIs g r mine.place) (enabled_await_awaited mine.kind f mine.awaits) mine.last,
                subst (Does g found.place setter) (ranked_sets_is f found.kind found.counts) found.does,
              )
          go (kind.Ask m) is =
              blocked (kind.Ask m) is
              (λ holds. subst (WellFormedAllows (plan_sizes s) x r) is next.may_follow.allowed ((ranked_holds r row.0 row.1 n m).1 holds))
          go (kind.Release m) is =
              blocked (kind.Release m) is
              ((ranked_holds r row.0 row.1 n m).0 (subst (WellFormedAllows (plan_sizes s) x r) is next.may_follow.allowed))
          go b is = blocked b is tt

      step : (x : List Event) (r : ℕ) (k : Kind) → IsFlatBeginning s x → PrefixCanGoOn s x r k
          → ((q : ℕ) → length (calls_of x q) ≤ length (calls_of g q)) → (q : ℕ) → length (calls_of (did x r k) q) ≤ length (calls_of g q)
      step x r k began next ih q = elim (cases_eq r q) [
        | inl is ↦
            (let mine = ap (λ (ks : List Kind). length ks) (followed_calls-own x r k next.calls.call) in
            let one = length-append (calls_of x r) (k ∷ []) in
            let less = ih r in
            let isnt = further x r k began next ih in
            let more : length (calls_of (did x r k) r) ≤ length (calls_of g r) = omega arith in
            subst (λ z. length (calls_of (did x r k) z) ≤ length (calls_of g z)) is more)
        | inr isnt ↦ (let same = ap (λ (ks : List Kind). length ks) (followed_calls-others x r q k isnt) in
            let less = ih q in omega arith)
      ]

  -- so g is whole
  ranked_whole : Follows s g
  ranked_whole = (prefix_beginning_whole_done s g begins).1 (λ p section at.
      let of : (row : Vec ScriptCall) × (slice_get rows p ≡ Some row) =
      (let within = slice_get_within s.sections p section at in
      let long = steps.are.long in
      machine_step_some_at rows p (omega arith)) in
      let are = ap (λ (xs : List ScriptCall). length xs) (steps.are.each p section of.0 at of.1) in
      let under = ranked_within_row p of.0 of.1 in
      let over = ranked_furthest w whole.beginning p in
      let all = ranked_all_called p of.0 of.1 in
      omega arith)

pub ranked_locks_law : RankedLocksLaw
ranked_locks_law s rows rank w steps ranked whole g hangs =
    hangs.unfinished (ranked_whole s rows rank w steps ranked whole g hangs.beginning hangs.stuck)
