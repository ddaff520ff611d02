-- Whether a processor may call something next on one flat memory is decided: its section says which call that would be.
use Rattle.std.proofs.Common.{ℕ, ◌≡◌, ◌+◌, ◌↔◌, inl, inr, ◌⊎◌, false, List, length, replicate, Option, Some, slice_get, refl, sym, subst, ◌∙◌, arith}
use Rattle.std.specs.Prelude.{None, ◌%◌, ◌^◌}
use Rattle.std.proofs.lemmas.Bool.{cases_Bool, cases_lt, false≢true}
use Rattle.std.proofs.lemmas.Option.{none-some, same_Some}
use Rattle.journal.specs.declared.event.Event.{Event}
use Rattle.journal.specs.declared.event.Kind.{Kind}
use Rattle.journal.specs.declared.event.Kind.TheVariants as kind
use Rattle.journal.specs.DidEvent.{did, event}
use Rattle.journal.specs.ReplayMemory.{AnswersReplayMemory, memory_after}
use Rattle.journal.specs.WellFormed.{WellFormedNext}
use Rattle.lrc_script.specs.declared.script.Instruction.{Instruction}
use Rattle.lrc_script.specs.Plan.{Plan}
use Rattle.lrc_script.specs.Lawful.{plan_addresses}
use Rattle.conformance.specs.Follows.{plan_sizes, calls_of, is_fetch}
use Rattle.conformance.proofs.Script.SectionSteps.{section_step_load_told}
use Rattle.explore.specs.declared.prefixes.script_call.ScriptCall.{ScriptCall}
use Rattle.explore.specs.declared.prefixes.script_call.ScriptCall.TheVariants.{Call, Adds}
use Rattle.explore.specs.Prefixes.FlatBeginnings.{IsFlatBeginning}
use Rattle.explore.specs.Prefixes.ScriptCalls.{IsScriptCallNext, FitsScriptCall, last_reply_of_script_calls, script_calls_of_section, script_calls_shown_by}
use Rattle.explore.specs.Prefixes.PrefixLaws.{PrefixCanGoOn}
use Rattle.explore.proofs.PrefixRuns.Beginnings.{prefix_beginning_next}
use Rattle.explore.proofs.MachineSteps.{machine_step_adds, machine_step_load, machine_step_next_within, machine_step_other, machine_step_some_at}
use Rattle.lrc_explore.proofs.schedules.Deciding.{Decided, decided_and, decided_follow}

-- the step says this call, with the word of the memory, and no other
record IsTheOnwardCall (reply : ℕ) (x : ScriptCall) (memory : List ℕ) : Type 0 where
  call : Kind
  says : (k : Kind) → (call ≡ k) ↔ (FitsScriptCall reply x k × AnswersReplayMemory memory k)

-- there is none only where it loads past the memory
schedule_onward_the_call : (reply : ℕ) (x : ScriptCall) (memory : List ℕ)
    → IsTheOnwardCall reply x memory ⊎ ((k : Kind) → ¬ (FitsScriptCall reply x k × AnswersReplayMemory memory k))
schedule_onward_the_call reply (Call (kind.Load a w)) memory = go (slice_get memory a) refl
  where
    go : (o : Option ℕ) → slice_get memory a ≡ o → IsTheOnwardCall reply (Call (kind.Load a w)) memory
        ⊎ ((k : Kind) → ¬ (FitsScriptCall reply (Call (kind.Load a w)) k × AnswersReplayMemory memory k))
    go None is = inr (λ k h.
        let load = section_step_load_told k a h.0 in
        let word : slice_get memory a ≡ Some load.0 = subst (AnswersReplayMemory memory) load.1 h.1 in
        none-some load.0 (sym is ∙ word))
    go (Some v) is = inl (record { call = kind.Load a v; says = machine_step_load reply a w v memory is })
schedule_onward_the_call reply (Call c) memory = inl (record { call = c; says = machine_step_other reply c memory (λ a w is. absurd cc) })
schedule_onward_the_call reply (Adds a v) memory =
    inl (record { call = kind.Store a ((reply + v) % 2 ^ 32); says = machine_step_adds reply a v memory })

schedule_onward_no_fetch : (k : Kind) → Decided (is_fetch k ≡ false)
schedule_onward_no_fetch k = elim (cases_Bool (is_fetch k)) [ inl is ↦ inr (λ isnt. false≢true (sym isnt ∙ is)) | inr isnt ↦ inl isnt ]

module _ (s : Plan) (g : List Event) (p : ℕ) (flat : IsFlatBeginning s g) where
  abbrev memory : List ℕ
  memory = memory_after (replicate (plan_addresses s) 0) g

  abbrev reply : ℕ
  reply = last_reply_of_script_calls (calls_of g p)

  schedule_onward_next_of : (k : Kind) → IsFlatBeginning s (did g p k) → PrefixCanGoOn s g p k
  schedule_onward_next_of k next = ((prefix_beginning_next s g p k).0 next).1

  -- by p's section, and the step that comes next in it
  module _ (section : List Instruction) (at : slice_get s.sections p ≡ Some section) (x : ScriptCall)
      (here : slice_get (script_calls_of_section section (script_calls_shown_by s p)) (length (calls_of g p)) ≡ Some x) where
    schedule_onward_said : (k : Kind) → IsFlatBeginning s (did g p k) → FitsScriptCall reply x k × AnswersReplayMemory memory k
    schedule_onward_said k next =
        let all = schedule_onward_next_of k next in
        let called = all.calls.next section at in
        (subst (λ y. FitsScriptCall reply y k) (same_Some called.step x (sym called.at ∙ here)) called.is, all.answers)

    schedule_onward_by_call : IsTheOnwardCall reply x memory ⊎ ((k : Kind) → ¬ (FitsScriptCall reply x k × AnswersReplayMemory memory k))
        → Decided ((k : Kind) × IsFlatBeginning s (did g p k))
    schedule_onward_by_call (inr none) = inr (λ next. none next.0 (schedule_onward_said next.0 next.1))
    schedule_onward_by_call (inl c) = elim (decided_and (decided_follow (plan_sizes s) g p c.call) (schedule_onward_no_fetch c.call)) [
      | inl both ↦
          (let is = (c.says c.call).0 refl in
          inl (
            c.call,
            (prefix_beginning_next s g p c.call).1 (
              flat,
              record {
                may_follow = both.0;
                calls = record {
                  call = both.1;
                  next = λ other there.
                      subst (λ y. IsScriptCallNext (script_calls_of_section y (script_calls_shown_by s p)) (calls_of g p) c.call)
                      (same_Some section other (sym at ∙ there)) (record { step = x; at = here; is = is.0 });
                };
                answers = is.1;
              },
            ),
          ))
      | inr none ↦ inr (λ next.
          let all = schedule_onward_next_of next.0 next.1 in
          let is = (c.says next.0).1 (schedule_onward_said next.0 next.1) in
          none (
            subst (λ k. WellFormedNext (plan_sizes s) g (event p k)) (sym is) all.may_follow,
            subst (λ k. is_fetch k ≡ false) (sym is) all.calls.call,
          ))
    ]

  schedule_onward_by_step : (section : List Instruction) → slice_get s.sections p ≡ Some section → (o : Option ScriptCall)
      → slice_get (script_calls_of_section section (script_calls_shown_by s p)) (length (calls_of g p)) ≡ o
      → Decided ((k : Kind) × IsFlatBeginning s (did g p k))
  schedule_onward_by_step section at None is = inr (λ next.
      let called = (schedule_onward_next_of next.0 next.1).calls.next section at in none-some called.step (sym is ∙ called.at))
  schedule_onward_by_step section at (Some x) is = schedule_onward_by_call section at x is (schedule_onward_the_call reply x memory)

  pub schedule_onward_decided_next : length s.sections ≡ s.processors → Decided ((k : Kind) × IsFlatBeginning s (did g p k))
  schedule_onward_decided_next one = elim (cases_lt p s.processors) [
    | inl lt ↦ (let section = machine_step_some_at s.sections p (omega (arith, lt, one)) in schedule_onward_by_step section.0 section.1 _ refl)
    | inr past ↦ inr (λ next. let lt = machine_step_next_within s g p next.0 next.1 in absurd (omega (arith, past, lt)))
  ]
