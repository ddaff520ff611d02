-- What a machine may do next, and what it knows after that.
use Rattle.std.proofs.Common.{ℕ, zero, suc, ◌≡◌, ◌≢◌, ◌+◌, ◌<◌, ◌≤◌, ◌↔◌, inl, inr, List, [], ◌∷◌, Bool, true, false, cond, ◌==◌, All, length, replicate, Option, Some, slice_get, slice_index, slice_index_or, slice_set, get_or-set_same, get_or-set_other, refl, sym, ap, subst, ◌∙◌, length-append, arith}
use Rattle.std.specs.Prelude.{None, IsTrue, ◌%◌, ◌^◌}
use Rattle.std.specs.Global.{Vec}
use Rattle.std.proofs.lemmas.Bool.{cases_eq}
use Rattle.std.proofs.lemmas.Option.{same_Some, slice_get-get_or, slice_get_within}
use Rattle.std.proofs.lemmas.List.{length-replicate}
use Rattle.std.proofs.lemmas.List.Elements.{All-get_or}
use Rattle.base.specs.LastWrite.{wrote}
use Rattle.base.proofs.LastWritten.{length-written, written-append}
use Rattle.journal.specs.declared.event.Event.{Event}
use Rattle.journal.specs.declared.event.Kind.{Kind}
use Rattle.journal.specs.declared.event.Kind.TheVariants as kind
use Rattle.journal.specs.DidEvent.{did, event}
use Rattle.journal.specs.ReplayMemory.{AnswersReplayMemory, replay_memory_write, memory_after}
use Rattle.journal.specs.EventsInRange.{EventAddressInRange}
use Rattle.journal.specs.Sizes.{Sizes}
use Rattle.journal.specs.WellFormed.{WellFormedKindInRange, WellFormedNext}
use Rattle.lrc_script.specs.declared.script.Instruction.{Instruction}
use Rattle.lrc_script.specs.Plan.{Plan}
use Rattle.lrc_script.specs.Lawful.{plan_addresses, IsLawful, IsLawfulSection}
use Rattle.conformance.specs.Follows.{calls_of, is_fetch, plan_sizes}
use Rattle.conformance.proofs.FollowedCalls.{followed_calls-own, followed_calls-others}
use Rattle.judge.specs.JudgedSizes.{AreJudgedSizesSmall}
use Rattle.conformance.proofs.Script.SectionSteps.{section_step_told, section_step_load_told, is_load_of_section_steps}
use Rattle.explore.specs.declared.prefixes.script_call.ScriptCall.{ScriptCall}
use Rattle.explore.specs.declared.prefixes.script_call.ScriptCall.TheVariants.{Call, Adds}
use Rattle.explore.specs.declared.state.flat_state.FlatState.{FlatState}
use Rattle.explore.specs.Prefixes.FlatBeginnings.{IsFlatBeginning}
use Rattle.explore.specs.Prefixes.ScriptCalls.{AreScriptCallRows, IsScriptCallNext, FitsScriptCall, last_reply_of_script_calls, replyless_script_call, script_calls_of_section, script_calls_shown_by}
use Rattle.explore.specs.OutcomeTelling.{is_sum_for_outcome_telling, outcome_telling_steps}
use Rattle.explore.specs.Machines.{AreLawfulMachineSteps, MachineReadsWithin, IsProperMachineStep, MachineKnows}
use Rattle.explore.proofs.PrefixRuns.Beginnings.{prefix_beginning_next}
use Rattle.explore.proofs.Proper.{proper_section}

-- a load with the word of the memory is the one that the step says
pub machine_step_load : (reply a w v : ℕ) (memory : List ℕ) → slice_get memory a ≡ Some v → (k : Kind)
    → (kind.Load a v ≡ k) ↔ (FitsScriptCall reply (Call (kind.Load a w)) k × AnswersReplayMemory memory k)
machine_step_load reply a w v memory at k = (there, back)
  where
    there : kind.Load a v ≡ k → FitsScriptCall reply (Call (kind.Load a w)) k × AnswersReplayMemory memory k
    there is = subst (λ x. FitsScriptCall reply (Call (kind.Load a w)) x × AnswersReplayMemory memory x) is (refl, at)

    back : FitsScriptCall reply (Call (kind.Load a w)) k × AnswersReplayMemory memory k → kind.Load a v ≡ k
    back h =
        let load = section_step_load_told k a h.0 in
        let word : slice_get memory a ≡ Some load.0 = subst (AnswersReplayMemory memory) load.1 h.1 in
        ap (λ x. kind.Load a x) (same_Some v load.0 (sym at ∙ word)) ∙ sym load.1

-- any other call is itself
machine_step_replyless_others : (c : Kind) → ((a w : ℕ) → c ≢ kind.Load a w) → (replyless_script_call c ≡ c) × (is_load_of_section_steps c ≡ false)
machine_step_replyless_others (kind.Load a w) other = absurd (other a w refl)
machine_step_replyless_others _ other = (refl, refl)

machine_step_other_word : (memory : List ℕ) (c : Kind) → ((a w : ℕ) → c ≢ kind.Load a w) → AnswersReplayMemory memory c
machine_step_other_word memory (kind.Load a w) other = absurd (other a w refl)
machine_step_other_word memory _ other = tt

pub machine_step_other : (reply : ℕ) (c : Kind) (memory : List ℕ) → ((a w : ℕ) → c ≢ kind.Load a w) → (k : Kind)
    → (c ≡ k) ↔ (FitsScriptCall reply (Call c) k × AnswersReplayMemory memory k)
machine_step_other reply c memory other k = (
  λ is. subst (λ x. FitsScriptCall reply (Call c) x × AnswersReplayMemory memory x) is (refl, machine_step_other_word memory c other),
  λ h. let same = machine_step_replyless_others c other in sym (section_step_told k c (h.0 ∙ same.0) same.1),
)

-- the store of an add is
pub machine_step_adds : (reply a v : ℕ) (memory : List ℕ) (k : Kind)
    → (kind.Store a ((reply + v) % 2 ^ 32) ≡ k) ↔ (FitsScriptCall reply (Adds a v) k × AnswersReplayMemory memory k)
machine_step_adds reply a v memory k = ((λ is. (sym is, subst (AnswersReplayMemory memory) is tt)), (λ h. sym h.0))

-- what a proper step says is in range, and no fetch
pub machine_step_range_replyless : (s : Sizes) (k : Kind) → WellFormedKindInRange s k ↔ WellFormedKindInRange s (replyless_script_call k)
machine_step_range_replyless s (kind.Load a v) = ((λ h. h), (λ h. h))
machine_step_range_replyless s _ = ((λ h. h), (λ h. h))

machine_step_fetch_replyless : (k : Kind) → is_fetch (replyless_script_call k) ≡ is_fetch k
machine_step_fetch_replyless (kind.Load a v) = refl
machine_step_fetch_replyless _ = refl

pub machine_step_range : (s : Plan) (reply : ℕ) (x : ScriptCall) (k : Kind) → IsProperMachineStep s x → FitsScriptCall reply x k
    → WellFormedKindInRange (plan_sizes s) k
machine_step_range s reply (Call c) k proper is =
    (machine_step_range_replyless (plan_sizes s) k).1
    (subst (WellFormedKindInRange (plan_sizes s)) (sym is) ((machine_step_range_replyless (plan_sizes s) c).0 proper.0))
machine_step_range s reply (Adds a v) k proper is = subst (WellFormedKindInRange (plan_sizes s)) (sym is) proper

pub machine_step_no_fetch : (s : Plan) (reply : ℕ) (x : ScriptCall) (k : Kind) → IsProperMachineStep s x → FitsScriptCall reply x k → is_fetch k ≡ false
machine_step_no_fetch s reply (Call c) k proper is =
    sym (machine_step_fetch_replyless k) ∙ ap is_fetch is ∙ machine_step_fetch_replyless c ∙ proper.1
machine_step_no_fetch s reply (Adds a v) k proper is = ap is_fetch is

-- and its address has a word
pub machine_step_word : (s : Plan) (x : ScriptCall) (size : ℕ) → size ≡ plan_addresses s → IsProperMachineStep s x → MachineReadsWithin size x
machine_step_word s (Call (kind.Load a v)) size is proper = subst (λ n. a < n) (sym is) proper.0
machine_step_word s _ size is proper = tt

-- only a step that adds asks for the reply before it
machine_step_same_call : (reply other : ℕ) (x : ScriptCall) (k : Kind) → (IsTrue (is_sum_for_outcome_telling (Some x)) → reply ≡ other)
    → FitsScriptCall reply x k → FitsScriptCall other x k
machine_step_same_call reply other (Call c) k same is = is
machine_step_same_call reply other (Adds a v) k same is = subst (λ r. FitsScriptCall r (Adds a v) k) (same refl) is

-- the memory keeps its length
pub machine_step_memory_long : (s : Plan) (g : List Event) (m : FlatState) → MachineKnows s g m → length m.memory.items ≡ plan_addresses s
machine_step_memory_long s g m knows =
    ap (λ (xs : List ℕ). length xs) knows.memory
    ∙ length-written (λ (e : Event). replay_memory_write e.kind) (replicate (plan_addresses s) 0) g
    ∙ length-replicate (plan_addresses s) 0

-- the section that a row of steps is of
pub record IsMachineStepRow (s : Plan) (p : ℕ) (row : Vec ScriptCall) : Type 0 where
  pub section : List Instruction
  pub at : slice_get s.sections p ≡ Some section
  pub are : row.items ≡ script_calls_of_section section (script_calls_shown_by s p)

pub machine_step_row : (s : Plan) (steps : List (Vec ScriptCall)) (p : ℕ) (row : Vec ScriptCall) → AreScriptCallRows s steps
    → slice_get steps p ≡ Some row → IsMachineStepRow s p row
machine_step_row s steps p row are at =
    let within = slice_get_within steps p row at in
    let long = are.long in
    let here : slice_get s.sections p ≡ Some (slice_index_or s.sections p []) =
    slice_get-get_or s.sections p [] (omega arith) in
    record {
      section = slice_index_or s.sections p [];
      at = here;
      are = are.each p (slice_index_or s.sections p []) row here at;
    }

-- these are the processor's steps
pub machine_step_row_told : (s : Plan) (p : ℕ) (row : Vec ScriptCall) → IsMachineStepRow s p row → row.items ≡ outcome_telling_steps s p
machine_step_row_told s p row of =
    let lt = slice_get_within s.sections p of.section of.at in
    of.are
    ∙ ap (λ section. script_calls_of_section section (script_calls_shown_by s p))
    (same_Some of.section (slice_index_or s.sections p []) (sym of.at ∙ slice_get-get_or s.sections p [] lt))

machine_step_shown_small : (s : Plan) (p : ℕ) → IsLawful s → All (λ a. a < plan_addresses s) (script_calls_shown_by s p)
machine_step_shown_small s p lawful = go (p == 0)
  where
    go : (b : Bool) → All (λ a. a < plan_addresses s) (cond b s.shown [])
    go true = lawful.but_uneven.shown
    go false = λ k d lt. absurd (omega arith)

-- its steps are proper
pub machine_step_row_proper : (s : Plan) (p : ℕ) (row : Vec ScriptCall) (n : ℕ) (x : ScriptCall) → IsLawful s → IsMachineStepRow s p row
    → slice_get row.items n ≡ Some x → IsProperMachineStep s x
machine_step_row_proper s p row n x lawful of at =
    let section_lawful = subst (IsLawfulSection s)
    (same_Some (slice_index_or s.sections p []) of.section
    (sym (slice_get-get_or s.sections p [] (slice_get_within s.sections p of.section of.at)) ∙ of.at))
    (All-get_or (IsLawfulSection s) s.sections p [] (slice_get_within s.sections p of.section of.at)
    lawful.but_uneven.sections) in
    proper_section s of.section (script_calls_shown_by s p) section_lawful.in_range (machine_step_shown_small s p lawful) x
    (n, subst (λ xs. slice_get xs n ≡ Some x) of.are at)

module _ (s : Plan) (g : List Event) (m : FlatState) (p : ℕ) (row : Vec ScriptCall) (lawful : IsLawful s) (of : IsMachineStepRow s p row)
    (small : p < 16) (knows : MachineKnows s g m) where
  machine_step_called : (k : Kind) → IsFlatBeginning s (did g p k) → IsScriptCallNext row.items (calls_of g p) k
  machine_step_called k h =
      subst (λ xs. IsScriptCallNext xs (calls_of g p) k) (sym of.are)
      (((prefix_beginning_next s g p k).0 h).1.calls.next of.section of.at)

  -- where all calls are made, there is no next one
  pub machine_steps_all_made : length row.items ≤ slice_index m.done p → (k : Kind) → ¬ IsFlatBeginning s (did g p k)
  machine_steps_all_made past k h =
      let next = machine_step_called k h in
      let within = slice_get_within row.items (length (calls_of g p)) next.step next.at in
      let done = knows.done p small in
      omega (arith, within, done)

  -- else the next step says which it may be
  pub machine_step_at : (reply : ℕ) (x : ScriptCall)
      → (IsTrue (is_sum_for_outcome_telling (Some x)) → reply ≡ last_reply_of_script_calls (calls_of g p)) → slice_get row.items (slice_index m.done p) ≡ Some x → (c : Kind)
      → ((k : Kind) → (c ≡ k) ↔ (FitsScriptCall reply x k × AnswersReplayMemory m.memory.items k)) → (k : Kind)
      → IsFlatBeginning s (did g p k) ↔ (WellFormedNext (plan_sizes s) g (event p c) × (c ≡ k))
  machine_step_at reply x section_step_told at c says k = (there, back)
    where
      next_at : slice_get row.items (length (calls_of g p)) ≡ Some x
      next_at = subst (λ n. slice_get row.items n ≡ Some x) (knows.done p small) at

      there : IsFlatBeginning s (did g p k) → WellFormedNext (plan_sizes s) g (event p c) × (c ≡ k)
      there h =
          let next = machine_step_called k h in
          let all = ((prefix_beginning_next s g p k).0 h).1 in
          let same = same_Some next.step x (sym next.at ∙ next_at) in
          let step = subst (λ y. FitsScriptCall (last_reply_of_script_calls (calls_of g p)) y k) same next.is in
          let mine = machine_step_same_call (last_reply_of_script_calls (calls_of g p)) reply x k (λ is. sym (section_step_told is)) step in
          let word = subst (λ xs. AnswersReplayMemory xs k) (sym knows.memory) all.answers in
          let is = (says k).1 (mine, word) in
          (subst (λ y. WellFormedNext (plan_sizes s) g (event p y)) (sym is) all.may_follow, is)

      back : WellFormedNext (plan_sizes s) g (event p c) × (c ≡ k) → IsFlatBeginning s (did g p k)
      back h =
          let both = (says k).0 h.1 in
          let step = machine_step_same_call reply (last_reply_of_script_calls (calls_of g p)) x k section_step_told both.0 in
          (prefix_beginning_next s g p k).1 (
            knows.beginning,
            record {
              may_follow = subst (λ y. WellFormedNext (plan_sizes s) g (event p y)) h.1 h.0;
              calls = record {
                call = machine_step_no_fetch s (last_reply_of_script_calls (calls_of g p)) x k (machine_step_row_proper s p row (slice_index m.done p) x lawful of at) step;
                next = λ section here.
                    subst (λ ys. IsScriptCallNext ys (calls_of g p) k)
                    (of.are ∙ ap (λ y. script_calls_of_section y (script_calls_shown_by s p)) (same_Some of.section section (sym of.at ∙ here)))
                    (record { step = x; at = next_at; is = step });
              };
              answers = subst (λ xs. AnswersReplayMemory xs k) knows.memory both.1;
            },
          )

-- the sizes of a lawful script
pub machine_step_sizes_small : (s : Plan) → IsLawful s → AreJudgedSizesSmall (plan_sizes s)
machine_step_sizes_small s lawful =
    let sizes = lawful.but_uneven.sizes in
    record {
      processors = sizes.most_processors;
      pages = sizes.most_pages;
      words = sizes.most_words;
      locks = sizes.locks;
      flags = sizes.flags;
    }

-- its rows of steps are as many as its processors
pub machine_step_rows_many : (s : Plan) (steps : List (Vec ScriptCall)) → AreLawfulMachineSteps s steps → s.processors ≡ length steps
machine_step_rows_many s steps steps_are =
    let one = steps_are.lawful.but_uneven.one_each in
    let long = steps_are.are.long in
    omega arith

pub machine_step_rows_few : (s : Plan) (steps : List (Vec ScriptCall)) → AreLawfulMachineSteps s steps → length steps ≤ 16
machine_step_rows_few s steps steps_are =
    let many = machine_step_rows_many s steps steps_are in
    let most = steps_are.lawful.but_uneven.sizes.most_processors in
    omega arith

-- a list has an item at each place within it
pub machine_step_some_at : {A : Type 0} (xs : List A) (k : ℕ) → k < length xs → (x : A) × (slice_get xs k ≡ Some x)
machine_step_some_at [] k lt = absurd (omega arith)
machine_step_some_at (x ∷ xs) zero lt = (x, refl)
machine_step_some_at (x ∷ xs) (suc k) lt = machine_step_some_at xs k (omega arith)

-- the item that is read
pub machine_step_read_at : {A : Type 0} (xs : List A) (k : ℕ) (x : A) → k < length xs → x ≡ slice_index_or xs k x
    → slice_get xs k ≡ Some x
machine_step_read_at xs k x lt is = slice_get-get_or xs k x lt ∙ ap Some (sym is)

-- an address in range is one of the memory
pub machine_step_kind_address : (s : Plan) (k : Kind) (size : ℕ) → size ≡ plan_addresses s → WellFormedKindInRange (plan_sizes s) k → EventAddressInRange size k
machine_step_kind_address s (kind.Load a v) size is range = subst (λ n. a < n) (sym is) range
machine_step_kind_address s (kind.Store a v) size is range = subst (λ n. a < n) (sym is) range
machine_step_kind_address s _ size is range = tt

module _ (s : Plan) (g : List Event) (p : ℕ) (k : Kind) (next : IsFlatBeginning s (did g p k)) where
  pub machine_step_next_may : WellFormedNext (plan_sizes s) g (event p k)
  machine_step_next_may = ((prefix_beginning_next s g p k).0 next).1.may_follow

  pub machine_step_next_no_fetch : is_fetch k ≡ false
  machine_step_next_no_fetch = ((prefix_beginning_next s g p k).0 next).1.calls.call

  pub machine_step_next_within : p < s.processors
  machine_step_next_within = machine_step_next_may.processor

  -- what processors have done, after one call more
  pub machine_step_done_next : (ns : List ℕ) → length ns ≡ 16 → p < 16 → ((q : ℕ) → q < 16 → slice_index ns q ≡ length (calls_of g q))
      → (q : ℕ) → q < 16 → slice_index (slice_set ns p (slice_index ns p + 1)) q ≡ length (calls_of (did g p k) q)
  machine_step_done_next ns long small old q lt = elim (cases_eq q p) [
    | inl same ↦
        (let n = slice_index ns p + 1 in
        let mine = ap (λ (ks : List Kind). length ks) (followed_calls-own g p k machine_step_next_no_fetch) in
        let both = length-append (calls_of g p) (k ∷ []) in
        let was = old p small in
        let now : slice_index (slice_set ns p n) p ≡ n = get_or-set_same ns p n 0 (omega arith) in
        let here : slice_index (slice_set ns p n) p ≡ length (calls_of (did g p k) p) = omega arith in
        subst (λ r. slice_index (slice_set ns p n) r ≡ length (calls_of (did g p k) r)) (sym same) here)
    | inr isnt ↦
        get_or-set_other ns p q (slice_index ns p + 1) 0 isnt ∙ old q lt
        ∙ ap (λ (ks : List Kind). length ks) (sym (followed_calls-others g p q k (λ e. isnt (sym e))))
  ]

  -- and the memory
  pub machine_step_memory_next : (old : List ℕ) → old ≡ memory_after (replicate (plan_addresses s) 0) g
      → wrote old (replay_memory_write k) ≡ memory_after (replicate (plan_addresses s) 0) (did g p k)
  machine_step_memory_next old is =
      ap (λ words. wrote words (replay_memory_write k)) is
      ∙ sym (written-append (λ (e : Event). replay_memory_write e.kind) (replicate (plan_addresses s) 0) g (event p k ∷ []))

-- what is no Some is None
pub machine_step_none_of : {A : Type 0} (o : Option A) → ((x : A) → o ≢ Some x) → o ≡ None
machine_step_none_of None h = refl
machine_step_none_of (Some x) h = absurd (h x refl)
