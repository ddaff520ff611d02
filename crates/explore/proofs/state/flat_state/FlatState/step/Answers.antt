use Rattle.std.proofs.Common.{ℕ, ◌≡◌, ◌+◌, ◌<◌, ◌++◌, [], ◌∷◌, List, Some, cond, length, slice_get, slice_index, slice_index_or, vec_len, sym, ap, ap₂, subst, ◌∙◌, arith}
use Rattle.std.specs.Prelude.{IsTrue}
use Rattle.std.specs.Global.{Vec}
use Rattle.std.proofs.Math.ListN.{length-set}
use Rattle.std.proofs.lemmas.List.{with_items_is}
use Rattle.std.proofs.lemmas.Option.{slice_get_within}
use Rattle.base.specs.LastWrite.{wrote}
use Rattle.journal.specs.declared.event.Event.{Event}
use Rattle.journal.specs.declared.event.Kind.{Kind}
use Rattle.journal.specs.declared.event.Kind.TheVariants.{Load}
use Rattle.journal.specs.DidEvent.{did}
use Rattle.journal.specs.ReplayMemory.{replay_memory_write}
use Rattle.lrc_script.specs.Plan.{Plan}
use Rattle.conformance.specs.Follows.{calls_of, plan_sizes}
use Rattle.explore.specs.declared.state.flat_state.FlatState.{FlatState}
use Rattle.explore.specs.declared.prefixes.script_call.ScriptCall.{ScriptCall}
use Rattle.explore.specs.Machines.{AreLawfulMachineSteps, MachineKnows}
use Rattle.explore.specs.Prefixes.FlatBeginnings.{IsFlatBeginning}
use Rattle.explore.specs.Prefixes.ScriptCalls.{IsScriptCallNext, script_calls_shown_by, last_reply_of_script_calls}
use Rattle.explore.specs.OutcomeTelling.{is_told_by_outcome_telling, is_sum_for_outcome_telling, outcome_telling_kept, outcome_telling_replies, outcome_telling_reply, outcome_telling_steps, outcome_telling_words}
use Rattle.explore.proofs.Lengths.{calls_length_few, history_length_few}
use Rattle.explore.proofs.MachineSteps.{machine_step_done_next, machine_step_kind_address, machine_step_memory_long, machine_step_memory_next, machine_step_next_no_fetch, machine_step_next_may, machine_step_next_within, machine_step_read_at, machine_step_row, machine_step_row_told, machine_step_rows_many, machine_step_sizes_small}
use Rattle.explore.proofs.MachineReplies.{length-machine_rows, machine_replies_next, machine_reply_row_kept}
use Rattle.explore.proofs.ToldReplies.{told_reply_kept_next, told_reply_load_before_sum}
use Rattle.explore.proofs.PrefixRuns.Beginnings.{prefix_beginning_next}
use Rattle.explore.proofs.state.flat_state.FlatState.step.Goals as goal

pub note-requires : goal.note-requires
note-requires c =
    let r = c.requires in
    record {
      sizes = plan_sizes r.plan;
      small = machine_step_sizes_small r.plan r.lawful.lawful;
      events = r.events;
      tells = r.knows.waiting;
      may_follow = machine_step_next_may r.plan r.events c.args.processor c.args.kind r.next;
      few = history_length_few r.plan r.events r.lawful.lawful r.knows.beginning;
    }

pub index_mut-replies-requires : goal.index_mut-replies-requires
index_mut-replies-requires c =
    let r = c.requires in
    let within = machine_step_next_within r.plan r.events c.args.processor c.args.kind r.next in
    let long = r.knows.replies.long in
    let many = length-machine_rows c.args.self.now.replies.items in
    omega arith

pub flat_state_write-requires : goal.flat_state_write-requires
flat_state_write-requires c =
    let r = c.requires in
    machine_step_kind_address r.plan c.args.kind (length c.deref_mut.result.now)
    (ap (λ (ws : List ℕ). length ws) c.deref_mut.ensures.value
    ∙ machine_step_memory_long r.plan r.events c.args.self.now r.knows)
    (machine_step_next_may r.plan r.events c.args.processor c.args.kind r.next).in_range

pub bounds-self-processor : goal.bounds-self-processor
bounds-self-processor c =
    let r = c.requires in
    let within = machine_step_next_within r.plan r.events c.args.processor c.args.kind r.next in
    let most = r.lawful.lawful.but_uneven.sizes.most_processors in
    omega arith

pub offset_bounds-self-processor : goal.offset_bounds-self-processor
offset_bounds-self-processor c =
    let r = c.requires in
    let within = machine_step_next_within r.plan r.events c.args.processor c.args.kind r.next in
    let most = r.lawful.lawful.but_uneven.sizes.most_processors in
    omega arith

pub bounds-self-processor-2 : goal.bounds-self-processor-2
bounds-self-processor-2 c =
    let r = c.requires in
    let within = machine_step_next_within r.plan r.events c.args.processor c.args.kind r.next in
    let most = r.lawful.lawful.but_uneven.sizes.most_processors in
    omega arith

pub bounds-self-processor-3 : goal.bounds-self-processor-3
bounds-self-processor-3 c =
    let r = c.requires in
    let within = machine_step_next_within r.plan r.events c.args.processor c.args.kind r.next in
    let most = r.lawful.lawful.but_uneven.sizes.most_processors in
    omega arith

pub offset_bounds-self-processor-2 : goal.offset_bounds-self-processor-2
offset_bounds-self-processor-2 c =
    let r = c.requires in
    let within = machine_step_next_within r.plan r.events c.args.processor c.args.kind r.next in
    let most = r.lawful.lawful.but_uneven.sizes.most_processors in
    omega arith

pub overflow_add-self : goal.overflow_add-self
overflow_add-self c =
    let r = c.requires in
    let within = machine_step_next_within r.plan r.events c.args.processor c.args.kind r.next in
    let most = r.lawful.lawful.but_uneven.sizes.most_processors in
    let few = calls_length_few r.plan r.events c.args.processor r.lawful.lawful r.knows.beginning within in
    let is = r.knows.done c.args.processor (omega arith) in
    omega arith

own_small_of : (s : Plan) (g : List Event) (p : ℕ) (k : Kind) {steps : List (Vec ScriptCall)} → AreLawfulMachineSteps s steps
    → IsFlatBeginning s (did g p k) → p < 16
own_small_of s g p k lawful next =
    let within = machine_step_next_within s g p k next in
    let most = lawful.lawful.but_uneven.sizes.most_processors in
    omega arith

-- the processor's row of steps, and the step that this call is
module _ (s : Plan) (g : List Event) (m : FlatState) (steps : List (Vec ScriptCall)) (p : ℕ) (k : Kind) (row : Vec ScriptCall)
    (lawful : AreLawfulMachineSteps s steps) (knows : MachineKnows s g m) (next : IsFlatBeginning s (did g p k))
    (at : slice_get steps p ≡ Some row) where
  own_small : p < 16
  own_small = own_small_of s g p k lawful next

  own_told : row.items ≡ outcome_telling_steps s p
  own_told = machine_step_row_told s p row (machine_step_row s steps p row lawful.are at)

  own_next : IsScriptCallNext (outcome_telling_steps s p) (calls_of g p) k
  own_next =
      let of = machine_step_row s steps p row lawful.are at in
      subst (λ xs. IsScriptCallNext xs (calls_of g p) k) (sym of.are ∙ own_told)
      (((prefix_beginning_next s g p k).0 next).1.calls.next of.section of.at)

  own_place : slice_index m.done p < length row.items
  own_place =
      let is = knows.done p own_small in
      let within = slice_get_within (outcome_telling_steps s p) (length (calls_of g p)) own_next.step own_next.at in
      let long = ap (λ (xs : List ScriptCall). length xs) own_told in
      omega arith

  -- what is kept after it
  own_kept : (old gone kept new : List ℕ) → old ≡ outcome_telling_kept m.telling p (outcome_telling_steps s p) (calls_of g p)
      → ((front : List ℕ) (reply : ℕ) → old ≡ front ++ cond (is_sum_for_outcome_telling (slice_get row.items (slice_index m.done p))) (reply ∷ []) [] → gone ≡ front)
      → kept ≡ gone ++ outcome_telling_reply (is_told_by_outcome_telling m.telling.detail (outcome_telling_words m.telling p) row.items (slice_index m.done p)) k
      → new ≡ kept ++ outcome_telling_reply (is_sum_for_outcome_telling (slice_get row.items (slice_index m.done p + 1))) k
      → new ≡ outcome_telling_kept m.telling p (outcome_telling_steps s p) (calls_of g p ++ k ∷ [])
  own_kept old gone kept new is goes keeps puts =
      let t = m.telling in
      let xs = outcome_telling_steps s p in
      let n = length (calls_of g p) in
      let count : slice_index m.done p ≡ n = knows.done p own_small in
      let front = outcome_telling_replies t p xs 0 (calls_of g p) in
      let went : gone ≡ front =
      goes front (last_reply_of_script_calls (calls_of g p)) (is
      ∙ ap₂ (λ ys i. front ++ cond (is_sum_for_outcome_telling (slice_get ys i)) (last_reply_of_script_calls (calls_of g p) ∷ []) []) (sym own_told) (sym count)) in
      let load : IsTrue (is_sum_for_outcome_telling (slice_get xs (n + 1))) → (a : ℕ) × (v : ℕ) × (k ≡ Load a v) =
      (λ sum. told_reply_load_before_sum (slice_index_or s.sections p []) (script_calls_shown_by s p) n (last_reply_of_script_calls (calls_of g p))
      own_next.step k own_next.at own_next.is sum) in
      puts
      ∙ ap₂ (λ ys i. kept ++ outcome_telling_reply (is_sum_for_outcome_telling (slice_get ys (i + 1))) k) own_told count
      ∙ ap (λ zs. zs ++ outcome_telling_reply (is_sum_for_outcome_telling (slice_get xs (n + 1))) k)
      (keeps ∙ ap₂ (λ ys i. gone ++ outcome_telling_reply (is_told_by_outcome_telling t.detail (outcome_telling_words t p) ys i) k) own_told count
      ∙ ap (λ zs. zs ++ outcome_telling_reply (is_told_by_outcome_telling t.detail (outcome_telling_words t p) xs n) k) went)
      ∙ told_reply_kept_next t p xs (calls_of g p) k load

pub is_told-is_told-requires : goal.is_told-is_told-requires
is_told-is_told-requires c =
    let r = c.requires in
    let p = c.args.processor in
    let within = machine_step_next_within r.plan r.events p c.args.kind r.next in
    let rows = machine_step_rows_many r.plan c.args.steps.now r.lawful in
    let row = c.index-steps-processor.result in
    let at = machine_step_read_at c.args.steps.now p row (omega (arith, within, rows)) c.index-steps-processor.is in
    let place = own_place r.plan r.events c.args.self.now c.args.steps.now p c.args.kind row r.lawful r.knows r.next at in
    let long = c.deref.ensures.len in
    omega (arith, place, long)

pub returns-clause-knows : goal.returns-clause-knows
returns-clause-knows c = λ s g lawful knows next.
    let p = c.args.processor in
    let k = c.args.kind in
    let m = c.args.self.now in
    let within = machine_step_next_within s g p k next in
    let small = own_small_of s g p k lawful next in
    let rows = machine_step_rows_many s c.args.steps.now lawful in
    let within_steps : p < length c.args.steps.now = omega (arith, within, rows) in
    let long = knows.replies.long in
    let many = length-machine_rows m.replies.items in
    let lt : p < length m.replies.items = omega arith in
    let kept : length c.flat_state_write.new.memory ≡ vec_len m.memory = omega (arith, c.flat_state_write.auto.memory, c.deref_mut.ensures.len) in
    record {
      beginning = next;
      long = length-set m.done p (slice_index m.done p + 1) ∙ knows.long;
      done = machine_step_done_next s g p k next m.done knows.long small knows.done;
      shown = knows.shown;
      replies =
          (let row = c.index-steps-processor.result in
          let at = machine_step_read_at c.args.steps.now p row within_steps c.index-steps-processor.is in
          let place = slice_index m.done p in
          let vs = m.replies.items in
          let v = c.index_mut-replies.result.now in
          let here = machine_step_read_at vs p v lt c.index_mut-replies.ensures.value in
          machine_replies_next s m.telling g p vs v within here knows.replies k c.keep_told_reply-2.new.replies (machine_step_next_no_fetch s g p k next)
          (own_kept s g m c.args.steps.now p k row lawful knows next at v.items c.flat_state_let_go.new.replies.items
          c.keep_told_reply.new.replies.items c.keep_told_reply-2.new.replies.items
          (machine_reply_row_kept s m.telling g p vs v within here knows.replies)
          (λ front reply is.
          c.flat_state_let_go.ensures front reply (is
          ∙ ap (λ b. front ++ cond b (reply ∷ []) []) (sym (c.is_sum_for_outcome_telling.ensures
          ∙ ap is_sum_for_outcome_telling (c.outcome_telling_step.ensures ∙ ap (λ xs. slice_get xs place) c.deref-2.ensures.value)))))
          (c.in_ok-keep_told_reply.ensures
          ∙ ap (λ b. c.flat_state_let_go.new.replies.items ++ outcome_telling_reply b k)
          (c.is_told-is_told.ensures ∙ ap (λ xs. is_told_by_outcome_telling m.telling.detail (outcome_telling_words m.telling p) xs place) c.deref.ensures.value))
          (c.in_ok-keep_told_reply-2.ensures
          ∙ ap (λ b. c.keep_told_reply.new.replies.items ++ outcome_telling_reply b k) (c.is_sum_for_outcome_telling-2.ensures
          ∙ ap is_sum_for_outcome_telling (c.outcome_telling_step-2.ensures ∙ ap (λ xs. slice_get xs (place + 1)) c.deref-3.ensures.value)))));
      memory =
          with_items_is m.memory c.flat_state_write.new.memory kept ∙ c.flat_state_write.ensures
          ∙ ap (λ words. wrote words (replay_memory_write k)) c.deref_mut.ensures.value
          ∙ machine_step_memory_next s g p k next m.memory.items knows.memory;
      waiting = c.in_ok-note.ensures (plan_sizes s) g knows.waiting (machine_step_next_may s g p k next) small;
    }
