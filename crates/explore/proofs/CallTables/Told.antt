-- What a table tells of the calls that were made is what a machine keeps of who waits.
use Rattle.std.proofs.Common.{ℕ, zero, suc, ◌≡◌, ◌+◌, ◌<◌, ◌≤◌, ◌↔◌, ◌||◌, inl, inr, Bool, true, false, cond, IsTrue, All, List, [], ◌∷◌, Some, length, replicate, slice_get, slice_index, slice_index_or, slice_set, take, refl, sym, ap, subst, ◌∙◌, get_or-set_same, get_or-set_other, arith}
use Rattle.std.specs.Prelude.{None}
use Rattle.std.specs.Global.{Vec}
use Rattle.std.proofs.Math.ListN.{length-set}
use Rattle.std.proofs.lemmas.Bool.{cases_eq, cases_lt, eq-eqb, ne_eqb, false≢true}
use Rattle.std.proofs.lemmas.List.Elements.{All-nil}
use Rattle.std.proofs.lemmas.Option.{none-some, same_Some, slice_get-get_or, slice_get_within}
use Rattle.base.proofs.SlicesAndCounts.{slice_get-from_take}
use Rattle.journal.specs.declared.event.Event.{Event}
use Rattle.journal.specs.declared.event.Kind.{Kind}
use Rattle.journal.specs.declared.event.Kind.TheVariants.{Set}
use Rattle.journal.specs.Events.{event_arrives, event_count}
use Rattle.journal.specs.WellFormed.{Does, Holds}
use Rattle.journal.proofs.Order.EventPlacesAndCounts.{event_place_numbered}
use Rattle.lrc_script.specs.Plan.{Plan}
use Rattle.conformance.specs.Follows.{calls_of}
use Rattle.explore.specs.declared.state.call_table.CallRow.{CallRow}
use Rattle.explore.specs.declared.state.call_table.CallTable.{CallTable}
use Rattle.explore.specs.declared.state.flat_state.FlatState.{FlatState}
use Rattle.explore.specs.declared.prefixes.script_call.ScriptCall.{ScriptCall}
use Rattle.explore.specs.declared.state.wait_code.LockHolder.{LockHolder}
use Rattle.explore.specs.declared.state.waits.Waiting.{Waiting}
use Rattle.explore.specs.CallTables.{HasCallsMade, IsCallRowSmall, IsCallTableOf, TellsCallRow, TellsCallsMade, call_arrives, call_list, call_waiting, call_waiting_after, call_waiting_from, calls_made}
use Rattle.explore.specs.KeptWaiting.{IsLikeKeptWaiting, kept_waiting_asked, kept_waiting_flags, kept_waiting_holders}
use Rattle.explore.specs.Machines.{IsProperMachineStep, MachineKnows}
use Rattle.explore.specs.WaitCodes.{wait_code_holder, wait_code_nobody}
use Rattle.explore.proofs.Determined.{determined_bool, determined_option, determined_read}
use Rattle.explore.proofs.Lengths.{length_processors_of}
use Rattle.explore.proofs.MachineSteps.{machine_step_none_of, machine_step_row, machine_step_row_proper, machine_step_rows_few, machine_step_rows_many, machine_step_some_at}
use Rattle.explore.proofs.WaitCodes.{wait_code_ending_once, wait_code_holder_once}
use Rattle.explore.proofs.CallTables.Rows.{call_row_list_is, call_row_list_within}
use Rattle.explore.proofs.CallTables.Steps.{call_kind_arrives_wordless, call_kind_set_by, call_kind_sets, call_kind_sets_wordless, call_step_among, call_step_arrives_wordless, call_step_sets, call_step_sets_wordless, call_steps_awaited, call_steps_counted, call_steps_flags_small, call_steps_hold, call_steps_locks_small, call_steps_set}
use Rattle.explore.proofs.PrefixRuns.SectionCalls.{AreFirstSectionCalls}
use Rattle.explore.specs.Prefixes.ScriptCalls.{script_call_reply_after}
use Rattle.explore.proofs.RankedLocks.OwnCalls.{own_calls_begin, own_calls_hold, own_calls_such, own_calls_wait}

-- the first calls are no more than the steps
call_told_few : (reply : ℕ) (steps : List ScriptCall) (kinds : List Kind) → AreFirstSectionCalls reply steps kinds → length kinds ≤ length steps
call_told_few reply steps [] first = omega arith
call_told_few reply [] (k ∷ kinds) first = absurd first
call_told_few reply (s ∷ steps) (k ∷ kinds) first =
    let more = call_told_few (script_call_reply_after reply k) steps kinds first.1 in
    omega (arith, more)

-- what is read of holders and flags that are told
abbrev pub call_told_by : ℕ → LockHolder
call_told_by p = record { 0 = suc p }

call_told_same : {A : Type 0} (b : Bool) (a : A) → cond b a a ≡ a
call_told_same true a = refl
call_told_same false a = refl

pub call_told_holder : (p l : ℕ) (locks : List ℕ) (holders : List LockHolder) → l < length holders
    → slice_index_or (kept_waiting_holders p holders locks) l wait_code_nobody
    ≡ cond (call_step_among locks l) (call_told_by p) (slice_index_or holders l wait_code_nobody)
call_told_holder p l [] holders lt = refl
call_told_holder p l (k ∷ locks) holders lt =
    let long = length-set holders k (call_told_by p) in
    let rest = call_told_holder p l locks (slice_set holders k (call_told_by p)) (omega (arith, lt, long)) in
    elim (cases_eq k l) [
      | inl is ↦
          (let here : slice_index_or (slice_set holders k (call_told_by p)) l wait_code_nobody ≡ call_told_by p =
          subst (λ i. slice_index_or (slice_set holders i (call_told_by p)) l wait_code_nobody ≡ call_told_by p) (sym is)
          (get_or-set_same holders l (call_told_by p) wait_code_nobody lt) in
          rest ∙ ap (λ h. cond (call_step_among locks l) (call_told_by p) h) here ∙ call_told_same (call_step_among locks l) (call_told_by p)
          ∙ sym (ap (λ b. cond (b || call_step_among locks l) (call_told_by p) (slice_index_or holders l wait_code_nobody)) (eq-eqb k l is)))
      | inr isnt ↦
          rest
          ∙ ap (λ h. cond (call_step_among locks l) (call_told_by p) h)
          (get_or-set_other holders k l (call_told_by p) wait_code_nobody (λ is. isnt (sym is)))
          ∙ sym (ap (λ b. cond (b || call_step_among locks l) (call_told_by p) (slice_index_or holders l wait_code_nobody)) (ne_eqb k l isnt))
    ]

call_told_holders_long : (p : ℕ) (locks : List ℕ) (holders : List LockHolder) → length (kept_waiting_holders p holders locks) ≡ length holders
call_told_holders_long p [] holders = refl
call_told_holders_long p (k ∷ locks) holders =
    call_told_holders_long p locks (slice_set holders k (call_told_by p)) ∙ length-set holders k (call_told_by p)

call_told_or_true : (b : Bool) → (b || true) ≡ true
call_told_or_true true = refl
call_told_or_true false = refl

pub call_told_flag : (f : ℕ) (flags : List ℕ) (set : List Bool) → f < length set
    → slice_index_or (kept_waiting_flags set flags) f false ≡ (call_step_among flags f || slice_index_or set f false)
call_told_flag f [] set lt = refl
call_told_flag f (k ∷ flags) set lt =
    let long = length-set set k true in
    let rest = call_told_flag f flags (slice_set set k true) (omega (arith, lt, long)) in
    elim (cases_eq k f) [
      | inl is ↦
          (let here : slice_index_or (slice_set set k true) f false ≡ true =
          subst (λ i. slice_index_or (slice_set set i true) f false ≡ true) (sym is) (get_or-set_same set f true false lt) in
          rest ∙ ap (λ b. call_step_among flags f || b) here ∙ call_told_or_true (call_step_among flags f)
          ∙ sym (ap (λ b. (b || call_step_among flags f) || slice_index_or set f false) (eq-eqb k f is)))
      | inr isnt ↦
          rest ∙ ap (λ b. call_step_among flags f || b) (get_or-set_other set k f true false (λ is. isnt (sym is)))
          ∙ sym (ap (λ b. (b || call_step_among flags f) || slice_index_or set f false) (ne_eqb k f isnt))
    ]

call_told_flags_long : (flags : List ℕ) (set : List Bool) → length (kept_waiting_flags set flags) ≡ length set
call_told_flags_long [] set = refl
call_told_flags_long (k ∷ flags) set = call_told_flags_long flags (slice_set set k true) ∙ length-set set k true

call_told_always : {A : Type 0} (n p : ℕ) (d : A) → slice_index_or (replicate n d) p d ≡ d
call_told_always zero p d = refl
call_told_always (suc n) zero d = refl
call_told_always (suc n) (suc p) d = call_told_always n p d

-- who asks stays so
pub call_told_asked : (xs : List CallRow) (p : ℕ) (done : List ℕ) (w : Waiting) → (call_waiting_from xs p done w).asked ≡ w.asked
call_told_asked [] p done w = refl
call_told_asked (x ∷ xs) p done w = call_told_asked xs (p + 1) done (call_waiting_after w p x (slice_index done p))

-- and what is told of machines that tell the same stays the same
call_told_alike_next : (v w : Waiting) (p : ℕ) (x : CallRow) (n : ℕ) → IsLikeKeptWaiting v w
    → IsLikeKeptWaiting (call_waiting_after v p x n) (call_waiting_after w p x n)
call_told_alike_next v w p x n like = record {
  waits = ap (λ ws. slice_set ws p (calls_made x n).wait) like.waits;
  arrivals = ap (λ ns. slice_set ns p (calls_made x n).arrivals) like.arrivals;
  holders = ap (λ hs. kept_waiting_holders p hs (call_list x.lists.items (calls_made x n).locks)) like.holders;
  flags = ap (λ fs. kept_waiting_flags fs (call_list x.lists.items (calls_made x n).flags)) like.flags;
  asked = like.asked;
}

call_told_alike_from : (xs : List CallRow) (p : ℕ) (done : List ℕ) (v w : Waiting) → IsLikeKeptWaiting v w
    → IsLikeKeptWaiting (call_waiting_from xs p done v) (call_waiting_from xs p done w)
call_told_alike_from [] p done v w like = like
call_told_alike_from (x ∷ xs) p done v w like =
    call_told_alike_from xs (p + 1) done (call_waiting_after v p x (slice_index done p)) (call_waiting_after w p x (slice_index done p))
    (call_told_alike_next v w p x (slice_index done p) like)

pub call_told_alike : (t : CallTable) (done : List ℕ) (a b : Vec ℕ) → b.items ≡ a.items → IsLikeKeptWaiting (call_waiting t done a) (call_waiting t done b)
call_told_alike t done a b same =
    call_told_alike_from t.rows.items 0 done (kept_waiting_asked a) (kept_waiting_asked b)
    (record { waits = refl; arrivals = refl; holders = refl; flags = refl; asked = same })

-- the rows of a table are a script's
module _ (s : Plan) (t : CallTable) (of : IsCallTableOf s t) where
  pub call_told_many : length t.rows.items ≡ s.processors
  call_told_many = of.tells.long ∙ sym (machine_step_rows_many s of.rows of.lawful)

  pub call_told_rows_few : length t.rows.items ≤ 16
  call_told_rows_few = let few = machine_step_rows_few s of.rows of.lawful in let long = of.tells.long in omega (arith, few, long)

  call_told_row : (p : ℕ) (x : CallRow) → slice_get t.rows.items p ≡ Some x
      → (row : Vec ScriptCall) × (slice_get of.rows p ≡ Some row) × TellsCallRow row.items x
  call_told_row p x at =
      let lt = slice_get_within t.rows.items p x at in
      let long = of.tells.long in
      let row = machine_step_some_at of.rows p (omega (arith, lt, long)) in
      (row.0, row.1, of.tells.each p row.0 x row.1 at)

  call_told_proper : (p n : ℕ) (row : Vec ScriptCall) → slice_get of.rows p ≡ Some row → (i : ℕ) (step : ScriptCall)
      → slice_get (take n row.items) i ≡ Some step → IsProperMachineStep s step
  call_told_proper p n row at i step here =
      machine_step_row_proper s p row i step of.lawful.lawful (machine_step_row s of.rows p row of.lawful.are at)
      (slice_get-from_take row.items n i step here)

  -- their locks and flags are few
  pub call_told_row_small : (p : ℕ) (x : CallRow) → slice_get t.rows.items p ≡ Some x → IsCallRowSmall x
  call_told_row_small p x at =
      let row = call_told_row p x at in
      record {
        locks = λ n made here.
            let has = (row.2.each n made here).locks in
            record {
              within = call_row_list_within x.lists.items made.locks _ has;
              small = subst (All (λ k. k < 32)) (sym (call_row_list_is x.lists.items made.locks _ has))
                  (call_steps_locks_small s (take n row.0.items) [] of.lawful.lawful (call_told_proper p n row.0 row.1) (All-nil (λ k. k < 32)));
            };
        flags = λ n made here.
            let has = (row.2.each n made here).flags in
            record {
              within = call_row_list_within x.lists.items made.flags _ has;
              small = subst (All (λ k. k < 32)) (sym (call_row_list_is x.lists.items made.flags _ has))
                  (call_steps_flags_small s (take n row.0.items) [] of.lawful.lawful (call_told_proper p n row.0 row.1) (All-nil (λ k. k < 32)));
            };
      }

-- of the first n processors, this tells what the machine keeps
record CallsAreTold (g : List Event) (m : Waiting) (n : ℕ) (w : Waiting) : Type 0 where
  waits_long : length w.waits ≡ 16
  arrivals_long : length w.arrivals ≡ 16
  holders_long : length w.holders ≡ 32
  flags_long : length w.flags ≡ 32
  waits : (p : ℕ) → p < n → slice_index_or w.waits p None ≡ slice_index_or m.waits p None
  waits_rest : (p : ℕ) → n ≤ p → slice_index_or w.waits p None ≡ None
  arrivals : (p : ℕ) → p < n → slice_index w.arrivals p ≡ slice_index m.arrivals p
  arrivals_rest : (p : ℕ) → n ≤ p → slice_index w.arrivals p ≡ 0
  holders : (l q : ℕ) → l < 32 → (wait_code_holder (slice_index_or w.holders l wait_code_nobody) ≡ Some q) ↔ ((q < n) × Holds g q l)
  flags : (f : ℕ) → f < 32 → IsTrue (slice_index_or w.flags f false) ↔ ((q : ℕ) × (q < n) × ((i : ℕ) × Does g i q (Set f)))

module _ (s : Plan) (t : CallTable) (of : IsCallTableOf s t) (g : List Event) (m : FlatState) (knows : MachineKnows s g m) where
  -- so many calls are there
  pub call_told_within : HasCallsMade t m.done
  call_told_within p x at =
      let row = call_told_row s t of p x at in
      let lt = slice_get_within t.rows.items p x at in
      let rows = call_told_rows_few s t of in
      let few = call_told_few 0 row.0.items (calls_of g p) (own_calls_begin s of.rows of.lawful g knows.beginning p row.0 row.1) in
      let long = row.2.long in
      let done = knows.done p (omega (arith, lt, rows)) in
      omega (arith, few, long, done)

  module _ (p : ℕ) (x : CallRow) (at : slice_get t.rows.items p ≡ Some x) where
    call_told_small : p < 16
    call_told_small = let lt = slice_get_within t.rows.items p x at in let rows = call_told_rows_few s t of in omega (arith, lt, rows)

    call_told_entry_is : TellsCallsMade x.lists.items (take (length (calls_of g p)) (call_told_row s t of p x at).0.items) (calls_made x (slice_index m.done p))
    call_told_entry_is =
        subst (λ n. TellsCallsMade x.lists.items (take n (call_told_row s t of p x at).0.items) (calls_made x (slice_index m.done p)))
        (knows.done p call_told_small)
        ((call_told_row s t of p x at).2.each (slice_index m.done p) (calls_made x (slice_index m.done p))
        (slice_get-get_or x.made.items (slice_index m.done p) _ (call_told_within p x at)))

    call_told_wait : (calls_made x (slice_index m.done p)).wait ≡ slice_index_or m.waiting.waits p None
    call_told_wait =
        let row = call_told_row s t of p x at in
        let n = length (calls_of g p) in
        wait_code_ending_once _ _ (determined_option _ _ (λ b.
        let here = call_told_entry_is.wait ∙ call_steps_awaited None n row.0.items in
        let own = own_calls_wait s of.rows of.lawful g knows.beginning p row.0 row.1 b in
        let mine = knows.waiting.waits p b in (
          λ is. mine.1 (own.0 (sym here ∙ is)),
          λ is. here ∙ own.1 (mine.0 is),
        )))

    call_told_arrivals : (calls_made x (slice_index m.done p)).arrivals ≡ slice_index m.waiting.arrivals p
    call_told_arrivals =
        let row = call_told_row s t of p x at in
        call_told_entry_is.arrivals
        ∙ call_steps_counted call_arrives event_arrives call_step_arrives_wordless (length (calls_of g p)) row.0.items
        ∙ sym (own_calls_such s of.rows of.lawful g knows.beginning p row.0 row.1 event_arrives call_kind_arrives_wordless)
        ∙ sym (knows.waiting.arrivals p)

    call_told_locks : (l : ℕ) → IsTrue (call_step_among (call_list x.lists.items (calls_made x (slice_index m.done p)).locks) l) ↔ Holds g p l
    call_told_locks l =
        let row = call_told_row s t of p x at in
        let n = length (calls_of g p) in
        let is =
        ap (λ ns. call_step_among ns l) (call_row_list_is x.lists.items (calls_made x (slice_index m.done p)).locks _ call_told_entry_is.locks)
        ∙ call_steps_hold (take n row.0.items) [] l in
        let own = own_calls_hold s of.rows of.lawful g knows.beginning p row.0 row.1 l in (
          λ yes. own.1 (sym is ∙ yes),
          λ holds. is ∙ own.0 holds,
        )

    call_told_flags : (f : ℕ) → IsTrue (call_step_among (call_list x.lists.items (calls_made x (slice_index m.done p)).flags) f)
        ↔ ((i : ℕ) × Does g i p (Set f))
    call_told_flags f =
        let row = call_told_row s t of p x at in
        let n = length (calls_of g p) in
        let is = ap (λ ns. call_step_among ns f) (call_row_list_is x.lists.items (calls_made x (slice_index m.done p)).flags _ call_told_entry_is.flags) in
        let steps = call_steps_set (take n row.0.items) [] f in
        let count =
        call_steps_counted (call_step_sets f) (call_kind_sets f) (call_step_sets_wordless f) n row.0.items
        ∙ sym (own_calls_such s of.rows of.lawful g knows.beginning p row.0 row.1 (call_kind_sets f) (call_kind_sets_wordless f)) in
        let by = call_kind_set_by g p f in (
          λ yes. elim (steps.0 (sym is ∙ yes)) [
            | inl none ↦ absurd (false≢true none)
            | inr lt ↦ by.0 (omega (arith, lt, count))
          ],
          λ does. is ∙ steps.1 (inr (let lt = by.1 does in omega (arith, lt, count))),
        )

    call_told_next_holder : (w : Waiting) → CallsAreTold g m.waiting p w → (l q : ℕ) → l < 32
        → (b : Bool) → call_step_among (call_list x.lists.items (calls_made x (slice_index m.done p)).locks) l ≡ b
        → (wait_code_holder (cond b (call_told_by p) (slice_index_or w.holders l wait_code_nobody)) ≡ Some q) ↔ ((q < p + 1) × Holds g q l)
    call_told_next_holder w told l q lt true is =
        let mine = (call_told_locks l).0 is in (
          λ same. let here : p ≡ q = same_Some p q same in (omega (arith, here), subst (λ r. Holds g r l) here mine),
          λ both. sym ((knows.waiting.holders l p).1 mine) ∙ (knows.waiting.holders l q).1 both.1,
        )
    call_told_next_holder w told l q lt false isnt = (
      λ same. let old = (told.holders l q lt).0 same in let less = old.0 in (omega (arith, less), old.1),
      λ both.
          let other : ¬ (q ≡ p) = λ same. false≢true (sym isnt ∙ (call_told_locks l).1 (subst (λ r. Holds g r l) same both.1)) in
          let less = both.0 in
          (told.holders l q lt).1 (omega (arith, less, other), both.1),
    )

    call_told_next_flag : (w : Waiting) → CallsAreTold g m.waiting p w → (f : ℕ) → f < 32
        → (b : Bool) → call_step_among (call_list x.lists.items (calls_made x (slice_index m.done p)).flags) f ≡ b
        → IsTrue (b || slice_index_or w.flags f false) ↔ ((q : ℕ) × (q < p + 1) × ((i : ℕ) × Does g i q (Set f)))
    call_told_next_flag w told f lt true is =
        ((λ _. (p, omega arith, (call_told_flags f).0 is)), (λ _. refl))
    call_told_next_flag w told f lt false isnt = (
      λ yes. let old = (told.flags f lt).0 yes in let less = old.1 in (old.0, omega (arith, less), old.2),
      λ set.
          let other : ¬ (set.0 ≡ p) = λ same.
          false≢true (sym isnt ∙ (call_told_flags f).1 (subst (λ r. (i : ℕ) × Does g i r (Set f)) same set.2)) in
          let less = set.1 in
          (told.flags f lt).1 (set.0, omega (arith, less, other), set.2),
    )

    -- one processor more
    call_told_next : (w : Waiting) → CallsAreTold g m.waiting p w → CallsAreTold g m.waiting (p + 1) (call_waiting_after w p x (slice_index m.done p))
    call_told_next w told = record {
      waits_long = length-set w.waits p (calls_made x (slice_index m.done p)).wait ∙ told.waits_long;
      arrivals_long = length-set w.arrivals p (calls_made x (slice_index m.done p)).arrivals ∙ told.arrivals_long;
      holders_long = call_told_holders_long p (call_list x.lists.items (calls_made x (slice_index m.done p)).locks) w.holders ∙ told.holders_long;
      flags_long = call_told_flags_long (call_list x.lists.items (calls_made x (slice_index m.done p)).flags) w.flags ∙ told.flags_long;
      waits = λ q less. elim (cases_eq q p) [
        | inl is ↦
            (let long = told.waits_long in
            let small = call_told_small in
            subst (λ r. slice_index_or (slice_set w.waits p (calls_made x (slice_index m.done p)).wait) r None ≡ slice_index_or m.waiting.waits r None) (sym is)
            (get_or-set_same w.waits p (calls_made x (slice_index m.done p)).wait None (omega (arith, long, small)) ∙ call_told_wait))
        | inr isnt ↦ get_or-set_other w.waits p q (calls_made x (slice_index m.done p)).wait None isnt ∙ told.waits q (omega (arith, less, isnt))
      ];
      waits_rest = λ q past.
          get_or-set_other w.waits p q (calls_made x (slice_index m.done p)).wait None (λ is. omega (arith, is, past)) ∙ told.waits_rest q (omega (arith, past));
      arrivals = λ q less. elim (cases_eq q p) [
        | inl is ↦
            (let long = told.arrivals_long in
            let small = call_told_small in
            subst (λ r. slice_index (slice_set w.arrivals p (calls_made x (slice_index m.done p)).arrivals) r ≡ slice_index m.waiting.arrivals r) (sym is)
            (get_or-set_same w.arrivals p (calls_made x (slice_index m.done p)).arrivals 0 (omega (arith, long, small)) ∙ call_told_arrivals))
        | inr isnt ↦ get_or-set_other w.arrivals p q (calls_made x (slice_index m.done p)).arrivals 0 isnt ∙ told.arrivals q (omega (arith, less, isnt))
      ];
      arrivals_rest = λ q past.
          get_or-set_other w.arrivals p q (calls_made x (slice_index m.done p)).arrivals 0 (λ is. omega (arith, is, past))
          ∙ told.arrivals_rest q (omega (arith, past));
      holders = λ l q lt.
          subst (λ h. (wait_code_holder h ≡ Some q) ↔ ((q < p + 1) × Holds g q l))
          (sym (call_told_holder p l (call_list x.lists.items (calls_made x (slice_index m.done p)).locks) w.holders (let long = told.holders_long in omega (arith, long, lt))))
          (call_told_next_holder w told l q lt _ refl);
      flags = λ f lt.
          subst (λ b. IsTrue b ↔ ((q : ℕ) × (q < p + 1) × ((i : ℕ) × Does g i q (Set f))))
          (sym (call_told_flag f (call_list x.lists.items (calls_made x (slice_index m.done p)).flags) w.flags (let long = told.flags_long in omega (arith, long, lt))))
          (call_told_next_flag w told f lt _ refl);
    }

  call_told_from : (xs : List CallRow) (p : ℕ) (w : Waiting) → ((i : ℕ) (x : CallRow) → slice_get xs i ≡ Some x → slice_get t.rows.items (p + i) ≡ Some x)
      → CallsAreTold g m.waiting p w → CallsAreTold g m.waiting (p + length xs) (call_waiting_from xs p m.done w)
  call_told_from [] p w are told =
      let same : p ≡ p + 0 = omega arith in
      subst (λ n. CallsAreTold g m.waiting n w) same told
  call_told_from (x ∷ xs) p w are told =
      let here : p + 0 ≡ p = omega arith in
      let same : (p + 1) + length xs ≡ p + suc (length xs) = omega arith in
      subst (λ n. CallsAreTold g m.waiting n (call_waiting_from (x ∷ xs) p m.done w)) same
      (call_told_from xs (p + 1) (call_waiting_after w p x (slice_index m.done p))
      (λ i y at. let place : p + suc i ≡ (p + 1) + i = omega arith in subst (λ n. slice_get t.rows.items n ≡ Some y) place (are (suc i) y at))
      (call_told_next p x (subst (λ n. slice_get t.rows.items n ≡ Some x) here (are 0 x refl)) w told))

  call_told_start : (asked : Vec ℕ) → CallsAreTold g m.waiting 0 (kept_waiting_asked asked)
  call_told_start asked = record {
    waits_long = refl;
    arrivals_long = refl;
    holders_long = refl;
    flags_long = refl;
    waits = λ p lt. absurd (omega (arith, lt));
    waits_rest = λ p past. call_told_always 16 p None;
    arrivals = λ p lt. absurd (omega (arith, lt));
    arrivals_rest = λ p past. call_told_always 16 p 0;
    holders = λ l q lt. (
      λ is. absurd (none-some q (sym (ap wait_code_holder (call_told_always 32 l wait_code_nobody)) ∙ is)),
      λ both. absurd (let less = both.0 in omega (arith, less)),
    );
    flags = λ f lt. (
      λ is. absurd (false≢true (sym (call_told_always 32 f false) ∙ is)),
      λ set. absurd (let less = set.1 in omega (arith, less)),
    );
  }

  -- who does something is a processor of the script
  call_told_processor : (i p : ℕ) (k : Kind) → Does g i p k → p < length t.rows.items
  call_told_processor i p k does =
      let lt = length_processors_of s g knows.beginning i _ does in
      let many = call_told_many s t of in
      omega (arith, lt, many)

  call_told_idle : (p : ℕ) → length t.rows.items ≤ p → slice_index_or m.waiting.waits p None ≡ None
  call_told_idle p past =
      wait_code_ending_once _ None (machine_step_none_of _ (λ k is.
      let waits = (knows.waiting.waits p k).0 is in
      let lt = call_told_processor waits.place p waits.kind waits.last.does in
      omega (arith, lt, past)))

  call_told_away : (p : ℕ) → length t.rows.items ≤ p → slice_index m.waiting.arrivals p ≡ 0
  call_told_away p past = knows.waiting.arrivals p ∙ elim (cases_eq (event_count event_arrives g p) 0) [
    | inl is ↦ is
    | inr isnt ↦
        (let at = event_place_numbered event_arrives g p 0 (omega (arith, isnt)) in
        let lt = call_told_processor at.place p at.kind at.does in
        absurd (omega (arith, lt, past)))
  ]

  -- so the table tells what the machine keeps
  pub call_told_like : (asked : Vec ℕ) → asked.items ≡ m.waiting.asked.items → IsLikeKeptWaiting m.waiting (call_waiting t m.done asked)
  call_told_like asked same =
      let n = length t.rows.items in
      let zero_more : 0 + n ≡ n = omega arith in
      let w = call_waiting t m.done asked in
      let mine = knows.waiting in
      let told =
      subst (λ k. CallsAreTold g m.waiting k w) zero_more
      (call_told_from t.rows.items 0 (kept_waiting_asked asked)
      (λ i x at. let place : i ≡ 0 + i = omega arith in subst (λ k. slice_get t.rows.items k ≡ Some x) place at) (call_told_start asked)) in
      record {
        waits = determined_read None w.waits m.waiting.waits (told.waits_long ∙ sym mine.long) (λ p lt. elim (cases_lt p n) [
          | inl less ↦ told.waits p less
          | inr past ↦ told.waits_rest p past ∙ sym (call_told_idle p past)
        ]);
        arrivals = determined_read 0 w.arrivals m.waiting.arrivals (told.arrivals_long ∙ sym mine.arrivals_long) (λ p lt. elim (cases_lt p n) [
          | inl less ↦ told.arrivals p less
          | inr past ↦ told.arrivals_rest p past ∙ sym (call_told_away p past)
        ]);
        holders = determined_read wait_code_nobody w.holders m.waiting.holders (told.holders_long ∙ sym mine.holders_long) (λ l lt.
            let long = told.holders_long in
            wait_code_holder_once _ _ (determined_option _ _ (λ q. (
              λ is. (mine.holders l q).1 ((told.holders l q (omega (arith, lt, long))).0 is).1,
              λ is.
                  let holds = (mine.holders l q).0 is in
                  (told.holders l q (omega (arith, lt, long))).1 (call_told_processor holds.place q _ holds.acquires, holds),
            ))));
        flags = determined_read false w.flags m.waiting.flags (told.flags_long ∙ sym mine.flags_long) (λ f lt.
            let long = told.flags_long in
            determined_bool _ _ (
              λ is. let set = (told.flags f (omega (arith, lt, long))).0 is in (mine.flags f).1 (set.2.0, set.0, set.2.1),
              λ is.
                  let set = (mine.flags f).0 is in
                  (told.flags f (omega (arith, lt, long))).1 (set.1, call_told_processor set.0 set.1 (Set f) set.2, (set.0, set.2)),
            ));
        asked = ap (λ (v : Vec ℕ). v.items) (call_told_asked t.rows.items 0 m.done (kept_waiting_asked asked)) ∙ same;
      }
