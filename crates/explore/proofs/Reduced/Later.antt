-- Where a call that may come later stands in its processor's steps.
use Rattle.std.proofs.Common.{ℕ, ◌≡◌, ◌≢◌, ◌≤◌, List, ◌++◌, length, Some, slice_get, sym, ap, subst, ◌∙◌, append-nil, length-append, arith}
use Rattle.std.specs.Global.{Vec}
use Rattle.std.proofs.lemmas.Option.{same_Some, slice_get_within}
use Rattle.journal.specs.declared.event.Event.{Event}
use Rattle.journal.specs.declared.event.Kind.{Kind}
use Rattle.journal.specs.declared.event.Kind.TheVariants as kind
use Rattle.journal.specs.DidEvent.{did}
use Rattle.journal.specs.Events.{EventAt}
use Rattle.lrc_script.specs.Plan.{Plan}
use Rattle.conformance.specs.Follows.{calls_of}
use Rattle.conformance.proofs.FollowedCalls.{followed_calls-append, followed_calls_of_others}
use Rattle.explore.specs.declared.prefixes.script_call.ScriptCall.{ScriptCall}
use Rattle.explore.specs.declared.prefixes.script_call.ScriptCall.TheVariants.{Call, Adds}
use Rattle.explore.specs.Machines.{AreLawfulMachineSteps}
use Rattle.explore.specs.PersistentSets.{IsYetToCall}
use Rattle.explore.specs.Prefixes.FlatBeginnings.{IsFlatBeginning}
use Rattle.explore.specs.Prefixes.ScriptCalls.{FitsScriptCall, last_reply_of_script_calls, replyless_script_call}
use Rattle.explore.proofs.MachineSteps.{machine_step_next_within, machine_step_rows_many, machine_step_row, machine_step_some_at}
use Rattle.explore.proofs.PrefixRuns.Beginnings.{prefix_beginning_next}

-- the step of a call
later_ask_call : (c : Kind) (l : ℕ) → replyless_script_call (kind.Ask l) ≡ replyless_script_call c → c ≡ kind.Ask l
later_ask_call (kind.Load a v) l is = absurd cc
later_ask_call c l is = sym is

later_ask_step : (reply : ℕ) (x : ScriptCall) (l : ℕ) → FitsScriptCall reply x (kind.Ask l) → x ≡ Call (kind.Ask l)
later_ask_step reply (Call c) l is = ap Call (later_ask_call c l is)
later_ask_step reply (Adds a v) l is = absurd cc

later_set_call : (c : Kind) (f : ℕ) → replyless_script_call (kind.Set f) ≡ replyless_script_call c → c ≡ kind.Set f
later_set_call (kind.Load a v) f is = absurd cc
later_set_call c f is = sym is

later_set_step : (reply : ℕ) (x : ScriptCall) (f : ℕ) → FitsScriptCall reply x (kind.Set f) → x ≡ Call (kind.Set f)
later_set_step reply (Call c) f is = ap Call (later_set_call c f is)
later_set_step reply (Adds a v) f is = absurd cc

-- p's step that comes next after g, and fits the call
record IsLaterStep (rows : List (Vec ScriptCall)) (g : List Event) (p : ℕ) (k : Kind) : Type 0 where
  row : Vec ScriptCall
  at : slice_get rows p ≡ Some row
  step : ScriptCall
  next : slice_get row.items (length (calls_of g p)) ≡ Some step
  fits : FitsScriptCall (last_reply_of_script_calls (calls_of g p)) step k

module _ (s : Plan) (rows : List (Vec ScriptCall)) (steps : AreLawfulMachineSteps s rows) where
  later_step : (g : List Event) (p : ℕ) (k : Kind) → IsFlatBeginning s (did g p k) → IsLaterStep rows g p k
  later_step g p k next =
      let within = machine_step_next_within s g p k next in
      let many = machine_step_rows_many s rows steps in
      let row = machine_step_some_at rows p (omega arith) in
      let of = machine_step_row s rows p row.0 steps.are row.1 in
      let called = ((prefix_beginning_next s g p k).0 next).1.calls.next of.section of.at in
      record {
        row = row.0;
        at = row.1;
        step = called.step;
        next = subst (λ xs. slice_get xs (length (calls_of g p)) ≡ Some called.step) (sym of.are) called.at;
        fits = called.is;
      }

  later_call : (g more : List Event) (p : ℕ) (k : Kind) → ((reply : ℕ) (x : ScriptCall) → FitsScriptCall reply x k → x ≡ Call k)
      → IsFlatBeginning s (did (g ++ more) p k) → IsYetToCall rows g p k
  later_call g more p k only next =
      let there = later_step (g ++ more) p k next in
      let both = ap (λ (ks : List Kind). length ks) (followed_calls-append g more p) in
      let long = length-append (calls_of g p) (calls_of more p) in
      record {
        row = there.row;
        at = there.at;
        place = length (calls_of (g ++ more) p);
        behind = omega arith;
        calls = there.next ∙ ap Some (only (last_reply_of_script_calls (calls_of (g ++ more) p)) there.step there.fits);
      }

  pub later_ask : (g more : List Event) (p l : ℕ) → IsFlatBeginning s (did (g ++ more) p (kind.Ask l)) → IsYetToCall rows g p (kind.Ask l)
  later_ask g more p l = later_call g more p (kind.Ask l) (λ reply x. later_ask_step reply x l)

  pub later_set : (g more : List Event) (p f : ℕ) → IsFlatBeginning s (did (g ++ more) p (kind.Set f)) → IsYetToCall rows g p (kind.Set f)
  later_set g more p f = later_call g more p (kind.Set f) (λ reply x. later_set_step reply x f)

  -- who may ask for a lock asks for it first, whatever others do before
  pub later_same_ask : (g more : List Event) (p l : ℕ) (k : Kind) → ((m : ℕ) (e : Event) → EventAt more m e → e.processor ≢ p)
      → IsFlatBeginning s (did g p (kind.Ask l)) → IsFlatBeginning s (did (g ++ more) p k) → k ≡ kind.Ask l
  later_same_ask g more p l k away now next =
      let here = later_step g p (kind.Ask l) now in
      let there = later_step (g ++ more) p k next in
      let same : calls_of (g ++ more) p ≡ calls_of g p =
      followed_calls-append g more p ∙ ap (λ ks. calls_of g p ++ ks) (followed_calls_of_others p more away) ∙ append-nil (calls_of g p) in
      let row : there.row ≡ here.row = same_Some there.row here.row (sym there.at ∙ here.at) in
      let own = later_ask_step (last_reply_of_script_calls (calls_of g p)) here.step l here.fits in
      let step : there.step ≡ Call (kind.Ask l) =
      same_Some there.step (Call (kind.Ask l))
      (sym there.next ∙ ap (λ (ks : List Kind). slice_get there.row.items (length ks)) same
      ∙ ap (λ (r : Vec ScriptCall). slice_get r.items (length (calls_of g p))) row ∙ here.next ∙ ap Some own) in
      later_ask_is (last_reply_of_script_calls (calls_of (g ++ more) p)) k l (subst (λ x. FitsScriptCall (last_reply_of_script_calls (calls_of (g ++ more) p)) x k) step there.fits)
    where
      later_ask_is : (reply : ℕ) (c : Kind) (m : ℕ) → FitsScriptCall reply (Call (kind.Ask m)) c → c ≡ kind.Ask m
      later_ask_is reply (kind.Load a v) m is = absurd cc
      later_ask_is reply c m is = is

  -- who has made all its calls makes no more
  pub later_none : (g more : List Event) (p : ℕ) (k : Kind) (row : Vec ScriptCall) → slice_get rows p ≡ Some row
      → length row.items ≤ length (calls_of g p) → ¬ IsFlatBeginning s (did (g ++ more) p k)
  later_none g more p k row at over next =
      let there = later_step (g ++ more) p k next in
      let same : there.row ≡ row = same_Some there.row row (sym there.at ∙ at) in
      let within = slice_get_within row.items (length (calls_of (g ++ more) p)) there.step
      (subst (λ (r : Vec ScriptCall). slice_get r.items (length (calls_of (g ++ more) p)) ≡ Some there.step) same there.next) in
      let both = ap (λ (ks : List Kind). length ks) (followed_calls-append g more p) in
      let long = length-append (calls_of g p) (calls_of more p) in
      omega (arith, within, both, long, over)
