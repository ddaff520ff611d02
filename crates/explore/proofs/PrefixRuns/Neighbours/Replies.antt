-- An access after others' events: its processor may still make it, a load with the reply that it then has.
use Rattle.std.proofs.Common.{ℕ, suc, ◌≡◌, ◌≢◌, inl, inr, List, [], ◌∷◌, ◌++◌, replicate, Option, Some, get_or, refl, sym, ap, subst, ◌∙◌, append-nil, arith}
use Rattle.std.proofs.lemmas.Option.{none-some, slice_get_within, slice_get-get_or}
use Rattle.base.proofs.LastWritten.{length-written}
use Rattle.journal.specs.declared.event.Event.{Event}
use Rattle.journal.specs.declared.event.Kind.{Kind}
use Rattle.journal.specs.declared.event.Kind.TheVariants.{Load, Store, Ask, Arrive, Watch}
use Rattle.journal.specs.DidEvent.{event}
use Rattle.journal.specs.Sizes.{Sizes}
use Rattle.journal.specs.Events.{EventAt, event_address, event_stores}
use Rattle.journal.specs.ReplayMemory.{replay_memory_write, memory_after, AnswersReplayMemory}
use Rattle.journal.specs.Races.{Conflict}
use Rattle.journal.specs.WellFormed.{WellFormedAnswer, WellFormedAllows, WellFormedNext}
use Rattle.journal.proofs.Journals.WellFormedStays.{well_formed_stays_last_shorter}
use Rattle.lrc_script.specs.Plan.{Plan}
use Rattle.lrc_script.specs.Lawful.{plan_addresses}
use Rattle.conformance.specs.Follows.{plan_sizes, calls_of, is_fetch}
use Rattle.conformance.proofs.FollowedCalls.{followed_calls-append, followed_calls_first-other}
use Rattle.explore.specs.declared.prefixes.script_call.ScriptCall.{ScriptCall}
use Rattle.explore.specs.declared.prefixes.script_call.ScriptCall.TheVariants.{Call, Adds}
use Rattle.explore.specs.Prefixes.ScriptCalls.{replyless_script_call, last_reply_of_script_calls, FitsScriptCall, IsScriptCallNext, script_calls_of_section, script_calls_shown_by}
use Rattle.explore.specs.Prefixes.PrefixLaws.{PrefixCanGoOn}

-- the call, with the reply that a load of it has in this memory
abbrev pub neighbour_replied_call : List ℕ → Kind → Kind
neighbour_replied_call memory (Load w v) = Load w (get_or memory w 0)
neighbour_replied_call memory k = k

-- all but the reply is the same
pub neighbour_replied_replyless : (memory : List ℕ) (k : Kind) → replyless_script_call (neighbour_replied_call memory k) ≡ replyless_script_call k
neighbour_replied_replyless memory (Load w v) = refl
neighbour_replied_replyless memory _ = refl

neighbour_replied_address : (memory : List ℕ) (k : Kind) → event_address (neighbour_replied_call memory k) ≡ event_address k
neighbour_replied_address memory (Load w v) = refl
neighbour_replied_address memory _ = refl

neighbour_replied_store : (memory : List ℕ) (k : Kind) → event_stores (neighbour_replied_call memory k) ≡ event_stores k
neighbour_replied_store memory (Load w v) = refl
neighbour_replied_store memory _ = refl

neighbour_replied_fetch : (memory : List ℕ) (k : Kind) → is_fetch (neighbour_replied_call memory k) ≡ is_fetch k
neighbour_replied_fetch memory (Load w v) = refl
neighbour_replied_fetch memory _ = refl

-- what conflicts does so whatever the replies are
pub neighbour_replied_conflict_first : (f : Event) (p : ℕ) (memory : List ℕ) (a : Kind) → Conflict (event p a) f
    → Conflict (event p (neighbour_replied_call memory a)) f
neighbour_replied_conflict_first f p memory a c = record {
  address = c.address;
  first = neighbour_replied_address memory a ∙ c.first;
  second = c.second;
  stores = elim c.stores [ inl s ↦ inl (neighbour_replied_store memory a ∙ s) | inr s ↦ inr s ];
}

pub neighbour_replied_conflict_second : (e : Event) (q : ℕ) (memory : List ℕ) (b : Kind) → Conflict e (event q b)
    → Conflict e (event q (neighbour_replied_call memory b))
neighbour_replied_conflict_second e q memory b c = record {
  address = c.address;
  first = c.first;
  second = neighbour_replied_address memory b ∙ c.second;
  stores = elim c.stores [ inl s ↦ inl s | inr s ↦ inr (neighbour_replied_store memory b ∙ s) ];
}

-- after a call that waits no load comes, whatever its reply is
neighbour_replied_answers_any : (c : Kind) (w v u : ℕ) → WellFormedAnswer c (Load w v) → WellFormedAnswer c (Load w u)
neighbour_replied_answers_any (Ask l) w v u h = absurd cc
neighbour_replied_answers_any Arrive w v u h = absurd cc
neighbour_replied_answers_any (Watch f) w v u h = absurd cc
neighbour_replied_answers_any _ w v u h = h

-- what may follow may do so with any reply
neighbour_replied_may_follow : (s : Sizes) (h : List Event) (q : ℕ) (k : Kind) (memory : List ℕ) → WellFormedNext s h (event q k)
    → WellFormedNext s h (event q (neighbour_replied_call memory k))
neighbour_replied_may_follow s h q (Load w v) memory may = record {
  processor = may.processor;
  in_range = may.in_range;
  answers = λ i c last. neighbour_replied_answers_any c w v (get_or memory w 0) (may.answers i c last);
  allowed = tt;
}
neighbour_replied_may_follow s h q _ memory may = may

-- a step says its call whatever the reply is
pub neighbour_replied_step : (reply : ℕ) (step : ScriptCall) (k : Kind) (memory : List ℕ) → FitsScriptCall reply step k
    → FitsScriptCall reply step (neighbour_replied_call memory k)
neighbour_replied_step reply (Call c) k memory is = neighbour_replied_replyless memory k ∙ is
neighbour_replied_step reply (Adds a v) k memory is = ap (neighbour_replied_call memory) is

-- after events that leave q's calls, its next call is the same but for the reply
pub neighbour_replied_next : (s : Plan) (g h : List Event) (q : ℕ) (k : Kind) → WellFormedNext (plan_sizes s) h (event q k)
    → calls_of g q ≡ calls_of h q → PrefixCanGoOn s g q k → PrefixCanGoOn s h q (neighbour_replied_call (memory_after (replicate (plan_addresses s) 0) h) k)
neighbour_replied_next s g h q k may same next = record {
  may_follow = neighbour_replied_may_follow (plan_sizes s) h q k memory may;
  calls = record {
    call = neighbour_replied_fetch memory k ∙ next.calls.call;
    next = λ section at. (let is = next.calls.next section at in
        subst (λ calls. IsScriptCallNext (script_calls_of_section section (script_calls_shown_by s q)) calls (neighbour_replied_call memory k)) same
        (record {
          step = is.step;
          at = is.at;
          is = neighbour_replied_step (last_reply_of_script_calls (calls_of g q)) is.step k memory is.is;
        }));
  };
  answers = answers k next.answers;
}
  where
    memory : List ℕ
    memory = memory_after (replicate (plan_addresses s) 0) h

    answers : (k : Kind) → AnswersReplayMemory (memory_after (replicate (plan_addresses s) 0) g) k
        → AnswersReplayMemory memory (neighbour_replied_call memory k)
    answers (Load w v) word =
        let f : Event → Option (ℕ × ℕ) = λ e. replay_memory_write e.kind in
        let within = slice_get_within (memory_after (replicate (plan_addresses s) 0) g) w v word in
        let old = length-written f (replicate (plan_addresses s) 0) g in
        let new = length-written f (replicate (plan_addresses s) 0) h in
        slice_get-get_or memory w 0 (omega arith)
    answers _ word = word

-- events that are none of r's make no calls of r
neighbour_replied_calls_away : (es : List Event) (r : ℕ) → ((m : ℕ) (f : Event) → EventAt es m f → f.processor ≢ r) → calls_of es r ≡ []
neighbour_replied_calls_away [] r away = refl
neighbour_replied_calls_away (e ∷ es) r away =
    followed_calls_first-other e.processor r e.kind es (away 0 e refl) ∙ neighbour_replied_calls_away es r (λ m. away (suc m))

-- an access waits for nothing
neighbour_replied_access_allowed : (s : Sizes) (j : List Event) (r : ℕ) (k : Kind) (w : ℕ) → event_address k ≡ Some w → WellFormedAllows s j r k
neighbour_replied_access_allowed s j r (Load a v) w at = tt
neighbour_replied_access_allowed s j r (Store a v) w at = tt
neighbour_replied_access_allowed s j r _ w at = absurd (none-some w at)

-- an access that may come next may do so after others' events
pub neighbour_replied_access_over : (s : Plan) (g es : List Event) (q : ℕ) (k : Kind) (w : ℕ) → event_address k ≡ Some w
    → ((m : ℕ) (f : Event) → EventAt es m f → f.processor ≢ q) → PrefixCanGoOn s g q k
    → PrefixCanGoOn s (g ++ es) q (neighbour_replied_call (memory_after (replicate (plan_addresses s) 0) (g ++ es)) k)
neighbour_replied_access_over s g es q k w at away next =
    neighbour_replied_next s g (g ++ es) q k
    (record {
      processor = next.may_follow.processor;
      in_range = next.may_follow.in_range;
      answers = λ i c last. next.may_follow.answers i c (well_formed_stays_last_shorter g es q i c away last);
      allowed = neighbour_replied_access_allowed (plan_sizes s) (g ++ es) q k w at;
    })
    (sym (append-nil (calls_of g q)) ∙ ap (λ ks. calls_of g q ++ ks) (sym (neighbour_replied_calls_away es q away))
    ∙ sym (followed_calls-append g es q)) next
