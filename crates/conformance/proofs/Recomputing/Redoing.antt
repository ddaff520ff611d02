-- A history done again on the flat memory, event by event.
use Rattle.std.proofs.Common.{ℕ, suc, ◌≡◌, ◌≢◌, List, [], ◌∷◌, inl, inr, Bool, true, false, cond, length, refl, sym, subst, ◌∙◌}
use Rattle.std.specs.Prelude.{◌==◌}
use Rattle.std.proofs.lemmas.Bool.{cond-true, cond-false, cases_eq, eq-eqb, ne_eqb}
use Rattle.std.proofs.lemmas.Option.{none-some}
use Rattle.journal.specs.declared.event.Event.{Event}
use Rattle.journal.specs.declared.event.Kind.{Kind}
use Rattle.journal.specs.declared.event.Kind.TheVariants.{Load}
use Rattle.journal.specs.DidEvent.{event}
use Rattle.journal.specs.ReplayMemory.{replay_memory_write, Replays}
use Rattle.journal.specs.EventsInRange.{EventAddressesInRange}
use Rattle.base.specs.LastWrite.{wrote}
use Rattle.conformance.specs.Follows.{is_fetch, calls_of}
use Rattle.conformance.specs.Like.{SameButValues}
use Rattle.conformance.proofs.FollowedCalls.{followed_calls_first, followed_calls_first-fetch, followed_calls_first-other}
use Rattle.conformance.proofs.Script.ScriptSteps.{ScriptStep, script_step_reply_after, AreScriptSteps, no_script_steps}
use Rattle.conformance.proofs.Recomputing.EventReplays.{RemadeAsEventReplays, remade_as_event_replays, event_replays_fetch_like, event_replays_fetch_answers, event_replays_first, event_replays_wrote_length, event_replays_like_first}

-- what a processor has still to call, and the reply that it was given last
pub record DueToRedo : Type 0 where
  pub steps : List ScriptStep
  pub reply : ℕ

-- each processor calls what is due, whatever it was answered before
abbrev pub CallsDueToRedo : List Event → (ℕ → DueToRedo) → Type 0
CallsDueToRedo es due = (p : ℕ) → (reply : ℕ) × AreScriptSteps reply (due p).steps (calls_of es p)

-- and what p calls is what is due after the reply that it was given last
abbrev pub RedoingCallsRight : List Event → (ℕ → DueToRedo) → ℕ → Type 0
RedoingCallsRight es due p = AreScriptSteps (due p).reply (due p).steps (calls_of es p)

-- the events on the flat memory, from the replies that were given last
pub record RedoingOfEvents (memory : List ℕ) (due : ℕ → DueToRedo) (es : List Event) : Type 0 where
  pub events : List Event
  pub like : SameButValues es events
  pub replays : Replays memory events
  pub calls : (p : ℕ) → RedoingCallsRight events due p

-- these events can be done so from any memory where their addresses are
abbrev CanRedo : List Event → Type 0
CanRedo es = (memory : List ℕ) (due : ℕ → DueToRedo) → EventAddressesInRange (length memory) es → CallsDueToRedo es due
    → RedoingOfEvents memory due es

-- what is due, but this of p
abbrev pub redo_updated : (ℕ → DueToRedo) → ℕ → DueToRedo → ℕ → DueToRedo
redo_updated due p d q = cond (q == p) d (due q)

redo_updated_at : (due : ℕ → DueToRedo) (p : ℕ) (d : DueToRedo) → redo_updated due p d p ≡ d
redo_updated_at due p d = cond-true (p == p) d (due p) (eq-eqb p p refl)

redo_updated_off : (due : ℕ → DueToRedo) (p q : ℕ) (d : DueToRedo) → p ≢ q → redo_updated due p d q ≡ due q
redo_updated_off due p q d apart = cond-false (q == p) d (due q) (ne_eqb q p (λ e. apart (sym e)))

-- what holds of p's and of all others' holds of all
pub redo_updated_each : (due : ℕ → DueToRedo) (p : ℕ) (d : DueToRedo) (P : ℕ → DueToRedo → Type 0) → P p d → ((q : ℕ) → p ≢ q → P q (due q))
    → (q : ℕ) → P q (redo_updated due p d q)
redo_updated_each due p d P own others q = elim (cases_eq p q) [
  | inl same ↦ subst (λ x. P x (redo_updated due p d x)) same (subst (P p) (sym (redo_updated_at due p d)) own)
  | inr apart ↦ subst (P q) (sym (redo_updated_off due p q d apart)) (others q apart)
]

-- the addresses of the rest are in the memory after the first event too
redo_inside_rest : (memory : List ℕ) (x e : Event) (es : List Event) → EventAddressesInRange (length memory) (e ∷ es)
    → EventAddressesInRange (length (wrote memory (replay_memory_write x.kind))) es
redo_inside_rest memory x e es inside i f at = rw (event_replays_wrote_length memory x) (inside (suc i) f at)

-- a fetch stays
redo_fetch : (memory : List ℕ) (due : ℕ → DueToRedo) (p : ℕ) (k : Kind) (es : List Event) → is_fetch k ≡ true
    → EventAddressesInRange (length memory) (event p k ∷ es) → CallsDueToRedo (event p k ∷ es) due → CanRedo es
    → RedoingOfEvents memory due (event p k ∷ es)
redo_fetch memory due p k es is inside calls redo =
    let e = event p k in
    let same : (q : ℕ) (gs : List Event) → calls_of (e ∷ gs) q ≡ calls_of gs q =
    λ q gs. followed_calls_first-fetch p q k gs is in
    let later : CallsDueToRedo es due =
    λ q. ((calls q).0, subst (AreScriptSteps (calls q).0 (due q).steps) (same q es) (calls q).1) in
    let rest = redo (wrote memory (replay_memory_write k)) due (redo_inside_rest memory e e es inside) later in
    record {
      events = e ∷ rest.events;
      like = event_replays_like_first p k k es rest.events refl rest.like;
      replays = event_replays_first memory e rest.events (event_replays_fetch_answers memory k is) rest.replays;
      calls = λ q. subst (AreScriptSteps (due q).reply (due q).steps) (sym (same q rest.events)) (rest.calls q);
    }

-- a call of p is made of its first step
redo_step : {memory : List ℕ} {due : ℕ → DueToRedo} {p : ℕ} (old : ℕ) {k : Kind} {es : List Event} {s : ScriptStep} {steps : List ScriptStep}
    → is_fetch k ≡ false → (due p).steps ≡ s ∷ steps → AreScriptSteps old (s ∷ steps) (k ∷ calls_of es p)
    → EventAddressesInRange (length memory) (event p k ∷ es) → CallsDueToRedo (event p k ∷ es) due → CanRedo es
    → RedoingOfEvents memory due (event p k ∷ es)
redo_step {memory = memory} {due = due} {p = p} old {k = k} {es = es} {s = s} {steps = steps} call first is inside calls redo =
    record {
      events = event p made.kind ∷ rest.events;
      like = event_replays_like_first p k made.kind es rest.events made.like rest.like;
      replays = event_replays_first memory (event p made.kind) rest.events made.answers rest.replays;
      calls = all;
    }
  where
    made : RemadeAsEventReplays memory (due p).reply s k
    made = remade_as_event_replays memory old (due p).reply s k (inside 0 (event p k) refl) is.0

    then : DueToRedo
    then = record { steps = steps; reply = script_step_reply_after (due p).reply made.kind }

    -- what another has still to call is the same without this call
    theirs : (q : ℕ) → p ≢ q → (reply : ℕ) × AreScriptSteps reply (due q).steps (calls_of es q)
    theirs q apart =
        let c = calls q in
        (c.0, subst (AreScriptSteps c.0 (due q).steps) (followed_calls_first-other p q k es apart) c.1)

    later : CallsDueToRedo es (redo_updated due p then)
    later =
        let P : ℕ → DueToRedo → Type 0 = λ q d. (reply : ℕ) × AreScriptSteps reply d.steps (calls_of es q) in
        redo_updated_each due p then P (script_step_reply_after old k, is.1) theirs

    rest : RedoingOfEvents (wrote memory (replay_memory_write made.kind)) (redo_updated due p then) es
    rest =
        let more = redo_inside_rest memory (event p made.kind) (event p k) es inside in
        redo (wrote memory (replay_memory_write made.kind)) (redo_updated due p then) more later

    own : RedoingCallsRight (event p made.kind ∷ rest.events) due p
    own =
        let P : DueToRedo → Type 0 = λ d. AreScriptSteps d.reply d.steps (calls_of rest.events p) in
        let mine = subst P (redo_updated_at due p then) (rest.calls p) in
        let both : AreScriptSteps (due p).reply (s ∷ steps) (made.kind ∷ calls_of rest.events p) = (made.is, mine) in
        rw (first, followed_calls_first p made.kind rest.events (sym (event_replays_fetch_like k made.kind made.like) ∙ call)) both

    others : (q : ℕ) → p ≢ q → RedoingCallsRight (event p made.kind ∷ rest.events) due q
    others q apart =
        let P : DueToRedo → Type 0 = λ d. AreScriptSteps d.reply d.steps (calls_of rest.events q) in
        let same = subst P (redo_updated_off due p q then apart) (rest.calls q) in
        rw (followed_calls_first-other p q made.kind rest.events apart) same

    all : (q : ℕ) → RedoingCallsRight (event p made.kind ∷ rest.events) due q
    all q = elim (cases_eq p q) [
      | inl e ↦ subst (RedoingCallsRight (event p made.kind ∷ rest.events) due) e own
      | inr apart ↦ others q apart
    ]

-- a call of p
redo_call : (memory : List ℕ) (due : ℕ → DueToRedo) (p : ℕ) (k : Kind) (es : List Event) → is_fetch k ≡ false
    → EventAddressesInRange (length memory) (event p k ∷ es) → CallsDueToRedo (event p k ∷ es) due → CanRedo es
    → RedoingOfEvents memory due (event p k ∷ es)
redo_call memory due p k es call inside calls redo =
    by_steps (due p).steps refl (subst (AreScriptSteps (calls p).0 (due p).steps) (followed_calls_first p k es call) (calls p).1)
  where
    by_steps : (steps : List ScriptStep) → (due p).steps ≡ steps → AreScriptSteps (calls p).0 steps (k ∷ calls_of es p)
        → RedoingOfEvents memory due (event p k ∷ es)
    by_steps [] first is = absurd is
    by_steps (s ∷ steps) first is = redo_step (calls p).0 call first is inside calls redo

redo_first : (memory : List ℕ) (due : ℕ → DueToRedo) (e : Event) (es : List Event) (fetches : Bool)
    → is_fetch e.kind ≡ fetches → EventAddressesInRange (length memory) (e ∷ es) → CallsDueToRedo (e ∷ es) due → CanRedo es
    → RedoingOfEvents memory due (e ∷ es)
redo_first memory due e es true is inside calls redo = redo_fetch memory due e.processor e.kind es is inside calls redo
redo_first memory due e es false is inside calls redo = redo_call memory due e.processor e.kind es is inside calls redo

-- every history can be done again
pub redo : (es : List Event) → CanRedo es
redo [] memory due inside calls =
    record {
      events = [];
      like = refl;
      replays = λ i p a v does. absurd (none-some (event p (Load a v)) does);
      calls = λ p. no_script_steps (calls p).0 (due p).reply (due p).steps (calls p).1;
    }
redo (e ∷ es) memory due inside calls = redo_first memory due e es (is_fetch e.kind) refl inside calls (redo es)
