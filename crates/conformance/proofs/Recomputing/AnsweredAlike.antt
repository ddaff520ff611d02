-- Two histories that begin a lawful script are the same if they are alike, and answer the same where they load after the same
-- events. Flat runs do.
use Rattle.std.proofs.Common.{ℕ, suc, ◌≡◌, ◌≢◌, ◌+◌, ◌<◌, List, [], ◌∷◌, ◌++◌, Bool, true, false, Some, cond, get_or, length, replicate, slice_get, take, refl, sym, ap, ap₂, subst, arith, ◌∙◌, append-nil}
use Rattle.std.specs.Prelude.{◌==◌}
use Rattle.std.proofs.lemmas.Option.{same_Some, slice_get-get_or}
use Rattle.std.proofs.Math.Seq.{take-append_seam}
use Rattle.base.proofs.SlicesAndCounts.{slice_get-append_right}
use Rattle.journal.specs.declared.event.Event.{Event}
use Rattle.journal.specs.declared.event.Kind.{Kind}
use Rattle.journal.specs.declared.event.Kind.TheVariants.{Load, Store}
use Rattle.journal.specs.DidEvent.{event}
use Rattle.journal.specs.Events.{EventAt}
use Rattle.journal.specs.ReplayMemory.{Replays, memory_after}
use Rattle.journal.specs.EventsInRange.{EventProcessorsInRange}
use Rattle.lrc_script.specs.Plan.{Plan}
use Rattle.lrc_script.specs.Lawful.{plan_addresses, IsLawful}
use Rattle.conformance.specs.ScriptBegins.{BeginsScript}
use Rattle.conformance.specs.Follows.{is_fetch, calls_of, Follows, FollowsSection}
use Rattle.conformance.specs.Like.{like_without_value, event_like_without_value, SameButValues}
use Rattle.conformance.specs.RecomputedLaws.{OnlyRecomputedLaw}
use Rattle.conformance.proofs.FollowedCalls.{followed_calls_first, followed_calls_first-fetch, followed_calls_first-other}
use Rattle.conformance.proofs.Like.Places.{like_place_has_value, like_place_exact}
use Rattle.conformance.proofs.Script.ScriptSteps.{ScriptStep, script_step_reply_after, IsScriptStep, AreScriptSteps}
use Rattle.conformance.proofs.Script.ScriptSteps.ScriptStep.{plain, adds}
use Rattle.conformance.proofs.Script.SectionSteps.{section_step_told, section_step_load_told, section_steps_whole, section_steps}
use Rattle.conformance.proofs.Recomputing.EventReplays.{event_replays_fetch_like}
use Rattle.conformance.proofs.Recomputing.Redoing.{DueToRedo, redo_updated, redo_updated_each}

-- if these are loads of one address, they answer the same
abbrev AreAnsweredAlike : Kind → Kind → Type 0
AreAnsweredAlike k l = (a v w : ℕ) → k ≡ Load a v → l ≡ Load a w → v ≡ w

-- the two histories answer the same where they load after the same events
abbrev pub AnsweredAlike : List Event → List Event → Type 0
AnsweredAlike f g = (front us vs : List Event) (p a v w : ℕ) → f ≡ front ++ event p (Load a v) ∷ us
    → g ≡ front ++ event p (Load a w) ∷ vs → v ≡ w

-- two calls of one step are the same
answered_alike_call : (reply : ℕ) (s : ScriptStep) (k l : Kind) → IsScriptStep reply s k → IsScriptStep reply s l → AreAnsweredAlike k l → k ≡ l
answered_alike_call reply (adds a v) k l first second replies = first ∙ sym second
answered_alike_call reply (plain c) (Load a v) l first second replies =
    let load = section_step_load_told l a (second ∙ sym first) in
    ap (Load a) (replies a v load.0 refl load.1) ∙ sym load.1
answered_alike_call reply (plain c) k l first second replies = sym (section_step_told l k (second ∙ sym first) refl)

-- both first calls are of one step, so they are the same
answered_alike_first : (reply : ℕ) (steps : List ScriptStep) {k l : Kind} (ks ls : List Kind) → AreScriptSteps reply steps (k ∷ ks)
    → AreScriptSteps reply steps (l ∷ ls) → AreAnsweredAlike k l → k ≡ l
answered_alike_first reply [] ks ls first second replies = absurd first
answered_alike_first reply (s ∷ steps) {k = k} {l = l} ks ls first second replies = answered_alike_call reply s k l first.0 second.0 replies

-- a fetch has no value
answered_alike_fetch : (k l : Kind) → is_fetch k ≡ true → like_without_value k ≡ like_without_value l → k ≡ l
answered_alike_fetch k l is same = sym (like_place_exact l k (sym same) (plain_fetch k is))
  where
    plain_fetch : (x : Kind) → is_fetch x ≡ true → like_place_has_value x ≡ false
    plain_fetch (Load a v) h = sym h
    plain_fetch (Store a v) h = sym h
    plain_fetch _ h = refl

-- what is left of the steps, and of what is due, after a call
abbrev answered_alike_rest_of : List ScriptStep → List ScriptStep
answered_alike_rest_of [] = []
answered_alike_rest_of (s ∷ steps) = steps

abbrev answered_alike_due_after_call : DueToRedo → Kind → DueToRedo
answered_alike_due_after_call d k = record { steps = answered_alike_rest_of d.steps; reply = script_step_reply_after d.reply k }

abbrev answered_alike_called : (ℕ → DueToRedo) → ℕ → Kind → ℕ → DueToRedo
answered_alike_called due p k = redo_updated due p (answered_alike_due_after_call (due p) k)

answered_alike_rest_steps : (reply : ℕ) (steps : List ScriptStep) (k : Kind) (kinds : List Kind) → AreScriptSteps reply steps (k ∷ kinds)
    → AreScriptSteps (script_step_reply_after reply k) (answered_alike_rest_of steps) kinds
answered_alike_rest_steps reply [] k kinds h = absurd h
answered_alike_rest_steps reply (s ∷ steps) k kinds h = h.1

-- with some calls more, these are due
abbrev AnsweredAlikeBeginsDue : DueToRedo → List Kind → Type 0
AnsweredAlikeBeginsDue d kinds = (rest : List Kind) × AreScriptSteps d.reply d.steps (kinds ++ rest)

-- each of the first processors begins what is due
abbrev AnsweredAlikeFirstCalls : ℕ → List Event → (ℕ → DueToRedo) → Type 0
AnsweredAlikeFirstCalls n es due = (p : ℕ) → p < n → AnsweredAlikeBeginsDue (due p) (calls_of es p)

answered_alike_after_call : (n p : ℕ) (k : Kind) (es : List Event) (due : ℕ → DueToRedo) → is_fetch k ≡ false
    → AnsweredAlikeFirstCalls n (event p k ∷ es) due → AnsweredAlikeFirstCalls n es (answered_alike_called due p k)
answered_alike_after_call n p k es due call calls =
    redo_updated_each due p (answered_alike_due_after_call (due p) k) P own others
  where
    P : ℕ → DueToRedo → Type 0
    P q d = q < n → AnsweredAlikeBeginsDue d (calls_of es q)

    own : p < n → AnsweredAlikeBeginsDue (answered_alike_due_after_call (due p) k) (calls_of es p)
    own inside =
        let now = subst (AnsweredAlikeBeginsDue (due p)) (followed_calls_first p k es call) (calls p inside) in
        (now.0, answered_alike_rest_steps (due p).reply (due p).steps k (calls_of es p ++ now.0) now.1)

    others : (q : ℕ) → p ≢ q → q < n → AnsweredAlikeBeginsDue (due q) (calls_of es q)
    others q apart inside = subst (AnsweredAlikeBeginsDue (due q)) (followed_calls_first-other p q k es apart) (calls q inside)

answered_alike_after_fetch : (n p : ℕ) (k : Kind) (es : List Event) (due : ℕ → DueToRedo) → is_fetch k ≡ true
    → AnsweredAlikeFirstCalls n (event p k ∷ es) due → AnsweredAlikeFirstCalls n es due
answered_alike_after_fetch n p k es due is calls q inside =
    subst (AnsweredAlikeBeginsDue (due q)) (followed_calls_first-fetch p q k es is) (calls q inside)

-- they do so in two histories
record AnsweredAlikeBothBegin (n : ℕ) (f g : List Event) (due : ℕ → DueToRedo) : Type 0 where
  first : AnsweredAlikeFirstCalls n f due
  second : AnsweredAlikeFirstCalls n g due

-- the events are one way only, whatever is due
abbrev IsOnlyAnsweredAlike : ℕ → List Event → Type 0
IsOnlyAnsweredAlike n f = (g : List Event) (due : ℕ → DueToRedo) → EventProcessorsInRange n f → SameButValues f g → AnsweredAlike f g
    → AnsweredAlikeBothBegin n f g due → f ≡ g

-- with the first event the same
answered_alike_rest : {n p : ℕ} {k : Kind} {f g : List Event} (due : ℕ → DueToRedo) (fetches : Bool) → is_fetch k ≡ fetches → IsOnlyAnsweredAlike n f
    → EventProcessorsInRange n (event p k ∷ f) → SameButValues f g → AnsweredAlike f g
    → AnsweredAlikeBothBegin n (event p k ∷ f) (event p k ∷ g) due → f ≡ g
answered_alike_rest {n = n} {p = p} {k = k} {f = f} {g = g} due true is only inside like answers calls =
    only g due (λ i e at. inside (suc i) e at) like answers (record {
      first = answered_alike_after_fetch n p k f due is calls.first;
      second = answered_alike_after_fetch n p k g due is calls.second;
    })
answered_alike_rest {n = n} {p = p} {k = k} {f = f} {g = g} due false is only inside like answers calls =
    only g (answered_alike_called due p k) (λ i e at. inside (suc i) e at) like answers (record {
      first = answered_alike_after_call n p k f due is calls.first;
      second = answered_alike_after_call n p k g due is calls.second;
    })

-- the first events are the same
answered_alike_kind : {n p : ℕ} {k l : Kind} {f g : List Event} (due : ℕ → DueToRedo) (fetches : Bool) → is_fetch k ≡ fetches
    → like_without_value k ≡ like_without_value l → p < n → AreAnsweredAlike k l
    → AnsweredAlikeBothBegin n (event p k ∷ f) (event p l ∷ g) due → k ≡ l
answered_alike_kind {k = k} {l = l} due true is like inside replies calls = answered_alike_fetch k l is like
answered_alike_kind {p = p} {k = k} {l = l} {f = f} {g = g} due false is like inside replies calls =
    let mine = subst (AnsweredAlikeBeginsDue (due p)) (followed_calls_first p k f is) (calls.first p inside) in
    let call = sym (event_replays_fetch_like k l like) ∙ is in
    let theirs = subst (AnsweredAlikeBeginsDue (due p)) (followed_calls_first p l g call) (calls.second p inside) in
    answered_alike_first (due p).reply (due p).steps (calls_of f p ++ mine.0) (calls_of g p ++ theirs.0) mine.1 theirs.1 replies

-- so all are
answered_alike_events : (n : ℕ) (f : List Event) → IsOnlyAnsweredAlike n f
answered_alike_events n [] [] due inside like answers calls = refl
answered_alike_events n [] (x ∷ g) due inside like answers calls = absurd (cc)
answered_alike_events n (e ∷ f) [] due inside like answers calls = absurd (cc)
answered_alike_events n (e ∷ f) (x ∷ g) due inside like answers calls =
    let heads : event_like_without_value e ≡ event_like_without_value x = cc in
    let tails : SameButValues f g = cc in
    let mine : e.processor ≡ x.processor = ap (λ (y : Event). y.processor) heads in
    let kinds : like_without_value e.kind ≡ like_without_value x.kind = ap (λ (y : Event). y.kind) heads in
    let replies : AreAnsweredAlike e.kind x.kind =
    λ a v w one other. answers [] f g e.processor a v w (ap (λ k. event e.processor k ∷ f) one)
    (ap₂ (λ p k. event p k ∷ g) (sym mine) other) in
    let P : ℕ → Type 0 = λ p. AnsweredAlikeBothBegin n (e ∷ f) (event p x.kind ∷ g) due in
    let kind = answered_alike_kind due (is_fetch e.kind) refl kinds (inside 0 e refl) replies (subst P (sym mine) calls) in
    let same : e ≡ x = ap₂ event mine kind in
    let Q : Event → Type 0 = λ y. AnsweredAlike (e ∷ f) (y ∷ g) in
    let again = subst Q (sym same) answers in
    let later : AnsweredAlike f g =
    λ front us vs p a v w one other. again (e ∷ front) us vs p a v w (ap (λ es. e ∷ es) one) (ap (λ es. e ∷ es) other) in
    let R : Event → Type 0 = λ y. AnsweredAlikeBothBegin n (e ∷ f) (y ∷ g) due in
    let rest = answered_alike_rest due (is_fetch e.kind) refl (answered_alike_events n f) inside tails later (subst R (sym same) calls) in
    ap₂ (λ y ys. y ∷ ys) same rest

-- what p of a lawful script has to call
abbrev answered_alike_due_of : Plan → ℕ → DueToRedo
answered_alike_due_of s p = record { steps = section_steps_whole (get_or s.sections p []) (cond (p == 0) s.shown []); reply = 0 }

answered_alike_calls_right : (s : Plan) (f : List Event) → IsLawful s → BeginsScript s f → AnsweredAlikeFirstCalls s.processors f (answered_alike_due_of s)
answered_alike_calls_right s f lawful begins p inside =
    let one_each = lawful.but_uneven.one_each in
    let at = slice_get-get_or s.sections p [] (omega arith) in
    let section = get_or s.sections p [] in
    let begun = begins p section at in
    (begun.rest, section_steps section (cond (p == 0) s.shown []) (calls_of f p ++ begun.rest) 0 begun.follows)

-- what follows a script begins it
pub answered_alike_follower_begins : (s : Plan) (h : List Event) → Follows s h → BeginsScript s h
answered_alike_follower_begins s h follows p section at = record {
  rest = [];
  follows = subst (FollowsSection section (cond (p == 0) s.shown [])) (sym (append-nil (calls_of h p))) (follows p section at);
}

-- so histories that begin a lawful script, are alike and answer the same are the same
pub answered_alike_only : (s : Plan) (f g : List Event) → IsLawful s → EventProcessorsInRange s.processors f → BeginsScript s f → BeginsScript s g
    → SameButValues f g → AnsweredAlike f g → f ≡ g
answered_alike_only s f g lawful inside first second like answers =
    answered_alike_events s.processors f g (answered_alike_due_of s) inside like answers (record {
      first = answered_alike_calls_right s f lawful first;
      second = answered_alike_calls_right s g lawful second;
    })

-- an event behind others stands where they end
pub answered_alike_stands : {f : List Event} (front us : List Event) (e : Event) → f ≡ front ++ e ∷ us → EventAt f (length front) e
answered_alike_stands front us e is =
    let none : length front + 0 ≡ length front = omega arith in
    ap (λ (es : List Event). slice_get es (length front)) is
    ∙ subst (λ (n : ℕ). slice_get (front ++ e ∷ us) n ≡ Some e) none (slice_get-append_right front (e ∷ us) 0)

-- a load behind others answers the word of the memory after them
answered_alike_replayed : (memory : List ℕ) {f : List Event} (front us : List Event) (p a v : ℕ) → Replays memory f
    → f ≡ front ++ event p (Load a v) ∷ us → slice_get (memory_after memory front) a ≡ Some v
answered_alike_replayed memory front us p a v replays is =
    let P : List Event → Type 0 = λ es. slice_get (memory_after memory es) a ≡ Some v in
    subst P (ap (λ (es : List Event). take (length front) es) is ∙ take-append_seam front (event p (Load a v) ∷ us))
    (replays (length front) p a v (answered_alike_stands front us (event p (Load a v)) is))

-- flat runs of a lawful script that are alike are the same
pub answered_alike_only_law : OnlyRecomputedLaw
answered_alike_only_law s f g lawful first second like =
    answered_alike_only s f g lawful (λ i e at. (first.well_formed i e at).processor) (answered_alike_follower_begins s f first.follows)
    (answered_alike_follower_begins s g second.follows) like answers
  where
    memory : List ℕ
    memory = replicate (plan_addresses s) 0

    answers : AnsweredAlike f g
    answers front us vs p a v w one other =
        same_Some v w (sym (answered_alike_replayed memory front us p a v first.replays one)
        ∙ answered_alike_replayed memory front vs p a w second.replays other)
