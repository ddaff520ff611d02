-- The history that turns make has what each processor has called, but for its open block.
use Rattle.std.proofs.Common.{ℕ, ◌≡◌, ◌≢◌, inl, inr, Bool, true, false, cond, Option, Some, None, List, [], ◌∷◌, ◌++◌, length, map, slice_get, slice_set, refl, sym, ap, subst, subst₂, ◌∙◌, append_assoc, append-nil}
use Rattle.std.specs.Prelude.{nat_lt}
use Rattle.std.proofs.lemmas.Bool.{cases_eq}
use Rattle.std.proofs.lemmas.List.{map-append}
use Rattle.base.specs.Limits.{most_in_block}
use Rattle.base.proofs.SliceSets.{slice_get-replicate_found, slice_get-set_found, slice_get-set_other}
use Rattle.journal.specs.declared.event.Event.{Event}
use Rattle.journal.specs.declared.event.Kind.{Kind}
use Rattle.journal.specs.DidEvent.{event}
use Rattle.journal.specs.Events.{event_address}
use Rattle.journal.specs.Sizes.{Sizes}
use Rattle.lrc_script.specs.declared.script.Instruction.{Instruction}
use Rattle.lrc_script.specs.declared.script.Instruction.TheVariants.{Load, Store, Add, Acquire, Release, Barrier, Set, Await, Cut}
use Rattle.lrc_script.specs.Plan.{Plan}
use Rattle.conformance.specs.Follows.{calls_of, is_fetch, plan_sizes}
use Rattle.conformance.specs.InstructionEvents.{AreEventsOfInstruction}
use Rattle.conformance.specs.OpenBlocks.{OpenBlockNotesAll, OpenBlockNotesAt, OpenBlock, open_block_handed_in, open_block_noted, open_block}
use Rattle.conformance.specs.TurnCallsLaw.{HasTurnCalls, TurnCallsLaw}
use Rattle.conformance.specs.ScriptTurns.{AreScriptTurns, IsScriptTurn, IsScriptTurnAt, ScriptTurnStage, first_script_turn_stages, script_turn_instruction, script_turn_stage}
use Rattle.conformance.specs.declared.progress.TurnProgress.{TurnProgress}
use Rattle.conformance.specs.declared.progress.TurnProgress.TheVariants.{Next, Passed, Waits}
use Rattle.conformance.proofs.FollowedCalls.{followed_calls_first-other, followed_calls_one-fetch, followed_calls-append, followed_calls-others, followed_calls-own}
use Rattle.conformance.proofs.SameTurns.Along.{AreAlongCourse, IsAlongCourse, along_first_course, along_turn_course, along_course_waits}

-- handed in, a block in which one more was noted has that last
turn_calls_handed : (p : ℕ) (k : Kind) (x : OpenBlock) → open_block_handed_in p (open_block_noted p k x) ≡ open_block_handed_in p x ++ event p k ∷ []
turn_calls_handed p k x = by (nat_lt (length x.pending) most_in_block)
  where
    by : (b : Bool)
        → open_block_handed_in p (cond b (open_block x.history (x.pending ++ k ∷ [])) (open_block (open_block_handed_in p x) (k ∷ [])))
        ≡ open_block_handed_in p x ++ event p k ∷ []
    by true = ap (λ es. x.history ++ es) (map-append (event p) x.pending (k ∷ []))
        ∙ sym (append_assoc x.history (map (event p) x.pending) (event p k ∷ []))
    by false = refl

-- p's call, and a fetch before it, which is no call
turn_calls_own_one : (s : Sizes) (p : ℕ) (k : Kind) (x y : OpenBlock) (o : Option ℕ) → is_fetch k ≡ false → OpenBlockNotesAt s p k o x y
    → calls_of (open_block_handed_in p y) p ≡ calls_of (open_block_handed_in p x) p ++ k ∷ []
turn_calls_own_one s p k x y (Some a) plain (inl fresh) =
    ap (λ (z : OpenBlock). calls_of (open_block_handed_in p z) p) fresh.1 ∙ ap (λ es. calls_of es p) (turn_calls_handed p k x)
    ∙ followed_calls-own (open_block_handed_in p x) p k plain
turn_calls_own_one s p k x y (Some a) plain (inr stale) =
    let fetch = stale.0 in
    let fetched = open_block_noted p fetch x in
    let before = open_block_handed_in p x in
    ap (λ (z : OpenBlock). calls_of (open_block_handed_in p z) p) stale.2 ∙ ap (λ es. calls_of es p) (turn_calls_handed p k fetched)
    ∙ followed_calls-own (open_block_handed_in p fetched) p k plain
    ∙ ap (λ ks. ks ++ k ∷ []) (ap (λ es. calls_of es p) (turn_calls_handed p fetch x)
    ∙ followed_calls-append before (event p fetch ∷ []) p
    ∙ ap (λ ks. calls_of before p ++ ks) (followed_calls_one-fetch p p fetch (ap is_fetch stale.1.kind_is))
    ∙ append-nil (calls_of before p))
turn_calls_own_one s p k x y None plain is =
    ap (λ (z : OpenBlock). calls_of (open_block_handed_in p z) p) is
    ∙ ap (λ es. calls_of es p) (append-nil (open_block_handed_in p x ++ event p k ∷ []))
    ∙ followed_calls-own (open_block_handed_in p x) p k plain

-- none of these is a fetch
abbrev AreTurnCallsWithoutFetch : List Kind → Type 0
AreTurnCallsWithoutFetch [] = Unit {0}
AreTurnCallsWithoutFetch (k ∷ ks) = (is_fetch k ≡ false) × AreTurnCallsWithoutFetch ks

turn_calls_plain : (i : Instruction) (ks : List Kind) → AreEventsOfInstruction i ks → AreTurnCallsWithoutFetch ks
turn_calls_plain (Load a) ks are = subst AreTurnCallsWithoutFetch (sym are.1) (refl, tt)
turn_calls_plain (Store a v) ks are = subst AreTurnCallsWithoutFetch (sym are) (refl, tt)
turn_calls_plain (Add a v) ks are = subst AreTurnCallsWithoutFetch (sym are.1) (refl, (refl, tt))
turn_calls_plain (Acquire l) ks are = subst AreTurnCallsWithoutFetch (sym are) (refl, (refl, tt))
turn_calls_plain (Release l) ks are = subst AreTurnCallsWithoutFetch (sym are) (refl, tt)
turn_calls_plain Barrier ks are = subst AreTurnCallsWithoutFetch (sym are) (refl, (refl, tt))
turn_calls_plain (Set f) ks are = subst AreTurnCallsWithoutFetch (sym are) (refl, tt)
turn_calls_plain (Await f) ks are = subst AreTurnCallsWithoutFetch (sym are) (refl, (refl, tt))
turn_calls_plain Cut ks are = subst AreTurnCallsWithoutFetch (sym are) tt

-- p's calls
turn_calls_own : (s : Sizes) (p : ℕ) (ks : List Kind) (x y : OpenBlock) → AreTurnCallsWithoutFetch ks → OpenBlockNotesAll s p ks x y
    → calls_of (open_block_handed_in p y) p ≡ calls_of (open_block_handed_in p x) p ++ ks
turn_calls_own s p [] x y plain is =
    ap (λ (z : OpenBlock). calls_of (open_block_handed_in p z) p) is ∙ sym (append-nil (calls_of (open_block_handed_in p x) p))
turn_calls_own s p (k ∷ ks) x y plain noted =
    turn_calls_own s p ks noted.0 y plain.1 noted.2
    ∙ ap (λ ls. ls ++ ks) (turn_calls_own_one s p k x noted.0 (event_address k) plain.0 noted.1)
    ∙ append_assoc (calls_of (open_block_handed_in p x) p) (k ∷ []) ks

-- p's events are no calls of q
turn_calls_none : (p q : ℕ) (ks : List Kind) → p ≢ q → calls_of (map (event p) ks) q ≡ []
turn_calls_none p q [] apart = refl
turn_calls_none p q (k ∷ ks) apart = followed_calls_first-other p q k (map (event p) ks) apart ∙ turn_calls_none p q ks apart

turn_calls_other_handed : (p q : ℕ) (x : OpenBlock) → p ≢ q → calls_of (open_block_handed_in p x) q ≡ calls_of x.history q
turn_calls_other_handed p q x apart =
    followed_calls-append x.history (map (event p) x.pending) q
    ∙ ap (λ ks. calls_of x.history q ++ ks) (turn_calls_none p q x.pending apart) ∙ append-nil (calls_of x.history q)

turn_calls_other_noted : (p q : ℕ) (k : Kind) (x : OpenBlock) → p ≢ q → calls_of (open_block_noted p k x).history q ≡ calls_of x.history q
turn_calls_other_noted p q k x apart =
    sym (turn_calls_other_handed p q (open_block_noted p k x) apart) ∙ ap (λ es. calls_of es q) (turn_calls_handed p k x)
    ∙ followed_calls-others (open_block_handed_in p x) p q k apart ∙ turn_calls_other_handed p q x apart

-- so q's are as they were
turn_calls_other_one : (s : Sizes) (p q : ℕ) (k : Kind) (x y : OpenBlock) (o : Option ℕ) → p ≢ q → OpenBlockNotesAt s p k o x y
    → calls_of y.history q ≡ calls_of x.history q
turn_calls_other_one s p q k x y (Some a) apart (inl fresh) =
    ap (λ (z : OpenBlock). calls_of z.history q) fresh.1 ∙ turn_calls_other_noted p q k x apart
turn_calls_other_one s p q k x y (Some a) apart (inr stale) =
    ap (λ (z : OpenBlock). calls_of z.history q) stale.2 ∙ turn_calls_other_noted p q k (open_block_noted p stale.0 x) apart
    ∙ turn_calls_other_noted p q stale.0 x apart
turn_calls_other_one s p q k x y None apart is =
    ap (λ (z : OpenBlock). calls_of z.history q) is ∙ followed_calls-others (open_block_handed_in p x) p q k apart
    ∙ turn_calls_other_handed p q x apart

turn_calls_other : (s : Sizes) (p q : ℕ) (ks : List Kind) (x y : OpenBlock) → p ≢ q → OpenBlockNotesAll s p ks x y
    → calls_of y.history q ≡ calls_of x.history q
turn_calls_other s p q [] x y apart is = ap (λ (z : OpenBlock). calls_of z.history q) is
turn_calls_other s p q (k ∷ ks) x y apart noted =
    turn_calls_other s p q ks noted.0 y apart noted.2 ∙ turn_calls_other_one s p q k x noted.0 (event_address k) apart noted.1

-- a turn of p: of p itself
turn_calls_after : (s : Plan) (p : ℕ) (section : List Instruction) (h : List Event) (a : ScriptTurnStage) (to : List Event) (c : ScriptTurnStage)
    → IsAlongCourse a → IsScriptTurn s p section h a a.progress to c → HasTurnCalls h p a → HasTurnCalls to p c
turn_calls_after s p section h a to c course turn was = by a.progress refl turn
  where
    by : (t : TurnProgress) → a.progress ≡ t → IsScriptTurn s p section h a t to c → HasTurnCalls to p c
    by (Next n) at (inl done) =
        turn_calls_own (plan_sizes s) p done.kinds (open_block h a.pending) (open_block to c.pending)
        (turn_calls_plain (script_turn_instruction section n) done.kinds done.are) done.noted
        ∙ ap (λ ks. ks ++ done.kinds) was ∙ sym (ap (λ (x : ScriptTurnStage). x.calls) done.new_is)
    by (Next n) at (inr begun) =
        let plain = turn_calls_plain (script_turn_instruction section n) (begun.first ∷ begun.last ∷ []) begun.are in
        subst (HasTurnCalls to p) (sym begun.new_is)
        (turn_calls_own (plan_sizes s) p (begun.first ∷ []) (open_block h a.pending) (open_block to []) (plain.0, tt) begun.noted
        ∙ ap (λ ks. ks ++ begun.first ∷ []) was)
    by (Waits n) at (inl ended) =
        let plain = turn_calls_plain (script_turn_instruction section n) (ended.first ∷ ended.last ∷ []) ended.are in
        let quiet = course.quiet (ap along_course_waits at) in
        let before : calls_of h p ≡ a.calls =
        ap (λ es. calls_of es p) (sym (append-nil h)) ∙ ap (λ ks. calls_of (h ++ map (event p) ks) p) (sym quiet) ∙ was in
        subst (HasTurnCalls to p) (sym ended.new_is)
        (ap (λ es. calls_of es p) (append-nil to ∙ ended.taken) ∙ followed_calls-own h p ended.last plain.1.0
        ∙ ap (λ ks. ks ++ ended.last ∷ []) before)
    by (Waits n) at (inr vain) = subst₂ (λ es x. HasTurnCalls es p x) (sym vain.none) (sym vain.new_is) was
    by Passed at none = subst₂ (λ es x. HasTurnCalls es p x) (sym none.0) (sym none.1) was

-- and of others
turn_calls_still : (s : Plan) (p q : ℕ) (section : List Instruction) (h : List Event) (a : ScriptTurnStage) (t : TurnProgress)
    (to : List Event) (c : ScriptTurnStage) → p ≢ q → IsScriptTurn s p section h a t to c → calls_of to q ≡ calls_of h q
turn_calls_still s p q section h a (Next n) to c apart (inl done) =
    turn_calls_other (plan_sizes s) p q done.kinds (open_block h a.pending) (open_block to c.pending) apart done.noted
turn_calls_still s p q section h a (Next n) to c apart (inr begun) =
    turn_calls_other (plan_sizes s) p q (begun.first ∷ []) (open_block h a.pending) (open_block to []) apart begun.noted
turn_calls_still s p q section h a (Waits n) to c apart (inl ended) =
    ap (λ es. calls_of es q) ended.taken ∙ followed_calls-others h p q ended.last apart
turn_calls_still s p q section h a (Waits n) to c apart (inr vain) = ap (λ es. calls_of es q) vain.none
turn_calls_still s p q section h a Passed to c apart none = ap (λ es. calls_of es q) none.0

turn_calls_still_own : (h to : List Event) (q : ℕ) (x : ScriptTurnStage) → calls_of to q ≡ calls_of h q → HasTurnCalls h q x → HasTurnCalls to q x
turn_calls_still_own h to q x same was =
    followed_calls-append to (map (event q) x.pending) q ∙ ap (λ ks. ks ++ calls_of (map (event q) x.pending) q) same
    ∙ sym (followed_calls-append h (map (event q) x.pending) q) ∙ was

-- all of them
abbrev HaveTurnCalls : List Event → List ScriptTurnStage → Type 0
HaveTurnCalls h xs = (p : ℕ) (x : ScriptTurnStage) → slice_get xs p ≡ Some x → HasTurnCalls h p x

turn_calls_turned : {s : Plan} {p : ℕ} {h : List Event} {old : List ScriptTurnStage} {to : List Event} {new : List ScriptTurnStage}
    → AreAlongCourse old → IsScriptTurnAt s p h old to new → HaveTurnCalls h old → HaveTurnCalls to new
turn_calls_turned {s = s} {p = p} {h = h} {old = old} {to = to} course turn was q x here = elim (cases_eq q p) [
  | inl is ↦ (let found : slice_get (slice_set old p turn.after) p ≡ Some x =
      ap (λ k. slice_get (slice_set old p turn.after) k) (sym is) ∙ set in
      let after = turn_calls_after s p turn.section h turn.before to turn.after (course p turn.before turn.before_is) turn.turn
      (was p turn.before turn.before_is) in
      subst₂ (λ k y. HasTurnCalls to k y) (sym is) (slice_get-set_found old p turn.after x found) after)
  | inr isnt ↦ (let still = turn_calls_still s p q turn.section h turn.before turn.before.progress to turn.after (λ is. isnt (sym is))
      turn.turn in
      turn_calls_still_own h to q x still (was q x (sym (slice_get-set_other old p q turn.after isnt) ∙ set)))
]
  where
    set : slice_get (slice_set old p turn.after) q ≡ Some x
    set = ap (λ xs. slice_get xs q) (sym turn.others) ∙ here

turn_calls_along : (s : Plan) (ps : List ℕ) (h : List Event) (old : List ScriptTurnStage) (to : List Event) (new : List ScriptTurnStage)
    → AreAlongCourse old → AreScriptTurns s ps h old to new → HaveTurnCalls h old → HaveTurnCalls to new
turn_calls_along s [] h old to new course turns was = subst₂ HaveTurnCalls (sym turns.0) (sym turns.1) was
turn_calls_along s (p ∷ ps) h old to new course turns was =
    turn_calls_along s ps turns.0 turns.1 to new (along_turn_course course turns.2) turns.3 (turn_calls_turned course turns.2 was)

pub turn_calls_law : TurnCallsLaw
turn_calls_law s turns h xs made =
    turn_calls_along s turns [] (first_script_turn_stages s) h xs (along_first_course s) made
    (λ p x here. subst (HasTurnCalls [] p) (slice_get-replicate_found s.processors (script_turn_stage (Next 0) [] []) x p here) refl)
