-- What the processors' turns make of the history.
use Rattle.std.proofs.Common.{ℕ, zero, suc, ◌≡◌, ◌≢◌, ◌+◌, ◌<◌, Bool, true, false, Some, List, [], ◌∷◌, ◌++◌, length, map, replicate, get_or, slice_get, slice_set, refl, sym, ap, ap₂, subst, subst₂, ◌∙◌, inl, inr, append_assoc, append-nil, arith}
use Rattle.std.proofs.lemmas.Bool.{cases_eq}
use Rattle.std.proofs.lemmas.List.{append_cancel_left, append_cancel_right, length-set}
use Rattle.std.proofs.lemmas.List.Elements.{filter-append}
use Rattle.std.proofs.lemmas.Option.{none-some, same_Some, slice_get-get_or, slice_get_within}
use Rattle.base.proofs.SliceSets.{slice_get-set_found, slice_get-set_other, slice_get-set_same}
use Rattle.base.proofs.SlicesAndCounts.{slice_append_cases, slice_get-append_left, slice_get-append_right}
use Rattle.journal.specs.declared.event.Event.{Event}
use Rattle.journal.specs.declared.event.Kind.{Kind}
use Rattle.journal.specs.DidEvent.{event}
use Rattle.journal.specs.Events.{EventAt, events_of}
use Rattle.journal.specs.Sizes.{Sizes}
use Rattle.journal.specs.WellFormed.{Ready}
use Rattle.lrc_script.specs.declared.script.Instruction.{Instruction}
use Rattle.lrc_script.specs.Plan.{Plan}
use Rattle.conformance.specs.Follows.{call_kinds, plan_sizes}
use Rattle.conformance.proofs.FollowedCalls.{followed_call_kinds-append, followed_call_kinds-one}
use Rattle.cluster.specs.Copies.Local.{Local, calls}
use Rattle.cluster.specs.ProcessorCalls.{IsSameProcessorOfCall}
use Rattle.cluster.specs.NewClusters.{IsNewCluster, SharedCluster}
use Rattle.cluster.specs.Finishing.{IsToFinish}
use Rattle.cluster.specs.TakingCalls.{IsTakingCallLate, taking_call_added}
use Rattle.conformance.specs.declared.progress.TurnProgress.{TurnProgress}
use Rattle.conformance.specs.declared.progress.TurnProgress.TheVariants.{Next, Passed, Waits}
use Rattle.conformance.specs.OpenBlocks.{OpenBlockNotesAll, open_block}
use Rattle.conformance.specs.ScriptTurns.{AreScriptTurns, IsScriptTurn, IsScriptTurnAt, ScriptTurnLooksInVain, ScriptTurnStage, script_turn_instruction, script_turn_progress_after, script_turn_stage, script_turns_of}
use Rattle.lrc_run.specs.RunSteps.{AreAtRunSteps, IsAtRunStep}
use Rattle.lrc_run.specs.RunTurns.{AreRunTurnsSeenAhead, AreRunTurnsSeenOn, AreRunTurnsTaken, AreRunTurns, AreRunTurnRounds, HasSeenAllRunTurns, IsRunTurnAlone, IsTurnOfRun, RunTurnMakes}
use Rattle.lrc_run.specs.RunCalls.{AreRunCallsItsOwn, IsRunCallUnderway, AreRunCallsNoted, SeesNoFewerRunCalls, SeesOwnRunCalls, IsRunCallOfTake, run_calls_open, run_calls, new_at_run_call}
use Rattle.lrc_run.proofs.CallsInBlock.{calls_in_block_none_seen, calls_in_block_away, calls_in_block_empty}
use Rattle.lrc_run.proofs.MoreCalls.{makes_more_calls_last_no_fetch, sees_more_calls_same_processor}
use Rattle.lrc_run.proofs.StepsAfterTurns.{step_after_turn_same_after}
use Rattle.lrc_run.proofs.TurnWays.{turn_way_taken_same, turn_way_taken_sees, turn_way_seen, turn_way_rounds, turn_way_was_at, turn_way_after_turn}

-- a processor's stage: where it is, what it has made, and its open block
abbrev pub turn_stage_of : Local → TurnProgress → ScriptTurnStage
turn_stage_of m at = script_turn_stage at (run_calls m) (map (λ (e : Event). e.kind) m.block)

-- the processors' stages
abbrev pub turn_stages : List Local → List TurnProgress → List ScriptTurnStage
turn_stages [] all = []
turn_stages (m ∷ ms) [] = []
turn_stages (m ∷ ms) (at ∷ all) = turn_stage_of m at ∷ turn_stages ms all

pub turn_stages_at : (ms : List Local) (all : List TurnProgress) (p : ℕ) (m : Local) (at : TurnProgress) → slice_get ms p ≡ Some m
    → slice_get all p ≡ Some at → slice_get (turn_stages ms all) p ≡ Some (turn_stage_of m at)
turn_stages_at [] all p m at here there = absurd (none-some m here)
turn_stages_at (x ∷ ms) [] p m at here there = absurd (none-some at there)
turn_stages_at (x ∷ ms) (y ∷ all) zero m at here there =
    let P : TurnProgress → Local → Type 0 = λ a b. Some (turn_stage_of x y) ≡ Some (turn_stage_of b a) in
    subst₂ P (same_Some y at there) (same_Some x m here) refl
turn_stages_at (x ∷ ms) (y ∷ all) (suc p) m at here there = turn_stages_at ms all p m at here there

-- each stage is a processor's
pub record IsTurnStageOf (ms : List Local) (all : List TurnProgress) (p : ℕ) (x : ScriptTurnStage) : Type 0 where
  pub processor : Local
  pub at : TurnProgress
  pub processor_is : slice_get ms p ≡ Some processor
  pub at_is : slice_get all p ≡ Some at
  pub is : x ≡ turn_stage_of processor at

pub turn_stage_from : (ms : List Local) (all : List TurnProgress) (p : ℕ) (x : ScriptTurnStage)
    → slice_get (turn_stages ms all) p ≡ Some x → IsTurnStageOf ms all p x
turn_stage_from [] all p x here = absurd (none-some x here)
turn_stage_from (m ∷ ms) [] p x here = absurd (none-some x here)
turn_stage_from (m ∷ ms) (at ∷ all) zero x here = record {
  processor = m;
  at = at;
  processor_is = refl;
  at_is = refl;
  is = sym (same_Some (turn_stage_of m at) x here);
}
turn_stage_from (m ∷ ms) (at ∷ all) (suc p) x here =
    let is = turn_stage_from ms all p x here in
    record { processor = is.processor; at = is.at; processor_is = is.processor_is; at_is = is.at_is; is = is.is }

turn_stages_set : (ms : List Local) (all : List TurnProgress) (p : ℕ) (m : Local) (to : TurnProgress)
    → turn_stages (slice_set ms p m) (slice_set all p to) ≡ slice_set (turn_stages ms all) p (turn_stage_of m to)
turn_stages_set [] all p m to = refl
turn_stages_set (x ∷ ms) [] zero m to = refl
turn_stages_set (x ∷ ms) [] (suc p) m to = refl
turn_stages_set (x ∷ ms) (y ∷ all) zero m to = refl
turn_stages_set (x ∷ ms) (y ∷ all) (suc p) m to = ap (λ xs. turn_stage_of x y ∷ xs) (turn_stages_set ms all p m to)

-- at the start
pub turn_stages_start : (ms : List Local) (n : ℕ) → length ms ≡ n
    → ((p : ℕ) (m : Local) → slice_get ms p ≡ Some m → (run_calls m ≡ []) × (m.block ≡ []))
    → turn_stages ms (replicate n (Next 0)) ≡ replicate n (script_turn_stage (Next 0) [] [])
turn_stages_start [] zero long each = refl
turn_stages_start [] (suc n) long each = absurd (omega arith)
turn_stages_start (m ∷ ms) zero long each = absurd (omega arith)
turn_stages_start (m ∷ ms) (suc n) long each =
    let none = each 0 m refl in
    let first = ap₂ (λ (ks : List Kind) (es : List Event). script_turn_stage (Next 0) ks (map (λ (e : Event). e.kind) es)) none.0 none.1 in
    let rest = turn_stages_start ms n (omega arith) (λ p x here. each (suc p) x here) in
    ap (λ (x : ScriptTurnStage). x ∷ turn_stages ms (replicate n (Next 0))) first ∙ ap (λ xs. script_turn_stage (Next 0) [] [] ∷ xs) rest

-- new processors have made nothing
pub turn_stages_nothing_made : (c : SharedCluster) (ms : List Local) → IsNewCluster c ms → (p : ℕ) (m : Local) → slice_get ms p ≡ Some m
    → (run_calls m ≡ []) × (m.block ≡ [])
turn_stages_nothing_made c ms new p m here = (ap run_calls (new.each p m here), ap (λ (x : Local). x.block) (new.each p m here))

-- the stages of those who saw on stay
turn_stages_seen : (ms ns : List Local) (all : List TurnProgress) → AreRunTurnsSeenOn ms ns → turn_stages ns all ≡ turn_stages ms all
turn_stages_seen [] [] all on = refl
turn_stages_seen [] (n ∷ ns) all on = absurd (let long = on.all in omega (arith, long))
turn_stages_seen (m ∷ ms) [] all on = absurd (let long = on.all in omega (arith, long))
turn_stages_seen (m ∷ ms) (n ∷ ns) [] on = refl
turn_stages_seen (m ∷ ms) (n ∷ ns) (at ∷ all) on =
    let rest : AreRunTurnsSeenOn ms ns = record {
      all = let long = on.all in omega (arith, long);
      each = λ p x y here there. on.each (suc p) x y here there;
    } in
    let first = on.each 0 m n refl refl in
    ap₂ (λ (ks : List Kind) (es : List Event). script_turn_stage at ks (map (λ (e : Event). e.kind) es) ∷ turn_stages ns all) (ap call_kinds first.calls_are)
    first.block_is
    ∙ ap (λ xs. turn_stage_of m at ∷ xs) (turn_stages_seen ms ns all rest)

-- the processors of a cluster by rising number, of whom the first has seen all
pub record AreTurnStagesInHand (n : ℕ) (ms : List Local) : Type 0 where
  pub many : length ms ≡ n
  pub number : (p : ℕ) (m : Local) → slice_get ms p ≡ Some m → m.number ≡ p
  pub ahead : HasSeenAllRunTurns ms 0

-- new ones
pub turn_stages_in_hand_new : (c : SharedCluster) (ms : List Local) → IsNewCluster c ms → AreTurnStagesInHand c.sizes.processors ms
turn_stages_in_hand_new c ms new = record {
  many = new.all;
  number = λ p m here. ap (λ (x : Local). x.number) (new.each p m here);
  ahead = λ m at q x here. (
    [],
    ap (λ (y : Local). y.seen) (new.each 0 m at) ∙ sym (ap (λ (y : Local). y.seen) (new.each q x here)) ∙ sym (append-nil x.seen),
  );
}

-- of those who saw on the numbers stay
turn_stages_in_hand_numbers_on : (ms ns : List Local) → AreRunTurnsSeenOn ms ns → ((p : ℕ) (m : Local) → slice_get ms p ≡ Some m → m.number ≡ p)
    → (p : ℕ) (n : Local) → slice_get ns p ≡ Some n → n.number ≡ p
turn_stages_in_hand_numbers_on ms ns on number p n here =
    let before = turn_way_was_at ms ns p n on here in
    (on.each p before.0 n before.1 here).same.number ∙ number p before.0 before.1

-- and of those who had a turn
turn_stages_in_hand_numbers_turned : {sections : List (List Instruction)} {p : ℕ} {ms ns : List Local} {all to : List TurnProgress}
    → IsRunTurnAlone sections p ms ns all to → ((q : ℕ) (m : Local) → slice_get ms q ≡ Some m → m.number ≡ q)
    → (q : ℕ) (n : Local) → slice_get ns q ≡ Some n → n.number ≡ q
turn_stages_in_hand_numbers_turned {p = p} {ms = ms} turn number q n here = elim (cases_eq q p) [
  | inl is ↦ (let X : ℕ → Type 0 = λ k. slice_get (slice_set ms p turn.after) k ≡ Some n in
      let P : Local → Type 0 = λ y. y.number ≡ q in
      let found : slice_get (slice_set ms p turn.after) q ≡ Some n = ap (λ xs. slice_get xs q) (sym turn.new_is) ∙ here in
      let same = slice_get-set_found ms p turn.after n (subst X is found) in
      subst P same ((turn_way_taken_same turn.section turn.before turn.after turn.at turn.next turn.takes).number
      ∙ number p turn.before turn.before_is ∙ sym is))
  | inr isnt ↦ number q n (sym (slice_get-set_other ms p q turn.after isnt) ∙ ap (λ xs. slice_get xs q) (sym turn.new_is) ∙ here)
]

pub turn_stages_in_hand_seen : (n : ℕ) (ms ns : List Local) → AreTurnStagesInHand n ms → AreRunTurnsSeenAhead ms ns → AreTurnStagesInHand n ns
turn_stages_in_hand_seen n ms ns hand seen = record {
  many = seen.on.all ∙ hand.many;
  number = turn_stages_in_hand_numbers_on ms ns seen.on hand.number;
  ahead = seen.ahead hand.ahead;
}

pub turn_stages_in_hand_turned : (n : ℕ) (sections : List (List Instruction)) (p : ℕ) (ms ns : List Local) (all to : List TurnProgress)
    → AreTurnStagesInHand n ms → IsTurnOfRun sections p ms ns all to → AreTurnStagesInHand n ns
turn_stages_in_hand_turned n sections p ms ns all to hand turn = record {
  many = turn.last.all ∙ ap length turn.turn.new_is ∙ length-set turn.seen p turn.turn.after ∙ turn.first.all ∙ hand.many;
  number = turn_stages_in_hand_numbers_on turn.turned ns turn.last
      (turn_stages_in_hand_numbers_turned turn.turn
      (turn_stages_in_hand_numbers_on ms turn.seen turn.first hand.number));
  ahead = turn.ahead hand.ahead;
}

pub turn_stages_in_hand_all_turned : (n : ℕ) (sections : List (List Instruction)) (ps : List ℕ) (ms ns : List Local) (all to : List TurnProgress)
    → AreTurnStagesInHand n ms → AreRunTurns sections ps ms ns all to → AreTurnStagesInHand n ns
turn_stages_in_hand_all_turned n sections [] ms ns all to hand turned = subst (AreTurnStagesInHand n) (sym turned.0) hand
turn_stages_in_hand_all_turned n sections (p ∷ ps) ms ns all to hand turned =
    turn_stages_in_hand_all_turned n sections ps turned.0 ns turned.1 to (turn_stages_in_hand_turned n sections p ms turned.0 all turned.1 hand turned.2)
    turned.3

pub turn_stages_in_hand_taken : (n : ℕ) (sections : List (List Instruction)) (ps : List ℕ) (ms ns : List Local) (all to : List TurnProgress)
    → AreTurnStagesInHand n ms → AreRunTurnsTaken sections ps ms ns all to → AreTurnStagesInHand n ns
turn_stages_in_hand_taken n sections [] ms ns all to hand taken = turn_stages_in_hand_seen n ms ns hand taken.0
turn_stages_in_hand_taken n sections (p ∷ ps) ms ns all to hand taken =
    turn_stages_in_hand_taken n sections ps taken.1 ns taken.2 to
    (turn_stages_in_hand_turned n sections p taken.0 taken.1 all taken.2 (turn_stages_in_hand_seen n ms taken.0 hand taken.3) taken.4) taken.5

pub turn_stages_in_hand_rounds : {n : ℕ} (s : Plan) (orders : ℕ → List ℕ) (k : ℕ) {ms ns : List Local} (start all : List TurnProgress)
    → AreTurnStagesInHand n ms → AreRunTurnRounds s orders k ms start ns all → AreTurnStagesInHand n ns
turn_stages_in_hand_rounds {n = n} s orders zero start all hand rounds = subst (AreTurnStagesInHand n) (sym rounds.0) hand
turn_stages_in_hand_rounds {n = n} s orders (suc k) {ns = ns} start all hand rounds =
    let round = rounds.3 in
    turn_stages_in_hand_seen n round.turned ns (turn_stages_in_hand_all_turned n s.sections (orders k) rounds.0 round.turned rounds.1 all
    (turn_stages_in_hand_rounds s orders k start rounds.1 hand rounds.2) round.turns) round.seen

-- the history goes on from what each has seen, without it
abbrev pub AllGoOnInTurnStages : List Local → List Event → Type 0
AllGoOnInTurnStages ms h = (p : ℕ) (m : Local) → slice_get ms p ≡ Some m → IsToFinish h m

-- its events are of n processors
abbrev pub AreTurnStageEventsOfThese : ℕ → List Event → Type 0
AreTurnStageEventsOfThese n h = (k : ℕ) (e : Event) → EventAt h k e → e.processor < n

-- what goes on from what they saw then goes on from what they saw before
turn_stages_before : (ms ns : List Local) (h : List Event) → AreRunTurnsSeenOn ms ns → AllGoOnInTurnStages ns h → AllGoOnInTurnStages ms h
turn_stages_before ms ns h on goes p m here =
    let within = slice_get_within ms p m here in
    let same = on.all in
    let n = get_or ns p m in
    let there = slice_get-get_or ns p m (omega arith) in
    let saw = on.each p m n here there in
    let next = goes p n there in
    let own : events_of (m.seen ++ saw.sees.0) m.number ≡ events_of m.seen m.number ++ [] =
    ap₂ events_of (sym saw.sees.1) (sym saw.same.number)
    ∙ append_cancel_right (events_of n.seen n.number) (events_of m.seen m.number) n.block
    (saw.calls_are ∙ ap (λ es. events_of m.seen m.number ++ es) (sym saw.block_is))
    ∙ sym (append-nil (events_of m.seen m.number)) in
    let none : events_of saw.sees.0 m.number ≡ [] =
    append_cancel_left (events_of m.seen m.number) (events_of saw.sees.0 m.number) []
    (rw (← filter-append) own) in
    record {
      rest = saw.sees.0 ++ next.rest;
      begins = next.begins ∙ ap (λ es. es ++ next.rest) saw.sees.1 ∙ append_assoc m.seen saw.sees.0 next.rest;
      away = λ k e at. elim (slice_append_cases saw.sees.0 next.rest k e at) [
        | inl a ↦ calls_in_block_away saw.sees.0 m.number none k e a.1
        | inr a ↦ (λ is. next.away a.0 e a.2 (is ∙ sym saw.same.number))
      ];
    }

-- one with an empty block that isn't ready by what it has seen looked in vain
turn_stages_in_vain : (s : Plan) (h : List Event) (p : ℕ) (x : Local) → x.number ≡ p → x.sizes ≡ plan_sizes s → x.block ≡ []
    → IsTakingCallLate x → h ≡ x.seen → ScriptTurnLooksInVain s h p (run_calls x)
turn_stages_in_vain s h p x number sizes none late seen = record {
  calls_are = ap call_kinds (ap₂ events_of seen (sym number) ∙ sym (append-nil (events_of x.seen x.number))
      ∙ ap (λ es. events_of x.seen x.number ++ es) (sym none));
  late =
      let P : Sizes → ℕ → Type 0 = λ sizes q. ¬ Ready sizes x.seen q in
      let Q : List Event → Type 0 = λ es. ¬ Ready (plan_sizes s) es p in
      subst Q (sym seen) (subst₂ P sizes number late);
}

-- what was noted is told of the script's sizes and processor p
turn_stages_noted : (s : Plan) {p : ℕ} (m x : Local) (kinds : List Kind) → x.number ≡ p → x.sizes ≡ plan_sizes s
    → IsSameProcessorOfCall m x → AreRunCallsNoted m x kinds → SeesOwnRunCalls m x
    → OpenBlockNotesAll (plan_sizes s) p kinds (run_calls_open m) (run_calls_open x)
turn_stages_noted s m x kinds number sizes same noted own =
    subst₂ (λ sizes q. OpenBlockNotesAll sizes q kinds (run_calls_open m) (run_calls_open x)) (sym same.sizes ∙ sizes)
    (sym same.number ∙ number) (noted own)

-- what a turn does is told of the histories that the processor has seen before and after it
turn_stages_told : (s : Plan) {p : ℕ} (l m x : Local) (section : List Instruction) (at to : TurnProgress) → x.number ≡ p
    → x.sizes ≡ plan_sizes s → IsAtRunStep l m section at → RunTurnMakes section m at x to → SeesOwnRunCalls m x
    → IsScriptTurn s p section m.seen (turn_stage_of m at) at x.seen (turn_stage_of x to)
turn_stages_told s {p = p} l m x section (Next n) to number sizes is turn own = by turn.done turn.way turn.late turn.to_is
  where
    by : (done : Bool) → IsRunCallUnderway m x (script_turn_instruction section n) done → (done ≡ false → IsTakingCallLate x)
        → to ≡ script_turn_progress_after section n done
        → IsScriptTurn s p section m.seen (turn_stage_of m (Next n)) (Next n) x.seen (turn_stage_of x to)
    by true way late to_is = inl (record {
      kinds = way.kinds;
      are = way.are;
      noted = turn_stages_noted s m x way.kinds number sizes way.makes.same way.makes.noted own;
      new_is = ap₂ (λ (a : TurnProgress) (b : List Kind). script_turn_stage a b (map (λ (e : Event). e.kind) x.block)) to_is way.makes.more;
    })
    by false way late to_is = inr (record {
      first = way.first;
      last = way.last;
      are = way.are;
      waits = way.waits;
      noted =
          let P : List Event → Type 0 = λ es. OpenBlockNotesAll (plan_sizes s) p (way.first ∷ []) (run_calls_open m)
          (open_block x.seen (map (λ (e : Event). e.kind) es)) in
          subst P way.handed (turn_stages_noted s m x (way.first ∷ []) number sizes way.makes.same way.makes.noted own);
      new_is = ap₂ (λ (a : TurnProgress) (b : List Kind). script_turn_stage a b (map (λ (e : Event). e.kind) x.block)) to_is way.makes.more
          ∙ ap (λ es. script_turn_stage (script_turn_progress_after section n false) (run_calls m ++ way.first ∷ []) (map (λ (e : Event). e.kind) es))
          way.handed;
      vain = turn_stages_in_vain s x.seen p x number sizes way.handed (late refl) refl;
    })
turn_stages_told s {p = p} l m x section (Waits n) to number sizes is turn own = by turn.taken turn.takes turn.to_is
  where
    by : (taken : Bool) → IsRunCallOfTake m x taken → to ≡ script_turn_progress_after section n taken
        → IsScriptTurn s p section m.seen (turn_stage_of m (Waits n)) (Waits n) x.seen (turn_stage_of x to)
    by true takes to_is = inl (record {
      first = is.0.begins.first;
      last = is.0.begins.last;
      are = is.0.begins.are;
      waits = is.0.begins.waits;
      taken = takes.noted refl own ∙ ap (λ o. m.seen ++ taking_call_added m.number o) is.0.begins.awaits
          ∙ ap (λ q. m.seen ++ event q is.0.begins.last ∷ []) (sym takes.same.number ∙ number);
      new_is =
          let last = event m.number is.0.begins.last in
          let more = ap call_kinds (takes.yes refl ∙ ap (λ k. calls m ++ taking_call_added m.number k) is.0.begins.awaits)
          ∙ followed_call_kinds-append (calls m) (last ∷ []) ∙ ap (λ ks. run_calls m ++ ks) (followed_call_kinds-one last
          (makes_more_calls_last_no_fetch (script_turn_instruction section n) is.0.begins.first is.0.begins.last is.0.begins.are)) in
          ap₂ (λ (a : TurnProgress) (b : List Kind). script_turn_stage a b (map (λ (e : Event). e.kind) x.block)) to_is more
          ∙ ap (λ es. script_turn_stage (script_turn_progress_after section n true) (run_calls m ++ is.0.begins.last ∷ []) (map (λ (e : Event). e.kind) es))
          (takes.block_is ∙ is.0.begins.handed);
    })
    by false takes to_is =
        let none = takes.no refl in
        let same = ap call_kinds none.calls_are in
        let seen = calls_in_block_none_seen m x takes.same none.calls_are none.block_is own in
        inr (record {
          none = seen;
          new_is = ap₂ (λ (a : TurnProgress) (b : List Kind). script_turn_stage a b (map (λ (e : Event). e.kind) x.block)) to_is same
              ∙ ap (λ es. script_turn_stage (Waits n) (run_calls m) (map (λ (e : Event). e.kind) es)) none.block_is;
          vain = subst₂ (λ es ks. ScriptTurnLooksInVain s es p ks) seen same
              (turn_stages_in_vain s x.seen p x number sizes (takes.block_is ∙ is.0.begins.handed) none.late refl);
        })
turn_stages_told s l m x section Passed to number sizes is turn own = (ap (λ (y : Local). y.seen) turn.0, ap₂ turn_stage_of turn.0 turn.1)

-- a history that goes on from what each had seen then is this turn's part behind one that went on from what each had seen
-- before
pub record IsTurnStageMade (s : Plan) (p : ℕ) (ms : List Local) (old new : List ScriptTurnStage) (h : List Event) : Type 0 where
  pub front : List Event
  pub part : List Event
  pub is : h ≡ front ++ part
  pub turn : IsScriptTurnAt s p front old h new
  pub goes_on : AllGoOnInTurnStages ms front

-- one processor alone changed, which had seen all: the history is what that had seen, and a part of its own
module _ (n p : ℕ) (ms ns : List Local) (x y : Local) (h : List Event) (at : slice_get ms p ≡ Some x) (new_is : ns ≡ slice_set ms p y)
    (sees : SeesNoFewerRunCalls x y) (same : y.number ≡ x.number) (latest : HasSeenAllRunTurns ms p) (many : length ms ≡ n)
    (number : (q : ℕ) (m : Local) → slice_get ms q ≡ Some m → m.number ≡ q) (goes : AllGoOnInTurnStages ns h) (these : AreTurnStageEventsOfThese n h) where
  pub turn_stages_after_at : slice_get ns p ≡ Some y
  turn_stages_after_at = ap (λ xs. slice_get xs p) new_is ∙ slice_get-set_same ms p y (slice_get_within ms p x at)

  abbrev turn_stages_mine : IsToFinish h y
  turn_stages_mine = goes p y turn_stages_after_at

  pub turn_stages_number : y.number ≡ p
  turn_stages_number = same ∙ number p x at

  abbrev pub turn_stages_part : List Event
  turn_stages_part = sees.0 ++ turn_stages_mine.rest

  pub turn_stages_is : h ≡ x.seen ++ turn_stages_part
  turn_stages_is = turn_stages_mine.begins ∙ ap (λ es. es ++ turn_stages_mine.rest) sees.1 ∙ append_assoc x.seen sees.0 turn_stages_mine.rest

  -- of the others there is nothing in it, nor in what it had seen and they hadn't
  turn_stages_others : (q : ℕ) (m : Local) → q ≢ p → slice_get ms q ≡ Some m
      → (rest : List Event) × (x.seen ≡ m.seen ++ rest)
      × ((k : ℕ) (e : Event) → EventAt (rest ++ turn_stages_part) k e → e.processor ≢ q)
  turn_stages_others q m isnt here =
      let there : slice_get ns q ≡ Some m = ap (λ xs. slice_get xs q) new_is ∙ slice_get-set_other ms p q y isnt ∙ here in
      let theirs = goes q m there in
      let saw = latest x at q m here in
      let is : theirs.rest ≡ saw.0 ++ turn_stages_part =
      append_cancel_left m.seen theirs.rest (saw.0 ++ turn_stages_part)
      (sym theirs.begins ∙ turn_stages_is ∙ ap (λ es. es ++ turn_stages_part) saw.1 ∙ append_assoc m.seen saw.0 turn_stages_part) in
      let P : List Event → Type 0 = λ es. (k : ℕ) (e : Event) → EventAt es k e → e.processor ≢ m.number in
      (saw.0, saw.1, λ k e found own. subst P is theirs.away k e found (own ∙ sym (number q m here)))

  pub turn_stages_own : AreRunCallsItsOwn p turn_stages_part
  turn_stages_own k e found = elim (cases_eq e.processor p) [
    | inl is ↦ is
    | inr isnt ↦
        (let P : List Event → Type 0 = λ es. EventAt es (length x.seen + k) e in
        let below = these (length x.seen + k) e (subst P (sym turn_stages_is) (slice_get-append_right x.seen turn_stages_part k ∙ found)) in
        let m = get_or ms e.processor x in
        let here = slice_get-get_or ms e.processor x (omega arith) in
        let them = turn_stages_others e.processor m isnt here in
        absurd (them.2 (length them.0 + k) e (slice_get-append_right them.0 turn_stages_part k ∙ found) refl))
  ]

  -- so it has seen all of it
  turn_stages_nothing : turn_stages_mine.rest ≡ []
  turn_stages_nothing =
      calls_in_block_empty turn_stages_mine.rest (λ k e found. turn_stages_mine.away k e found
      (turn_stages_own (length sees.0 + k) e (slice_get-append_right sees.0 turn_stages_mine.rest k ∙ found) ∙ sym turn_stages_number))

  pub turn_stages_part_seen : x.seen ++ turn_stages_part ≡ y.seen
  turn_stages_part_seen = sym turn_stages_is ∙ turn_stages_mine.begins ∙ ap (λ es. y.seen ++ es) turn_stages_nothing ∙ append-nil y.seen

  pub turn_stages_goes_on : AllGoOnInTurnStages ms x.seen
  turn_stages_goes_on q m here = elim (cases_eq q p) [
    | inl is ↦
        (let M : ℕ → Type 0 = λ k. slice_get ms k ≡ Some m in
        let P : Local → Type 0 = λ z. IsToFinish x.seen z in
        subst P (same_Some x m (sym at ∙ subst M is here))
        (record { rest = []; begins = sym (append-nil x.seen); away = λ k e found. absurd (none-some e found) }))
    | inr isnt ↦
        (let them = turn_stages_others q m isnt here in
        record {
          rest = them.0;
          begins = them.1;
          away = λ k e found own. them.2 k e
              (slice_get-append_left them.0 turn_stages_part k (slice_get_within them.0 k e found) ∙ found) (own ∙ number q m here);
        })
  ]

-- a turn of one's own, by whoever had seen all
turn_stages_own_made : {s : Plan} {c : SharedCluster} (n : ℕ) {p : ℕ} {ms ns : List Local} {all to : List TurnProgress}
    {h : List Event} → c.sizes ≡ plan_sizes s → AreAtRunSteps c s.sections ms all → IsRunTurnAlone s.sections p ms ns all to
    → HasSeenAllRunTurns ms p → length ms ≡ n → ((q : ℕ) (m : Local) → slice_get ms q ≡ Some m → m.number ≡ q) → AllGoOnInTurnStages ns h
    → AreTurnStageEventsOfThese n h → IsTurnStageMade s p ms (turn_stages ms all) (turn_stages ns to) h
turn_stages_own_made {s = s} {c = c} n {p = p} {ms = ms} {ns = ns} {all = all} {h = h} sizes way turn latest many number goes these =
    let m = turn.before in
    let x = turn.after in
    let sees = turn_way_taken_sees turn.section m x turn.at turn.next turn.takes in
    let own = turn_way_taken_same turn.section m x turn.at turn.next turn.takes in
    let at = way.each p turn.section m turn.at turn.section_is turn.before_is turn.at_is in
    let same = sees_more_calls_same_processor (new_at_run_call c p) m x (step_after_turn_same_after (new_at_run_call c p) m turn.section turn.at at) own in
    let part = turn_stages_part n p ms ns m x h turn.before_is turn.new_is sees own.number latest many number goes these in
    let seen = turn_stages_part_seen n p ms ns m x h turn.before_is turn.new_is sees own.number latest many number goes these in
    let whole : x.seen ≡ h =
    sym (turn_stages_is n p ms ns m x h turn.before_is turn.new_is sees own.number latest many number goes these ∙ seen) in
    let mine : SeesOwnRunCalls m x = (
      part,
      λ k e found. turn_stages_own n p ms ns m x h turn.before_is turn.new_is sees own.number latest many number goes these k e found
          ∙ sym (number p m turn.before_is),
      sym seen,
    ) in
    let P : List Local → List TurnProgress → Type 0 =
    λ xs ys. turn_stages xs ys ≡ slice_set (turn_stages ms all) p (turn_stage_of x turn.next) in
    let Q : List Event → Type 0 = λ es. IsScriptTurn s p turn.section m.seen (turn_stage_of m turn.at) turn.at es (turn_stage_of x turn.next) in
    record {
      front = m.seen;
      part = part;
      is = turn_stages_is n p ms ns m x h turn.before_is turn.new_is sees own.number latest many number goes these;
      goes_on = turn_stages_goes_on n p ms ns m x h turn.before_is turn.new_is sees own.number latest many number goes these;
      turn = record {
        section = turn.section;
        before = turn_stage_of m turn.at;
        after = turn_stage_of x turn.next;
        section_is = turn.section_is;
        before_is = turn_stages_at ms all p m turn.at turn.before_is turn.at_is;
        turn = subst Q whole (turn_stages_told s (new_at_run_call c p) m x turn.section turn.at turn.next same.number
            (same.sizes ∙ sizes) at turn.takes mine);
        others = subst₂ P (sym turn.new_is) (sym turn.to_is) (turn_stages_set ms all p x turn.next);
      };
    }

-- what begins such events is such
pub turn_stages_these_front : (n : ℕ) (h front part : List Event) → h ≡ front ++ part → AreTurnStageEventsOfThese n h → AreTurnStageEventsOfThese n front
turn_stages_these_front n h front part is these k e at =
    let P : List Event → Type 0 = λ es. EventAt es k e in
    these k e (subst P (sym is) (slice_get-append_left front part k (slice_get_within front k e at) ∙ at))

-- a turn between two looks
turn_stages_made : {s : Plan} {c : SharedCluster} {n p : ℕ} {ms ns : List Local} {all to : List TurnProgress} {h : List Event}
    → c.sizes ≡ plan_sizes s → AreAtRunSteps c s.sections ms all → AreTurnStagesInHand n ms → IsTurnOfRun s.sections p ms ns all to
    → AllGoOnInTurnStages ns h → AreTurnStageEventsOfThese n h → IsTurnStageMade s p ms (turn_stages ms all) (turn_stages ns to) h
turn_stages_made {s = s} {c = c} {n = n} {p = p} {ms = ms} {ns = ns} {all = all} {to = to} {h = h} sizes way hand turn goes these =
    let made = turn_stages_own_made n sizes (turn_way_seen c s.sections ms turn.seen all way turn.first)
    turn.turn (turn.latest hand.ahead) (turn.first.all ∙ hand.many) (turn_stages_in_hand_numbers_on ms turn.seen turn.first hand.number)
    (turn_stages_before turn.turned ns h turn.last goes) these in
    let P : List ScriptTurnStage → List ScriptTurnStage → Type 0 = λ xs ys. IsScriptTurnAt s p made.front xs h ys in
    record {
      front = made.front;
      part = made.part;
      is = made.is;
      turn = subst₂ P (turn_stages_seen ms turn.seen all turn.first) (sym (turn_stages_seen turn.turned ns to turn.last)) made.turn;
      goes_on = turn_stages_before ms turn.seen made.front turn.first made.goes_on;
    }

-- turns, and then more of them
pub turn_stages_made-append : (s : Plan) (ps qs : List ℕ) (f g h : List Event) (xs ys zs : List ScriptTurnStage)
    → AreScriptTurns s ps f xs g ys → AreScriptTurns s qs g ys h zs → AreScriptTurns s (ps ++ qs) f xs h zs
turn_stages_made-append s [] qs f g h xs ys zs first next =
    let P : List Event → List ScriptTurnStage → Type 0 = λ es x. AreScriptTurns s qs es x h zs in
    subst₂ P first.0 first.1 next
turn_stages_made-append s (p ∷ ps) qs f g h xs ys zs first next =
    (first.0, first.1, first.2, turn_stages_made-append s ps qs first.0 g h first.1 ys zs first.3 next)

-- what went on from what each had seen before these turns, and what they made of it
pub record AreTurnStagesMade (s : Plan) (ps : List ℕ) (ms : List Local) (old new : List ScriptTurnStage) (h : List Event) : Type 0 where
  pub front : List Event
  pub rest : List Event
  pub is : h ≡ front ++ rest
  pub turns : AreScriptTurns s ps front old h new
  pub goes_on : AllGoOnInTurnStages ms front

-- after none
turn_stages_made_none : (s : Plan) (ms : List Local) (old new : List ScriptTurnStage) (h : List Event) → new ≡ old → AllGoOnInTurnStages ms h
    → AreTurnStagesMade s [] ms old new h
turn_stages_made_none s ms old new h same goes =
    record { front = h; rest = []; is = sym (append-nil h); turns = (refl, same); goes_on = goes }

-- after a first one
turn_stages_made_first : {s : Plan} {p : ℕ} (ps : List ℕ) {ms : List Local} (between : List Local) {xs ys zs : List ScriptTurnStage}
    {h : List Event} (later : AreTurnStagesMade s ps between ys zs h) → IsTurnStageMade s p ms xs ys later.front
    → AreTurnStagesMade s (p ∷ ps) ms xs zs h
turn_stages_made_first ps between {ys = ys} later one = record {
  front = one.front;
  rest = one.part ++ later.rest;
  is = later.is ∙ ap (λ es. es ++ later.rest) one.is ∙ append_assoc one.front one.part later.rest;
  turns = (later.front, ys, one.turn, later.turns);
  goes_on = one.goes_on;
}

-- and then more
pub turn_stages_made_then : {s : Plan} {ps : List ℕ} (qs : List ℕ) {ms : List Local} (between : List Local)
    {xs ys zs : List ScriptTurnStage} {h : List Event} (later : AreTurnStagesMade s qs between ys zs h)
    → AreTurnStagesMade s ps ms xs ys later.front → AreTurnStagesMade s (ps ++ qs) ms xs zs h
turn_stages_made_then {s = s} {ps = ps} qs between {xs = xs} {ys = ys} {zs = zs} {h = h} later first = record {
  front = first.front;
  rest = first.rest ++ later.rest;
  is = later.is ∙ ap (λ es. es ++ later.rest) first.is ∙ append_assoc first.front first.rest later.rest;
  turns = turn_stages_made-append s ps qs first.front later.front h xs ys zs first.turns later.turns;
  goes_on = first.goes_on;
}

-- the turns of a round
turn_stages_of_turned : {s : Plan} {c : SharedCluster} {n : ℕ} {ps : List ℕ} {ms : List Local} (ns : List Local)
    {all : List TurnProgress} (to : List TurnProgress) {h : List Event} → c.sizes ≡ plan_sizes s
    → AreAtRunSteps c s.sections ms all → AreTurnStagesInHand n ms → AreRunTurns s.sections ps ms ns all to → AllGoOnInTurnStages ns h → AreTurnStageEventsOfThese n h
    → AreTurnStagesMade s ps ms (turn_stages ms all) (turn_stages ns to) h
turn_stages_of_turned {s = s} {ps = []} {ms = ms} ns {all = all} to {h = h} sizes way hand turned goes these =
    let P : List Local → Type 0 = λ xs. AllGoOnInTurnStages xs h in
    turn_stages_made_none s ms (turn_stages ms all) (turn_stages ns to) h (ap₂ turn_stages turned.0 turned.1) (subst P turned.0 goes)
turn_stages_of_turned {s = s} {c = c} {n = n} {ps = (p ∷ ps)} {ms = ms} ns {all = all} to {h = h} sizes way hand turned goes these =
    let between = turned.0 in
    let half = turned.1 in
    let turn = turned.2 in
    let later = turn_stages_of_turned ns to sizes (turn_way_after_turn c s.sections p ms between all half way turn)
    (turn_stages_in_hand_turned n s.sections p ms between all half hand turn) turned.3 goes these in
    turn_stages_made_first ps between later
    (turn_stages_made sizes way hand turn later.goes_on
    (turn_stages_these_front n h later.front later.rest later.is these))

-- those between looks
pub turn_stages_of_taken : {s : Plan} {c : SharedCluster} {n : ℕ} {ps : List ℕ} {ms : List Local} (ns : List Local)
    {all : List TurnProgress} (to : List TurnProgress) {h : List Event} → c.sizes ≡ plan_sizes s
    → AreAtRunSteps c s.sections ms all → AreTurnStagesInHand n ms → AreRunTurnsTaken s.sections ps ms ns all to → AllGoOnInTurnStages ns h → AreTurnStageEventsOfThese n h
    → AreTurnStagesMade s ps ms (turn_stages ms all) (turn_stages ns to) h
turn_stages_of_taken {s = s} {ps = []} {ms = ms} ns {all = all} to {h = h} sizes way hand taken goes these =
    turn_stages_made_none s ms (turn_stages ms all) (turn_stages ns to) h
    (ap (turn_stages ns) taken.1 ∙ turn_stages_seen ms ns all taken.0.on) (turn_stages_before ms ns h taken.0.on goes)
turn_stages_of_taken {s = s} {c = c} {n = n} {ps = (p ∷ ps)} {ms = ms} ns {all = all} to {h = h} sizes way hand taken goes these =
    let seen = taken.0 in
    let between = taken.1 in
    let half = taken.2 in
    let on = turn_way_seen c s.sections ms seen all way taken.3.on in
    let held = turn_stages_in_hand_seen n ms seen hand taken.3 in
    let later = turn_stages_of_taken ns to sizes (turn_way_after_turn c s.sections p seen between all half on taken.4)
    (turn_stages_in_hand_turned n s.sections p seen between all half held taken.4) taken.5 goes these in
    let one = turn_stages_made sizes on held taken.4 later.goes_on
    (turn_stages_these_front n h later.front later.rest later.is these) in
    let P : List ScriptTurnStage → Type 0 = λ xs. IsScriptTurnAt s p one.front xs later.front (turn_stages between half) in
    turn_stages_made_first ps between later (record {
      front = one.front;
      part = one.part;
      is = one.is;
      turn = subst P (turn_stages_seen ms seen all taken.3.on) one.turn;
      goes_on = turn_stages_before ms seen one.front taken.3.on one.goes_on;
    })

-- rounds
pub turn_stages_of_rounds : {s : Plan} {c : SharedCluster} {n : ℕ}
    (orders : ℕ → List ℕ) (k : ℕ) {ms : List Local} (ns : List Local) {start : List TurnProgress} (all : List TurnProgress) {h : List Event}
    → c.sizes ≡ plan_sizes s → AreAtRunSteps c s.sections ms start → AreTurnStagesInHand n ms → AreRunTurnRounds s orders k ms start ns all
    → AllGoOnInTurnStages ns h → AreTurnStageEventsOfThese n h → AreTurnStagesMade s (script_turns_of orders k) ms (turn_stages ms start) (turn_stages ns all) h
turn_stages_of_rounds {s = s} orders zero {ms = ms} ns {start = start} all {h = h} sizes way hand rounds goes these =
    let P : List Local → Type 0 = λ xs. AllGoOnInTurnStages xs h in
    turn_stages_made_none s ms (turn_stages ms start) (turn_stages ns all) h (ap₂ turn_stages rounds.0 rounds.1) (subst P rounds.0 goes)
turn_stages_of_rounds {s = s} {n = n} orders (suc k) {ms = ms} ns {start = start} all {h = h} sizes way hand rounds goes these =
    let between = rounds.0 in
    let half = rounds.1 in
    let round = rounds.3 in
    let on = turn_way_rounds s orders k way rounds.2 in
    let held = turn_stages_in_hand_rounds s orders k start half hand rounds.2 in
    let last = turn_stages_of_turned round.turned all sizes on held round.turns
    (turn_stages_before round.turned ns h round.seen.on goes) these in
    let first = turn_stages_of_rounds orders k between half sizes way hand rounds.2 last.goes_on
    (turn_stages_these_front n h last.front last.rest last.is these) in
    let P : List ScriptTurnStage → Type 0 = λ xs. AreTurnStagesMade s (script_turns_of orders k ++ orders k) ms (turn_stages ms start) xs h in
    subst P (sym (turn_stages_seen round.turned ns all round.seen.on))
    (turn_stages_made_then (orders k) between last first)

-- before the first call there is nothing
pub turn_stages_nothing_at_start : (c : SharedCluster) (ms : List Local) (h : List Event) → IsNewCluster c ms → AllGoOnInTurnStages ms h
    → AreTurnStageEventsOfThese c.sizes.processors h → h ≡ []
turn_stages_nothing_at_start c ms h new goes these = calls_in_block_empty h none
  where
    none : (k : ℕ) (e : Event) → EventAt h k e → ⊥
    none k e at =
        let below = these k e at in
        let long = new.all in
        let m = get_or ms e.processor (new_at_run_call c 0) in
        let here = slice_get-get_or ms e.processor (new_at_run_call c 0) (omega arith) in
        let is = new.each e.processor m here in
        let theirs = goes e.processor m here in
        let all : h ≡ theirs.rest = theirs.begins ∙ ap (λ (x : Local). x.seen ++ theirs.rest) is in
        let P : List Event → Type 0 = λ es. EventAt es k e in
        theirs.away k e (subst P all at) (sym (ap (λ (x : Local). x.number) is))
