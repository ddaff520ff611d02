-- What comes of processors that took their turns from the start on.
use Rattle.std.proofs.Common.{ℕ, zero, suc, ◌≡◌, ◌==◌, cond, ◌+◌, inl, inr, Option, Some, None, List, [], ◌∷◌, ◌++◌, length, map, replicate, refl, sym, ap, ap₂, subst, subst₂, ◌∙◌, append_assoc, append-nil, arith}
use Rattle.std.specs.Prelude.{All, slice_get}
use Rattle.std.specs.List.{flat_map}
use Rattle.std.proofs.lemmas.Option.{get_or_from_slice_get, slice_get_within}
use Rattle.journal.specs.declared.event.Event.{Event}
use Rattle.journal.specs.declared.event.Kind.{Kind}
use Rattle.journal.specs.Events.{EventAt, events_of}
use Rattle.journal.specs.Sizes.{Sizes}
use Rattle.journal.specs.WellFormed.{WellFormed}
use Rattle.lrc_script.specs.Lawful.{IsLawful}
use Rattle.lrc_script.specs.Plan.{Plan}
use Rattle.lrc_report.specs.declared.report.Report.{Report}
use Rattle.conformance.specs.Follows.{calls_of, call_kinds, load_of, plan_sizes}
use Rattle.cluster.specs.Copies.Local.{Local}
use Rattle.cluster.specs.NewClusters.{IsNewCluster, SharedCluster}
use Rattle.conformance.specs.declared.ended.Ended.{Ended}
use Rattle.conformance.specs.declared.ended.Ended.TheVariants.{Halted, Whole}
use Rattle.conformance.specs.declared.ended.Halt.{Halt}
use Rattle.conformance.specs.declared.progress.TurnProgress.{TurnProgress}
use Rattle.conformance.specs.declared.progress.TurnProgress.TheVariants.{Next, Passed}
use Rattle.conformance.specs.DrawnRuns.{HasArrivedAtDrawnEnd, HaveArrivedByDrawnTries, IsRunOfDraws, drawing_after_of, drawn_tries_of}
use Rattle.conformance.specs.OrderedTurns.{IsEndByOrderedTurns, IsHaltByOrderedTurns, IsReportByOrderedTurns, ordered_turns_of_seed}
use Rattle.conformance.specs.RunEnds.{IsRunEnd}
use Rattle.conformance.specs.ScheduleTexts.{schedule_orders}
use Rattle.conformance.specs.OpenBlocks.{open_block_handed_in}
use Rattle.conformance.specs.ScriptTurns.{AreReachedByScriptTurns, AreScriptTurns, ScriptTurnStage, ScriptTurnsEndWith, script_turn_blocks_from, script_turn_stage, script_turns_of}
use Rattle.lrc_run.specs.FollowedEnds.{FollowedEndHasBlocks, IsFollowedEndAfter, IsFollowedEndHaltWith, IsFollowedEndReportAfter}
use Rattle.lrc_run.specs.DrawnTurns.{HaveArrivedAtRunSteps, HaveWandered}
use Rattle.lrc_run.specs.RunSteps.{AreAtRunSteps}
use Rattle.lrc_run.specs.RunTurns.{AreRunTurnsTaken, HasSeenAllRunTurns, HaveGoneOnInRunTurns}
use Rattle.lrc_run.proofs.EndingBlocks.{ending_blocks_from_front}
use Rattle.lrc_run.proofs.Halting.{halted_all}
use Rattle.lrc_run.proofs.CallsInBlock.{calls_in_block_own_kinds}
use Rattle.lrc_run.proofs.StepsAfterTurns.{step_after_turn_begin}
use Rattle.lrc_run.proofs.TurnStages.{AllGoOnInTurnStages, AreTurnStagesInHand, AreTurnStageEventsOfThese, turn_stages_in_hand_new, turn_stages_in_hand_rounds, turn_stages_in_hand_taken, turn_stages_nothing_at_start, turn_stages_these_front, turn_stages_of_rounds, turn_stage_of, turn_stages_of_taken, turn_stage_from, turn_stages, turn_stages_start, turn_stages_nothing_made, turn_stages_made-append}
use Rattle.lrc_run.proofs.TurnWays.{turn_way_seen_same, turn_ways_taken}

-- new processors of the script's cluster have taken these turns, and then gone on in rounds of this seed's orders
pub record AreRunTurnsBy (c : SharedCluster) (s : Plan) (turns : List ℕ) (seed : Option ℕ) (old new : List Local)
    (all : List TurnProgress) : Type 0 where
  pub between : List Local
  pub half : List TurnProgress
  pub first : AreRunTurnsTaken s.sections turns old between (replicate s.processors (Next 0)) half
  pub gone : HaveGoneOnInRunTurns c s seed between new half all

-- turns from the start on, and then rounds: what history and stages the turns make, and the rounds of these
pub record AreEndsByTurnsMade (s : Plan) (turns rest : List ℕ) (between : List ScriptTurnStage) (h : List Event) (end : List ScriptTurnStage)
    : Type 0 where
  pub middle : List Event
  pub first : AreScriptTurns s turns [] (replicate s.processors (script_turn_stage (Next 0) [] [])) middle between
  pub last : AreScriptTurns s rest middle between h end

-- they make the history that goes on from what each has seen at their end
ends_by_turns_from_start : {s : Plan} {c : SharedCluster} {turns : List ℕ} {seed : Option ℕ} (h : List Event)
    {ms ns : List Local} {all : List TurnProgress} → c.sizes ≡ plan_sizes s → IsNewCluster c ms
    → (by : AreRunTurnsBy c s turns seed ms ns all) → AllGoOnInTurnStages ns h → AreTurnStageEventsOfThese s.processors h
    → AreEndsByTurnsMade s turns (script_turns_of (ordered_turns_of_seed s seed) by.gone.count) (turn_stages by.between by.half) h (turn_stages ns all)
ends_by_turns_from_start {s = s} {c = c} {turns = turns} {seed = seed} h {ms = ms} {ns = ns} {all = all} sizes new by goes these =
    let n = s.processors in
    let orders = ordered_turns_of_seed s seed in
    let k = by.gone.count in
    let start : List TurnProgress = replicate n (Next 0) in
    let same : c.sizes.processors ≡ n = ap (λ (x : Sizes). x.processors) sizes in
    let many : length ms ≡ n = new.all ∙ same in
    let way = step_after_turn_begin c s.sections ms start n new (sym many) refl in
    let hand : AreTurnStagesInHand n ms = subst (λ i. AreTurnStagesInHand i ms) same (turn_stages_in_hand_new c ms new) in
    let between = turn_ways_taken c s.sections turns ms by.between start by.half way by.first in
    let held = turn_stages_in_hand_taken n s.sections turns ms by.between start by.half hand by.first in
    let last = turn_stages_of_rounds orders k ns all sizes between held by.gone.rounds goes these in
    let first = turn_stages_of_taken by.between by.half sizes way hand by.first last.goes_on
    (turn_stages_these_front n h last.front last.rest last.is these) in
    let few = turn_stages_these_front n last.front first.front first.rest first.is
    (turn_stages_these_front n h last.front last.rest last.is these) in
    let none = turn_stages_nothing_at_start c ms first.front new first.goes_on (subst (λ i. AreTurnStageEventsOfThese i first.front) (sym same) few) in
    let P : List Event → List ScriptTurnStage → Type 0 = λ es xs. AreScriptTurns s turns es xs last.front (turn_stages by.between by.half) in
    record {
      middle = last.front;
      first = subst₂ P none (turn_stages_start ms n many (turn_stages_nothing_made c ms new)) first.turns;
      last = last.turns;
    }

-- all of them
ends_by_turns_all_made : (s : Plan) (turns rest : List ℕ) (between : List ScriptTurnStage) (h : List Event) (end : List ScriptTurnStage)
    → AreEndsByTurnsMade s turns rest between h end
    → AreScriptTurns s (turns ++ rest) [] (replicate s.processors (script_turn_stage (Next 0) [] [])) h end
ends_by_turns_all_made s turns rest between h end made =
    turn_stages_made-append s turns rest [] made.middle h (replicate s.processors (script_turn_stage (Next 0) [] [])) between end made.first made.last

-- and then they are the cluster's still, and processor 0 has seen all
ends_by_turns_in_hand : (s : Plan) (c : SharedCluster) (turns : List ℕ) (seed : Option ℕ) (ms ns : List Local) (all : List TurnProgress)
    → IsNewCluster c ms → AreRunTurnsBy c s turns seed ms ns all → AreTurnStagesInHand c.sizes.processors ns
ends_by_turns_in_hand s c turns seed ms ns all new by =
    let n = c.sizes.processors in
    let held = turn_stages_in_hand_taken n s.sections turns ms by.between (replicate s.processors (Next 0)) by.half (turn_stages_in_hand_new c ms new) by.first in
    turn_stages_in_hand_rounds s (ordered_turns_of_seed s seed) by.gone.count by.half all held by.gone.rounds

-- so many are the script's processors
pub ends_by_turns_many : (s : Plan) (c : SharedCluster) (ms : List Local) (n : ℕ) → c.sizes ≡ plan_sizes s → IsNewCluster c ms → n ≡ length ms
    → n ≡ s.processors
ends_by_turns_many s c ms n sizes new many = many ∙ new.all ∙ ap (λ (x : Sizes). x.processors) sizes

-- new processors took these turns, and went round then
abbrev pub ends_by_turns_taken : {s : Plan} {c : SharedCluster} {turns : List ℕ} {seed : Option ℕ} {ms between ns : List Local}
    (start : List TurnProgress) {half all : List TurnProgress} (n : ℕ) → c.sizes ≡ plan_sizes s → IsNewCluster c ms
    → n ≡ length ms → start ≡ replicate n (Next 0) → AreRunTurnsTaken s.sections turns ms between start half
    → HaveGoneOnInRunTurns c s seed between ns half all → AreRunTurnsBy c s turns seed ms ns all
ends_by_turns_taken {s = s} {c = c} {turns = turns} {ms = ms} {between = between} start {half = half} n sizes new many is taken gone =
    let P : List TurnProgress → Type 0 = λ xs. AreRunTurnsTaken s.sections turns ms between xs half in
    record {
      between = between;
      half = half;
      first = subst P (is ∙ ap (λ k. replicate k (Next 0)) (ends_by_turns_many s c ms n sizes new many)) taken;
      gone = gone;
    }

-- or went round at once
pub ends_by_turns_in_rounds : {s : Plan} {c : SharedCluster} {seed : Option ℕ} {ms ns : List Local}
    {start all : List TurnProgress} (n : ℕ) → c.sizes ≡ plan_sizes s → IsNewCluster c ms → n ≡ length ms
    → start ≡ replicate n (Next 0) → HaveGoneOnInRunTurns c s seed ms ns start all → AreRunTurnsBy c s [] seed ms ns all
ends_by_turns_in_rounds {ms = ms} {start = start} n sizes new many is gone =
    ends_by_turns_taken start n sizes new many is (turn_way_seen_same ms, refl) gone

-- the open blocks of processors are those of their stages
ends_by_turns_of_stages : (a : ℕ) (ms : List Local) (all : List TurnProgress) → length all ≡ length ms
    → ((p : ℕ) (m : Local) → slice_get ms p ≡ Some m → (k : ℕ) (e : Event) → EventAt m.block k e → e.processor ≡ a + p)
    → script_turn_blocks_from a (turn_stages ms all) ≡ flat_map (λ (m : Local). m.block) ms
ends_by_turns_of_stages a [] all long own = refl
ends_by_turns_of_stages a (m ∷ ms) [] long own = absurd (omega (arith, long))
ends_by_turns_of_stages a (m ∷ ms) (at ∷ all) long own =
    ap₂ (λ (xs ys : List Event). xs ++ ys)
    (calls_in_block_own_kinds a m.block (λ k e found. let is = own zero m refl k e found in omega (arith, is)))
    (ends_by_turns_of_stages (suc a) ms all (omega (arith, long))
    (λ p x here k e found. let is = own (suc p) x here k e found in omega (arith, is)))

-- a history that ends with blocks ends the turns
ends_by_turns_from_history : {s : Plan} {ms : List Local} (all : List TurnProgress) {kinds : List Kind} {h : List Event} → length all ≡ length ms
    → (ends : FollowedEndHasBlocks s ms kinds h) → ScriptTurnsEndWith s ends.front (turn_stages ms all) kinds h
ends_by_turns_from_history [] long ends =
    let same = ap length ends.all in
    absurd (omega (arith, long, same))
ends_by_turns_from_history (at ∷ all) long ends =
    let same = ap length ends.all in
    let blocks = ends_by_turns_of_stages 1 ends.others all (omega (arith, long, same))
    (λ p m here k e found. let is = ends.own p m here k e found in omega (arith, is)) in
    record {
      first = turn_stage_of ends.first at;
      others = turn_stages ends.others all;
      stages_are = ap (λ ms. turn_stages ms (at ∷ all)) ends.all;
      last = ends.last;
      noted = ends.noted;
      is = ends.is ∙ ap (λ es. open_block_handed_in 0 ends.last ++ es) (sym blocks);
    }

-- all have come so far by turns in these orders, in each history that ends with their blocks; and processor 0 has seen all
pub record AreToldToEndByTurns (s : Plan) (orders : ℕ → List ℕ) (ns : List Local) (all : List TurnProgress) : Type 0 where
  pub ahead : HasSeenAllRunTurns ns 0
  pub told : (kinds : List Kind) (h : List Event) → FollowedEndHasBlocks s ns kinds h → WellFormed (plan_sizes s) h
      → AreReachedByScriptTurns s orders h (turn_stages ns all) kinds

-- by turns that come to these
ends_by_turns_told : {s : Plan} {c : SharedCluster} {turns : List ℕ} {seed : Option ℕ}
    {orders : ℕ → List ℕ} (rounds : ℕ) {ms ns : List Local} {all : List TurnProgress} → c.sizes ≡ plan_sizes s
    → IsNewCluster c ms → (by : AreRunTurnsBy c s turns seed ms ns all)
    → script_turns_of orders rounds ≡ turns ++ script_turns_of (ordered_turns_of_seed s seed) by.gone.count → AreToldToEndByTurns s orders ns all
ends_by_turns_told {s = s} {c = c} {turns = turns} {seed = seed} rounds {ms = ms} {ns = ns} {all = all} sizes new by are = record {
  ahead = (ends_by_turns_in_hand s c turns seed ms ns all new by).ahead;
  told = λ kinds h ends well_formed.
      let rest = ending_blocks_from_front ends in
      let these = turn_stages_these_front s.processors h ends.front rest.0 rest.1 (λ k e at. (well_formed k e at).processor) in
      let way = by.gone.way in
      let many = way.many in
      let long = way.long in
      let P : List ℕ → Type 0 =
      λ ps. AreScriptTurns s ps [] (replicate s.processors (script_turn_stage (Next 0) [] [])) ends.front (turn_stages ns all) in
      record {
        rounds = rounds;
        front = ends.front;
        turns = subst P (sym are) (ends_by_turns_all_made s turns (script_turns_of (ordered_turns_of_seed s seed) by.gone.count)
            (turn_stages by.between by.half) ends.front (turn_stages ns all) (ends_by_turns_from_start ends.front sizes new by ends.goes_on these));
        ends = ends_by_turns_from_history all (long ∙ sym many) ends;
      };
}

-- in the orders of a seed
pub ends_by_turns_of_seed : (s : Plan) (c : SharedCluster) (seed : Option ℕ) (ms ns : List Local) (all : List TurnProgress)
    → c.sizes ≡ plan_sizes s → IsNewCluster c ms → AreRunTurnsBy c s [] seed ms ns all → AreToldToEndByTurns s (ordered_turns_of_seed s seed) ns all
ends_by_turns_of_seed s c seed ms ns all sizes new by =
    ends_by_turns_told by.gone.count sizes new by refl

-- the turns of a schedule, and of rounds behind them
ends_by_turns_of_scheduled : (s : Plan) (turns : List ℕ) (k : ℕ)
    → script_turns_of (schedule_orders s turns) (suc k) ≡ turns ++ script_turns_of (ordered_turns_of_seed s None) k
ends_by_turns_of_scheduled s turns zero = sym (append-nil turns)
ends_by_turns_of_scheduled s turns (suc k) = ap (λ ps. ps ++ ordered_turns_of_seed s None k) (ends_by_turns_of_scheduled s turns k)
    ∙ append_assoc turns (script_turns_of (ordered_turns_of_seed s None) k) (ordered_turns_of_seed s None k)

-- by a schedule
pub ends_by_turns_of_schedule : (s : Plan) (c : SharedCluster) (turns : List ℕ) (ms ns : List Local) (all : List TurnProgress)
    → c.sizes ≡ plan_sizes s → IsNewCluster c ms → AreRunTurnsBy c s turns None ms ns all → AreToldToEndByTurns s (schedule_orders s turns) ns all
ends_by_turns_of_schedule s c turns ms ns all sizes new by =
    ends_by_turns_told (suc by.gone.count) sizes new by
    (ends_by_turns_of_scheduled s turns by.gone.count)

-- the report of a run by turns: all have passed the closing barrier
ends_by_turns_report : (s : Plan) (orders : ℕ → List ℕ) (ns : List Local) (all : List TurnProgress) (r : Report)
    → AreToldToEndByTurns s orders ns all → All (λ x. x ≡ Passed) all → IsFollowedEndReportAfter s r ns → IsReportByOrderedTurns s orders r
ends_by_turns_report s orders ns all r told passed after = record {
  report = after.is;
  stages = turn_stages ns all;
  reached = told.told (map load_of r.shown.items) after.is.history (after.ends told.ahead) after.is.tells.well_formed;
  passed = λ p x here.
      let is = turn_stage_from ns all p x here in
      ap (λ (y : ScriptTurnStage). y.progress) is.is ∙ sym (get_or_from_slice_get all p is.at Passed is.at_is)
      ∙ passed p Passed (slice_get_within all p is.at is.at_is);
  calls_are = λ p x here.
      let is = turn_stage_from ns all p x here in
      let P : ScriptTurnStage → Type 0 = λ y. calls_of after.is.history p ≡ y.calls ++ cond (p == 0) (map load_of r.shown.items) [] in
      subst P (sym is.is) (after.calls_are p is.processor is.processor_is);
}

-- the journal of one that is stuck
ends_by_turns_halt : {s : Plan} {c : SharedCluster}
    {orders : ℕ → List ℕ} {ns : List Local} {all : List TurnProgress} {halt : Halt} → IsLawful s → c.sizes ≡ plan_sizes s
    → AreAtRunSteps c s.sections ns all → AreToldToEndByTurns s orders ns all → IsFollowedEndHaltWith s halt.journal ns
    → halt.processor ≡ 0 → IsHaltByOrderedTurns s orders halt
ends_by_turns_halt {s = s} {c = c} {ns = ns} {all = all} lawful sizes way told with_calls first = record {
  journal = with_calls.is;
  least = first;
  stages = turn_stages ns all;
  reached = told.told [] with_calls.is.history with_calls.ends with_calls.is.well_formed;
  calls_are = λ p x here.
      let is = turn_stage_from ns all p x here in
      let m = is.processor in
      let number = ((halted_all s c ns all lawful sizes way).each p m is.processor_is).number in
      let own = with_calls.each p m is.processor_is in
      ap call_kinds (ap (events_of with_calls.is.history) (sym number) ∙ own.calls_are)
      ∙ ap (λ (y : ScriptTurnStage). y.calls) (sym is.is);
}

-- how it ended
pub ends_by_turns : {s : Plan} {c : SharedCluster}
    {orders : ℕ → List ℕ} {ns : List Local} {all : List TurnProgress} (e : Ended) → IsLawful s → c.sizes ≡ plan_sizes s
    → AreAtRunSteps c s.sections ns all → AreToldToEndByTurns s orders ns all → IsFollowedEndAfter s ns all e
    → IsEndByOrderedTurns s orders e
ends_by_turns {s = s} {orders = orders} {ns = ns} {all = all} (Whole report) lawful sizes way told after =
    ends_by_turns_report s orders ns all report told after.1 after.0
ends_by_turns (Halted halt) lawful sizes way told after =
    ends_by_turns_halt lawful sizes way told after.0 after.1

-- what a run by turns came to is an end of the script
pub ends_by_turns_of_script : (s : Plan) (orders : ℕ → List ℕ) (e : Ended) → IsEndByOrderedTurns s orders e → IsRunEnd s e
ends_by_turns_of_script s orders (Whole report) by = by.report
ends_by_turns_of_script s orders (Halted halt) by = (by.journal, by.least)

-- the blocks with which a run ended that has come so far, and its history
pub record HasEndByTurnsBlocks (s : Plan) (ns : List Local) : Type 0 where
  pub kinds : List Kind
  pub history : List Event
  pub blocks : FollowedEndHasBlocks s ns kinds history
  pub well_formed : WellFormed (plan_sizes s) history

ends_by_turns_blocks : (s : Plan) (ns : List Local) (all : List TurnProgress) (e : Ended) → HasSeenAllRunTurns ns 0 → IsFollowedEndAfter s ns all e
    → HasEndByTurnsBlocks s ns
ends_by_turns_blocks s ns all (Whole report) ahead after = record {
  kinds = map load_of report.shown.items;
  history = after.0.is.history;
  blocks = after.0.ends ahead;
  well_formed = after.0.is.tells.well_formed;
}
ends_by_turns_blocks s ns all (Halted halt) ahead after = record {
  kinds = [];
  history = after.0.is.history;
  blocks = after.0.ends;
  well_formed = after.0.is.well_formed;
}

-- where all have arrived after these turns, they have by the script's turns
ends_by_turns_arrived : {s : Plan} {c : SharedCluster} {turns : List ℕ} {seed : Option ℕ} {ms between ns : List Local} (start : List TurnProgress)
    {half all : List TurnProgress} (n : ℕ) (e : Ended) → c.sizes ≡ plan_sizes s → IsNewCluster c ms → n ≡ length ms → start ≡ replicate n (Next 0)
    → AreRunTurnsTaken s.sections turns ms between start half → HaveGoneOnInRunTurns c s seed between ns half all
    → HaveArrivedAtRunSteps s.sections half → IsFollowedEndAfter s ns all e → HaveArrivedByDrawnTries s turns
ends_by_turns_arrived {s = s} {c = c} {turns = turns} {seed = seed} {ms = ms} {ns = ns} start {all = all} n e sizes new many is taken gone arrived after =
    let by = ends_by_turns_taken start n sizes new many is taken gone in
    let ahead = (ends_by_turns_in_hand s c turns seed ms ns all new by).ahead in
    let end = ends_by_turns_blocks s ns all e ahead after in
    let rest = ending_blocks_from_front end.blocks in
    let these = turn_stages_these_front s.processors end.history end.blocks.front rest.0 rest.1 (λ k e at. (end.well_formed k e at).processor) in
    let made = ends_by_turns_from_start end.blocks.front sizes new by end.blocks.goes_on these in
    record {
      history = made.middle;
      stages = turn_stages by.between by.half;
      turns = made.first;
      arrived = λ p section x its here.
          let is = turn_stage_from by.between by.half p x here in
          let P : ScriptTurnStage → Type 0 = λ y. HasArrivedAtDrawnEnd section y.progress in
          subst P (sym is.is) (arrived p section is.at its is.at_is);
    }

-- new processors took the turns that a seed draws, and went round then
pub ends_by_turns_of_draws : {s : Plan} {c : SharedCluster} {seed : ℕ} {turns : List ℕ} {ms between ns : List Local}
    (start : List TurnProgress) {half all : List TurnProgress} (n : ℕ) (e : Ended) → IsLawful s → c.sizes ≡ plan_sizes s → IsNewCluster c ms
    → n ≡ length ms → start ≡ replicate n (Next 0) → HaveWandered s seed turns ms between start half
    → HaveGoneOnInRunTurns c s None between ns half all → IsFollowedEndAfter s ns all e → IsRunOfDraws s seed turns e
ends_by_turns_of_draws {s = s} {c = c} {seed = seed} {turns = turns} {ms = ms} {between = between} {ns = ns} start {half = half} {all = all} n e lawful sizes new many is drawn gone after = record {
  places = drawn.places;
  turns_are = drawn.turns_are;
  tried = elim drawn.tried [
    | inl out ↦ inl (ends_by_turns_arrived start n e sizes new many is out.0 gone out.1 after, ended (drawn_tries_of s seed drawn.places) out.0)
    | inr whole ↦ inr (ended (drawn_tries_of s seed drawn.places ++ (drawing_after_of s seed drawn.places).order) whole)
  ];
}
  where
    ended : (ps : List ℕ) → AreRunTurnsTaken s.sections ps ms between start half → IsEndByOrderedTurns s (schedule_orders s ps) e
    ended ps taken = ends_by_turns e lawful sizes gone.way (ends_by_turns_of_schedule s c ps ms ns all sizes new
        (ends_by_turns_taken start n sizes new many is taken gone)) after
