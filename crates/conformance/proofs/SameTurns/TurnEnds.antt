-- Two ends of a script by turns in the same orders have one history.
use Rattle.std.proofs.Common.{ℕ, zero, suc, ◌≡◌, ◌<◌, ◌≤◌, inl, inr, true, false, Some, List, [], ◌∷◌, ◌++◌, map, length, slice_get, get_or, refl, sym, ap, ap₂, subst, subst₂, ◌∙◌, append_assoc, append-nil, arith}
use Rattle.std.proofs.lemmas.Bool.{cases_lt, false≢true}
use Rattle.std.proofs.lemmas.List.{length-replicate}
use Rattle.std.proofs.lemmas.Option.{none-some, slice_get-get_or, slice_get_within}
use Rattle.base.proofs.SlicesAndCounts.{slice_push_induction}
use Rattle.journal.specs.declared.event.Event.{Event}
use Rattle.journal.specs.declared.event.Kind.{Kind}
use Rattle.journal.specs.declared.event.Kind.TheVariants.{Ask, Arrive, Load, Watch}
use Rattle.journal.specs.DidEvent.{did, event}
use Rattle.journal.specs.AwaitedNext.{awaited_next}
use Rattle.journal.specs.WellFormed.{LastIs, Ready, WellFormed}
use Rattle.journal.proofs.Journals.WellFormedStays.{well_formed_stays_last_cases, well_formed_stays_front}
use Rattle.lrc_script.specs.Lawful.{IsLawful}
use Rattle.lrc_script.specs.Plan.{Plan}
use Rattle.lrc_report.specs.declared.report.Report.{Report}
use Rattle.conformance.specs.OrderedTurns.{IsEndByOrderedTurns, IsHaltByOrderedTurns, IsReportByOrderedTurns}
use Rattle.conformance.specs.Follows.{calls_of, is_fetch, load_of, plan_sizes}
use Rattle.conformance.specs.Like.{SameButValues, event_like_without_value}
use Rattle.conformance.specs.OpenBlocks.{OpenBlock, open_block_handed_in, open_block}
use Rattle.conformance.specs.SameTurns.{AreSameEnds, AreSameTurns, BeginsWithCopies, SameEndsLaw, same_turn_calls_valueless, history_by_turns, same_turn_stage_valueless}
use Rattle.conformance.specs.ScriptTurns.{AreReachedByScriptTurns, AreScriptTurns, ScriptTurnStage, ScriptTurnsEndWith, script_turn_blocks_from, first_script_turn_stages, script_turn_stage, script_turns_of}
use Rattle.conformance.specs.declared.ended.Ended.{Ended}
use Rattle.conformance.specs.declared.ended.Ended.TheVariants.{Halted, Whole}
use Rattle.conformance.specs.declared.ended.Halt.{Halt}
use Rattle.conformance.specs.declared.progress.TurnProgress.{TurnProgress}
use Rattle.conformance.specs.declared.progress.TurnProgress.TheVariants.{Next, Passed, Waits}
use Rattle.conformance.proofs.FollowedCalls.{followed_calls-others, followed_calls-own}
use Rattle.conformance.proofs.Recomputing.AnsweredAlike.{answered_alike_follower_begins}
use Rattle.conformance.proofs.SameTurns.Along.{AlongBoth, AreAlongCourse, along_both, along_course, along_first_course, along_many, along_same, along_well_formed, along_course_waits}
use Rattle.conformance.proofs.SameTurns.InstructionKinds.{instruction_kinds_end_waiting, instruction_kinds_end_waiting-append, instruction_kinds_awaited_wait}
use Rattle.conformance.proofs.SameTurns.NotedBlocks.{noted_block_like-append, noted_block_calls_go_on, noted_block_calls_like, noted_block_events_like, noted_block_handed_in_like}
use Rattle.conformance.proofs.SameTurns.Settled.{AreSettled, IsSettled, settled_turns}
use Rattle.conformance.proofs.SameTurns.SideBySide.{side_stages_at}
use Rattle.conformance.proofs.SameTurns.CopyValues.{copy_values_same_law}

-- the history of an end: what the turns have made, and then these calls of processor 0 and the open blocks
record IsEndOfTurns (s : Plan) (orders : ℕ → List ℕ) (h : List Event) (xs : List ScriptTurnStage) (kinds : List Kind) : Type 0 where
  well : WellFormed (plan_sizes s) h
  reached : AreReachedByScriptTurns s orders h xs kinds
  settled : AreSettled s reached.front xs

-- open blocks that are the same but for values
turn_end_blocks_like : (p : ℕ) (xs ys : List ScriptTurnStage) → map same_turn_stage_valueless xs ≡ map same_turn_stage_valueless ys
    → SameButValues (script_turn_blocks_from p xs) (script_turn_blocks_from p ys)
turn_end_blocks_like p [] [] same = refl
turn_end_blocks_like p [] (y ∷ ys) same = absurd (cc)
turn_end_blocks_like p (x ∷ xs) [] same = absurd (cc)
turn_end_blocks_like p (x ∷ xs) (y ∷ ys) same =
    let first : same_turn_stage_valueless x ≡ same_turn_stage_valueless y = cc in
    let rest : map same_turn_stage_valueless xs ≡ map same_turn_stage_valueless ys = cc in
    noted_block_like-append (map (event p) x.pending) (map (event p) y.pending) (script_turn_blocks_from (suc p) xs) (script_turn_blocks_from (suc p) ys)
    (noted_block_events_like p x.pending y.pending (ap (λ (z : TurnProgress × List Kind × List Kind). z.2) first))
    (turn_end_blocks_like (suc p) xs ys rest)

-- the ends of two runs that are the same
turn_end_whole_like : (s : Plan) (ks ls : List Kind) {front beside : List Event} {xs ys : List ScriptTurnStage} {g h : List Event}
    → AreSameTurns front beside xs ys → same_turn_calls_valueless ks ≡ same_turn_calls_valueless ls → ScriptTurnsEndWith s front xs ks g
    → ScriptTurnsEndWith s beside ys ls h → SameButValues g h
turn_end_whole_like s ks ls same kinds x y =
    let stages : same_turn_stage_valueless x.first ∷ map same_turn_stage_valueless x.others
    ≡ same_turn_stage_valueless y.first ∷ map same_turn_stage_valueless y.others =
    ap (map same_turn_stage_valueless) (sym x.stages_are) ∙ same.stages ∙ ap (map same_turn_stage_valueless) y.stages_are in
    let first : same_turn_stage_valueless x.first ≡ same_turn_stage_valueless y.first = cc in
    let others : map same_turn_stage_valueless x.others ≡ map same_turn_stage_valueless y.others = cc in
    let last = noted_block_calls_like (plan_sizes s) 0 ks ls kinds (record {
      events = same.events;
      pending = ap (λ (z : TurnProgress × List Kind × List Kind). z.2) first;
    }) x.noted y.noted in
    ap (map event_like_without_value) x.is
    ∙ noted_block_like-append (open_block_handed_in 0 x.last) (open_block_handed_in 0 y.last) (script_turn_blocks_from 1 x.others) (script_turn_blocks_from 1 y.others) (noted_block_handed_in_like 0 last) (turn_end_blocks_like 1 x.others y.others others)
    ∙ sym (ap (map event_like_without_value) y.is)

-- one by turns
module _ {s : Plan} {orders : ℕ → List ℕ} {h : List Event} {xs : List ScriptTurnStage} {kinds : List Kind}
    (well : WellFormed (plan_sizes s) h) (reached : AreReachedByScriptTurns s orders h xs kinds) where
  -- the turns' part is well formed, and all are on their course
  pub turn_end_front_well_formed : WellFormed (plan_sizes s) reached.front
  turn_end_front_well_formed =
      let x = reached.ends in
      let blocks = map (event 0) x.last.pending ++ script_turn_blocks_from 1 x.others in
      let more = noted_block_calls_go_on (plan_sizes s) 0 kinds (open_block reached.front x.first.pending) x.last x.noted in
      let whole : h ≡ reached.front ++ (more.0 ++ blocks) =
      x.is ∙ append_assoc x.last.history (map (event 0) x.last.pending) (script_turn_blocks_from 1 x.others)
      ∙ ap (λ es. es ++ blocks) more.1 ∙ append_assoc reached.front more.0 blocks in
      well_formed_stays_front (plan_sizes s) reached.front (more.0 ++ blocks) (subst (WellFormed (plan_sizes s)) whole well)

  pub turn_end_course : AreAlongCourse xs
  turn_end_course = along_course s (script_turns_of orders reached.rounds) [] (first_script_turn_stages s) reached.front xs (along_first_course s) reached.turns

  -- each of the processors has a stage
  turn_end_many : length xs ≡ s.processors
  turn_end_many =
      along_many s (script_turns_of orders reached.rounds) [] (first_script_turn_stages s) reached.front xs reached.turns
      ∙ length-replicate s.processors (script_turn_stage (Next 0) [] [])

  pub turn_end_stage : (p : ℕ) → p < s.processors → (x : ScriptTurnStage) × (slice_get xs p ≡ Some x)
  turn_end_stage p within =
      let many = turn_end_many in
      let start = script_turn_stage (Next 0) [] [] in
      (get_or xs p start, slice_get-get_or xs p start (omega (arith, within, many)))

  pub turn_end_stage_within : (p : ℕ) (x : ScriptTurnStage) → slice_get xs p ≡ Some x → p < s.processors
  turn_end_stage_within p x here =
      let many = turn_end_many in
      let within = slice_get_within xs p x here in
      omega (arith, within, many)

-- the turns of more rounds are those of fewer, and then others
turn_end_more : (orders : ℕ → List ℕ) (a b : ℕ) → a ≤ b → (more : List ℕ) × (script_turns_of orders b ≡ script_turns_of orders a ++ more)
turn_end_more orders a zero less =
    let none : a ≡ 0 = omega arith in
    ([], ap (script_turns_of orders) (sym none) ∙ sym (append-nil (script_turns_of orders a)))
turn_end_more orders a (suc b) less = elim (cases_lt a (suc b)) [
  | inl below ↦ (let rest = turn_end_more orders a b (omega arith) in
      (rest.0 ++ orders b, ap (λ ps. ps ++ orders b) rest.1 ∙ append_assoc (script_turns_of orders a) rest.0 (orders b)))
  | inr above ↦ (let same : suc b ≡ a = omega arith in
      ([], ap (script_turns_of orders) same ∙ sym (append-nil (script_turns_of orders a))))
]

-- two ends of which the one has no more rounds
turn_end_same_earlier : {s : Plan} {orders : ℕ → List ℕ} {g h : List Event} {xs ys : List ScriptTurnStage} {ks ls : List Kind}
    (x : IsEndOfTurns s orders g xs ks) (y : IsEndOfTurns s orders h ys ls) → x.reached.rounds ≤ y.reached.rounds
    → AreSameTurns x.reached.front y.reached.front xs ys
turn_end_same_earlier {s = s} {orders = orders} {xs = xs} {ys = ys} x y less =
    subst₂ (λ es zs. AreSameTurns x.reached.front es xs zs) (sym none.0) (sym none.1) half
  where
    more : (ps : List ℕ) × (script_turns_of orders y.reached.rounds ≡ script_turns_of orders x.reached.rounds ++ ps)
    more = turn_end_more orders x.reached.rounds y.reached.rounds less

    both : AlongBoth s (script_turns_of orders x.reached.rounds) more.0 [] (first_script_turn_stages s) y.reached.front ys
    both =
        let P : List ℕ → Type 0 = λ ps. AreScriptTurns s ps [] (first_script_turn_stages s) y.reached.front ys in
        along_both s (script_turns_of orders x.reached.rounds) more.0 [] (first_script_turn_stages s) (subst P more.1 y.reached.turns)

    whole : WellFormed (plan_sizes s) y.reached.front
    whole = turn_end_front_well_formed y.well y.reached

    half : AreSameTurns x.reached.front both.half xs both.between
    half =
        along_same s (script_turns_of orders x.reached.rounds) (turn_end_front_well_formed x.well x.reached)
        (along_well_formed s more.0 both.half both.between y.reached.front ys both.others whole)
        (record { events = refl; stages = refl }) x.reached.turns both.first

    none : (y.reached.front ≡ both.half) × (ys ≡ both.between)
    none = settled_turns more.0 (record { settled = x.settled; same = half }) whole both.others

-- any two
turn_end_same : {s : Plan} {orders : ℕ → List ℕ} {g h : List Event} {xs ys : List ScriptTurnStage} {ks ls : List Kind}
    (x : IsEndOfTurns s orders g xs ks) (y : IsEndOfTurns s orders h ys ls) → AreSameTurns x.reached.front y.reached.front xs ys
turn_end_same x y = elim (cases_lt x.reached.rounds y.reached.rounds) [
  | inl less ↦ turn_end_same_earlier x y (omega arith)
  | inr more ↦ (let same = turn_end_same_earlier y x more in
      record { events = sym same.events; stages = sym same.stages })
]

turn_end_report : {s : Plan} {orders : ℕ → List ℕ} {r : Report} (x : IsReportByOrderedTurns s orders r)
    → IsEndOfTurns s orders x.report.history x.stages (map load_of r.shown.items)
turn_end_report {s = s} x = record {
  well = x.report.tells.well_formed;
  reached = x.reached;
  settled = λ p y here. subst (IsSettled s x.reached.front p) (sym (x.passed p y here)) tt;
}

-- what is shown has the same addresses in two reports
turn_end_loads_same : (xs ys : List (ℕ × ℕ)) → map (λ (x : ℕ × ℕ). x.0) xs ≡ map (λ (x : ℕ × ℕ). x.0) ys
    → same_turn_calls_valueless (map load_of xs) ≡ same_turn_calls_valueless (map load_of ys)
turn_end_loads_same xs ys same = sym (each xs) ∙ ap (map (λ a. Load a 0)) same ∙ each ys
  where
    each : (zs : List (ℕ × ℕ)) → map (λ a. Load a 0) (map (λ (x : ℕ × ℕ). x.0) zs) ≡ same_turn_calls_valueless (map load_of zs)
    each [] = refl
    each (z ∷ zs) = ap (λ ks. Load z.0 0 ∷ ks) (each zs)

-- whose last event waits, its last call does
turn_end_waiting : (h : List Event) (p i : ℕ) (a c : Kind) → LastIs h p i a → awaited_next a ≡ Some c → instruction_kinds_end_waiting false (calls_of h p) ≡ true
turn_end_waiting h p i a c last is = slice_push_induction P (λ i last. absurd (none-some (event p a) last.does)) step h i last
  where
    P : List Event → Type 0
    P es = (i : ℕ) → LastIs es p i a → instruction_kinds_end_waiting false (calls_of es p) ≡ true

    call : (k : Kind) → awaited_next k ≡ Some c → is_fetch k ≡ false
    call (Ask l) is = refl
    call Arrive is = refl
    call (Watch f) is = refl
    call _ is = absurd (none-some c is)

    own : (es : List Event) → instruction_kinds_end_waiting false (calls_of (did es p a) p) ≡ true
    own es =
        ap (instruction_kinds_end_waiting false) (followed_calls-own es p a (call a is)) ∙ instruction_kinds_end_waiting-append false (calls_of es p) (a ∷ [])
        ∙ (instruction_kinds_awaited_wait a c is).0

    step : (es : List Event) (e : Event) → P es → P (es ++ e ∷ [])
    step es e before i last = elim (well_formed_stays_last_cases es e p i a last) [
      | inl mine ↦ (let same : event p a ≡ e = ap₂ event (sym mine.0) mine.2 in
          subst (λ f. instruction_kinds_end_waiting false (calls_of (es ++ f ∷ []) p) ≡ true) same (own es))
      | inr others ↦ ap (instruction_kinds_end_waiting false) (followed_calls-others es e.processor p e.kind others.0) ∙ before i others.1
    ]

-- in a deadlock each waits
turn_end_halt_waits : {s : Plan} {orders : ℕ → List ℕ} {halt : Halt} (x : IsHaltByOrderedTurns s orders halt) (p : ℕ) (y : ScriptTurnStage)
    → slice_get x.stages p ≡ Some y → along_course_waits y.progress ≡ true
turn_end_halt_waits x p y here =
    let well = x.journal.well_formed in
    let w = x.journal.deadlock.waits p (turn_end_stage_within well x.reached p y here) in
    sym (turn_end_course well x.reached p y here).waits ∙ ap (instruction_kinds_end_waiting false) (sym (x.calls_are p y here))
    ∙ turn_end_waiting x.journal.history p w.0 w.1 w.2 w.3 w.4

-- so nothing is pending
turn_end_no_blocks : (p : ℕ) (xs : List ScriptTurnStage) → ((k : ℕ) (x : ScriptTurnStage) → slice_get xs k ≡ Some x → x.pending ≡ [])
    → script_turn_blocks_from p xs ≡ []
turn_end_no_blocks p [] none = refl
turn_end_no_blocks p (x ∷ xs) none =
    ap (λ ks. map (event p) ks ++ script_turn_blocks_from (suc p) xs) (none zero x refl)
    ∙ turn_end_no_blocks (suc p) xs (λ k y at. none (suc k) y at)

-- and the turns have made all of it
turn_end_halt_front : {s : Plan} {orders : ℕ → List ℕ} {halt : Halt} (x : IsHaltByOrderedTurns s orders halt)
    → x.journal.history ≡ x.reached.front
turn_end_halt_front {s = s} x =
    ends.is
    ∙ ap (λ (z : OpenBlock). open_block_handed_in 0 z ++ script_turn_blocks_from 1 ends.others) ends.noted
    ∙ ap (λ ks. (x.reached.front ++ map (event 0) ks) ++ script_turn_blocks_from 1 ends.others) (quiet zero ends.first refl)
    ∙ ap (λ es. (x.reached.front ++ []) ++ es) (turn_end_no_blocks 1 ends.others (λ k y at. quiet (suc k) y at))
    ∙ append-nil (x.reached.front ++ []) ∙ append-nil x.reached.front
  where
    ends : ScriptTurnsEndWith s x.reached.front x.stages [] x.journal.history
    ends = x.reached.ends

    quiet : (p : ℕ) (y : ScriptTurnStage) → slice_get (ends.first ∷ ends.others) p ≡ Some y → y.pending ≡ []
    quiet p y at =
        let here : slice_get x.stages p ≡ Some y = ap (λ xs. slice_get xs p) ends.stages_are ∙ at in
        (turn_end_course x.journal.well_formed x.reached p y here).quiet (turn_end_halt_waits x p y here)

turn_end_halt : {s : Plan} {orders : ℕ → List ℕ} {halt : Halt} (x : IsHaltByOrderedTurns s orders halt)
    → IsEndOfTurns s orders x.journal.history x.stages []
turn_end_halt {s = s} x = record {
  well = x.journal.well_formed;
  reached = x.reached;
  settled = λ p y here. by p y.progress (turn_end_halt_waits x p y here);
}
  where
    by : (p : ℕ) (t : TurnProgress) → along_course_waits t ≡ true → IsSettled s x.reached.front p t
    by p (Next n) waiting = absurd (false≢true waiting)
    by p (Waits n) waiting = subst (λ es. ¬ Ready (plan_sizes s) es p) (turn_end_halt_front x) (x.journal.deadlock.not_ready p)
    by p Passed waiting = tt

-- no run of some processors comes to its end and not
turn_end_whole_or_not : {s : Plan} {orders : ℕ → List ℕ} {r : Report} {halt : Halt} → 0 < s.processors → IsReportByOrderedTurns s orders r
    → IsHaltByOrderedTurns s orders halt → ⊥
turn_end_whole_or_not some x y =
    let here = turn_end_stage x.report.tells.well_formed x.reached 0 some in
    let there = turn_end_stage y.journal.well_formed y.reached 0 some in
    let same = side_stages_at x.stages y.stages 0 here.0 there.0 (turn_end_same (turn_end_report x) (turn_end_halt y)).stages here.1 there.1 in
    false≢true (ap along_course_waits (sym (x.passed 0 here.0 here.1) ∙ ap (λ (z : TurnProgress × List Kind × List Kind). z.0) same)
    ∙ turn_end_halt_waits y 0 there.0 there.1)

-- a report's history begins its script, and so does a journal so far
turn_end_report_begins : {s : Plan} {orders : ℕ → List ℕ} {r : Report} (x : IsReportByOrderedTurns s orders r)
    → BeginsWithCopies s x.report.history
turn_end_report_begins {s = s} x = record {
  well_formed = x.report.tells.well_formed;
  copied = x.report.tells.copied;
  begins = answered_alike_follower_begins s x.report.history x.report.tells.follows;
}

turn_end_halt_begins : {s : Plan} {orders : ℕ → List ℕ} {halt : Halt} (x : IsHaltByOrderedTurns s orders halt)
    → BeginsWithCopies s x.journal.history
turn_end_halt_begins x = record { well_formed = x.journal.well_formed; copied = x.journal.copied; begins = x.journal.begins }

-- two ends of a script with some processors
turn_end_same_ends : (s : Plan) (orders : ℕ → List ℕ) (d e : Ended) (x : IsEndByOrderedTurns s orders d) (y : IsEndByOrderedTurns s orders e) → IsLawful s
    → 0 < s.processors → AreSameEnds d e (history_by_turns s orders d x) (history_by_turns s orders e y)
unfolding turn_end_report turn_end_halt
turn_end_same_ends s orders (Whole q) (Whole r) x y lawful some = record {
  whole = refl;
  same =
      copy_values_same_law s x.report.history y.report.history lawful (turn_end_report_begins x) (turn_end_report_begins y)
      (turn_end_whole_like s (map load_of q.shown.items) (map load_of r.shown.items) (turn_end_same (turn_end_report x) (turn_end_report y))
      (turn_end_loads_same q.shown.items r.shown.items (x.report.tells.shown_addresses ∙ sym y.report.tells.shown_addresses))
      x.reached.ends y.reached.ends);
}
turn_end_same_ends s orders (Whole r) (Halted halt) x y lawful some = absurd (turn_end_whole_or_not some x y)
turn_end_same_ends s orders (Halted halt) (Whole r) x y lawful some = absurd (turn_end_whole_or_not some y x)
turn_end_same_ends s orders (Halted a) (Halted b) x y lawful some = record {
  whole = refl;
  same =
      copy_values_same_law s x.journal.history y.journal.history lawful (turn_end_halt_begins x) (turn_end_halt_begins y)
      (turn_end_whole_like s [] [] (turn_end_same (turn_end_halt x) (turn_end_halt y)) refl x.reached.ends y.reached.ends);
}

pub turn_ends_same_law : SameEndsLaw
turn_ends_same_law s orders d e x y lawful =
    let some = lawful.but_uneven.sizes.some_processors in turn_end_same_ends s orders d e x y lawful (omega (arith, some))
