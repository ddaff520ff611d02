-- What the journal holds where no processor got on.
use Rattle.std.proofs.Common.{ℕ, ◌≡◌, ◌<◌, ◌≤◌, Bool, true, false, cond, Some, List, [], ◌∷◌, ◌++◌, length, take, get_or, slice_get, refl, sym, ap, subst, ◌∙◌, append_assoc, append-nil, ◌+◌, arith}
use Rattle.std.specs.Prelude.{◌==◌, nat_lt}
use Rattle.std.proofs.Math.Seq.{take-append_seam, take-length}
use Rattle.std.proofs.lemmas.Bool.{ltb-true, ltb-false}
use Rattle.std.proofs.lemmas.List.{get_or_past}
use Rattle.std.proofs.lemmas.Option.{slice_get-get_or, slice_get_within}
use Rattle.base.proofs.SlicesAndCounts.{slice_get-append_right, slice_get-from_take}
use Rattle.journal.specs.declared.event.Event.{Event}
use Rattle.journal.specs.declared.event.Kind.TheVariants.{Arrive, Depart}
use Rattle.journal.specs.declared.event.Kind.{Kind}
use Rattle.journal.specs.CopyAnswers.{AnswersCopies}
use Rattle.journal.specs.FetchesCountGaps.{FetchesCountGaps}
use Rattle.journal.specs.Deadlocks.{IsDeadlock}
use Rattle.journal.specs.Events.{events_of}
use Rattle.journal.specs.Log.{Log}
use Rattle.journal.specs.Sizes.{Sizes, addresses}
use Rattle.journal.specs.WellFormed.{WellFormedNext, WellFormed}
use Rattle.journal.proofs.Journals.AfterDeadlock.{after_deadlock_law}
use Rattle.lrc_script.specs.declared.script.Instruction.{Instruction}
use Rattle.lrc_script.specs.declared.script.Instruction.TheVariants.{Barrier, Cut}
use Rattle.lrc_script.specs.Lawful.{IsLawful}
use Rattle.lrc_script.specs.Plan.{Plan}
use Rattle.conformance.specs.ScriptBegins.{BeginsScript, BeginsSection}
use Rattle.conformance.specs.Follows.{calls_of, call_kinds, plan_sizes}
use Rattle.conformance.specs.InstructionEvents.{AreEventsOfInstruction, AreEventsOfInstructions}
use Rattle.conformance.proofs.SectionBegins.{section_begins_after, section_begins_front, section_begins_whole, section_begins_within}
use Rattle.cluster.specs.Copies.Local.{Local}
use Rattle.cluster.specs.NewClusters.{SharedCluster}
use Rattle.cluster.specs.Finishing.{AreAllToFinish, IsFinished, IsFinishingProcessor}
use Rattle.conformance.specs.CutInstructions.{HasCutInstruction, HasNoCutInstruction}
use Rattle.conformance.specs.declared.progress.TurnProgress.{TurnProgress}
use Rattle.conformance.specs.declared.progress.TurnProgress.TheVariants.{Next, Passed, Waits}
use Rattle.conformance.specs.ScriptTurns.{script_turn_instruction}
use Rattle.lrc_run.specs.FollowedEnds.{IsFollowedEndHaltWith}
use Rattle.lrc_run.specs.RunSteps.{AreAtRunSteps, IsAtRunStep}
use Rattle.lrc_run.specs.RunTurns.{IsRunTurnDeadlockSeen}
use Rattle.lrc_run.specs.RunCalls.{AreRunCallsWanted, run_calls, new_at_run_call}
use Rattle.lrc_run.proofs.EndingBlocks.{ending_blocks_of_finished}
use Rattle.lrc_run.proofs.FollowedReports.{followed_report_needs_only, followed_report_no_sum, followed_report_nothing_of}
use Rattle.lrc_run.proofs.StepsAfterTurns.{step_after_turn_same_after}

-- a cut among the first instructions is one of the section
halting_cut_of_front : (n : ℕ) (section : List Instruction) → HasCutInstruction (take n section) → HasCutInstruction section
halting_cut_of_front n section cut = (cut.0, slice_get-from_take section n cut.0 Cut cut.1)

-- whoever is on its way cut nothing off but by a cut of its section
halt_uncut : (c : SharedCluster) (p : ℕ) (m : Local) (section : List Instruction) (at : TurnProgress) → IsAtRunStep (new_at_run_call c p) m section at
    → ¬ HasCutInstruction section → m.own_cut ≡ 0
halt_uncut c p m section (Next n) is none = is.0.makes.uncut (λ cut. none (halting_cut_of_front n section cut))
halt_uncut c p m section (Waits n) is none =
    is.0.begins.makes.uncut ∙ is.0.done.makes.uncut (λ cut. none (halting_cut_of_front n section cut))
halt_uncut c p m section Passed is none = is.makes.uncut none

-- and its fetches are wanted
halt_wanted : (c : SharedCluster) (p : ℕ) (m : Local) (section : List Instruction) (at : TurnProgress)
    → IsAtRunStep (new_at_run_call c p) m section at → AreRunCallsWanted m
halt_wanted c p m section (Next n) is = is.0.makes.wanted tt
halt_wanted c p m section (Waits n) is = is.0.begins.makes.wanted (is.0.done.makes.wanted tt)
halt_wanted c p m section Passed is = is.makes.wanted tt

-- the events of its first instructions and the first one of the next begin a section
halt_begins_with_wait : (section : List Instruction) (shown : List ℕ) (n : ℕ) (kinds : List Kind) (first last : Kind)
    → n ≤ length section → AreEventsOfInstructions (take n section) kinds
    → AreEventsOfInstruction (script_turn_instruction section n) (first ∷ last ∷ []) → BeginsSection section shown (kinds ++ first ∷ [])
halt_begins_with_wait section shown n kinds first last within are two = cases (nat_lt n (length section)) refl
  where
    cases : (b : Bool) → nat_lt n (length section) ≡ b → BeginsSection section shown (kinds ++ first ∷ [])
    cases true e = section_begins_within shown n kinds first last
        (slice_get-get_or section n Barrier (ltb-true n (length section) e)) are two
    cases false e =
        let past : length section ≤ n = ltb-false n (length section) e in
        let same : n ≡ length section = omega arith in
        let Q : List Instruction → Type 0 = λ is. AreEventsOfInstructions is kinds in
        let whole = subst Q (ap (λ k. take k section) same ∙ take-length section) are in
        let R : Instruction → Type 0 = λ i. AreEventsOfInstruction i (first ∷ last ∷ []) in
        let closing : first ∷ last ∷ [] ≡ Arrive ∷ Depart ∷ [] = subst R (get_or_past section n Barrier past) two in
        let P : List Kind → Type 0 = BeginsSection section shown in
        section_begins_front section shown (kinds ++ first ∷ []) (last ∷ [])
        (subst P (ap (λ ks. kinds ++ ks) (sym closing) ∙ sym (append_assoc kinds (first ∷ []) (last ∷ [])))
        (section_begins_whole section shown kinds whole))

-- and what it made begins its section
halt_begins : (c : SharedCluster) (p : ℕ) (m : Local) (section : List Instruction) (shown : List ℕ) (at : TurnProgress)
    → IsAtRunStep (new_at_run_call c p) m section at → BeginsSection section shown (run_calls m)
halt_begins c p m section shown (Next n) is =
    let P : List Kind → Type 0 = BeginsSection section shown in
    subst P (sym is.0.makes.more) (section_begins_after section shown n is.0.kinds is.0.are)
halt_begins c p m section shown (Passed) is =
    let P : List Kind → Type 0 = BeginsSection section shown in
    subst P (sym is.makes.more) (section_begins_whole section shown is.kinds is.are)
halt_begins c p m section shown (Waits n) is =
    let begun = is.0 in
    let P : List Kind → Type 0 = BeginsSection section shown in
    subst P (sym (begun.begins.makes.more ∙ ap (λ ks. ks ++ begun.begins.first ∷ []) begun.done.makes.more))
    (halt_begins_with_wait section shown n begun.done.kinds begun.begins.first begun.begins.last is.1 begun.done.are
    begun.begins.are)

-- each of the script's processors has a section, and is somewhere on its way through it
halt_journal_at : {s : Plan} {c : SharedCluster} {ms : List Local} {all : List TurnProgress} → IsLawful s
    → c.sizes ≡ plan_sizes s → AreAtRunSteps c s.sections ms all → (p : ℕ) (m : Local) → slice_get ms p ≡ Some m
    → (section : List Instruction) × (at : TurnProgress) × (slice_get s.sections p ≡ Some section) × IsAtRunStep (new_at_run_call c p) m section at
halt_journal_at {s = s} {ms = ms} {all = all} lawful sizes way p m here =
    let within = slice_get_within ms p m here in
    let one_each = lawful.but_uneven.one_each in
    let same = ap (λ (x : Sizes). x.processors) sizes in
    let many = way.many in
    let long = way.long in
    let listed : p < length s.sections = omega arith in
    let known : p < length all = omega arith in
    let section = get_or s.sections p [] in
    let at = get_or all p Passed in
    let its = slice_get-get_or s.sections p [] listed in
    let there = slice_get-get_or all p Passed known in
    (section, at, its, way.each p section m at its here there)

-- they are all of the cluster
pub halted_all : (s : Plan) (c : SharedCluster) (ms : List Local) (all : List TurnProgress) → IsLawful s → c.sizes ≡ plan_sizes s
    → AreAtRunSteps c s.sections ms all → AreAllToFinish c ms
halted_all s c ms all lawful sizes way = record { all = way.many; each = each }
  where
    each : (p : ℕ) (m : Local) → slice_get ms p ≡ Some m → IsFinishingProcessor c p m
    each p m here =
        let is = halt_journal_at lawful sizes way p m here in
        let same = step_after_turn_same_after (new_at_run_call c p) m is.0 is.1 is.3 in
        record { lock = same.lock; number = same.number; sizes = same.sizes }

-- nothing comes after a deadlock
halt_deadlock_last : (s : Sizes) (h front : List Event) → WellFormed s h → (rest : List Event) × (h ≡ front ++ rest)
    → IsDeadlock s front → IsDeadlock s h
halt_deadlock_last s h front well_formed ([], is) stuck = subst (IsDeadlock s) (sym (is ∙ append-nil front)) stuck
halt_deadlock_last s h front well_formed (e ∷ rest, is) stuck =
    let none : length front + 0 ≡ length front = omega arith in
    let at : slice_get h (length front) ≡ Some e = ap (λ es. slice_get es (length front)) is
    ∙ ap (slice_get (front ++ e ∷ rest)) (sym none) ∙ slice_get-append_right front (e ∷ rest) 0 in
    let before : take (length front) h ≡ front = ap (take (length front)) is ∙ take-append_seam front (e ∷ rest) in
    absurd (after_deadlock_law s front e stuck (subst (λ es. WellFormedNext s es e) before (well_formed (length front) e at)))

-- the journal of a finished cluster whose processors are on their way
pub halted_is : {s : Plan} {c : SharedCluster} {ms : List Local} {all : List TurnProgress} {j : Log} → IsLawful s
    → c.sizes ≡ plan_sizes s → AreAtRunSteps c s.sections ms all → IsRunTurnDeadlockSeen ms → IsFinished c.sizes ms j
    → IsFollowedEndHaltWith s j ms
halted_is {s = s} {c = c} {ms = ms} {all = all} {j = j} lawful sizes way stuck finished = record {
  is = record {
    processors = finished.journal.processors ∙ ap (λ (x : Sizes). x.processors) sizes;
    addresses_are = finished.journal.addresses_are ∙ ap addresses sizes;
    history = h;
    taken = finished.taken;
    holds = finished.journal.holds;
    uncut = λ none. followed_report_nothing_of finished.taken (finished.cuts ∙ followed_report_no_sum ms (own none));
    well_formed = well_formed;
    explained = finished.faithful.explained;
    copied = subst (λ (x : Sizes). AnswersCopies x h) sizes finished.faithful.copied;
    counted = subst (λ (x : Sizes). FetchesCountGaps x h) sizes finished.faithful.counted;
    fetches = followed_report_needs_only s c ms h sizes (halted_all s c ms all lawful sizes way) finished.each wanted;
    begins = begins;
    deadlock = deadlock;
  };
  each = finished.each;
  ends = ending_blocks_of_finished s c ms j lawful.but_uneven.sizes.some_processors sizes (halted_all s c ms all lawful sizes way) finished;
}
  where
    h : List Event
    h = finished.history

    well_formed : WellFormed (plan_sizes s) h
    well_formed = subst (λ (x : Sizes). WellFormed x h) sizes finished.faithful.well_formed

    deadlock : IsDeadlock (plan_sizes s) h
    deadlock =
        let m = stuck.0 in
        let own = (halted_all s c ms all lawful sizes way).each 0 m stuck.1 in
        let P : Sizes → Type 0 = λ x. IsDeadlock x m.seen in
        halt_deadlock_last (plan_sizes s) h m.seen well_formed (finished.each 0 m stuck.1).begins
        (subst P (own.sizes ∙ sizes) stuck.2)

    own : HasNoCutInstruction s → (p : ℕ) (m : Local) → slice_get ms p ≡ Some m → m.own_cut ≡ 0
    own none p m here =
        let is = halt_journal_at lawful sizes way p m here in
        halt_uncut c p m is.0 is.1 is.3 (none p is.0 is.2)

    wanted : (p : ℕ) (m : Local) → slice_get ms p ≡ Some m → AreRunCallsWanted m
    wanted p m here =
        let is = halt_journal_at lawful sizes way p m here in
        halt_wanted c p m is.0 is.1 is.3

    begins : BeginsScript s h
    begins p section its =
        let listed = slice_get_within s.sections p section its in
        let one_each = lawful.but_uneven.one_each in
        let same = ap (λ (x : Sizes). x.processors) sizes in
        let many = way.many in
        let long = way.long in
        let within : p < length ms = omega arith in
        let known : p < length all = omega arith in
        let m = get_or ms p (new_at_run_call c p) in
        let here = slice_get-get_or ms p (new_at_run_call c p) within in
        let there = slice_get-get_or all p Passed known in
        let shown = cond (p == 0) s.shown [] in
        let is = halt_begins c p m section shown (get_or all p Passed)
        (way.each p section m (get_or all p Passed) its here there) in
        let number = ((halted_all s c ms all lawful sizes way).each p m here).number in
        let made_is : calls_of h p ≡ run_calls m =
        ap call_kinds (ap (events_of h) (sym number) ∙ (finished.each p m here).calls_are) in
        subst (BeginsSection section shown) (sym made_is) is
