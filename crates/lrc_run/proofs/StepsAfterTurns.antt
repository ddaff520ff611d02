-- How far a processor is after a turn.
use Rattle.std.proofs.Common.{ℕ, ◌≡◌, ◌+◌, ◌<◌, ◌≤◌, Bool, true, false, cond, Some, List, [], length, replicate, take, get_or, slice_get, slice_set, refl, sym, ap, subst, ◌∙◌, inl, inr, add-one, arith}
use Rattle.std.specs.Prelude.{nat_lt, All}
use Rattle.std.specs.Global.{Vec}
use Rattle.std.specs.Option.{option_map}
use Rattle.std.proofs.Math.Seq.{take-length}
use Rattle.std.proofs.lemmas.Bool.{ltb-true, ltb-false, cases_eq}
use Rattle.std.proofs.lemmas.List.{get_or_past, length-map, length-replicate, length-set}
use Rattle.std.proofs.lemmas.Option.{slice_get-get_or, slice_get-map, slice_get_within, slice_get_read, same_Some}
use Rattle.base.proofs.SlicesAndCounts.{slice_take-suc_at}
use Rattle.base.proofs.SliceSets.{slice_get-replicate_found, slice_get-set_found, slice_get-set_other}
use Rattle.journal.specs.Sizes.{Sizes}
use Rattle.lrc_script.specs.declared.script.Instruction.{Instruction}
use Rattle.lrc_script.specs.declared.script.Instruction.TheVariants.{Barrier}
use Rattle.lrc_script.specs.Lawful.{IsLawful}
use Rattle.lrc_script.specs.Plan.{Plan, plan_sections}
use Rattle.conformance.specs.Follows.{plan_sizes}
use Rattle.cluster.specs.Copies.Local.{Local}
use Rattle.cluster.specs.ProcessorCalls.{IsSameProcessorOfCall}
use Rattle.cluster.specs.NewClusters.{IsNewCluster, SharedCluster}
use Rattle.conformance.specs.declared.progress.TurnProgress.{TurnProgress}
use Rattle.conformance.specs.declared.progress.TurnProgress.TheVariants.{Next, Waits, Passed}
use Rattle.conformance.specs.ScriptTurns.{script_turn_instruction, script_turn_progress_after}
use Rattle.lrc_run.specs.RunSteps.{AreAtRunSteps, IsAtRunStep}
use Rattle.lrc_run.specs.RunCalls.{HaveRunCallsOfWalks, HasRunCallsOfAll, HasRunCallsOfInstruction, IsRunCallUnderway, IsRunCallOfTake, HasRunCallsOfWalk, new_at_run_call}
use Rattle.lrc_run.proofs.MoreCalls.{makes_more_calls_all_more, makes_more_calls_all_none, makes_more_calls_its_way, sees_more_calls_same_processor, makes_more_calls_walk_by}

-- after instruction k was done, or begun
pub step_after_turn_instruction : (l m n : Local) (section : List Instruction) (k : ℕ) (done : Bool)
    → HasRunCallsOfAll l m (take k section)
    → k ≤ length section → IsRunCallUnderway m n (script_turn_instruction section k) done
    → IsAtRunStep l n section (script_turn_progress_after section k done)
step_after_turn_instruction l m n section k false all within way = (record { between = m; done = all; begins = way }, within)
step_after_turn_instruction l m n section k true all within way = cases (nat_lt k (length section)) refl
  where
    cases : (b : Bool) → nat_lt k (length section) ≡ b → IsAtRunStep l n section (cond b (Next (k + 1)) Passed)
    cases true e =
        let below : k < length section = ltb-true k (length section) e in
        let more = makes_more_calls_all_more l m n (take k section) (script_turn_instruction section k) all way in
        let P : List Instruction → Type 0 = λ is. HasRunCallsOfAll l n is in (
          rw add-one (subst P (sym (slice_take-suc_at section k (script_turn_instruction section k)
              (slice_get-get_or section k Barrier below))) more),
          omega arith,
        )
    cases false e =
        let past : length section ≤ k = ltb-false k (length section) e in
        let same : k ≡ length section = omega arith in
        let P : List Instruction → Type 0 = λ is. HasRunCallsOfAll l m is in
        let Q : Instruction → Type 0 = λ i. HasRunCallsOfInstruction m n i in
        makes_more_calls_walk_by l m n section (subst P (ap (λ j. take j section) same ∙ take-length section) all)
        (subst Q (get_or_past section k Barrier past) way)

-- and after a look for what it waits for
pub step_after_turn_look : (l m n : Local) (section : List Instruction) (k : ℕ) (taken : Bool) → IsAtRunStep l m section (Waits k)
    → IsRunCallOfTake m n taken → IsAtRunStep l n section (script_turn_progress_after section k taken)
step_after_turn_look l m n section k taken at took =
    let begun = at.0 in
    step_after_turn_instruction l begun.between n section k taken begun.done at.1
    (makes_more_calls_its_way begun.between m n (script_turn_instruction section k) taken begun.begins took)

-- whoever is on its way is the same processor
pub step_after_turn_same_after : (m n : Local) (section : List Instruction) (at : TurnProgress) → IsAtRunStep m n section at
    → IsSameProcessorOfCall m n
step_after_turn_same_after m n section (Next k) at = at.0.makes.same
step_after_turn_same_after m n section (Waits k) at =
    sees_more_calls_same_processor m at.0.between n at.0.done.makes.same at.0.begins.makes.same
step_after_turn_same_after m n section Passed at = at.makes.same

-- at the start each processor's next instruction is its first
pub step_after_turn_start : (c : SharedCluster) (sections : List (List Instruction)) (ms : List Local) (all : List TurnProgress) → IsNewCluster c ms
    → length all ≡ c.sizes.processors → ((p : ℕ) (at : TurnProgress) → slice_get all p ≡ Some at → at ≡ Next 0)
    → AreAtRunSteps c sections ms all
step_after_turn_start c sections ms all new long first = record { many = new.all; long = long; each = each }
  where
    each : (p : ℕ) (section : List Instruction) (m : Local) (at : TurnProgress) → slice_get sections p ≡ Some section
        → slice_get ms p ≡ Some m → slice_get all p ≡ Some at → IsAtRunStep (new_at_run_call c p) m section at
    each p section m at its here there =
        let P : TurnProgress → Type 0 = λ x. IsAtRunStep (new_at_run_call c p) m section x in
        let none : HasRunCallsOfAll (new_at_run_call c p) m (take 0 section) = makes_more_calls_all_none (new_at_run_call c p) m (new.each p m here) in
        subst P (sym (first p at there)) (none, omega arith)

-- after the turn of one processor
pub step_after_turn_turned : {c : SharedCluster} {sections : List (List Instruction)} {ms : List Local} {all : List TurnProgress}
    (p : ℕ) (section : List Instruction) (m n : Local) (at to : TurnProgress) → AreAtRunSteps c sections ms all
    → slice_get sections p ≡ Some section → slice_get ms p ≡ Some m → slice_get all p ≡ Some at
    → ((start : Local) → IsAtRunStep start m section at → IsAtRunStep start n section to)
    → AreAtRunSteps c sections (slice_set ms p n) (slice_set all p to)
step_after_turn_turned {c = c} {sections = sections} {ms = ms} {all = all} p section m n at to way its here there turned = record {
  many = length-set ms p n ∙ way.many;
  long = length-set all p to ∙ way.long;
  each = each;
}
  where
    mine : IsAtRunStep (new_at_run_call c p) n section to
    mine = turned (new_at_run_call c p) (way.each p section m at its here there)

    each : (q : ℕ) (other : List Instruction) (x : Local) (y : TurnProgress) → slice_get sections q ≡ Some other
        → slice_get (slice_set ms p n) q ≡ Some x → slice_get (slice_set all p to) q ≡ Some y
        → IsAtRunStep (new_at_run_call c q) x other y
    each q other x y its_too before after = elim (cases_eq q p) [
      | inl is ↦ (let S : ℕ → Type 0 = λ k. slice_get sections k ≡ Some other in
          let M : ℕ → Type 0 = λ k. slice_get (slice_set ms p n) k ≡ Some x in
          let A : ℕ → Type 0 = λ k. slice_get (slice_set all p to) k ≡ Some y in
          let one = same_Some section other (sym its ∙ subst S is its_too) in
          let two = slice_get-set_found ms p n x (subst M is before) in
          let three = slice_get-set_found all p to y (subst A is after) in
          let first : IsAtRunStep (new_at_run_call c p) n other to =
          subst (λ (z : List Instruction). IsAtRunStep (new_at_run_call c p) n z to) one mine in
          let second : IsAtRunStep (new_at_run_call c p) x other to = subst (λ (z : Local). IsAtRunStep (new_at_run_call c p) z other to) two first in
          let third : IsAtRunStep (new_at_run_call c p) x other y =
          subst (λ (z : TurnProgress). IsAtRunStep (new_at_run_call c p) x other z) three second in
          subst (λ (k : ℕ). IsAtRunStep (new_at_run_call c k) x other y) (sym is) third)
      | inr isnt ↦ way.each q other x y its_too (sym (slice_get-set_other ms p q n isnt) ∙ before)
          (sym (slice_get-set_other all p q to isnt) ∙ after)
    ]

-- all have passed the closing barrier
pub step_after_turn_passed : (c : SharedCluster) (sections : List (List Instruction)) (ms : List Local) (all : List TurnProgress)
    → AreAtRunSteps c sections ms all → All (λ x. x ≡ Passed) all → HaveRunCallsOfWalks c sections ms
step_after_turn_passed c sections ms all way passed = record { all = way.many; each = each }
  where
    each : (p : ℕ) (section : List Instruction) (m : Local) → slice_get sections p ≡ Some section
        → slice_get ms p ≡ Some m → HasRunCallsOfWalk (new_at_run_call c p) m section
    each p section m its here =
        let within = slice_get_within ms p m here in
        let many = way.many in
        let long = way.long in
        let below : p < length all = omega arith in
        let there = slice_get-get_or all p Passed below in
        let P : TurnProgress → Type 0 = λ x. IsAtRunStep (new_at_run_call c p) m section x in
        subst P (passed p Passed below) (way.each p section m (get_or all p Passed) its here there)

-- the same, where the list has it over and over
pub step_after_turn_begin : (c : SharedCluster) (sections : List (List Instruction)) (ms : List Local) (all : List TurnProgress) (n : ℕ)
    → IsNewCluster c ms
    → n ≡ length ms → all ≡ replicate n (Next 0) → AreAtRunSteps c sections ms all
step_after_turn_begin c sections ms all n new many are = step_after_turn_start c sections ms all new
    (ap length are ∙ length-replicate n (Next 0) ∙ many ∙ new.all)
    (λ p at here. sym (slice_get-replicate_found n (Next 0) at p (ap (λ xs. slice_get xs p) (sym are) ∙ here)))

-- each that is on its way is the cluster's
pub step_after_turn_own_at : {s : Plan} {c : SharedCluster} {ms : List Local} {all : List TurnProgress} (p : ℕ) (m : Local)
    → IsLawful s → c.sizes ≡ plan_sizes s → AreAtRunSteps c s.sections ms all → slice_get ms p ≡ Some m → m.lock ≡ c.lock
step_after_turn_own_at {s = s} {c = c} {ms = ms} {all = all} p m lawful sizes way here =
    let inside = slice_get_within ms p m here in
    let one_each = lawful.but_uneven.one_each in
    let same = ap (λ (x : Sizes). x.processors) sizes in
    let many = way.many in
    let long = way.long in
    let listed : p < length s.sections = omega arith in
    let known : p < length all = omega arith in
    let section = get_or s.sections p [] in
    let at = get_or all p Passed in
    (step_after_turn_same_after (new_at_run_call c p) m section at
    (way.each p section m at (slice_get-get_or s.sections p [] listed) here (slice_get-get_or all p Passed known))).lock

-- the section that is read at this place
pub step_after_turn_section_read : {s : Plan} {c : SharedCluster} {ms : List Local} {all : List TurnProgress}
    (sections : List (Vec Instruction)) (p : ℕ) (v : Vec Instruction) {section : List Instruction} → IsLawful s
    → c.sizes ≡ plan_sizes s → s.sections ≡ plan_sections sections → AreAtRunSteps c s.sections ms all → p < length ms
    → v ≡ get_or sections p v → section ≡ v.items → slice_get (plan_sections sections) p ≡ Some section
step_after_turn_section_read sections p v lawful sizes are way inside read is =
    let one_each = lawful.but_uneven.one_each in
    let same = ap (λ (x : Sizes). x.processors) sizes in
    let many = way.many in
    let long = ap length are ∙ length-map sections (λ (w : Vec Instruction). w.items) in
    let listed : p < length sections = omega arith in
    slice_get-map (λ (w : Vec Instruction). w.items) sections p
    ∙ ap (option_map (λ (w : Vec Instruction). w.items))
    (slice_get_read sections (length sections) p v refl listed read)
    ∙ ap Some (sym is)

-- where each processor is, as it is read
pub step_after_turn_progress_read : (c : SharedCluster) (sections : List (List Instruction)) (ms : List Local) (all : List TurnProgress)
    (p : ℕ) (at : TurnProgress)
    → AreAtRunSteps c sections ms all → p < length ms → at ≡ get_or all p at → slice_get all p ≡ Some at
step_after_turn_progress_read c sections ms all p at way inside read =
    let many = way.many in
    let long = way.long in
    slice_get_read all (length all) p at refl (omega arith) read
