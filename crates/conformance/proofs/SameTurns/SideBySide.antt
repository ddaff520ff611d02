-- A turn in two runs that are the same but for values makes the same of both.
use Rattle.std.proofs.Common.{ℕ, ◌≡◌, inl, inr, Some, None, List, [], ◌∷◌, ◌++◌, IsTrue, map, slice_get, slice_set, refl, sym, ap, ap₂, subst, subst₂, ◌∙◌, append-nil}
use Rattle.std.specs.Prelude.{option_map}
use Rattle.std.proofs.lemmas.List.{map-append, map-set}
use Rattle.std.proofs.lemmas.Option.{same_Some, slice_get-map}
use Rattle.journal.specs.declared.event.Event.{Event}
use Rattle.journal.specs.declared.event.Kind.{Kind}
use Rattle.journal.specs.DidEvent.{event}
use Rattle.journal.specs.Events.{event_address, event_takes}
use Rattle.journal.specs.AwaitedNext.{awaited_next}
use Rattle.journal.specs.WellFormed.{Ready, WellFormed}
use Rattle.journal.proofs.Journals.WellFormedStays.{well_formed_stays_push}
use Rattle.lrc_script.specs.declared.script.Instruction.{Instruction}
use Rattle.lrc_script.specs.Plan.{Plan}
use Rattle.conformance.specs.Follows.{plan_sizes}
use Rattle.conformance.specs.InstructionEvents.{AreEventsOfInstruction}
use Rattle.conformance.specs.Like.{SameButValues, like_without_value}
use Rattle.conformance.specs.OpenBlocks.{OpenBlockNotesAll, OpenBlock, open_block_handed_in, open_block}
use Rattle.conformance.specs.SameTurns.{AreSameTurns, same_turn_calls_valueless, same_turn_stage_valueless}
use Rattle.conformance.specs.ScriptTurns.{IsScriptTurn, IsScriptTurnAt, ScriptTurnIsBegun, ScriptTurnIsDone, ScriptTurnStage, script_turn_instruction, script_turn_stage}
use Rattle.conformance.specs.declared.progress.TurnProgress.{TurnProgress}
use Rattle.conformance.specs.declared.progress.TurnProgress.TheVariants.{Next, Passed, Waits}
use Rattle.conformance.proofs.Like.WellFormed.{like_well_formed_allowed_here}
use Rattle.conformance.proofs.SameTurns.InstructionKinds.{instruction_kinds_awaited_plain, instruction_kinds_awaited_taking, instruction_kinds_of_waiting, instruction_kinds_same_done}
use Rattle.conformance.proofs.SameTurns.NotedBlocks.{AreLikeNotedBlocks, noted_block_like-append, noted_block_calls_like, noted_block_events_like, noted_block_handed_in_like, noted_block_plain_call}

-- who is ready in the one is ready in the other
pub side_ready_like : (s : Plan) {g h : List Event} {p : ℕ} → SameButValues g h → Ready (plan_sizes s) g p → Ready (plan_sizes s) h p
side_ready_like s {g = g} {h = h} {p = p} like ready =
    (ready.0, ready.1, like_well_formed_allowed_here (plan_sizes s) g h p ready.0 like ready.2)

-- who takes what it waits for was ready before
pub side_ready_before : (s : Plan) (h g : List Event) (p : ℕ) (k : Kind) → WellFormed (plan_sizes s) h → h ≡ g ++ event p k ∷ []
    → IsTrue (event_takes k) → Ready (plan_sizes s) g p
side_ready_before s h g p k well is taking =
    let may = ((well_formed_stays_push (plan_sizes s) g (event p k)).0 (subst (WellFormed (plan_sizes s)) is well)).1 in
    (k, taking, may.allowed)

-- p's stages and the histories of two runs that are the same so far
pub record AreLikeRuns (g h : List Event) (a b : ScriptTurnStage) : Type 0 where
  pub events : SameButValues g h
  pub stages : same_turn_stage_valueless a ≡ same_turn_stage_valueless b

side_swapped : {g h : List Event} {a b : ScriptTurnStage} → AreLikeRuns g h a b → AreLikeRuns h g b a
side_swapped x = record { events = sym x.events; stages = sym x.stages }

side_blocks : {g h : List Event} {a b : ScriptTurnStage} → AreLikeRuns g h a b → AreLikeNotedBlocks (open_block g a.pending) (open_block h b.pending)
side_blocks x = record {
  events = x.events;
  pending = ap (λ (y : TurnProgress × List Kind × List Kind). y.2) x.stages;
}

-- the same, where both did the same calls but for values, and are as far
side_after : (xs ys : List Kind) {g h i j : List Event} {a b c d : ScriptTurnStage} {t : TurnProgress} {ks ls : List Kind} → AreLikeRuns g h a b
    → c ≡ script_turn_stage t (a.calls ++ xs) ks → d ≡ script_turn_stage t (b.calls ++ ys) ls → same_turn_calls_valueless xs ≡ same_turn_calls_valueless ys
    → AreLikeNotedBlocks (open_block i ks) (open_block j ls) → AreLikeRuns i j c d
side_after xs ys {a = a} {b = b} {t = t} {ks = ks} {ls = ls} x one other kinds blocks = record {
  events = blocks.events;
  stages =
      ap same_turn_stage_valueless one
      ∙ ap₂ (λ (us vs : List Kind). (t, us, vs))
      (map-append like_without_value a.calls xs
      ∙ ap₂ (λ us vs. us ++ vs) (ap (λ (y : TurnProgress × List Kind × List Kind). y.1) x.stages) kinds
      ∙ sym (map-append like_without_value b.calls ys)) blocks.pending
      ∙ sym (ap same_turn_stage_valueless other);
}

-- an instruction that is done in one run isn't begun alone in the other
side_done_not_begun : {s : Plan} {p : ℕ} {g h i j : List Event} {a b c d : ScriptTurnStage} (section : List Instruction) (n : ℕ)
    → AreLikeRuns g h a b → WellFormed (plan_sizes s) i → ScriptTurnIsDone s p section n g a i c → ScriptTurnIsBegun s p section n h b j d → ⊥
side_done_not_begun {s = s} {p = p} {g = g} {h = h} {i = i} {j = j} {a = a} {b = b} {c = c} section n x well done begun =
    begun.vain.late (side_ready_like s between (side_ready_before s i middle p begun.last well last taking))
  where
    plain : (event_address begun.first ≡ None) × (event_address begun.last ≡ None)
    plain = instruction_kinds_awaited_plain begun.first begun.last begun.waits

    taking : IsTrue (event_takes begun.last)
    taking = instruction_kinds_awaited_taking begun.first begun.last begun.waits

    both : OpenBlockNotesAll (plan_sizes s) p (begun.first ∷ begun.last ∷ []) (open_block g a.pending) (open_block i c.pending)
    both =
        subst (λ ks. OpenBlockNotesAll (plan_sizes s) p ks (open_block g a.pending) (open_block i c.pending))
        (instruction_kinds_of_waiting (script_turn_instruction section n) begun.first begun.last done.kinds begun.are begun.waits done.are) done.noted

    middle : List Event
    middle = both.0.history

    first : both.0 ≡ open_block (open_block_handed_in p (open_block g a.pending) ++ event p begun.first ∷ []) []
    first = noted_block_plain_call (plan_sizes s) p begun.first (open_block g a.pending) both.0 plain.0 both.1

    last : i ≡ middle ++ event p begun.last ∷ []
    last =
        ap (λ (y : OpenBlock). y.history) (both.2.2 ∙ noted_block_plain_call (plan_sizes s) p begun.last both.0 both.2.0 plain.1 both.2.1)
        ∙ ap (λ es. (middle ++ map (event p) es) ++ event p begun.last ∷ []) (ap (λ (y : OpenBlock). y.pending) first)
        ∙ ap (λ es. es ++ event p begun.last ∷ []) (append-nil middle)

    other : j ≡ open_block_handed_in p (open_block h b.pending) ++ event p begun.first ∷ []
    other = ap (λ (y : OpenBlock). y.history) (begun.noted.2 ∙ noted_block_plain_call (plan_sizes s) p begun.first (open_block h b.pending) begun.noted.0 plain.0 begun.noted.1)

    between : SameButValues middle j
    between =
        subst₂ SameButValues (sym (ap (λ (y : OpenBlock). y.history) first)) (sym other)
        (noted_block_like-append (open_block_handed_in p (open_block g a.pending)) (open_block_handed_in p (open_block h b.pending)) (event p begun.first ∷ [])
        (event p begun.first ∷ []) (noted_block_handed_in_like p (side_blocks x)) refl)

-- two calls that begin one instruction are one, and so are two that end it
side_same_waiting : (i : Instruction) (first last other after : Kind) → AreEventsOfInstruction i (first ∷ last ∷ [])
    → awaited_next first ≡ Some last → AreEventsOfInstruction i (other ∷ after ∷ []) → (first ≡ other) × (last ≡ after)
side_same_waiting i first last other after two waiting also =
    let same = instruction_kinds_of_waiting i first last (other ∷ after ∷ []) two waiting also in (cc, cc)

-- a turn of p in one run
pub record IsSideTurn (s : Plan) (p : ℕ) (section : List Instruction) (h : List Event) (old : ScriptTurnStage) (to : List Event)
    (new : ScriptTurnStage) : Type 0 where
  pub well : WellFormed (plan_sizes s) to
  pub turn : IsScriptTurn s p section h old old.progress to new

-- and in both, from the same place
side_same_turn : {s : Plan} {p : ℕ} {g h i j : List Event} {a b c d : ScriptTurnStage} (section : List Instruction) → AreLikeRuns g h a b
    → IsSideTurn s p section g a i c → IsSideTurn s p section h b j d → AreLikeRuns i j c d
side_same_turn {s = s} {p = p} {g = g} {h = h} {i = i} {j = j} {a = a} {b = b} {c = c} {d = d} section x one other =
    by a.progress one.turn (subst (λ t. IsScriptTurn s p section h b t j d) (sym same) other.turn)
  where
    same : a.progress ≡ b.progress
    same = ap (λ (y : TurnProgress × List Kind × List Kind). y.0) x.stages

    by : (t : TurnProgress) → IsScriptTurn s p section g a t i c → IsScriptTurn s p section h b t j d → AreLikeRuns i j c d
    by (Next n) (inl done) (inl also) =
        let kinds = instruction_kinds_same_done (script_turn_instruction section n) done.kinds also.kinds done.are also.are in
        side_after done.kinds also.kinds x done.new_is also.new_is kinds (noted_block_calls_like (plan_sizes s) p done.kinds also.kinds kinds (side_blocks x) done.noted also.noted)
    by (Next n) (inl done) (inr begun) = absurd (side_done_not_begun section n x one.well done begun)
    by (Next n) (inr begun) (inl done) = absurd (side_done_not_begun section n (side_swapped x) other.well done begun)
    by (Next n) (inr begun) (inr also) =
        let first = (side_same_waiting (script_turn_instruction section n) begun.first begun.last also.first also.last begun.are begun.waits
        also.are).0 in
        let kinds = ap (λ k. same_turn_calls_valueless (k ∷ [])) first in
        side_after (begun.first ∷ []) (also.first ∷ []) x begun.new_is also.new_is kinds
        (noted_block_calls_like (plan_sizes s) p (begun.first ∷ []) (also.first ∷ []) kinds (side_blocks x) begun.noted also.noted)
    by (Waits n) (inl ended) (inl also) =
        let last = (side_same_waiting (script_turn_instruction section n) ended.first ended.last also.first also.last ended.are ended.waits
        also.are).1 in
        let kinds = ap (λ k. same_turn_calls_valueless (k ∷ [])) last in
        side_after (ended.last ∷ []) (also.last ∷ []) x ended.new_is also.new_is kinds (record {
          events =
              subst₂ SameButValues (sym ended.taken) (sym also.taken)
              (noted_block_like-append g h (event p ended.last ∷ []) (event p also.last ∷ []) x.events (noted_block_events_like p (ended.last ∷ []) (also.last ∷ []) kinds));
          pending = refl;
        })
    by (Waits n) (inl ended) (inr vain) =
        absurd (vain.vain.late (side_ready_like s x.events (side_ready_before s i g p ended.last one.well ended.taken
        (instruction_kinds_awaited_taking ended.first ended.last ended.waits))))
    by (Waits n) (inr vain) (inl ended) =
        absurd (vain.vain.late (side_ready_like s (sym x.events) (side_ready_before s j h p ended.last other.well ended.taken
        (instruction_kinds_awaited_taking ended.first ended.last ended.waits))))
    by (Waits n) (inr vain) (inr also) =
        record {
          events = subst₂ SameButValues (sym vain.none) (sym also.none) x.events;
          stages = ap same_turn_stage_valueless vain.new_is ∙ x.stages ∙ sym (ap same_turn_stage_valueless also.new_is);
        }
    by Passed none also =
        record {
          events = subst₂ SameButValues (sym none.0) (sym also.0) x.events;
          stages = ap same_turn_stage_valueless none.1 ∙ x.stages ∙ sym (ap same_turn_stage_valueless also.1);
        }

-- the stages of two runs that are the same, at one place
pub side_stages_at : (xs ys : List ScriptTurnStage) (p : ℕ) (a b : ScriptTurnStage) → map same_turn_stage_valueless xs ≡ map same_turn_stage_valueless ys
    → slice_get xs p ≡ Some a → slice_get ys p ≡ Some b → same_turn_stage_valueless a ≡ same_turn_stage_valueless b
side_stages_at xs ys p a b same here there =
    same_Some (same_turn_stage_valueless a) (same_turn_stage_valueless b)
    (sym (slice_get-map same_turn_stage_valueless xs p ∙ ap (option_map same_turn_stage_valueless) here)
    ∙ ap (λ zs. slice_get zs p) same ∙ slice_get-map same_turn_stage_valueless ys p ∙ ap (option_map same_turn_stage_valueless) there)

-- one run
pub record SideRun (s : Plan) (p : ℕ) (h : List Event) (xs : List ScriptTurnStage) (to : List Event) (zs : List ScriptTurnStage) : Type 0 where
  pub well : WellFormed (plan_sizes s) to
  pub turn : IsScriptTurnAt s p h xs to zs

-- a turn of p in both
pub side_turn : {s : Plan} {p : ℕ} {g h i j : List Event} {xs ys us vs : List ScriptTurnStage} → AreSameTurns g h xs ys
    → SideRun s p g xs i us → SideRun s p h ys j vs → AreSameTurns i j us vs
side_turn {s = s} {p = p} {g = g} {h = h} {i = i} {j = j} {xs = xs} {ys = ys} same one other = record {
  events = after.events;
  stages =
      ap (map same_turn_stage_valueless) one.turn.others ∙ map-set same_turn_stage_valueless xs p one.turn.after
      ∙ ap₂ (λ zs z. slice_set zs p z) same.stages after.stages
      ∙ sym (ap (map same_turn_stage_valueless) other.turn.others ∙ map-set same_turn_stage_valueless ys p other.turn.after);
}
  where
    before : AreLikeRuns g h one.turn.before other.turn.before
    before = record {
      events = same.events;
      stages = side_stages_at xs ys p one.turn.before other.turn.before same.stages one.turn.before_is other.turn.before_is;
    }

    section : other.turn.section ≡ one.turn.section
    section = same_Some other.turn.section one.turn.section (sym other.turn.section_is ∙ one.turn.section_is)

    after : AreLikeRuns i j one.turn.after other.turn.after
    after =
        side_same_turn one.turn.section before (record { well = one.well; turn = one.turn.turn }) (record {
          well = other.well;
          turn = subst (λ is. IsScriptTurn s p is h other.turn.before other.turn.before.progress j other.turn.after) section other.turn.turn;
        })
