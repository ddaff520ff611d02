-- Free events, one after another.
use Rattle.std.proofs.Common.{ℕ, inl, inr, List, [], ◌∷◌, ◌++◌, ◌≡◌, ◌∙◌, Some, map, refl, sym, ap, subst, append_assoc, append-nil}
use Rattle.std.proofs.lemmas.List.{map-append}
use Rattle.std.proofs.lemmas.Option.{same_Some}
use Rattle.std.specs.Global.{Vec}
use Rattle.base.proofs.JoinedLists.{joined_list_has-append, joined_list_has-cons, joined_list_has-nil}
use Rattle.journal.specs.declared.event.Event.{Event}
use Rattle.journal.specs.DidEvent.{did}
use Rattle.lrc_script.specs.Plan.{Plan}
use Rattle.explore.specs.declared.prefixes.script_call.ScriptCall.{ScriptCall}
use Rattle.explore.specs.declared.state.flat_state.FlatState.{FlatState}
use Rattle.explore.specs.FreeChoice.{IsFreeForChoice}
use Rattle.explore.specs.declared.state.wait_code.ProcessorNumber.{ProcessorNumber}
use Rattle.explore.specs.FreeRun.{IsFreeRun, IsFreeRunNoted}
use Rattle.explore.specs.WaitCodes.{wait_code_seated}
use Rattle.explore.specs.Machines.{AreLawfulMachineSteps, MachineKnows}

-- no event was done
pub free_run_start : (rows : List (Vec ScriptCall)) (m : FlatState) → IsFreeRun rows m m []
free_run_start rows m = record {
  free = λ e has. absurd (joined_list_has-nil e has);
  telling = refl;
  knows = λ s g lawful knows. subst (λ es. MachineKnows s es m) (sym (append-nil g)) knows;
}

-- one more
pub free_run_push : (rows : List (Vec ScriptCall)) {m n : FlatState} (o : FlatState) (more : List Event) (e : Event) → IsFreeRun rows m n more
    → IsFreeForChoice rows e.kind → o.telling ≡ n.telling
    → ((s : Plan) (g : List Event) → AreLawfulMachineSteps s rows → MachineKnows s g n → MachineKnows s (did g e.processor e.kind) o)
    → IsFreeRun rows m o (more ++ e ∷ [])
free_run_push rows {m} {n} o more e went free telling step = record {
  telling = telling ∙ went.telling;
  free = λ f has. elim ((joined_list_has-append more (e ∷ []) f).0 has) [
    | inl old ↦ went.free f old
    | inr now ↦ elim ((joined_list_has-cons e [] f).0 now) [
      | inl is ↦ subst (λ (x : Event). IsFreeForChoice rows x.kind) is free
      | inr none ↦ absurd (joined_list_has-nil f none)
    ]
  ];
  knows = λ s g lawful knows.
      subst (λ es. MachineKnows s es o) (append_assoc g more (e ∷ [])) (step s (g ++ more) lawful (went.knows s g lawful knows));
}

-- and so none was noted
pub free_run_noted_start : (rows : List (Vec ScriptCall)) (m : FlatState) (makers : List ProcessorNumber) → IsFreeRunNoted rows m m makers makers
free_run_noted_start rows m makers = record {
  more = [];
  run = free_run_start rows m;
  makers = sym (append-nil (map (λ (p : ProcessorNumber). p.0) makers));
}

-- one more, and its maker
pub free_run_noted_push : (rows : List (Vec ScriptCall)) {m n : FlatState} {old new newer : List ProcessorNumber} (o : FlatState) (e : Event) (maker : ProcessorNumber)
    → IsFreeRunNoted rows m n old new → IsFreeForChoice rows e.kind → o.telling ≡ n.telling
    → ((s : Plan) (g : List Event) → AreLawfulMachineSteps s rows → MachineKnows s g n → MachineKnows s (did g e.processor e.kind) o)
    → wait_code_seated (Some maker) ≡ Some e.processor → newer ≡ new ++ maker ∷ [] → IsFreeRunNoted rows m o old newer
free_run_noted_push rows {old = old} {new = new} o e maker went free telling step is items =
    let number : ProcessorNumber → ℕ = λ p. p.0 in
    let of : Event → ℕ = λ e. e.processor in
    record {
      more = went.more ++ e ∷ [];
      run = free_run_push rows o went.more e went.run free telling step;
      makers =
          ap (map number) items ∙ map-append number new (maker ∷ [])
          ∙ ap (λ ns. ns ++ maker.0 ∷ []) went.makers
          ∙ append_assoc (map number old) (map of went.more) (maker.0 ∷ [])
          ∙ ap (λ p. map number old ++ (map of went.more ++ p ∷ [])) (same_Some maker.0 e.processor is)
          ∙ ap (λ ns. map number old ++ ns) (sym (map-append of went.more (e ∷ [])));
    }
