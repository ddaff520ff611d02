-- Outcomes with schedules, in a map: which one is found, and which come in.
use Rattle.std.proofs.Common.{◌≡◌, ◌≢◌, ◌⊎◌, inl, inr, Bool, true, false, cond, List, [], ◌∷◌, None, Some, refl, sym, ap, ◌∙◌}
use Rattle.std.specs.Map.{lookup}
use Rattle.std.proofs.lemmas.Bool.{false≢true}
use Rattle.std.proofs.lemmas.Option.{same_Some, none-some}
use Rattle.base.specs.InOrderOnce.{Has}
use Rattle.base.proofs.JoinedLists.{joined_list_has-cons, joined_list_has-nil}
use Rattle.indexmap.specs.IndexMap.{insert_entry}
use Rattle.conformance.specs.declared.schedule.Schedule.{Schedule}
use Rattle.explore.specs.declared.outcomes.answer.ScriptOutcome.{ScriptOutcome}
use Rattle.explore.specs.Explored.{explored_outcome}
use Rattle.explore.proofs.Equals.{equal_outcome_same, equal_rows, outcome_equal}

-- what is looked up is the schedule of an equal outcome
pub memory_outcome_found : (o : ScriptOutcome) (es : List (ScriptOutcome × Schedule)) (t : Schedule) → lookup (outcome_equal o) es ≡ Some t
    → (k : ScriptOutcome) × Has es (k, t) × (explored_outcome k ≡ explored_outcome o)
memory_outcome_found o [] t h = absurd (none-some t h)
memory_outcome_found o (e ∷ es) t h = go (outcome_equal o e.0) refl (memory_outcome_found o es t) h
  where
    go : (b : Bool) → outcome_equal o e.0 ≡ b
        → (lookup (outcome_equal o) es ≡ Some t → (k : ScriptOutcome) × Has es (k, t) × (explored_outcome k ≡ explored_outcome o))
        → cond b (Some e.1) (lookup (outcome_equal o) es) ≡ Some t
        → (k : ScriptOutcome) × Has (e ∷ es) (k, t) × (explored_outcome k ≡ explored_outcome o)
    go true is rest at = (e.0, (joined_list_has-cons e es (e.0, t)).1 (inl (ap (λ u. (e.0, u)) (same_Some e.1 t at))), equal_outcome_same o e.0 is)
    go false is rest at =
        let later = rest at in
        (later.0, (joined_list_has-cons e es (later.0, t)).1 (inr later.1), later.2)

-- if nothing is found, no outcome is equal
pub memory_outcome_missing : (o : ScriptOutcome) (es : List (ScriptOutcome × Schedule)) → lookup (outcome_equal o) es ≡ None
    → (k : ScriptOutcome) (t : Schedule) → Has es (k, t) → explored_outcome k ≢ explored_outcome o
memory_outcome_missing o [] h k t has = absurd (joined_list_has-nil {A = ScriptOutcome × Schedule} (k, t) has)
memory_outcome_missing o (e ∷ es) h k t has =
    go (outcome_equal o e.0) refl (memory_outcome_missing o es) h ((joined_list_has-cons e es (k, t)).0 has)
  where
    go : (b : Bool) → outcome_equal o e.0 ≡ b
        → (lookup (outcome_equal o) es ≡ None → (j : ScriptOutcome) (u : Schedule) → Has es (j, u) → explored_outcome j ≢ explored_outcome o)
        → cond b (Some e.1) (lookup (outcome_equal o) es) ≡ None → (◌≡◌ {A = ScriptOutcome × Schedule} e (k, t)) ⊎ (Has es (k, t))
        → explored_outcome k ≢ explored_outcome o
    go true is rest none at = absurd (none-some e.1 (sym none))
    go false is rest none (inl same) = λ equal.
        let first : explored_outcome e.0 ≡ explored_outcome o = ap (λ (x : ScriptOutcome × Schedule). explored_outcome x.0) same ∙ equal in
        false≢true (sym is ∙ equal_rows o.replies.items e.0.replies.items (sym first))
    go false is rest none (inr later) = rest none k t later

-- one pair of an outcome and a schedule
memory_outcome_pair : (k o : ScriptOutcome) (v t : Schedule) → ◌≡◌ {A = ScriptOutcome × Schedule} (k, v) (o, t) → (explored_outcome o ≡ explored_outcome k) × (t ≡ v)
memory_outcome_pair k o v t is = (
  ap (λ (x : ScriptOutcome × Schedule). explored_outcome x.0) (sym is),
  ap (λ (x : ScriptOutcome × Schedule). x.1) (sym is),
)

-- what comes in is an equal outcome with the new schedule
pub memory_outcome_inserted : (es : List (ScriptOutcome × Schedule)) (k : ScriptOutcome) (v : Schedule) (o : ScriptOutcome) (t : Schedule)
    → Has (insert_entry outcome_equal es k v) (o, t) → Has es (o, t) ⊎ ((explored_outcome o ≡ explored_outcome k) × (t ≡ v))
memory_outcome_inserted [] k v o t has = alone ((joined_list_has-cons {A = ScriptOutcome × Schedule} (k, v) [] (o, t)).0 has)
  where
    alone : (◌≡◌ {A = ScriptOutcome × Schedule} (k, v) (o, t)) ⊎ (Has {A = ScriptOutcome × Schedule} [] (o, t))
        → (Has {A = ScriptOutcome × Schedule} [] (o, t)) ⊎ ((explored_outcome o ≡ explored_outcome k) × (t ≡ v))
    alone (inl is) = inr (memory_outcome_pair k o v t is)
    alone (inr later) = inl later
memory_outcome_inserted (e ∷ es) k v o t has = go (outcome_equal k e.0) refl (memory_outcome_inserted es k v o t) has
  where
    go : (b : Bool) → outcome_equal k e.0 ≡ b
        → (Has (insert_entry outcome_equal es k v) (o, t) → Has es (o, t) ⊎ ((explored_outcome o ≡ explored_outcome k) × (t ≡ v)))
        → Has (cond b ((e.0, v) ∷ es) (e ∷ insert_entry outcome_equal es k v)) (o, t)
        → Has (e ∷ es) (o, t) ⊎ ((explored_outcome o ≡ explored_outcome k) × (t ≡ v))
    go true is rest at = elim ((joined_list_has-cons (e.0, v) es (o, t)).0 at) [
      | inl same ↦ inr (
        ap (λ (x : ScriptOutcome × Schedule). explored_outcome x.0) (sym same) ∙ equal_outcome_same k e.0 is,
        ap (λ (x : ScriptOutcome × Schedule). x.1) (sym same),
      )
      | inr later ↦ inl ((joined_list_has-cons e es (o, t)).1 (inr later))
    ]
    go false is rest at = elim ((joined_list_has-cons e (insert_entry outcome_equal es k v) (o, t)).0 at) [
      | inl same ↦ inl ((joined_list_has-cons e es (o, t)).1 (inl same))
      | inr later ↦ elim (rest later) [
        | inl old ↦ inl ((joined_list_has-cons e es (o, t)).1 (inr old))
        | inr new ↦ inr new
      ]
    ]
