-- Outcomes that are noted, each with what shows it: an equal one is there already, or a new one is put at their end.
use Rattle.std.proofs.Common.{ℕ, ◌≡◌, ◌⊎◌, inl, inr, Bool, true, false, cond, List, [], ◌∷◌, ◌++◌, Option, Some, is_some, refl, sym, ap, subst, ◌∙◌}
use Rattle.std.specs.Prelude.{None}
use Rattle.std.specs.Map.{lookup}
use Rattle.std.proofs.lemmas.Bool.{false≢true}
use Rattle.std.proofs.lemmas.List.{map-append}
use Rattle.base.specs.InOrderOnce.{Has}
use Rattle.base.proofs.JoinedLists.{joined_list_has-append, joined_list_has-cons, joined_list_has-nil}
use Rattle.indexmap.specs.IndexMap.{IndexMap, insert_entry}
use Rattle.indexmap.proofs.CallerLemmas.{insert_entry-new}
use Rattle.explore.specs.declared.outcomes.answer.ScriptOutcome.{ScriptOutcome}
use Rattle.explore.specs.Explored.{explored_outcome}
use Rattle.explore.specs.NotedOutcomes.{IsNotedOutcome, noted_outcomes}
use Rattle.explore.proofs.Equals.{equal_outcome_same, equal_rows, outcome_equal}

-- what is looked up and found is among these outcomes
pub noted_outcome_found : {V : Type 0} (o : ScriptOutcome) (es : List (ScriptOutcome × V)) → is_some (lookup (outcome_equal o) es) ≡ true
    → Has (noted_outcomes es) (explored_outcome o)
noted_outcome_found o [] h = absurd (false≢true h)
noted_outcome_found {V} o (e ∷ es) h = go (outcome_equal o e.0) refl (noted_outcome_found o es) h
  where
    go : (b : Bool) → outcome_equal o e.0 ≡ b
        → (is_some (lookup (outcome_equal o) es) ≡ true → Has (noted_outcomes es) (explored_outcome o))
        → is_some (cond b (Some e.1) (lookup (outcome_equal o) es)) ≡ true → Has (explored_outcome e.0 ∷ noted_outcomes es) (explored_outcome o)
    go true is rest at = (joined_list_has-cons (explored_outcome e.0) (noted_outcomes es) (explored_outcome o)).1 (inl (equal_outcome_same o e.0 is))
    go false is rest at = (joined_list_has-cons (explored_outcome e.0) (noted_outcomes es) (explored_outcome o)).1 (inr (rest at))

-- and what isn't found isn't
pub noted_outcome_missing : {V : Type 0} (o : ScriptOutcome) (es : List (ScriptOutcome × V)) → is_some (lookup (outcome_equal o) es) ≡ false
    → ¬ Has (noted_outcomes es) (explored_outcome o)
noted_outcome_missing o [] h has = joined_list_has-nil (explored_outcome o) has
noted_outcome_missing {V} o (e ∷ es) h has =
    go (outcome_equal o e.0) refl (noted_outcome_missing o es) h ((joined_list_has-cons (explored_outcome e.0) (noted_outcomes es) (explored_outcome o)).0 has)
  where
    go : (b : Bool) → outcome_equal o e.0 ≡ b
        → (is_some (lookup (outcome_equal o) es) ≡ false → ¬ Has (noted_outcomes es) (explored_outcome o))
        → is_some (cond b (Some e.1) (lookup (outcome_equal o) es)) ≡ false
        → (explored_outcome e.0 ≡ explored_outcome o) ⊎ Has (noted_outcomes es) (explored_outcome o) → ⊥
    go true is rest at there = false≢true (sym at)
    go false is rest at (inl same) = false≢true (sym is ∙ equal_rows o.replies.items e.0.replies.items (sym same))
    go false is rest at (inr later) = rest at later

-- an outcome that is there keeps what it has
pub noted_outcome_kept : {V : Type 0} (P : V → Type 0) (o : ScriptOutcome) (es : List (ScriptOutcome × V))
    → is_some (lookup (outcome_equal o) es) ≡ true → IsNotedOutcome es es (explored_outcome o) P
noted_outcome_kept P o es there = inl (noted_outcome_found o es there, refl)

-- and a new one is put at their end
pub noted_outcome_put : {V S : Type 0} (P : V → Type 0) (m : IndexMap ScriptOutcome V S) (o : ScriptOutcome) (v : V) (new : List (ScriptOutcome × V))
    → is_some (lookup (outcome_equal o) m.entries) ≡ false → P v → new ≡ insert_entry outcome_equal m.entries o v
    → IsNotedOutcome m.entries new (explored_outcome o) P
noted_outcome_put {V} P m o v new isnt has is =
    inr ((o, v), noted_outcome_missing o m.entries isnt, refl, has, is ∙ insert_entry-new outcome_equal m o v (none (lookup (outcome_equal o) m.entries) isnt))
  where
    none : (found : Option V) → is_some found ≡ false → found ≡ None
    none None h = refl
    none (Some w) h = absurd (false≢true (sym h))

-- this is one of these, or put at their end
abbrev pub IsAmongNotedOutcomes : List (List (List ℕ)) → List (List (List ℕ)) → List (List ℕ) → Type 0
IsAmongNotedOutcomes old new x = (Has old x × (new ≡ old)) ⊎ ((¬ Has old x) × (new ≡ old ++ x ∷ []))

-- so it is with the outcomes alone
pub noted_outcome_among : {V : Type 0} (P : V → Type 0) (old new : List (ScriptOutcome × V)) (x : List (List ℕ)) → IsNotedOutcome old new x P
    → IsAmongNotedOutcomes (noted_outcomes old) (noted_outcomes new) x
noted_outcome_among P old new x (inl was) = inl (was.0, ap noted_outcomes was.1)
noted_outcome_among {V} P old new x (inr put) = inr (
  put.1,
  ap noted_outcomes put.4 ∙ map-append (λ (e : ScriptOutcome × V). explored_outcome e.0) old (put.0 ∷ [])
      ∙ ap (λ y. noted_outcomes old ++ y ∷ []) put.2,
)

-- what each had, each has, if this one has it
pub noted_outcome_each : {V : Type 0} (Q : ScriptOutcome × V → Type 0) (P : V → Type 0) (old new : List (ScriptOutcome × V)) (x : List (List ℕ))
    → IsNotedOutcome old new x P → ((e : ScriptOutcome × V) → explored_outcome e.0 ≡ x → P e.1 → Q e)
    → ((e : ScriptOutcome × V) → Has old e → Q e) → (e : ScriptOutcome × V) → Has new e → Q e
noted_outcome_each {V} Q P old new x (inl was) own each e has = each e (subst (λ (es : List (ScriptOutcome × V)). Has es e) was.1 has)
noted_outcome_each {V} Q P old new x (inr put) own each e has =
    elim ((joined_list_has-append old (put.0 ∷ []) e).0 (subst (λ (es : List (ScriptOutcome × V)). Has es e) put.4 has)) [
      | inl before ↦ each e before
      | inr last ↦ elim ((joined_list_has-cons put.0 [] e).0 last) [
        | inl is ↦ subst Q is (own put.0 put.2 put.3)
        | inr none ↦ absurd (joined_list_has-nil {A = ScriptOutcome × V} e none)
      ]
    ]
