use Rattle.std.proofs.Common.{inl, inr, IsTrue, false, slice_index_or, sym, subst, ◌∙◌}
use Rattle.lrc_script.specs.Plan.{plan_of}
use Rattle.explore.specs.TextWalks.{IsTextWalkable}
use Rattle.explore.proofs.MachineSteps.{machine_step_rows_few}
use Rattle.explore.proofs.Locksets.Noted.{lockset_noted_each_few, lockset_noted_rows_within}
use Rattle.explore.proofs.text.guards.guarded_words_with_walk.Goals as goal

pub words_guarded_by_walk-requires-clause-walkable : goal.words_guarded_by_walk-requires-clause-walkable
words_guarded_by_walk-requires-clause-walkable c =
    let plan = plan_of c.args.script.now in
    let steps = c.args.steps.now in
    subst (λ n. IsTextWalkable n steps) (sym (c.len.ensures ∙ c.in_ok-guarded.ensures.long))
    (record {
      few = machine_step_rows_few plan steps c.requires;
      short = lockset_noted_each_few plan steps c.requires;
      within = lockset_noted_rows_within plan steps c.requires;
    })

pub returns-clause-guarded : goal.returns-clause-guarded
returns-clause-guarded c = λ w yes. elim (c.join_guarded.ensures.joined w yes) [
  | inl by_locks ↦ c.in_ok-guarded.ensures.guarded w by_locks
  | inr by_walk ↦ c.in_ok-by_walk.ensures.guarded w (subst (λ bs. IsTrue (slice_index_or bs w false)) c.deref-2.ensures.value by_walk)
]
