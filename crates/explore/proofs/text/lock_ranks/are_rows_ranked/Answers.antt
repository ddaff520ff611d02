use Rattle.std.proofs.Common.{◌≡◌, inl, inr, Some, slice_get, slice_index_or, sym, subst, ◌∙◌, arith}
use Rattle.std.specs.Global.{Vec}
use Rattle.std.proofs.lemmas.Bool.{cases_eq}
use Rattle.std.proofs.lemmas.Option.{same_Some, slice_get_within}
use Rattle.explore.specs.declared.prefixes.script_call.ScriptCall.{ScriptCall}
use Rattle.explore.specs.LockRanks.{IsRowLockRanked}
use Rattle.explore.proofs.MachineSteps.{machine_step_read_at}
use Rattle.explore.proofs.text.lock_ranks.are_rows_ranked.Goals as goal

pub is_row_ranked-requires : goal.is_row_ranked-requires
is_row_ranked-requires c =
    let at = machine_step_read_at c.args.steps.now c.loop-row.row-index c.row-item.result c.loop-row-test.true c.row-item.is in (
      c.requires.0,
      λ i step here. c.requires.1 c.loop-row.row-index c.row-item.result at i step (subst (λ xs. slice_get xs i ≡ Some step) c.deref.ensures.value here),
    )

pub loop-row-preserved : goal.loop-row-preserved
loop-row-preserved c = λ p row lt at. elim (cases_eq p c.loop-row.row-index) [
  | inl is ↦
      (let here = machine_step_read_at c.args.steps.now c.loop-row.row-index c.row-item.result c.loop-row-test.true c.row-item.is in
      let same = same_Some c.row-item.result row (sym here ∙ subst (λ n. slice_get c.args.steps.now n ≡ Some row) is at) in
      subst (λ (r : Vec ScriptCall). IsRowLockRanked (λ k. slice_index_or c.args.ranks.now k 0) r.items) same
      (subst (IsRowLockRanked (λ k. slice_index_or c.args.ranks.now k 0)) c.deref.ensures.value (c.is_row_ranked.ensures c.if-not-is_row_ranked.false)))
  | inr isnt ↦ c.loop-row.invariant p row (omega arith) at
]

pub returns : goal.returns
returns c = λ yes p row at.
    let within = slice_get_within c.args.steps.now p row at in
    let over = c.loop-row-test.false in
    let end = c.loop-row.auto.row-index-end in
    c.loop-row.invariant p row (omega arith) at
