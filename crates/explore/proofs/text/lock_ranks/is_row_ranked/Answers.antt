use Rattle.std.proofs.Common.{◌≡◌, inl, inr, IsTrue, Some, slice_get, sym, subst, ◌∙◌, arith}
use Rattle.std.proofs.lemmas.Bool.{cases_eq}
use Rattle.std.proofs.lemmas.Option.{same_Some, slice_get-get_or}
use Rattle.journal.specs.declared.event.Kind.TheVariants.{Acquire}
use Rattle.explore.specs.declared.prefixes.script_call.ScriptCall.TheVariants.{Call}
use Rattle.explore.specs.LockRanks.{ends_unlocked_wait}
use Rattle.explore.specs.TextGuards.{text_guard_held_at}
use Rattle.explore.proofs.Locksets.Noted.{lockset_noted_holds_none, lockset_noted_holds_step}
use Rattle.explore.proofs.text.lock_ranks.is_row_ranked.Goals as goal

pub loop-step-init : goal.loop-step-init
loop-step-init c = record {
  held = λ m. lockset_noted_holds_none 32 m;
  falls = λ i k m lt. absurd (omega arith);
  unlocked = λ i m step lt. absurd (omega arith);
}

pub is_step_ranked-requires : goal.is_step_ranked-requires
is_step_ranked-requires c =
    let at = slice_get-get_or c.args.row.now c.loop-step.step-index _ c.loop-step-test.true in
    (c.requires.0, c.requires.1 c.loop-step.step-index _ at)

pub track_held_guard-requires : goal.track_held_guard-requires
track_held_guard-requires c =
    let at = slice_get-get_or c.args.row.now c.loop-step.step-index _ c.loop-step-test.true in
    (c.requires.0, c.requires.1 c.loop-step.step-index _ at)

pub loop-step-preserved : goal.loop-step-preserved
loop-step-preserved c =
    let n = c.loop-step.step-index in
    let row = c.args.row.now in
    let at = slice_get-get_or row n _ c.loop-step-test.true in
    let old = c.loop-step.invariant in
    let fits = c.is_step_ranked.ensures in
    let yes = c.if-not-is_step_ranked.false in
    record {
      held = λ m. lockset_noted_holds_step row n m _ _ _ (c.track_held_guard.ensures.held m) (old.held m) at;
      falls = λ i k m lt here held. elim (cases_eq i n) [
        | inl is ↦
            fits.falls yes k m
            (same_Some _ (Call (Acquire k)) (sym at ∙ subst (λ x. slice_get row x ≡ Some (Call (Acquire k))) is here))
            (old.held m ∙ subst (λ x. IsTrue (text_guard_held_at row x m)) is held)
        | inr isnt ↦ old.falls i k m (omega arith) here held
      ];
      unlocked = λ i m step lt here waits held. elim (cases_eq i n) [
        | inl is ↦
            (let same = same_Some step _ (sym (subst (λ x. slice_get row x ≡ Some step) is here) ∙ at) in
            fits.unlocked yes (subst (λ x. IsTrue (ends_unlocked_wait x)) same waits) m
            (old.held m ∙ subst (λ x. IsTrue (text_guard_held_at row x m)) is held))
        | inr isnt ↦ old.unlocked i m step (omega arith) here waits held
      ];
    }
