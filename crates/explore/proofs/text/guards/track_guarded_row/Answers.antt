use Rattle.std.proofs.Common.{◌≡◌, length, refl, subst, arith}
use Rattle.std.proofs.lemmas.Option.{slice_get-get_or}
use Rattle.std.specs.Prelude.{vec_len}
use Rattle.explore.specs.Users.{AreStepUsersNoted}
use Rattle.explore.specs.TextGuards.{text_guard_held_at}
use Rattle.explore.proofs.Locksets.Noted.{lockset_noted_holds_step, lockset_noted_keeps_on, lockset_noted_keeps_same, lockset_noted_holds_none, lockset_noted_keeps_steps, lockset_noted_next, lockset_noted_phase_small, lockset_noted_phase_step, lockset_noted_used_phase, lockset_noted_within_size}
use Rattle.explore.proofs.text.guards.track_guarded_row.Goals as goal

pub loop-step-init : goal.loop-step-init
loop-step-init c = record {
  phase = refl;
  held = λ q. lockset_noted_holds_none 32 q;
  keeps = lockset_noted_keeps_same c.args.words.now.items;
  noted = λ i w step lt. absurd (omega arith);
}

pub loop-step-preserved : goal.loop-step-preserved
loop-step-preserved c =
    let n = c.loop-step.step-index in
    let row = c.args.row.now in
    let at = slice_get-get_or row n _ c.loop-step-test.true in
    let old = c.loop-step.invariant in
    let keeps = c.in_ok-track_guarded_step.ensures.keeps in
    record {
      phase = lockset_noted_phase_step row n _ _ _ c.guarded_phase_after-phase.ensures old.phase at;
      held = λ q. lockset_noted_holds_step row n q _ _ _ (c.track_held_guard.ensures.held q) (old.held q) at;
      keeps = lockset_noted_keeps_on _ _ _ old.keeps keeps;
      noted =
          lockset_noted_next _ _ row n _ at (lockset_noted_keeps_steps _ _ _ row n keeps old.noted)
          (λ w address. lockset_noted_used_phase _ w _ _ _ _ (text_guard_held_at row n) old.phase
          (c.in_ok-track_guarded_step.ensures.noted (text_guard_held_at row n) old.held w address));
    }

pub track_guarded_step-requires : goal.track_guarded_step-requires
track_guarded_step-requires c =
    let n = c.loop-step.step-index in
    let at = slice_get-get_or c.args.row.now n _ c.loop-step-test.true in
    let long = c.loop-step.invariant.keeps.long in
    let size = c.loop-step.words.ok.0 in
    let before = c.args.words.now.ok.0 in
    let same : vec_len c.args.words.now ≡ vec_len c.loop-step.words = omega arith in
    lockset_noted_within_size (vec_len c.args.words.now) (vec_len c.loop-step.words) _ same (c.requires.within n _ at)

pub track_held_guard-requires : goal.track_held_guard-requires
track_held_guard-requires c =
    let n = c.loop-step.step-index in
    let at = slice_get-get_or c.args.row.now n _ c.loop-step-test.true in
    (vec_len c.args.words.now, c.requires.within n _ at)

pub guarded_phase_after-phase-requires : goal.guarded_phase_after-phase-requires
guarded_phase_after-phase-requires c =
    let lt = c.loop-step-test.true in
    let small = lockset_noted_phase_small c.args.row.now c.loop-step.step-index (omega arith) in
    let is = c.loop-step.invariant.phase in
    let few = c.requires.few in
    omega (arith, small, is, few)

pub returns-clause-keeps : goal.returns-clause-keeps
returns-clause-keeps c = c.loop-step.invariant.keeps

pub returns-clause-noted : goal.returns-clause-noted
returns-clause-noted c =
    let over = c.loop-step-test.false in
    let top = c.loop-step.auto.step-index-end in
    let end : c.loop-step.step-index ≡ length c.args.row.now = omega arith in
    subst (AreStepUsersNoted c.loop-step.words.items c.args.processor c.args.row.now) end c.loop-step.invariant.noted
