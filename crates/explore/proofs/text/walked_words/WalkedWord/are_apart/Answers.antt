use Rattle.std.proofs.Common.{◌<◌, inl, inr, length, slice_get, ap, sym, subst, ◌∙◌, arith}
use Rattle.std.proofs.lemmas.Bool.{cases_eq}
use Rattle.std.proofs.lemmas.Option.{same_Some, slice_get_within}
use Rattle.explore.specs.declared.text.walked_words.WalkedUses.{WalkedUses}
use Rattle.explore.specs.WalkedWords.{HasWalkedPhaseUser, IsWalkedApart}
use Rattle.explore.proofs.MachineSteps.{machine_step_read_at}
use Rattle.explore.proofs.text.walked_words.WalkedWord.are_apart.Goals as goal
use Rattle.explore.proofs.text.walked_words.WalkedWord.are_apart.Goals.{else-other-processor-via-then-other-processor+else-not-are_apart, else-other-processor-via-else-other-processor}

pub loop-other-preserved : goal.loop-other-preserved
loop-other-preserved c = λ q i store held lt isnt used. elim (cases_eq q c.loop-other.other) [
  | inl same ↦ elim c.else-other-processor.branch [
    | else-other-processor-via-then-other-processor+else-not-are_apart w ↦
        (let all = c.args.self.now.uses in
        let size = all.ok.0 in
        let end = c.len-other-end.ensures in
        let below = c.loop-other-test.true in
        let within : c.loop-other.other < length all.items = omega arith in
        let at = machine_step_read_at all.items c.loop-other.other w.index.result.now within w.index.ensures in
        let those = same_Some used.uses w.index.result.now (sym used.at ∙ ap (slice_get all.items) same ∙ at) in
        subst (λ n. IsWalkedApart c.args.row.now c.args.stores n i store held) (sym same)
        (w.are_apart.ensures w.if-not-are_apart.false i store held
        (subst (λ (u : WalkedUses). HasWalkedPhaseUser u c.args.row.now.phase i store held) those used.used)))
    | else-other-processor-via-else-other-processor w ↦ absurd (isnt (same ∙ w.if-other-processor.false))
  ]
  | inr other ↦ c.loop-other.invariant q i store held (omega arith) isnt used
]

pub returns : goal.returns
returns c = λ yes q i store held isnt used.
    let all = c.args.self.now.uses in
    let size = all.ok.0 in
    let end = c.len-other-end.ensures in
    let over = c.loop-other-test.false in
    let within = slice_get_within all.items q used.uses used.at in
    c.loop-other.invariant q i store held (omega arith) isnt used
