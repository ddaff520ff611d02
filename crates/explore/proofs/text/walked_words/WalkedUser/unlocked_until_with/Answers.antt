use Rattle.std.proofs.Common.{◌≡◌, ◌≢◌, ◌+◌, cond, max, slice_index, ap, ◌∙◌, arith}
use Rattle.std.proofs.lemmas.List.{get_or-set_other, length-set}
use Rattle.explore.specs.WalkedWords.{walked_row_holds}
use Rattle.explore.proofs.TextWalks.UsesNoted.{uses_noted_raised}
use Rattle.explore.proofs.text.walked_words.WalkedUser.unlocked_until_with.Goals as goal

pub loop-lock-preserved : goal.loop-lock-preserved
loop-lock-preserved c =
    let row = c.args.row.now in
    let n = c.loop-lock.lock in
    let all = c.loop-lock.all in
    let old = c.loop-lock.invariant in
    let long = old.long in
    let below = c.loop-lock-test.true in
    let raised : c.max.result ≡ max (slice_index all n) (cond (walked_row_holds row n) 0 (row.place + 1)) =
    c.max.ensures ∙ ap (λ x. max (slice_index all n) x) c.unlocked_until_at.ensures in
    record {
      long = length-set all n c.max.result ∙ long;
      told =
          uses_noted_raised c.args.self.now.unlocked_until all (λ m. cond (walked_row_holds row m) 0 (row.place + 1)) n c.max.result (omega arith)
          old.told old.rest raised;
      rest = λ m le. let isnt : m ≢ n = omega arith in get_or-set_other all n m c.max.result 0 isnt ∙ old.rest m (omega arith);
    }
