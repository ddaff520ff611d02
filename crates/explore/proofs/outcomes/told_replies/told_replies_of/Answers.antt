use Rattle.std.proofs.Common.{◌++◌, slice_index_or, ap, sym, ◌∙◌}
use Rattle.std.proofs.lemmas.Option.{slice_get-get_or}
use Rattle.journal.specs.declared.event.Kind.TheVariants.{Load}
use Rattle.explore.specs.OutcomeTelling.{is_told_by_outcome_telling, outcome_telling_reply, outcome_telling_words}
use Rattle.explore.proofs.ToldReplies.{told_replies_take_next}
use Rattle.explore.proofs.outcomes.told_replies.told_replies_of.Goals as goal

pub loop-place-preserved : goal.loop-place-preserved
loop-place-preserved c =
    let t = c.args.telling in
    let p = c.args.processor in
    let steps = c.args.steps.now in
    let calls = c.args.calls.now in
    let n = c.loop-place.place in
    let k = slice_index_or calls n (Load 0 0) in
    let at = slice_get-get_or calls n (Load 0 0) c.loop-place-test.true in
    c.in_ok-keep_told_reply.ensures
    ∙ ap (λ b. c.loop-place.replies.items ++ outcome_telling_reply b k) c.is_told-is_told.ensures
    ∙ ap (λ rs. rs ++ outcome_telling_reply (is_told_by_outcome_telling t.detail (outcome_telling_words t p) steps n) k) c.loop-place.invariant
    ∙ sym (told_replies_take_next t p steps calls n k at)
