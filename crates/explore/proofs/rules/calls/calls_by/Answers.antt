use Rattle.std.proofs.Common.{◌++◌, [], ◌∷◌, slice_index_or, add-one, ap, sym, ◌∙◌}
use Rattle.std.proofs.lemmas.Option.{slice_get-get_or}
use Rattle.base.proofs.SlicesAndCounts.{slice_take-suc_at}
use Rattle.journal.specs.declared.event.Kind.TheVariants.{Load}
use Rattle.journal.specs.DidEvent.{event}
use Rattle.std.proofs.Common.{take}
use Rattle.conformance.specs.Follows.{calls_of}
use Rattle.conformance.proofs.FollowedCalls.{followed_calls-append}
use Rattle.explore.proofs.rules.calls.calls_by.Goals as goal

pub loop-event-preserved : goal.loop-event-preserved
loop-event-preserved c =
    let n = c.loop-event.event-index in
    let events = c.args.events.now in
    let e = slice_index_or events n (event 0 (Load 0 0)) in
    let at = slice_get-get_or events n (event 0 (Load 0 0)) c.loop-event-test.true in
    c.in_ok-keep_call_by.ensures
    ∙ ap (λ ks. ks ++ calls_of (e ∷ []) c.args.processor) c.loop-event.invariant
    ∙ sym (rw (add-one, slice_take-suc_at events n e at) (followed_calls-append (take n events) (e ∷ []) c.args.processor))
