use Rattle.std.proofs.Common.{Ok, ◌∷◌, ◌++◌, [], append_assoc, map, sym, ap, ◌∙◌, arith}
use Rattle.std.proofs.lemmas.List.{append-nil}
use Rattle.std.specs.Vec.Iter.{into_iter_items}
use Rattle.lrc_run.proofs.Failing.{failing_none_left, failing_taken_more}
use Rattle.lrc_run.proofs.run_faults.all_without_run_fault.Goals as goal

pub loop-outcome-preserved : goal.loop-outcome-preserved
loop-outcome-preserved g c =
    let inv = c.loop-outcome.invariant in
    let yielded = c.loop-outcome.yielded in
    record {
      came = append_assoc yielded (c.in-Some.outcome ∷ []) (into_iter_items c.next.new.self)
          ∙ sym (ap (λ xs. yielded ++ xs) c.in-Some.ensures.steps.0) ∙ inv.came;
      all = ap (map Ok) c.in_ok-push.ensures.items
          ∙ failing_taken_more c.loop-outcome.all.items yielded c.in-Ok.x c.in-Some.outcome inv.all c.in-Ok.is;
    }

pub returns : goal.returns
returns g c =
    let inv = c.loop-outcome.invariant in
    let yielded = c.loop-outcome.yielded in
    let rest = c.loop-outcome.outcome-iterator.rest in
    let none = failing_none_left rest.items (omega (arith, rest.ok, c.in-None.ensures.steps.0)) in
    inv.all ∙ sym (append-nil yielded) ∙ ap (λ xs. yielded ++ xs) (sym none) ∙ inv.came
