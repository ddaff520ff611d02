use Rattle.std.proofs.Common.{◌++◌, ◌∷◌, [], drop, slice_get, take, sym, subst, ap, ◌∙◌}
use Rattle.std.proofs.Math.Seq.{take-length}
use Rattle.std.proofs.lemmas.List.{length-drop}
use Rattle.explore.specs.UnrankedLocks.{AreTextAsks, AreTextAsksChained, IsTextAskCircle}
use Rattle.explore.proofs.TextAskPaths.{EndsTextAskPath, text_ask_path_chained_next, text_ask_path_circle, text_ask_path_each_next, text_ask_path_ends_next}
use Rattle.explore.proofs.text.unranked_locks.lock_circle_from.Goals as goal

pub returns-in-Some-text_ask_place : goal.returns-in-Some-text_ask_place
returns-in-Some-text_ask_place c =
    let steps = c.args.steps.now in
    let old = c.loop.invariant in
    let before = c.loop.path.items in
    let ask = c.in-Some.ask in
    let found = c.in-Some.ensures in
    let path = before ++ ask ∷ [] in
    let first = c.in-Some-text_ask_place.first in
    let whole = c.deref-in-Some-text_ask_place.result.now in
    let there = c.in-Some-text_ask_place.ensures in
    let pushed = c.in_ok-push.ensures.items in
    let at = sym (ap (λ xs. slice_get xs first) (c.deref.ensures.value ∙ pushed)) ∙ there.1 in
    subst (IsTextAskCircle steps)
    (sym (c.in_ok-from_slice.ensures.items ∙ ap (λ n. take n (drop first whole)) (sym (length-drop first whole)) ∙ take-length (drop first whole)
    ∙ ap (drop first) (c.deref-in-Some-text_ask_place.ensures.value ∙ pushed)))
    (text_ask_path_circle steps path ask.asked first there.0 (text_ask_path_each_next before ask steps old.each (c.requires ask found.0))
    (text_ask_path_chained_next before ask c.loop.lock old.chained old.ends found.1) (text_ask_path_ends_next before ask) at there.2)

pub loop-preserved : goal.loop-preserved
loop-preserved c =
    let steps = c.args.steps.now in
    let old = c.loop.invariant in
    let before = c.loop.path.items in
    let ask = c.in-Some.ask in
    let found = c.in-Some.ensures in
    let pushed = sym c.in_ok-push.ensures.items in
    record {
      each = subst (AreTextAsks steps) pushed (text_ask_path_each_next before ask steps old.each (c.requires ask found.0));
      chained = subst AreTextAsksChained pushed (text_ask_path_chained_next before ask c.loop.lock old.chained old.ends found.1);
      ends = subst (λ xs. EndsTextAskPath xs ask.asked) pushed (text_ask_path_ends_next before ask);
    }
