use Rattle.std.proofs.Common.{◌≡◌, ◌==◌, Some, find, map, ap, sym, ◌∙◌}
use Rattle.std.specs.Arc.{arc_value}
use Rattle.std.proofs.lemmas.Bool.{cond-true, cond-false, eq-eqb, ne_eqb}
use Rattle.std.proofs.lemmas.List.{drop_all}
use Rattle.page.specs.PageChanges.{PageChanges}
use Rattle.interval.proofs.Records.ReadItems.{ReadsItem}
use Rattle.interval.proofs.Records.FindAndPush.{find_more}
use Rattle.interval.proofs.interval.look_up_in_interval.Goals as goal

pub returns-then-page : goal.returns-then-page
returns-then-page c =
    let read : ReadsItem c.args.records.now c.loop-record.record-index c.record-item.result =
    record { inside = c.loop-record-test.true; is = c.record-item.is } in
    let step = find_more arc_value (λ (r : PageChanges). r.page == c.args.page) read in
    let same = c.deref-record.ensures in
    let page : (arc_value c.record-item.result).page ≡ c.args.page =
    ap (λ (r : PageChanges). r.page) (sym same) ∙ sym c.page.ensures ∙ c.if-page.true in
    ap Some same ∙ sym (cond-true _ _ _ (eq-eqb _ _ page)) ∙ sym step ∙ c.loop-record.invariant

pub loop-record-preserved : goal.loop-record-preserved
loop-record-preserved c =
    let read : ReadsItem c.args.records.now c.loop-record.record-index c.record-item.result =
    record { inside = c.loop-record-test.true; is = c.record-item.is } in
    let step = find_more arc_value (λ (r : PageChanges). r.page == c.args.page) read in
    let same = c.deref-record.ensures in
    let other : (arc_value c.record-item.result).page ≡ c.args.page → ⊥ =
    λ e. c.if-page.false (c.page.ensures ∙ ap (λ (r : PageChanges). r.page) same ∙ e) in
    sym (cond-false _ _ _ (ne_eqb _ _ other)) ∙ sym step ∙ c.loop-record.invariant

pub returns : goal.returns
returns c =
    let none =
    drop_all c.loop-record.record-index c.args.records.now c.loop-record-test.false in
    ap (λ ys. find (λ (r : PageChanges). r.page == c.args.page) (map arc_value ys)) (sym none) ∙ c.loop-record.invariant
