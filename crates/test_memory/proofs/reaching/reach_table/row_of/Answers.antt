use Rattle.std.proofs.Common.{◌≡◌, ◌↔◌, ◌+◌, ◌<◌, false, IsTrue, Some, ap, ◌∙◌, sym, subst, length, slice_index_or, vec_len, arith}
use Rattle.std.proofs.lemmas.List.{with_items_is}
use Rattle.std.proofs.lemmas.Option.{slice_get-get_or}
use Rattle.journal.specs.HappensBeforeEdges.{HappensBefore}
use Rattle.journal.proofs.Order.HappensBefore.{happens_before_begins_within}
use Rattle.test_memory.proofs.reaching.Reaching.{Reaches, reaches_past, reaches_next, reaches_all, marked_within}
use Rattle.test_memory.proofs.reaching.reach_table.row_of.Goals as goal
use Rattle.test_memory.proofs.reaching.reach_table.row_of.Goals.{then-is_edge, else-is_edge}

pub loop-source-preserved : goal.loop-source-preserved
loop-source-preserved c =
    let events = c.args.events.now in
    let place = c.args.place in
    let source = c.loop-source.source in
    let before = c.loop-source.invariant in
    elim c.if-is_edge.branch [
      | then-is_edge w ↦ (
          let row = w.index-rows-source.result in
          let below = c.loop-source-test.true in
          let inside : source < length c.args.rows.now = omega (arith, c.requires.long) in
          let theirs =
          c.requires.rows source row
          (slice_get-get_or c.args.rows.now source row inside ∙ ap Some (sym w.index-rows-source.is)) in
          let kept : length w.mark_source.new.row ≡ vec_len c.loop-source.row =
          omega (arith, w.mark_source.auto.row, w.deref_mut.ensures.len) in
          let items = with_items_is c.loop-source.row w.mark_source.new.row kept in
          record {
            long = ap (λ v. vec_len v) w.row-is ∙ before.long;
            marks = λ i lt.
                let at : i < length w.deref_mut.result.now = omega (arith, w.deref_mut.ensures.len, before.long) in
                let old =
                subst (λ xs. IsTrue (slice_index_or xs i false) ↔ Reaches events place source i)
                (sym w.deref_mut.ensures.value) (before.marks i lt) in
                let here =
                subst (λ xs. IsTrue (slice_index_or xs i false) ↔ HappensBefore events i source)
                (sym w.deref.ensures.value) (theirs.marks i) in
                let next =
                reaches_next events place source i (slice_index_or w.deref_mut.result.now i false)
                (slice_index_or w.deref.result.now i false) (slice_index_or w.mark_source.new.row i false)
                (c.is_edge.ensures.0 w.if-is_edge.true) old here (w.mark_source.ensures i at) in
                subst (λ xs. IsTrue (slice_index_or xs i false) ↔ Reaches events place (source + 1) i)
                (sym (ap (λ v. v.items) w.row-is ∙ items)) next;
          })
      | else-is_edge w ↦ record {
        long = ap (λ v. vec_len v) w.row-is ∙ before.long;
        marks = λ i lt.
            let past =
            reaches_past events place source i (λ d. absurd (cc (w.if-is_edge.false, c.is_edge.ensures.1 d))) in
            let same = ap (λ v. slice_index_or v.items i false) w.row-is in (
              λ t. past.1 ((before.marks i lt).0 (sym same ∙ t)),
              λ r. same ∙ (before.marks i lt).1 (past.0 r),
            );
      }
    ]

pub returns : goal.returns
returns c =
    let events = c.args.events.now in
    let place = c.args.place in
    let over = c.loop-source-test.false in
    let end = c.loop-source.auto.source-end in
    let all : c.loop-source.source ≡ place = omega arith in
    let row = c.loop-source.row in
    record {
      long = c.loop-source.invariant.long;
      marks = λ i. (
        λ t.
            let within = marked_within row.items i t in
            let long = c.loop-source.invariant.long in
            let lt : i < length events = omega (arith, row.ok.0) in
            (reaches_all events place i).0
            (subst (λ n. Reaches events place n i) all ((c.loop-source.invariant.marks i lt).0 t)),
        λ h. (c.loop-source.invariant.marks i (happens_before_begins_within events h)).1
            (subst (λ n. Reaches events place n i) (sym all) ((reaches_all events place i).1 h)),
      );
    }
