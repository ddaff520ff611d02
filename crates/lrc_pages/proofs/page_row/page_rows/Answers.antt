use Rattle.std.proofs.Common.{◌≡◌, ◌+◌, inl, inr, [], ◌∷◌, ◌++◌, slice_index_or, take, subst, sym, refl, ap, ap₂, ◌∙◌, add-one, arith}
use Rattle.std.proofs.lemmas.List.{length-map, map-append, take_all}
use Rattle.std.proofs.lemmas.Option.{none-some, slice_get-get_or, slice_get-map}
use Rattle.base.proofs.SlicesAndCounts.{slice_push_cases, slice_take-suc_at}
use Rattle.std.specs.Prelude.{option_map}
use Rattle.lrc_pages.specs.declared.paged_history.PagedHistory.{PagedHistory}
use Rattle.lrc_pages.specs.declared.page_row.PageRow.{PageRow}
use Rattle.lrc_pages.specs.PagedTraces.{ArePageRows, IsPageRow, IsPagedOn, paged_words}
use Rattle.lrc_pages.proofs.page_row.page_rows.Goals as goal

pub loop-at-init : goal.loop-at-init
loop-at-init c = λ s j are. subst (ArePageRows c.args.most s j []) (sym c.in_ok-rows.ensures.items)
    (record { words_are = refl; each = λ k row there. absurd (none-some row there) })

pub page_row_of-requires : goal.page_row_of-requires
page_row_of-requires c =
    let x = c.index-histories-at.result in
    let hs = c.args.histories.now in
    let at = c.loop-at.at in
    let found = slice_get-get_or hs at x c.loop-at-test.true in (
      c.requires.0,
      c.requires.1,
      subst (IsPagedOn c.requires.0 c.requires.1) (sym c.index-histories-at.is) (c.requires.2 at (slice_index_or hs at x) found),
    )

pub loop-at-preserved : goal.loop-at-preserved
loop-at-preserved c = λ s j are.
    let x = c.index-histories-at.result in
    let hs = c.args.histories.now in
    let at = c.loop-at.at in
    let here = slice_index_or hs at x in
    let row = c.in_ok-page_row_of.field-0 in
    let rows = c.loop-at.rows.items in
    let old = c.loop-at.invariant s j are in
    let found = slice_get-get_or hs at x c.loop-at-test.true in
    let word = slice_get-map (λ (z : PagedHistory). z.sizes.words) hs at ∙ ap (option_map (λ (z : PagedHistory). z.sizes.words)) found in
    let front : take (at + 1) (paged_words hs) ≡ take at (paged_words hs) ++ here.sizes.words ∷ [] =
    ap (λ n. take n (paged_words hs)) (add-one at) ∙ slice_take-suc_at (paged_words hs) at here.sizes.words word in
    subst (ArePageRows c.args.most s j (take (at + 1) (paged_words hs))) (sym c.in_ok-push.ensures.items) (record {
      words_are = map-append (λ (r : PageRow). r.words) rows (row ∷ [])
          ∙ ap₂ (λ ws w. ws ++ w ∷ []) old.words_are (c.in_ok-page_row_of.ensures.words ∙ ap (λ (z : PagedHistory). z.sizes.words) c.index-histories-at.is) ∙ sym front;
      each = λ k r there. elim (slice_push_cases rows row k r there) [
        | inl was ↦ old.each k r was.1
        | inr new ↦ subst (IsPageRow c.args.most s j) new.1 (c.in_ok-page_row_of.ensures.row s j (subst (IsPagedOn s j) (sym c.index-histories-at.is) (are at here found)))
      ];
    })

pub returns : goal.returns
returns c = λ s j are.
    let hs = c.args.histories.now in
    let over = c.loop-at-test.false in
    let long = length-map hs (λ (z : PagedHistory). z.sizes.words) in
    subst (λ ws. ArePageRows c.args.most s j ws c.loop-at.rows.items) (take_all c.loop-at.at (paged_words hs) (omega arith)) (c.loop-at.invariant s j are)
