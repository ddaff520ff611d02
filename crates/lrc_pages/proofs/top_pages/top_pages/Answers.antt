use Rattle.std.proofs.Common.{◌≡◌, ◌+◌, ◌<◌, inl, inr, [], ◌∷◌, ◌++◌, Some, length, slice_get, slice_index, take, subst, sym, ap, ap₂, ◌∙◌, add-one, arith}
use Rattle.std.proofs.lemmas.List.{map-append}
use Rattle.std.proofs.lemmas.Option.{slice_get-get_or}
use Rattle.base.proofs.SlicesAndCounts.{slice_push_cases, slice_take-suc_at}
use Rattle.lrc_pages.specs.declared.top_pages.TopPage.{TopPage}
use Rattle.lrc_pages.specs.MostFetched.{top_page_numbers}
use Rattle.lrc_pages.proofs.top_pages.top_pages.Goals as goal

pub loop-at-preserved : goal.loop-at-preserved
loop-at-preserved c =
    let old = c.loop-at.invariant in
    let pages = c.in_ok-pages.pages.items in
    let tops = c.loop-at.tops.items in
    let tallies = c.args.tallies.now in
    let at = c.loop-at.at in
    let t = c.top_page.result in
    let page = c.index.result.now in
    let lt : at < length pages =
    (let test = c.loop-at-test.true in let ok = c.in_ok-pages.pages.ok.0 in let end = c.len-at-end.ensures in omega arith) in
    let found = slice_get-get_or pages at page lt ∙ ap Some (sym c.index.ensures) in
    let front : take (at + 1) pages ≡ take at pages ++ page ∷ [] =
    ap (λ n. take n pages) (add-one at) ∙ slice_take-suc_at pages at page found in
    let items = c.in_ok-push.ensures.items in
    record {
      numbers = ap top_page_numbers items ∙ map-append (λ (x : TopPage). x.page) tops (t ∷ [])
          ∙ ap₂ (λ ns n. ns ++ n ∷ []) old.numbers c.top_page.ensures.page ∙ sym front;
      fetches = λ x has. elim (slice_push_cases tops t has.0 x (subst (λ xs. slice_get xs has.0 ≡ Some x) items has.1)) [
        | inl was ↦ old.fetches x (has.0, was.1)
        | inr new ↦ subst (λ (y : TopPage). y.fetches ≡ slice_index tallies.fetches.items y.page) new.1
            (c.top_page.ensures.fetches ∙ ap (slice_index tallies.fetches.items) (sym c.top_page.ensures.page))
      ];
      words = λ x has. elim (slice_push_cases tops t has.0 x (subst (λ xs. slice_get xs has.0 ≡ Some x) items has.1)) [
        | inl was ↦ old.words x (has.0, was.1)
        | inr new ↦ subst (λ (y : TopPage). y.words ≡ slice_index tallies.words.items y.page) new.1
            (c.top_page.ensures.words ∙ ap (slice_index tallies.words.items) (sym c.top_page.ensures.page))
      ];
    }
