use Rattle.std.proofs.Common.{◌≡◌, ◌+◌, inl, inr, [], ◌∷◌, ◌++◌, Some, slice_get, slice_index_or, take, subst, sym, ap, ap₂, ◌∙◌, add-one}
use Rattle.std.proofs.lemmas.List.{map-append}
use Rattle.std.proofs.lemmas.Option.{slice_get-get_or}
use Rattle.base.proofs.SlicesAndCounts.{slice_push_cases, slice_take-suc_at}
use Rattle.judge.specs.JudgedSizes.{judged_sizes_of}
use Rattle.lrc_pages.specs.declared.paged_history.PagedHistory.{PagedHistory}
use Rattle.lrc_pages.specs.PagedTraces.{IsPagedOn, paged_words}
use Rattle.lrc_pages.proofs.page_stream.begun_on_pages.Goals as goal

pub loop-at-preserved : goal.loop-at-preserved
loop-at-preserved c =
    let at = c.loop-at.at in
    let words = c.args.words.now in
    let hs = c.loop-at.histories.items in
    let h = c.in_ok-history.history in
    let w = slice_index_or words at 0 in
    let more = c.in_ok-push_history.ensures in
    let front : take (at + 1) words ≡ take at words ++ w ∷ [] =
    ap (λ n. take n words) (add-one at) ∙ slice_take-suc_at words at w (slice_get-get_or words at 0 c.loop-at-test.true) in
    record {
      words = ap paged_words more ∙ map-append (λ (z : PagedHistory). z.sizes.words) hs (h ∷ [])
          ∙ ap₂ (λ ws n. ws ++ n ∷ []) c.loop-at.invariant.words c.in_ok-history.ensures.words ∙ sym front;
      told = λ k x there. elim (slice_push_cases hs h k x (subst (λ xs. slice_get xs k ≡ Some x) more there)) [
        | inl was ↦ c.loop-at.invariant.told k x was.1
        | inr new ↦ subst (IsPagedOn (judged_sizes_of c.args.sizes) []) new.1 c.in_ok-history.ensures.told
      ];
    }
