use Rattle.std.proofs.Common.{◌≡◌, ◌≢◌, ◌<◌, inl, inr, ◌++◌, Some, length, slice_get, slice_index_or, slice_set, subst, sym, ap, ◌∙◌, arith}
use Rattle.std.proofs.Math.Seq.{map-set_same}
use Rattle.std.proofs.lemmas.Bool.Decides.{eqb_tells}
use Rattle.std.proofs.lemmas.Option.{slice_get-get_or, slice_get_within}
use Rattle.base.proofs.SliceSets.{slice_get-set_found, slice_get-set_other}
use Rattle.judge.specs.declared.sizes.Sizes.{Sizes}
use Rattle.judge.specs.JudgedSizes.{judged_sizes_of}
use Rattle.lrc_pages.specs.declared.paged_history.PagedHistory.{PagedHistory}
use Rattle.lrc_pages.specs.PagedTraces.{IsPagedOn, paged_sizes}
use Rattle.lrc_pages.proofs.StreamedPages.{paged_readable}
use Rattle.lrc_pages.proofs.page_row.read_on_pages.Goals as goal

pub read_all-requires-clause-told : goal.read_all-requires-clause-told
read_all-requires-clause-told c =
    let x = c.index-histories-at.result in
    let hs = c.loop-at.histories in
    let at = c.loop-at.at in
    let lt : at < length hs = (let test = c.loop-at-test.true in let long = c.loop-at.auto.histories in omega arith) in
    let here = slice_index_or hs at x in
    let found = sym (c.loop-at.invariant.left at (omega arith)) ∙ slice_get-get_or hs at x lt in
    (c.requires.1, (c.requires.2 at here found).told)

pub read_all-requires-clause-within : goal.read_all-requires-clause-within
read_all-requires-clause-within c =
    let x = c.index-histories-at.result in
    let hs = c.loop-at.histories in
    let at = c.loop-at.at in
    let lt : at < length hs = (let test = c.loop-at-test.true in let long = c.loop-at.auto.histories in omega arith) in
    let found = sym (c.loop-at.invariant.left at (omega arith)) ∙ slice_get-get_or hs at x lt in
    paged_readable c.requires.0 c.args.events.now c.requires.1 (slice_index_or hs at x) c.requires.3 (c.requires.2 at (slice_index_or hs at x) found)

pub loop-at-preserved : goal.loop-at-preserved
loop-at-preserved c =
    let x = c.index-histories-at.result in
    let y = c.read_all.new.self in
    let hs = c.loop-at.histories in
    let at = c.loop-at.at in
    let lt : at < length hs = (let test = c.loop-at-test.true in let long = c.loop-at.auto.histories in omega arith) in
    let old = c.loop-at.invariant in
    let here = slice_index_or hs at x in
    let found = sym (old.left at (omega arith)) ∙ slice_get-get_or hs at x lt in
    record {
      left = λ k le. slice_get-set_other hs at k y (λ is. absurd (omega arith)) ∙ old.left k (omega arith);
      words = map-set_same (λ (z : PagedHistory). z.sizes.words) hs at y x (ap (λ (s : Sizes). s.words) c.read_all.ensures.sizes) ∙ old.words;
      told = λ s j are k z lt there. elim (eqb_tells k at) [
        | inl same ↦
            (let is = slice_get-set_found hs at y z (subst (λ m. slice_get (slice_set hs at y) m ≡ Some z) same.1 there) in
            let was = are at here found in
            subst (IsPagedOn s (j ++ c.args.events.now)) is (record {
              sizes = subst (λ (t : Sizes). judged_sizes_of t ≡ paged_sizes s t.words) (sym c.read_all.ensures.sizes) was.sizes;
              told = c.in_ok-read_all.ensures.told j was.told;
            }))
        | inr other ↦
            (let away : k ≢ at = other.1 in
            old.told s j are k z (omega arith) (sym (slice_get-set_other hs at k y away) ∙ there))
      ];
    }

pub returns-clause-told : goal.returns-clause-told
returns-clause-told c = λ s j are k x there.
    let hs = c.loop-at.histories in
    let within = slice_get_within hs k x there in
    let over = c.loop-at-test.false in
    let long = c.loop-at.auto in
    c.loop-at.invariant.told s j are k x (omega arith) there
