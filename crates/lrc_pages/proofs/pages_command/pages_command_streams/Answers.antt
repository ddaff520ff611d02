use Rattle.std.proofs.Common.{◌≡◌, false, ℕ, [], ◌++◌, List, Option, Some, refl, ◌∙◌, subst, sym}
use Rattle.std.specs.Prelude.{None, IfSome}
use Rattle.std.specs.Global.{Vec}
use Rattle.std.proofs.KnownBytes.{Consumes-nil}
use Rattle.std.proofs.lemmas.Result.{err_from_is_err_and}
use Rattle.lrc_commands.proofs.JudgedSources.{judged_source_consumed_fully, judged_source_consumed_no_more, judged_source_consumed_on, judged_source_full_refused, judged_source_no_front, judged_source_no_trace}
use Rattle.lrc_pages.specs.declared.page_row.PageRow.{PageRow}
use Rattle.lrc_pages.specs.PagesCommand.{ArePagesFound}
use Rattle.lrc_pages.specs.PageStreams.{IsFoundOnPages}
use Rattle.lrc_pages.proofs.pages_command.pages_command_streams.Goals as goal

-- what is found of the bytes is found of the source that had them
found_in : (most : ℕ) (words : List ℕ) (source : Option (List ℕ)) (fed : List ℕ) (rows : List PageRow) → IfSome source (λ xs. xs ≡ fed)
    → IsFoundOnPages most words fed rows → ArePagesFound most words source rows
found_in most words None fed rows same is = tt
found_in most words (Some xs) fed rows same is = subst (λ bytes. IsFoundOnPages most words bytes rows) (sym same) is

pub finish-requires : goal.finish-requires
finish-requires g c = let read = c.loop.invariant.read in (read.0, read.2)

pub returns-in_err-finish-clause-refused : goal.returns-in_err-finish-clause-refused
returns-in_err-finish-clause-refused g c =
    let p = err_from_is_err_and c.from_residual-in_err-finish.result c.from_residual-in_err-finish.ensures.1 in
    let read = c.loop.invariant.read in
    rw p.1 (λ its. judged_source_full_refused false _ read.0
    (judged_source_consumed_fully _ _ read.0
    (judged_source_consumed_no_more _ _ _ read.0 _ _ c.if-count-eq0.true read.1 c.in_ok-count.ensures.bytes)
    (c.in_ok-count.ensures.end c.if-count-eq0.true))
    (c.in_err-finish.ensures.refused (p.2 its) read.0 read.2))

pub returns-then-count-eq0-clause-found : goal.returns-then-count-eq0-clause-found
returns-then-count-eq0-clause-found g c =
    let read = c.loop.invariant.read in
    let fully = judged_source_consumed_fully _ _ read.0
    (judged_source_consumed_no_more _ _ _ read.0 _ _ c.if-count-eq0.true read.1 c.in_ok-count.ensures.bytes)
    (c.in_ok-count.ensures.end c.if-count-eq0.true) in
    let source = g.S.Read.remaining c.args.source.now in
    let rows = c.in_ok-finish.field-0 in
    subst (λ (m : ℕ). ArePagesFound m c.args.stream.now.words.items source rows.items) c.loop.invariant.most
    (subst (λ (v : Vec ℕ). ArePagesFound c.loop.stream.most v.items source rows.items) c.loop.invariant.words
    (found_in c.loop.stream.most c.loop.stream.words.items source read.0 rows.items fully (c.in_ok-finish.ensures.found read.0 read.2)))

pub feed-requires : goal.feed-requires
feed-requires g c = let read = c.loop.invariant.read in (read.0, read.2)

pub returns-in_err-feed-clause-refused : goal.returns-in_err-feed-clause-refused
returns-in_err-feed-clause-refused g c =
    let p = err_from_is_err_and c.from_residual-in_err-feed.result c.from_residual-in_err-feed.ensures.1 in
    let read = c.loop.invariant.read in
    rw p.1 (λ its. judged_source_no_trace false _ (judged_source_no_front _ _ _ (judged_source_consumed_on _ _ _ read.0 _ read.1 c.in_ok-count.ensures.bytes)
    (c.in_err-feed.ensures.refused (p.2 its) read.0 read.2)))

pub loop-init : goal.loop-init
loop-init g c = record { read = ([], Consumes-nil _, c.requires.stream); words = refl; most = refl }

pub loop-preserved : goal.loop-preserved
loop-preserved g c =
    let read = c.loop.invariant.read in
    record {
      read = (
        read.0 ++ _,
        judged_source_consumed_on _ _ _ read.0 _ read.1 c.in_ok-count.ensures.bytes,
        c.in_ok-feed.ensures.stream read.0 read.2,
      );
      words = c.feed.ensures.words ∙ c.loop.invariant.words;
      most = c.feed.ensures.most ∙ c.loop.invariant.most;
    }
