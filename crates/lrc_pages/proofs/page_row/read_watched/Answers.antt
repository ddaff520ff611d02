use Rattle.std.proofs.Common.{◌++◌, take, subst, sym, refl, ◌∙◌, append-nil}
use Rattle.std.proofs.lemmas.List.{take_all}
use Rattle.std.proofs.lemmas.Option.{slice_get-get_or}
use Rattle.journal.specs.declared.event.Kind.TheVariants.{Load}
use Rattle.journal.specs.DidEvent.{event}
use Rattle.lrc_pages.specs.PagedTraces.{ArePagedTraces}
use Rattle.lrc_pages.proofs.ReadEvents.{paged_event_at, paged_events_next, traced_one}
use Rattle.lrc_pages.proofs.page_row.read_watched.Goals as goal

pub read_on_pages-requires : goal.read_on_pages-requires
read_on_pages-requires c =
    let events = c.args.events.now in
    let at = c.loop-at.at in
    let s = c.requires.0 in
    let there = slice_get-get_or events at (event 0 (Load 0 0)) c.loop-at-test.true in (
      s,
      c.requires.1 ++ take at events,
      c.loop-at.invariant.told s c.requires.1 c.requires.2,
      traced_one s (paged_event_at events at) (c.requires.3 at (paged_event_at events at) there),
    )

pub loop-at-init : goal.loop-at-init
loop-at-init c = record {
  words = refl;
  told = λ s j told. subst (λ xs. ArePagedTraces s xs c.args.histories.now) (sym (append-nil j)) told;
}

pub loop-at-preserved : goal.loop-at-preserved
loop-at-preserved c =
    let old = c.loop-at.invariant in
    let events = c.args.events.now in
    let at = c.loop-at.at in
    record {
      words = c.in_ok-read_on_pages.ensures.words ∙ old.words;
      told = λ s j told. subst (λ xs. ArePagedTraces s xs c.read_on_pages.new.histories) (paged_events_next j events at c.loop-at-test.true)
          (c.in_ok-read_on_pages.ensures.told s (j ++ take at events) (old.told s j told));
    }

pub returns-clause-told : goal.returns-clause-told
returns-clause-told c = λ s j told.
    let over = c.loop-at-test.false in
    subst (λ xs. ArePagedTraces s (j ++ xs) c.loop-at.histories) (take_all c.loop-at.at c.args.events.now over) (c.loop-at.invariant.told s j told)
