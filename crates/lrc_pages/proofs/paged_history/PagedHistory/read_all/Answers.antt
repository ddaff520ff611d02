use Rattle.std.proofs.Common.{◌++◌, take, subst, sym, refl, ◌∙◌, append-nil}
use Rattle.std.proofs.lemmas.List.{take_all}
use Rattle.std.proofs.lemmas.Option.{slice_get-get_or}
use Rattle.journal.specs.declared.event.Kind.TheVariants.{Load}
use Rattle.journal.specs.DidEvent.{event}
use Rattle.judge.specs.declared.sizes.Sizes.{Sizes}
use Rattle.judge.specs.JudgedSizes.{judged_sizes_of}
use Rattle.lrc_pages.specs.PagedHistory.{IsPagedTraceOf, IsReadInSizes}
use Rattle.lrc_pages.proofs.ReadEvents.{paged_event_at, paged_events_next}
use Rattle.lrc_pages.proofs.paged_history.PagedHistory.read_all.Goals as goal

pub read-requires-clause-told : goal.read-requires-clause-told
read-requires-clause-told c =
    let told = c.requires.told in (told.0 ++ take c.loop-at.at c.args.events.now, c.loop-at.invariant.told told.0 told.1)

pub read-requires-clause-within : goal.read-requires-clause-within
read-requires-clause-within c =
    let events = c.args.events.now in
    let at = c.loop-at.at in
    subst (λ (s : Sizes). IsReadInSizes (judged_sizes_of s) (paged_event_at events at)) (sym c.loop-at.invariant.sizes)
    (c.requires.within at (paged_event_at events at) (slice_get-get_or events at (event 0 (Load 0 0)) c.loop-at-test.true))

pub loop-at-init : goal.loop-at-init
loop-at-init c = record {
  sizes = refl;
  told = λ j told. subst (λ xs. IsPagedTraceOf xs c.args.self.now) (sym (append-nil j)) told;
}

pub loop-at-preserved : goal.loop-at-preserved
loop-at-preserved c =
    let old = c.loop-at.invariant in
    let events = c.args.events.now in
    let at = c.loop-at.at in
    record {
      sizes = c.read.ensures.sizes ∙ old.sizes;
      told = λ j told. subst (λ xs. IsPagedTraceOf xs c.read.new.self) (paged_events_next j events at c.loop-at-test.true)
          (c.in_ok-read.ensures.told (j ++ take at events) (old.told j told));
    }

pub returns-clause-told : goal.returns-clause-told
returns-clause-told c = λ j told.
    let over = c.loop-at-test.false in
    subst (λ xs. IsPagedTraceOf (j ++ xs) c.loop-at.self) (take_all c.loop-at.at c.args.events.now over) (c.loop-at.invariant.told j told)
