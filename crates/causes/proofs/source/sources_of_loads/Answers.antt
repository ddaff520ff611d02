use Rattle.std.proofs.Common.{◌≡◌, ℕ, List, Option, ap, length, slice_index_or, subst, sym, refl, ◌∙◌, arith}
use Rattle.std.specs.Prelude.{None}
use Rattle.std.proofs.lemmas.Option.{same_Some, slice_get-get_or, slice_get_read}
use Rattle.journal.specs.declared.event.Event.{Event}
use Rattle.journal.specs.declared.event.Kind.TheVariants.{Load}
use Rattle.journal.specs.DidEvent.{event}
use Rattle.judge.specs.Sources.Latest.{AreLatestRows, IsLatestRow}
use Rattle.causes.specs.declared.origin.WordOrigin.{WordOrigin}
use Rattle.causes.specs.declared.source.Source.{Source}
use Rattle.causes.specs.Origins.{AreOriginsNamed, IsOriginNamedAt}
use Rattle.causes.specs.Source.{AreSources, IsSourceAt}
use Rattle.causes.proofs.CauseSources.{cause_source_named_next}
use Rattle.causes.proofs.Rows.{rows_next}
use Rattle.causes.proofs.source.sources_of_loads.Goals as goal

pub source_at-source-requires : goal.source_at-source-requires
source_at-source-requires c =
    let events = c.events-events.result.now in
    let place = c.loop-place.place in
    let at = slice_get-get_or events place (event 0 (Load 0 0)) c.loop-place-test.true in
    let rows = c.args.latest.now in
    let lt = c.loop-place-test.true in
    let long = c.requires.latest_long ∙ ap (λ (j : List Event). length j) (sym c.events-events.ensures.value) in
    let read = c.index-latest-place.result in
    let there = slice_get_read rows (length rows) place read refl (omega arith) c.index-latest-place.is in
    let row : IsLatestRow events place c.deref.result.now =
    subst (IsLatestRow events place) (sym c.deref.ensures.value) (subst (λ j. AreLatestRows j rows) (sym c.events-events.ensures.value) c.requires.latest place read there) in
    record { row = (place, at, row) }

pub loop-place-preserved : goal.loop-place-preserved
loop-place-preserved c =
    let events = c.events-events.result.now in
    let place = c.loop-place.place in
    let old = c.loop-place.invariant in
    let at = slice_get-get_or events place (event 0 (Load 0 0)) c.loop-place-test.true in
    let rows = c.args.latest.now in
    let lt = c.loop-place-test.true in
    let latest_long = c.requires.latest_long ∙ ap (λ (j : List Event). length j) (sym c.events-events.ensures.value) in
    let origins_long = c.requires.origins_long ∙ ap (λ (j : List Event). length j) (sym c.events-events.ensures.value) in
    let read = c.index-latest-place.result in
    let there = slice_get_read rows (length rows) place read refl (omega arith) c.index-latest-place.is in
    let row : IsLatestRow events place c.deref.result.now =
    subst (IsLatestRow events place) (sym c.deref.ensures.value) (subst (λ j. AreLatestRows j rows) (sym c.events-events.ensures.value) c.requires.latest place read there) in
    let sources = c.loop-place.sources in
    let long : length sources.items ≡ place = omega (arith, sources.ok.0, old.long) in
    let origin : Option WordOrigin = slice_index_or c.args.origins.now place None in
    record {
      long = (let len = c.in_ok-push.ensures.len in let was = old.long in omega arith);
      sources =
          subst (AreSources events) (sym c.in_ok-push.ensures.items)
          (rows_next (λ (k : ℕ) (o : Option Source). IsSourceAt events k o) sources.items place c.source_at-source.result long
          old.sources (c.source_at-source.ensures.source place at row));
      named =
          subst (AreOriginsNamed events c.args.origins.now) (sym c.in_ok-push.ensures.items)
          (cause_source_named_next events c.args.origins.now sources.items place c.source_at-source.result long old.named
          (λ x to.
          (let same : origin ≡ x =
          same_Some origin x (sym (slice_get-get_or c.args.origins.now place None (omega arith)) ∙ to) in
          subst (λ y. IsOriginNamedAt events place y c.source_at-source.result) same
          (c.source_at-source.ensures.origin place at row))));
    }

pub returns-clause-sources : goal.returns-clause-sources
returns-clause-sources c = subst (λ j. AreSources j c.loop-place.sources.items) c.events-events.ensures.value c.loop-place.invariant.sources

pub returns-clause-origins : goal.returns-clause-origins
returns-clause-origins c =
    subst (λ j. AreOriginsNamed j c.args.origins.now c.loop-place.sources.items) c.events-events.ensures.value c.loop-place.invariant.named
