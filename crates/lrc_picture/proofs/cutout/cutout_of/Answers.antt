use Rattle.std.proofs.Common.{ℕ, ◌<◌, List, length, subst, sym, arith}
use Rattle.std.specs.Prelude.{All, vec_len}
use Rattle.base.specs.InOrderOnce.{Has}
use Rattle.journal.specs.declared.event.Event.{Event}
use Rattle.lrc_picture.specs.Arrows.{AreArrowPlaces}
use Rattle.lrc_picture.specs.Cutout.{AreCutoutEvents, AreCutoutRowsOf, IsCutoutPlace}
use Rattle.lrc_picture.proofs.DrawnCutouts.{drawn_cutout_has_layout, drawn_cutout_has_lane, drawn_cutout_those_within}
use Rattle.lrc_picture.proofs.cutout.cutout_of.Goals as goal

pub cutout_events_of-requires-clause-places : goal.cutout_events_of-requires-clause-places
cutout_events_of-requires-clause-places c =
    let events = c.args.story.now.events.now in
    subst (All (λ k. k < length events)) (sym c.deref-2.ensures.value)
    (drawn_cutout_those_within (IsCutoutPlace c.args.part.now events) (length events) c.in_ok-places.places.items
    c.in_ok-places.ensures.places)

pub cutout_events_of-requires-clause-lanes : goal.cutout_events_of-requires-clause-lanes
cutout_events_of-requires-clause-lanes c = λ k e has at.
    (let story = c.args.story.now in
    let places = c.in_ok-places.places.items in
    subst (λ (xs : List ℕ). Has xs e.processor) (sym c.deref.ensures.value)
    (drawn_cutout_has_lane story.events.now
    c.requires.processors c.in_ok-lanes.ensures.lanes c.in_ok-places.ensures.places
    (subst (λ (xs : List ℕ). Has xs k) c.deref-2.ensures.value has) at))

pub cutout_rows_of-requires : goal.cutout_rows_of-requires
cutout_rows_of-requires c =
    let events = c.args.story.now.events.now in
    subst (All (λ k. k < length events)) (sym c.deref-3.ensures.value)
    (drawn_cutout_those_within (IsCutoutPlace c.args.part.now events) (length events) c.in_ok-places.places.items
    c.in_ok-places.ensures.places)

pub cutout_incoming_of-requires : goal.cutout_incoming_of-requires
cutout_incoming_of-requires c =
    let events = c.args.story.now.events.now in
    subst (All (λ k. k < length c.args.story.now.incoming.now)) (sym c.deref-5.ensures.value)
    (subst (λ n. All (λ k. k < n) c.in_ok-places.places.items) (sym c.requires.places.long)
    (drawn_cutout_those_within (IsCutoutPlace c.args.part.now events) (length events) c.in_ok-places.places.items
    c.in_ok-places.ensures.places))

pub returns : goal.returns
returns c =
    let story = c.args.story.now in
    let j : List Event = story.events.now in
    let lanes = c.in_ok-lanes.lanes in
    let places = c.in_ok-places.places in
    let events = c.in_ok-events.events in
    let drawn : AreCutoutEvents lanes.items j places.items events.items =
    subst (λ (xs : List ℕ). AreCutoutEvents xs j places.items events.items) c.deref.ensures.value
    (subst (λ (xs : List ℕ). AreCutoutEvents c.deref.result.now j xs events.items) c.deref-2.ensures.value c.in_ok-events.ensures) in
    let rows = subst (λ (xs : List ℕ). AreArrowPlaces (length xs) c.in_ok-incoming.incoming.items) c.deref-5.ensures.value
    c.in_ok-incoming.ensures in
    record {
      lanes = c.in_ok-lanes.ensures.lanes;
      places = c.in_ok-places.ensures.places;
      events = drawn;
      rows = subst (λ (xs : List ℕ). AreCutoutRowsOf (length j) xs c.in_ok-rows.rows.items) c.deref-3.ensures.value c.in_ok-rows.ensures;
      within =
          drawn_cutout_has_layout story.processors (vec_len lanes) (omega (arith, lanes.ok.0)) c.in_ok-lanes.ensures.few c.requires.few_processors
          (let short = c.in_ok-places.ensures.few in omega (arith, places.ok.0)) c.requires.few drawn rows;
      episodes = subst (λ n. All (λ r. r < n) c.in_ok-episodes.episodes.items) c.len-count.ensures c.in_ok-episodes.ensures;
    }
