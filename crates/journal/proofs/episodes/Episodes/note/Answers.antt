use Rattle.std.proofs.Common.{slice_index_or}
use Rattle.std.proofs.lemmas.Option.{slice_get-get_or}
use Rattle.journal.specs.declared.event.Event.{Event}
use Rattle.journal.specs.declared.event.Kind.TheVariants.{Load}
use Rattle.journal.specs.DidEvent.{event}
use Rattle.journal.proofs.FromBase.CutPlaces.{cut_place_ends, cut_place_lasts}
use Rattle.journal.proofs.episodes.Episodes.note.Goals as goal

pub returns-then-completes_episode : goal.returns-then-completes_episode
returns-then-completes_episode c =
    let events = c.args.events.now in
    let e : Event = slice_index_or events c.args.place (event 0 (Load 0 0)) in
    cut_place_ends c.args.processors events c.args.place e
    (slice_get-get_or events c.args.place (event 0 (Load 0 0)) c.requires.place) c.args.self.now
    c.completes_episode.new.arrivals c.completes_episode.ensures.counts c.requires.so_far
    (c.completes_episode.ensures.ends.0 c.if-completes_episode.true)

pub returns-else-completes_episode : goal.returns-else-completes_episode
returns-else-completes_episode c =
    let events = c.args.events.now in
    let e : Event = slice_index_or events c.args.place (event 0 (Load 0 0)) in
    cut_place_lasts c.args.processors events c.args.place e
    (slice_get-get_or events c.args.place (event 0 (Load 0 0)) c.requires.place) c.args.self.now
    c.completes_episode.new.arrivals c.completes_episode.ensures.counts c.requires.so_far
    (λ last. cc (c.completes_episode.ensures.ends.1 last, c.if-completes_episode.false))
