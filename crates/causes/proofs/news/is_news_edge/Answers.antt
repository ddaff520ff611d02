use Rattle.std.proofs.Common.{ℕ, List, slice_index_or, arith}
use Rattle.std.proofs.lemmas.Option.{slice_get-get_or}
use Rattle.journal.specs.declared.event.Event.{Event}
use Rattle.journal.specs.declared.event.Kind.TheVariants.{Load}
use Rattle.journal.specs.DidEvent.{event}
use Rattle.causes.specs.declared.index.Turn.{Turn}
use Rattle.causes.proofs.FreshNews.{fresh_news_leads_by_turns}
use Rattle.causes.proofs.LookedUpIndex.{HasLookedUpTurn}
use Rattle.causes.proofs.news.is_news_edge.Goals as goal

abbrev zero : Turn
zero = record { arrived = 0; departed = 0 }

abbrev here : List Event → ℕ → Event
here events place = slice_index_or events place (event 0 (Load 0 0))

pub returns-then-from-to : goal.returns-then-from-to
returns-then-from-to c =
    let events = c.args.events.now in
    let turns = c.args.turns.now in
    let i = c.args.from in
    let k = c.args.to in
    let first = c.requires.from in
    let last = c.requires.to in
    let long = c.requires.turns.long in
    let at = slice_get-get_or events i (event 0 (Load 0 0)) first in
    let to = slice_get-get_or events k (event 0 (Load 0 0)) last in
    let s = slice_index_or turns i zero in
    let t = slice_index_or turns k zero in
    let one : HasLookedUpTurn events i (here events i) s = record {
      at = at;
      turn = c.requires.turns.each i (here events i) s at (slice_get-get_or turns i zero (omega arith));
    } in
    let two : HasLookedUpTurn events k (here events k) t = record {
      at = to;
      turn = c.requires.turns.each k (here events k) t to (slice_get-get_or turns k zero (omega arith));
    } in
    fresh_news_leads_by_turns c.edge_lets_on.result one two c.if-from-to.true c.if-start-end.false c.edge_lets_on.ensures
