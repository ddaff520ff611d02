use Rattle.std.proofs.Common.{slice_index_or, arith}
use Rattle.std.proofs.lemmas.Option.{slice_get-get_or}
use Rattle.std.proofs.lemmas.Grind.{elements}
use Rattle.journal.specs.declared.event.Kind.TheVariants.{Load}
use Rattle.journal.specs.DidEvent.{event}
use Rattle.judge.specs.JudgedSizes.{judged_sizes_of}
use Rattle.causes.proofs.WrittenWords.{written_words_all}
use Rattle.causes.proofs.written.written_at.Goals as goal

pub returns : goal.returns
returns c =
    let events = c.args.events.now in
    let place = c.args.place in
    let e = slice_index_or events place (event 0 (Load 0 0)) in
    let at = slice_get-get_or events place (event 0 (Load 0 0)) c.requires.place in
    let s = judged_sizes_of c.args.sizes in
    written_words_all s events place e c.written_range-range.result c.in_ok-written.written.items at
    (c.written_range-range.ensures.all events place c.requires.within at)
    (c.in_ok-written.ensures s events c.requires.words)

pub written_range-range-requires-clause-within : goal.written_range-range-requires-clause-within
written_range-range-requires-clause-within c = grind (arith, elements)

pub written_among-requires-clause-reader : goal.written_among-requires-clause-reader
written_among-requires-clause-reader c = grind (arith, elements)
