use Rattle.std.proofs.Common.{◌≡◌, ◌+◌, ◌<◌, List, take, slice_index_or, subst, sym, ap, ◌∙◌}
use Rattle.std.specs.Prelude.{Result, Ok, Err, OnOk}
use Rattle.std.proofs.lemmas.Option.{slice_get-get_or}
use Rattle.base.proofs.SlicesAndCounts.{slice_get-from_take}
use Rattle.journal.specs.declared.event.Event.{Event}
use Rattle.journal.specs.declared.event.Kind.TheVariants.{Load}
use Rattle.journal.specs.declared.event_clocks.EventClocks.{EventClocks}
use Rattle.journal.specs.DidEvent.{event}
use Rattle.journal.specs.EventsInRange.{EventProcessorsInRange}
use Rattle.journal.specs.Clocks.{AreClocks}
use Rattle.journal.proofs.Passes.NextClocks.{next_clocks_front}
use Rattle.judge.specs.declared.gaps.Gaps.{Gaps}
use Rattle.judge.specs.FetchGaps.{AreFetchGapsOf, AreFetchGapsLong, TellsFetchGaps}
use Rattle.judge.proofs.gaps.Gaps.note.Goals as goal

-- what two facts of success give, success gives
both : {E P Q R : Type 0} (r : Result (Unit {0}) E) → (P → Q → R) → OnOk r P → OnOk r Q → OnOk r R
both (Ok x) f p q = f p q
both (Err e) f p q = tt

-- with the timestamps, what is kept tells the history
told : (j : List Event) (g : Gaps) (clocks : EventClocks) → EventProcessorsInRange g.sizes.processors j → AreFetchGapsLong g
    → AreFetchGapsOf j g → AreClocks j clocks → clocks.present ≡ g.sizes.processors
    → TellsFetchGaps j (record g { clocks = clocks })
told j g clocks range long kept are present = record {
  clocks = are;
  present = present;
  processors = range;
  long = record {
    sizes = long.sizes;
    fetched = long.fetched;
    fetched_room = long.fetched_room;
    intervals = long.intervals;
  };
  are = record { fetched = kept.fetched; intervals = kept.intervals; few = kept.few };
}

pub returns-clause-tells : goal.returns-clause-tells
returns-clause-tells c =
    let events = c.args.events.now in
    let place = c.args.place in
    let e = slice_index_or events place (event 0 (Load 0 0)) in
    let g = c.keep.new.self in
    let next = next_clocks_front events place e (slice_get-get_or events place (event 0 (Load 0 0)) c.requires.place) in
    let kept : AreFetchGapsOf (take (place + 1) events) g =
    subst (λ xs. AreFetchGapsOf xs g) (sym next) (c.in_ok-keep.ensures.kept (take place events) c.requires.so_far) in
    let same = c.keep.ensures.sizes in
    let range : EventProcessorsInRange g.sizes.processors (take (place + 1) events) =
    λ i f at. subst (λ s. f.processor < s.processors) (sym same)
    (c.requires.within i f (slice_get-from_take events (place + 1) i f at)).processor in
    let was = ap (λ (x : EventClocks). x.present) c.keep.ensures.clocks ∙ c.requires.so_far.present
    ∙ sym (ap (λ s. s.processors) same) in
    both c.note.result
    (λ clocks present. told (take (place + 1) events) g c.note.new.self range c.in_ok-keep.ensures.long kept clocks
    (present ∙ was))
    c.note.ensures.clocks c.note.ensures.present
