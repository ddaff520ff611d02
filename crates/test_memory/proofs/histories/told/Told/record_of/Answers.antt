use Rattle.std.proofs.Common.{◌≡◌, ◌<◌, ◌∙◌, sym, subst, take, List, arith}
use Rattle.std.proofs.lemmas.Option.{slice_get-get_or}
use Rattle.std.proofs.lemmas.List.{take_all}
use Rattle.journal.specs.declared.event.Event.{Event}
use Rattle.test_memory.proofs.histories.Opened.{IsStoredIn, stored_long, stored_next, stored_record}
use Rattle.test_memory.proofs.histories.told.Told.record_of.Goals as goal

pub store_in-requires-clause-long : goal.store_in-requires-clause-long
store_in-requires-clause-long c =
    stored_long c.args.self.now.sizes c.args.page _ c.loop-event.copy c.loop-event.invariant.stored
    ∙ sym c.words-words.ensures.value

pub loop-event-preserved : goal.loop-event-preserved
loop-event-preserved c =
    let same = sym c.words-words.ensures.value in
    record {
      stored = stored_next c.args.self.now.sizes c.args.page c.args.events.now c.loop-event.event-index _
          c.loop-event.copy c.store_in.new.copy
          (slice_get-get_or c.args.events.now c.loop-event.event-index _ c.loop-event-test.true)
          c.loop-event.invariant.stored
          (c.store_in.ensures.words c.args.self.now.sizes same) (c.store_in.ensures.dirty c.args.self.now.sizes same);
      valid = c.store_in.ensures.access ∙ c.loop-event.invariant.valid;
    }

pub returns : goal.returns
returns c = λ h p is.
    let all : take c.loop-event.event-index c.args.events.now ≡ c.args.events.now =
    take_all c.loop-event.event-index c.args.events.now c.loop-event-test.false in
    let stored = subst (λ (es : List Event). IsStoredIn c.args.self.now.sizes c.args.page es c.loop-event.copy)
    all c.loop-event.invariant.stored in
    let some : 0 < c.args.self.now.sizes.words =
    (let same = c.words-words.ensures.value in let lt = c.words-words.ensures.some in omega arith) in
    stored_record c.args.self.now.sizes h p c.args.page c.args.events.now c.loop-event.copy
    c.harvest.result some is stored c.harvest.ensures.clean c.harvest.ensures.none c.harvest.ensures.dirty_words
