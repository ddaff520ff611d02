use Rattle.std.proofs.Common.{subst, sym, arith}
use Rattle.std.specs.Prelude.{IfOk}
use Rattle.std.specs.Global.{Vec}
use Rattle.judge.specs.declared.sizes.Sizes.{Sizes as Given}
use Rattle.judge.specs.Miscounted.{IsEventInSizes}
use Rattle.judge.specs.JudgedSizes.{judged_sizes_of}
use Rattle.causes.specs.declared.written.WrittenWord.{WrittenWord}
use Rattle.causes.specs.EventWrites.{AreAllEventWrites}
use Rattle.causes.specs.FetchedOrigins.{AreOriginsBefore}
use Rattle.causes.proofs.OriginSteps.{origin_steps_start}
use Rattle.causes.proofs.written.written_words.Goals as goal

pub all_written-requires-clause-words : goal.all_written-requires-clause-words
all_written-requires-clause-words c =
    let s = judged_sizes_of c.sizes-sizes.result in
    let words = c.in_ok-words.words in
    subst (AreOriginsBefore s c.events-events.result.now 0) (sym c.deref_mut.ensures.value)
    (origin_steps_start s c.events-events.result.now words.items (omega (arith, words.ok.0, c.in_ok-words.ensures.long))
    c.in_ok-words.ensures.none)

pub all_written-requires-clause-looked : goal.all_written-requires-clause-looked
all_written-requires-clause-looked c = record {
  index = c.in_ok-index_of.ensures;
  stores = c.in_ok-of.ensures.rows;
  processors = λ k e at.
      (let low = (c.events-events.ensures.processors k e at) in
      let few = c.requires in
      omega arith);
  few =
      (let addresses = c.sizes-sizes.ensures.judged.addresses in
      let same = c.in_ok-of.ensures.addresses in
      omega arith);
}

pub all_written-requires-clause-within : goal.all_written-requires-clause-within
all_written-requires-clause-within c = λ k e at.
    subst (λ (x : Given). IsEventInSizes (judged_sizes_of x) e) (sym c.sizes-sizes.ensures.value)
    (c.events-events.ensures.within k e at)

pub returns-clause-written : goal.returns-clause-written
returns-clause-written c =
    let told = c.all_written.result in
    subst
    (λ j. IfOk told (λ (v : Vec (Vec WrittenWord)). AreAllEventWrites (judged_sizes_of c.args.history.now.sizes) j v.items))
    c.events-events.ensures.value
    (subst
    (λ (x : Given). IfOk told (λ (v : Vec (Vec WrittenWord)). AreAllEventWrites (judged_sizes_of x) c.events-events.result.now v.items))
    c.sizes-sizes.ensures.value c.all_written.ensures.written)
