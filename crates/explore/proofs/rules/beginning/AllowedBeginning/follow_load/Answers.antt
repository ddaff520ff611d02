use Rattle.std.proofs.Common.{ℕ, ◌≡◌, ◌<◌, ◌↔◌, List, Some, length, slice_get, slice_index_or, take, subst, ◌∙◌, arith}
use Rattle.std.proofs.lemmas.List.{take_all}
use Rattle.std.proofs.lemmas.Option.{slice_get-get_or}
use Rattle.base.specs.InOrderOnce.{Has}
use Rattle.journal.specs.declared.event.Event.{Event}
use Rattle.journal.specs.declared.event.Kind.TheVariants.{Load}
use Rattle.journal.specs.DidEvent.{did}
use Rattle.journal.specs.ExplainedAnswers.{IsAnswer}
use Rattle.judge.specs.declared.kept_stores.KeptStores.{KeptStores}
use Rattle.judge.specs.KeptStores.{AreKeptStoresOf}
use Rattle.lrc_script.specs.Plan.{Plan}
use Rattle.explore.specs.declared.rules.beginning.AllowedBeginning.{AllowedBeginning}
use Rattle.explore.specs.AllowedRuns.{IsAllowedRunBeginning}
use Rattle.explore.specs.AllowedBeginnings.{AllowedBeginningMayGoOn, MayFollowAllowedBeginningCall, allowed_beginning_events}
use Rattle.explore.proofs.AllowedRuns.Lengthened.{AreLengthenedByLoads, lengthened_one, lengthened_start, lengthened_load_event, lengthened_by_loads_all, lengthened_by_loads_next}
use Rattle.explore.proofs.AllowedRuns.NextAllowed.{next_allowed_load}
use Rattle.explore.proofs.rules.beginning.AllowedBeginning.follow_load.Goals as goal

-- by which replies the load may come next
module _ (s : Plan) (b : AllowedBeginning) (sources : KeptStores) (p a : ℕ) (may : MayFollowAllowedBeginningCall s b sources p (Load a 0)) (answers : List ℕ)
    (each : (j : List Event) → AreKeptStoresOf j sources → (x : ℕ) → Has answers x ↔ IsAnswer (did j p (Load a x)) (length j) a x) where
  answer_next : (v : ℕ) → Has answers v ↔ IsAllowedRunBeginning s (did (allowed_beginning_events b) p (Load a v))
  answer_next v =
      let next = next_allowed_load s (allowed_beginning_events b) p a v may.tells.beginning may.may in
      let here = each (allowed_beginning_events b) may.sources_tell v in
      ((λ has. next.1 (here.0 has)), (λ allowed. here.1 (next.0 allowed)))

  -- the word that is read is one of them
  word_next : (words : List ℕ) (n : ℕ) → words ≡ answers → n < length words → AllowedBeginningMayGoOn s b p (Load a (slice_index_or words n 0))
  word_next words n are lt = record {
    lawful = may.lawful;
    tells = may.tells;
    next = (answer_next (slice_index_or words n 0)).0
        (n, subst (λ xs. slice_get xs n ≡ Some (slice_index_or words n 0)) are (slice_get-get_or words n 0 lt));
  }

pub lengthened-requires : goal.lengthened-requires
lengthened-requires c = (
  c.requires.0,
  word_next c.requires.0 c.args.self.now c.args.sources.now c.args.processor c.args.address c.requires.1
      c.in_ok-answers.answers.items c.in_ok-answers.ensures.each c.deref-word-items.result.now c.loop-word.word-index
      c.deref-word-items.ensures.value c.loop-word-test.true,
)

pub loop-word-init : goal.loop-word-init
loop-word-init c = λ s may. lengthened_start s (allowed_beginning_events c.args.self.now) c.args.pending.now.items

pub loop-word-preserved : goal.loop-word-preserved
loop-word-preserved c = λ s may.
    let words = c.deref-word-items.result.now in
    let n = c.loop-word.word-index in
    let p = c.args.processor in
    let a = c.args.address in
    let v = slice_index_or words n 0 in
    let next = word_next s c.args.self.now c.args.sources.now p a may
    c.in_ok-answers.answers.items c.in_ok-answers.ensures.each words n c.deref-word-items.ensures.value c.loop-word-test.true in
    lengthened_by_loads_next s (allowed_beginning_events c.args.self.now) p a words n v c.args.pending.now.items c.loop-word.pending.items c.push.new.self.items
    (slice_get-get_or words n 0 c.loop-word-test.true) (c.loop-word.invariant s may)
    (lengthened_one s (allowed_beginning_events c.args.self.now) (lengthened_load_event p a v) c.in_ok-lengthened.field-0 c.loop-word.pending.items c.push.new.self.items
    c.in_ok-push.ensures.items (c.in_ok-lengthened.ensures.told s next) c.in_ok-lengthened.ensures.events)

pub returns : goal.returns
returns c = λ s may.
    let words = c.deref-word-items.result.now in
    let n = c.loop-word.word-index in
    let p = c.args.processor in
    let a = c.args.address in
    let g = allowed_beginning_events c.args.self.now in
    let over = c.loop-word-test.false in
    let all : take n words ≡ c.in_ok-answers.answers.items = take_all n words (omega arith) ∙ c.deref-word-items.ensures.value in
    lengthened_by_loads_all s g p a c.in_ok-answers.answers.items c.args.pending.now.items c.loop-word.pending.items c.in_ok-answers.ensures.once
    (answer_next s c.args.self.now c.args.sources.now p a may c.in_ok-answers.answers.items
    c.in_ok-answers.ensures.each)
    (subst (λ xs. AreLengthenedByLoads s g p a xs c.args.pending.now.items c.loop-word.pending.items) all (c.loop-word.invariant s may))
