use Rattle.std.proofs.Common.{[], ◌∷◌, ◌++◌, List, length, subst, sym, ◌∙◌, arith}
use Rattle.std.proofs.Math.Seq.{take-append_seam}
use Rattle.journal.specs.declared.event.Event.{Event}
use Rattle.journal.specs.EventsInRange.{EventAddressInRange}
use Rattle.journal.proofs.Order.EventPlacesAndCounts.{event_place_at_end}
use Rattle.judge.specs.LaxWellFormed.{LaxMayFollow, MayFollowOrLax}
use Rattle.judge.specs.Miscounted.{IsEventInSizes}
use Rattle.judge.specs.JudgedSizes.{judged_sizes_of}
use Rattle.judge.proofs.HistoryRanges.{history_range_address}
use Rattle.judge.proofs.WellFormedFronts.{well_formed_front_lax_event}
use Rattle.lrc_check.specs.declared.trace_judge.TraceJudge.{TraceJudge}
use Rattle.lrc_check.specs.Faithful.{IsFaithfulAndCounted}
use Rattle.lrc_check.specs.TraceJudge.{TraceJudgeHasCounts, IsTraceJudgeOf}
use Rattle.lrc_check.proofs.Accepting.{accepted_each_event}
use Rattle.lrc_check.proofs.LyingTraces.{lying_may_within}
use Rattle.lrc_check.proofs.trace_judge.TraceJudge.keep.Goals as goal

-- the last event may follow
may_follow : (x : TraceJudge) (j : List Event) (e : Event) → IsFaithfulAndCounted x.model x.lax (judged_sizes_of x.sizes) (j ++ e ∷ [])
    → MayFollowOrLax x.lax (judged_sizes_of x.sizes) j e
may_follow x j e accepted =
    subst (λ xs. MayFollowOrLax x.lax (judged_sizes_of x.sizes) xs e) (take-append_seam j (e ∷ []))
    (accepted_each_event x.lax (judged_sizes_of x.sizes) (j ++ e ∷ []) accepted.well_formed (length j) e (event_place_at_end j e))

-- also in the lax sense
follows : (x : TraceJudge) (j : List Event) (e : Event) → IsTraceJudgeOf j x
    → IsFaithfulAndCounted x.model x.lax (judged_sizes_of x.sizes) (j ++ e ∷ []) → LaxMayFollow (judged_sizes_of x.front.sizes) j e
follows x j e judged accepted =
    subst (λ s. LaxMayFollow (judged_sizes_of s) j e) (sym judged.front_sizes)
    (well_formed_front_lax_event x.lax (judged_sizes_of x.sizes) j e (may_follow x j e accepted))

-- it is within the sizes
within : (x : TraceJudge) (j : List Event) (e : Event) → IsFaithfulAndCounted x.model x.lax (judged_sizes_of x.sizes) (j ++ e ∷ [])
    → IsEventInSizes (judged_sizes_of x.sizes) e
within x j e accepted = lying_may_within x.lax (judged_sizes_of x.sizes) j e (may_follow x j e accepted)

pub note-requires-clause-may_follow : goal.note-requires-clause-may_follow
note-requires-clause-may_follow c =
    let j = c.requires.0 in
    let next = c.requires.1 in
    (j, next.judged.front, follows c.args.self.now j c.args.event next.judged next.accepted)

pub note-requires-2-clause-processor : goal.note-requires-2-clause-processor
note-requires-2-clause-processor c =
    let j = c.requires.0 in
    let next = c.requires.1 in
    let x = c.args.self.now in
    let judged = next.judged in
    let is = within x j c.args.event next.accepted in
    let lt = is.processor in
    let same = judged.processors in
    omega arith

pub note-requires-2-clause-address : goal.note-requires-2-clause-address
note-requires-2-clause-address c =
    let j = c.requires.0 in
    let next = c.requires.1 in
    let x = c.args.self.now in
    let judged = next.judged in
    let is = within x j c.args.event next.accepted in
    subst (λ n. EventAddressInRange n c.args.event.kind) (sym judged.addresses)
    (history_range_address (judged_sizes_of x.sizes) c.args.event.kind is.kind)

pub note-requires-3 : goal.note-requires-3
note-requires-3 c =
    let j = c.requires.0 in
    let next = c.requires.1 in
    let x = c.args.self.now in
    let judged = next.judged in
    record {
      few = next.few;
      so_far = (x.model, judged_sizes_of x.sizes, j, judged.owed, next.place_is, within x j c.args.event next.accepted);
    }

-- what fetches have to count was told the events before
pub note-requires-in-Some-clause-so_far : goal.note-requires-in-Some-clause-so_far
note-requires-in-Some-clause-so_far c =
    let x = c.args.self.now in
    let counts = subst (TraceJudgeHasCounts x.model x.lax x.sizes c.requires.0) c.in-Some.is c.requires.1.judged.counts in
    (c.requires.0, counts.3)

pub note-requires-in-Some-clause-few : goal.note-requires-in-Some-clause-few
note-requires-in-Some-clause-few c =
    let x = c.args.self.now in
    let next = c.requires.1 in
    let counts = subst (TraceJudgeHasCounts x.model x.lax x.sizes c.requires.0) c.in-Some.is next.judged.counts in
    let place = counts.3.cuts.place in
    let few = next.few in
    let is = next.place_is in
    omega arith

pub note-requires-in-Some-clause-within : goal.note-requires-in-Some-clause-within
note-requires-in-Some-clause-within c =
    let x = c.args.self.now in
    let counts = subst (TraceJudgeHasCounts x.model x.lax x.sizes c.requires.0) c.in-Some.is c.requires.1.judged.counts in
    subst (λ s. IsEventInSizes (judged_sizes_of s) c.args.event) (sym counts.2)
    (within x c.requires.0 c.args.event c.requires.1.accepted)

pub returns-in_ok-note-3-clause-judged : goal.returns-in_ok-note-3-clause-judged
returns-in_ok-note-3-clause-judged c = λ j next.
    let x = c.args.self.now in
    let e = c.args.event in
    let judged = next.judged in
    let accepted = next.accepted in
    let counts = subst (TraceJudgeHasCounts x.model x.lax x.sizes j) c.in-Some.is judged.counts in
    record {
      faithful = accepted;
      race = next.race_is;
      front = c.note.ensures.tells j judged.front (follows x j e judged accepted);
      front_sizes = c.note.ensures.sizes ∙ judged.front_sizes;
      races = c.in_ok-note.ensures.tells j judged.races;
      processors = c.note-2.ensures.processors ∙ judged.processors;
      addresses = c.note-2.ensures.addresses ∙ judged.addresses;
      owed = c.in_ok-note-2.ensures x.model (judged_sizes_of x.sizes) j judged.owed next.place_is
          (within x j e accepted);
      counts = (counts.0, counts.1, c.note-in-Some.ensures.sizes ∙ counts.2, c.in_ok-note-3.ensures.tells j counts.3);
      racing = c.in_ok-note_trace_race.ensures.racing j next.place_is (c.nearest_to-nearest.ensures j next) judged.racing;
    }

pub returns-in_default-clause-judged : goal.returns-in_default-clause-judged
returns-in_default-clause-judged c = λ j next.
    let x = c.args.self.now in
    let e = c.args.event in
    let judged = next.judged in
    let accepted = next.accepted in
    let none = subst (TraceJudgeHasCounts x.model x.lax x.sizes j) c.in_default.is judged.counts in
    record {
      faithful = accepted;
      race = next.race_is;
      front = c.note.ensures.tells j judged.front (follows x j e judged accepted);
      front_sizes = c.note.ensures.sizes ∙ judged.front_sizes;
      races = c.in_ok-note.ensures.tells j judged.races;
      processors = c.note-2.ensures.processors ∙ judged.processors;
      addresses = c.note-2.ensures.addresses ∙ judged.addresses;
      owed = c.in_ok-note-2.ensures x.model (judged_sizes_of x.sizes) j judged.owed next.place_is
          (within x j e accepted);
      counts = subst (TraceJudgeHasCounts x.model x.lax x.sizes (j ++ e ∷ [])) (sym c.in_default.is) none;
      racing = c.in_ok-note_trace_race.ensures.racing j next.place_is (c.nearest_to-nearest.ensures j next) judged.racing;
    }
