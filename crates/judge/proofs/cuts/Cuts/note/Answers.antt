use Rattle.std.proofs.Common.{◌≡◌, ℕ, ◌+◌, ◌<◌, inl, inr, false, [], ◌∷◌, ◌++◌, List, subst, sym, refl, ap, ◌∙◌}
use Rattle.std.proofs.lemmas.Result.{on_ok_weaker}
use Rattle.journal.specs.declared.event.Event.{Event}
use Rattle.journal.specs.declared.event.Kind.{Kind}
use Rattle.journal.specs.declared.event.Kind.TheVariants.{Acquire, Release, Arrive, Depart, Set, Await}
use Rattle.journal.specs.DidEvent.{event}
use Rattle.journal.specs.Events.{event_takes, event_departs}
use Rattle.judge.specs.declared.cut_rows.CutRows.{CutRows}
use Rattle.judge.specs.declared.cuts.Cuts.{Cuts}
use Rattle.judge.specs.Cuts.{AreCuts, AreCutsLong, CutsAfterArrival}
use Rattle.judge.proofs.cut_rows.RowsOfCuts.{rows_joined_equal}
use Rattle.judge.proofs.cuts.NextCuts.{StepsToNextCuts, NextCutsLetGo, next_cut_hands_on, next_cuts_plain, next_cuts_acquired, next_cuts_awaited, next_cuts_released, next_cuts_set, next_cuts_arrived, next_cuts_departed, next_cuts_let_go}
use Rattle.judge.proofs.cuts.Cuts.note.Goals as goal

-- the event's processor is present, and these have as many cuts
steps : (j : List Event) (c d : Cuts) (p : ℕ) → AreCuts j c → p < c.present
    → AreCutsLong d → d.present ≡ c.present → d.gone ≡ c.gone → d.place ≡ c.place + 1
    → StepsToNextCuts j c d p
steps j c d p a lt long present gone place = record {
  so_far = a;
  processor = lt;
  long = long;
  present = present;
  gone = gone;
  place = place;
}

-- the cuts after the event are those of the history with it
next : (j : List Event) (e : Event) (k : Kind) (d : Cuts) → e.kind ≡ k → AreCuts (j ++ event e.processor k ∷ []) d
    → AreCuts (j ++ e ∷ []) d
next j e k d is a = subst (λ x. AreCuts (j ++ event e.processor x ∷ []) d) (sym is) a

-- other rows, as many and as long, are as long as they are to be
took : (c : Cuts) (rows : CutRows) → rows.width ≡ c.processors.width → rows.count ≡ c.processors.count → AreCutsLong c
    → AreCutsLong (record c { processors = rows; place = c.place + 1 })
took c rows width count long = record {
  width = width ∙ long.width;
  count = count ∙ long.count;
  locks = long.locks;
  flags = long.flags;
  episodes = long.episodes;
  arrivals = long.arrivals;
  departures = long.departures;
  few = long.few;
}

pub returns-in-Acquire-clause-cuts : goal.returns-in-Acquire-clause-cuts
returns-in-Acquire-clause-cuts c = λ j a range.
    let self = c.args.self.now in
    let e = c.args.event in
    let call = c.join in
    let d : Cuts = record self { processors = call.new.self; place = self.place + 1 } in
    let long = took self call.new.self call.ensures.width call.ensures.count a.long in
    let s = steps j self d e.processor a c.requires.processor long refl refl refl in
    next j e (Acquire c.in-Acquire.lock) d c.in-Acquire.is
    (next_cuts_acquired c.in-Acquire.lock s refl (rows_joined_equal c.cut.ensures.entries call.ensures.joined))

pub returns-in-Await-clause-cuts : goal.returns-in-Await-clause-cuts
returns-in-Await-clause-cuts c = λ j a range.
    let self = c.args.self.now in
    let e = c.args.event in
    let call = c.join-in-Await in
    let d : Cuts = record self { processors = call.new.self; place = self.place + 1 } in
    let long = took self call.new.self call.ensures.width call.ensures.count a.long in
    let s = steps j self d e.processor a c.requires.processor long refl refl refl in
    next j e (Await c.in-Await.flag) d c.in-Await.is
    (next_cuts_awaited c.in-Await.flag s refl (rows_joined_equal c.cut-in-Await.ensures.entries call.ensures.joined))

pub returns-in-Release-clause-cuts : goal.returns-in-Release-clause-cuts
returns-in-Release-clause-cuts c =
    on_ok_weaker c.release.result
    (λ joined j a range.
    let self = c.args.self.now in
    let e = c.args.event in
    let d = c.release.new.self in
    let after = c.release.ensures in
    let s = steps j self d e.processor a c.requires.processor after.long (ap (λ x. x.present) after.rest)
    (ap (λ x. x.gone) after.rest) (ap (λ x. x.place) after.rest) in
    next j e (Release c.in-Release.lock) d c.in-Release.is
    (next_cuts_released c.in-Release.lock s after.rest after.marked joined))
    c.release.ensures.joined

pub returns-in-Set-clause-cuts : goal.returns-in-Set-clause-cuts
returns-in-Set-clause-cuts c =
    on_ok_weaker c.set_flag.result
    (λ joined j a range.
    let self = c.args.self.now in
    let e = c.args.event in
    let d = c.set_flag.new.self in
    let after = c.set_flag.ensures in
    let s = steps j self d e.processor a c.requires.processor after.long (ap (λ x. x.present) after.rest)
    (ap (λ x. x.gone) after.rest) (ap (λ x. x.place) after.rest) in
    next j e (Set c.in-Set.flag) d c.in-Set.is
    (next_cuts_set c.in-Set.flag s after.rest after.marked joined))
    c.set_flag.ensures.joined

pub returns-in-Arrive-clause-cuts : goal.returns-in-Arrive-clause-cuts
returns-in-Arrive-clause-cuts c =
    on_ok_weaker c.arrive.result
    (λ arrived j a range.
    let self = c.args.self.now in
    let e = c.args.event in
    let d = c.arrive.new.self in
    let after = c.arrive.ensures in
    let s = steps j self d e.processor a c.requires.processor after.long (ap (λ x. x.present) after.rest)
    (ap (λ x. x.gone) after.rest) (ap (λ x. x.place) after.rest) in
    let counted : CutsAfterArrival self d e.processor =
    record { joined = arrived.joined; gone = arrived.gone; counted = arrived.counted } in
    next j e Arrive d c.in-Arrive.is (next_cuts_arrived s after.rest after.marked counted))
    c.arrive.ensures.arrived

pub returns-in-Depart-clause-cuts : goal.returns-in-Depart-clause-cuts
returns-in-Depart-clause-cuts c = λ j a range.
    let self = c.args.self.now in
    let e = c.args.event in
    let d = c.depart.new.self in
    let after = c.depart.ensures in
    let s = steps j self d e.processor a c.requires.processor after.long (ap (λ x. x.present) after.rest)
    (ap (λ x. x.gone) after.rest) (ap (λ x. x.place) after.rest) in
    let f = c.let_go.ensures in
    let go : NextCutsLetGo d c.let_go.new.self = record { rest = f.rest; left = f.left; episodes = f.episodes; long = f.long } in
    next j e Depart c.let_go.new.self c.in-Depart.is
    (next_cuts_let_go (next_cuts_departed s after.rest after.joined after.departures) go)

-- the cuts after an event that neither takes nor hands on
plain : (j : List Event) (c d : Cuts) (e : Event) (k : Kind) → StepsToNextCuts j c d e.processor
    → d ≡ record c { place = c.place + 1 }
    → e.kind ≡ k → event_takes k ≡ false → event_departs k ≡ false → next_cut_hands_on k ≡ false → AreCuts (j ++ e ∷ []) d
plain j c d e k s rest is takes departs quiet = next j e k d is (next_cuts_plain k takes departs quiet s rest)

pub returns-in-Load-clause-cuts : goal.returns-in-Load-clause-cuts
returns-in-Load-clause-cuts c = λ j a range.
    let self = c.args.self.now in
    let e = c.args.event in
    let d : Cuts = record self { place = self.place + 1 } in
    let long = took self self.processors refl refl a.long in
    let s = steps j self d e.processor a c.requires.processor long refl refl refl in
    elim c.in-Load.is [
      | inl load ↦ plain j self d e _ s refl load.2 refl refl refl
      | inr x ↦ elim x [
        | inl store ↦ plain j self d e _ s refl store.2 refl refl refl
        | inr y ↦ elim y [
          | inl fetch ↦ plain j self d e _ s refl fetch.4 refl refl refl
          | inr z ↦ elim z [
            | inl ask ↦ plain j self d e _ s refl ask.1 refl refl refl
            | inr watch ↦ plain j self d e _ s refl watch.1 refl refl refl
          ]
        ]
      ]
    ]
