use Rattle.std.proofs.Common.{ℕ, [], ◌∷◌, List, Option, length, subst, sym, take}
use Rattle.std.proofs.Math.Seq.{take-append_seam}
use Rattle.journal.specs.declared.event.Event.{Event}
use Rattle.journal.specs.declared.event.Kind.TheVariants.{Load}
use Rattle.journal.specs.DidEvent.{did, event}
use Rattle.journal.specs.Sizes.{addresses}
use Rattle.judge.specs.declared.flat_memory.FlatStore.{FlatStore}
use Rattle.judge.specs.LastFlatStores.{KeepsLastFlatStore}
use Rattle.judge.specs.Owed.{AreOwedBy}
use Rattle.judge.proofs.FlatAnswers.{flat_answer_places}
use Rattle.judge.proofs.owed.Owed.permitted.Goals as goal

-- what stands before the load
before : (j : List Event) (p a v : ℕ) (o : Option FlatStore) → KeepsLastFlatStore j a o
    → KeepsLastFlatStore (take (length j) (did j p (Load a v))) a o
before j p a v o = subst (λ xs. KeepsLastFlatStore xs a o) (sym (take-append_seam j (event p (Load a v) ∷ [])))

pub returns-in-RaceFree : goal.returns-in-RaceFree
returns-in-RaceFree c = λ m s j owed few within v free.
    let o = subst (AreOwedBy m s j) c.in-RaceFree.is owed in
    let last = c.last.ensures j (addresses s) o.1 within in (
      o.0,
      record {
        latest = flat_answer_places j c.args.processor c.args.address v (free o.0) c.last.result last;
        last = before j c.args.processor c.args.address v c.last.result last;
      },
    )

pub returns-in-Sequential : goal.returns-in-Sequential
returns-in-Sequential c = λ m s j owed few within v free.
    let o = subst (AreOwedBy m s j) c.in-Sequential.is owed in
    (o.0, before j c.args.processor c.args.address v c.last-in-Sequential.result (c.last-in-Sequential.ensures j (addresses s) o.1 within))

pub returns-in_ok-latest-in-LazyRelease : goal.returns-in_ok-latest-in-LazyRelease
returns-in_ok-latest-in-LazyRelease c = λ m s j owed few within v free.
    let o = subst (AreOwedBy m s j) c.in-LazyRelease.is owed in
    (o.0, c.in_ok-latest-in-LazyRelease.ensures j o.1.tells v)

pub returns-in_ok-unordered-in-HappensBefore : goal.returns-in_ok-unordered-in-HappensBefore
returns-in_ok-unordered-in-HappensBefore c = λ m s j owed few within v free.
    let o = subst (AreOwedBy m s j) c.in-HappensBefore.is owed in
    (o.0, c.in_ok-latest-in-HappensBefore.ensures j o.1.tells v, λ x. c.in_ok-unordered-in-HappensBefore.ensures j o.1.tells v x)
