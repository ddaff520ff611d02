use Rattle.std.proofs.Common.{subst, ◌∙◌}
use Rattle.std.specs.Prelude.{Result, Ok, Err, OnOk}
use Rattle.journal.specs.Sizes.{addresses}
use Rattle.judge.specs.Owed.{AreOwedBy}
use Rattle.judge.proofs.HistoryRanges.{history_range_address}
use Rattle.judge.proofs.owed.Owed.note.Goals as goal

-- what success gives gives more
given : {E P Q : Type 0} (r : Result (Unit {0}) E) → (P → Q) → OnOk r P → OnOk r Q
given (Ok x) f p = f p
given (Err e) f p = tt

-- the memory after the event
pub returns-in-RaceFree : goal.returns-in-RaceFree
returns-in-RaceFree c =
    given c.note.result
    (λ noted m s j owed long within. (let o = subst (AreOwedBy m s j) c.in-RaceFree.is owed in
    (o.0, noted j (addresses s) o.1 (history_range_address s c.args.event.kind within.kind) long)))
    c.note.ensures

pub returns-in-Sequential : goal.returns-in-Sequential
returns-in-Sequential c =
    given c.note-in-Sequential.result
    (λ noted m s j owed long within. (let o = subst (AreOwedBy m s j) c.in-Sequential.is owed in
    (o.0, noted j (addresses s) o.1 (history_range_address s c.args.event.kind within.kind) long)))
    c.note-in-Sequential.ensures

pub returns-in-HappensBefore : goal.returns-in-HappensBefore
returns-in-HappensBefore c =
    given c.note-in-HappensBefore.result
    (λ told m s j owed long within. (let o = subst (AreOwedBy m s j) c.in-HappensBefore.is owed in (
      o.0,
      record {
        tells = told j o.1.tells;
        processors = c.note-in-HappensBefore.ensures.processors ∙ o.1.processors;
        addresses = c.note-in-HappensBefore.ensures.addresses ∙ o.1.addresses;
      },
    )))
    c.note-in-HappensBefore.ensures.tells

pub returns-in-LazyRelease : goal.returns-in-LazyRelease
returns-in-LazyRelease c =
    given c.note-in-LazyRelease.result
    (λ told m s j owed long within. (let o = subst (AreOwedBy m s j) c.in-LazyRelease.is owed in (
      o.0,
      record {
        tells = told j o.1.tells;
        processors = c.note-in-LazyRelease.ensures.processors ∙ o.1.processors;
        addresses = c.note-in-LazyRelease.ensures.addresses ∙ o.1.addresses;
      },
    )))
    c.note-in-LazyRelease.ensures.tells
