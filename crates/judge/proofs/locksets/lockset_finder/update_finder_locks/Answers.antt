use Rattle.std.proofs.Common.{slice_index_or}
use Rattle.std.specs.Prelude.{Result, Ok, Err, OnOk}
use Rattle.std.proofs.lemmas.Option.{slice_get-get_or}
use Rattle.judge.proofs.locksets.TellingLocksets.{telling_locksets_held_next}
use Rattle.judge.proofs.locksets.lockset_finder.update_finder_locks.Goals as goal

-- what a fact of success gives, success gives
success : {E P Q : Type 0} (r : Result (Unit {0}) E) → (P → Q) → OnOk r P → OnOk r Q
success (Ok x) f p = f p
success (Err e) f p = tt

pub returns-clause-locks : goal.returns-clause-locks
returns-clause-locks c = success c.note.result
    (λ noted j old.
    (let sets = c.args.held.now in
    let p = c.args.event.processor in
    let past = c.index-held-event.result in
    let set = slice_index_or sets p past in
    let at = slice_get-get_or sets p past c.requires in
    telling_locksets_held_next j c.args.event sets c.note.new.self (noted j p (old p set at)) old))
    c.note.ensures
