use Rattle.std.proofs.Common.{subst, sym}
use Rattle.std.specs.Prelude.{Result, Ok, Err, OnOk}
use Rattle.judge.specs.declared.stored_counts.StoredCounts.{StoredCounts}
use Rattle.judge.specs.DueCounts.{TellsDueCounts}
use Rattle.judge.specs.StoredCounts.{AreStoredCountsOf}
use Rattle.judge.proofs.due_counts.DueCounts.let_go.Goals as goal

-- what success gives, success gives
then : {E P Q : Type 0} (r : Result (Unit {0}) E) → OnOk r P → (P → Q) → OnOk r Q
then (Ok x) p f = f p
then (Err e) p f = tt

pub returns-clause-tells : goal.returns-clause-tells
returns-clause-tells c = then c.let_go.result c.let_go.ensures.tells (λ told j tells.
    let d = c.args.self.now in
    let rest = c.let_go.ensures.rest in
    let Told : StoredCounts → Type 0 = λ s. TellsDueCounts j (record d { stored = s }) in
    subst Told (sym rest) (record {
      cuts = tells.cuts;
      present = tells.present;
      processors = tells.processors;
      fetched = tells.fetched;
      stored = subst (AreStoredCountsOf j) rest (told j tells.stored (c.in_ok-asked.ensures j tells));
    }))
