use Rattle.std.proofs.Common.{ℕ, ◌+◌, ◌<◌, ◌≤◌, inr, List, length, slice_index, slice_set, subst, sym, arith}
use Rattle.std.proofs.lemmas.List.{get_or-set_same, get_or-set_other}
use Rattle.std.proofs.lemmas.Grind.{common_steps}
use Rattle.journal.specs.AccessEpochs.{AreAccessEpochsAfterLoad}
use Rattle.journal.proofs.race_epochs.Access.note_load.Goals as goal

-- a load whose number is written among several is the only one that changes
one_more : (xs : List ℕ) (t : ℕ → ℕ) (p : ℕ) → p < length xs
    → AreAccessEpochsAfterLoad (slice_index xs) (slice_index (slice_set xs p (t p + 1))) t p
one_more xs t p h = record {
  own = subst (λ x. t p < x) (sym (get_or-set_same xs p (t p + 1) 0 h)) (omega arith);
  others = λ q apart. inr (subst (λ x. slice_index xs q ≤ x) (sym (get_or-set_other xs p q (t p + 1) 0 apart))
      (omega arith));
}

pub returns-in-Several-clause-loads : goal.returns-in-Several-clause-loads
returns-in-Several-clause-loads c =
    rw c.in-Several.is (one_more c.args.several.now (slice_index c.args.time.now) c.args.processor
    (rw c.told-several c.requires.processor))

pub returns-in-Last-2-clause-loads : goal.returns-in-Last-2-clause-loads
returns-in-Last-2-clause-loads c = grind (arith, common_steps)
