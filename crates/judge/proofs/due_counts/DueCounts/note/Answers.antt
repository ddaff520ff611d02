use Rattle.std.proofs.Common.{[], ◌∷◌, ◌++◌}
use Rattle.std.specs.Prelude.{Result, Ok, Err, OnOk}
use Rattle.judge.proofs.due_counts.DueCounts.note.Goals as goal

-- what success gives, success gives
then : {E P Q : Type 0} (r : Result (Unit {0}) E) → OnOk r P → (P → Q) → OnOk r Q
then (Ok x) p f = f p
then (Err e) p f = tt

pub let_go_after-requires-clause-tells : goal.let_go_after-requires-clause-tells
let_go_after-requires-clause-tells c =
    let j = c.requires.so_far.0 in
    (j ++ c.args.event ∷ [], c.in_ok-count.ensures.tells j c.requires.so_far.1)

pub returns-then-branch-clause-tells : goal.returns-then-branch-clause-tells
returns-then-branch-clause-tells c = then c.let_go_after.result c.let_go_after.ensures.tells (λ went j tells.
    went (j ++ c.args.event ∷ []) (c.in_ok-count.ensures.tells j tells))
