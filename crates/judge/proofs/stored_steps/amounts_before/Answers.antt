use Rattle.std.proofs.Common.{◌≡◌, ℕ, ◌-◌, ◌≤◌, inl, inr, List, Some, length, slice_get, slice_index_or, subst, sym, arith}
use Rattle.std.proofs.lemmas.Bool.{cases_eq}
use Rattle.std.proofs.lemmas.Option.{slice_get-get_or, slice_get_within, get_or_from_slice_get}
use Rattle.base.specs.InOrderOnce.{InOrder}
use Rattle.judge.specs.declared.stored_steps.StoredStep.{StoredStep}
use Rattle.judge.proofs.StoredBefore.{stored_before_all}
use Rattle.judge.proofs.stored_steps.amounts_before.Goals as goal

-- no step is past the last one
to_last : (steps : List StoredStep) (n : ℕ) (x d : StoredStep) → InOrder (λ (y z : StoredStep). y.place ≤ z.place) steps
    → slice_get steps n ≡ Some x → x.place ≤ (slice_index_or steps (length steps - 1) d).place
to_last steps n x d up at =
    let within = slice_get_within steps n x at in
    elim (cases_eq n (length steps - 1)) [
      | inl is ↦
          (let same : slice_index_or steps n d ≡ x = get_or_from_slice_get steps n x d at in
          subst (λ i. x.place ≤ (slice_index_or steps i d).place) is
          (subst (λ (y : StoredStep). x.place ≤ y.place) (sym same) (omega arith)))
      | inr isnt ↦ up n (length steps - 1) x (slice_index_or steps (length steps - 1) d) (omega arith) at
          (slice_get-get_or steps (length steps - 1) d (omega arith))
    ]

pub returns-then-steps-count : goal.returns-then-steps-count
returns-then-steps-count c =
    let steps = c.args.steps.now in
    let d : StoredStep = record { place = 0; before = record { records = 0; words = 0 } } in
    let last = c.if-steps-count.true in
    sym (stored_before_all steps c.args.all c.args.limit
    (λ x h. let le = to_last steps h.0 x d c.requires h.1 in omega arith))
