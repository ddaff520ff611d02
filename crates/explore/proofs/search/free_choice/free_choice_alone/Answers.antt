use Rattle.std.proofs.Common.{ℕ, ◌≡◌, ◌<◌, inl, inr, replicate, Some, sym, subst, ◌∙◌, get_or-set_other, get_or-set_same, arith}
use Rattle.std.specs.Prelude.{None, slice_index_or, slice_set}
use Rattle.std.proofs.lemmas.Bool.{cases_eq}
use Rattle.std.proofs.lemmas.Option.{same_Some}
use Rattle.journal.specs.declared.event.Kind.{Kind}
use Rattle.explore.proofs.ChoosingFree.{choosing_free_among_nones, choosing_free_none_length}
use Rattle.explore.proofs.search.free_choice.free_choice_alone.Goals as goal

set_own : (p : ℕ) (k : Kind) → p < 16 → slice_index_or (slice_set (replicate 16 None) p (Some k)) p None ≡ Some k
set_own p k lt = let size = choosing_free_none_length 16 in get_or-set_same (replicate 16 None) p (Some k) None (omega arith)

set_only : (p q : ℕ) (j k : Kind) → p < 16 → slice_index_or (slice_set (replicate 16 None) p (Some k)) q None ≡ Some j
    → (q ≡ p) × (j ≡ k)
set_only p q j k lt at = elim (cases_eq q p) [
  | inl is ↦
      (let here = subst (λ r. slice_index_or (slice_set (replicate 16 None) p (Some k)) r None ≡ Some j) is at in
      (is, same_Some j k (sym here ∙ set_own p k lt)))
  | inr isnt ↦
      absurd (choosing_free_among_nones 16 q j (sym (get_or-set_other (replicate 16 None) p q (Some k) None isnt) ∙ at))
]

pub returns-clause-own : goal.returns-clause-own
returns-clause-own c = set_own c.args.processor c.args.kind c.requires

pub returns-clause-only : goal.returns-clause-only
returns-clause-only c = λ p k at. set_only c.args.processor p k c.args.kind c.requires at
