use Rattle.std.proofs.Common.{rules, zero, suc, ◌≡◌, ℕ, ◌↔◌, IsTrue, false, [], Some, replicate, List, slice_index, slice_index_or, ap, subst, sym, refl, ◌∙◌}
use Rattle.std.specs.Prelude.{None}
use Rattle.std.proofs.lemmas.Bool.{false≢true}
use Rattle.std.proofs.lemmas.Option.{none-some}
use Rattle.journal.specs.WellFormed.{Holds}
use Rattle.base.proofs.SliceSets.{index-zeros}
use Rattle.judge.specs.FrontTells.{FrontTellsLastOf, FrontTellsFlagSet}
use Rattle.judge.proofs.frontier.Frontier.new.Goals as goal

-- a list of one item over and over, with that past its end
always : {A : Type 0} (n p : ℕ) (d : A) → slice_index_or (replicate n d) p d ≡ d
always zero p d = refl
always (suc n) zero d = refl
always (suc n) (suc p) d = always n p d

no_last : (n p : ℕ) → FrontTellsLastOf [] p (slice_index_or (replicate n None) p None)
no_last n p = subst (FrontTellsLastOf [] p) (sym (always n p None)) (λ m e at. absurd (none-some e at))

no_holder : (n l q : ℕ) → (slice_index_or (replicate n None) l None ≡ Some q) ↔ Holds [] q l
no_holder n l q = (
  λ is. absurd (none-some q (sym (always n l None) ∙ is)),
  λ holds. absurd (none-some _ holds.acquires),
)

no_flag : (n f : ℕ) → IsTrue (slice_index_or (replicate n false) f false) ↔ FrontTellsFlagSet [] f
no_flag n f = ((λ is. absurd (false≢true (sym (always n f false) ∙ is))), (λ set. absurd (none-some _ set.2)))

pub returns-clause-tells : goal.returns-clause-tells
returns-clause-tells c = record {
  sizes = c.requires;
  processors = λ i e at. absurd (none-some e at);
  place = refl;
  long_last = c.in_ok-vec.ensures.len;
  lasts = λ p. subst (λ xs. FrontTellsLastOf [] p (slice_index_or xs p None))
      (sym (c.in_ok-vec.ensures.items_if_clones_equal (λ x is. search rules))) (no_last c.args.sizes.processors p);
  long_arrivals = c.in_ok-vec-2.ensures.len;
  arrivals = λ p. ap (λ (xs : List ℕ). slice_index xs p) (c.in_ok-vec-2.ensures.items_if_clones_equal (λ x is. is))
      ∙ index-zeros c.args.sizes.processors p;
  long_departures = c.in_ok-vec-3.ensures.len;
  departures = λ p. ap (λ (xs : List ℕ). slice_index xs p) (c.in_ok-vec-3.ensures.items_if_clones_equal (λ x is. is))
      ∙ index-zeros c.args.sizes.processors p;
  long_holders = c.in_ok-vec-4.ensures.len;
  holders = λ l q. subst (λ xs. (slice_index_or xs l None ≡ Some q) ↔ Holds [] q l)
      (sym (c.in_ok-vec-4.ensures.items_if_clones_equal (λ x is. search rules))) (no_holder c.args.sizes.locks l q);
  long_flags = c.in_ok-vec-5.ensures.len;
  flags = λ f. subst (λ xs. IsTrue (slice_index_or xs f false) ↔ FrontTellsFlagSet [] f)
      (sym (c.in_ok-vec-5.ensures.items_if_clones_equal (λ x is. search rules))) (no_flag c.args.sizes.flags f);
}
