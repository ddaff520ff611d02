use Rattle.std.proofs.Common.{length, refl, sym, ◌∙◌, inl, inr, arith}
use Rattle.std.specs.Prelude.{None}
use Rattle.std.proofs.lemmas.Bool.{cases_lt}
use Rattle.std.proofs.lemmas.List.{get_or_past}
use Rattle.std.proofs.lemmas.Option.{none-some}
use Rattle.explore.proofs.search.neighbours.are_neighbours_over.Goals as goal

pub returns : goal.returns
returns c = (
  λ yes p k is. elim (cases_lt p (length c.args.nexts.now)) [
    | inl lt ↦ (let over = c.loop-processor-test.false in c.loop-processor.invariant p k (omega arith) is)
    | inr past ↦ none-some k (sym (get_or_past c.args.nexts.now p None past) ∙ is)
  ],
  λ none. refl,
)
