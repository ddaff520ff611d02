use Rattle.std.proofs.Common.{◌∙◌, List, ℕ, slice_index, refl, ap}
use Rattle.base.proofs.SliceSets.{index-zeros}
use Rattle.judge.proofs.cuts.FirstCuts.{first_cuts}
use Rattle.judge.proofs.cuts.Cuts.new.Goals as goal

pub returns-clause-cuts : goal.returns-clause-cuts
returns-clause-cuts c = first_cuts (record {
  width = c.in_ok-zeros.ensures.width;
  count = c.in_ok-zeros.ensures.count;
  locks = c.new.ensures.width;
  flags = c.new-2.ensures.width;
  episodes = c.new-3.ensures.width;
  arrivals = c.in_ok-vec.ensures.len;
  departures = c.in_ok-vec-2.ensures.len;
  few = c.requires;
}) (record {
  place = refl;
  gone = refl;
  processors = c.in_ok-zeros.ensures.zeros;
  locks = c.new.ensures.zeros;
  flags = c.new-2.ensures.zeros;
  episodes = c.new-3.ensures.zeros;
  arrivals = λ p. ap (λ (xs : List ℕ). slice_index xs p) (c.in_ok-vec.ensures.items_if_clones_equal (λ y is. is)) ∙ index-zeros c.args.processors p;
  departures = λ p. ap (λ (xs : List ℕ). slice_index xs p) (c.in_ok-vec-2.ensures.items_if_clones_equal (λ y is. is)) ∙ index-zeros c.args.processors p;
})
