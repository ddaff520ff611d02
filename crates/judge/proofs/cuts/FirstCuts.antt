-- The cuts before the first event.
use Rattle.std.proofs.Common.{◌≡◌, ℕ, ◌-◌, [], slice_index, arith}
use Rattle.judge.specs.CutRows.{cut_entry}
use Rattle.judge.specs.declared.cuts.Cuts.{Cuts}
use Rattle.judge.specs.Cuts.{AreCuts, AreCutsLong}
use Rattle.judge.specs.NumberedCuts.{numbered_cut_at}
use Rattle.judge.proofs.cuts.CutsOfPlaces.{cut_of_places_start}
use Rattle.judge.proofs.cuts.PushedCuts.{pushed_cut_start}

-- all entries and counts are 0
pub record FirstCutsAreZero (c : Cuts) : Type 0 where
  pub place : c.place ≡ 0
  pub gone : c.gone ≡ 0
  pub processors : (p q : ℕ) → cut_entry c.processors p q ≡ 0
  pub locks : (l q : ℕ) → numbered_cut_at c.locks l q ≡ 0
  pub flags : (f q : ℕ) → numbered_cut_at c.flags f q ≡ 0
  pub episodes : (n q : ℕ) → cut_entry c.episodes n q ≡ 0
  pub arrivals : (p : ℕ) → slice_index c.arrivals.items p ≡ 0
  pub departures : (p : ℕ) → slice_index c.departures.items p ≡ 0

-- such are those before the first event
pub first_cuts : {c : Cuts} → AreCutsLong c → FirstCutsAreZero c → AreCuts [] c
first_cuts {c} long zero = record {
  place = zero.place;
  long = long;
  cuts = λ p h. pushed_cut_start p (cut_entry c.processors p) (zero.processors p);
  locks = λ l. cut_of_places_start _ (numbered_cut_at c.locks l) (zero.locks l);
  flags = λ f. cut_of_places_start _ (numbered_cut_at c.flags f) (zero.flags f);
  episodes = λ n le. cut_of_places_start _ (cut_entry c.episodes (n - c.gone)) (zero.episodes (n - c.gone));
  left = λ p h. (let none = zero.gone in omega arith);
  arrivals = λ p h. zero.arrivals p;
  departures = λ p h. zero.departures p;
}
