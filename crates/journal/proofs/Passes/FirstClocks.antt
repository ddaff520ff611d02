-- The race checker's timestamps before the first event.
use Rattle.std.proofs.Common.{◌≡◌, ℕ, ◌≤◌, ◌-◌, [], slice_index, vec_len, arith}
use Rattle.std.proofs.lemmas.Option.{slice_get_within}
use Rattle.base.specs.Limits.{most_processors}
use Rattle.journal.specs.declared.event_clocks.EventClocks.{EventClocks}
use Rattle.journal.specs.DidEvent.{event}
use Rattle.journal.specs.NumberedClocks.{numbered_clock_at}
use Rattle.journal.specs.Times.{IsTimeIn}
use Rattle.journal.specs.ClockEntry.{entry}
use Rattle.journal.specs.Clocks.{AreClocks}

-- before the first event each entry is 0
first_clocks_time : (among : ℕ → Type 0) (t : ℕ → ℕ) → ((q : ℕ) → t q ≡ 0) → IsTimeIn [] among t
first_clocks_time among t zeros = record {
  covers = λ q i c. (let lt = slice_get_within [] i (event q c.kind) c.does in absurd (omega arith));
  within = λ q. (let zero = zeros q in omega arith);
}

-- all timestamps and counts are 0
pub record FirstClocksAreZero (c : EventClocks) : Type 0 where
  pub gone : c.gone ≡ 0
  pub processors : (p q : ℕ) → entry c.processors.items p q ≡ 0
  pub locks : (l q : ℕ) → numbered_clock_at c.locks l q ≡ 0
  pub flags : (f q : ℕ) → numbered_clock_at c.flags f q ≡ 0
  pub episodes : (n q : ℕ) → entry c.episodes.items n q ≡ 0
  pub arrivals : (p : ℕ) → slice_index c.arrivals p ≡ 0
  pub departures : (p : ℕ) → slice_index c.departures p ≡ 0

-- such are those before the first event
pub first_clocks : {c : EventClocks} → vec_len c.processors ≡ 16 → c.present ≤ most_processors → FirstClocksAreZero c
    → AreClocks [] c
first_clocks {c} long few zero = record {
  long = long;
  few = few;
  times = λ p h. first_clocks_time _ (entry c.processors.items p) (zero.processors p);
  locks = λ l. first_clocks_time _ (numbered_clock_at c.locks l) (zero.locks l);
  flags = λ f. first_clocks_time _ (numbered_clock_at c.flags f) (zero.flags f);
  episodes = λ n le. first_clocks_time _ (entry c.episodes.items (n - c.gone)) (zero.episodes (n - c.gone));
  left = λ p h. (let none = zero.gone in omega arith);
  arrivals = λ p h. zero.arrivals p;
  departures = λ p h. zero.departures p;
}
