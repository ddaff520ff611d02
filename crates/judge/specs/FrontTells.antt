-- What a front is by the events so far.
use Rattle.std.specs.Prelude.{ℕ, ◌≡◌, ◌≢◌, ◌≤◌, ◌↔◌, ◌==◌, Bool, false, ◌||◌, cond, IsTrue, Option, Some, None, MatchOption, List, length, slice_index, slice_index_or, vec_len}
use Rattle.journal.specs.declared.event.Event.{Event}
use Rattle.journal.specs.declared.event.Kind.{Kind}
use Rattle.journal.specs.declared.event.Kind.TheVariants.{Ask, Acquire, Release, Set}
use Rattle.journal.specs.EventsInRange.{EventProcessorsInRange}
use Rattle.journal.specs.Events.{EventAt, event_count, event_arrives, event_departs}
use Rattle.journal.specs.WellFormed.{Does, Holds, LastIs}
use Rattle.judge.specs.declared.frontier.LastEvent.{LastEvent}
use Rattle.judge.specs.declared.frontier.Frontier.{Frontier}
use Rattle.judge.specs.JudgedSizes.{AreStreamedSizes, judged_sizes_of}

-- p has done nothing
abbrev pub FrontTellsNothingDone : List Event → ℕ → Type 0
FrontTellsNothingDone j p = (m : ℕ) (e : Event) → EventAt j m e → e.processor ≢ p

-- this is p's last event, if it has one
abbrev pub FrontTellsLastOf : List Event → ℕ → Option LastEvent → Type 0
FrontTellsLastOf j p o = MatchOption o (FrontTellsNothingDone j p) (λ (x : LastEvent). LastIs j p x.place x.kind)

-- some processor has set f
abbrev pub FrontTellsFlagSet : List Event → ℕ → Type 0
FrontTellsFlagSet j f = (k : ℕ) × (q : ℕ) × Does j k q (Set f)

-- the front tells this history so far
pub record FrontTellsHistory (j : List Event) (x : Frontier) : Type 0 where
  pub sizes : AreStreamedSizes (judged_sizes_of x.sizes)
  pub processors : EventProcessorsInRange x.sizes.processors j
  pub place : x.place ≡ length j
  pub long_last : vec_len x.last ≡ x.sizes.processors
  pub lasts : (p : ℕ) → FrontTellsLastOf j p (slice_index_or x.last.items p None)
  pub long_arrivals : vec_len x.arrivals ≡ x.sizes.processors
  pub arrivals : (p : ℕ) → slice_index x.arrivals.items p ≡ event_count event_arrives j p
  pub long_departures : vec_len x.departures ≡ x.sizes.processors
  pub departures : (p : ℕ) → slice_index x.departures.items p ≡ event_count event_departs j p
  pub long_holders : vec_len x.holders ≡ x.sizes.locks
  pub holders : (l q : ℕ) → (slice_index_or x.holders.items l None ≡ Some q) ↔ Holds j q l
  pub long_flags : vec_len x.flags ≡ x.sizes.flags
  pub flags : (f : ℕ) → IsTrue (slice_index_or x.flags.items f false) ↔ FrontTellsFlagSet j f

-- no ask of l is open
abbrev pub FrontTellsNobodyAsks : List Event → ℕ → Type 0
FrontTellsNobodyAsks j l = (q k : ℕ) → ¬ LastIs j q k (Ask l)

-- of the open asks of l, the first is q's at place i
pub record FrontTellsFirstAsk (j : List Event) (l q i : ℕ) : Type 0 where
  pub asks : LastIs j q i (Ask l)
  pub first : (r k : ℕ) → LastIs j r k (Ask l) → i ≤ k

-- who holds l, where it was held by this, after p's event of this kind
abbrev pub front_tells_holder_after : Option ℕ → ℕ → ℕ → Kind → Option ℕ
front_tells_holder_after held l p (Acquire m) = cond (m == l) (Some p) held
front_tells_holder_after held l p (Release m) = cond (m == l) None held
front_tells_holder_after held l p _ = held

-- whether f is set after an event of this kind
abbrev pub front_tells_flag_set_after : Bool → ℕ → Kind → Bool
front_tells_flag_set_after was f (Set g) = (g == f) || was
front_tells_flag_set_after was f _ = was
