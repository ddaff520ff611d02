-- What a processor waits for at the end of a history.
use Rattle.std.specs.Prelude.{ℕ, ◌≡◌, ◌≢◌, ◌<◌, ◌≤◌, ◌↔◌, IsTrue, List, Some, MatchOption, slice_get}
use Rattle.base.specs.InOrderOnce.{Has, InOrder}
use Rattle.journal.specs.declared.event.Event.{Event}
use Rattle.journal.specs.declared.event.Kind.TheVariants.{Arrive, Ask, Set, Watch}
use Rattle.journal.specs.Events.{EventAt, event_count, event_arrives, event_departs}
use Rattle.journal.specs.AwaitedNext.{AwaitsNothingNext}
use Rattle.journal.specs.WellFormed.{Does, Holds, LastIs}
use Rattle.causes.specs.declared.waits_at_end.Wait.{Wait}
use Rattle.causes.specs.declared.waits_at_end.Wait.TheVariants.{Nothing, Lock, Flag, Barrier}

-- p has done nothing
abbrev pub FinalWaitWithoutEvents : List Event → ℕ → Type 0
FinalWaitWithoutEvents j p = (m : ℕ) (e : Event) → EventAt j m e → e.processor ≢ p

-- these are the numbers below n of which this holds, rising
pub record AreThoseInFinalWait (holds : ℕ → Type 0) (n : ℕ) (those : List ℕ) : Type 0 where
  pub has : (q : ℕ) → Has those q ↔ ((q < n) × holds q)
  pub order : InOrder (λ p q. p < q) those

-- q's ask of l is open and stands before place i
abbrev pub FinalWaitAsksBefore : List Event → ℕ → ℕ → ℕ → Type 0
FinalWaitAsksBefore j l i q = (k : ℕ) × (k < i) × LastIs j q k (Ask l)

-- q hasn't arrived at the episode that p departs from next
abbrev pub FinalWaitForAbsent : List Event → ℕ → ℕ → Type 0
FinalWaitForAbsent j p q = event_count event_arrives j q ≤ event_count event_departs j p

-- what is said of what p waits for, one of n processors: nothing; a lock, which this one holds or nobody, and of which
-- the asks of these are earlier; a flag, and whether it is set; or that these arrive
abbrev pub IsFinalWait : ℕ → List Event → ℕ → Wait → Type 0
IsFinalWait n j p Nothing = AwaitsNothingNext j p
IsFinalWait n j p (Lock l holder earlier) =
    (i : ℕ) × LastIs j p i (Ask l)
    × MatchOption holder ((q : ℕ) → q < n → ¬ Holds j q l) (λ q. Holds j q l)
    × AreThoseInFinalWait (FinalWaitAsksBefore j l i) n earlier.items
IsFinalWait n j p (Flag f set) =
    ((i : ℕ) × LastIs j p i (Watch f)) × (IsTrue set ↔ ((k q : ℕ) × Does j k q (Set f)))
IsFinalWait n j p (Barrier absent) = ((i : ℕ) × LastIs j p i Arrive) × AreThoseInFinalWait (FinalWaitForAbsent j p) n absent.items

-- this is said of the first processors
abbrev pub AreFinalWaits : ℕ → List Event → List Wait → Type 0
AreFinalWaits n j waits = (p : ℕ) (w : Wait) → slice_get waits p ≡ Some w → IsFinalWait n j p w
