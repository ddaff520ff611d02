-- What one processor has heard of another's events.
use Rattle.std.proofs.Common.{◌≡◌, ℕ, ◌+◌, ◌<◌, ◌≤◌, inl, inr, List, Option, Some, MatchOption, subst, arith}
use Rattle.std.specs.Prelude.{None}
use Rattle.std.proofs.lemmas.Bool.{cases_eq}
use Rattle.journal.specs.declared.event.Event.{Event}
use Rattle.journal.specs.declared.event.Kind.{Kind}
use Rattle.journal.specs.Events.{EventAt}
use Rattle.journal.specs.HappensBeforeEdges.{HappensBefore}
use Rattle.journal.specs.WellFormed.{Does}
use Rattle.journal.proofs.Order.EventPlacesAndCounts.{event_place_does}
use Rattle.journal.proofs.Order.HappensBefore.{happens_before_goes_forward}
use Rattle.causes.specs.Heard.{IsHeard}

-- q's event at place i happens before place k, and no later one of q below place n does
pub record IsLastHeardBelow (j : List Event) (q k n i : ℕ) : Type 0 where
  pub kind : Kind
  pub does : Does j i q kind
  pub before : HappensBefore j i k
  pub last : (m : ℕ) (a : Kind) → m < n → Does j m q a → HappensBefore j m k → m ≤ i

-- the last event of q below place n that happens before place k, where there is one
abbrev pub LastHeardBelow : List Event → ℕ → ℕ → ℕ → Option ℕ → Type 0
LastHeardBelow j q k n o =
    MatchOption o ((m : ℕ) (a : Kind) → m < n → Does j m q a → ¬ HappensBefore j m k) (IsLastHeardBelow j q k n)

-- one place more, whose event is q's and happens before place k
pub last_heard_next : (j : List Event) (q k n : ℕ) (e : Event) → EventAt j n e → e.processor ≡ q → HappensBefore j n k
    → LastHeardBelow j q k (n + 1) (Some n)
last_heard_next j q k n e at mine before = record {
  kind = e.kind;
  does = event_place_does j n q e at mine;
  before = before;
  last = λ m a lt does h. omega arith;
}

-- and one whose event isn't
pub last_heard_others : (j : List Event) (q k n : ℕ) (o : Option ℕ) → ((a : Kind) → Does j n q a → ¬ HappensBefore j n k)
    → LastHeardBelow j q k n o → LastHeardBelow j q k (n + 1) o
last_heard_others j q k n None away none = λ m a lt does. elim (cases_eq m n) [
  | inl is ↦ (λ h. away a (subst (λ x. Does j x q a) is does) (subst (λ x. HappensBefore j x k) is h))
  | inr isnt ↦ none m a (omega arith) does
]
last_heard_others j q k n (Some i) away old =
    record { kind = old.kind; does = old.does; before = old.before; last = last }
  where
    last : (m : ℕ) (a : Kind) → m < n + 1 → Does j m q a → HappensBefore j m k → m ≤ i
    last m a lt does h = elim (cases_eq m n) [
      | inl is ↦ absurd (away a (subst (λ x. Does j x q a) is does) (subst (λ x. HappensBefore j x k) is h))
      | inr isnt ↦ old.last m a (omega arith) does h
    ]

-- what happens before place k stands below it
pub last_heard_all : (j : List Event) (q k n : ℕ) (o : Option ℕ) → k ≤ n → LastHeardBelow j q k n o → IsHeard j q k o
last_heard_all j q k n None le none = λ m a does h. (let lt = happens_before_goes_forward j h in none m a (omega arith) does h)
last_heard_all j q k n (Some i) le old = record {
  kind = old.kind;
  does = old.does;
  before = old.before;
  last = λ m a does h. (let lt = happens_before_goes_forward j h in old.last m a (omega arith) does h);
}
