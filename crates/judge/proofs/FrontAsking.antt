-- The first open ask of a lock, among the last events of all processors.
use Rattle.std.proofs.Common.{◌≡◌, ℕ, ◌+◌, ◌<◌, ◌≤◌, inl, inr, List, length, Option, Some, MatchOption, slice_index_or, subst, sym, refl, ap, ◌∙◌, arith}
use Rattle.std.specs.Prelude.{None}
use Rattle.std.proofs.lemmas.Bool.{cases_eq}
use Rattle.std.proofs.lemmas.Option.{same_Some}
use Rattle.journal.specs.declared.event.Event.{Event}
use Rattle.journal.specs.declared.event.Kind.{Kind}
use Rattle.journal.specs.declared.event.Kind.TheVariants.{Ask}
use Rattle.journal.specs.DidEvent.{event}
use Rattle.journal.specs.EventsInRange.{EventProcessorsInRange}
use Rattle.journal.specs.WellFormed.{LastIs}
use Rattle.journal.proofs.Order.EventPlacesAndCounts.{event_place_inside}
use Rattle.journal.proofs.Journals.WellFormedStays.{well_formed_stays_last_unique}
use Rattle.judge.specs.declared.frontier.LastEvent.{LastEvent}
use Rattle.judge.specs.FrontTells.{FrontTellsFirstAsk, FrontTellsLastOf, FrontTellsNobodyAsks}

-- q's last event asks for l, at place i
abbrev pub FrontAsksAt : List (Option LastEvent) → ℕ → ℕ → ℕ → Type 0
FrontAsksAt last l q i = slice_index_or last q None ≡ Some (record { place = i; kind = Ask l })

-- what is found so far is an ask at the limit, or nothing
abbrev pub IsFrontAskingFound : List (Option LastEvent) → ℕ → ℕ → Option (ℕ × ℕ) → ℕ → Type 0
IsFrontAskingFound last end l found limit =
    MatchOption found (limit ≡ end) (λ (x : ℕ × ℕ). (x.1 ≡ limit) × FrontAsksAt last l x.0 x.1)

-- the asks of the first n processors stand from the limit on
abbrev pub AreFrontAskingFrom : List (Option LastEvent) → ℕ → ℕ → ℕ → Type 0
AreFrontAskingFrom last l limit n = (q i : ℕ) → q < n → FrontAsksAt last l q i → limit ≤ i

-- one processor more, whose ask stands before the limit
pub front_asking_from_lower : (last : List (Option LastEvent)) (l limit n i : ℕ) → FrontAsksAt last l n i → i < limit
    → AreFrontAskingFrom last l limit n → AreFrontAskingFrom last l i (n + 1)
front_asking_from_lower last l limit n i asks lower from q k lt there = elim (cases_eq q n) [
  | inl is ↦
      (let one = same_Some _ _ (sym asks ∙ ap (λ m. slice_index_or last m None) (sym is) ∙ there) in
      let same = ap (λ (x : LastEvent). x.place) one in
      omega arith)
  | inr isnt ↦ (let le = from q k (omega arith) there in omega arith)
]

-- or none does
pub front_asking_from_same : (last : List (Option LastEvent)) (l limit n : ℕ) → ((i : ℕ) → FrontAsksAt last l n i → limit ≤ i)
    → AreFrontAskingFrom last l limit n → AreFrontAskingFrom last l limit (n + 1)
front_asking_from_same last l limit n none from q k lt there = elim (cases_eq q n) [
  | inl is ↦ none k (ap (λ m. slice_index_or last m None) (sym is) ∙ there)
  | inr isnt ↦ from q k (omega arith) there
]

-- what is kept of a processor's last event is that
pub front_asking_last_kept : (j : List Event) (p i : ℕ) (a : Kind) (o : Option LastEvent) → FrontTellsLastOf j p o → LastIs j p i a
    → o ≡ Some (record { place = i; kind = a })
front_asking_last_kept j p i a None none is = absurd (none i (event p a) is.does refl)
front_asking_last_kept j p i a (Some x) last is =
    let same = well_formed_stays_last_unique j p x.place i x.kind a last is in
    ap (λ (y : LastEvent). Some y) (subst (λ n. x ≡ record { place = n; kind = a }) same.0
    (subst (λ k. x ≡ record { place = x.place; kind = k }) same.1 refl))

module _ (j : List Event) (last : List (Option LastEvent)) (l limit : ℕ)
    (lasts : (p : ℕ) → FrontTellsLastOf j p (slice_index_or last p None)) (count : ℕ)
    (from : AreFrontAskingFrom last l limit count) (range : EventProcessorsInRange count j) where
  front_asking_all_from : (q k : ℕ) → LastIs j q k (Ask l) → limit ≤ k
  front_asking_all_from q k is =
      let asks = front_asking_last_kept j q k (Ask l) (slice_index_or last q None) (lasts q) is in
      from q k (range k (event q (Ask l)) is.does) asks

  pub front_asking_first_found : (q : ℕ) → FrontAsksAt last l q limit → FrontTellsFirstAsk j l q limit
  front_asking_first_found q asks = record { asks = subst (FrontTellsLastOf j q) asks (lasts q); first = front_asking_all_from }

  pub front_asking_none_found : limit ≡ length j → FrontTellsNobodyAsks j l
  front_asking_none_found end q k is =
      let le = front_asking_all_from q k is in
      let within = event_place_inside j k (event q (Ask l)) is.does in
      omega arith
