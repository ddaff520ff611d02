-- What a journal's memory holds, as the journal goes on and as it is cut.
use Rattle.std.proofs.Common.{◌≡◌, ◌≢◌, ℕ, ◌+◌, ◌-◌, ◌<◌, ◌≤◌, ◌⊎◌, inl, inr, List, [], ◌∷◌, ◌++◌, length, take, take_all, drop, length-append, length-drop, subst, sym, ap, ◌∙◌, arith}
use Rattle.std.proofs.Math.Seq.{take-append_seam, take-length}
use Rattle.std.proofs.lemmas.List.{take-append-le, length-take}
use Rattle.journal.specs.declared.event.Event.{Event}
use Rattle.journal.specs.declared.event.Kind.TheVariants.{Arrive}
use Rattle.journal.specs.DidEvent.{event}
use Rattle.journal.specs.Events.{EventAt}
use Rattle.journal.specs.EventsInRange.{EventAddressInRange, EventAddressesInRange, EventProcessorsInRange}
use Rattle.journal.specs.Opening.{IsOpening}
use Rattle.journal.specs.declared.journal.Journal.TheInside.{Inside}
use Rattle.journal.specs.Log.{Log}
use Rattle.journal.specs.KeptBaseState.{base_of_kept_state}
use Rattle.journal.specs.JournalInvariant.{journal_invariant_log, JournalInvariant}
use Rattle.journal.proofs.FromBase.OpeningAsBase.{IsOpeningAsBase, opening_as_base_checked}
use Rattle.journal.proofs.Order.EventPlacesAndCounts.{event_place_same, event_place_inside}
use Rattle.base.proofs.SlicesAndCounts.{slice_push_cases, slice_append_cases, slice_get-drop, slice_get-from_take}

-- one more event keeps all in range, and the opening
pub journal_memory_processors_push : (n : ℕ) (xs : List Event) (e : Event) → EventProcessorsInRange n xs → e.processor < n
    → EventProcessorsInRange n (xs ++ e ∷ [])
journal_memory_processors_push n xs e all lt i f at =
    elim (slice_push_cases xs e i f at)
    [ inl old ↦ all i f old.1 | inr new ↦ subst (λ (x : Event). x.processor < n) new.1 lt ]

pub journal_memory_addresses_push : (n : ℕ) (xs : List Event) (e : Event) → EventAddressesInRange n xs → EventAddressInRange n e.kind
    → EventAddressesInRange n (xs ++ e ∷ [])
journal_memory_addresses_push n xs e all lt i f at =
    elim (slice_push_cases xs e i f at)
    [ inl old ↦ all i f old.1 | inr new ↦ subst (λ (x : Event). EventAddressInRange n x.kind) new.1 lt ]

pub journal_memory_opening_longer : (n : ℕ) (xs es : List Event) → n ≤ length xs → IsOpening n (take n xs)
    → IsOpening n (take n (xs ++ es))
journal_memory_opening_longer n xs es le x = subst (IsOpening n) (sym (take-append-le n xs es le)) x

-- whose opening stands in front has as many events at least
pub journal_memory_within_length : (n : ℕ) (xs : List Event) → IsOpening n (take n xs) → n ≤ length xs
journal_memory_within_length n xs x = let long = x.long in let min_is = length-take n xs in omega arith

-- nothing but the opening is in range
module _ (n : ℕ) (xs : List Event) (x : IsOpening n xs) where
  journal_memory_open : (i : ℕ) (e : Event) → EventAt xs i e → (i < n) × (e ≡ event i Arrive)
  journal_memory_open i e at =
      let lt : i < n = (let within = event_place_inside xs i e at in omega (arith, x.long)) in
      (lt, event_place_same xs i e (event i Arrive) at (x.each i lt))

  pub journal_memory_opening_processors : EventProcessorsInRange n xs
  journal_memory_opening_processors i e at = let is = journal_memory_open i e at in subst (λ (f : Event). f.processor < n) (sym is.1) is.0

  pub journal_memory_opening_addresses : (m : ℕ) → EventAddressesInRange m xs
  journal_memory_opening_addresses m i e at = let is = journal_memory_open i e at in subst (λ (f : Event). EventAddressInRange m f.kind) (sym is.1) tt

  pub journal_memory_opening_whole : IsOpening n (take n xs)
  journal_memory_opening_whole = subst (IsOpening n) (sym (take_all n xs (omega (arith, x.long)))) x

-- all that stands behind the opening
pub journal_memory_behind_whole : (n : ℕ) (xs : List Event) → take (length xs - n) (drop n xs) ≡ drop n xs
journal_memory_behind_whole n xs = ap (λ m. take m (drop n xs)) (sym (length-drop n xs)) ∙ take-length (drop n xs)

-- the events up to the last one are all
pub journal_memory_up_to_last : (xs : List Event) → 0 < length xs → take (length xs - 1 + 1) xs ≡ xs
journal_memory_up_to_last xs some = take_all (length xs - 1 + 1) xs (omega arith)

-- before the last one stands what stood there before it came
pub journal_memory_before_last : (xs : List Event) (e : Event) → take (length (xs ++ e ∷ []) - 1) (xs ++ e ∷ []) ≡ xs
journal_memory_before_last xs e =
    ap (λ n. take n (xs ++ e ∷ [])) (let long = length-append xs (e ∷ []) in omega arith)
    ∙ take-append_seam xs (e ∷ [])

-- what stands behind the opening is in range too
pub journal_memory_processors_behind : (n m : ℕ) (xs : List Event) → EventProcessorsInRange n xs → EventProcessorsInRange n (drop m xs)
journal_memory_processors_behind n m xs all i e at = all (m + i) e (sym (slice_get-drop xs m i) ∙ at)

pub journal_memory_addresses_behind : (n m : ℕ) (xs : List Event) → EventAddressesInRange n xs → EventAddressesInRange n (drop m xs)
journal_memory_addresses_behind n m xs all i e at = all (m + i) e (sym (slice_get-drop xs m i) ∙ at)

-- and of a part of it
pub journal_memory_processors_part : (n m k : ℕ) (xs : List Event) → EventProcessorsInRange n xs
    → EventProcessorsInRange n (take k (drop m xs))
journal_memory_processors_part n m k xs all i e at = journal_memory_processors_behind n m xs all i e (slice_get-from_take (drop m xs) k i e at)

pub journal_memory_addresses_part : (n m k : ℕ) (xs : List Event) → EventAddressesInRange n xs → EventAddressesInRange n (take k (drop m xs))
journal_memory_addresses_part n m k xs all i e at = journal_memory_addresses_behind n m xs all i e (slice_get-from_take (drop m xs) k i e at)

-- a cut takes events out behind the opening
module _ (n count : ℕ) (xs : List Event) where
  abbrev journal_memory_rest : List Event
  journal_memory_rest = take n xs ++ drop (n + count) xs

  pub journal_memory_processors_cut : (m : ℕ) → EventProcessorsInRange m xs → EventProcessorsInRange m journal_memory_rest
  journal_memory_processors_cut m all i e at =
      elim (slice_append_cases (take n xs) (drop (n + count) xs) i e at) [
        | inl front ↦ all i e
            (slice_get-from_take xs n i e front.1)
        | inr behind ↦ journal_memory_processors_behind m (n + count) xs all behind.0 e behind.2
      ]

  pub journal_memory_addresses_cut : (m : ℕ) → EventAddressesInRange m xs → EventAddressesInRange m journal_memory_rest
  journal_memory_addresses_cut m all i e at =
      elim (slice_append_cases (take n xs) (drop (n + count) xs) i e at) [
        | inl front ↦ all i e
            (slice_get-from_take xs n i e front.1)
        | inr behind ↦ journal_memory_addresses_behind m (n + count) xs all behind.0 e behind.2
      ]

  pub journal_memory_opening_cut : IsOpening n (take n xs) → IsOpening n (take n journal_memory_rest)
  journal_memory_opening_cut x =
      subst (IsOpening n)
      (sym (ap (λ m. take m journal_memory_rest) (sym x.long) ∙ take-append_seam (take n xs) (drop (n + count) xs))) x

-- of what a journal holds
module _ (j : Inside) (held : JournalInvariant j) where
  -- each address lies in the base
  pub journal_memory_addresses_in_base : (log : Log) → journal_invariant_log j ≡ log → EventAddressesInRange (length log.base.memory) log.events
  journal_memory_addresses_in_base log is =
      subst (λ (l : Log). EventAddressesInRange (length l.base.memory) l.events) is (subst
      (λ n. EventAddressesInRange n (drop j.processors j.events.items)) (sym held.kept.long)
      (journal_memory_addresses_behind j.addresses j.processors j.events.items held.in_range))

  -- what is checked for races is what is to be checked, behind an opening or not
  pub journal_memory_checked : (first count : ℕ) (all : List Event) → all ≡ j.events.items
      → ((j.kept.cut ≡ 0) × (first ≡ j.processors)) ⊎ ((j.kept.cut ≢ 0) × (first ≡ 0))
      → IsOpeningAsBase (base_of_kept_state j.kept) (take (j.processors + count - first) (drop first all))
      (take count (drop j.processors j.events.items)) (j.processors - first)
  journal_memory_checked first count all is cases =
      subst (λ (xs : List Event). IsOpeningAsBase (base_of_kept_state j.kept) (take (j.processors + count - first) (drop first xs))
      (take count (drop j.processors j.events.items)) (j.processors - first))
      (sym is)
      (opening_as_base_checked (base_of_kept_state j.kept) j.processors first count j.events.items held.opening held.by_processors cases)
