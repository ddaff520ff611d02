-- What a line tells after one run more.
use Rattle.std.proofs.Common.{◌≡◌, ◌≢◌, ◌∙◌, ◌+◌, ◌<◌, ℕ, suc, zero, inl, inr, List, [], ◌∷◌, ◌++◌, Some, Option, length, slice_get, ap, sym, refl, arith}
use Rattle.std.proofs.lemmas.Option.{same_Some, none-some, slice_get_within}
use Rattle.std.proofs.lemmas.List.{length-append}
use Rattle.base.specs.InOrderOnce.{Has}
use Rattle.base.proofs.SlicesAndCounts.{slice_push_cases, slice_get-append_left, slice_get-last}
use Rattle.base.proofs.JoinedLists.{joined_list_in_order-append, joined_list_in_order_single}
use Rattle.conformance.specs.declared.schedule.Schedule.{Schedule}
use Rattle.lrc_sample.specs.declared.outcome.SampleOutcome.{SampleOutcome}
use Rattle.lrc_sample.specs.declared.tally.TallyLine.{TallyLine}
use Rattle.lrc_sample.specs.Tally.{IsTallyOfOutcome, tally_place_of_seed}

-- the line counts one run more
abbrev pub tally_line_counted : TallyLine → TallyLine
tally_line_counted l = record { outcome = l.outcome; times = l.times + 1; seed = l.seed; schedule = l.schedule }

-- an item stays where it is
pub tally_line_stays : {A : Type 0} (xs : List A) (y : A) (i : ℕ) (x : A) → slice_get xs i ≡ Some x
    → slice_get (xs ++ y ∷ []) i ≡ Some x
tally_line_stays xs y i x at = slice_get-append_left xs (y ∷ []) i (slice_get_within xs i x at) ∙ at

-- a run that came to something else
pub tally_line_other_outcome : (os : List SampleOutcome) (o : SampleOutcome) (line : TallyLine) → line.outcome ≢ o → IsTallyOfOutcome os line
    → IsTallyOfOutcome (os ++ o ∷ []) line
tally_line_other_outcome os o line isnt is = record {
  runs = is.runs;
  rising = is.rising;
  exactly = λ i. (
    λ has. tally_line_stays os o i line.outcome ((is.exactly i).0 has),
    λ at. elim (slice_push_cases os o i line.outcome at)
        [ inl old ↦ (is.exactly i).1 old.1 | inr new ↦ absurd (isnt (sym new.1)) ],
  );
  times_are = is.times_are;
  first = is.first;
}

-- the runs of a line came before
pub tally_line_runs_before : (os : List SampleOutcome) (line : TallyLine) (i : ℕ) → (is : IsTallyOfOutcome os line) → Has is.runs i → i < length os
tally_line_runs_before os line i is has = slice_get_within os i line.outcome ((is.exactly i).0 has)

-- a run that came to the same
pub tally_line_again : (os : List SampleOutcome) (o : SampleOutcome) (line : TallyLine) → line.outcome ≡ o → IsTallyOfOutcome os line
    → IsTallyOfOutcome (os ++ o ∷ []) (tally_line_counted line)
tally_line_again os o line same is = record {
  runs = is.runs ++ length os ∷ [];
  rising = joined_list_in_order-append (λ (i k : ℕ). i < k) is.runs (length os ∷ []) is.rising
      (joined_list_in_order_single (λ (i k : ℕ). i < k) (length os)) before;
  exactly = λ i. (has_at i, at_has i);
  times_are = omega (arith, is.times_are, length-append is.runs (length os ∷ []));
  first = tally_line_stays is.runs (length os) 0 (tally_place_of_seed line.seed) is.first;
}
  where
    before : (a b : ℕ) → Has is.runs a → Has (length os ∷ []) b → a < b
    before a b has (zero, at) =
        let last : length os ≡ b = same_Some (length os) b at in
        omega (arith, last, tally_line_runs_before os line a is has)
    before a b has (suc k, at) = absurd (none-some b at)

    has_at : (i : ℕ) → Has (is.runs ++ length os ∷ []) i → slice_get (os ++ o ∷ []) i ≡ Some line.outcome
    has_at i (k, at) = elim (slice_push_cases is.runs (length os) k i at) [
      | inl old ↦ tally_line_stays os o i line.outcome ((is.exactly i).0 (k, old.1))
      | inr new ↦
          ap (slice_get (os ++ o ∷ [])) (sym new.1) ∙ slice_get-last os o ∙ ap Some (sym same)
    ]

    at_has : (i : ℕ) → slice_get (os ++ o ∷ []) i ≡ Some line.outcome → Has (is.runs ++ length os ∷ []) i
    at_has i at = elim (slice_push_cases os o i line.outcome at) [
      | inl old ↦
          (let r = (is.exactly i).1 old.1 in (r.0, tally_line_stays is.runs (length os) r.0 i r.1))
      | inr new ↦ (length is.runs, slice_get-last is.runs (length os) ∙ ap Some (sym new.0))
    ]

-- a first run
pub tally_line_new : (os : List SampleOutcome) (o : SampleOutcome) (seed : Option ℕ) (schedule : Schedule) → ¬ Has os o
    → tally_place_of_seed seed ≡ length os → IsTallyOfOutcome (os ++ o ∷ []) record { outcome = o; times = 1; seed = seed; schedule = schedule }
tally_line_new os o seed schedule none place = record {
  runs = length os ∷ [];
  rising = joined_list_in_order_single (λ (i k : ℕ). i < k) (length os);
  exactly = λ i. (has_at i, at_has i);
  times_are = refl;
  first = ap Some (sym place);
}
  where
    has_at : (i : ℕ) → Has (length os ∷ []) i → slice_get (os ++ o ∷ []) i ≡ Some o
    has_at i (zero, at) =
        ap (slice_get (os ++ o ∷ [])) (sym (same_Some (length os) i at)) ∙ slice_get-last os o
    has_at i (suc k, at) = absurd (none-some i at)

    at_has : (i : ℕ) → slice_get (os ++ o ∷ []) i ≡ Some o → Has (length os ∷ []) i
    at_has i at = elim (slice_push_cases os o i o at)
        [ inl old ↦ absurd (none (i, old.1)) | inr new ↦ (0, ap Some (sym new.0)) ]
