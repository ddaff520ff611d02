-- Two next events that conflict race, and a history is cut after its first race.
use Rattle.std.proofs.Common.{ℕ, ◌≡◌, ◌+◌, ◌<◌, List, ◌++◌, Option, Some, length, take, drop, refl, sym, subst, ◌∙◌, arith}
use Rattle.std.specs.Prelude.{None, IsSome, MatchOption}
use Rattle.std.proofs.lemmas.List.{length-take, take-append-drop}
use Rattle.journal.specs.declared.event.Event.{Event}
use Rattle.journal.specs.Races.{IsFirstRace, Race}
use Rattle.journal.proofs.FromBase.RacesAcrossCut.{race_across_cut_shorter}
use Rattle.journal.proofs.Order.HappensBefore.{happens_before_shorter}
use Rattle.journal.proofs.Order.EventPlacesAndCounts.{event_place_longer, event_place_inside}
use Rattle.lrc_script.specs.Plan.{Plan}
use Rattle.explore.specs.Prefixes.FlatBeginnings.{IsFlatBeginning}
use Rattle.explore.proofs.PrefixRuns.Beginnings.{prefix_beginning_front}

-- a race of a front is one of the whole
first_part_race_longer : (c j : List Event) (i k : ℕ) → Race c i k → Race (c ++ j) i k
first_part_race_longer c j i k r = record {
  before = r.before;
  first = r.first;
  second = r.second;
  first_at = event_place_longer c j i r.first r.first_at;
  second_at = event_place_longer c j k r.second r.second_at;
  apart = r.apart;
  conflict = r.conflict;
  unordered = λ h. r.unordered (happens_before_shorter c j (event_place_inside c k r.second r.second_at) h);
}

first_race_shorter : (c j : List Event) (i k : ℕ) → k < length c → IsFirstRace (c ++ j) i k → IsFirstRace c i k
first_race_shorter c j i k lt first = record {
  race = race_across_cut_shorter c j i k lt first.race;
  least_second = λ m n r. first.least_second m n (first_part_race_longer c j m n r);
  least_first = λ m r. first.least_first m (first_part_race_longer c j m k r);
}

pub first_race_front_length : (es : List Event) (k : ℕ) → k < length es → length (take (k + 1) es) ≡ k + 1
first_race_front_length es k lt = length-take (k + 1) es ∙ omega arith

-- so the first race of a history is that of its front up to it
pub first_race_of_front : (es : List Event) (i k : ℕ) → k < length es → IsFirstRace es i k → IsFirstRace (take (k + 1) es) i k
first_race_of_front es i k lt first =
    let long = first_race_front_length es k lt in
    first_race_shorter (take (k + 1) es) (drop (k + 1) es) i k (omega arith)
    (subst (λ xs. IsFirstRace xs i k) (sym (take-append-drop (k + 1) es)) first)

pub first_race_front_begins : (s : Plan) (es : List Event) (n : ℕ) → IsFlatBeginning s es → IsFlatBeginning s (take n es)
first_race_front_begins s es n begins =
    prefix_beginning_front s (take n es) (drop n es) (subst (IsFlatBeginning s) (sym (take-append-drop n es)) begins)

-- what is there where one of two cases is not so
pub first_race_is_there : {A : Type 0} (o : Option A) (P : Type 0) (Q : A → Type 0) → MatchOption o P Q → ¬ P → IsSome o
first_race_is_there None P Q h isnt = absurd (isnt h)
first_race_is_there (Some x) P Q h isnt = refl

pub first_race_match_some : {A : Type 0} (o : Option A) (x : A) (P : Type 0) (Q : A → Type 0) → o ≡ Some x → MatchOption o P Q → Q x
first_race_match_some o x P Q is h = subst (λ p. MatchOption p P Q) is h
