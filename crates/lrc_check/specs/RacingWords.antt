-- Words that race, each with its first race.
use Rattle.std.specs.Prelude.{ℕ, ◌≡◌, ◌≤◌, ◌<◌, Bool, true, false, ◌&&◌, List, [], Some, length, map}
use Rattle.base.specs.InOrderOnce.{Has, InOrder}
use Rattle.journal.specs.declared.event.Event.{Event}
use Rattle.journal.specs.Events.{event_address}
use Rattle.journal.specs.Races.{Race}
use Rattle.judge.specs.NearestRaces.{IsNearestRaceTo}
use Rattle.lrc_check.specs.declared.checked.Checked.{Checked}
use Rattle.lrc_check.specs.Unprotected.{may_unprotected_be_sought}
use Rattle.lrc_check.specs.declared.racing_words.RacingWord.{RacingWord}
use Rattle.lrc_check.specs.declared.racing_words.RacingWords.{RacingWords}

-- of the races of two accesses of a, the one with the least second place, and among these with the greatest first one
pub record IsFirstRaceOfWord (j : List Event) (a i k : ℕ) : Type 0 where
  pub race : Race j i k
  pub address : race.conflict.address ≡ a
  pub least_second : (m n : ℕ) (r : Race j m n) → r.conflict.address ≡ a → k ≤ n
  pub greatest_first : (m : ℕ) → Race j m k → m ≤ i

-- the word at a is told
pub record IsRacingWordTold (found : List RacingWord) (a : ℕ) : Type 0 where
  pub word : RacingWord
  pub has : Has found word
  pub address : word.address ≡ a

-- these are the words that race, all of them, each with its first race, in the order in which these end: so each is told once
pub record AreRacingWords (j : List Event) (found : List RacingWord) : Type 0 where
  pub each : (x : RacingWord) → Has found x → IsFirstRaceOfWord j x.address x.first x.second
  pub all : (i k : ℕ) (r : Race j i k) → IsRacingWordTold found r.conflict.address
  pub order : InOrder (λ (x y : RacingWord). x.second < y.second) found

-- if all races are asked for, the words that race in these events; none otherwise
abbrev pub AreRacingWordsAsked : Bool → List Event → List RacingWord → Type 0
AreRacingWordsAsked true j found = AreRacingWords j found
AreRacingWordsAsked false j found = found ≡ []

-- all words that race are looked for in a trace that is faithful, if that is asked for
abbrev pub racing_looked_for : Bool → Checked → Bool
racing_looked_for asked x = may_unprotected_be_sought x.verdict && asked

-- the words that race in these events are kept, and which these are
pub record IsRacingWordsOf (j : List Event) (x : RacingWords) : Type 0 where
  pub tells : AreRacingWords j x.words.items
  pub told : x.told.keys ≡ map (λ (w : RacingWord). w.address) x.words.items

-- e, which comes next, races last with the event at this word's first place, and accesses the word
pub record RacesNext (j : List Event) (e : Event) (word : RacingWord) : Type 0 where
  pub place : word.second ≡ length j
  pub address : event_address e.kind ≡ Some word.address
  pub nearest : IsNearestRaceTo j e (Some word.first)
