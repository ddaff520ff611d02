-- What is answered of a history that is to be looked at as it is.
use Rattle.std.specs.Prelude.{ℕ, ◌≡◌, ◌≤◌, ◌⊎◌, ◌↔◌, All, IfSome, IsSome, MatchOption, Option, List, length, map, replicate}
use Rattle.std.specs.Global.{Vec}
use Rattle.base.specs.Limits.{most_held}
use Rattle.journal.specs.declared.event.Event.{Event}
use Rattle.journal.specs.Sizes.{Sizes, addresses}
use Rattle.journal.specs.ReplayMemory.{Replays, memory_after}
use Rattle.journal.specs.EventsInRange.{EventAddressesInRange, EventProcessorsInRange}
use Rattle.journal.specs.Races.{IsFirstRace, RaceFree}
use Rattle.judge.specs.Miscounted.{IsEventInSizes}
use Rattle.judge.specs.JudgedSizes.{AreJudgedSizesSmall}
use Rattle.c_library.specs.declared.call_fault.CallFault.{CallFault}
use Rattle.c_library.specs.declared.call_fault.CallFault.TheVariants.{BadSizes, BadRoom, TooMany, BadEvent, NoMemory}
use Rattle.c_library.specs.declared.given.GivenEvent.{GivenEvent}
use Rattle.c_library.specs.declared.given.GivenSizes.{GivenSizes}
use Rattle.c_library.specs.declared.told_verdict.ToldRace.{ToldRace}
use Rattle.c_library.specs.Given.{HasGivenKind, given_event_of, given_sizes}
use Rattle.c_library.specs.ToldVerdicts.{told_verdict_race}

-- there is such a kind, and the numbers that it names are within the sizes
pub record IsGivenHistoryEvent (s : Sizes) (e : GivenEvent) : Type 0 where
  pub known : HasGivenKind e
  pub within : IsEventInSizes s (given_event_of e)

abbrev pub AreGivenHistoryEvents : Sizes → List GivenEvent → Type 0
AreGivenHistoryEvents s es = All (IsGivenHistoryEvent s) es

-- there is a word for each address, the sizes are small, and the events are within them; `room` is how many words there are
pub record CanGivenHistoryBeTaken (s : GivenSizes) (room : ℕ) (es : List GivenEvent) : Type 0 where
  pub small : AreJudgedSizesSmall (given_sizes s)
  pub room_is : room ≡ addresses (given_sizes s)
  pub few : length es ≤ most_held
  pub within : AreGivenHistoryEvents (given_sizes s) es

-- all that was handed in has a meaning, and these are the events
pub record IsGivenHistory (s : GivenSizes) (room : ℕ) (es : List GivenEvent) (j : List Event) : Type 0 where
  pub taken : CanGivenHistoryBeTaken s room es
  pub is : j ≡ map given_event_of es
  pub few : length j ≤ most_held
  pub processors : EventProcessorsInRange s.processors j
  pub addresses : EventAddressesInRange (addresses (given_sizes s)) j

-- the fault is that of the first thing handed in that has no meaning; of memory, if all have one
abbrev pub IsGivenHistoryFault : GivenSizes → ℕ → List GivenEvent → CallFault → Type 0
IsGivenHistoryFault s room es BadSizes = ¬ AreJudgedSizesSmall (given_sizes s)
IsGivenHistoryFault s room es BadRoom = AreJudgedSizesSmall (given_sizes s) × (¬ (room ≡ addresses (given_sizes s)))
IsGivenHistoryFault s room es TooMany =
    AreJudgedSizesSmall (given_sizes s) × (room ≡ addresses (given_sizes s)) × (¬ (length es ≤ most_held))
IsGivenHistoryFault s room es BadEvent = AreJudgedSizesSmall (given_sizes s) × (room ≡ addresses (given_sizes s))
    × (length es ≤ most_held) × (¬ AreGivenHistoryEvents (given_sizes s) es)
IsGivenHistoryFault s room es NoMemory = CanGivenHistoryBeTaken s room es
IsGivenHistoryFault s room es _ = ⊥

-- this is what is told of the first race
pub record IsGivenHistoryRaceTold (s : GivenSizes) (es : List GivenEvent) (told : ToldRace) : Type 0 where
  pub taken : CanGivenHistoryBeTaken s (addresses (given_sizes s)) es
  pub race : Option (ℕ × ℕ)
  pub first : MatchOption race (RaceFree (map given_event_of es)) (λ r. IsFirstRace (map given_event_of es) r.0 r.1)
  pub is : told ≡ told_verdict_race race

-- the words of the memory after the events, if that is what the loads answer; else the words are as before
abbrev pub IsGivenHistoryReplayTold : GivenSizes → List GivenEvent → List ℕ → List ℕ → ℕ → Type 0
IsGivenHistoryReplayTold s es before after replays =
    let zeros = replicate (addresses (given_sizes s)) 0 in
    ((replays ≡ 1) × Replays zeros (map given_event_of es) × (after ≡ memory_after zeros (map given_event_of es)))
    ⊎ ((replays ≡ 0) × (¬ Replays zeros (map given_event_of es)) × (after ≡ before))

-- all that was handed in has a meaning, and these are the words after the events, if that is what the loads answer
pub record IsGivenHistoryReplayed (s : GivenSizes) (room : ℕ) (es : List GivenEvent) (words : Option (Vec ℕ)) : Type 0 where
  pub taken : CanGivenHistoryBeTaken s room es
  pub replays : IsSome words ↔ Replays (replicate room 0) (map given_event_of es)
  pub memory : IfSome words (λ v. v.items ≡ memory_after (replicate room 0) (map given_event_of es))
  pub long : IfSome words (λ v. length v.items ≡ room)
