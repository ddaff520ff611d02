-- Schedules: the turns that they name, and their text.
use Rattle.std.specs.Prelude.{ℕ, zero, suc, ◌≡◌, ◌≢◌, ◌==◌, ◌≤◌, ◌⊎◌, ◌+◌, ◌↔◌, List, [], ◌∷◌, ◌++◌, Option, Some, None, if◌then◌else◌, codes, replicate, slice_get}
use Rattle.std.specs.Fmt.{decimal}
use Rattle.std.specs.Option.{option_map_or}
use Rattle.lrc_script.specs.Plan.{Plan}
use Rattle.lrc_script.specs.LineReading.{line_read_number, parts_of_read_line}
use Rattle.conformance.specs.OrderedTurns.{ordered_turns_of_seed}
use Rattle.conformance.specs.declared.cause.Cause.TheVariants.{Stuck}
use Rattle.conformance.specs.declared.schedule.Misfit.{Misfit}
use Rattle.conformance.specs.declared.schedule.Misfit.TheVariants.{NoProcessor}
use Rattle.conformance.specs.declared.schedule.ScheduleFault.{ScheduleFault}
use Rattle.conformance.specs.declared.schedule.ScheduleFault.TheVariants as fault

-- the orders of a run by a schedule: its own turns stand for the first round, and rounds by rising number follow
abbrev pub schedule_orders : Plan → List ℕ → ℕ → List ℕ
schedule_orders s turns zero = turns
schedule_orders s turns (suc round) = ordered_turns_of_seed s None round

-- so many turns of a processor in a row
abbrev pub schedule_item_text : ℕ → ℕ → List ℕ
schedule_item_text p count = if count == 1 then decimal p else decimal p ++ (codes ":" ++ decimal count)

-- so many turns of p, and those behind them
abbrev pub schedule_turns_text : ℕ → ℕ → List ℕ → List ℕ
schedule_turns_text p count [] = schedule_item_text p count
schedule_turns_text p count (q ∷ qs) =
    if q == p then schedule_turns_text p (count + 1) qs else schedule_item_text p count ++ (codes "," ++ schedule_turns_text q 1 qs)

-- the text of a schedule
abbrev pub schedule_text : List ℕ → List ℕ
schedule_text [] = codes "-"
schedule_text (p ∷ ps) = schedule_turns_text p 1 ps

-- so many turns of a processor in a row, if there are some
abbrev pub schedule_text_repeated : Option ℕ → Option ℕ → Option (List ℕ)
schedule_text_repeated (Some p) (Some count) = if count == 0 then None else Some (replicate count p)
schedule_text_repeated _ _ = None

-- the turns that an item gives, by its parts between colons
abbrev pub schedule_text_item_turns : List (List ℕ) → Option (List ℕ)
schedule_text_item_turns (p ∷ []) = schedule_text_repeated (line_read_number p) (Some 1)
schedule_text_item_turns (p ∷ count ∷ []) = schedule_text_repeated (line_read_number p) (line_read_number count)
schedule_text_item_turns _ = None

-- these turns, and those that items give
abbrev pub schedule_text_turns_after : List ℕ → List (List ℕ) → Option (List ℕ)
schedule_text_turns_after turns [] = Some turns
schedule_text_turns_after turns (item ∷ items) =
    option_map_or (λ new. schedule_text_turns_after (turns ++ new) items) (schedule_text_item_turns (parts_of_read_line 58 item)) None

-- a text that gives these turns: `-`, or items between commas
abbrev pub IsScheduleText : List ℕ → List ℕ → Type 0
IsScheduleText text turns = ((text ≡ codes "-") × (turns ≡ [])) ⊎ (schedule_text_turns_after [] (parts_of_read_line 44 text) ≡ Some turns)

-- the schedule has this turn, counted from 1, and its number is no processor's exactly if that is what is said
pub record IsScheduleMisfit (s : Plan) (turns : List ℕ) (turn : ℕ) (misfit : Misfit) : Type 0 where
  pub processor : ℕ
  pub place : ℕ
  pub turn_is : turn ≡ place + 1
  pub at : slice_get turns place ≡ Some processor
  pub none : (misfit ≡ NoProcessor) ↔ (s.processors ≤ processor)

-- why a run by a schedule came to no end: the schedule doesn't fit, or what ends any run by turns; that none gets on is an
-- end
abbrev pub IsScheduleFault : Plan → List ℕ → ScheduleFault → Type 0
IsScheduleFault s turns (fault.Run why) = why.cause ≢ Stuck
IsScheduleFault s turns (fault.Misfit turn misfit) = IsScheduleMisfit s turns turn misfit
