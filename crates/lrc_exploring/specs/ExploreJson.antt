-- What is promised of the JSON of what was found in a script. Of the lines of outcomes, of schedules and of what leaves something
-- open no more is said than that they stand there.
use Rattle.std.specs.Prelude.{ℕ, suc, ◌≡◌, ◌-◌, ⊤, false, true, Option, Some, None, List, [], ◌∷◌, ◌++◌, codes, length, vec_len}
use Rattle.serde_json.specs.Data.{Data, Members, boolean, no_members, object, put, string}
use Rattle.serde_json.specs.Written.{members_have_float}
use Rattle.journal.specs.declared.event.Kind.{Kind}
use Rattle.journal.specs.declared.event.Kind.TheVariants as kind
use Rattle.conformance.specs.ScheduleTexts.{schedule_text}
use Rattle.explore.specs.declared.outcomes.answer.Explored.{Explored}
use Rattle.explore.specs.declared.outcomes.answer.Hang.{Hang}
use Rattle.explore.specs.declared.outcomes.answer.Hanging.{Hanging}
use Rattle.explore.specs.declared.outcomes.answer.Hanging.TheVariants as hanging
use Rattle.explore.specs.declared.outcomes.answer.RacyEvents.{RacyEvents}
use Rattle.explore.specs.declared.outcomes.answer.Verdict.{Verdict}
use Rattle.explore.specs.declared.outcomes.answer.Verdict.TheVariants as verdict
use Rattle.explore.specs.declared.outcomes.showing.ExploredUntil.{ExploredUntil}
use Rattle.explore.specs.declared.outcomes.showing.Showing.{Showing}
use Rattle.explore.specs.declared.outcomes.showing.Showing.TheVariants as showing
use Rattle.explore.specs.declared.rules.showing.AllowedOutcomes.{AllowedOutcomes}
use Rattle.explore.specs.declared.rules.showing.AllowedShowing.{AllowedShowing}
use Rattle.explore.specs.declared.rules.showing.AllowedShowing.TheVariants as allowing
use Rattle.explore.specs.declared.rules.showing.AllowedUntil.{AllowedUntil}
use Rattle.lrc_json.specs.EventJson.{json_events}
use Rattle.lrc_json.specs.PutTogether.{json_line, json_list, json_number, json_telling, members_so_far}
use Rattle.lrc_json.specs.declared.members.Members.{Members as Object}

-- the turns of a schedule
abbrev pub with_schedule : List ℕ → Members → Members
with_schedule turns ms = put (codes "schedule") (string (schedule_text turns)) ms

-- a schedule whose last event races with the one at a place, with its turns
abbrev pub explored_race : RacyEvents → List ℕ → Members
explored_race racy turns =
    with_schedule turns (put (codes "second") (json_number (length racy.events.items - 1)) (put (codes "first") (json_number racy.first)
    (put (codes "events") (json_list (json_events 0 racy.events.items)) (json_telling (codes "race")))))

-- what ends a wait
abbrev pub with_awaited : Kind → Members → Members
with_awaited (kind.Acquire lock) ms = put (codes "lock") (json_number lock) ms
with_awaited (kind.Await flag) ms = put (codes "flag") (json_number flag) ms
with_awaited _ ms = put (codes "barrier") (boolean true) ms

abbrev pub explored_wait : ℕ → Kind → Members
explored_wait p awaited = with_awaited awaited (put (codes "processor") (json_number p) no_members)

-- what each processor waits for that waits, from this one on
abbrev pub explored_waits : ℕ → List (Option Kind) → List Data
explored_waits p [] = []
explored_waits p (None ∷ ws) = explored_waits (suc p) ws
explored_waits p (Some awaited ∷ ws) = object (explored_wait p awaited) ∷ explored_waits (suc p) ws

-- a schedule that hangs, with its turns
abbrev pub explored_hang : Hang → List ℕ → Members
explored_hang hang turns =
    with_schedule turns (put (codes "waits") (json_list (explored_waits 0 hang.waits.items))
    (put (codes "events") (json_list (json_events 0 hang.events.items)) (json_telling (codes "hang"))))

-- unless memory ran out, these are its members for some turns, and none has a float
abbrev pub HasScheduleMembers : (List ℕ → Members) → Object → Type 0
HasScheduleMembers ms x = x.fault ≡ None → (turns : List ℕ) × (members_so_far x ≡ ms turns) × (members_have_float (members_so_far x) ≡ false)

-- the line of an object, for some turns
abbrev pub IsScheduleLine : (List ℕ → Members) → List ℕ → Type 0
IsScheduleLine ms line = (turns : List ℕ) × (line ≡ json_line (ms turns))

-- the lines before a hang: that of a race, or some for the outcomes
abbrev pub IsVerdictLines : Verdict → List ℕ → Type 0
IsVerdictLines (verdict.Racy racy) lines = IsScheduleLine (explored_race racy) lines
IsVerdictLines _ lines = ⊤

-- the line of a hang, if there is one
abbrev pub IsHangLine : Hanging → List ℕ → Type 0
IsHangLine (hanging.Hangs hang) line = IsScheduleLine (explored_hang hang) line
IsHangLine _ line = line ≡ []

-- the lines before the end
abbrev pub IsExploredFront : Explored → List ℕ → Type 0
IsExploredFront explored front = (first hang : List ℕ) × IsVerdictLines explored.verdict first × IsHangLine explored.hanging hang × (front ≡ first ++ hang)

-- the name of a verdict
abbrev pub explored_verdict : Verdict → List ℕ
explored_verdict verdict.RaceFree = codes "race-free"
explored_verdict (verdict.Racy racy) = codes "racy"
explored_verdict verdict.Undecided = codes "undecided"

-- whether a schedule hangs
abbrev pub explored_hangs : Hanging → List ℕ
explored_hangs hanging.Never = codes "never"
explored_hangs (hanging.Hangs hang) = codes "hangs"
explored_hangs hanging.Undecided = codes "undecided"

-- how far outcomes and hangs are known, of a script of which no race was found
abbrev pub with_known : Verdict → Explored → Members → Members
with_known (verdict.Racy racy) explored ms = ms
with_known _ explored ms =
    put (codes "all") (boolean explored.are_all) (put (codes "outcomes") (json_number (vec_len explored.outcomes))
    (put (codes "hangs") (string (explored_hangs explored.hanging)) ms))

-- the end
abbrev pub explored_end : Explored → Members
explored_end explored = with_known explored.verdict explored
    (put (codes "states") (json_number explored.states) (put (codes "verdict") (string (explored_verdict explored.verdict)) (json_telling (codes "end"))))

-- what was found of all schedules
abbrev pub IsExploredJson : Explored → List ℕ → Type 0
IsExploredJson explored text = (front : List ℕ) × IsExploredFront explored front × (text ≡ front ++ json_line (explored_end explored))

-- the same, with some lines on what leaves something open
abbrev pub IsOpenJson : Explored → List ℕ → Type 0
IsOpenJson explored text = (front gaps : List ℕ) × IsExploredFront explored front × (text ≡ (front ++ gaps) ++ json_line (explored_end explored))

-- how many outcomes the rules allow
abbrev pub allowed_rules : AllowedOutcomes → Members
allowed_rules allowed = put (codes "beginnings") (json_number allowed.beginnings) (put (codes "all") (boolean allowed.are_all)
    (put (codes "outcomes") (json_number (vec_len allowed.outcomes)) (json_telling (codes "rules"))))

-- the same as of all schedules, with some lines on what the rules allow, and one on how many
abbrev pub IsAllowedJson : Explored → AllowedOutcomes → List ℕ → Type 0
IsAllowedJson explored allowed text = (front lines : List ℕ) × IsExploredFront explored front
    × (text ≡ ((front ++ lines) ++ json_line (allowed_rules allowed)) ++ json_line (explored_end explored))

-- the lines before the end, if words are asked for: that of a run that ends with them, or of a race
abbrev pub IsShowingFront : Showing → List ℕ → Type 0
IsShowingFront (showing.Shown run) front = ⊤
IsShowingFront (showing.Racy racy) front = IsScheduleLine (explored_race racy) front
IsShowingFront _ front = front ≡ []

-- whether a run ends with them
abbrev pub with_showing : Showing → Members → Members
with_showing (showing.Shown run) ms = put (codes "until") (string (codes "shown")) ms
with_showing showing.Never ms = put (codes "until") (string (codes "never")) ms
with_showing (showing.Racy racy) ms = put (codes "verdict") (string (codes "racy")) ms
with_showing showing.Undecided ms = put (codes "until") (string (codes "undecided")) ms

abbrev pub showing_end : ExploredUntil → Members
showing_end explored = put (codes "states") (json_number explored.states) (with_showing explored.showing (json_telling (codes "end")))

-- whether a run ends with words
abbrev pub IsShowingJson : ExploredUntil → List ℕ → Type 0
IsShowingJson explored text = (front : List ℕ) × IsShowingFront explored.showing front × (text ≡ front ++ json_line (showing_end explored))

-- whether the rules allow such a run
abbrev pub allowed_answer : AllowedShowing → List ℕ
allowed_answer (allowing.Shown run) = codes "shown"
allowed_answer allowing.Never = codes "never"
allowed_answer allowing.Undecided = codes "undecided"

abbrev pub allowed_until_rules : AllowedUntil → Members
allowed_until_rules allowed =
    put (codes "beginnings") (json_number allowed.beginnings) (put (codes "until") (string (allowed_answer allowed.showing)) (json_telling (codes "rules")))

-- the same, with a line on a run if the rules allow one, and one on what they say
abbrev pub IsAllowedShowingJson : ExploredUntil → AllowedUntil → List ℕ → Type 0
IsAllowedShowingJson explored allowed text = (front lines : List ℕ) × IsShowingFront explored.showing front
    × (text ≡ ((front ++ lines) ++ json_line (allowed_until_rules allowed)) ++ json_line (showing_end explored))
