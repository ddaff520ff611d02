use Rattle.std.proofs.Common.{◌≡◌, ℕ, ◌++◌, ◌∷◌, [], List, Option, Some, length, false, not, slice_index, sym, ap, ◌∙◌, true≢false, arith}
use Rattle.std.specs.Prelude.{None}
use Rattle.std.specs.Option.{is_some}
use Rattle.journal.specs.declared.event.Event.{Event}
use Rattle.journal.specs.Races.{Race}
use Rattle.judge.specs.CutRows.{cut_entry}
use Rattle.judge.specs.NearestRaces.{IsNearestRaceTo}
use Rattle.judge.proofs.TellingCuts.{cut_of_equal, cut_of_present}
use Rattle.judge.proofs.nearest_races.NearestRaces.first.Goals as goal

-- where no event is the nearest, none races
none_races : (j : List Event) (e : Event) (o : Option ℕ) → is_some o ≡ false → IsNearestRaceTo j e o → (i : ℕ)
    → ¬ Race (j ++ e ∷ []) i (length j)
none_races j e None is none = none
none_races j e (Some k) is some = absurd (true≢false is)

pub returns-then-is_none : goal.returns-then-is_none
returns-then-is_none c =
    none_races c.args.events.now c.args.event c.nearest.result
    (c.is_none.ensures ∙ ap (λ b. not b) c.if-is_none.true) (c.nearest.ensures c.args.events.now c.requires.tells)

pub first_race_to-requires : goal.first_race_to-requires
first_race_to-requires c =
    let tells = c.requires.tells in
    let present = tells.present in
    let lt = c.requires.processor in
    let p = c.args.event.processor in
    cut_of_equal c.args.events.now p (cut_entry c.args.self.now.cuts.processors p) (slice_index c.of.result.now)
    (λ q. sym (c.of.ensures.entries q)) (cut_of_present tells.cuts p (omega arith))
