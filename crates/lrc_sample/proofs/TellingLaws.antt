-- What lines and outcomes tell.
use Rattle.std.proofs.Common.{◌≡◌, ◌∙◌, ◌<◌, ℕ, zero, suc, Bool, true, false, List, Some, slice_get, ap, sym, refl, arith}
use Rattle.std.specs.Prelude.{IsTrue}
use Rattle.std.proofs.lemmas.Option.{same_Some, slice_get_within}
use Rattle.lrc_sample.specs.declared.outcome.SampleOutcome.{SampleOutcome}
use Rattle.lrc_sample.specs.declared.tally.TallyLine.{TallyLine}
use Rattle.lrc_sample.specs.Laws.{SampleFirstLaw, SampleRaceFreeLaw, IsFirstBySampleLaw}
use Rattle.lrc_sample.specs.SampleAnswers.{SampleAnswers}
use Rattle.lrc_sample.specs.Tally.{IsTallyOfOutcome, tally_place_of_seed}
use Rattle.conformance.proofs.Recomputing.Recomputed.{recomputed_race_free_law}

-- a line tells the first run
telling_law_line_first : (outcomes : List SampleOutcome) (line : TallyLine) → IsTallyOfOutcome outcomes line → IsFirstBySampleLaw outcomes line
telling_law_line_first outcomes line is = record {
  some = omega (arith, is.times_are, slice_get_within is.runs 0 (tally_place_of_seed line.seed) is.first);
  within = slice_get_within outcomes (tally_place_of_seed line.seed) line.outcome came;
  came = came;
  first = λ i before at. let r = (is.exactly i).1 at in none i r.0 before r.1;
}
  where
    came : slice_get outcomes (tally_place_of_seed line.seed) ≡ Some line.outcome
    came = (is.exactly (tally_place_of_seed line.seed)).0 (0, is.first)

    none : (i k : ℕ) → i < tally_place_of_seed line.seed → slice_get is.runs k ≡ Some i → ⊥
    none i zero before at =
        let same : tally_place_of_seed line.seed ≡ i = same_Some _ _ (sym is.first ∙ at) in
        absurd (omega (arith, same, before))
    none i (suc k) before at =
        let later = is.rising 0 (suc k) (tally_place_of_seed line.seed) i (omega arith) is.first at in
        absurd (omega (arith, later, before))

pub telling_law_first_run : SampleFirstLaw
telling_law_first_run outcomes lines line tally has = telling_law_line_first outcomes line (tally.each line has)

-- what isn't true is false
telling_law_false_by : (b : Bool) → ¬ IsTrue b → b ≡ false
telling_law_false_by false none = refl
telling_law_false_by true none = absurd (none refl)

pub telling_law_race_free : SampleRaceFreeLaw
telling_law_race_free d s orders answers (r, (by, are)) never =
    let is = by.report in
    let told = recomputed_race_free_law s is.history is.tells.well_formed is.tells.explained is.tells.follows never in
    ap (λ (a : SampleAnswers). a.racy) are
    ∙ telling_law_false_by r.racy (λ yes. let race = is.tells.racy.0 yes in told.0 race.0 race.1 race.2)
