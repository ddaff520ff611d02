use Rattle.std.proofs.Common.{ℕ, List, Option, MatchOption, ap, sym, subst, arith}
use Rattle.std.specs.Prelude.{IfOk}
use Rattle.journal.specs.declared.event.Event.{Event}
use Rattle.journal.specs.Races.{IsFirstRace, RaceFree}
use Rattle.journal.specs.Sizes.{Sizes}
use Rattle.judge.specs.SizedHistory.{IsHistoryInSizes, SizedHistory}
use Rattle.judge.specs.JudgedSizes.{AreJudgedSizesSmall, AreStreamedSizes}
use Rattle.lrc_script.specs.Lawful.{IsLawful}
use Rattle.lrc_script.specs.Plan.{Plan, plan_of}
use Rattle.conformance.specs.Follows.{plan_sizes}
use Rattle.explore.specs.Prefixes.FlatBeginnings.{IsFlatBeginning}
use Rattle.judge.proofs.SizesJudged.{sizes_judged_small}
use Rattle.explore.proofs.Lengths.{history_length_few}
use Rattle.explore.proofs.search.racing_history.racing_history_race.Goals as goal

lawful_small : (s : Plan) → IsLawful s → AreJudgedSizesSmall (plan_sizes s)
lawful_small s lawful =
    let sizes = lawful.but_uneven.sizes in
    record {
      processors = sizes.most_processors;
      pages = sizes.most_pages;
      words = sizes.most_words;
      locks = sizes.locks;
      flags = sizes.flags;
    }

begins_in_sizes : (s : Plan) (g : List Event) → IsFlatBeginning s g → IsHistoryInSizes (plan_sizes s) g
begins_in_sizes s g begins k e at =
    let follows = begins.well_formed k e at in record { processor = follows.processor; kind = follows.in_range }

pub unwrap-history-requires : goal.unwrap-history-requires
unwrap-history-requires c =
    let s = plan_of c.args.script.now in
    let g = c.args.events.now in
    let same = sym c.racing_history_sizes.ensures in
    c.new.ensures.fits.1 (record {
      judged = subst AreStreamedSizes same (sizes_judged_small (plan_sizes s) (lawful_small s c.requires.lawful)).streamed;
      opening = omega arith;
      few_opening = omega arith;
      few = (let few = history_length_few s g c.requires.lawful c.requires.begins in omega arith);
      within = subst (λ (t : Sizes). IsHistoryInSizes t g) same (begins_in_sizes s g c.requires.begins);
    })

pub returns : goal.returns
returns c =
    let is = rw c.unwrap-history.ensures at c.new.ensures.value in
    subst (λ j. IfOk c.first_race.result (λ (o : Option (ℕ × ℕ)). MatchOption o (RaceFree j) (λ r. IsFirstRace j r.0 r.1)))
    (ap (λ (h : SizedHistory). h.events) is) c.first_race.ensures
