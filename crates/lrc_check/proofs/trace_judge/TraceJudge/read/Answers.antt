use Rattle.std.proofs.Common.{subst, sym}
use Rattle.judge.specs.declared.ill_formed.IllFormed.{IllFormed}
use Rattle.judge.specs.JudgedSizes.{judged_sizes_of}
use Rattle.judge.specs.Why.{IsFirstTrueWhy}
use Rattle.lrc_check.specs.CheckVerdicts.{IsCheckVerdictRace}
use Rattle.lrc_check.proofs.JudgedRaces.{judged_race_if_some}
use Rattle.lrc_check.proofs.LyingTraces.{lying_ill_formed, lying_may_within}
use Rattle.lrc_check.proofs.trace_judge.TraceJudge.read.Goals as goal
use Rattle.lrc_check.proofs.JudgedNext.{judged_next_count, judged_next_front, judged_next_follows, judged_next_asked, judged_next_kept}

pub returns-in-Some-clause-judged : goal.returns-in-Some-clause-judged
returns-in-Some-clause-judged c = λ j next.
    let x = c.args.self.now in
    let s = judged_sizes_of x.sizes in
    let e = c.args.event in
    let judged = next.judged in
    let why = subst (λ t. IsFirstTrueWhy x.lax (judged_sizes_of t) j e c.in-Some.why) judged.front_sizes
    (c.in-Some.ensures j judged.front) in
    let told : IllFormed = record { place = c.count-place.result; why = c.in-Some.why } in
    let place = judged_next_count j x c.count-place.result judged c.count-place.ensures in (
      lying_ill_formed x.model x.lax s j e told judged.faithful (sym place) why,
      subst (λ xs. IsCheckVerdictRace xs x.race) (sym (judged_next_front j e c.count-place.result place)) judged.race,
    )

pub race_with-race-requires-clause-within : goal.race_with-race-requires-clause-within
race_with-race-requires-clause-within c =
    let x = c.args.self.now in
    let e = c.args.event in
    let j = c.requires.next.0 in
    lying_may_within x.lax (judged_sizes_of x.sizes) j e (judged_next_follows j e x c.requires.next.1.judged c.in_default.ensures)

pub lie-requires : goal.lie-requires
lie-requires c =
    let x = c.args.self.now in
    let e = c.args.event in
    let j = c.requires.next.0 in
    let next = c.requires.next.1 in
    let place = judged_next_count j x c.count-place.result next.judged c.count-place.ensures in (
      j,
      judged_next_asked next place (judged_next_follows j e x next.judged c.in_default.ensures)
          (judged_race_if_some j e c.race_with-race.result c.is_some.result c.is_some.ensures (c.race_with-race.ensures j next.judged place)),
    )

pub keep-requires : goal.keep-requires
keep-requires c =
    let x = c.args.self.now in
    let e = c.args.event in
    let j = c.requires.next.0 in
    let next = c.requires.next.1 in
    let place = judged_next_count j x c.count-place.result next.judged c.count-place.ensures in
    let race = c.race_with-race.ensures j next.judged place in
    let racy = judged_race_if_some j e c.race_with-race.result c.is_some.result c.is_some.ensures race in
    let asked = judged_next_asked next place (judged_next_follows j e x next.judged c.in_default.ensures) racy in
    let accepted = rw c.in-None.is at c.in_ok-lie.ensures j asked in
    (j, judged_next_kept e next place accepted race)

pub returns-in-Some-lie-clause-judged : goal.returns-in-Some-lie-clause-judged
returns-in-Some-lie-clause-judged c = λ j next.
    let x = c.args.self.now in
    let e = c.args.event in
    let place = judged_next_count j x c.count-place.result next.judged c.count-place.ensures in
    let race = c.race_with-race.ensures j next.judged place in
    let racy = judged_race_if_some j e c.race_with-race.result c.is_some.result c.is_some.ensures race in
    let asked = judged_next_asked next place (judged_next_follows j e x next.judged c.in_default.ensures) racy in
    let told = rw c.in-Some-lie.is at c.in_ok-lie.ensures j asked in
    (told.0, subst (λ xs. IsCheckVerdictRace xs c.race_with-race.result) (sym told.1) race)

pub returns-in_ok-keep-in-None-clause-judged : goal.returns-in_ok-keep-in-None-clause-judged
returns-in_ok-keep-in-None-clause-judged c = λ j next.
    let x = c.args.self.now in
    let e = c.args.event in
    let place = judged_next_count j x c.count-place.result next.judged c.count-place.ensures in
    let race = c.race_with-race.ensures j next.judged place in
    let racy = judged_race_if_some j e c.race_with-race.result c.is_some.result c.is_some.ensures race in
    let asked = judged_next_asked next place (judged_next_follows j e x next.judged c.in_default.ensures) racy in
    let accepted = rw c.in-None.is at c.in_ok-lie.ensures j asked in
    c.in_ok-keep-in-None.ensures.judged j (judged_next_kept e next place accepted race)
