use Rattle.std.proofs.Common.{◌≡◌, false, true≢false, Option, List, sym}
use Rattle.std.specs.Prelude.{None, Some, MatchOption, is_some}
use Rattle.journal.specs.declared.event.Event.{Event}
use Rattle.judge.specs.JudgedSizes.{judged_sizes_of}
use Rattle.judge.specs.FrontTells.{FrontTellsHistory}
use Rattle.lrc_check.proofs.JudgedRaces.{judged_race_if_some}
use Rattle.lrc_check.proofs.LyingTraces.{lying_may_within}
use Rattle.lrc_check.proofs.JudgedNext.{judged_next_count, judged_next_follows, judged_next_asked, judged_next_kept}
use Rattle.lrc_check.proofs.trace_judge.TraceJudge.goes_on.Goals.{else-unraced-via-then-unraced+else-is_some-2, else-unraced-via-else-unraced}
use Rattle.lrc_check.proofs.trace_judge.TraceJudge.goes_on.Goals as goal

-- where nothing is told, what is said of that holds
not_told : {A : Type 0} (o : Option A) (P : Type 0) (Q : A → Type 0) → false ≡ is_some o → MatchOption o P Q → P
not_told None P Q none held = held
not_told (Some x) P Q none held = absurd (true≢false (sym none))

pub race_with-race-requires-clause-within : goal.race_with-race-requires-clause-within
race_with-race-requires-clause-within c =
    let x = c.args.self.now in
    let e = c.args.event in
    let j = c.requires.next.0 in
    let next = c.requires.next.1 in
    let may = λ (h : List Event) (tells : FrontTellsHistory h x.front). not_told c.may_follow.result _ _ c.if-is_some.ensures (c.may_follow.ensures h tells) in
    lying_may_within x.lax (judged_sizes_of x.sizes) j e (judged_next_follows j e x next.judged may)

pub is_made-requires : goal.is_made-requires
is_made-requires c =
    let x = c.args.self.now in
    let e = c.args.event in
    let j = c.requires.next.0 in
    let next = c.requires.next.1 in
    let may = λ (h : List Event) (tells : FrontTellsHistory h x.front). not_told c.may_follow.result _ _ c.if-is_some.ensures (c.may_follow.ensures h tells) in
    let place = judged_next_count j x c.count-place.result next.judged c.count-place.ensures in
    let racy = judged_race_if_some j e c.race_with-race.result c.is_some-2.result c.is_some-2.ensures (c.race_with-race.ensures j next.judged place) in
    (j, judged_next_asked next place (judged_next_follows j e x next.judged may) racy)

pub keep-requires : goal.keep-requires
keep-requires c =
    let x = c.args.self.now in
    let e = c.args.event in
    let j = c.requires.next.0 in
    let next = c.requires.next.1 in
    let may = λ (h : List Event) (tells : FrontTellsHistory h x.front). not_told c.may_follow.result _ _ c.if-is_some.ensures (c.may_follow.ensures h tells) in
    let place = judged_next_count j x c.count-place.result next.judged c.count-place.ensures in
    let race = c.race_with-race.ensures j next.judged place in
    let racy = judged_race_if_some j e c.race_with-race.result c.is_some-2.result c.is_some-2.ensures race in
    let made = c.is_made.ensures c.if-not-is_made.false j (judged_next_asked next place (judged_next_follows j e x next.judged may) racy) in
    (j, judged_next_kept e next place made race)

pub returns-clause-judged : goal.returns-clause-judged
returns-clause-judged c = λ goes j next.
    let x = c.args.self.now in
    let e = c.args.event in
    let may = λ (h : List Event) (tells : FrontTellsHistory h x.front). not_told c.may_follow.result _ _ c.if-is_some.ensures (c.may_follow.ensures h tells) in
    let place = judged_next_count j x c.count-place.result next.judged c.count-place.ensures in
    let race = c.race_with-race.ensures j next.judged place in
    let racy = judged_race_if_some j e c.race_with-race.result c.is_some-2.result c.is_some-2.ensures race in
    let made = c.is_made.ensures c.if-not-is_made.false j (judged_next_asked next place (judged_next_follows j e x next.judged may) racy) in
    c.in_ok-keep.ensures.judged j (judged_next_kept e next place made race)
