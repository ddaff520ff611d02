use Rattle.std.proofs.Common.{◌≡◌, ◌<◌, ℕ, length, slice_index, slice_set, subst, sym, arith}
use Rattle.judge.specs.CutRows.{cut_entry}
use Rattle.judge.proofs.TellingCuts.{cut_of_equal}
use Rattle.judge.proofs.known_cuts.KeepingCuts.{keeping_cut_pushed, keeping_cut_without_own}
use Rattle.judge.proofs.known_cuts.KnownCuts.place_of.Goals as goal

pub returns-in-Some-clause-placed : goal.returns-in-Some-clause-placed
returns-in-Some-clause-placed c =
    let p = c.args.processor in
    let t = c.args.cut.now in
    let found = c.recent_place.ensures c.in-Some.place c.in-Some.is in
    let inside : p < length t = omega arith in (
      found.0,
      λ j is. cut_of_equal j p (slice_index (slice_set t p 0)) (cut_entry c.args.self.now.cuts c.in-Some.place) (λ q. sym (found.1 q))
          (keeping_cut_without_own j t p inside is),
    )

pub returns-clause-placed : goal.returns-clause-placed
returns-clause-placed c =
    let p = c.args.processor in
    let t = c.args.cut.now in
    let n = c.len-place.result in
    let pushed = c.push.new.self in
    let new = c.mark.new.self in
    let place : n ≡ c.args.self.now.cuts.count = c.len-place.ensures in
    let last = subst (λ m. (q : ℕ) → cut_entry pushed m q ≡ slice_index t q) (sym place) c.in_ok-push.ensures.last in
    let more = c.in_ok-push.ensures.count in
    let same = c.mark.ensures.count in
    let inside : p < length t = omega arith in (
      omega arith,
      λ j is. cut_of_equal j p (slice_index (slice_set t p 0)) (cut_entry new n)
          (keeping_cut_pushed pushed new n p t inside last c.mark.ensures.marked)
          (keeping_cut_without_own j t p inside is),
    )
