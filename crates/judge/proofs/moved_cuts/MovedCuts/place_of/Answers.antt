use Rattle.std.proofs.Common.{◌≡◌, suc, ◌+◌, ◌-◌, ◌<◌, length, slice_index, slice_set, subst, sym, refl, ◌∙◌, arith}
use Rattle.std.proofs.lemmas.Option.{get_or_from_slice_get, slice_get_read}
use Rattle.judge.specs.MovedCuts.{IsMovedCut, KeepsCuts}
use Rattle.judge.proofs.moved_cuts.MovingCuts.{moving_cut_told}
use Rattle.judge.proofs.moved_cuts.MovedCuts.place_of.Goals as goal

pub returns-then-place-gt0-clause-moved : goal.returns-then-place-gt0-clause-moved
returns-then-place-gt0-clause-moved c =
    let x = c.args.self.now in
    let places = x.places in
    let place = c.index-place.result.now in
    let long = c.requires.long in
    let inside : c.args.cut < length places.items = omega (arith, places.ok.0, c.if-cut-len.false) in
    let read : slice_index places.items c.args.cut ≡ place =
    get_or_from_slice_get places.items c.args.cut place 0
    (slice_get_read places.items (length places.items) c.args.cut place refl inside c.index-place.ensures) in
    let one : place ≡ suc (place - 1) = omega (arith, c.if-place-gt0.true) in
    (c.requires, λ _. c.requires.moved c.args.cut (place - 1) (read ∙ one))

pub returns-clause-moved : goal.returns-clause-moved
returns-clause-moved c =
    let x = c.args.self.now in
    let old = c.args.old.now in
    let cut = c.args.cut in
    let new = c.push.new.self in
    let place : c.len-place.result ≡ x.cuts.count = c.len-place.ensures in
    let long = c.requires.long in
    let kept : KeepsCuts x.cuts new = record { more = c.push.ensures.more; same = c.push.ensures.same } in
    let here : IsMovedCut old new cut x.cuts.count = record {
      within = (let count = c.in_ok-push.ensures.count in omega arith);
      same = λ q. c.in_ok-push.ensures.last q ∙ c.row.ensures.entries q;
    } in
    let inside : cut < length x.places.items = omega (arith, x.places.ok.0, c.if-cut-len.false) in (
      record {
        some = c.requires.some;
        width = c.push.ensures.width ∙ c.requires.width;
        long = long;
        moved = λ k m told.
            moving_cut_told old x.cuts new x.places.items cut inside kept here c.requires.moved k m
            (subst (λ n. slice_index (slice_set x.places.items cut (n + 1)) k ≡ suc m) place told);
      },
      λ _. subst (IsMovedCut old new cut) (sym place) here,
    )
