use Rattle.std.proofs.Common.{refl, sym, subst, ap, ◌∙◌, arith}
use Rattle.journal.specs.Sizes.{Sizes}
use Rattle.turn.specs.Chairs.{ChairLockId}
use Rattle.cluster.specs.Copies.Local.{new_local}
use Rattle.cluster.specs.Copies.Sound.{AreSoundSizes}
use Rattle.cluster.specs.KeptViews.{view_of_nothing}
use Rattle.cluster.proofs.StartingProcessors.{starting_processors_covered}
use Rattle.cluster.proofs.cluster.Cluster.lawful.Goals as goal

pub seat_all-all-requires-clause-chairs : goal.seat_all-all-requires-clause-chairs
seat_all-all-requires-clause-chairs g c κs within =
    let made = c.in_ok-cluster.ensures in
    let size = ap (λ (x : Sizes). x.processors) made.sizes in (
      (let long = made.chairs.all in omega arith),
      λ p x at. (let f = made.chairs.each p x at in record {
        lock_is = refl;
        place_is = f.place_is;
        view_is = f.view_is ∙ ap view_of_nothing made.sizes;
        entries_are = f.entries_are;
        outside = f.outside;
      }),
    )

pub returns-clause-new : goal.returns-clause-new
returns-clause-new g c =
    let made = c.in_ok-cluster.ensures in
    let seated = c.seat_all-all.ensures in
    record {
      all = seated.all ∙ made.chairs.all;
      each =
          λ p m at. let x = seated.each p m at in
          x.is ∙ ap (λ (l : ChairLockId). new_local l p c.args.shape) (made.chairs.each p x.chair x.at).lock_is
          ∙ ap (λ (s : Sizes). new_local c.in_ok-cluster.cluster.lock p s) (sym made.sizes);
    }

pub returns-clause-covers : goal.returns-clause-covers
returns-clause-covers g c =
    starting_processors_covered c.in_ok-cluster.cluster c.seat_all-all.result.items
    (subst AreSoundSizes (sym c.in_ok-cluster.ensures.sizes) c.requires.sizes) (returns-clause-new g c)
