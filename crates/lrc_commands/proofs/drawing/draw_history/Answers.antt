use Rattle.std.proofs.Common.{◌-◌, ap, length, subst, sym}
use Rattle.judge.specs.declared.sizes.Sizes.{Sizes}
use Rattle.lrc_picture.specs.Arrows.{AreArrowPlaces}
use Rattle.lrc_commands.proofs.DrawnHistories.{drawn_history_of_left}
use Rattle.lrc_commands.proofs.drawing.draw_history.Goals as goal

pub draw_story-requires : goal.draw_story-requires
draw_story-requires g c =
    let h = c.args.drawn.now.history.now in
    record {
      drawn = drawn_history_of_left h c.left.ensures.value (ap (λ (s : Sizes). s.processors) c.sizes.ensures.value) c.left.ensures.few
          c.left.ensures.few_processors c.left.ensures.processors
          (subst (AreArrowPlaces (length h.events - h.opening)) (sym c.deref.ensures.value) c.in_ok-arrows.ensures);
    }
