use Rattle.std.proofs.Common.{◌≡◌, refl, subst, sym}
use Rattle.std.specs.Prelude.{Bool, ◌||◌}
use Rattle.lrc_options.proofs.command_line.command_line_wants_picture.Goals as goal

pub returns-then-svg : goal.returns-then-svg
returns-then-svg c =
    let page : Bool = c.command_line_wants_page-page.result in (
      c.command_line_wants_svg-svg.result,
      page,
      c.command_line_wants_svg-svg.ensures,
      c.command_line_wants_page-page.ensures,
      subst (λ svg. svg ≡ (svg || page)) (sym c.if-svg.true) refl,
    )

pub returns-else-svg : goal.returns-else-svg
returns-else-svg c =
    let page : Bool = c.command_line_wants_page-page.result in (
      c.command_line_wants_svg-svg.result,
      page,
      c.command_line_wants_svg-svg.ensures,
      c.command_line_wants_page-page.ensures,
      subst (λ svg. page ≡ (svg || page)) (sym c.if-svg.false) refl,
    )
