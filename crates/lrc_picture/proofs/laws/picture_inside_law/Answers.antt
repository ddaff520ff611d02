use Rattle.std.proofs.Common.{◌≤◌, ◌<◌, ◌+◌, ℕ, List, length, slice_index_or, ap, arith}
use Rattle.std.proofs.Math.Nat.{mul-le-mul_left}
use Rattle.std.proofs.lemmas.Option.{slice_get-get_or, slice_get_within}
use Rattle.journal.specs.declared.event.Event.{Event}
use Rattle.journal.specs.declared.event.Kind.TheVariants.{Load}
use Rattle.journal.specs.DidEvent.{event}
use Rattle.lrc_picture.specs.declared.marks.Mark.{Mark}
use Rattle.lrc_picture.proofs.laws.picture_inside_law.Goals as goal

-- the event at this place
abbrev here : List Event → ℕ → Event
here events place = slice_index_or events place (event 0 (Load 0 0))

pub returns : goal.returns
returns c = λ n j l k m processors layout there.
    let within : k < length l.marks.items = slice_get_within l.marks.items k m there in
    let long = layout.marks.long in
    let short : k < length j = omega arith in
    let at = slice_get-get_or j k (event 0 (Load 0 0)) short in
    let lane = processors k (here j k) at in
    let lanes = layout.grid.lanes in
    let next : (here j k).processor + 1 ≤ l.grid.lanes = omega arith in
    let is = layout.marks.each k m there (here j k) at in
    let x = ap (λ (m : Mark). m.at.x) is in
    let y = ap (λ (m : Mark). m.at.y) is in
    let rows = layout.grid.rows in
    record { across = omega (arith, x, mul-le-mul_left l.grid.step next); down = omega (arith, y) }
