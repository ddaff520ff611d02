use Rattle.std.proofs.Common.{rules, ◌≡◌, ◌<◌, ◌++◌, [], ◌∷◌, length, arith}
use Rattle.std.proofs.lemmas.Grind.{common_steps}
use Rattle.lrc_run.proofs.DrawnPlaces.{drawn_order_pushed_below}
use Rattle.lrc_run.proofs.steps.pace.Pace.go_on.Goals as goal

pub returns-in_ok-map_err-clause-below : goal.returns-in_ok-map_err-clause-below
returns-in_ok-map_err-clause-below c = λ n below.
    let xs = c.args.self.now.order.items in
    let left = c.remove-processor.new.self.items in
    let x = c.remove-processor.result in
    let within : c.args.place < length xs = omega (arith, c.requires.place, c.args.self.now.order.ok) in
    let pushed : c.push.new.self.items ≡ left ++ x ∷ [] = first_of (search rules, grind (arith, common_steps)) in
    drawn_order_pushed_below n xs left c.push.new.self.items c.args.place x within c.remove-processor.ensures.by_index.2
    c.remove-processor.ensures.value pushed below
