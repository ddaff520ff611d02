use Rattle.std.proofs.Common.{◌∷◌, ℕ, [], List, Option, Some, append-nil, slice_index_or, subst, sym, arith}
use Rattle.std.proofs.lemmas.Grind.{elements}
use Rattle.lrc_script.specs.Plan.{plan_of}
use Rattle.lrc_run.specs.DrawnOrders.{drawn_order_chosen}
use Rattle.lrc_run.specs.RunTurns.{AreRunTurnsTaken}
use Rattle.lrc_run.proofs.TurnWays.{turn_ways_taken-append}
use Rattle.lrc_run.proofs.steps.drawn.go_on.Goals as goal

pub returns-in_ok-note_drawn_step-in-Some-clause-taken : goal.returns-in_ok-note_drawn_step-in-Some-clause-taken
returns-in_ok-note_drawn_step-in-Some-clause-taken g c = λ first start was.
    let sections = (plan_of c.args.script.now).sections in
    let turns = c.args.turns.now.items in
    let order = c.args.pace.now.order.items in
    let cur = c.args.processors.now.items in
    let new = c.first_on.new.processors.items in
    let all = c.args.all.now.items in
    let end = c.first_on.new.all.items in
    let place = c.in-Some.place in
    let P : Option ℕ → Type 0 = λ o. AreRunTurnsTaken sections (drawn_order_chosen c.deref.result.now o) cur new all end in
    let Q : List ℕ → Type 0 = λ os. AreRunTurnsTaken sections (drawn_order_chosen os (Some place)) cur new all end in
    let one = subst Q c.deref.ensures.value (subst P c.in-Some.is c.in_ok-place.ensures.taken) in
    let R : List ℕ → Type 0 = λ ps. AreRunTurnsTaken sections ps first new start end in
    subst R (sym c.in_ok-note_drawn_step-in-Some.ensures.turns)
    (turn_ways_taken-append sections turns (slice_index_or order place 0 ∷ []) first cur new start all end was one)

pub returns-in-None-clause-taken : goal.returns-in-None-clause-taken
returns-in-None-clause-taken g c = λ first start was.
    let sections = (plan_of c.args.script.now).sections in
    let turns = c.args.turns.now.items in
    let cur = c.args.processors.now.items in
    let new = c.first_on.new.processors.items in
    let all = c.args.all.now.items in
    let end = c.first_on.new.all.items in
    let P : Option ℕ → Type 0 = λ o. AreRunTurnsTaken sections (drawn_order_chosen c.deref.result.now o) cur new all end in
    let none = subst P c.in-None.is c.in_ok-place.ensures.taken in
    let R : List ℕ → Type 0 = λ ps. AreRunTurnsTaken sections ps first new start end in
    subst R (append-nil turns) (turn_ways_taken-append sections turns [] first cur new start all end was none)

pub have_arrived-requires : goal.have_arrived-requires
have_arrived-requires g c = grind (arith, elements)
