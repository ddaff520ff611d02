use Rattle.std.proofs.Common.{None, Option, List, slice_set, ap, ◌∙◌}
use Rattle.std.specs.Option.{option_map}
use Rattle.std.proofs.lemmas.List.{map-set}
use Rattle.transit.specs.Letters.{Letter, letter}
use Rattle.transit.proofs.transit.Transit.take.Goals as goal

pub returns-clause-after : goal.returns-clause-after
returns-clause-after c =
    let taken = map-set (option_map letter) c.self.inside.messages.items c.args.p None
    ∙ ap (λ (ms : List (Option Letter)). slice_set ms c.args.p None) c.self.view_is in
    rw c.take.ensures.after taken
